-- Invariant: the runs counted and those that are left come to all.
use Rattle.recordfile.specs.Reader.{left}
use Rattle.recordfile.specs.Records.{records_in}
use Rattle.listing.proofs.Counted.{Running}
use Rattle.listing.proofs.pages.Picture.count_partly.Given as goal

abbrev pub invariant-loop-entry : goal.invariant-loop-entry
invariant-loop-entry l = Running (records_in l.self.file.now) l.self.pages l.runs (left l.entry-iterator)
