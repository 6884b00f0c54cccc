-- Invariant: the records that are left say, after what was said before them, what all do.
use Rattle.recordfile.specs.Reader.{left}
use Rattle.recordfile.specs.Records.{records_in}
use Rattle.listing.proofs.Covered.{Saying}
use Rattle.listing.proofs.pages.said_of.Given as goal

abbrev pub invariant-loop-entry : goal.invariant-loop-entry
invariant-loop-entry l = Saying (records_in l.file) l.page.number l.said (left l.entry-iterator)
