-- Invariant: the pages passed are counted.
use Rattle.recordfile.specs.Records.{records_in}
use Rattle.listing.proofs.Counted.{Tally}
use Rattle.listing.proofs.pages.Picture.count_pages.Given as goal

abbrev pub invariant-loop-number : goal.invariant-loop-number
invariant-loop-number l = Tally (records_in l.self.file.now) l.self.pages l.counts.dirty l.counts.source l.counts.none l.number
