-- Invariant: the pages passed are counted.
use Rattle.std.proofs.Common.{rules, arith}
use Rattle.listing.proofs.Counted.{tally_none, tally_next}
use Rattle.listing.proofs.pages.Picture.count_pages.Goals as goal
use Rattle.listing.proofs.pages.Picture.count_pages.Goals.{in-Dirty, in-Source, in-LeftOut}

pub loop-number-init : goal.loop-number-init
loop-number-init c = search (rules, tally_none)

pub loop-number-preserved : goal.loop-number-preserved
loop-number-preserved c =
    let next = tally_next _ _ _ _ _ _ c.loop-number.invariant c.loop-number-test.true _ c.said_of.ensures in
    elim c.match-said_of.branch [
      | in-Dirty w ↦ rw w.counts-is (next _ _ _ (rw w.in-Dirty.is (omega arith)) (rw w.in-Dirty.is (omega arith)) (rw w.in-Dirty.is (omega arith)))
      | in-Source w ↦ rw w.counts-is (next _ _ _ (rw w.in-Source.is (omega arith)) (rw w.in-Source.is (omega arith)) (rw w.in-Source.is (omega arith)))
      | in-LeftOut w ↦ rw w.counts-is (next _ _ _ (rw w.in-LeftOut.is (omega arith)) (rw w.in-LeftOut.is (omega arith)) (rw w.in-LeftOut.is (omega arith)))
    ]
