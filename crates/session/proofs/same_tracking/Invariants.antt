-- Invariant: the pages before are alike.
use Rattle.session.specs.Alike.{TrackedAlike}
use Rattle.session.proofs.same_tracking.Given as goal

abbrev pub invariant-loop-page : goal.invariant-loop-page
invariant-loop-page l = TrackedAlike l.page l.one.flags.now l.one.records.now l.two.flags.now l.two.records.now
