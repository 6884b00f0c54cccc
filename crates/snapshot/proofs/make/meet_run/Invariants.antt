-- The pages passed are met, and what is left decides.
use Rattle.snapshot.proofs.Counting.{Meeting}
use Rattle.snapshot.proofs.make.meet_run.Given as goal

abbrev pub invariant-loop-page : goal.invariant-loop-page
invariant-loop-page l = Meeting l.slots l.used l.fn.run.page l.fn.run.pages l.page
