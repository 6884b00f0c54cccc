-- The marks joined so far tell whether the pages passed are untracked.
use Rattle.snapshot.proofs.Groups.{Low}
use Rattle.snapshot.proofs.runs.SourcePagesPages.none_in.Given as goal

abbrev pub invariant-loop-next : goal.invariant-loop-next
invariant-loop-next l = Low l.self.flags.now l.self.records.now l.page l.marks l.next
