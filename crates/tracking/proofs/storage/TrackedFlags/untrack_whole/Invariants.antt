-- Invariant: the pages from `page` on, with what is lent as it is, come to what all come to with that at entry.
use Rattle.memory.specs.declared.Memory.{Memory}
use Rattle.tracking.specs.Answers.{tracked_flags, SameTrackedFlags}
use Rattle.tracking.proofs.UntrackPages.{Dropping}
use Rattle.tracking.proofs.storage.TrackedFlags.untrack_whole.Given as goal

abbrev pub invariant-loop-page : goal.invariant-loop-page
invariant-loop-page l = record {
  going : (m : Memory) → Dropping (tracked_flags l.initial.self m) l.first l.last (tracked_flags l.self m) l.page;
  same : SameTrackedFlags l.initial.self l.self;
}
