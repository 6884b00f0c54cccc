-- Invariant: the pages that are left, with what is lent as it is, come to what all come to with that at entry; `at` is the offset of the next.
use Rattle.std.proofs.Common.{◌≡◌, ◌+◌, ◌-◌, ◌*◌}
use Rattle.bits.specs.Rounding.{page_size}
use Rattle.memory.specs.declared.Memory.{Memory}
use Rattle.tracking.specs.Answers.{tracked_flags, SameTrackedFlags}
use Rattle.tracking.proofs.TrackPages.{Going}
use Rattle.tracking.proofs.storage.TrackedFlags.track_whole.Given as goal

abbrev pub invariant-loop-page : goal.invariant-loop-page
invariant-loop-page l = record {
  going : (m : Memory) → Going (tracked_flags l.initial.self m) l.first l.count l.id l.offset (tracked_flags l.self m) l.page;
  place : l.at ≡ l.offset + (l.page - l.first) * page_size;
  same : SameTrackedFlags l.initial.self l.self;
}
