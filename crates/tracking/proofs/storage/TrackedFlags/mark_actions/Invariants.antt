-- Invariant: the actions that are left, with what is lent as it is, come to what all come to with that at entry.
use Rattle.std.proofs.Common.{◌≡◌, ◌*◌, length, drop}
use Rattle.tracking.specs.Tracking.{action_words}
use Rattle.tracking.specs.Answers.{tracked_flags, SameTrackedFlags}
use Rattle.tracking.proofs.MarkProgram.{Marking}
use Rattle.tracking.proofs.storage.TrackedFlags.mark_actions.Given as goal

abbrev pub invariant-loop-words : goal.invariant-loop-words
invariant-loop-words l = record {
  going : Marking l.actions l.id l.offset (tracked_flags l.initial.self l.memory) (tracked_flags l.self l.memory) (length l.yielded);
  rest : l.words-iterator.rest.now ≡ drop (length l.yielded * action_words) l.actions;
  size : l.words-iterator.size ≡ action_words;
  same : SameTrackedFlags l.initial.self l.self;
}
