-- The actions from the next one on decide.
use Rattle.std.proofs.Common.{rules, refl, ◌≡◌, ◌+◌, ◌∙◌, length, [], ◌∷◌, ◌++◌, length-append}
use Rattle.memory.proofs.Refused.{refused}
use Rattle.tracking.proofs.Passed.{passed}
use Rattle.tracking.proofs.MarkProgram.{marking_next, marking_stop, marked_all, words-next}
use Rattle.tracking.proofs.storage.TrackedFlags.mark_actions.Goals as goal

pub returns-in_err-init_pages-clause-value : goal.returns-in_err-init_pages-clause-value
returns-in_err-init_pages-clause-value c =
    let a = c.args in
    let w = c.loop-words.invariant in
    let s = c.in-Some.ensures.steps in
    rw (passed c.from_residual.result c.from_residual.ensures.1) (marking_stop a.actions.now a.id a.offset _ _ _ w.going _ w.rest _ _ s.1.0 (s.1.1 ∙ w.size) _ c.action_in.ensures _ _ c.in_err-init_pages.ensures.value (refused _))

pub loop-words-preserved : goal.loop-words-preserved
loop-words-preserved c =
    let a = c.args in
    let w = c.loop-words.invariant in
    let s = c.in-Some.ensures.steps in
    let k = c.in_ok-init_pages.ensures in
    let n : length (c.loop-words.yielded ++ c.in-Some.words ∷ []) ≡ length c.loop-words.yielded + 1 = length-append _ _ in
    record {
      going = rw n (marking_next a.actions.now a.id a.offset _ _ _ w.going _ w.rest _ _ s.1.0 (s.1.1 ∙ w.size) _ c.action_in.ensures 0 _ k.value refl);
      rest = rw n (words-next a.actions.now a.id a.offset _ _ _ w.going _ w.rest _ _ s.1.0 (s.1.1 ∙ w.size) _ c.action_in.ensures 0 _ k.value);
      size = s.0 ∙ w.size;
      same = search rules;
    }

pub returns-clause-value : goal.returns-clause-value
returns-clause-value c =
    let a = c.args in
    let w = c.loop-words.invariant in
    let s = c.in-None.ensures.steps in
    marked_all a.actions.now a.id a.offset _ _ _ w.going _ w.rest (rw w.size at s.1.0)
