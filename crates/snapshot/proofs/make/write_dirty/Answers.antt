-- The runs that are left, from their record and their page on, make both files.
use Rattle.std.proofs.Common.{rules, arith, ◌∙◌, ◌≡◌, ◌+◌, inl, inr}
use Rattle.snapshot.proofs.Files.{dirty_first, dirty_in_slots, dirty_some, dirty_met, dirty_pages, dirty_next, dirty_none, pages_none, dirty_done, pages_done}
use Rattle.snapshot.proofs.make.write_dirty.Goals as goal

pub loop-at-init : goal.loop-at-init
loop-at-init c =
    let z = c.zip-at-items.ensures in
    rw (c.into_iter-at-iterator.ensures.into_iter_gives, z.first, z.second, c.new-runs.ensures.pages, c.new-runs.ensures.first)
    (record {
      end = search rules;
      writing = dirty_first _ _ _ _ _ _ _ _ c.requires.meet c.requires.count c.requires.file_holds c.requires.pages_hold;
      same = search rules;
    })

pub write_run-requires-clause-within : goal.write_run-requires-clause-within
write_run-requires-clause-within c = dirty_in_slots c.loop-at.invariant.writing c.in-Some.run' _ c.in-Some.ensures.steps.1 c.requires.fitting

pub write_run-requires-clause-some : goal.write_run-requires-clause-some
write_run-requires-clause-some c = dirty_some c.loop-at.invariant.writing c.in-Some.run' _ c.in-Some.ensures.steps.1

pub write_run-requires-clause-meet : goal.write_run-requires-clause-meet
write_run-requires-clause-meet c = dirty_met c.loop-at.invariant.writing c.in-Some.run' _ c.in-Some.ensures.steps.1

pub write_run-requires-clause-pages_hold : goal.write_run-requires-clause-pages_hold
write_run-requires-clause-pages_hold c = dirty_pages c.loop-at.invariant.writing c.in-Some.run' _ c.in-Some.ensures.steps.1

pub overflow_add-place : goal.overflow_add-place
overflow_add-place c = omega (arith, dirty_pages c.loop-at.invariant.writing c.in-Some.run' _ c.in-Some.ensures.steps.1)

pub loop-at-preserved : goal.loop-at-preserved
loop-at-preserved c =
    let s = c.in-Some.ensures.steps in
    let k : c.next.new.self.a.start ≡ c.loop-at.at-iterator.a.start + 1 = search (rules, s.0) in
    let a : c.in-Some.at ≡ c.loop-at.at-iterator.a.start = search (rules, s.0) in
    record {
      end = s.0.0 ∙ c.loop-at.invariant.end;
      writing =
          rw k
          (dirty_next c.loop-at.invariant.writing c.in-Some.run' _ s.1 _ _ (rw a at c.write_run.ensures.file) c.write_run.ensures.pages);
      same = search rules;
    }

pub returns-clause-file : goal.returns-clause-file
returns-clause-file c =
    elim c.in-None.ensures.steps [
      | inl s ↦ dirty_done c.loop-at.invariant.writing (omega (arith, s.1, c.loop-at.invariant.end))
      | inr s ↦ dirty_none c.loop-at.invariant.writing s.1.0
    ]

pub returns-clause-pages : goal.returns-clause-pages
returns-clause-pages c =
    elim c.in-None.ensures.steps [
      | inl s ↦ pages_done c.loop-at.invariant.writing (omega (arith, s.1, c.loop-at.invariant.end))
      | inr s ↦ pages_none c.loop-at.invariant.writing s.1.0
    ]
