-- The source runs that are left, from their record on, make all of them.
use Rattle.std.proofs.Common.{rules, arith, ◌∙◌, ◌≡◌, ◌+◌, inl, inr}
use Rattle.snapshot.proofs.Files.{sources_first, source_start, source_size, sources_next, sources_none, sources_done}
use Rattle.snapshot.proofs.make.write_sources.Goals as goal

pub loop-at-init : goal.loop-at-init
loop-at-init c =
    let z = c.zip-at-items.ensures in
    rw (c.into_iter-at-iterator.ensures.into_iter_gives, z.first, z.second, c.new.ensures.pages, c.new.ensures.first)
    (record { end = search rules; writing = sources_first _ _ _ _ _ c.requires.count c.requires.room })

pub overflow_mul-run : goal.overflow_mul-run
overflow_mul-run c = search (rules, source_start, c.loop-at.invariant.writing, c.in-Some.ensures.steps.1)

pub overflow_mul-run-in-loop-at : goal.overflow_mul-run-in-loop-at
overflow_mul-run-in-loop-at c = search (rules, source_size, c.loop-at.invariant.writing, c.in-Some.ensures.steps.1)

pub loop-at-preserved : goal.loop-at-preserved
loop-at-preserved c =
    let s = c.in-Some.ensures.steps in
    let k : c.next.new.self.a.start ≡ c.loop-at.at-iterator.a.start + 1 = search (rules, s.0) in
    let a : c.in-Some.at ≡ c.loop-at.at-iterator.a.start = search (rules, s.0) in
    record {
      end = s.0.0 ∙ c.loop-at.invariant.end;
      writing = rw k (sources_next c.loop-at.invariant.writing c.in-Some.run' _ s.1 _ (rw a at c.encode.ensures));
    }

pub returns : goal.returns
returns c =
    elim c.in-None.ensures.steps [
      | inl s ↦ sources_done c.loop-at.invariant.writing (omega (arith, s.1, c.loop-at.invariant.end))
      | inr s ↦ sources_none c.loop-at.invariant.writing s.1.0
    ]
