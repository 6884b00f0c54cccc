-- The bytes before i were read, and what is left to read comes to the whole.
use Rattle.std.proofs.Common.{rules, refl, true, false}
use Rattle.memory.proofs.Refused.{refused, passed_on}
use Rattle.memory.proofs.Text.{text-stop, text-end, text-full, text_at, reading_more}
use Rattle.memory.proofs.Memory.load_text.Goals as goal

pub returns-in_err-meet : goal.returns-in_err-meet
returns-in_err-meet c =
    rw (passed_on c.from_residual.ensures.1) (text-stop c.loop-lent.invariant _ false c.in_err-meet.ensures (refused _) _ refl refl refl refl)

pub returns-then-byte-eq0 : goal.returns-then-byte-eq0
returns-then-byte-eq0 c = let k = c.in_ok-meet.ensures in text-end c.loop-lent.invariant 0 true k refl refl _ c.byte_at-byte.ensures _ refl refl refl (search rules)

pub returns-then-i-out : goal.returns-then-i-out
returns-then-i-out c = let k = c.in_ok-meet.ensures in text-full c.loop-lent.invariant 0 true k refl refl _ c.byte_at-byte.ensures _ refl refl refl (search rules) (search rules)

pub overflow_add-at : goal.overflow_add-at
overflow_add-at c = let k = c.in_ok-meet.ensures in let h = text_at c.loop-lent.invariant 0 true k refl refl _ _ _ c.requires in search rules

pub loop-lent-preserved : goal.loop-lent-preserved
loop-lent-preserved c = let k = c.in_ok-meet.ensures in reading_more c.loop-lent.invariant 0 true k refl refl _ c.byte_at-byte.ensures (search rules) (search rules)
