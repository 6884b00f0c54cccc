-- One page or two: each refuses or is met, and then the number in the bytes is read.
use Rattle.std.proofs.Common.{rules, refl, true, false}
use Rattle.memory.proofs.Refused.{refused, passed_on}
use Rattle.memory.proofs.Loads.{load-stop, load-absent, load-there, load-second, load_end, load-zeros}
use Rattle.memory.proofs.Memory.load_over.Goals as goal

pub returns-in_err-meet : goal.returns-in_err-meet
returns-in_err-meet c =
    rw (passed_on c.from_residual.ensures.1) (load-stop _ _ _ _ false (search rules) (search rules) c.in_err-meet.ensures (refused _) refl)

pub returns-then-slot-eq-INVALID_PAGE_INDEX : goal.returns-then-slot-eq-INVALID_PAGE_INDEX
returns-then-slot-eq-INVALID_PAGE_INDEX c = let k = c.in_ok-meet.ensures in load-absent _ _ _ 0 true (search rules) (search rules) k refl refl (search rules) _ c.slot_of-slot.ensures.value (search rules)

pub returns-then-at-n-le-RISCV_PAGESIZE : goal.returns-then-at-n-le-RISCV_PAGESIZE
returns-then-at-n-le-RISCV_PAGESIZE c = let k = c.in_ok-meet.ensures in load-there _ _ _ 0 true (search rules) (search rules) k refl refl (search rules) _ c.slot_of-slot.ensures.value (search rules) c.requires.fitting _ (search rules)

pub returns-in_err-meet-2 : goal.returns-in_err-meet-2
returns-in_err-meet-2 c = let a = c.in_ok-meet.ensures in
    rw (passed_on c.from_residual-in_err-meet-2.ensures.1) (load-second _ _ _ 0 true (search rules) (search rules) a refl refl (search rules) _ false c.in_err-meet-2.ensures (refused _) refl)

pub load_pages-requires-clause-n_bound : goal.load_pages-requires-clause-n_bound
load_pages-requires-clause-n_bound c = let k = c.in_ok-meet-2.ensures in load_end _ _ _ _ _ _ 0 true c.requires.fitting (search rules) k refl refl

pub returns : goal.returns
returns c = let k = c.in_ok-meet.ensures in let q = c.in_ok-meet-2.ensures in load-zeros _ _ _ 0 true (search rules) (search rules) k refl refl (search rules) 0 true q refl refl _ _ c.load_pages.ensures c.from_le_bytes.ensures
