-- Each refusal contradicts one of the bounds.
use Rattle.std.proofs.Common.{arith}
use Rattle.memory.proofs.WriteOrExecute.{bounds_uneven, bounds_past, bounds_kept}
use Rattle.memory.proofs.layer.check_bounds.Goals as goal

pub returns-then-round_page_down-address : goal.returns-then-round_page_down-address
returns-then-round_page_down-address c = bounds_uneven _ _ _ _ (λ e f. omega arith)

pub returns-then-round_page_up-size : goal.returns-then-round_page_up-size
returns-then-round_page_up-size c = bounds_uneven _ _ _ _ (λ e f. omega arith)

pub returns-then-address-bound : goal.returns-then-address-bound
returns-then-address-bound c = bounds_past _ _ _ _ (omega arith) (omega arith) (λ h l. omega arith)

pub returns-then-size-bound : goal.returns-then-size-bound
returns-then-size-bound c = bounds_past _ _ _ _ (omega arith) (omega arith) (λ h l. omega arith)

pub returns-then-address-size : goal.returns-then-address-size
returns-then-address-size c = bounds_past _ _ _ _ (omega arith) (omega arith) (λ h l. omega arith)

pub returns-then-lead-size : goal.returns-then-lead-size
returns-then-lead-size c = bounds_past _ _ _ _ (omega arith) (omega arith) (λ h l. omega arith)

pub returns : goal.returns
returns c = bounds_kept _ _ _ _ (omega arith) (omega arith) (omega arith) (omega arith)
