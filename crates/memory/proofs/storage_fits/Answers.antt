-- Each refusal contradicts one of the lengths that are asked.
use Rattle.std.proofs.Common.{sym, arith}
use Rattle.memory.proofs.Lengths.{fits-yes, fits_not}
use Rattle.memory.proofs.storage_fits.Goals as goal

pub returns-then-size-ne0 : goal.returns-then-size-ne0
returns-then-size-ne0 c = fits_not _ _ _ _ (λ f. omega arith)

pub returns-then-size-gt-RISCV_MAX_MEMORY : goal.returns-then-size-gt-RISCV_MAX_MEMORY
returns-then-size-gt-RISCV_MAX_MEMORY c = fits_not _ _ _ _ (λ f. omega arith)

pub returns-then-slots-pages : goal.returns-then-slots-pages
returns-then-slots-pages c = fits_not _ _ _ _ (λ f. omega arith)

pub returns-then-flags-pages : goal.returns-then-flags-pages
returns-then-flags-pages c = fits_not _ _ _ _ (λ f. omega arith)

pub returns-then-area-ne0 : goal.returns-then-area-ne0
returns-then-area-ne0 c = fits_not _ _ _ _ (λ f. omega arith)

pub returns-then-room-gt-MOST_SLOTS : goal.returns-then-room-gt-MOST_SLOTS
returns-then-room-gt-MOST_SLOTS c = fits_not _ _ _ _ (λ f. omega arith)

pub returns-then-used-room : goal.returns-then-used-room
returns-then-used-room c = fits_not _ _ _ _ (λ f. omega arith)

pub returns : goal.returns
returns c = sym (fits-yes _ _ _ _ (omega arith))
