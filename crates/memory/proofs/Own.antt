-- The calls that are lent no storage: what they promise of the memory's numbers is what their programs come to on any storage.
use Rattle.std.proofs.Common.{◌≡◌, ℕ, ◌/◌, List, refl}
use Rattle.bits.specs.Rounding.{page_size}
use Rattle.program.specs.Program.{run}
use Rattle.memory.specs.declared.Memory.{Memory}
use Rattle.memory.specs.Storage.{state_of, reserved}
use Rattle.memory.specs.Operations.{does}
use Rattle.memory.specs.Sparse.{memory_size, memory_pages, lr, set_lr}

module _ (slots flags area : List ℕ) (m : Memory) where
  pub memory-size-run : (m.size, state_of slots flags area m) ≡ run does memory_size (state_of slots flags area m)
  unfolding run memory_size
  memory-size-run = refl

  pub memory-pages-run : (m.size / page_size, state_of slots flags area m) ≡ run does memory_pages (state_of slots flags area m)
  unfolding run memory_pages
  memory-pages-run = refl

  pub lr-run : (m.reservation, state_of slots flags area m) ≡ run does lr (state_of slots flags area m)
  unfolding run lr
  lr-run = refl

  pub set-lr-run : (x : ℕ) → (0, state_of slots flags area (reserved m x)) ≡ run does (set_lr x) (state_of slots flags area m)
  unfolding run set_lr
  set-lr-run x = refl
