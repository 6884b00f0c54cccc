-- A call on a machine's memory, a call of tracking and a call on its numbers, as calls on the whole machine: what each promises of
-- its part is what the machine's program comes to.
use Rattle.std.proofs.Common.{◌≡◌, ℕ, List, ap, ◌∙◌}
use Rattle.program.specs.Program.{run, perform}
use Rattle.program.specs.Layers.{own, beside, lift}
use Rattle.program.proofs.Lifted.{lifted}
use Rattle.memory.specs.declared.Memory.{Memory}
use Rattle.memory.specs.Storage.{state_of}
use Rattle.memory.specs.Operations as memory
use Rattle.machine.specs.declared.Machine.{Machine}
use Rattle.machine.specs.Numbers.{Numbers, numbers_of, machine_of}
use Rattle.machine.specs.Fresh.{LentMachine}
use Rattle.machine.specs.Operations as machine
use Rattle.tracking.specs.Operations.{Call, owns, does, on_memory, machine_does}
use Rattle.tracking.specs.Answers.{tracked_of}

-- a machine by value, with what is lent to it
abbrev pub lent_of : List ℕ → List ℕ → List ℕ → List ℕ → Machine → LentMachine
lent_of slots flags area records m = (tracked_of slots flags area records m.memory, numbers_of m)

module _ (slots flags area records : List ℕ) (m : Machine) where
  -- a call of tracking that was given the machine's memory answered x and left these lists and this memory, which `with_memory`
  -- has put into the machine
  pub on_tracked : {A : Type 0} (g : Call A) (x : A) (slots₂ flags₂ area₂ records₂ : List ℕ) (memory₂ : Memory) (m₂ : Machine)
      → (x, tracked_of slots₂ flags₂ area₂ records₂ memory₂) ≡ run does g (tracked_of slots flags area records m.memory)
      → m₂ ≡ machine_of (numbers_of m) memory₂
      → (x, lent_of slots₂ flags₂ area₂ records₂ m₂) ≡ run machine_does (lift g) (lent_of slots flags area records m)
  on_tracked {A} g x slots₂ flags₂ area₂ records₂ memory₂ m₂ e w =
      ap {B = A × LentMachine} (λ (n : Machine). (x, lent_of slots₂ flags₂ area₂ records₂ n)) w
      ∙ lifted does (beside machine.does) g _ (numbers_of m) x (tracked_of slots₂ flags₂ area₂ records₂ memory₂) e

  -- a call on the memory likewise; the records stay
  pub memory_call : {A : Type 0} (g : memory.Call A) (x : A) (slots₂ flags₂ area₂ : List ℕ) (memory₂ : Memory) (m₂ : Machine)
      → (x, state_of slots₂ flags₂ area₂ memory₂) ≡ run memory.does g (state_of slots flags area m.memory)
      → m₂ ≡ machine_of (numbers_of m) memory₂
      → (x, lent_of slots₂ flags₂ area₂ records m₂) ≡ run machine_does (lift (on_memory g)) (lent_of slots flags area records m)
  memory_call g x slots₂ flags₂ area₂ memory₂ m₂ e w =
      on_tracked (on_memory g) x slots₂ flags₂ area₂ records memory₂ m₂
      (lifted memory.does owns g _ records x (state_of slots₂ flags₂ area₂ memory₂) e)
      w

  -- a call on the machine's numbers; what is lent stays
  pub numbers_call : (o : machine.Op) (x : machine.Reply o) (m₂ : Machine) (n : Numbers) → (x, n) ≡ machine.does o (numbers_of m)
      → m₂ ≡ machine_of n m.memory
      → (x, lent_of slots flags area records m₂) ≡ run machine_does (perform (own o)) (lent_of slots flags area records m)
  unfolding run
  numbers_call o x m₂ n e w =
      ap {B = machine.Reply o × LentMachine} (λ (k : Machine). (x, lent_of slots flags area records k)) w
      ∙ ap {B = machine.Reply o × LentMachine}
      (λ (r : machine.Reply o × Numbers). (r.0, (tracked_of slots flags area records m.memory, r.1)))
      e
