-- What a caller sees of a machine: its memory's view, where the bytes of each clean page come from, and its numbers.
use Rattle.std.specs.Prelude.{true, cond, ◌≡◌, ℕ, ◌+◌, ◌*◌, ◌/◌, length, eqb, ltb, leb}
use Rattle.bits.specs.Rounding.{page_size}
use Rattle.program.specs.Layers.{low, own, over, beside}
use Rattle.memory.specs.Pages.{dirty, cleared}
use Rattle.memory.specs.Operations.{or! }
use Rattle.memory.specs.View as memory
use Rattle.machine.specs.Fresh.{Tracked, LentMachine, record_words}
use Rattle.machine.specs.Numbers.{Numbers}
use Rattle.machine.specs.Operations as machine
use Rattle.tracking.specs.declared.records.Tracking.{Tracking}
use Rattle.tracking.specs.declared.records.Tracking.TheVariants as tracking
use Rattle.tracking.specs.Operations.{lengths?, entry?, track!, drop!, drop_all!, AnyOp, AnyReply, MachineOp, MachineReply, entry_in, masked, top}

-- ---- storage as our calls make it

-- well-formed memory, and a record for each page
pub record WellFormed (m : Tracked) : Type 0 where
  pub memory : memory.WellFormed m.0
  pub records_are : length m.1 ≡ record_words * length m.0.flags

-- the same with a slot for every page: the domain of the theorems on what is seen
pub record Whole (m : Tracked) : Type 0 where
  pub memory : memory.Whole m.0
  pub records_are : length m.1 ≡ record_words * length m.0.flags

-- ---- the view

pub record View : Type 0 where
  pub memory : memory.View
  -- the source entry of a page; "The record of a dirty page is no part of any call's answer."
  pub entry : ℕ → Tracking

abbrev pub view : Tracked → View
view m = record { memory = memory.view m.0; entry = entry_in m.0.flags m.1 }

-- what was done to the memory, and with it to what is seen of the records
abbrev pub remasked : {A : Type 0} → View → A × memory.View → A × View
remasked v r = (r.0, record { memory = r.1; entry = λ p. masked (r.1.flag p) (v.entry p) })

-- a page's entry made t
unfoldable pub entry_at : (ℕ → Tracking) → ℕ → Tracking → ℕ → Tracking
entry_at entry p t q = cond (eqb q p) t (entry q)

-- a page's flag without dirty, on the view
abbrev pub clean_v : View → ℕ → ℕ
clean_v v p = cleared (v.memory.flag p) dirty

abbrev pub tracked_v : View → ℕ → ℕ → ℕ → View
tracked_v v p id offset =
    record {
      memory = memory.flagged v.memory p (clean_v v p);
      entry = entry_at v.entry p (tracking.Tracked id offset (clean_v v p));
    }

abbrev pub does_v : (o : AnyOp) → View → AnyReply o × View
does_v (low o) v = remasked v (memory.does_v o v.memory)
does_v (own lengths?) v = (true, v)
does_v (own (entry? p)) v = (v.entry p, v)
does_v (own (track! p id offset)) v =
    cond (ltb p (v.memory.size / page_size))
    (cond (leb (offset + page_size) top) (0, tracked_v v p id offset) (2, v))
    (2, v)
-- to drop a record is, seen from outside, to set the dirty flag
does_v (own (drop! p)) v = remasked v (memory.does_v (or! p dirty) v.memory)
does_v (own drop_all!) v = (0, record { memory = v.memory; entry = λ p. tracking.Untracked })

-- a flag cleared, on the view: of a clear that leaves dirty as it is
abbrev pub clear_flag_v : ℕ → ℕ → View → ℕ × View
clear_flag_v p f v = remasked v (memory.clear_flag_v p f v.memory)

-- ---- with the machine's numbers

abbrev pub MachineView : Type 0
MachineView = View × Numbers

abbrev pub view_machine : LentMachine → MachineView
view_machine m = (view m.0, m.1)

abbrev pub FormedMachine : LentMachine → Type 0
FormedMachine m = WellFormed m.0

abbrev pub WholeMachine : LentMachine → Type 0
WholeMachine m = Whole m.0

abbrev pub machine_does_v : (o : MachineOp) → MachineView → MachineReply o × MachineView
machine_does_v = over does_v (beside machine.does)
