-- Which calls keep a machine sound: most do whatever they are given, and of the others this is what they need for it.
use Rattle.std.specs.Prelude.{List, ◌≢◌, ◌⊎◌, ◌≡◌, ℕ, ◌+◌, ◌-◌, ◌*◌, ◌/◌, ◌≤◌, ◌<◌, min, length}
use Rattle.std.specs.Int.Bits.{bit_and, bit_or}
use Rattle.bits.specs.Rounding.{page_size}
use Rattle.program.specs.Program.{run}
use Rattle.memory.specs.Pages.{dirty, cleared}
use Rattle.memory.specs.Operations as memory-op
use Rattle.memory.specs.WXorX as wxorx
use Rattle.memory.specs.Calls as memory
use Rattle.machine.specs.Fresh.{LentMachine}
use Rattle.tracking.specs.declared.records.Tracking.TheVariants.{Untracked}
use Rattle.tracking.specs.Tracking.{action_words, action_at}
use Rattle.handover.specs.View.{View, view}
use Rattle.handover.specs.Calls.{Named, round_page_up_call, round_page_down_call, get_page_indices_call, memory_call, numbers_call, load_data_call, track_pages_call, untrack_pages_call, store_bytes_call, mark_program_call, page_record_call, make_snapshot_call, resume, Given, named, clear_flag_call, fresh_call, Later}
use Rattle.handover.specs.Reached.{Typed}
use Rattle.handover.specs.Sound.{page_in, source_gives}

-- a flag that is changed directly: the page is dirty then, or the flag is as it was
abbrev pub NothingLost : ℕ → ℕ → Type 0
NothingLost before after = (bit_and after dirty ≢ 0) ⊎ (after ≡ before)

-- an item gives exactly the bytes of each whole page of so many bytes from a start on
abbrev pub SourceGives : List ℕ → List ℕ → View → ℕ → ℕ → ℕ → ℕ → Type 0
SourceGives directory sources v start size id offset =
    (p : ℕ) → start ≤ p * page_size → (p + 1) * page_size ≤ start + size → p < v.memory.size / page_size
    → source_gives directory sources id (offset + (p * page_size - start)) ≡ page_in v p

-- W^X init_pages that is refused 5 leaves "flags of earlier pages already set", and they are not dirty; set_flag sets a flag alone
abbrev pub KeepsMemory : LentMachine → memory.Named → Type 0
KeepsMemory m (memory.init_pages_call memory.on_sparse a size flags lead source) = Unit {0}
KeepsMemory m (memory.init_pages_call memory.on_wxorx a size flags lead source) =
    (run memory-op.does (wxorx.init_pages a size flags lead source) m.0.0).0 ≢ 5
KeepsMemory m (memory.fill_page_data_call a size lead source) = Unit {0}
KeepsMemory m (memory.fetch_flag_call p) = Unit {0}
KeepsMemory m (memory.set_flag_call p f) = NothingLost ((view m.0).memory.flag p) (bit_or ((view m.0).memory.flag p) f)
KeepsMemory m (memory.check_permission_call first last want) = Unit {0}
KeepsMemory m (memory.set_dirty_call first last) = Unit {0}
KeepsMemory m memory.memory_size_call = Unit {0}
KeepsMemory m memory.memory_pages_call = Unit {0}
KeepsMemory m (memory.store_byte_call l a n v) = Unit {0}
KeepsMemory m (memory.store_bytes_call l a bytes) = Unit {0}
KeepsMemory m (memory.store_wide_call l n a x) = Unit {0}
KeepsMemory m (memory.load_bytes_call a n out) = Unit {0}
KeepsMemory m (memory.load_wide_call n a) = Unit {0}
KeepsMemory m (memory.execute_load_call l n a) = Unit {0}
KeepsMemory m (memory.load_c_string_call a out) = Unit {0}
KeepsMemory m memory.get_lr_call = Unit {0}
KeepsMemory m (memory.set_lr_call x) = Unit {0}

module _ (directory sources : List ℕ) (m : LentMachine) where
  abbrev pub KeepsNamed : Named → Type 0
  KeepsNamed (round_page_up_call a) = Unit {0}
  KeepsNamed (round_page_down_call a) = Unit {0}
  KeepsNamed (get_page_indices_call a n) = Unit {0}
  KeepsNamed (memory_call c) = KeepsMemory m c
  KeepsNamed (numbers_call o) = Unit {0}
  KeepsNamed (load_data_call d s id offset wanted) = Unit {0}
  -- what is tracked is what the source gives
  KeepsNamed (track_pages_call start size id offset) = SourceGives directory sources (view m.0) start size id offset
  KeepsNamed (untrack_pages_call start size) = Unit {0}
  -- a context store from the same sources
  KeepsNamed (store_bytes_call d s a id offset wanted size_at) = (d ≡ directory) × (s ≡ sources)
  KeepsNamed (mark_program_call actions id offset) =
      (i : ℕ) → i < length actions / action_words
      → SourceGives directory sources (view m.0) ((action_at actions i).addr + (action_at actions i).lead)
      (min ((action_at actions i).end - (action_at actions i).start) ((action_at actions i).size - (action_at actions i).lead))
      id
      (offset + (action_at actions i).start)
  KeepsNamed (page_record_call p) = Unit {0}
  KeepsNamed (make_snapshot_call file pages) = Unit {0}
  -- a resume from the same sources, of any files, where no clean page is tracked: it drops all tracking first
  KeepsNamed (resume d s file page_file) = (d ≡ directory) × (s ≡ sources) × ((p : ℕ) → (view m.0).entry p ≡ Untracked)

  abbrev pub Keeps : Given → Type 0
  Keeps (named c) = KeepsNamed c
  Keeps (clear_flag_call p f) = NothingLost ((view m.0).memory.flag p) (cleared ((view m.0).memory.flag p) f)
  Keeps (fresh_call size version maximum) = Unit {0}

-- a call that keeps every machine sound: what a host may do without a thought
abbrev pub Usual : List ℕ → List ℕ → Given → Type 0
Usual directory sources g = Later g × Typed g × ((m : LentMachine) → Keeps directory sources m g)
