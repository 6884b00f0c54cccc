-- The theorem speaks of something: every stopped machine has a fresh host and outputs, and so is handed over; every call but fresh and
-- a clear of dirty is among the further calls; and the calls that always keep a machine sound are those that docs/THEOREM.md lists.
use Rattle.std.specs.Prelude.{List, ◌≢◌, ◌≡◌, ℕ, ◌<◌}
use Rattle.std.specs.Int.Bits.{bit_and}
use Rattle.memory.specs.Pages.{dirty}
use Rattle.memory.specs.Calls as memory
use Rattle.machine.specs.Fresh.{LentMachine}
use Rattle.machine.specs.Operations as machine
use Rattle.recordfile.specs.Records.{flag_values}
use Rattle.recordfile.specs.Snapshots.{Word}
use Rattle.handover.specs.Calls.{Named, round_page_up_call, round_page_down_call, get_page_indices_call, memory_call, numbers_call, load_data_call, untrack_pages_call, store_bytes_call, page_record_call, make_snapshot_call, named, clear_flag_call, Careful}
use Rattle.handover.specs.Reached.{TypedNumbers}
use Rattle.handover.specs.Keeping.{Usual}
use Rattle.handover.specs.Hosts.{Stopped, FreshHost, LongEnough}
use Rattle.handover.specs.Theorem.{HandedOver}

-- a stopped machine, handed over
pub record Somewhere (directory sources : List ℕ) (m : LentMachine) : Type 0 where
  pub second : LentMachine
  pub file : List ℕ
  pub pages : List ℕ
  pub fresh_host : FreshHost m second
  pub long_enough : LongEnough m file pages
  pub handed : HandedOver directory sources m second file pages

-- the calls that always keep a machine sound
pub record Always (directory sources : List ℕ) : Type 0 where
  pub round_up : (a : ℕ) → Usual directory sources (named (round_page_up_call a))
  pub round_down : (a : ℕ) → Usual directory sources (named (round_page_down_call a))
  pub the_page_indices : (a n : ℕ) → Usual directory sources (named (get_page_indices_call a n))
  pub sparse_init : (a size flags lead : ℕ) (source : List ℕ) → flags < flag_values
      → Usual directory sources (named (memory_call (memory.init_pages_call memory.on_sparse a size flags lead source)))
  pub fill : (a size lead : ℕ) (source : List ℕ) → Usual directory sources (named (memory_call (memory.fill_page_data_call a size lead source)))
  pub fetch_flag_call : (p : ℕ) → Usual directory sources (named (memory_call (memory.fetch_flag_call p)))
  -- a flag with the dirty bit
  pub set_flag_call : (p f : ℕ) → f < flag_values → bit_and f dirty ≢ 0 → Usual directory sources (named (memory_call (memory.set_flag_call p f)))
  pub check_permission_call : (first last want : ℕ) → Usual directory sources (named (memory_call (memory.check_permission_call first last want)))
  pub set_dirty_call : (first last : ℕ) → Usual directory sources (named (memory_call (memory.set_dirty_call first last)))
  pub memory_size_call : Usual directory sources (named (memory_call memory.memory_size_call))
  pub memory_pages_call : Usual directory sources (named (memory_call memory.memory_pages_call))
  pub byte_stored : (l : memory.Layer) (a n v : ℕ) → Usual directory sources (named (memory_call (memory.store_byte_call l a n v)))
  pub bytes_stored : (l : memory.Layer) (a : ℕ) (bytes : List ℕ) → Usual directory sources (named (memory_call (memory.store_bytes_call l a bytes)))
  pub number_stored : (l : memory.Layer) (n a x : ℕ) → Usual directory sources (named (memory_call (memory.store_wide_call l n a x)))
  pub load_bytes_call : (a n : ℕ) (out : List ℕ) → Usual directory sources (named (memory_call (memory.load_bytes_call a n out)))
  pub load_wide_call : (n a : ℕ) → Usual directory sources (named (memory_call (memory.load_wide_call n a)))
  pub execute_load_call : (l : memory.Layer) (n a : ℕ) → Usual directory sources (named (memory_call (memory.execute_load_call l n a)))
  pub load_c_string_call : (a : ℕ) (out : List ℕ) → Usual directory sources (named (memory_call (memory.load_c_string_call a out)))
  pub get_lr_call : Usual directory sources (named (memory_call memory.get_lr_call))
  pub set_lr_call : (x : ℕ) → Word x → Usual directory sources (named (memory_call (memory.set_lr_call x)))
  pub numbers : (o : machine.Op) → TypedNumbers o → Usual directory sources (named (numbers_call o))
  pub data_loaded : (d s : List ℕ) (id offset wanted : ℕ) → Usual directory sources (named (load_data_call d s id offset wanted))
  pub untracked : (start size : ℕ) → Usual directory sources (named (untrack_pages_call start size))
  -- from the same sources
  pub context : (a id offset wanted size_at : ℕ) → Word id
      → Usual directory sources (named (store_bytes_call directory sources a id offset wanted size_at))
  pub recorded : (p : ℕ) → Usual directory sources (named (page_record_call p))
  pub snapshot : (file pages : List ℕ) → Usual directory sources (named (make_snapshot_call file pages))

pub record Meant : Type 0 where
  -- every stopped machine can be handed over
  pub handed : (directory sources : List ℕ) (m : LentMachine) → Stopped directory sources m → Somewhere directory sources m
  -- further calls
  pub named_careful : (c : Named) → Careful (named c)
  pub clear_careful : (p f : ℕ) → f < flag_values → bit_and f dirty ≡ 0 → Careful (clear_flag_call p f)
  -- calls that always keep a machine sound
  pub always_sound : (directory sources : List ℕ) → Always directory sources
