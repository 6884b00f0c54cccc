-- What a call answers and leaves in the theorem is what its promise says: the definition that the promise cites, run on what the call
-- is lent, beside all that it is not lent. A field for each public call on a machine, with the definition as src/ has it.
use Rattle.std.specs.Prelude.{List, [], ◌∷◌, ◌≡◌, ℕ, ◌/◌, length}
use Rattle.bits.specs.Rounding.{page_size, rounded_up, rounded_down}
use Rattle.words.specs.Bytes.{written}
use Rattle.program.specs.Program.{run}
use Rattle.memory.specs.Pages.{page_indices}
use Rattle.memory.specs.Storage.{State, state_of, reserved}
use Rattle.memory.specs.Operations as memory-op
use Rattle.memory.specs.Sparse.{fetch_flag, set_flag, clear_flag, memory_size, memory_pages, lr, set_lr, check_permission, set_dirty, fill_page_data, load_wide, load_bytes, load_c_string}
use Rattle.memory.specs.Sparse as sparse
use Rattle.memory.specs.WXorX as wxorx
use Rattle.memory.specs.Calls as memory
use Rattle.machine.specs.Fresh.{Tracked, LentMachine, fresh}
use Rattle.machine.specs.Numbers.{Numbers, with_registers, register, set_register, update_pc, commit_pc, set_cycles, set_max_cycles}
use Rattle.machine.specs.Operations as machine
use Rattle.tracking.specs.Sources.{find_data, data_of}
use Rattle.tracking.specs.Operations.{Call, does, machine_does}
use Rattle.tracking.specs.Tracking as tracking
use Rattle.snapshot.specs.MakeSnapshot.{make_snapshot}
use Rattle.snapshot.specs.Resume as snapshot
use Rattle.handover.specs.Calls.{Named, round_page_up_call, round_page_down_call, get_page_indices_call, memory_call, numbers_call, load_data_call, track_pages_call, untrack_pages_call, store_bytes_call, mark_program_call, page_record_call, make_snapshot_call, resume, Answers, named, clear_flag_call, fresh_call, answer, told}

-- what a memory's call answered and left, beside the machine's records and numbers; and a call on the memory with its records, beside
-- the numbers
abbrev pub with_rest : {A : Type 0} → LentMachine → A × State → A × LentMachine
with_rest m r = (r.0, ((r.1, m.0.1), m.1))

abbrev pub with_numbers : {A : Type 0} → LentMachine → A × Tracked → A × LentMachine
with_numbers m r = (r.0, (r.1, m.1))

-- a value read from the numbers, and numbers that are changed
abbrev pub with_memory : {A : Type 0} → LentMachine → A × Numbers → A × LentMachine
with_memory m r = (r.0, (m.0, r.1))

-- a call on the memory, and its definition
abbrev OnMemory : LentMachine → (c : memory.Named) → memory-op.Call (memory.Answers c) → Type 0
OnMemory m c g = answer (named (memory_call c)) m ≡ with_rest m (run memory-op.does g m.0.0)

-- a call of tracking, and its definition
abbrev OnTracked : LentMachine → (c : Named) → Call (Answers c) → Type 0
OnTracked m c g = answer (named c) m ≡ with_numbers m (run does g m.0)

abbrev OnNumbers : LentMachine → (o : machine.Op) → machine.Reply o × Numbers → Type 0
OnNumbers m o r = answer (named (numbers_call o)) m ≡ with_memory m r

pub record Promised (m : LentMachine) : Type 0 where
  -- bits, memory/src/lib.rt and shared.rt
  pub round_up : (a : ℕ) → answer (named (round_page_up_call a)) m ≡ (rounded_up a, m)
  pub round_down : (a : ℕ) → answer (named (round_page_down_call a)) m ≡ (rounded_down a, m)
  pub indices : (a n : ℕ) → answer (named (get_page_indices_call a n)) m ≡ (page_indices a n, m)
  pub check_permission_call : (first last want : ℕ) → OnMemory m (memory.check_permission_call first last want) (check_permission first last want)
  pub set_dirty_call : (first last : ℕ) → OnMemory m (memory.set_dirty_call first last) (set_dirty first last)
  pub fill_page_data_call : (a size lead : ℕ) (source : List ℕ) → OnMemory m (memory.fill_page_data_call a size lead source) (fill_page_data a size lead source)
  -- memory/src/layer.rt, shared.rt and load.rt
  pub sparse_init_pages : (a size flags lead : ℕ) (source : List ℕ)
      → OnMemory m (memory.init_pages_call memory.on_sparse a size flags lead source) (fill_page_data a size lead source)
  pub wxorx_init_pages : (a size flags lead : ℕ) (source : List ℕ)
      → OnMemory m (memory.init_pages_call memory.on_wxorx a size flags lead source) (wxorx.init_pages a size flags lead source)
  pub fetch_flag_call : (p : ℕ) → OnMemory m (memory.fetch_flag_call p) (fetch_flag p)
  pub set_flag_call : (p f : ℕ) → OnMemory m (memory.set_flag_call p f) (set_flag p f)
  pub clear_a_flag : (p f : ℕ) → answer (clear_flag_call p f) m ≡ with_rest m (clear_flag p f m.0.0)
  pub memory_size_call : answer (named (memory_call memory.memory_size_call)) m ≡ (m.0.0.memory.size, m)
  pub memory_pages_call : answer (named (memory_call memory.memory_pages_call)) m ≡ (m.0.0.memory.size / page_size, m)
  pub sparse_store_byte : (a n v : ℕ) → OnMemory m (memory.store_byte_call memory.on_sparse a n v) (sparse.store_byte a n v)
  pub wxorx_store_byte : (a n v : ℕ) → OnMemory m (memory.store_byte_call memory.on_wxorx a n v) (wxorx.store_byte a n v)
  pub sparse_store_bytes : (a : ℕ) (bytes : List ℕ) → OnMemory m (memory.store_bytes_call memory.on_sparse a bytes) (sparse.store_bytes a bytes)
  pub wxorx_store_bytes : (a : ℕ) (bytes : List ℕ) → OnMemory m (memory.store_bytes_call memory.on_wxorx a bytes) (wxorx.store_bytes a bytes)
  -- store8, store16, store32, store64: n is 1, 2, 4, 8
  pub sparse_store_wide : (n a x : ℕ) → OnMemory m (memory.store_wide_call memory.on_sparse n a x) (sparse.store_wide n a x)
  pub wxorx_store_wide : (n a x : ℕ) → OnMemory m (memory.store_wide_call memory.on_wxorx n a x) (wxorx.store_wide n a x)
  -- load8, load16, load32, load64; execute_load16, execute_load32
  pub load_wide_call : (n a : ℕ) → OnMemory m (memory.load_wide_call n a) (load_wide n a)
  pub sparse_execute_load : (n a : ℕ) → OnMemory m (memory.execute_load_call memory.on_sparse n a) (load_wide n a)
  pub wxorx_execute_load : (n a : ℕ) → OnMemory m (memory.execute_load_call memory.on_wxorx n a) (wxorx.execute_load n a)
  -- with the output as the call leaves it
  pub load_bytes_call : (a n : ℕ) (out : List ℕ) → OnMemory m (memory.load_bytes_call a n out) (load_bytes a n (length out))
  pub load_bytes_output : (a n : ℕ) (out : List ℕ) (x : sparse.Output)
      → (told (named (memory_call (memory.load_bytes_call a n out))) x).outputs ≡ written out 0 x.bytes ∷ []
  pub load_c_string_call : (a : ℕ) (out : List ℕ) → OnMemory m (memory.load_c_string_call a out) (load_c_string a (length out))
  pub load_c_string_output : (a : ℕ) (out : List ℕ) (x : sparse.Output)
      → (told (named (memory_call (memory.load_c_string_call a out))) x).outputs ≡ written out 0 x.bytes ∷ []
  pub get_lr_call : answer (named (memory_call memory.get_lr_call)) m ≡ (m.0.0.memory.reservation, m)
  pub set_lr_call : (x : ℕ) → answer (named (memory_call (memory.set_lr_call x))) m
      ≡ with_rest m (0, state_of m.0.0.slots m.0.0.flags m.0.0.area (reserved m.0.0.memory x))
  -- machine/src/lib.rt
  pub make_a_fresh : (size version maximum : ℕ)
      → answer (fresh_call size version maximum) m ≡ fresh m.0.0.slots m.0.0.flags m.0.0.area m.0.1 size version maximum
  pub registers : OnNumbers m machine.registers? (m.1.registers, m.1)
  pub with_registers_call : (l : List ℕ) → OnNumbers m (machine.registers! l) (0, with_registers l m.1)
  pub a_register : (i : ℕ) → OnNumbers m (machine.register? i) (register i m.1, m.1)
  pub set_register_call : (i x : ℕ) → OnNumbers m (machine.register! i x) (set_register i x m.1)
  pub pc : OnNumbers m machine.pc? (m.1.pc, m.1)
  pub update_pc_call : (x : ℕ) → OnNumbers m (machine.pc! x) (0, update_pc x m.1)
  pub commit_pc_call : OnNumbers m machine.commit! (0, commit_pc m.1)
  pub version : OnNumbers m machine.version? (m.1.version, m.1)
  pub cycles : OnNumbers m machine.cycles? (m.1.cycles, m.1)
  pub set_cycles_call : (x : ℕ) → OnNumbers m (machine.cycles! x) (0, set_cycles x m.1)
  pub max_cycles : OnNumbers m machine.max_cycles? (m.1.max_cycles, m.1)
  pub set_max_cycles_call : (x : ℕ) → OnNumbers m (machine.max_cycles! x) (0, set_max_cycles x m.1)
  -- tracking/src
  pub data_loaded : (directory sources : List ℕ) (id offset wanted : ℕ)
      → answer (named (load_data_call directory sources id offset wanted)) m
      ≡ (
        record {
          place = find_data directory (length sources) id offset wanted;
          bytes = data_of sources (find_data directory (length sources) id offset wanted);
        },
        m,
      )
  pub pages_tracked : (start size id offset : ℕ) → OnTracked m (track_pages_call start size id offset) (tracking.track_pages start size id offset)
  pub pages_untracked : (start size : ℕ) → OnTracked m (untrack_pages_call start size) (tracking.untrack_pages start size)
  pub context_stored : (directory sources : List ℕ) (a id offset wanted size_at : ℕ)
      → OnTracked m (store_bytes_call directory sources a id offset wanted size_at) (tracking.store_bytes directory sources a id offset wanted size_at)
  pub program_marked : (actions : List ℕ) (id offset : ℕ) → OnTracked m (mark_program_call actions id offset) (tracking.mark_program actions id offset)
  pub record_read : (p : ℕ) → OnTracked m (page_record_call p) (tracking.page_record p)
  -- snapshot/src, with the outputs as the call leaves them
  pub snapshot_made : (file pages : List ℕ)
      → answer (named (make_snapshot_call file pages)) m ≡ run machine_does (make_snapshot (length file) (length pages)) m
  pub snapshot_outputs : (file pages : List ℕ) (x : Answers (make_snapshot_call file pages))
      → (told (named (make_snapshot_call file pages)) x).outputs ≡ written file 0 x.file ∷ written pages 0 x.body ∷ []
  pub machine_resumed : (directory sources file page_file : List ℕ)
      → answer (named (resume directory sources file page_file)) m ≡ run machine_does (snapshot.resume directory sources file page_file) m

abbrev pub EachPromised : Type 0
EachPromised = (m : LentMachine) → Promised m
