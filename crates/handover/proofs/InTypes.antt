-- What a machine keeps is of the code's types: flags are bytes, the version has 32 bits, other numbers 64, there are 32 registers.
-- Every call that is given such numbers keeps it so, and every machine that our calls reach is so.
use mathlib.Core.Path.{◌≡◌, subst}
use mathlib.Core.List.{List, [], ◌∷◌}
use Prim.Native.Nat.{ℕ, zero, suc, ◌+◌, ◌-◌, ◌*◌, ◌%◌, ◌≤◌, ◌<◌}
use native.Mathlib.Omega.{arith}
use lib.ListN.{length, get_or, set, length-set}
use lib.Seq.{get_or-set_other}
use lib.Bits.{bit_or, or_lt, and_le_l, and_le_r}
use lib.Dec.{eqb, ltb, leb}
use borrow.Author.Tests.{eqb-true, leb-true}
use Rattle.bits.specs.Rounding.{page_size}
use Rattle.words.specs.Bytes.{filled}
use Rattle.words.specs.LittleEndian.{Small}
use Rattle.words.proofs.Filled.{length-filled, filled_zero}
use Rattle.program.specs.Program.{ret, perform, each}
use Rattle.program.specs.Layers.{low, own}
use Rattle.memory.specs.Pages.{dirty, cleared}
use Rattle.memory.specs.Storage.{State, or_flag, and_flag, store_page, take_slot, write_page, fits}
use Rattle.memory.specs.Operations as memory-op
use Rattle.memory.specs.Sparse.{set_flag, set_lr}
use Rattle.memory.specs.Sparse as sparse
use Rattle.memory.specs.Calls as memory
use Rattle.memory.proofs.StoreCases.{cases, PageStored, past, full, wild, took, had, page-stored}
use Rattle.machine.specs.Fresh.{Tracked, LentMachine, record_words, fresh}
use Rattle.machine.specs.Numbers.{general_registers, Numbers, machine_of, set_register}
use Rattle.machine.specs.Operations as machine
use Rattle.recordfile.specs.Records.{versions, flag_values}
use Rattle.recordfile.specs.Form.{in_form}
use Rattle.recordfile.specs.Snapshots.{SourceRun, DirtyRun, Snapshot, snapshot_in, Word, Each, SourceRanged, DirtyRanged, Ranged}
use Rattle.recordfile.proofs.RoundTrip.{ranged_in}
use Rattle.tracking.specs.declared.records.Tracking.{Tracking}
use Rattle.tracking.specs.declared.records.Tracking.TheVariants as tracking
use Rattle.tracking.specs.Records.{tracked_mark, record_of, record_at, with_words}
use Rattle.tracking.specs.Sources.{data_of}
use Rattle.tracking.specs.Operations.{lengths?, entry?, track!, drop!, drop_all!, AnyOp, MachineOp, marked, clean, track_page, drop_page, does, machine_does, on_memory, top}
use Rattle.snapshot.specs.Resume.{set_flags, store_run, store_source, restore_data, found, restore_source, restore_dirty, restore_runs, restore_pages, restore_numbers, restore, resume_from}
use Rattle.snapshot.specs.Resume as snapshot
use Rattle.snapshot.proofs.Bounds as bounds
use Rattle.handover.specs.Calls.{Named, round_page_up_call, round_page_down_call, get_page_indices_call, memory_call, numbers_call, load_data_call, track_pages_call, untrack_pages_call, store_bytes_call, mark_program_call, page_record_call, make_snapshot_call, resume, program, Given, named, clear_flag_call, fresh_call, Later, answer, leaves}
use Rattle.handover.specs.Reached.{TypedMemory, TypedNumbers, TypedNamed, Typed, Reached}
use Rattle.handover.proofs.Ends.{each_map}
use Rattle.handover.proofs.Asks.{asks-kept, asks_cond, asks-onwards, asks-after, asks-each, asks_in}
use Rattle.handover.proofs.CallsAsk.{Asking, Setting, setting_asks, AskingTracked, AskingMachine, OnMemory, OnTracked, OnMachine, Kind, asks, sets, inits, kind, asks_set_flag, asks_wxorx, asks_init_pages, asks_on_memory, asks_untrack_pages, asks_page_record, asks_track_pages, asks_store_bytes, asks_mark_program, asks_on_machine, asks_make_snapshot}
use Rattle.handover.proofs.WellFormed.{fresh-done}

-- ---- what a machine keeps

record MemoryIn (s : State) : Type 0 where
  flag_bytes : Small s.flags
  reservation_word : Word s.memory.reservation

-- records are words, and a page has room behind each offset
record RecordsIn (records : List ℕ) : Type 0 where
  words : (i : ℕ) → Word (get_or records i 0)
  offsets : (p : ℕ) → get_or records (p * record_words + 1) 0 + page_size ≤ top

record NumbersIn (n : Numbers) : Type 0 where
  version_small : n.version < versions
  pc_word : Word n.pc
  next_pc_word : Word n.next_pc
  cycles_word : Word n.cycles
  maximum_word : Word n.max_cycles
  registers_are : length n.registers ≡ general_registers
  register_words : (i : ℕ) → Word (get_or n.registers i 0)

record StorageIn (m : Tracked) : Type 0 where
  memory : MemoryIn m.0
  records : RecordsIn m.1

record MachineIn (m : LentMachine) : Type 0 where
  storage : StorageIn m.0
  numbers : NumbersIn m.1

-- ---- each operation keeps it so

-- a number written into a list
set_any : (P : ℕ → Type 0) (l : List ℕ) (i x j : ℕ) → P x → P (get_or l j 0) → P (get_or (set l i x) j 0)
set_any P [] i x j a b = b
set_any P (y ∷ l) zero x zero a b = a
set_any P (y ∷ l) zero x (suc j) a b = b
set_any P (y ∷ l) (suc i) x zero a b = b
set_any P (y ∷ l) (suc i) x (suc j) a b = set_any P l i x j a b

abbrev Byte : ℕ → Type 0
Byte x = x < 256

flag-set : (flags : List ℕ) (p f : ℕ) → Byte f → Small flags → Small (set flags p f)
flag-set flags p f h small i = set_any Byte flags p f i h (small i)

or_byte : (f g : ℕ) → f < 256 → g < 256 → bit_or f g < 256
or_byte f g h k = or_lt 8 f g h k

-- operations of the kind that the types allow
abbrev InMemory : memory-op.Op → Type 0
InMemory = Setting (λ f. f < flag_values) Word

abbrev InAny : AnyOp → Type 0
InAny (low o) = InMemory o
InAny (own lengths?) = Unit {0}
InAny (own (entry? p)) = Unit {0}
InAny (own (track! p id offset)) = Word id
InAny (own (drop! p)) = Unit {0}
InAny (own drop_all!) = Unit {0}

abbrev InMachine : MachineOp → Type 0
InMachine (low o) = InAny o
InMachine (own o) = TypedNumbers o

store_kept : (s : State) (p at : ℕ) (bytes : List ℕ) → MemoryIn s → MemoryIn (store_page s p at bytes).1
unfolding take_slot write_page
store_kept s p at bytes w = go _ (page-stored s p at bytes)
  where
    dirtied : MemoryIn (write_page s p at bytes)
    dirtied =
        record {
          flag_bytes = flag-set s.flags p _ (or_byte (get_or s.flags p 0) dirty (w.flag_bytes p) (omega arith)) w.flag_bytes;
          reservation_word = w.reservation_word;
        }

    go : (r : ℕ × State) → PageStored s p at bytes r → MemoryIn r.1
    go r (past h) = w
    go r (full h e k) = w
    go r (wild h n k) = w
    go r (took h e k) = record { flag_bytes = dirtied.flag_bytes; reservation_word = w.reservation_word }
    go r (had h n k) = dirtied

or_kept : (s : State) (p f : ℕ) → f < flag_values → MemoryIn s → MemoryIn (or_flag s p f).1
unfolding or_flag
or_kept s p f h w =
    cases (λ (r : ℕ × State). MemoryIn r.1) (ltb p (length s.flags)) _ _
    (λ e.
    record {
      flag_bytes = flag-set s.flags p _ (or_byte (get_or s.flags p 0) f (w.flag_bytes p) h) w.flag_bytes;
      reservation_word = w.reservation_word;
    })
    (λ e. w)

memory_op_kept : (o : memory-op.Op) → InMemory o → (s : State) → MemoryIn s → MemoryIn (memory-op.does o s).1
memory_op_kept memory-op.lengths? k s w = w
memory_op_kept memory-op.size? k s w = w
memory_op_kept memory-op.lr? k s w = w
memory_op_kept (memory-op.flag? p) k s w = w
memory_op_kept (memory-op.meet? p) k s w = w
memory_op_kept (memory-op.byte? a) k s w = w
memory_op_kept (memory-op.bytes? a n) k s w = w
memory_op_kept (memory-op.part! a bytes) k s w = store_kept s _ _ _ w
memory_op_kept (memory-op.or! p f) k s w = or_kept s p f k w
memory_op_kept (memory-op.lr! x) k s w = record { flag_bytes = w.flag_bytes; reservation_word = k }

-- a record written
words-kept : (records : List ℕ) (p id offset mark : ℕ) → Word id → offset + page_size ≤ top → Word mark → RecordsIn records
    → RecordsIn (with_words records p id offset mark)
words-kept records p id offset mark a b c w =
    let one : List ℕ = set records (p * record_words) id in
    let two : List ℕ = set one (p * record_words + 1) offset in
    record {
      words = λ i.
          set_any Word two (p * record_words + 2) mark i c
          (set_any Word one (p * record_words + 1) offset i (omega arith) (set_any Word records (p * record_words) id i a (w.words i)));
      offsets = λ q.
          let x : get_or (set two (p * record_words + 2) mark) (q * record_words + 1) 0 ≡ get_or two (q * record_words + 1) 0 =
          get_or-set_other two (p * record_words + 2) (q * record_words + 1) mark 0 (omega arith) in
          let y : get_or one (q * record_words + 1) 0 ≡ get_or records (q * record_words + 1) 0 =
          get_or-set_other records (p * record_words) (q * record_words + 1) id 0 (omega arith) in
          rw x
          (set_any (λ (n : ℕ). n + page_size ≤ top) one (p * record_words + 1) offset (q * record_words + 1) b (rw y (w.offsets q)));
    }

marked-kept : (m : Tracked) (p f : ℕ) (records : List ℕ) → f < 256 → RecordsIn records → StorageIn m
    → StorageIn ((marked m p f tracking.Untracked).0, records)
marked-kept m p f records h r w =
    record {
      memory = record { flag_bytes = flag-set m.0.flags p f h w.memory.flag_bytes; reservation_word = w.memory.reservation_word };
      records = r;
    }

track-kept : (m : Tracked) (p id offset : ℕ) → Word id → StorageIn m → StorageIn (track_page m p id offset).1
unfolding track_page
track-kept m p id offset k w =
    cases Q (ltb p (length m.0.flags)) _ _
    (λ e.
    cases Q (leb (offset + page_size) top) _ _
    (λ d.
    let f : ℕ = clean m.0.flags p in
    let h : f ≤ 251 = and_le_r (get_or m.0.flags p 0) 251 in
    marked-kept m p f _ (omega arith)
    (words-kept m.1 p id offset (tracked_mark + f) k (leb-true _ _ d) (omega arith) w.records)
    w)
    (λ d. w))
    (λ e. w)
  where
    Q : ℕ × Tracked → Type 0
    Q r = StorageIn r.1

drop-kept : (m : Tracked) (p : ℕ) → StorageIn m → StorageIn (drop_page m p).1
unfolding drop_page
drop-kept m p w =
    cases (λ (r : ℕ × Tracked). StorageIn r.1) (ltb p (length m.0.flags)) _ _
    (λ e.
    marked-kept m p _ _ (or_byte (get_or m.0.flags p 0) dirty (w.memory.flag_bytes p) (omega arith))
    (words-kept m.1 p 0 0 0 (omega arith) (omega arith) (omega arith) w.records)
    w)
    (λ e. w)

-- zeros
zeros_in : (n : ℕ) → RecordsIn (filled n 0)
zeros_in n =
    record {
      words = λ i. omega (arith, filled_zero n i);
      offsets = λ p. omega (arith, filled_zero n (p * record_words + 1));
    }

op_kept : (o : AnyOp) → InAny o → (m : Tracked) → StorageIn m → StorageIn (does o m).1
op_kept (low o) k m w = record { memory = memory_op_kept o k m.0 w.memory; records = w.records }
op_kept (own lengths?) k m w = w
op_kept (own (entry? p)) k m w = w
op_kept (own (track! p id offset)) k m w = track-kept m p id offset k w
op_kept (own (drop! p)) k m w = drop-kept m p w
op_kept (own drop_all!) k m w = record { memory = w.memory; records = zeros_in (length m.1) }

word_at : (l : List ℕ) (i : ℕ) → Each Word l → Word (get_or l i 0)
unfolding Each
word_at [] i each = omega arith
word_at (x ∷ l) zero each = each.0
word_at (x ∷ l) (suc i) each = word_at l i each.1

numbers_in_types : (n : Numbers) → n.version < versions → Word n.pc → Word n.next_pc → Word n.cycles → Word n.max_cycles
    → length n.registers ≡ general_registers → ((i : ℕ) → Word (get_or n.registers i 0)) → NumbersIn n
numbers_in_types n version pc next cycles maximum are registers =
    record {
      version_small = version;
      pc_word = pc;
      next_pc_word = next;
      cycles_word = cycles;
      maximum_word = maximum;
      registers_are = are;
      register_words = registers;
    }

numbers-kept : (o : machine.Op) → TypedNumbers o → (n : Numbers) → NumbersIn n → NumbersIn (machine.does o n).1
unfolding set_register
numbers-kept machine.registers? k n w = w
numbers-kept (machine.registers! l) k n w =
    numbers_in_types _ w.version_small w.pc_word w.next_pc_word w.cycles_word w.maximum_word k.0 (λ i. word_at l i k.1)
numbers-kept (machine.register? i) k n w = w
numbers-kept (machine.register! i x) k n w =
    cases (λ (r : ℕ × Numbers). NumbersIn r.1) (ltb i general_registers) _ _
    (λ e.
    numbers_in_types _ w.version_small w.pc_word w.next_pc_word w.cycles_word w.maximum_word
    (omega (arith, length-set n.registers i x, w.registers_are))
    (λ j. set_any Word n.registers i x j k (w.register_words j)))
    (λ e. w)
numbers-kept machine.pc? k n w = w
numbers-kept (machine.pc! x) k n w =
    numbers_in_types _ w.version_small w.pc_word k w.cycles_word w.maximum_word w.registers_are w.register_words
numbers-kept machine.commit! k n w =
    numbers_in_types _ w.version_small w.next_pc_word w.next_pc_word w.cycles_word w.maximum_word w.registers_are
    w.register_words
numbers-kept machine.version? k n w = w
numbers-kept machine.cycles? k n w = w
numbers-kept (machine.cycles! x) k n w =
    numbers_in_types _ w.version_small w.pc_word w.next_pc_word k w.maximum_word w.registers_are w.register_words
numbers-kept machine.max_cycles? k n w = w
numbers-kept (machine.max_cycles! x) k n w =
    numbers_in_types _ w.version_small w.pc_word w.next_pc_word w.cycles_word k w.registers_are w.register_words

machine_op_kept : (o : MachineOp) → InMachine o → (m : LentMachine) → MachineIn m → MachineIn (machine_does o m).1
machine_op_kept (low o) k m w = record { storage = op_kept o k m.0 w.storage; numbers = w.numbers }
machine_op_kept (own o) k m w = record { storage = w.storage; numbers = numbers-kept o k m.1 w.numbers }

-- ---- what the calls ask

in_memory : Asking InMemory
in_memory = setting_asks _ _

in_storage : AskingTracked InAny
in_storage = record { memory = in_memory; lengths = tt; entry = λ p. tt; drop = λ p. tt }

in_machine : AskingMachine InMachine
in_machine = record { storage = in_storage; registers = tt; version = tt; pc = tt; cycles = tt; maximum = tt }

asks-memory : (c : memory.Named) → TypedMemory c → OnMemory InMemory (memory.program c)
asks-memory c k = go c (kind in_memory (λ p. omega arith) c (λ x e. subst TypedMemory e k)) k
  where
    go : (c : memory.Named) → Kind InMemory c → TypedMemory c → OnMemory InMemory (memory.program c)
    go c (asks a) k = a
    go c (sets p f) k = asks_set_flag in_memory p f k
    go c (inits a size flags lead source) k = asks_init_pages in_memory a size flags lead source (λ p. k)

-- ---- a resume asks what its snapshot says, which is in range

asks-store_run : (a flag : ℕ) (bytes : List ℕ) → flag < flag_values → OnMemory InMemory (store_run a flag bytes)
unfolding store_run set_flags
asks-store_run a flag bytes h =
    asks-after InMemory (λ n. n) _ _ (asks_wxorx in_memory a bytes)
    (asks-each InMemory (λ p. set_flag p flag) (λ p. asks_set_flag in_memory p flag h) _ _)

asks-restore_source : (directory sources : List ℕ) (r : SourceRun) → SourceRanged r → OnTracked InAny (restore_source directory sources r)
unfolding restore_source restore_data store_source
asks-restore_source directory sources r w =
    let d = found directory sources r in
    let bytes : List ℕ = data_of sources d in
    asks_cond InAny (eqb (r.address % page_size) 0) _ (ret 3)
    (asks-onwards InAny (λ n. n) _ d.number
    (asks_cond InAny (eqb (length bytes % page_size) 0) _ (ret 3)
    (asks-after InAny (λ n. n) _ _ (asks_on_memory InAny _ (asks-store_run r.address r.flag bytes w.flag_small))
    (asks_track_pages in_storage r.id (λ p offset. w.id_word) r.address (length bytes) r.offset))
    tt))
    tt

asks-restore_dirty : (r : DirtyRun) → DirtyRanged r → OnTracked InAny (on_memory (restore_dirty r))
unfolding restore_dirty
asks-restore_dirty r w =
    asks_on_memory InAny (restore_dirty r)
    (asks_cond InMemory (eqb (r.address % page_size) 0) _ (ret 3) (asks-store_run r.address r.flag r.content w.flag_small) tt)

asks-restore_pages : (directory sources : List ℕ) (s : Snapshot) → Ranged s → OnTracked InAny (restore_pages directory sources s)
unfolding restore_pages restore_runs set_lr
asks-restore_pages directory sources s w =
    asks-after InAny (λ n. n) _ _
    (asks-after InAny (λ n. n) _ _
    (asks_in InAny (restore_source directory sources) s.sources
    (each_map SourceRanged _ (asks-restore_source directory sources) s.sources w.sources_ranged))
    (asks_in InAny (λ r. on_memory (restore_dirty r)) s.dirty
    (each_map DirtyRanged _ asks-restore_dirty s.dirty w.dirty_ranged)))
    (asks_on_memory InAny (perform (memory-op.lr! s.state.reservation)) (w.reservation_word, λ r. tt))

asks-restore : (directory sources : List ℕ) (s : Snapshot) → Ranged s → OnMachine InMachine (restore directory sources s)
unfolding restore restore_numbers
asks-restore directory sources s w = (
  tt,
  λ a. (
    (w.registers_are, w.register_words),
    λ b. (
      w.pc_word,
      λ c. (
        tt,
        λ d. (
          w.cycles_word,
          λ e. (
            w.maximum_word,
            λ f. asks_on_machine InMachine (restore_pages directory sources s) (asks-restore_pages directory sources s w),
          ),
        ),
      ),
    ),
  ),
)

asks-resume : (directory sources file page_file : List ℕ) → Small file → Word (length page_file)
    → OnMachine InMachine (snapshot.resume directory sources file page_file)
unfolding snapshot.resume resume_from
asks-resume directory sources file page_file small word = (
  tt,
  λ b.
      asks_cond InMachine b _ (ret 9)
      (cases (OnMachine InMachine) (eqb (in_form file (length page_file)) 0) _ _
      (λ t. (
        tt,
        λ v.
            asks_cond InMachine (eqb v (snapshot_in file page_file).state.version) (restore directory sources (snapshot_in file page_file)) (ret 1)
            (asks-restore directory sources (snapshot_in file page_file) (ranged_in file page_file small (eqb-true _ _ t) word))
            tt,
      ))
      (λ t. tt))
      tt,
)

-- ---- every call

asks-named : (c : Named) → TypedNamed c → OnMachine InMachine (program c)
asks-named (round_page_up_call a) k = tt
asks-named (round_page_down_call a) k = tt
asks-named (get_page_indices_call a n) k = tt
asks-named (memory_call c) k = asks_on_machine InMachine _ (asks_on_memory InAny (memory.program c) (asks-memory c k))
asks-named (numbers_call o) k = (k, λ r. tt)
asks-named (load_data_call directory sources id offset wanted) k = tt
asks-named (track_pages_call start size id offset) k =
    asks_on_machine InMachine _ (asks_track_pages in_storage id (λ p o. k) start size offset)
asks-named (untrack_pages_call start size) k = asks_on_machine InMachine _ (asks_untrack_pages in_storage start size)
asks-named (store_bytes_call directory sources a id offset wanted size_at) k =
    asks_on_machine InMachine _ (asks_store_bytes in_storage id (λ p o. k) directory sources a offset wanted size_at)
asks-named (mark_program_call actions id offset) k =
    asks_on_machine InMachine _ (asks_mark_program in_storage id (λ p o. k) actions offset)
asks-named (page_record_call p) k = asks_on_machine InMachine _ (asks_page_record in_storage p)
asks-named (make_snapshot_call file pages) k = asks_make_snapshot in_machine (length file) (length pages)
asks-named (resume directory sources file page_file) k = asks-resume directory sources file page_file k.0 k.1

-- a flag cleared is at most what it was
clear_kept : (p f : ℕ) (m : LentMachine) → MachineIn m → MachineIn (answer (clear_flag_call p f) m).1
unfolding sparse.clear_flag and_flag
clear_kept p f m w =
    record {
      storage =
          record {
            memory =
                cases (λ (r : ℕ × State). MemoryIn r.1) (fits m.0.0) _ _
                (λ e.
                cases (λ (r : ℕ × State). MemoryIn r.1) (ltb p (length m.0.0.flags)) _ _
                (λ d.
                let s = w.storage.memory in
                let g : ℕ = get_or m.0.0.flags p 0 in
                record {
                  flag_bytes =
                      flag-set m.0.0.flags p (cleared g f) (omega (arith, and_le_l g (255 - f), s.flag_bytes p)) s.flag_bytes;
                  reservation_word = s.reservation_word;
                })
                (λ d. w.storage.memory))
                (λ e. w.storage.memory);
            records = w.storage.records;
          };
      numbers = w.numbers;
    }

given_kept : (g : Given) → Later g → Typed g → (m : LentMachine) → MachineIn m → MachineIn (answer g m).1
given_kept (named c) l k m w = asks-kept InMachine machine_does MachineIn machine_op_kept (program c) (asks-named c k) m w
given_kept (clear_flag_call p f) l k m w = clear_kept p f m w
given_kept (fresh_call size version maximum) l k m w = absurd l

calls-kept : (gs : List Given) → Each Later gs → Each Typed gs → (m : LentMachine) → MachineIn m → MachineIn (leaves gs m)
unfolding leaves Each
calls-kept [] l k m w = w
calls-kept (g ∷ gs) l k m w = calls-kept gs l.1 k.1 _ (given_kept g l.0 k.0 m w)

-- ---- a fresh machine

fresh_in : (slots flags area records : List ℕ) (size version maximum : ℕ)
    → (fresh slots flags area records size version maximum).0 ≡ 0 → version < versions → Word maximum
    → MachineIn (fresh slots flags area records size version maximum).1
fresh_in slots flags area records size version maximum done small word =
    rw (fresh-done slots flags area records size version maximum done)
    (record {
      storage =
          record {
            memory =
                record {
                  flag_bytes = λ i. omega (arith, filled_zero (length flags) i);
                  reservation_word = omega arith;
                };
            records = zeros_in (length records);
          };
      numbers =
          numbers_in_types _ small (omega arith) (omega arith) (omega arith) word (length-filled general_registers 0)
          (λ i. omega (arith, filled_zero general_registers i));
    })

-- ---- EVERY MACHINE THAT OUR CALLS REACH

reached_in : (m : LentMachine) → Reached m → MachineIn m
reached_in m r =
    subst MachineIn r.left
    (calls-kept r.calls r.later r.typed _
    (fresh_in r.slots r.flags r.area r.records r.size r.version r.maximum r.started r.version_small
    r.maximum_word))

-- what it keeps is of the code's types, and a page has room behind the offset of each tracked page
pub record InTypes (m : LentMachine) : Type 0 where
  pub typed : bounds.Typed m.0.0.flags m.0.1 (machine_of m.1 m.0.0.memory)
  pub offsets : (p id offset flag : ℕ) → record_at m.0.1 p ≡ tracking.Tracked id offset flag → offset + page_size ≤ top

-- the offset of a record is one of its words
record_offset : (id offset mark : ℕ) (P : ℕ → Type 0) → P offset → (i o f : ℕ) → record_of id offset mark ≡ tracking.Tracked i o f → P o
unfolding record_of
record_offset id offset mark P h i o f =
    cases (λ (t : Tracking). t ≡ tracking.Tracked i o f → P o) (ltb mark tracked_mark) _ _
    (λ d e. absurd (let z : ◌≡◌ {A = ℕ} 0 1 = cc in omega arith))
    (λ d e. let z : offset ≡ o = cc in subst P z h)

pub reached_in_types : (m : LentMachine) → Reached m → InTypes m
reached_in_types m r =
    let w : MachineIn m = reached_in m r in
    record {
      typed =
          record {
            flag_bytes = w.storage.memory.flag_bytes;
            record_word = w.storage.records.words;
            version_small = w.numbers.version_small;
            pc_word = w.numbers.pc_word;
            cycles_word = w.numbers.cycles_word;
            maximum_word = w.numbers.maximum_word;
            reservation_word = w.storage.memory.reservation_word;
            registers_are = w.numbers.registers_are;
            register_words = w.numbers.register_words;
          };
      offsets = λ p id offset flag e.
          record_offset (get_or m.0.1 (p * record_words) 0) (get_or m.0.1 (p * record_words + 1) 0) (get_or m.0.1 (p * record_words + 2) 0)
          (λ (x : ℕ). x + page_size ≤ top) (w.storage.records.offsets p) id offset flag e;
    }
