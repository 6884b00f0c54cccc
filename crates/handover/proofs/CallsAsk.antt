-- What the calls' programs ask, for any kind of operations that has every question in it: which of them ask operations of that kind
-- alone, and of the others which operations it must have for that.
use mathlib.Core.Path.{◌≡◌, refl}
use mathlib.Core.List.{List, [], ◌∷◌, ◌++◌}
use Prim.Native.Nat.{ℕ, zero, suc, ◌+◌, ◌-◌, ◌/◌, ◌^◌}
use lib.ListN.{length}
use lib.Bits.{bit_and}
use lib.Dec.{eqb, ltb}
use Rattle.bits.specs.Rounding.{page_size}
use Rattle.words.specs.Bytes.{filled}
use Rattle.words.specs.LittleEndian.{to_le}
use Rattle.program.specs.Program.{ret, perform}
use Rattle.program.specs.Layers.{low, own, lift}
use Rattle.memory.specs.Pages.{page_indices, dirty, writable, executable, frozen}
use Rattle.memory.specs.Storage.{no_value}
use Rattle.memory.specs.Operations.{lengths?, size?, lr?, flag?, meet?, byte?, bytes?, part!, or!, lr! }
use Rattle.memory.specs.Operations as memory-op
use Rattle.memory.specs.Sparse.{Output, output, no_output, fetch_flag, set_flag, memory_size, memory_pages, lr, set_lr, permit, permits, check_permission, marks, set_dirty, store_over, store, fill_rest, fill, fill_page_data, meets, load, load_wide, reach, load_bytes, next_byte, c_string, load_c_string}
use Rattle.memory.specs.Sparse as sparse
use Rattle.memory.specs.WXorX.{permitted, init_flag, in_bounds, init_pages, execute_load}
use Rattle.memory.specs.WXorX as wxorx
use Rattle.memory.specs.Calls as memory
use Rattle.machine.specs.Operations as machine
use Rattle.tracking.specs.declared.context.LoadingAction.{LoadingAction}
use Rattle.tracking.specs.Sources.{find_data, data_of}
use Rattle.tracking.specs.Operations.{entry?, track!, drop!, AnyOp, AnyReply, MachineOp, MachineReply, Call, MachineCall, on_memory, fitting, top}
use Rattle.tracking.specs.Operations as tracking-op
use Rattle.tracking.specs.Tracking.{distance, track_from, track_whole, track, track_pages, drop_whole, untrack, untrack_pages, not_stored, store_tracked, replace, store_data, store_found, store_bytes, action_at, mark_action, mark_actions, mark_program, not_recorded, page_record}
use Rattle.recordfile.specs.Snapshots.{SourceRun}
use Rattle.snapshot.specs.Runs.{Run}
use Rattle.snapshot.specs.MakeSnapshot.{not_taken, ask_flag, ask_entry, meet_run, read_run, take_runs, take_pages, ask_kept, not_made, make_snapshot}
use Rattle.handover.proofs.Ends.{each_of}
use Rattle.handover.proofs.Asks.{Asks, asks_cond, asks-bind, asks-onwards, asks-after, asks-each, asks_in, asks-collect, asks-collect_in, asks-lift}

-- ---- calls on a memory

-- every question, and a part of a store
pub record Asking (P : memory-op.Op → Type 0) : Type 0 where
  pub lengths : P lengths?
  pub size : P size?
  pub reservation : P lr?
  pub flag : (p : ℕ) → P (flag? p)
  pub meet : (p : ℕ) → P (meet? p)
  pub byte : (a : ℕ) → P (byte? a)
  pub bytes : (a n : ℕ) → P (bytes? a n)
  pub part : (a : ℕ) (l : List ℕ) → P (part! a l)

-- such a kind: all operations, but of flags and reservations only these are set
abbrev pub Setting : (ℕ → Type 0) → (ℕ → Type 0) → memory-op.Op → Type 0
Setting Flag Reservation lengths? = Unit {0}
Setting Flag Reservation size? = Unit {0}
Setting Flag Reservation lr? = Unit {0}
Setting Flag Reservation (flag? p) = Unit {0}
Setting Flag Reservation (meet? p) = Unit {0}
Setting Flag Reservation (byte? a) = Unit {0}
Setting Flag Reservation (bytes? a n) = Unit {0}
Setting Flag Reservation (part! a l) = Unit {0}
Setting Flag Reservation (or! p f) = Flag f
Setting Flag Reservation (lr! x) = Reservation x

pub setting_asks : (Flag Reservation : ℕ → Type 0) → Asking (Setting Flag Reservation)
setting_asks Flag Reservation =
    record {
      lengths = tt;
      size = tt;
      reservation = tt;
      flag = λ p. tt;
      meet = λ p. tt;
      byte = λ a. tt;
      bytes = λ a n. tt;
      part = λ a l. tt;
    }

-- the call asks operations of the kind alone
abbrev pub OnMemory : (memory-op.Op → Type 0) → {A : Type 0} → memory-op.Call A → Type 0
OnMemory P g = Asks {Reply = memory-op.Reply} P g

module _ {P : memory-op.Op → Type 0} (h : Asking P) where
  memory-fitting : {A : Type 0} (refused : ℕ → A) (g : memory-op.Call A) → OnMemory P g → OnMemory P (memory-op.fitting refused g)
  unfolding memory-op.fitting
  memory-fitting refused g a = (h.lengths, λ b. asks_cond P b g (ret (refused 9)) a tt)

  -- flags

  asks-permits : (first last want : ℕ) → OnMemory P (permits first last want)
  unfolding permits permit
  asks-permits first last want =
      asks-each P (permit want) (λ p. (h.flag p, λ f. asks-onwards P (λ n. n) _ f.number tt)) _ first

  asks-permitted : (want a n : ℕ) → OnMemory P (permitted want a n)
  unfolding permitted
  asks-permitted want a n = asks-onwards P (λ k. k) _ (page_indices a n).number (asks-permits _ _ want)

  pub asks_set_flag : (p f : ℕ) → P (or! p f) → OnMemory P (set_flag p f)
  unfolding set_flag
  asks_set_flag p f k = memory-fitting (λ n. n) (perform (or! p f)) (k, λ n. tt)

  asks_set_dirty : (first last : ℕ) → ((p : ℕ) → P (or! p dirty)) → OnMemory P (set_dirty first last)
  unfolding set_dirty marks
  asks_set_dirty first last k = memory-fitting (λ n. n) _ (asks-each P (λ p. perform (or! p dirty)) (λ p. (k p, λ n. tt)) _ first)

  -- stores

  asks_store_over : (pages a : ℕ) (l : List ℕ) → OnMemory P (store_over pages a l)
  unfolding store_over
  asks_store_over zero a l = tt
  asks_store_over (suc pages) a l =
      asks_cond P (eqb (length l) 0) (ret 0) _ tt
      (asks-after P (λ n. n) (perform (part! a l)) _ (h.part a l, λ n. tt) (asks_store_over pages _ _))

  asks-store : (a : ℕ) (l : List ℕ) → OnMemory P (store a l)
  unfolding store
  asks-store a l = asks_store_over (length l) a l

  asks_sparse : (a : ℕ) (l : List ℕ) → OnMemory P (sparse.store_bytes a l)
  unfolding sparse.store_bytes
  asks_sparse a l = memory-fitting (λ n. n) _ (asks-store a l)

  pub asks_wxorx : (a : ℕ) (l : List ℕ) → OnMemory P (wxorx.store_bytes a l)
  unfolding wxorx.store_bytes
  asks_wxorx a l =
      memory-fitting (λ n. n) _
      (asks_cond P (eqb (length l) 0) (ret 0) _ tt
      (asks-after P (λ n. n) _ _ (asks-permitted writable a (length l)) (asks-store a l)))

  asks-fill : (a size lead : ℕ) (source : List ℕ) → OnMemory P (fill a size lead source)
  unfolding fill fill_rest
  asks-fill a size lead source =
      asks-after P (λ n. n) _ _ (asks-store _ _) (asks-after P (λ n. n) _ _ (asks-store _ _) (asks-store _ _))

  asks_fill_page_data : (a size lead : ℕ) (source : List ℕ) → OnMemory P (fill_page_data a size lead source)
  unfolding fill_page_data
  asks_fill_page_data a size lead source = memory-fitting (λ n. n) _ (asks-fill a size lead source)

  asks_init_flag : (flags p : ℕ) → P (or! p flags) → OnMemory P (init_flag flags p)
  unfolding init_flag
  asks_init_flag flags p k = (
    h.flag p,
    λ f.
        asks-onwards P (λ n. n) _ f.number
        (asks_cond P (eqb (bit_and f.value frozen) 0) (perform (or! p flags)) (ret 5) (k, λ n. tt) tt),
  )

  pub asks_init_pages : (a size flags lead : ℕ) (source : List ℕ) → ((p : ℕ) → P (or! p flags)) → OnMemory P (init_pages a size flags lead source)
  unfolding init_pages
  asks_init_pages a size flags lead source k =
      memory-fitting (λ n. n) _ (
        h.size,
        λ m.
            asks-onwards P (λ n. n) _ (in_bounds m a size lead)
            (asks-after P (λ n. n) _ _ (asks-each P (init_flag flags) (λ p. asks_init_flag flags p (k p)) _ _) (asks-fill a size lead source)),
      )

  -- loads

  asks-meets : (a n : ℕ) → OnMemory P (meets a n)
  unfolding meets
  asks-meets a n = asks-each P (λ p. perform (meet? p)) (λ p. (h.meet p, λ k. tt)) _ _

  asks-load : (n a : ℕ) → OnMemory P (load n a)
  unfolding load
  asks-load n a = asks-after P no_value _ _ (asks-meets a n) (h.bytes a n, λ l. tt)

  asks_load_wide : (n a : ℕ) → OnMemory P (load_wide n a)
  unfolding load_wide
  asks_load_wide n a = memory-fitting no_value _ (asks-load n a)

  asks_execute_load : (n a : ℕ) → OnMemory P (execute_load n a)
  unfolding execute_load
  asks_execute_load n a = memory-fitting no_value _ (asks-after P no_value _ _ (asks-permitted executable a n) (asks-load n a))

  asks_load_bytes : (a n room : ℕ) → OnMemory P (load_bytes a n room)
  unfolding load_bytes reach
  asks_load_bytes a n room =
      memory-fitting no_output _
      (asks_cond P (eqb n 0) (ret (no_output 0)) _ tt
      (asks-after P no_output _ _
      (h.size, λ m. asks_cond P (ltb m (a + n)) (ret 2) _ tt (asks-after P (λ k. k) _ _ (asks-meets a n) tt))
      (h.bytes a n, λ l. tt)))

  asks_next_byte : (a : ℕ) (seen : List ℕ) (more : ℕ → memory-op.Call Output) → ((b : ℕ) → OnMemory P (more b))
      → OnMemory P (next_byte a seen more)
  unfolding next_byte
  asks_next_byte a seen more k = (
    h.meet _,
    λ n.
        asks-onwards P (λ m. output m 0 seen) _ n
        (h.byte a, λ b. asks_cond P (eqb b 0) (ret (output 0 (length seen) seen)) (more b) tt (k b)),
  )

  asks_c_string : (room a : ℕ) (seen : List ℕ) → OnMemory P (c_string room a seen)
  unfolding c_string
  asks_c_string zero a seen = asks_next_byte a seen _ (λ b. tt)
  asks_c_string (suc room) a seen = asks_next_byte a seen _ (λ b. asks_c_string room (a + 1) (seen ++ (b ∷ [])))

  asks_load_c_string : (a room : ℕ) → OnMemory P (load_c_string a room)
  unfolding load_c_string
  asks_load_c_string a room = memory-fitting no_output _ (asks_c_string room a [])

-- a call asks operations of the kind alone, or sets flags that it is given: set_flag, and W^X init_pages
pub data Kind (P : memory-op.Op → Type 0) : memory.Named → Type 0 where
  asks : {c : memory.Named} → OnMemory P (memory.program c) → Kind P c
  sets : (p f : ℕ) → Kind P (memory.set_flag_call p f)
  inits : (a size flags lead : ℕ) (source : List ℕ) → Kind P (memory.init_pages_call memory.on_wxorx a size flags lead source)

module _ {P : memory-op.Op → Type 0} (h : Asking P) (dirties : (p : ℕ) → P (or! p dirty)) where
  pub kind : (c : memory.Named) → ((x : ℕ) → c ≡ memory.set_lr_call x → P (lr! x)) → Kind P c
  unfolding fetch_flag check_permission memory_size memory_pages lr set_lr sparse.store_byte sparse.store_wide wxorx.store_byte wxorx.store_wide
  kind (memory.init_pages_call memory.on_sparse a size flags lead source) r = asks (asks_fill_page_data h a size lead source)
  kind (memory.init_pages_call memory.on_wxorx a size flags lead source) r = inits a size flags lead source
  kind (memory.fill_page_data_call a size lead source) r = asks (asks_fill_page_data h a size lead source)
  kind (memory.fetch_flag_call p) r = asks (memory-fitting h no_value (perform (flag? p)) (h.flag p, λ f. tt))
  kind (memory.set_flag_call p f) r = sets p f
  kind (memory.check_permission_call first last want) r = asks (memory-fitting h (λ n. n) _ (asks-permits h first last want))
  kind (memory.set_dirty_call first last) r = asks (asks_set_dirty h first last dirties)
  kind memory.memory_size_call r = asks {c = memory.memory_size_call} (h.size, λ n. tt)
  kind memory.memory_pages_call r = asks {c = memory.memory_pages_call} (h.size, λ n. tt)
  kind (memory.store_byte_call memory.on_sparse a n v) r = asks (asks_sparse h a (filled n v))
  kind (memory.store_byte_call memory.on_wxorx a n v) r = asks (asks_wxorx h a (filled n v))
  kind (memory.store_bytes_call memory.on_sparse a l) r = asks (asks_sparse h a l)
  kind (memory.store_bytes_call memory.on_wxorx a l) r = asks (asks_wxorx h a l)
  kind (memory.store_wide_call memory.on_sparse n a x) r = asks (asks_sparse h a (to_le n x))
  kind (memory.store_wide_call memory.on_wxorx n a x) r = asks (asks_wxorx h a (to_le n x))
  kind (memory.load_bytes_call a n out) r = asks (asks_load_bytes h a n (length out))
  kind (memory.load_wide_call n a) r = asks (asks_load_wide h n a)
  kind (memory.execute_load_call memory.on_sparse n a) r = asks (asks_load_wide h n a)
  kind (memory.execute_load_call memory.on_wxorx n a) r = asks (asks_execute_load h n a)
  kind (memory.load_c_string_call a out) r = asks (asks_load_c_string h a (length out))
  kind memory.get_lr_call r = asks {c = memory.get_lr_call} (h.reservation, λ n. tt)
  kind (memory.set_lr_call x) r = asks {c = memory.set_lr_call x} (r x refl, λ n. tt)

-- ---- calls on a memory with records

-- the questions about records too, and a record dropped
pub record AskingTracked (P : AnyOp → Type 0) : Type 0 where
  pub memory : Asking (λ o. P (low o))
  pub lengths : P (own tracking-op.lengths?)
  pub entry : (p : ℕ) → P (own (entry? p))
  pub drop : (p : ℕ) → P (own (drop! p))

abbrev pub OnTracked : (AnyOp → Type 0) → {A : Type 0} → Call A → Type 0
OnTracked P g = Asks {Reply = AnyReply} P g

-- a call on the memory, as one on a memory with records
pub asks_on_memory : (P : AnyOp → Type 0) {A : Type 0} (g : memory-op.Call A) → OnMemory (λ o. P (low o)) g → OnTracked P (on_memory g)
asks_on_memory P g a = asks-lift tracking-op.Reply P g a

module _ {P : AnyOp → Type 0} (h : AskingTracked P) where
  tracked-fitting : {A : Type 0} (refused : ℕ → A) (g : Call A) → OnTracked P g → OnTracked P (fitting refused g)
  unfolding fitting
  tracked-fitting refused g a = (h.lengths, λ b. asks_cond P b g (ret (refused 9)) a tt)

  pub asks_untrack_pages : (start size : ℕ) → OnTracked P (untrack_pages start size)
  unfolding untrack_pages untrack drop_whole
  asks_untrack_pages start size =
      tracked-fitting (λ n. n) _
      (asks_cond P (eqb size 0) (ret 0) _ tt
      (asks-onwards P (λ n. n) _ (page_indices start size).number
      (asks-each P (λ p. perform (own (drop! p))) (λ p. (h.drop p, λ n. tt)) _ _)))

  pub asks_page_record : (p : ℕ) → OnTracked P (page_record p)
  unfolding page_record
  asks_page_record p =
      tracked-fitting not_recorded _
      (h.memory.flag p, λ f. asks-onwards P not_recorded _ f.number (h.entry p, λ t. tt))

  -- what a snapshot asks of the pages

  asks_meet_run : (r : Run) → OnTracked P (meet_run r)
  unfolding meet_run
  asks_meet_run r = asks-each P (λ p. perform (low (meet? p))) (λ p. (h.memory.meet p, λ n. tt)) _ _

  asks_take_runs : (runs : List Run) (sources : List SourceRun) → OnTracked P (take_runs runs sources)
  unfolding take_runs read_run
  asks_take_runs runs sources =
      asks-after P not_taken _ _
      (asks_in P meet_run runs (each_of (λ (r : Run). OnTracked P (meet_run r)) asks_meet_run runs))
      (asks-bind P _ _ (asks-collect_in P read_run (λ r. (h.memory.bytes _ _, λ l. tt)) runs) (λ l. tt))

  pub asks_take_pages : OnTracked P take_pages
  unfolding take_pages ask_flag ask_entry
  asks_take_pages =
      tracked-fitting not_taken _ (
        h.memory.size,
        λ n.
            asks-bind P _ _ (asks-collect P ask_flag (λ p. (h.memory.flag p, λ f. tt)) (n / page_size) 0)
            (λ flags.
            asks-bind P _ _ (asks-collect P ask_entry (λ p. (h.entry p, λ t. tt)) (n / page_size) 0)
            (λ entries. asks_take_runs _ _)),
      )

-- those that track pages from an item
module _ {P : AnyOp → Type 0} (h : AskingTracked P) (id : ℕ) (tracks : (p offset : ℕ) → P (own (track! p id offset))) where
  pub asks_track_pages : (start size offset : ℕ) → OnTracked P (track_pages start size id offset)
  unfolding track_pages track track_whole
  asks_track_pages start size offset =
      tracked-fitting h (λ n. n) _
      (asks_cond P (ltb size (distance start)) (ret 0) _ tt
      (asks_cond P (ltb (2 ^ 64 - page_size) start) (ret 2) _ tt
      (asks_cond P (ltb top (offset + distance start)) (ret 2) _ tt
      (asks-each P (track_from _ id (offset + distance start)) (λ p. (tracks p _, λ n. tt)) _ _))))

  pub asks_store_bytes : (directory sources : List ℕ) (a offset wanted size_at : ℕ)
      → OnTracked P (store_bytes directory sources a id offset wanted size_at)
  unfolding store_bytes store_found store_data replace store_tracked wxorx.store_wide
  asks_store_bytes directory sources a offset wanted size_at =
      let d = find_data directory (length sources) id offset wanted in
      let l : List ℕ = data_of sources d in
      tracked-fitting h not_stored _
      (asks-onwards P not_stored _ d.number
      (asks-after P not_stored (store_data size_at d.full a id offset l) (ret _)
      (asks-after P (λ n. n) _ _ (asks_on_memory P _ (asks_wxorx h.memory size_at (to_le 8 d.full)))
      (asks-after P (λ n. n) _ _ (asks_untrack_pages h a (length l))
      (asks-after P (λ n. n) _ _ (asks_on_memory P _ (asks_wxorx h.memory a l)) (asks_track_pages a (length l) offset))))
      tt))

  pub asks_mark_program : (actions : List ℕ) (offset : ℕ) → OnTracked P (mark_program actions id offset)
  unfolding mark_program mark_actions mark_action
  asks_mark_program actions offset =
      tracked-fitting h (λ n. n) _
      (asks-each P (λ i. mark_action id offset (action_at actions i))
      (λ i.
      let action : LoadingAction = action_at actions i in
      asks_cond P (ltb top (action.addr + action.lead)) (ret 2) _ tt
      (asks_cond P (ltb action.end action.start) (ret 2) _ tt
      (asks_cond P (ltb action.size action.lead) (ret 2) _ tt
      (asks_cond P (ltb top (offset + action.start)) (ret 2) _ tt (asks_track_pages _ _ _))))) _ 0)

-- ---- calls on a machine

-- the questions about its numbers that a snapshot asks too
pub record AskingMachine (P : MachineOp → Type 0) : Type 0 where
  pub storage : AskingTracked (λ o. P (low o))
  pub registers : P (own machine.registers?)
  pub version : P (own machine.version?)
  pub pc : P (own machine.pc?)
  pub cycles : P (own machine.cycles?)
  pub maximum : P (own machine.max_cycles?)

abbrev pub OnMachine : (MachineOp → Type 0) → {A : Type 0} → MachineCall A → Type 0
OnMachine P g = Asks {Reply = MachineReply} P g

-- a call on a memory with records, as one on a machine
pub asks_on_machine : (P : MachineOp → Type 0) {A : Type 0} (g : Call A) → OnTracked (λ o. P (low o)) g → OnMachine P (lift g)
asks_on_machine P g a = asks-lift machine.Reply P g a

module _ {P : MachineOp → Type 0} (h : AskingMachine P) where
  pub asks_make_snapshot : (file pages : ℕ) → OnMachine P (make_snapshot file pages)
  unfolding make_snapshot ask_kept
  asks_make_snapshot file pages =
      asks-bind P _ _ (asks_on_machine P take_pages (asks_take_pages h.storage))
      (λ t.
      asks-onwards P not_made _ t.number
      (asks-bind P ask_kept _
      (h.version, λ v. (h.pc, λ p. (h.cycles, λ c. (h.maximum, λ x. (h.storage.memory.reservation, λ r. tt)))))
      (λ k. (h.registers, λ l. tt))))
