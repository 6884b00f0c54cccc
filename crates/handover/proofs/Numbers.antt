-- Which numbers a call on a machine answers: on every storage, and fewer on well-formed storage, where none is 9, and with a slot
-- for every page, where none is 7.
use mathlib.Core.Path.{◌≡◌, refl, ap}
use mathlib.Core.Bool.{Bool, true, false, cond}
use mathlib.Core.List.{List, [], ◌∷◌}
use mathlib.Core.Logic.{◌≢◌, ◌⊎◌, inl, inr}
use Prim.Native.Nat.{ℕ, zero, suc, ◌+◌, ◌-◌, ◌*◌, ◌/◌, ◌%◌, ◌^◌, ◌≤◌, ◌<◌}
use native.Mathlib.Omega.{arith}
use lib.ListN.{length, get_or}
use lib.Dec.{ltb, leb, eqb}
use lib.Bits.{bit_and}
use borrow.Author.Tests.{eqb-true}
use Rattle.bits.specs.Rounding.{page_size}
use Rattle.words.specs.LittleEndian.{to_le}
use Rattle.program.specs.Program.{ret, run, perform, onwards, and_then, each, each_in, collect, collect_in}
use Rattle.program.specs.Layers.{beside, lift}
use Rattle.program.proofs.Keeps.{Ends, ends-bind, ends-after, ends-each}
use Rattle.program.proofs.Lifted.{lift-run}
use Rattle.memory.specs.Pages.{PageIndices, page_indices, pages_within, maximum, dirty, writable, wxorx_bit}
use Rattle.memory.specs.Storage.{Valued}
use Rattle.memory.specs.Operations as memory-op
use Rattle.memory.specs.Sparse.{permit, permits, store_over, store, set_flag, set_lr}
use Rattle.memory.specs.WXorX.{permitted}
use Rattle.memory.specs.WXorX as wxorx
use Rattle.memory.specs.Calls as memory-calls
use Rattle.memory.proofs.StoreCases.{cases}
use Rattle.memory.proofs.Numbers as memory-laws
use Rattle.machine.specs.Fresh.{Tracked, LentMachine}
use Rattle.machine.specs.Numbers.{general_registers, Numbers, register, set_register}
use Rattle.machine.specs.Operations as machine
use Rattle.recordfile.specs.Form.{Form, malformed, needs, judged, in_form}
use Rattle.recordfile.specs.Form as form
use Rattle.recordfile.specs.Snapshots.{Kept, SourceRun, DirtyRun, Snapshot, Each}
use Rattle.tracking.specs.declared.context.LoadingAction.{LoadingAction}
use Rattle.tracking.specs.declared.records.Tracking.{Tracking}
use Rattle.tracking.specs.Sources.{entry_words, Data, data_in, among, find_data, data_of}
use Rattle.tracking.specs.Operations.{AnyOp, AnyReply, MachineOp, MachineReply, owns, does, machine_does, Call, MachineCall, on_memory, fitting, top}
use Rattle.tracking.specs.Tracking.{distance, track_whole, track, track_pages, drop_whole, untrack, untrack_pages, Stored, not_stored, store_tracked, replace, store_data, store_found, store_bytes, action_at, mark_action, mark_actions, mark_program, Recorded, not_recorded, page_record}
use Rattle.snapshot.specs.Runs.{Run, neighbours, join_dirty, dirty_runs}
use Rattle.snapshot.specs.MakeSnapshot.{Taken, not_taken, ask_flag, ask_entry, meet_run, read_run, take_runs, take_pages, ask_kept, Made, not_made, holds, laid_out, make_snapshot}
use Rattle.snapshot.specs.Resume.{set_flags, store_run, store_source, restore_data, found, restore_source, restore_dirty, restore_runs, restore_pages, restore_numbers, restore, resume_from}
use Rattle.snapshot.specs.Resume as snapshot
use Rattle.handover.specs.View.{WellFormed, FormedMachine, WholeMachine}
use Rattle.handover.specs.Calls.{Named, round_page_up_call, round_page_down_call, get_page_indices_call, memory_call, numbers_call, load_data_call, track_pages_call, untrack_pages_call, store_bytes_call, mark_program_call, page_record_call, make_snapshot_call, resume, Answers, program, clear_flag}
use Rattle.handover.proofs.Ends.{each_of, each_map, ends-any, ends-onwards, ends_in, ends-below, ends-collect, ends-lift}
use Rattle.handover.proofs.Replies.{Sort, any, formed, whole, Met, CanMemory, CanRecords, CanNumbers, Can, CanMachine, answers_only, machine_only}

-- ---- the dirty runs of a snapshot

-- the pages of a run lie below a bound
abbrev Below : ℕ → Run → Type 0
Below bound r = r.page + r.pages ≤ bound

join_below : (bound p f : ℕ) (rs : List Run) → p + 1 ≤ bound → Each (Below bound) rs → Each (Below bound) (join_dirty p f rs)
unfolding join_dirty neighbours Each
join_below bound p f [] h e = (h, tt)
join_below bound p f (r ∷ rs) h e =
    cases (Each (Below bound)) (cond (eqb r.page (p + 1)) (eqb r.flag f) false) _ _
    (λ t. (omega (arith, eqb-true r.page (p + 1) (next (eqb r.page (p + 1)) (eqb r.flag f) t), e.0), e.1))
    (λ t. (h, e))
  where
    next : (b c : Bool) → cond b c false ≡ true → b ≡ true
    next true c t = refl
    next false c t = t

-- the runs of flags from page p on lie below the page after the last
runs-below : (flags : List ℕ) (p bound : ℕ) → p + length flags ≤ bound → Each (Below bound) (dirty_runs p flags)
unfolding dirty_runs Each
runs-below [] p bound h = tt
runs-below (f ∷ fs) p bound h =
    cases (Each (Below bound)) (eqb (bit_and f dirty) 0) _ _
    (λ t. runs-below fs (p + 1) bound (omega arith))
    (λ t. join_below bound p f (dirty_runs (p + 1) fs) (omega arith) (runs-below fs (p + 1) bound (omega arith)))

-- ---- every program

-- where lengths can be wrong or a slot number wild, and where slots can run out; on machine m
module _ (Wrong Full : Type 0) (m : Tracked) where
  abbrev HereMemory : (o : memory-op.Op) → memory-op.Reply o → Type 0
  HereMemory = CanMemory Wrong Full m

  abbrev Here : (o : AnyOp) → AnyReply o → Type 0
  Here = Can Wrong Full m

  abbrev HereMachine : (o : MachineOp) → MachineReply o → Type 0
  HereMachine = CanMachine Wrong Full m

  -- a call on the memory, as one on a memory with records
  only_memory : {A : Type 0} (P : A → Type 0) (g : memory-op.Call A) → Ends HereMemory P g → Ends Here P (on_memory g)
  only_memory P g e = ends-lift HereMemory (CanRecords Wrong Full m) P g e

  -- and that, as one on a machine
  only_lift : {A : Type 0} (P : A → Type 0) (g : Call A) → Ends Here P g → Ends HereMachine P (lift g)
  only_lift P g e = ends-lift Here (CanNumbers Wrong Full m) P g e

  module _ (P : ℕ → Type 0) (is-0 : P 0) (is-2 : P 2) (is-9 : Wrong → P 9) where
    -- a call that answers such numbers alone
    abbrev Only : Call ℕ → Type 0
    Only g = Ends Here P g

    only_two : (n : ℕ) → (n ≡ 0) ⊎ (n ≡ 2) → P n
    only_two n (inl e) = rw e is-0
    only_two n (inr e) = rw e is-2

    only_fitting : {A : Type 0} (Q : A → Type 0) (refused : ℕ → A) (g : Call A) → (P 9 → Q (refused 9)) → Ends Here Q g
        → Ends Here Q (fitting refused g)
    unfolding fitting
    only_fitting Q refused g f e = λ b c. cases (Ends Here Q) b g (ret (refused 9)) (λ t. e) (λ t. f (is-9 (c.wrong t)))

    only_then : (g h : Call ℕ) → Only g → Only h → Only (and_then g h)
    only_then g h e f = ends-after Here P P (λ n. n) g h e (λ n c. c) f

    only_each : (g : ℕ → Call ℕ) → ((p : ℕ) → Only (g p)) → (n p : ℕ) → Only (each g n p)
    only_each g e n p = ends-each Here P g is-0 e n p

    only_in : {A : Type 0} (g : A → Call ℕ) → ((x : A) → Only (g x)) → (xs : List A) → Only (each_in g xs)
    only_in {A} g e xs = ends_in Here P g is-0 xs (each_of (λ (x : A). Only (g x)) e xs)

    only_onwards : {A : Type 0} (Q : A → Type 0) (refused : ℕ → A) (h : Call A) (n : ℕ) → Q (refused n) → Ends Here Q h
        → Ends Here Q (onwards refused h n)
    only_onwards Q refused h n c e = ends-onwards Here Q refused h n c e

    -- track

    only_track_pages : (start size id offset : ℕ) → Only (track_pages start size id offset)
    unfolding track_pages track track_whole
    only_track_pages start size id offset =
        only_fitting P (λ n. n) (track start size id offset) (λ c. c)
        (cases Only (ltb size (distance start)) _ _
        (λ t. is-0)
        (λ t.
        cases Only (ltb (2 ^ 64 - page_size) start) _ _
        (λ t. is-2)
        (λ t. cases Only (ltb top (offset + distance start)) _ _ (λ t. is-2) (λ t. only_each _ (λ p n c. only_two n c) _ _))))

    -- untrack

    only_page_indices : (a n : ℕ) → P (page_indices a n).number
    unfolding pages_within
    only_page_indices a n =
        cases (λ (i : PageIndices). P i.number) (eqb n 0) _ _
        (λ t. is-2)
        (λ t. cases (λ (i : PageIndices). P i.number) (leb (a + n) maximum) _ _ (λ u. is-0) (λ u. is-2))

    only_untrack_pages : (start size : ℕ) → Only (untrack_pages start size)
    unfolding untrack_pages untrack drop_whole
    only_untrack_pages start size =
        only_fitting P (λ n. n) (untrack start size) (λ c. c)
        (cases Only (eqb size 0) _ _
        (λ t. is-0)
        (λ t. only_onwards P (λ n. n) _ _ (only_page_indices start size) (only_each _ (λ p n c. only_two n c) _ _)))

    -- mark program

    only_mark_action : (id offset : ℕ) (action : LoadingAction) → Only (mark_action id offset action)
    unfolding mark_action
    only_mark_action id offset action =
        cases Only (ltb top (action.addr + action.lead)) _ _
        (λ t. is-2)
        (λ t.
        cases Only (ltb action.end action.start) _ _
        (λ t. is-2)
        (λ t.
        cases Only (ltb action.size action.lead) _ _
        (λ t. is-2)
        (λ t. cases Only (ltb top (offset + action.start)) _ _ (λ t. is-2) (λ t. only_track_pages _ _ id _))))

    only_mark_program : (actions : List ℕ) (id offset : ℕ) → Only (mark_program actions id offset)
    unfolding mark_program mark_actions
    only_mark_program actions id offset =
        only_fitting P (λ n. n) (mark_actions actions id offset) (λ c. c)
        (only_each _ (λ i. only_mark_action id offset (action_at actions i)) _ _)

    -- a page's record

    only_page_record : (p : ℕ) → Ends Here (λ (r : Recorded). P r.number) (page_record p)
    unfolding page_record
    only_page_record p =
        only_fitting (λ (r : Recorded). P r.number) not_recorded _ (λ c. c)
        (λ f c.
        only_onwards (λ (r : Recorded). P r.number) not_recorded _ f.number (only_two f.number c) (λ t d. is-0))

    -- W^X stores

    abbrev OnlyMemory : memory-op.Call ℕ → Type 0
    OnlyMemory g = Ends HereMemory P g

    module _ (is-4 : P 4) (is-7 : Full → P 7) where
      only_permit : (want p : ℕ) → OnlyMemory (permit want p)
      unfolding permit
      only_permit want p = λ f c.
          cases OnlyMemory (eqb f.number 0) _ _
          (λ t. cases P (eqb (bit_and f.value wxorx_bit) (bit_and want wxorx_bit)) 0 4 (λ t. is-0) (λ t. is-4))
          (λ t. only_two f.number c)

      only_permitted : (want a n : ℕ) → OnlyMemory (permitted want a n)
      unfolding permitted permits
      only_permitted want a n =
          cases OnlyMemory (eqb (page_indices a n).number 0) _ _
          (λ t. ends-each HereMemory P (permit want) is-0 (only_permit want) _ _)
          (λ t. only_page_indices a n)

      only_part : (n : ℕ) → (n ≡ 0) ⊎ ((n ≡ 2) ⊎ (((n ≡ 7) × Full) ⊎ ((n ≡ 9) × Wrong))) → P n
      only_part n (inl e) = rw e is-0
      only_part n (inr (inl e)) = rw e is-2
      only_part n (inr (inr (inl f))) = rw f.0 (is-7 f.1)
      only_part n (inr (inr (inr f))) = rw f.0 (is-9 f.1)

      only_store_over : (pages a : ℕ) (bytes : List ℕ) → OnlyMemory (store_over pages a bytes)
      unfolding store_over
      only_store_over zero a bytes = is-0
      only_store_over (suc pages) a bytes =
          cases OnlyMemory (eqb (length bytes) 0) _ _
          (λ t. is-0)
          (λ t.
          ends-after HereMemory P P (λ n. n) (perform (memory-op.part! a bytes)) _ only_part (λ n c. c) (only_store_over pages _ _))

      only_wxorx : (a : ℕ) (bytes : List ℕ) → OnlyMemory (wxorx.store_bytes a bytes)
      unfolding wxorx.store_bytes memory-op.fitting store
      only_wxorx a bytes = λ b c.
          cases OnlyMemory b _ _
          (λ t.
          cases OnlyMemory (eqb (length bytes) 0) _ _
          (λ t. is-0)
          (λ t.
          ends-after HereMemory P P (λ n. n) _ _ (only_permitted writable a (length bytes)) (λ n c. c) (only_store_over _ a bytes)))
          (λ t. is-9 (c t))

      -- context store

      only_store_data : (size_at size a id offset : ℕ) (bytes : List ℕ) → Only (store_data size_at size a id offset bytes)
      unfolding store_data replace store_tracked wxorx.store_wide
      only_store_data size_at size a id offset bytes =
          only_then _ _ (only_memory P _ (only_wxorx size_at (to_le 8 size)))
          (only_then _ _ (only_untrack_pages a (length bytes))
          (only_then _ _ (only_memory P _ (only_wxorx a bytes)) (only_track_pages a (length bytes) id offset)))

      module _ (is-6 : P 6) where
        only_data_in : (room start size offset wanted : ℕ) → P (data_in room start size offset wanted).number
        unfolding data_in
        only_data_in room start size offset wanted =
            cases (λ (d : Data). P d.number) (leb (start + size) room) _ _
            (λ t. cases (λ (d : Data). P d.number) (leb offset size) _ _ (λ t. is-0) (λ t. is-6))
            (λ t. is-6)

        only_among : (directory : List ℕ) (room id offset wanted n i : ℕ) → P (among directory room id offset wanted n i).number
        unfolding among
        only_among directory room id offset wanted zero i = is-6
        only_among directory room id offset wanted (suc n) i =
            cases (λ (d : Data). P d.number) (eqb (get_or directory (i * entry_words) 0) id) _ _
            (λ t. only_data_in room _ _ offset wanted)
            (λ t. only_among directory room id offset wanted n (i + 1))

        only_find_data : (directory : List ℕ) (room id offset wanted : ℕ) → P (find_data directory room id offset wanted).number
        unfolding find_data
        only_find_data directory room id offset wanted = only_among directory room id offset wanted _ 0

        only_store_bytes : (directory sources : List ℕ) (a id offset wanted size_at : ℕ)
            → Ends Here (λ (r : Stored). P r.number) (store_bytes directory sources a id offset wanted size_at)
        unfolding store_bytes store_found
        only_store_bytes directory sources a id offset wanted size_at =
            only_fitting (λ (r : Stored). P r.number) not_stored _ (λ c. c)
            (only_onwards (λ (r : Stored). P r.number) not_stored _ _ (only_find_data directory (length sources) id offset wanted)
            (ends-after Here P (λ (r : Stored). P r.number) not_stored _ _ (only_store_data size_at _ a id offset _) (λ n c. c) is-0))

        -- resume

        only_set_flags : (first n flag : ℕ) → OnlyMemory (set_flags first n flag)
        unfolding set_flags set_flag memory-op.fitting
        only_set_flags first n flag =
            ends-each HereMemory P (λ p. set_flag p flag) is-0
            (λ p b c. cases OnlyMemory b _ _ (λ t n d. only_two n d) (λ t. is-9 (c t)))
            n first

        only_store_run : (a flag : ℕ) (bytes : List ℕ) → OnlyMemory (store_run a flag bytes)
        unfolding store_run
        only_store_run a flag bytes =
            ends-after HereMemory P P (λ n. n) _ _ (only_wxorx a bytes) (λ n c. c) (only_set_flags _ _ flag)

        only_store_source : (a flag id offset : ℕ) (bytes : List ℕ) → Only (store_source a flag id offset bytes)
        unfolding store_source
        only_store_source a flag id offset bytes =
            only_then _ _ (only_memory P _ (only_store_run a flag bytes)) (only_track_pages a (length bytes) id offset)

        module _ (is-3 : P 3) where
          only_restore_source : (directory sources : List ℕ) (r : SourceRun) → Only (restore_source directory sources r)
          unfolding restore_source restore_data
          only_restore_source directory sources r =
              cases Only (eqb (r.address % page_size) 0) _ _
              (λ t.
              only_onwards P (λ n. n) _ _ (only_find_data directory (length sources) r.id r.offset r.size)
              (cases Only (eqb (length (data_of sources (found directory sources r)) % page_size) 0) _ _
              (λ u. only_store_source r.address r.flag r.id r.offset _)
              (λ u. is-3)))
              (λ t. is-3)

          only_restore_dirty : (r : DirtyRun) → OnlyMemory (restore_dirty r)
          unfolding restore_dirty
          only_restore_dirty r =
              cases OnlyMemory (eqb (r.address % page_size) 0) _ _ (λ t. only_store_run r.address r.flag r.content) (λ t. is-3)

          only_restore_pages : (directory sources : List ℕ) (s : Snapshot) → Only (restore_pages directory sources s)
          unfolding restore_pages restore_runs set_lr
          only_restore_pages directory sources s =
              only_then _ _
              (only_then _ _ (only_in _ (only_restore_source directory sources) s.sources)
              (only_in _ (λ r. only_memory P _ (only_restore_dirty r)) s.dirty))
              (only_memory P _ (λ n c. rw c is-0))

          module _ (is-1 : P 1) (is-11 : P 11) where
            abbrev OnlyMachine : MachineCall ℕ → Type 0
            OnlyMachine g = Ends HereMachine P g

            only_form : (f : Form) (size : ℕ) → P (form.beside f size)
            only_form malformed size = is-11
            only_form (needs pages) size = cases P (eqb size (page_size * pages)) 0 11 (λ t. is-0) (λ t. is-11)

            only_restore : (directory sources : List ℕ) (s : Snapshot) → OnlyMachine (restore directory sources s)
            unfolding restore restore_numbers
            only_restore directory sources s = λ r c r₁ c₁ r₂ c₂ r₃ c₃ r₄ c₄ r₅ c₅. only_lift P _ (only_restore_pages directory sources s)

            only_resume : (directory sources file page_file : List ℕ) → OnlyMachine (snapshot.resume directory sources file page_file)
            unfolding snapshot.resume resume_from in_form
            only_resume directory sources file page_file = λ b c.
                cases OnlyMachine b _ _
                (λ t.
                ends-onwards HereMachine P (λ n. n) _ _ (only_form (judged file) (length page_file))
                (λ version u. cases OnlyMachine (eqb version _) _ _ (λ v. only_restore directory sources _) (λ v. is-1)))
                (λ t. is-9 (c.wrong t))

  -- make_snapshot

  module _ (P : ℕ → Type 0) (is-0 : P 0) (is-8 : P 8) (is-9 : Wrong → P 9) where
    only_met : (n : ℕ) → Met Wrong Full n → P n
    only_met n (inl e) = rw e is-0
    only_met n (inr e) = rw e.0 (is-9 e.1)

    -- pages of which each has a slot number
    only_meet_run : (r : Run) → Below (length m.0.slots) r → Ends Here P (meet_run r)
    unfolding meet_run
    only_meet_run r h = ends-below Here P _ is-0 (length m.0.slots) (λ p k n c. only_met n (c k)) r.pages r.page h

    abbrev OnlyTaken : Call Taken → Type 0
    OnlyTaken g = Ends Here (λ (t : Taken). P t.number) g

    only_take_runs : (runs : List Run) (sources : List SourceRun) → Each (Below (length m.0.slots)) runs
        → OnlyTaken (take_runs runs sources)
    unfolding take_runs
    only_take_runs runs sources h =
        ends-after Here P (λ (t : Taken). P t.number) not_taken _ _
        (ends_in Here P meet_run is-0 runs (each_map (Below _) (λ (r : Run). Ends Here P (meet_run r)) only_meet_run runs h))
        (λ n c. c)
        (ends-bind Here (λ (l : List DirtyRun). Unit {0}) (λ (t : Taken). P t.number) _ _ (ends-any Here (collect_in read_run runs))
        (λ l u. is-0))

    only_take_pages : OnlyTaken take_pages
    unfolding take_pages fitting
    only_take_pages = λ b c.
        cases OnlyTaken b _ _
        (λ t n d.
        ends-bind Here (λ (l : List ℕ). length l ≡ n / page_size) (λ (t : Taken). P t.number) _ _ (ends-collect Here ask_flag _ 0)
        (λ flags e.
        ends-bind Here (λ (l : List Tracking). Unit {0}) (λ (t : Taken). P t.number) _ _ (ends-any Here (collect ask_entry (n / page_size) 0))
        (λ entries u. only_take_runs _ _ (runs-below flags 0 _ (omega (arith, c.right t))))))
        (λ t. is-9 (c.wrong t))

    only_laid_out : (file pages : ℕ) (s : Snapshot) → P (laid_out file pages s).number
    unfolding laid_out
    only_laid_out file pages s = cases (λ (x : Made). P x.number) (holds file pages s) _ _ (λ t. is-0) (λ t. is-8)

    only_make_snapshot : (file pages : ℕ) → Ends HereMachine (λ (x : Made). P x.number) (make_snapshot file pages)
    unfolding make_snapshot
    only_make_snapshot file pages =
        ends-bind HereMachine (λ (t : Taken). P t.number) (λ (x : Made). P x.number) _ _ (only_lift _ _ only_take_pages)
        (λ t h.
        ends-onwards HereMachine (λ (x : Made). P x.number) not_made _ t.number h
        (ends-bind HereMachine (λ (k : Kept). Unit {0}) (λ (x : Made). P x.number) _ _ (ends-any HereMachine ask_kept)
        (λ k u registers c. only_laid_out file pages _)))

-- ---- which numbers

-- n is one of these
abbrev pub OneOf : List ℕ → ℕ → Type 0
OneOf [] n = ⊥
OneOf (x ∷ xs) n = (n ≡ x) ⊎ OneOf xs n

-- the same as a test
abbrev listed : List ℕ → ℕ → Bool
listed [] n = false
listed (x ∷ xs) n = cond (eqb n x) true (listed xs n)

one_of : (l : List ℕ) (n : ℕ) → listed l n ≡ true → OneOf l n
one_of [] n e = let z : ◌≡◌ {A = ℕ} 0 1 = cc in absurd (omega arith)
one_of (x ∷ xs) n e = go (eqb n x) refl e (one_of xs n)
  where
    go : (b : Bool) → eqb n x ≡ b → cond b true (listed xs n) ≡ true → (listed xs n ≡ true → OneOf xs n) → (n ≡ x) ⊎ OneOf xs n
    go true f t more = inl (eqb-true n x f)
    go false f t more = inr (more t)

-- lengths can be wrong, and slots run out
abbrev Yes : Type 0
Yes = Unit {0}

-- on every storage
module _ (m : Tracked) where
  abbrev Plain : ℕ → Type 0
  Plain = OneOf (0 ∷ 2 ∷ 9 ∷ [])

  abbrev nine : Yes → Plain 9
  nine u = inr (inr (inl refl))

  on-any : {A : Type 0} (P : A → Type 0) (g : Call A) → Ends (Can Yes Yes m) P g → P (run does g m).0
  on-any P g e = answers_only Yes Yes P g m (any tt tt) e

  pub track-numbers : (start size id offset : ℕ) → OneOf (0 ∷ 2 ∷ 9 ∷ []) (run does (track_pages start size id offset) m).0
  track-numbers start size id offset =
      on-any Plain _ (only_track_pages Yes Yes m Plain (inl refl) (inr (inl refl)) nine start size id offset)

  pub untrack-numbers : (start size : ℕ) → OneOf (0 ∷ 2 ∷ 9 ∷ []) (run does (untrack_pages start size) m).0
  untrack-numbers start size = on-any Plain _ (only_untrack_pages Yes Yes m Plain (inl refl) (inr (inl refl)) nine start size)

  pub mark-numbers : (actions : List ℕ) (id offset : ℕ) → OneOf (0 ∷ 2 ∷ 9 ∷ []) (run does (mark_program actions id offset) m).0
  mark-numbers actions id offset =
      on-any Plain _ (only_mark_program Yes Yes m Plain (inl refl) (inr (inl refl)) nine actions id offset)

  pub record_numbers : (p : ℕ) → OneOf (0 ∷ 2 ∷ 9 ∷ []) (run does (page_record p) m).0.number
  record_numbers p =
      on-any (λ (r : Recorded). Plain r.number) _ (only_page_record Yes Yes m Plain (inl refl) (inr (inl refl)) nine p)

  abbrev stores : List ℕ
  stores = 0 ∷ 2 ∷ 4 ∷ 6 ∷ 7 ∷ 9 ∷ []

  pub store-numbers : (directory sources : List ℕ) (a id offset wanted size_at : ℕ)
      → OneOf (0 ∷ 2 ∷ 4 ∷ 6 ∷ 7 ∷ 9 ∷ []) (run does (store_bytes directory sources a id offset wanted size_at) m).0.number
  store-numbers directory sources a id offset wanted size_at =
      on-any (λ (r : Stored). OneOf stores r.number) _
      (only_store_bytes Yes Yes m (OneOf stores) (one_of stores 0 refl) (one_of stores 2 refl) (λ u. one_of stores 9 refl)
      (one_of stores 4 refl)
      (λ u. one_of stores 7 refl)
      (one_of stores 6 refl)
      directory sources a id offset wanted size_at)

-- with the machine's numbers
module _ (m : LentMachine) where
  pub make_numbers : (file pages : ℕ) → OneOf (0 ∷ 8 ∷ 9 ∷ []) (run machine_does (make_snapshot file pages) m).0.number
  make_numbers file pages =
      machine_only Yes Yes (λ (x : Made). OneOf (0 ∷ 8 ∷ 9 ∷ []) x.number) _ m (any tt tt)
      (only_make_snapshot Yes Yes m.0 (OneOf (0 ∷ 8 ∷ 9 ∷ [])) (inl refl) (inr (inl refl)) (λ u. inr (inr (inl refl))) file pages)

  abbrev resumes : List ℕ
  resumes = 0 ∷ 1 ∷ 2 ∷ 3 ∷ 4 ∷ 6 ∷ 7 ∷ 9 ∷ 11 ∷ []

  pub resume-numbers : (directory sources file page_file : List ℕ)
      → OneOf (0 ∷ 1 ∷ 2 ∷ 3 ∷ 4 ∷ 6 ∷ 7 ∷ 9 ∷ 11 ∷ []) (run machine_does (snapshot.resume directory sources file page_file) m).0
  resume-numbers directory sources file page_file =
      machine_only Yes Yes (OneOf resumes) _ m (any tt tt)
      (only_resume Yes Yes m.0 (OneOf resumes) (one_of resumes 0 refl) (one_of resumes 2 refl) (λ u. one_of resumes 9 refl)
      (one_of resumes 4 refl)
      (λ u. one_of resumes 7 refl)
      (one_of resumes 6 refl)
      (one_of resumes 3 refl)
      (one_of resumes 1 refl)
      (one_of resumes 11 refl)
      directory sources file page_file)

-- ---- 7 and 9

-- the number of an answer; a call that answers a value alone is done
abbrev number_of_reply : (o : machine.Op) → machine.Reply o → ℕ
number_of_reply machine.registers? l = 0
number_of_reply (machine.registers! l) n = n
number_of_reply (machine.register? i) v = v.number
number_of_reply (machine.register! i x) n = n
number_of_reply machine.pc? n = 0
number_of_reply (machine.pc! x) n = n
number_of_reply machine.commit! n = n
number_of_reply machine.version? n = 0
number_of_reply machine.cycles? n = 0
number_of_reply (machine.cycles! x) n = n
number_of_reply machine.max_cycles? n = 0
number_of_reply (machine.max_cycles! x) n = n

abbrev pub number_in : (c : Named) → Answers c → ℕ
number_in (round_page_up_call a) x = 0
number_in (round_page_down_call a) x = 0
number_in (get_page_indices_call a n) x = x.number
number_in (memory_call c) x = memory-calls.number_in c x
number_in (numbers_call o) x = number_of_reply o x
number_in (load_data_call directory sources id offset wanted) x = x.place.number
number_in (track_pages_call start size id offset) n = n
number_in (untrack_pages_call start size) n = n
number_in (store_bytes_call directory sources a id offset wanted size_at) x = x.number
number_in (mark_program_call actions id offset) n = n
number_in (page_record_call p) x = x.number
number_in (make_snapshot_call file pages) x = x.number
number_in (resume directory sources file page_file) n = n

-- what is answered above is what is answered below
answer-below : {A : Type 0} (g : Call A) (m : LentMachine) → (run machine_does (lift g) m).0 ≡ (run does g m.0).0
answer-below {A} g m = ap (λ (r : A × LentMachine). r.0) (lift-run does (beside machine.does) g m.0 m.1)

answer-memory : {A : Type 0} (g : memory-op.Call A) (m : Tracked) → (run does (on_memory g) m).0 ≡ (run memory-op.does g m.0).0
answer-memory {A} g m = ap (λ (r : A × Tracked). r.0) (lift-run memory-op.does owns g m.0 m.1)

-- k is none of the numbers that calls answer of themselves
record Foreign (k : ℕ) : Type 0 where
  not_0 : 0 ≢ k
  not_1 : 1 ≢ k
  not_2 : 2 ≢ k
  not_3 : 3 ≢ k
  not_4 : 4 ≢ k
  not_6 : 6 ≢ k
  not_8 : 8 ≢ k
  not_10 : 10 ≢ k
  not_11 : 11 ≢ k

foreign : (k : ℕ) → 6 < k → k < 10 → k ≢ 8 → Foreign k
foreign k h l n =
    record {
      not_0 = omega arith;
      not_1 = omega arith;
      not_2 = omega arith;
      not_3 = omega arith;
      not_4 = omega arith;
      not_6 = omega arith;
      not_8 = omega arith;
      not_10 = omega arith;
      not_11 = omega arith;
    }

-- nor 7, where slots can run out
module _ (k : ℕ) (Full : Type 0) (none : Foreign k) (not-7 : Full → 7 ≢ k) (m : LentMachine) (good : Sort ⊥ Full m.0)
    (below : (c : memory-calls.Named) → memory-calls.number_in c (run memory-op.does (memory-calls.program c) m.0.0).0 ≢ k) where
  abbrev Not : ℕ → Type 0
  Not n = n ≢ k

  abbrev not_9 : ⊥ → 9 ≢ k
  not_9 e = absurd e

  never-reply : (o : machine.Op) → number_of_reply o (machine.does o m.1).0 ≢ k
  unfolding register set_register
  never-reply machine.registers? = none.not_0
  never-reply (machine.registers! l) = none.not_0
  never-reply (machine.register? i) =
      cases (λ (v : Valued). v.number ≢ k) (ltb i general_registers) _ _ (λ t. none.not_0) (λ t. none.not_10)
  never-reply (machine.register! i x) =
      cases (λ (r : ℕ × Numbers). r.0 ≢ k) (ltb i general_registers) _ _ (λ t. none.not_0) (λ t. none.not_10)
  never-reply machine.pc? = none.not_0
  never-reply (machine.pc! x) = none.not_0
  never-reply machine.commit! = none.not_0
  never-reply machine.version? = none.not_0
  never-reply machine.cycles? = none.not_0
  never-reply (machine.cycles! x) = none.not_0
  never-reply machine.max_cycles? = none.not_0
  never-reply (machine.max_cycles! x) = none.not_0

  -- a program of tracking
  on-good : {A : Type 0} (P : A → Type 0) (g : Call A) → Ends (Can ⊥ Full m.0) P g → P (run machine_does (lift g) m).0
  on-good P g e = rw (answer-below g m) (answers_only ⊥ Full P g m.0 good e)

  never : (c : Named) → number_in c (run machine_does (program c) m).0 ≢ k
  unfolding run
  never (round_page_up_call a) = none.not_0
  never (round_page_down_call a) = none.not_0
  never (get_page_indices_call a n) = only_page_indices ⊥ Full m.0 Not none.not_0 none.not_2 not_9 a n
  never (memory_call c) = rw (answer-below (on_memory (memory-calls.program c)) m, answer-memory (memory-calls.program c) m.0) (below c)
  never (numbers_call o) = never-reply o
  never (load_data_call directory sources id offset wanted) =
      only_find_data ⊥ Full m.0 Not none.not_0 none.not_2 not_9 none.not_4 not-7 none.not_6 directory (length sources) id offset wanted
  never (track_pages_call start size id offset) = on-good Not _ (only_track_pages ⊥ Full m.0 Not none.not_0 none.not_2 not_9 start size id offset)
  never (untrack_pages_call start size) = on-good Not _ (only_untrack_pages ⊥ Full m.0 Not none.not_0 none.not_2 not_9 start size)
  never (store_bytes_call directory sources a id offset wanted size_at) =
      on-good (λ (r : Stored). r.number ≢ k) _
      (only_store_bytes ⊥ Full m.0 Not none.not_0 none.not_2 not_9 none.not_4 not-7 none.not_6 directory sources a id offset wanted size_at)
  never (mark_program_call actions id offset) = on-good Not _ (only_mark_program ⊥ Full m.0 Not none.not_0 none.not_2 not_9 actions id offset)
  never (page_record_call p) = on-good (λ (r : Recorded). r.number ≢ k) _ (only_page_record ⊥ Full m.0 Not none.not_0 none.not_2 not_9 p)
  never (make_snapshot_call file pages) =
      machine_only ⊥ Full (λ (x : Made). x.number ≢ k) (make_snapshot (length file) (length pages)) m good
      (only_make_snapshot ⊥ Full m.0 Not none.not_0 none.not_8 not_9 (length file) (length pages))
  never (resume directory sources file page_file) =
      machine_only ⊥ Full Not (snapshot.resume directory sources file page_file) m good
      (only_resume ⊥ Full m.0 Not none.not_0 none.not_2 not_9 none.not_4 not-7 none.not_6 none.not_3 none.not_1
      none.not_11
      directory sources file page_file)

pub never_9 : (c : Named) (m : LentMachine) → FormedMachine m → number_in c (run machine_does (program c) m).0 ≢ 9
never_9 c m w =
    never 9 Yes (foreign 9 (omega arith) (omega arith) (omega arith)) (λ u. omega arith) m (formed w tt)
    (λ c. memory-laws.never_9 c m.0.0 w.memory)
    c

pub never_7 : (c : Named) (m : LentMachine) → WholeMachine m → number_in c (run machine_does (program c) m).0 ≢ 7
never_7 c m w =
    never 7 ⊥ (foreign 7 (omega arith) (omega arith) (omega arith)) (λ e. absurd e) m (whole w)
    (λ c. memory-laws.never_7 c m.0.0 w.memory)
    c

pub clear_never_9 : (p f : ℕ) (m : Tracked) → WellFormed m → (clear_flag p f m).0 ≢ 9
clear_never_9 p f m w = memory-laws.clear_never_9 p f m.0 w.memory

pub clear_never_7 : (p f : ℕ) (m : Tracked) → WellFormed m → (clear_flag p f m).0 ≢ 7
clear_never_7 p f m w = memory-laws.clear_never_7 p f m.0 w.memory
