-- Which calls keep a machine sound: the table of specs/Keeping.antt, over all calls; and a fresh machine is sound.
use mathlib.Core.Path.{◌≡◌, refl, sym, ap, ◌∙◌, subst⁻¹}
use mathlib.Core.List.{List, [], ◌∷◌}
use mathlib.Core.Logic.{inl, inr}
use Prim.Native.Nat.{ℕ, ◌+◌, ◌-◌, ◌*◌, ◌/◌, ◌%◌, ◌≤◌, ◌<◌}
use native.Mathlib.Omega.{arith}
use lib.ListN.{length, get_or}
use lib.Dec.{eqb, ltb}
use lib.Bits.{bit_or}
use Rattle.bits.specs.Rounding.{page_size}
use Rattle.words.specs.Bytes.{filled}
use Rattle.words.proofs.Filled.{length-filled, filled_at}
use Rattle.program.specs.Program.{run}
use Rattle.program.specs.Layers.{low, beside, lift}
use Rattle.program.proofs.Lifted.{lift-run}
use Rattle.program.proofs.Like.{Like}
use Rattle.memory.specs.Pages.{cleared}
use Rattle.memory.specs.Storage.{span}
use Rattle.memory.specs.Operations.{or! }
use Rattle.memory.specs.Operations as memory-op
use Rattle.memory.specs.Sparse as sparse
use Rattle.memory.specs.WXorX as wxorx
use Rattle.memory.specs.Calls as memory-calls
use Rattle.memory.specs.View.{Roomy}
use Rattle.memory.specs.View as memory
use Rattle.memory.proofs.StoreCases.{cases}
use Rattle.memory.proofs.Span.{span-is}
use Rattle.memory.proofs.Seen as memory-laws
use Rattle.machine.specs.Fresh.{Tracked, LentMachine, fresh}
use Rattle.machine.specs.Operations as machine
use Rattle.recordfile.specs.Form.{in_form}
use Rattle.recordfile.specs.Records.{versions, flag_values}
use Rattle.recordfile.specs.Snapshots.{Word, Each, snapshot_in}
use Rattle.tracking.specs.declared.records.Tracking.TheVariants.{Untracked}
use Rattle.tracking.specs.Records.{record_at}
use Rattle.tracking.specs.Sources.{find_data, data_of}
use Rattle.tracking.specs.Operations.{Call, MachineCall, does, owns, machine_does, on_memory, masked}
use Rattle.tracking.specs.Tracking.{track_pages, untrack_pages, store_bytes, mark_program, action_at, page_record}
use Rattle.snapshot.specs.MakeSnapshot.{make_snapshot}
use Rattle.snapshot.specs.Resume.{restore_pages, restore_numbers, restore, resume_from}
use Rattle.snapshot.specs.Resume as snapshot
use Rattle.handover.specs.View.{View, view, does_v, MachineView, view_machine, Whole, WholeMachine, machine_does_v}
use Rattle.handover.specs.Calls.{Named, round_page_up_call, round_page_down_call, get_page_indices_call, memory_call, numbers_call, load_data_call, track_pages_call, untrack_pages_call, store_bytes_call, mark_program_call, page_record_call, make_snapshot_call, resume, program, Given, named, clear_flag_call, fresh_call, clear_flag, Later, answer, leaves}
use Rattle.handover.specs.Reached.{Typed}
use Rattle.handover.specs.Sound.{SoundPage, SoundPages, is_dirty, is_blank, Sound}
use Rattle.handover.specs.Keeping.{NothingLost, KeepsMemory, KeepsNamed, Keeps, Usual}
use Rattle.handover.specs.Hosts.{Stopped}
use Rattle.handover.proofs.WellFormed.{SameLengths, given_lengths, fresh-done}
use Rattle.handover.proofs.Seen.{mask_twice, machine-seen, blank, fresh-seen}
use Rattle.handover.proofs.Gentle.{Good, page-same, page-bytes, Step, stepped-good, flag_step, on_page_step, Kind, asks, sets, inits, kind, op_good, GentleTracked, gentle_kept, gentle_on_memory, gentle_untrack_pages, gentle_page_record, gentle_machine_kept, gentle_make_snapshot}
use Rattle.handover.proofs.Reaching.{reached-whole, reached-fresh, reached_then}
use Rattle.handover.proofs.KeptTracking.{ActionGives, track-kept, mark-kept}
use Rattle.handover.proofs.KeptSources.{context-kept, resume-kept}
use Rattle.handover.proofs.KeptInit.{init_kept, loaded-gives}

-- ---- a flag cleared

module _ (directory sources : List ℕ) (m : Tracked) where
  -- a memory beside the machine's records
  abbrev beside_these : memory.View → View
  beside_these u = record { memory = u; entry = λ q. masked (u.flag q) (record_at m.1 q) }

  page-beside : (u : memory.View) (q : ℕ) → Step (memory.view m.0) u q → SoundPage directory sources (view m) q
      → SoundPage directory sources (beside_these u) q
  page-beside u q (inl n) s = is_dirty n
  page-beside u q (inr e) s =
      page-same directory sources (view m) (beside_these u) q e.0 (ap (λ (f : ℕ). masked f (record_at m.1 q)) e.0)
      (page-bytes (view m) (beside_these u) q e.1)
      s

  clear_pages : (p f : ℕ) → Whole m → NothingLost ((view m).memory.flag p) (cleared ((view m).memory.flag p) f)
      → SoundPages directory sources (view m) → SoundPages directory sources (view (clear_flag p f m).1)
  clear_pages p f w n s =
      subst⁻¹ (λ (u : memory.View). SoundPages directory sources (beside_these u))
      (memory-laws.clear_seen p f m.0 w.memory).seen
      (λ q h. page-beside _ q (on_page_step _ p _ (flag_step (memory.view m.0) p _ n) q) (s q (rw size at h)))
    where
      size : (memory.clear_flag_v p f (memory.view m.0)).1.size ≡ m.0.memory.size
      size =
          cases (λ (r : ℕ × memory.View). r.1.size ≡ m.0.memory.size) (ltb p (m.0.memory.size / page_size)) _ _
          (λ e. refl)
          (λ e. refl)

-- ---- a fresh machine

span-blank : (n a : ℕ) → span (λ x. 0) a n ≡ filled n 0
span-blank n a =
    rw (length-filled n 0) at (sym (span-is (λ x. 0) (filled n 0) a (λ i k. filled_at n 0 i (rw (length-filled n 0) at k))))

blank-pages : (directory sources : List ℕ) (size : ℕ) → SoundPages directory sources (blank size)
blank-pages directory sources size p h = is_blank refl refl (span-blank page_size (p * page_size))

-- whatever the sources are
pub fresh-sound : (directory sources slots flags area records : List ℕ) (size version maximum : ℕ)
    → (fresh slots flags area records size version maximum).0 ≡ 0 → version < versions → Word maximum
    → Sound directory sources (fresh slots flags area records size version maximum).1
fresh-sound directory sources slots flags area records size version maximum done small word =
    record {
      reached = reached-fresh slots flags area records size version maximum done small word;
      pages =
          subst⁻¹ (λ (u : MachineView). SoundPages directory sources u.0)
          (fresh-seen slots flags area records size version maximum done)
          (blank-pages directory sources size);
    }

-- so the theorem's hypotheses are met: with a slot for every page it is stopped
pub fresh_stopped : (directory sources slots flags area records : List ℕ) (size version maximum : ℕ)
    → (fresh slots flags area records size version maximum).0 ≡ 0 → version < versions → Word maximum → size ≤ length area
    → Stopped directory sources (fresh slots flags area records size version maximum).1
fresh_stopped directory sources slots flags area records size version maximum done small word room =
    let e = fresh-done slots flags area records size version maximum done in
    record {
      sound = fresh-sound directory sources slots flags area records size version maximum done small word;
      roomy = rw e room;
      settled = rw e;
    }

-- ---- every call but fresh

module _ (directory sources : List ℕ) where
  -- a call on the pages, beside the machine's numbers
  lifted-good : {A : Type 0} (g : Call A) (v : MachineView) → Good directory sources (run does_v g v.0).1
      → Good directory sources (run machine_does_v (lift g) v).1.0
  lifted-good {A} g v w =
      subst⁻¹ (λ (r : A × MachineView). Good directory sources r.1.0) (lift-run does_v (beside machine.does) g v.0 v.1) w

  -- a flag that is set
  set-kept : (v : View) (p f : ℕ) → NothingLost (v.memory.flag p) (bit_or (v.memory.flag p) f) → Good directory sources v
      → Good directory sources (run does_v (on_memory (sparse.set_flag p f)) v).1
  unfolding sparse.set_flag memory-op.fitting lift run
  set-kept v p f n w =
      stepped-good directory sources (does_v (low memory-op.lengths?) v).1 (memory.does_v (or! p f) v.memory).1
      (memory-laws.op_size_seen (or! p f) v.memory)
      (on_page_step v.memory p _ (flag_step v.memory p _ n))
      (op_good directory sources (low memory-op.lengths?) tt v w)

  module _ (m : LentMachine) (whole : WholeMachine m) (w : Good directory sources (view m.0)) where
    abbrev v : View
    v = view m.0

    size-whole : v.memory.size % page_size ≡ 0
    size-whole = whole.memory.formed.fit.whole

    gentle_good : {A : Type 0} (g : Call A) → GentleTracked g
        → Good directory sources (run machine_does_v (lift g) (view_machine m)).1.0
    gentle_good g a = lifted-good g (view_machine m) (gentle_kept directory sources g a v w)

    memory-good : (c : memory-calls.Named) → Kind c → KeepsMemory m c
        → Good directory sources (run does_v (on_memory (memory-calls.program c)) v).1
    memory-good c (asks a) k = gentle_kept directory sources (on_memory (memory-calls.program c)) (gentle_on_memory _ a) v w
    memory-good c (sets p f) k = set-kept v p f k w
    memory-good c (inits a size flags lead source) k =
        init_kept directory sources v a size flags lead source w size-whole
        (λ e. k ((memory-laws.program-seen (wxorx.init_pages a size flags lead source) m.0.0 whole.memory).out ∙ e))

    -- a resume is refused before it does anything, or drops all tracking and goes on
    resume-good : (file page_file : List ℕ) → ((p : ℕ) → v.entry p ≡ Untracked)
        → Good directory sources (run machine_does_v (snapshot.resume directory sources file page_file) (view_machine m)).1.0
    unfolding snapshot.resume resume_from restore restore_numbers run
    resume-good file page_file none =
        cases P (eqb (in_form file (length page_file)) 0) _ _
        (λ a.
        cases P (eqb m.1.version (snapshot_in file page_file).state.version) _ _
        (λ b. lifted-good (restore_pages directory sources (snapshot_in file page_file)) _
        (resume-kept directory sources v (snapshot_in file page_file) w none size-whole))
        (λ b. w))
        (λ a. w)
      where
        P : MachineCall ℕ → Type 0
        P g = Good directory sources (run machine_does_v g (view_machine m)).1.0

    named-good : (c : Named) → KeepsNamed directory sources m c
        → Good directory sources (run machine_does_v (program c) (view_machine m)).1.0
    unfolding run
    named-good (round_page_up_call a) k = w
    named-good (round_page_down_call a) k = w
    named-good (get_page_indices_call a n) k = w
    named-good (memory_call c) k = lifted-good (on_memory (memory-calls.program c)) (view_machine m) (memory-good c (kind c) k)
    named-good (numbers_call o) k = w
    named-good (load_data_call d s id offset wanted) k = w
    named-good (track_pages_call start size id offset) k =
        lifted-good (track_pages start size id offset) (view_machine m) (track-kept directory sources v start size id offset w k)
    named-good (untrack_pages_call start size) k = gentle_good (untrack_pages start size) (gentle_untrack_pages start size)
    named-good (store_bytes_call d s a id offset wanted size_at) k =
        rw (k.0, k.1)
        (lifted-good (store_bytes directory sources a id offset wanted size_at) (view_machine m)
        (context-kept directory sources v a id offset wanted size_at w size-whole))
    named-good (mark_program_call actions id offset) k =
        lifted-good (mark_program actions id offset) (view_machine m) (mark-kept directory sources v actions id offset w k)
    named-good (page_record_call p) k = gentle_good (page_record p) (gentle_page_record p)
    named-good (make_snapshot_call file pages) k =
        gentle_machine_kept directory sources (make_snapshot (length file) (length pages))
        (gentle_make_snapshot (length file) (length pages)) (view_machine m) w
    named-good (resume d s file page_file) k = rw (k.0, k.1) (resume-good file page_file k.2)

    named-pages : (c : Named) → KeepsNamed directory sources m c
        → SoundPages directory sources (view (run machine_does (program c) m).1.0)
    named-pages c k =
        subst⁻¹ (λ (u : MachineView). SoundPages directory sources u.0) (machine-seen (program c) m whole).seen
        (named-good c k).pages

  -- the table: what a call needs to keep a machine sound
  pub sound-kept : (m : LentMachine) (g : Given) → Later g → Typed g → Keeps directory sources m g → Roomy m.0.0
      → Sound directory sources m → Sound directory sources (answer g m).1
  sound-kept m g later typed keeps room s =
      record { reached = reached_then m s.reached g later typed; pages = after g later keeps }
    where
      whole : WholeMachine m
      whole = reached-whole m s.reached room

      good : Good directory sources (view m.0)
      good =
          record {
            pages = s.pages;
            masked = λ q. mask_twice (get_or m.0.0.flags q 0) (get_or m.0.0.flags q 0) (record_at m.0.1 q) (λ c. c);
          }

      after : (g : Given) → Later g → Keeps directory sources m g → SoundPages directory sources (view (answer g m).1.0)
      after (named c) l k = named-pages m whole good c k
      after (clear_flag_call p f) l k = clear_pages directory sources m.0 p f whole k s.pages
      after (fresh_call size version maximum) l k = absurd l

-- calls in turn, from any sound machine: from a fresh one, what a host may do without a thought
pub usual_sound : (directory sources : List ℕ) (gs : List Given) → Each (Usual directory sources) gs → (m : LentMachine) → Roomy m.0.0
    → Sound directory sources m → Sound directory sources (leaves gs m)
unfolding leaves Each
usual_sound directory sources [] usual m room s = s
usual_sound directory sources (g ∷ gs) usual m room s =
    let u = usual.0 in
    let e = given_lengths g u.0 m in
    usual_sound directory sources gs usual.1 _ (omega (arith, room, e.memory.size, e.memory.area))
    (sound-kept directory sources m g u.0 u.1 (u.2 m) room s)

-- ---- a program loaded, then marked

-- the bytes of an item from an offset and a start on, as an action has them
module _ (directory sources : List ℕ) (a size flags start end lead id offset : ℕ) where
  abbrev pub item : List ℕ
  item = data_of sources (find_data directory (length sources) id (offset + start) (end - start))

  abbrev pub loads : Named
  loads = memory_call (memory-calls.init_pages_call memory-calls.on_wxorx a size flags lead item)

  abbrev pub marks : Named
  marks = mark_program_call (a ∷ size ∷ flags ∷ start ∷ end ∷ lead ∷ []) id offset

  pub loaded-sound : flags < flag_values → Word id → (find_data directory (length sources) id (offset + start) (end - start)).number ≡ 0
      → length item ≡ end - start → (m : LentMachine) → Roomy m.0.0 → Sound directory sources m → (answer (named loads) m).0 ≡ 0
      → Sound directory sources (leaves (named loads ∷ named marks ∷ []) m)
  unfolding leaves
  loaded-sound small word found long m room s done =
      sound-kept directory sources first (named marks) tt word gives (omega (arith, room, e.memory.size, e.memory.area))
      (sound-kept directory sources m (named loads) tt small (λ z. absurd (omega (arith, below, done, z))) room s)
    where
      program-run : memory-op.Call ℕ
      program-run = wxorx.init_pages a size flags lead item

      first : LentMachine
      first = (answer (named loads) m).1

      e : SameLengths m.0 first.0
      e = given_lengths (named loads) tt m

      whole : WholeMachine m
      whole = reached-whole m s.reached room

      seen : Like WholeMachine view_machine (run machine_does (program loads) m) (run machine_does_v (program loads) (view_machine m))
      seen = machine-seen (program loads) m whole

      lifted : run machine_does_v (program loads) (view_machine m)
          ≡ ((run does_v (on_memory program-run) (view m.0)).0, ((run does_v (on_memory program-run) (view m.0)).1, m.1))
      lifted = lift-run does_v (beside machine.does) (on_memory program-run) (view m.0) m.1

      below : (run memory-op.does program-run m.0.0).0 ≡ (answer (named loads) m).0
      below =
          sym
          (ap (λ (x : ℕ × LentMachine). x.0) (lift-run does (beside machine.does) (on_memory program-run) m.0 m.1)
          ∙ ap (λ (x : ℕ × Tracked). x.0) (lift-run memory-op.does owns program-run m.0.0 m.0.1))

      gives : (i : ℕ) → i < 1
          → ActionGives directory sources (view first.0) id offset (action_at (a ∷ size ∷ flags ∷ start ∷ end ∷ lead ∷ []) i)
      gives =
          subst⁻¹
          (λ (u : View). (i : ℕ) → i < 1
          → ActionGives directory sources u id offset (action_at (a ∷ size ∷ flags ∷ start ∷ end ∷ lead ∷ []) i))
          (ap (λ (u : MachineView). u.0) seen.seen ∙ ap (λ (x : ℕ × MachineView). x.1.0) lifted)
          (loaded-gives directory sources (view m.0) a size flags start end lead id offset
          (record { pages = s.pages; masked = λ q. mask_twice (get_or m.0.0.flags q 0) (get_or m.0.0.flags q 0) (record_at m.0.1 q) (λ c. c) })
          whole.memory.formed.fit.whole
          found
          long
          (sym (ap (λ (x : ℕ × MachineView). x.0) lifted) ∙ sym seen.out ∙ done))
