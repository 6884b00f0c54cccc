-- What specs/Keeping.antt asks of calls can't be left out: for each condition a sound machine, with a slot for every page, and a call
-- after which it is not sound.
use mathlib.Core.Path.{◌≡◌, refl, sym, ap, ap₂, ◌∙◌, subst, subst⁻¹}
use mathlib.Core.Bool.{cond}
use mathlib.Core.List.{List, [], ◌∷◌}
use mathlib.Core.Logic.{◌≢◌}
use Prim.Native.Nat.{ℕ, zero, suc, ◌+◌, ◌*◌, ◌/◌, ◌%◌, ◌≤◌, ◌<◌}
use native.Mathlib.Decide.{ℕ_discrete}
use native.Mathlib.Omega.{arith}
use lib.ListN.{length, get_or}
use lib.Seq.{take_all}
use lib.Dec.{eqb}
use lib.Bits.{bit_and, bit_or}
use borrow.Author.Tests.{eq-eqb}
use Rattle.bits.specs.Rounding.{page_size}
use Rattle.words.specs.Bytes.{filled}
use Rattle.words.specs.LittleEndian.{to_le}
use Rattle.words.proofs.Filled.{length-filled, filled_zero}
use Rattle.program.specs.Program.{ret, run, bind, onwards, after, and_then, each, each_in}
use Rattle.program.specs.Layers.{beside, lift}
use Rattle.program.proofs.Lifted.{lift-run}
use Rattle.memory.specs.Pages.{dirty, frozen, executable, wxorx_bit, cleared, pages_within}
use Rattle.memory.specs.Storage.{span}
use Rattle.memory.specs.Operations as memory-op
use Rattle.memory.specs.Sparse as sparse
use Rattle.memory.specs.WXorX as wxorx
use Rattle.memory.specs.Calls as memory-calls
use Rattle.memory.specs.View.{Roomy, at_one}
use Rattle.memory.specs.View as memory
use Rattle.memory.proofs.Lengths.{fits-yes}
use Rattle.memory.proofs.Dirty.{dirty-cleared}
use Rattle.memory.proofs.Span.{span-is}
use Rattle.memory.proofs.Seen as memory-laws
use Rattle.machine.specs.Fresh.{LentMachine, record_words, records_fit, fresh}
use Rattle.machine.specs.Fresh as machine-fresh
use Rattle.machine.specs.Operations as machine
use Rattle.machine.specs.Numbers.{general_registers, fresh_numbers}
use Rattle.recordfile.specs.Records.{flag_values}
use Rattle.recordfile.specs.Form.{least_records, most_records}
use Rattle.recordfile.specs.Snapshots.{SourceRun, Snapshot, kept, source_run, file_of, page_file_of, contents, Word, Each, SourceRanged, Ranged}
use Rattle.recordfile.proofs.RoundTrip.{small-file_of, read_back}
use Rattle.tracking.specs.declared.records.Tracking.{Tracking}
use Rattle.tracking.specs.declared.records.Tracking.TheVariants.{Untracked, Tracked}
use Rattle.tracking.specs.Sources.{Data, find_data, among, data_in, data_of}
use Rattle.tracking.specs.Records.{record_of, record_at}
use Rattle.tracking.specs.Operations.{Call, does, owns, machine_does, on_memory, masked, fitting}
use Rattle.tracking.specs.Tracking.{Stored, stored, not_stored, track_pages, track, track_whole, untrack_pages, untrack, drop_whole, mark_program, mark_actions, mark_action, store_tracked, replace, store_data, store_found, store_bytes}
use Rattle.snapshot.specs.Resume.{store_run, store_source, restore_data, restore_source, restore_runs, restore_pages, restore_numbers, restore, resume_from}
use Rattle.snapshot.specs.Resume as snapshot
use Rattle.handover.specs.View.{View, remasked, entry_at, does_v, MachineView, view_machine, WholeMachine, machine_does_v}
use Rattle.handover.specs.Calls.{Named, memory_call, track_pages_call, store_bytes_call, mark_program_call, resume, program, Given, named, clear_flag_call, Later, answer}
use Rattle.handover.specs.Reached.{Reached, TypedNamed, Typed}
use Rattle.handover.specs.Sound.{page_in, source_gives, SoundPage, SoundPages, is_dirty, is_tracked, is_blank, Sound}
use Rattle.handover.specs.Keeping.{Keeps}
use Rattle.handover.proofs.WellFormed.{FreshFits, fresh_done, fresh-fits, given_lengths}
use Rattle.handover.proofs.Seen.{mask_clean, blank, fresh-seen, machine-seen}
use Rattle.handover.proofs.Effects.{Masked, Tracks}
use Rattle.handover.proofs.Effects as effects
use Rattle.handover.proofs.Storing.{done_then, wx_stored}
use Rattle.handover.proofs.Tracked.{remasked-masked, pages_tracked, RunStored, run_stored}
use Rattle.handover.proofs.Tracked as tracked_laws
use Rattle.handover.proofs.SourceData.{data_none}
use Rattle.handover.proofs.Reaching.{reached-whole, reached-fresh, reached_then}
use Rattle.handover.proofs.Steps.{after_cases, then_kept}
use Rattle.handover.proofs.Kept.{fresh-sound, sound-kept}

-- a sound machine with a slot for every page, which is not sound after the call
pub record Unkept (directory sources : List ℕ) (g : Given) : Type 0 where
  pub machine : LentMachine
  pub roomy : Roomy (machine).0.0
  pub sound : Sound directory sources machine
  pub typed : Typed g
  pub later : Later g
  pub lost : Sound directory sources (answer g machine).1 → ⊥

-- the call doesn't meet the table's condition there
pub unmet : (directory sources : List ℕ) (g : Given) (u : Unkept directory sources g) → Keeps directory sources u.machine g → ⊥
unmet directory sources g u k =
    u.lost (sound-kept directory sources u.machine g u.later u.typed k u.roomy u.sound)

-- ---- machines that our calls reach, by what is seen of them

record Shown (w : MachineView) : Type 0 where
  machine : LentMachine
  reached : Reached machine
  roomy : Roomy (machine).0.0
  seen : view_machine machine ≡ w

whole-shown : {w : MachineView} (s : Shown w) → WholeMachine s.machine
whole-shown s = reached-whole s.machine s.reached s.roomy

-- one call more
seen_then : (w : MachineView) (s : Shown w) (c : Named)
    → view_machine (answer (named c) s.machine).1 ≡ (run machine_does_v (program c) w).1
seen_then w s c =
    (machine-seen (program c) s.machine (whole-shown s)).seen
    ∙ ap (λ (u : MachineView). (run machine_does_v (program c) u).1) s.seen

shown_then : (w : MachineView) → Shown w → (c : Named) → TypedNamed c → Shown (run machine_does_v (program c) w).1
shown_then w s c typed =
    let e = given_lengths (named c) tt s.machine in
    record {
      machine = (answer (named c) s.machine).1;
      reached = reached_then s.machine s.reached (named c) tt typed;
      roomy = omega (arith, s.roomy, e.memory.size, e.memory.area);
      seen = seen_then w s c;
    }

-- the record of a clean page is seen
shown_record : (w : MachineView) (s : Shown w) (p : ℕ) → bit_and (w.0.memory.flag p) dirty ≡ 0
    → record_at s.machine.0.1 p ≡ w.0.entry p
shown_record w s p c =
    sym (mask_clean (get_or s.machine.0.0.flags p 0) _ (ap (λ (u : MachineView). bit_and (u.0.memory.flag p) dirty) s.seen ∙ c))
    ∙ ap (λ (u : MachineView). u.0.entry p) s.seen

-- a call on the memory leaves the records alone
records-same : {A : Type 0} (g : memory-op.Call A) (m : LentMachine) → (run machine_does (lift (on_memory g)) m).1.0.1 ≡ m.0.1
records-same {A} g m =
    ap (λ (r : A × LentMachine). r.1.0.1) (lift-run does (beside machine.does) (on_memory g) m.0 m.1)
    ∙ ap (λ (r : A × machine-fresh.Tracked). r.1.1) (lift-run memory-op.does owns g m.0.0 m.0.1)

-- ---- pages that are not sound

-- what an entry says
abbrev There : Tracking → Type 0
There Untracked = ⊥
There (Tracked id offset flag) = Unit {0}

abbrev id_of : Tracking → ℕ
id_of Untracked = 0
id_of (Tracked id offset flag) = id

abbrev offset_of : Tracking → ℕ
offset_of Untracked = 0
offset_of (Tracked id offset flag) = offset

abbrev flag_of : Tracking → ℕ
flag_of Untracked = 0
flag_of (Tracked id offset flag) = flag

-- the first of some bytes
span_front : (f : ℕ → ℕ) (a n : ℕ) → 0 < n → f a ≡ get_or (span f a n) 0 0
unfolding span
span_front f a zero h = absurd (omega arith)
span_front f a (suc n) h = refl

-- a page without the dirty flag
module _ (directory sources : List ℕ) (v : View) (p : ℕ) (c : bit_and (v.memory.flag p) dirty ≡ 0) where
  -- untracked, and not blank
  untracked-lost : v.entry p ≡ Untracked → (v.memory.flag p ≡ 0 → page_in v p ≡ filled page_size 0 → ⊥)
      → SoundPage directory sources v p → ⊥
  untracked-lost e n (is_dirty d) = d c
  untracked-lost e n (is_tracked id offset d t g) = subst There (sym t ∙ e) tt
  untracked-lost e n (is_blank z t g) = n z g

  flag-lost : v.entry p ≡ Untracked → v.memory.flag p ≢ 0 → SoundPage directory sources v p → ⊥
  flag-lost e n = untracked-lost e (λ z g. n z)

  byte-lost : v.entry p ≡ Untracked → v.memory.byte (p * page_size) ≢ 0 → SoundPage directory sources v p → ⊥
  byte-lost e n =
      untracked-lost e
      (λ z g. n (span_front _ _ _ (omega arith) ∙ ap (λ (l : List ℕ). get_or l 0 0) g ∙ filled_zero page_size 0))

  -- tracked, with another flag or from another source
  tracked-lost : (id offset f : ℕ) → v.entry p ≡ Tracked id offset f
      → (f ≡ v.memory.flag p → source_gives directory sources id offset ≡ page_in v p → ⊥) → SoundPage directory sources v p → ⊥
  tracked-lost id offset f e n (is_dirty d) = d c
  tracked-lost id offset f e n (is_tracked id₂ offset₂ d t g) =
      let same : Tracked id offset f ≡ Tracked id₂ offset₂ (v.memory.flag p) = sym e ∙ t in
      n (ap flag_of same) (ap₂ (source_gives directory sources) (ap id_of same) (ap offset_of same) ∙ g)
  tracked-lost id offset f e n (is_blank z t g) = subst There (sym e ∙ t) tt

module _ (directory sources : List ℕ) where
  shown-sound : (w : MachineView) (s : Shown w) → SoundPages directory sources w.0 → Sound directory sources s.machine
  shown-sound w s pages =
      record {
        reached = s.reached;
        pages = subst⁻¹ (λ (u : MachineView). SoundPages directory sources u.0) s.seen pages;
      }

  -- page 0 is there, and isn't sound
  abbrev Lost : View → Type 0
  Lost v = (0 < v.memory.size / page_size) × (SoundPage directory sources v 0 → ⊥)

  -- a machine whose pages are sound, and a call after which one is not
  unkept : (w : MachineView) → Shown w → SoundPages directory sources w.0 → (c : Named) → TypedNamed c
      → Lost (run machine_does_v (program c) w).1.0 → Unkept directory sources (named c)
  unkept w s pages c typed lost =
      record {
        machine = s.machine;
        roomy = s.roomy;
        sound = shown-sound w s pages;
        typed = typed;
        later = tt;
        lost = λ t. lost.1 (subst (λ (u : MachineView). SoundPages directory sources u.0) (seen_then w s c) t.pages 0 lost.0);
      }

  -- a memory beside the records of a machine
  abbrev beside_these : LentMachine → memory.View → View
  beside_these m u = record { memory = u; entry = λ q. masked (u.flag q) (record_at m.0.1 q) }

  unkept_clear : (w : MachineView) (s : Shown w) → SoundPages directory sources w.0 → (p f : ℕ) → f < flag_values
      → Lost (beside_these s.machine (memory.clear_flag_v p f w.0.memory).1) → Unkept directory sources (clear_flag_call p f)
  unkept_clear w s pages p f small lost =
      record {
        machine = s.machine;
        roomy = s.roomy;
        sound = shown-sound w s pages;
        typed = small;
        later = tt;
        lost = λ t.
            lost.1
            (subst (λ (u : memory.View). SoundPages directory sources (beside_these s.machine u))
            ((memory-laws.clear_seen p f s.machine.0.0 (whole-shown s).memory).seen
            ∙ ap (λ (u : MachineView). (memory.clear_flag_v p f u.0.memory).1) s.seen)
            t.pages
            0
            lost.0);
      }

-- ---- a fresh machine of n pages

module _ (n : ℕ) (few : n ≤ 1024) where
  -- what is lent for it
  abbrev cells : List ℕ
  cells = filled n 0

  abbrev area : List ℕ
  area = filled (n * page_size) 0

  abbrev records : List ℕ
  records = filled (record_words * n) 0

  abbrev made : ℕ × LentMachine
  made = fresh cells cells area records (n * page_size) 0 0

  made-fits : FreshFits cells cells area records (n * page_size) 0 0
  unfolding records_fit
  made-fits =
      let f : length cells ≡ n = length-filled n 0 in
      let a : length area ≡ n * page_size = length-filled (n * page_size) 0 in (
        eq-eqb (length records) (record_words * (n * page_size / page_size)) (omega (arith, length-filled (record_words * n) 0)),
        fits-yes _ _ _ _
            (record {
              whole = omega arith;
              small = omega arith;
              slots_are = omega arith;
              flags_are = omega arith;
              area_whole = omega arith;
              area_small = omega arith;
              used_in = omega arith;
            }),
      )

  made-is : made ≡ fresh_done cells cells area records (n * page_size) 0 0
  made-is = fresh-fits cells cells area records (n * page_size) 0 0 made-fits

  made-done : made.0 ≡ 0
  made-done = ap (λ (r : ℕ × LentMachine). r.0) made-is

  abbrev blank_machine : MachineView
  blank_machine = (blank (n * page_size), fresh_numbers 0 0)

  start : Shown blank_machine
  start =
      record {
        machine = made.1;
        reached = reached-fresh cells cells area records (n * page_size) 0 0 made-done (omega arith) (omega arith);
        roomy =
            subst⁻¹ (λ (r : ℕ × LentMachine). Roomy r.1.0.0) made-is (omega (arith, length-filled (n * page_size) 0));
        seen = fresh-seen cells cells area records (n * page_size) 0 0 made-done;
      }

  start-sound : (directory sources : List ℕ) → SoundPages directory sources blank_machine.0
  start-sound directory sources =
      subst (λ (u : MachineView). SoundPages directory sources u.0)
      (fresh-seen cells cells area records (n * page_size) 0 0 made-done)
      (fresh-sound directory sources cells cells area records (n * page_size) 0 0 made-done (omega arith) (omega arith)).pages

  start-untracked : (p : ℕ) → record_at start.machine.0.1 p ≡ Untracked
  unfolding start record_of
  start-untracked p =
      subst⁻¹ (λ (r : ℕ × LentMachine). record_at r.1.0.1 p ≡ Untracked) made-is
      (rw (filled_zero (length records) (p * record_words + 2)))

  blank-bytes : (p : ℕ) → p < n * page_size / page_size → page_in blank_machine.0 p ≡ filled page_size 0
  blank-bytes p h = bytes_of (start-sound [] [] p h)
    where
      bytes_of : SoundPage [] [] blank_machine.0 p → page_in blank_machine.0 p ≡ filled page_size 0
      bytes_of (is_dirty d) = absurd (d refl)
      bytes_of (is_tracked id offset d t g) = absurd (subst There (sym t) tt)
      bytes_of (is_blank z t g) = g

-- of one page
one_page : 1 ≤ 1024
one_page = omega arith

unkept_fresh : (directory sources : List ℕ) (c : Named) → TypedNamed c
    → Lost directory sources (run machine_does_v (program c) (blank_machine 1 one_page)).1.0 → Unkept directory sources (named c)
unkept_fresh directory sources c typed lost =
    unkept directory sources (blank_machine 1 one_page) (start 1 one_page) (start-sound 1 one_page directory sources) c typed lost

-- ---- flags set

module _ (directory sources : List ℕ) (f : ℕ) (small : f < flag_values) (n : f ≢ 0) (c : bit_and f dirty ≡ 0) where
  -- set_flag of a clean page
  pub set-flag-unkept : Unkept directory sources (named (memory_call (memory-calls.set_flag_call 0 f)))
  unfolding run lift sparse.set_flag memory-op.fitting at_one masked
  set-flag-unkept =
      unkept_fresh directory sources (memory_call (memory-calls.set_flag_call 0 f)) small
      (omega arith, flag-lost directory sources _ 0 c (mask_clean f Untracked c) n)

  -- W^X init_pages that is refused 5: the second page is frozen, so that the first gets its flags and no bytes
  pub init_pages_unkept : Unkept directory sources (named (memory_call (memory-calls.init_pages_call memory-calls.on_wxorx 0 (2 * page_size) f 0 [])))
  unfolding run lift sparse.set_flag wxorx.init_pages wxorx.in_bounds wxorx.init_flag after bind each memory-op.fitting at_one masked
  init_pages_unkept =
      unkept directory sources _ (shown_then _ (start 2 (omega arith)) freeze (omega arith)) frozen-sound
      (memory_call (memory-calls.init_pages_call memory-calls.on_wxorx 0 (2 * page_size) f 0 []))
      small
      (omega arith, flag-lost directory sources _ 0 c (ap (masked f) (mask_clean f Untracked c) ∙ mask_clean f Untracked c) n)
    where
      freeze : Named
      freeze = memory_call (memory-calls.set_flag_call 1 (bit_or dirty frozen))

      frozen-sound : SoundPages directory sources (run machine_does_v (program freeze) (blank_machine 2 (omega arith))).1.0
      frozen-sound zero h = is_blank refl refl (blank-bytes 2 (omega arith) 0 (omega arith))
      frozen-sound (suc zero) h = is_dirty (λ e. absurd (omega arith))
      frozen-sound (suc (suc p)) h = absurd (omega arith)

-- ---- dirty cleared, of a page that was stored to

module _ (directory sources : List ℕ) (x : ℕ) (n : x ≢ 0) where
  store : Named
  store = memory_call (memory-calls.store_bytes_call memory-calls.on_wxorx 0 (x ∷ []))

  stored_to : Shown (run machine_does_v (program store) (blank_machine 1 one_page)).1
  unfolding store
  stored_to = shown_then (blank_machine 1 one_page) (start 1 one_page) store tt

  still_untracked : record_at stored_to.machine.0.1 0 ≡ Untracked
  unfolding store shown_then stored_to
  still_untracked =
      ap (λ (l : List ℕ). record_at l 0) (records-same (wxorx.store_bytes 0 (x ∷ [])) (start 1 one_page).machine)
      ∙ start-untracked 1 one_page 0

  pub clear_dirty_unkept : Unkept directory sources (clear_flag_call 0 dirty)
  unfolding store run lift wxorx.store_bytes wxorx.permitted sparse.permits sparse.permit pages_within sparse.store sparse.store_over after bind each memory-op.fitting at_one memory.placed masked
  clear_dirty_unkept =
      unkept_clear directory sources _ stored_to stored-sound 0 dirty (omega arith)
      (omega arith, byte-lost directory sources _ 0 refl still_untracked n)
    where
      stored-sound : SoundPages directory sources (run machine_does_v (program store) (blank_machine 1 one_page)).1.0
      stored-sound zero h = is_dirty (λ e. absurd (omega arith))
      stored-sound (suc p) h = absurd (omega arith)

-- ---- pages tracked that the source doesn't give

module _ (directory sources : List ℕ) (id : ℕ) (word : Word id) (other : source_gives directory sources id 0 ≢ filled page_size 0) where
  not_given : {f g : ℕ} → f ≡ g → source_gives directory sources id 0 ≡ page_in (blank page_size) 0 → ⊥
  not_given e s = other (s ∙ blank-bytes 1 one_page 0 (omega arith))

  pub track-pages-unkept : Unkept directory sources (named (track_pages_call 0 page_size id 0))
  unfolding run lift track_pages track track_whole after bind each fitting at_one entry_at
  track-pages-unkept =
      unkept_fresh directory sources (track_pages_call 0 page_size id 0) word
      (omega arith, tracked-lost directory sources _ 0 refl id 0 0 refl not_given)

  -- the same by one action: address, size, flags, source start, source end, lead
  pub mark-program-unkept : Unkept directory sources (named (mark_program_call (0 ∷ page_size ∷ 0 ∷ 0 ∷ page_size ∷ 0 ∷ []) id 0))
  unfolding run lift mark_program mark_actions mark_action track_pages track track_whole after bind each fitting at_one entry_at
  mark-program-unkept =
      unkept_fresh directory sources (mark_program_call (0 ∷ page_size ∷ 0 ∷ 0 ∷ page_size ∷ 0 ∷ []) id 0) word
      (omega arith, tracked-lost directory sources _ 0 refl id 0 0 refl not_given)

-- ---- resume

zero_words : (n : ℕ) → Each Word (filled n 0)
unfolding Each filled
zero_words zero = tt
zero_words (suc n) = (omega arith, zero_words n)

-- a snapshot of zeros with these source runs, and no dirty page
abbrev pub runs_alone : List SourceRun → Snapshot
runs_alone runs = record { state = kept 0 0 0 0 0; registers = filled general_registers 0; sources = runs; dirty = [] }

runs_ranged : (runs : List SourceRun) → Each SourceRanged runs → least_records + (length runs + 0) ≤ most_records → Ranged (runs_alone runs)
unfolding page_file_of contents Each
runs_ranged runs ranged few =
    record {
      version_small = omega arith;
      pc_word = omega arith;
      cycles_word = omega arith;
      maximum_word = omega arith;
      reservation_word = omega arith;
      registers_are = length-filled general_registers 0;
      register_words = zero_words general_registers;
      sources_ranged = ranged;
      dirty_ranged = tt;
      few = few;
      pages_word = omega arith;
    }

-- the files of a snapshot, resumed
abbrev pub resumes : List ℕ → List ℕ → Snapshot → Named
resumes directory sources s = resume directory sources (file_of s) (page_file_of s)

resumes-typed : (directory sources : List ℕ) (s : Snapshot) → Ranged s → TypedNamed (resumes directory sources s)
resumes-typed directory sources s ranged = (small-file_of s, ranged.pages_word)

resumes_run : (directory sources : List ℕ) (s : Snapshot) → Ranged s → (w : MachineView)
    → run machine_does_v (program (resumes directory sources s)) w ≡ run machine_does_v (resume_from directory sources s) w
unfolding run snapshot.resume
resumes_run directory sources s ranged w =
    let e = read_back s ranged in
    λ i. run machine_does_v (onwards (λ n. n) (resume_from directory sources (e.1 i)) (e.0 i)) w

-- ---- a page that is executable and tracked

module _ (directory sources : List ℕ) (id : ℕ) (word : Word id) (gives : source_gives directory sources id 0 ≡ filled page_size 0) where
  mark-executable : Named
  mark-executable = memory_call (memory-calls.set_flag_call 0 (bit_or dirty executable))

  abbrev executable-seen : MachineView
  executable-seen = (run machine_does_v (program mark-executable) (blank_machine 1 one_page)).1

  abbrev tracked-seen : MachineView
  tracked-seen = (run machine_does_v (program (track_pages_call 0 page_size id 0)) executable-seen).1

  tracked : Shown tracked-seen
  unfolding mark-executable
  tracked =
      shown_then executable-seen (shown_then (blank_machine 1 one_page) (start 1 one_page) mark-executable (omega arith))
      (track_pages_call 0 page_size id 0)
      word

  tracked-sound : SoundPages directory sources tracked-seen.0
  unfolding mark-executable run lift sparse.set_flag memory-op.fitting track_pages track track_whole after bind each fitting at_one entry_at
  tracked-sound zero h = is_tracked id 0 refl refl (gives ∙ sym (blank-bytes 1 one_page 0 (omega arith)))
  tracked-sound (suc p) h = absurd (omega arith)

  -- clear_flag of another bit: the record has it still
  pub clear_flag_unkept : Unkept directory sources (clear_flag_call 0 executable)
  unfolding mark-executable run lift sparse.set_flag memory-op.fitting track_pages track track_whole after bind each fitting at_one entry_at masked
  clear_flag_unkept =
      unkept_clear directory sources tracked-seen tracked tracked-sound 0 executable (omega arith) (
        omega arith,
        tracked-lost directory sources _ 0 refl id 0 executable (shown_record tracked-seen tracked 0 refl) (λ e s. absurd (omega arith)),
      )

  -- a resume: it drops the record, and the flag stays
  pub resume-unkept : Unkept directory sources (named (resumes directory sources (runs_alone [])))
  unfolding mark-executable run lift sparse.set_flag memory-op.fitting track_pages track track_whole after bind each fitting at_one entry_at masked resume_from restore restore_numbers restore_pages restore_runs each_in sparse.set_lr Each
  resume-unkept =
      let ranged : Ranged (runs_alone []) = runs_ranged [] tt (omega arith) in
      unkept directory sources tracked-seen tracked tracked-sound (resumes directory sources (runs_alone []))
      (resumes-typed directory sources (runs_alone []) ranged)
      (subst⁻¹ (λ (r : ℕ × MachineView). Lost directory sources r.1.0)
      (resumes_run directory sources (runs_alone []) ranged tracked-seen)
      (omega arith, flag-lost directory sources _ 0 refl refl (λ e. absurd (omega arith))))

-- ---- other sources

-- the first page, from an item's first byte on
abbrev pub page_one_run : ℕ → SourceRun
page_one_run id = source_run 0 0 id 0 page_size

module _ (id : ℕ) (bytes : List ℕ) (page : length bytes ≡ page_size) where
  -- a page whose bytes are these, tracked
  record Holds (v : View) : Type 0 where
    size : v.memory.size ≡ page_size
    clean : bit_and (v.memory.flag 0) dirty ≡ 0
    entry : v.entry 0 ≡ Tracked id 0 (v.memory.flag 0)
    held : page_in v 0 ≡ bytes

  -- a step that leaves them from address 0 on, then track
  tracked_then : (g : Call ℕ) (v : View) → (run does_v g v).0 ≡ 0 → (run does_v g v).1.memory.size ≡ page_size
      → ((i : ℕ) → i < length bytes → (run does_v g v).1.memory.byte (0 + i) ≡ get_or bytes i 0)
      → Holds (run does_v (and_then g (track_pages 0 (length bytes) id 0)) v).1
  tracked_then g v done size byte =
      subst⁻¹ (λ (r : ℕ × View). Holds r.1)
      (done_then does_v g (track_pages 0 (length bytes) id 0) v done ∙ ap (λ (n : ℕ). run does_v (track_pages 0 n id 0) u) page)
      (record {
        size = tk.size ∙ size;
        clean = ap (λ (f : ℕ). bit_and f dirty) flag ∙ dirty-cleared (u.memory.flag 0);
        entry = tk.entry_inside 0 (omega arith) (omega arith) ∙ ap (Tracked id 0) (sym flag);
        held =
            ap (span left.memory.byte 0) (sym page)
            ∙ sym (span-is left.memory.byte bytes 0 (λ i k. sym (tk.byte (0 + i) ∙ byte i k)));
      })
    where
      u : View
      u = (run does_v g v).1

      left : View
      left = (run does_v (track_pages 0 page_size id 0) u).1

      tk : Tracks u 0 1 id 0 (run does_v (track_pages 0 page_size id 0) u)
      tk = pages_tracked u 0 1 id 0 (omega arith) (omega arith) (omega arith)

      flag : left.memory.flag 0 ≡ cleared (u.memory.flag 0) dirty
      flag = tk.flag_inside 0 (omega arith) (omega arith)

  -- ".. store, track"
  store-tracked : (v : View) → Masked v → v.memory.size ≡ page_size → bit_and (v.memory.flag 0) wxorx_bit ≡ 0
      → Holds (run does_v (store_tracked 0 id 0 bytes) v).1
  unfolding store_tracked
  store-tracked v shut e free =
      tracked_then (on_memory (wxorx.store_bytes 0 bytes)) v (ap (λ (r : ℕ × View). r.0) m ∙ st.done)
      (ap (λ (r : ℕ × View). r.1.memory.size) m ∙ st.size ∙ e)
      (λ i k. ap (λ (r : ℕ × View). r.1.memory.byte (0 + i)) m ∙ st.byte_inside i k)
    where
      st : effects.Stored v.memory 0 bytes (run memory.does_v (wxorx.store_bytes 0 bytes) v.memory)
      st =
          wx_stored v.memory 0 bytes (omega arith) (omega arith) (omega arith)
          (λ q t. let z : q ≡ 0 = omega (arith, t.below) in rw z free)

      m : run does_v (on_memory (wxorx.store_bytes 0 bytes)) v ≡ remasked v (run memory.does_v (wxorx.store_bytes 0 bytes) v.memory)
      m = tracked_laws.memory_call (wxorx.store_bytes 0 bytes) v shut

  -- "store; set flags; track", on a fresh machine of one page
  source-stored : Holds (run does_v (store_source 0 0 id 0 bytes) (blank page_size)).1
  unfolding store_source
  source-stored = tracked_then (on_memory (store_run 0 0 bytes)) (blank page_size) st.done st.size st.byte_inside
    where
      st : RunStored (blank page_size) 0 0 bytes (run does_v (on_memory (store_run 0 0 bytes)) (blank page_size))
      st =
          run_stored (blank page_size) 0 0 bytes (λ q. mask_clean 0 Untracked refl) (omega arith) (omega arith) (omega arith) (omega arith)
          (λ q a b. refl)

  -- "Last, the reservation."
  reserved_then : (x : ℕ) (v : View) → Holds v → Holds (run does_v (on_memory (sparse.set_lr x)) v).1
  unfolding run lift sparse.set_lr
  reserved_then x v h =
      record {
        size = h.size;
        clean = h.clean;
        entry = mask_clean (v.memory.flag 0) (v.entry 0) h.clean ∙ h.entry;
        held = h.held;
      }

  -- "store the full length .., untrack", on a fresh machine of one page
  module _ (full : ℕ) where
    abbrev sized : View
    sized = (run does_v (on_memory (wxorx.store_wide 8 0 full)) (blank page_size)).1

    abbrev dropped : View
    dropped = (run does_v (untrack_pages 0 page_size) sized).1

    sized_then : run does_v (store_data 0 full 0 id 0 bytes) (blank page_size) ≡ run does_v (replace 0 id 0 bytes) sized
    unfolding store_data run lift wxorx.store_wide to_le wxorx.store_bytes wxorx.permitted sparse.permits sparse.permit pages_within sparse.store sparse.store_over after bind each memory-op.fitting at_one
    sized_then = done_then does_v (on_memory (wxorx.store_wide 8 0 full)) (replace 0 id 0 bytes) (blank page_size) refl

    dropped_then : run does_v (replace 0 id 0 bytes) sized ≡ run does_v (store_tracked 0 id 0 bytes) dropped
    unfolding replace run lift wxorx.store_wide to_le wxorx.store_bytes wxorx.permitted sparse.permits sparse.permit pages_within sparse.store sparse.store_over after bind each memory-op.fitting at_one untrack_pages untrack drop_whole fitting
    dropped_then =
        let e : (run does_v (untrack_pages 0 (length bytes)) sized).0 ≡ 0 = ap (λ (n : ℕ). (run does_v (untrack_pages 0 n) sized).0) page in
        done_then does_v (untrack_pages 0 (length bytes)) (store_tracked 0 id 0 bytes) sized e
        ∙ ap (λ (n : ℕ). run does_v (store_tracked 0 id 0 bytes) (run does_v (untrack_pages 0 n) sized).1) page

    data_stored : Holds (run does_v (store_data 0 full 0 id 0 bytes) (blank page_size)).1
    unfolding run lift wxorx.store_wide to_le wxorx.store_bytes wxorx.permitted sparse.permits sparse.permit pages_within sparse.store sparse.store_over after bind each memory-op.fitting at_one untrack_pages untrack drop_whole fitting
    data_stored =
        subst⁻¹ (λ (r : ℕ × View). Holds r.1) (sized_then ∙ dropped_then)
        (store-tracked dropped (remasked-masked sized (memory.does_v (memory-op.or! 0 dirty) sized.memory)) refl refl)

-- a page that the sources d and s give, and those of Sound do not
module _ (directory sources d s : List ℕ) (id : ℕ) (word : Word id) (page : length (source_gives d s id 0) ≡ page_size)
    (other : source_gives directory sources id 0 ≢ source_gives d s id 0) where
  abbrev place : Data
  place = find_data d (length s) id 0 page_size

  abbrev bytes : List ℕ
  bytes = source_gives d s id 0

  -- it is tracked
  abbrev Given-page : View → Type 0
  Given-page v = Holds id bytes page v

  given-lost : (v : View) → Given-page v → Lost directory sources v
  given-lost v h = (
    omega (arith, h.size),
    tracked-lost directory sources v 0 h.clean id 0 (v.memory.flag 0) h.entry (λ e g. other (g ∙ h.held)),
  )

  found-there : place.number ≡ 0
  found-there = elim (ℕ_discrete place.number 0) [
    | yes e ↦ e
    | no n ↦ absurd (omega (arith, ap length (data_none d s id 0 page_size n)))
  ]

  -- by a context store
  bytes_stored : Given-page (run does_v (store_bytes d s 0 id 0 page_size 0) (blank page_size)).1
  unfolding store_bytes fitting store_found run
  bytes_stored =
      subst⁻¹ (λ (n : ℕ). P (run does_v (onwards not_stored rest n) (blank page_size))) found-there
      (after_cases does_v P not_stored (store_data 0 place.full 0 id 0 bytes) _ (blank page_size)
      (λ e. data_stored id bytes page place.full)
      (λ e. data_stored id bytes page place.full))
    where
      P : Stored × View → Type 0
      P r = Given-page r.1

      rest : Call Stored
      rest = after not_stored (store_data 0 place.full 0 id 0 bytes) (ret (stored place.count place.full))

  pub store-bytes-unkept : Unkept directory sources (named (store_bytes_call d s 0 id 0 page_size 0))
  store-bytes-unkept =
      unkept_fresh directory sources (store_bytes_call d s 0 id 0 page_size 0) word
      (subst⁻¹ (λ (r : Stored × MachineView). Lost directory sources r.1.0)
      (lift-run does_v (beside machine.does) (store_bytes d s 0 id 0 page_size 0) (blank page_size) (fresh_numbers 0 0))
      (given-lost _ bytes_stored))

  -- by a resume of one source run
  run-restored : Given-page (run does_v (restore_source d s (page_one_run id)) (blank page_size)).1
  unfolding restore_source restore_data
  run-restored =
      subst⁻¹ (λ (n : ℕ). P (run does_v (onwards (λ n. n) (whole (length bytes)) n) (blank page_size))) found-there
      (subst⁻¹ (λ (n : ℕ). P (run does_v (whole n) (blank page_size))) page (source-stored id bytes page))
    where
      P : ℕ × View → Type 0
      P r = Given-page r.1

      whole : ℕ → Call ℕ
      whole n = cond (eqb (n % page_size) 0) (store_source 0 0 id 0 bytes) (ret 3)

  pages-restored : Given-page (run does_v (restore_pages d s (runs_alone (page_one_run id ∷ []))) (blank page_size)).1
  unfolding restore_pages restore_runs each_in run
  pages-restored =
      then_kept does_v P (restore_runs d s (page_one_run id ∷ []) []) (on_memory (sparse.set_lr 0)) (blank page_size)
      (then_kept does_v P (each_in (restore_source d s) (page_one_run id ∷ [])) (ret 0) (blank page_size)
      (then_kept does_v P (restore_source d s (page_one_run id)) (ret 0) (blank page_size) run-restored (λ t h. h))
      (λ t h. h))
      (reserved_then id bytes page 0)
    where
      P : ℕ × View → Type 0
      P r = Given-page r.1

  run-ranged : Ranged (runs_alone (page_one_run id ∷ []))
  unfolding Each
  run-ranged =
      runs_ranged (page_one_run id ∷ [])
      (record { address_word = omega arith; flag_small = omega arith; id_word = word; offset_word = omega arith; size_word = omega arith }, tt)
      (omega arith)

  pub resume-other-unkept : Unkept directory sources (named (resumes d s (runs_alone (page_one_run id ∷ []))))
  unfolding run resume_from restore restore_numbers
  resume-other-unkept =
      unkept_fresh directory sources (resumes d s (runs_alone (page_one_run id ∷ [])))
      (resumes-typed d s (runs_alone (page_one_run id ∷ [])) run-ranged)
      (subst⁻¹ (λ (r : ℕ × MachineView). Lost directory sources r.1.0)
      (resumes_run d s (runs_alone (page_one_run id ∷ [])) run-ranged (blank_machine 1 one_page)
      ∙ lift-run does_v (beside machine.does) (restore_pages d s (runs_alone (page_one_run id ∷ []))) (blank page_size) _)
      (given-lost _ pages-restored))

-- ---- the table of specs/Keeping.antt

-- an item that is a page of zeros, and its directory
abbrev pub item_id : ℕ
item_id = 7

abbrev pub item : List ℕ
item = item_id ∷ 0 ∷ page_size ∷ []

abbrev pub zeros : List ℕ
zeros = filled page_size 0

item_given : source_gives item zeros item_id 0 ≡ zeros
unfolding find_data among data_in
item_given =
    ap (λ (room : ℕ). data_of zeros (find_data item room item_id 0 page_size)) (length-filled page_size 0)
    ∙ take_all page_size zeros (omega (arith, length-filled page_size 0))

item-page : length (source_gives item zeros item_id 0) ≡ page_size
item-page = ap length item_given ∙ length-filled page_size 0

-- no directory, or no source bytes: nothing is given
no_directory : (sources : List ℕ) → source_gives [] sources item_id 0 ≡ []
unfolding find_data among
no_directory sources = refl

no-sources : source_gives item [] item_id 0 ≡ []
unfolding find_data among data_in
no-sources = refl

none_given : (directory sources : List ℕ) → source_gives directory sources item_id 0 ≡ [] → (l : List ℕ) → length l ≡ page_size
    → source_gives directory sources item_id 0 ≢ l
none_given directory sources e l n f = absurd (omega (arith, ap length e, ap length f))

-- none of its conditions can be left out, nor a part of one
pub record Needed : Type 0 where
  pub set_flag_call : Unkept [] [] (named (memory_call (memory-calls.set_flag_call 0 executable)))
  pub init_pages_call : Unkept [] [] (named (memory_call (memory-calls.init_pages_call memory-calls.on_wxorx 0 (2 * page_size) executable 0 [])))
  pub clear_dirty : Unkept [] [] (clear_flag_call 0 dirty)
  pub clear_other : Unkept item zeros (clear_flag_call 0 executable)
  pub track : Unkept [] [] (named (track_pages_call 0 page_size item_id 0))
  pub mark : Unkept [] [] (named (mark_program_call (0 ∷ page_size ∷ 0 ∷ 0 ∷ page_size ∷ 0 ∷ []) item_id 0))
  -- a context store from another directory, and from other source bytes
  pub store_directory : Unkept [] zeros (named (store_bytes_call item zeros 0 item_id 0 page_size 0))
  pub store_sources : Unkept item [] (named (store_bytes_call item zeros 0 item_id 0 page_size 0))
  -- and a resume
  pub resume_directory : Unkept [] zeros (named (resumes item zeros (runs_alone (page_one_run item_id ∷ []))))
  pub resume_sources : Unkept item [] (named (resumes item zeros (runs_alone (page_one_run item_id ∷ []))))
  -- a resume onto a machine with a tracked page
  pub resume_tracked : Unkept item zeros (named (resumes item zeros (runs_alone [])))

pub needed : Needed
needed =
    record {
      set_flag_call = set-flag-unkept [] [] executable (omega arith) (λ e. absurd (omega arith)) refl;
      init_pages_call = init_pages_unkept [] [] executable (omega arith) (λ e. absurd (omega arith)) refl;
      clear_dirty = clear_dirty_unkept [] [] 1 (λ e. absurd (omega arith));
      clear_other = clear_flag_unkept item zeros item_id (omega arith) item_given;
      track = track-pages-unkept [] [] item_id (omega arith) untrackable;
      mark = mark-program-unkept [] [] item_id (omega arith) untrackable;
      store_directory = store-bytes-unkept [] zeros item zeros item_id (omega arith) item-page other_directory;
      store_sources = store-bytes-unkept item [] item zeros item_id (omega arith) item-page other-sources;
      resume_directory = resume-other-unkept [] zeros item zeros item_id (omega arith) item-page other_directory;
      resume_sources = resume-other-unkept item [] item zeros item_id (omega arith) item-page other-sources;
      resume_tracked = resume-unkept item zeros item_id (omega arith) item_given;
    }
  where
    untrackable : source_gives [] [] item_id 0 ≢ zeros
    untrackable = none_given [] [] (no_directory []) zeros (length-filled page_size 0)

    other_directory : source_gives [] zeros item_id 0 ≢ source_gives item zeros item_id 0
    other_directory = none_given [] zeros (no_directory zeros) _ item-page

    other-sources : source_gives item [] item_id 0 ≢ source_gives item zeros item_id 0
    other-sources = none_given item [] no-sources _ item-page
