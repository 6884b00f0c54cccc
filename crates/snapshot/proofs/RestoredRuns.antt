-- Records in the form: the state record and the register records, read in turn, and the runs after them, restored record by record.
use mathlib.Core.Path.{◌≡◌, refl, sym, ap, ◌∙◌}
use mathlib.Core.Bool.{Bool, true, false, cond}
use mathlib.Core.List.{List, [], ◌∷◌, ◌++◌, append-nil, append_assoc}
use mathlib.Core.Logic.{◌≢◌}
use Prim.Native.Nat.{ℕ, zero, suc, ◌+◌, ◌*◌, ◌≤◌, ◌<◌}
use native.Mathlib.Omega.{arith}
use lib.ListN.{length, set, get_or, length-set}
use lib.Dec.{eqb}
use borrow.Author.Tests.{eqb-true, eq-eqb}
use Rattle.std.proofs.Common.{get_or-set_other, get_or-set_same}
use Rattle.outcome.specs.Numbers.{refusal_number}
use Rattle.outcome.specs.declared.Refusal.{Refusal}
use Rattle.program.specs.Program.{Prog, ret, run, bind, after, and_then, each_in}
use Rattle.program.proofs.Laws.{after_run, then_done, then_stop}
use Rattle.program.proofs.Lists.{each_in_none, each_in_turn, each_in_stop}
use Rattle.memory.proofs.Refused.{refused}
use Rattle.machine.specs.Fresh.{Tracked}
use Rattle.recordfile.specs.declared.Record.{Record}
use Rattle.recordfile.specs.declared.Record.TheVariants.{State, Registers, Source, Dirty, Bad}
use Rattle.recordfile.specs.Records.{records_in}
use Rattle.recordfile.specs.Form.{Form, malformed, register_records, registers_a_record, dirty_needs, runs_need, registers_need, records_need, in_form}
use Rattle.recordfile.specs.Snapshots.{kept_in, registers_in, sources_in, dirty_in, of_records, snapshot_in, state_record, register_records_of}
use Rattle.recordfile.proofs.Judging.{NotState, NotRegisters, no-state, RegistersTo, registers-start, registers-none, registers-other, registers-apart, registers-next}
use Rattle.recordfile.proofs.SnapshotRecords.{registers-need, registers_read, registers-sources, registers-dirty}
use Rattle.recordfile.proofs.SnapshotForm.{never}
use Rattle.recordfile.proofs.RoundTrip.{Accepted, accepted}
use Rattle.tracking.specs.Operations.{Call, does, on_memory}
use Rattle.snapshot.specs.declared.resume.Kept as code-kept
use Rattle.snapshot.specs.Resume.{restore_source, restore_dirty, restore_record, restore_runs}
use Rattle.snapshot.specs.Answers.{kept_of_file, snapshot_left}

-- ---- the state record
module _ (rs : List Record) (formed : records_need rs ≢ malformed) where
  pub state_missing : rs ≡ [] → ⊥
  unfolding records_need
  state_missing e = formed (rw e refl)

  pub state_other : (r : Record) (ts : List Record) → rs ≡ r ∷ ts → NotState r → ⊥
  state_other r ts e t = formed (rw e (no-state r ts t))

-- ---- register records

-- the record of four registers from a number on
abbrev four_at : List ℕ → ℕ → Record
four_at registers next =
    Registers next (get_or registers next 0) (get_or registers (next + 1) 0) (get_or registers (next + 2) 0) (get_or registers (next + 3) 0)

-- the last of n + 1 records
one-after : (registers : List ℕ) (next n : ℕ)
    → register_records_of registers next (suc n) ≡ register_records_of registers next n ++ (four_at registers (next + n * registers_a_record) ∷ [])
unfolding register_records_of
one-after registers next zero = let k : next + 0 * registers_a_record ≡ next = omega arith in rw k
one-after registers next (suc n) =
    let k : next + registers_a_record + n * registers_a_record ≡ next + suc n * registers_a_record = omega arith in
    ap (λ (rs : List Record). four_at registers next ∷ rs) (one-after registers (next + registers_a_record) n ∙ rw k refl)

-- a register past theirs is set
set-past : (registers : List ℕ) (j x next n : ℕ) → next + n * registers_a_record ≤ j
    → register_records_of (set registers j x) next n ≡ register_records_of registers next n
unfolding register_records_of
set-past registers j x next zero h = refl
set-past registers j x next (suc n) h =
    rw (get_or-set_other registers j next x 0 (omega arith), get_or-set_other registers j (next + 1) x 0 (omega arith), get_or-set_other registers j (next + 2) x 0 (omega arith), get_or-set_other registers j (next + 3) x 0 (omega arith), set-past registers j x (next + registers_a_record) n (omega arith))

-- four registers set
abbrev pub set_four : List ℕ → ℕ → ℕ → ℕ → ℕ → ℕ → List ℕ
set_four registers at one two three four = set (set (set (set registers at one) (at + 1) two) (at + 2) three) (at + 3) four

four-set : (registers : List ℕ) (at one two three four : ℕ) → at + 4 ≤ length registers
    → four_at (set_four registers at one two three four) at ≡ Registers at one two three four
four-set registers at one two three four h =
    let a : List ℕ = set registers at one in
    let b : List ℕ = set a (at + 1) two in
    let c : List ℕ = set b (at + 2) three in
    let i : get_or (set c (at + 3) four) at 0 ≡ one =
    get_or-set_other c (at + 3) at four 0 (omega arith)
    ∙ get_or-set_other b (at + 2) at three 0 (omega arith)
    ∙ get_or-set_other a (at + 1) at two 0 (omega arith)
    ∙ get_or-set_same registers at one 0 (omega arith) in
    let j : get_or (set c (at + 3) four) (at + 1) 0 ≡ two =
    get_or-set_other c (at + 3) (at + 1) four 0 (omega arith)
    ∙ get_or-set_other b (at + 2) (at + 1) three 0 (omega arith)
    ∙ get_or-set_same a (at + 1) two 0 (rw length-set (omega arith)) in
    let k : get_or (set c (at + 3) four) (at + 2) 0 ≡ three =
    get_or-set_other c (at + 3) (at + 2) four 0 (omega arith) ∙ get_or-set_same b (at + 2) three 0 (rw (length-set, length-set) (omega arith)) in
    let l : get_or (set c (at + 3) four) (at + 3) 0 ≡ four =
    get_or-set_same c (at + 3) four 0 (rw (length-set, length-set, length-set) (omega arith)) in
    rw (i, j, k, l) refl

module _ (whole : List Record) where
  -- i records are read, and these are left
  pub record RegistersRead (registers : List ℕ) (rs : List Record) (i : ℕ) : Type 0 where
    pub to : RegistersTo whole rs i
    pub sized : length registers ≡ 32
    pub all : whole ≡ register_records_of registers 0 i ++ rs

  pub read_first : (registers : List ℕ) → length registers ≡ 32 → RegistersRead registers whole 0
  unfolding register_records_of
  read_first registers l = record { to = registers-start whole; sized = l; all = refl }

  module _ (registers : List ℕ) (rs : List Record) (i : ℕ) (w : RegistersRead registers rs i) where
    pub read_end : register_records ≤ i → whole ≡ register_records_of registers 0 register_records ++ rs
    read_end h =
        let k : i ≡ register_records = omega (arith, w.to.within) in
        rw k at w.all

    module _ (formed : registers_need 0 register_records whole ≢ malformed) (h : i < register_records) where
      pub read_missing : rs ≡ [] → ⊥
      read_missing e = formed (registers-none whole rs i w.to h e)

      module _ (r : Record) (ts : List Record) (e : rs ≡ r ∷ ts) where
        pub read_other : NotRegisters r → ⊥
        read_other t = formed (registers-other whole rs i w.to h r ts e t)

        module _ (first one two three four : ℕ) (q : r ≡ Registers first one two three four) where
          in_turn : first ≡ i * registers_a_record
          in_turn = go (eqb first (i * registers_a_record)) refl
            where
              go : (b : Bool) → b ≡ eqb first (i * registers_a_record) → first ≡ i * registers_a_record
              go true b = eqb-true _ _ (sym b)
              go false b =
                  absurd (formed (registers-apart whole rs i w.to h r ts e first one two three four q
                  (λ k. let z : false ≡ true = b ∙ eq-eqb _ _ k in cc)))

          pub read_next : RegistersRead (set_four registers (i * registers_a_record) one two three four) ts (i + 1)
          read_next =
              let at : ℕ = i * registers_a_record in
              let l : length registers ≡ 32 = w.sized in
              let s : List ℕ = set_four registers at one two three four in
              let past : register_records_of s 0 i ≡ register_records_of registers 0 i =
              set-past _ (at + 3) four 0 i (omega arith)
              ∙ set-past _ (at + 2) three 0 i (omega arith)
              ∙ set-past _ (at + 1) two 0 i (omega arith)
              ∙ set-past registers at one 0 i (omega arith) in
              let z : 0 + at ≡ at = omega arith in
              let last : four_at s (0 + at) ≡ r =
              ap (four_at s) z
              ∙ four-set registers at one two three four (omega arith) ∙ ap (λ (x : ℕ). Registers x one two three four) (sym in_turn) ∙ sym q in
              let more : register_records_of s 0 (i + 1) ≡ register_records_of registers 0 i ++ (r ∷ []) =
              ap (register_records_of s 0) (omega arith)
              ∙ one-after s 0 i
              ∙ ap (λ (rs : List Record). rs ++ (four_at s (0 + at) ∷ [])) past
              ∙ ap (λ (x : Record). register_records_of registers 0 i ++ (x ∷ [])) last in
              record {
                to = registers-next whole rs i w.to h r ts e first one two three four q in_turn;
                sized = rw (length-set, length-set, length-set, length-set) l;
                all = rw (more, append_assoc, ← e) w.all;
              }

-- ---- runs

-- a test that the form passed
later : (b : Bool) (f : Form) → cond b f malformed ≢ malformed → f ≢ malformed
later true f n = n
later false f n = absurd (n refl)

-- three steps in turn
module _ {Op : Type 0} {Reply : Op → Type 0} {S : Type 0} (does : (o : Op) → S → Reply o × S) where
  then_assoc : (g k h : Prog Op Reply ℕ) (s : S) → run does (and_then g (and_then k h)) s ≡ run does (and_then (and_then g k) h) s
  then_assoc g k h s = go (eqb (run does g s).0 0) refl
    where
      go : (d : Bool) → d ≡ eqb (run does g s).0 0 → run does (and_then g (and_then k h)) s ≡ run does (and_then (and_then g k) h) s
      go true i =
          let t : S = (run does g s).1 in
          let m : run does k t ≡ run does (and_then g k) s = then_done does g k s _ t true _ refl i refl refl in
          sym (then_done does g (and_then k h) s _ t true _ refl i refl refl)
          ∙ after_run does (λ n. n) k h t _ _ refl
          ∙ sym (after_run does (λ n. n) (and_then g k) h s _ _ m)
      go false i =
          sym (then_stop does g (and_then k h) s _ _ false refl i refl)
          ∙ then_stop does (and_then g k) h s _ _ false (then_stop does g k s _ _ false refl i refl) i refl

  -- a step, then one or the other of two that come to the same
  then_same : (g k h : Prog Op Reply ℕ) (s : S) → ((t : S) → run does k t ≡ run does h t)
      → run does (and_then g k) s ≡ run does (and_then g h) s
  then_same g k h s e =
      after_run does (λ n. n) g k s _ _ refl ∙ go (eqb (run does g s).0 0) ∙ sym (after_run does (λ n. n) g h s _ _ refl)
    where
      go : (b : Bool) → run does (cond b k (ret (run does g s).0)) (run does g s).1 ≡ run does (cond b h (ret (run does g s).0)) (run does g s).1
      go true = e (run does g s).1
      go false = refl

module _ (directory sources page_file : List ℕ) where
  -- the runs of records, in turn
  abbrev pub restore_all : List Record → Call ℕ
  restore_all rs = each_in (restore_record directory sources page_file) rs

  -- what dirty runs alone hold
  record DirtyAlone (rs : List Record) : Type 0 where
    none : sources_in rs ≡ []
    empty : registers_in rs ≡ []
    all : restore_all rs ≡ each_in (λ r. on_memory (restore_dirty r)) (dirty_in page_file rs)

  dirty-alone : (place : ℕ) (rs : List Record) → dirty_needs place rs ≢ malformed → DirtyAlone rs
  unfolding dirty_needs sources_in registers_in dirty_in each_in
  dirty-alone place [] n = record { none = refl; empty = refl; all = refl }
  dirty-alone place (Dirty address flag pages at ∷ rs) n =
      let d : DirtyAlone rs = dirty-alone (place + pages) rs (later (eqb at place) (dirty_needs (place + pages) rs) n) in
      record { none = d.none; empty = d.empty; all = rw d.all refl }
  dirty-alone place (Source address flag id offset size ∷ rs) n = absurd (n refl)
  dirty-alone place (Registers first one two three four ∷ rs) n = absurd (n refl)
  dirty-alone place (State version pc cycles maximum reservation ∷ rs) n = absurd (n refl)
  dirty-alone place (Bad ∷ rs) n = absurd (n refl)

  -- runs hold no registers
  no_registers : (rs : List Record) → runs_need rs ≢ malformed → registers_in rs ≡ []
  unfolding runs_need registers_in
  no_registers [] n = refl
  no_registers (Source address flag id offset size ∷ rs) n = no_registers rs n
  no_registers (Dirty address flag pages at ∷ rs) n = (dirty-alone 0 (Dirty address flag pages at ∷ rs) n).empty
  no_registers (Registers first one two three four ∷ rs) n = absurd (n refl)
  no_registers (State version pc cycles maximum reservation ∷ rs) n = absurd (n refl)
  no_registers (Bad ∷ rs) n = absurd (n refl)

  -- what the runs of records come to, as lists of source runs and of dirty runs
  abbrev pub runs_in : List Record → Call ℕ
  runs_in rs = restore_runs directory sources (sources_in rs) (dirty_in page_file rs)

  pub runs-all : (rs : List Record) → runs_need rs ≢ malformed → (t : Tracked) → run does (restore_all rs) t ≡ run does (runs_in rs) t
  unfolding run bind after runs_need sources_in dirty_in each_in restore_runs
  runs-all [] n t = refl
  runs-all (Source address flag id offset size ∷ rs) n t =
      let g : Call ℕ = restore_record directory sources page_file (Source address flag id offset size) in
      then_same does g (restore_all rs) (runs_in rs) t (runs-all rs n)
      ∙ then_assoc does g (each_in (restore_source directory sources) (sources_in rs)) (each_in (λ r. on_memory (restore_dirty r)) (dirty_in page_file rs)) t
  runs-all (Dirty address flag pages at ∷ rs) n t =
      let d : DirtyAlone (Dirty address flag pages at ∷ rs) = dirty-alone 0 (Dirty address flag pages at ∷ rs) n in
      let z : sources_in rs ≡ [] = d.none in
      rw z (ap (λ (g : Call ℕ). run does g t) d.all)
  runs-all (Registers first one two three four ∷ rs) n t = absurd (n refl)
  runs-all (State version pc cycles maximum reservation ∷ rs) n t = absurd (n refl)
  runs-all (Bad ∷ rs) n t = absurd (n refl)

  -- the records that are left, with what is lent as it is, come to what all of them come to at entry
  module _ (whole : List Record) (s₀ : Tracked) where
    abbrev pub Restoring : List Record → Tracked → Type 0
    Restoring rs s = run does (restore_all rs) s ≡ run does (restore_all whole) s₀

    module _ (rs : List Record) (s : Tracked) (w : Restoring rs s) where
      pub restored_all : runs_need whole ≢ malformed → rs ≡ [] → (0, s) ≡ run does (runs_in whole) s₀
      restored_all n e = each_in_none does (restore_record directory sources page_file) s ∙ (rw e at w) ∙ runs-all whole n s₀

      module _ (r : Record) (ts : List Record) (e : rs ≡ r ∷ ts) (t : Tracked) where
        pub restoring_stop : runs_need whole ≢ malformed → (x : Refusal) → (refusal_number x, t) ≡ run does (restore_record directory sources page_file r) s
            → (refusal_number x, t) ≡ run does (runs_in whole) s₀
        restoring_stop f x q =
            each_in_stop does (restore_record directory sources page_file) r ts s _ t false q (refused x) refl ∙ (rw e at w) ∙ runs-all whole f s₀

        pub restoring_next : (0, t) ≡ run does (restore_record directory sources page_file r) s → Restoring ts t
        restoring_next q = each_in_turn does (restore_record directory sources page_file) r ts s 0 t true q refl refl ∙ (rw e at w)

-- ---- files in the form, read record by record
module _ (file pages : List ℕ) (ok : 0 ≡ in_form file (length pages)) where
  -- the state record first
  module _ (rs : List Record) (l : rs ≡ records_in file) where
    pub state-formed : records_need rs ≢ malformed
    state-formed e =
        let a : Accepted file (length pages) = accepted file (length pages) (sym ok) in
        never a.pages (sym (rw l at e) ∙ a.need)

    -- after it the register records
    module _ (k : code-kept.Kept) (ts : List Record) (e : rs ≡ state_record (kept_of_file k) ∷ ts) where
      pub version-read : (snapshot_in file pages).state.version ≡ k.version
      unfolding snapshot_in
      version-read = ap (λ (x : List Record). (kept_in x).version) (sym l ∙ e)

      pub registers-formed : registers_need 0 register_records ts ≢ malformed
      unfolding records_need
      registers-formed q = state-formed (rw e q)

      -- after those the runs
      module _ (registers : List ℕ) (us : List Record) (f : ts ≡ register_records_of registers 0 register_records ++ us) where
        pub runs-formed : runs_need us ≢ malformed
        runs-formed q = registers-formed (rw f (registers-need registers us 0 register_records ∙ q))

        pub snapshot-read : length registers ≡ 32 → snapshot_in file pages ≡ snapshot_left k registers pages us
        unfolding snapshot_in registers_in sources_in dirty_in
        snapshot-read n =
            let a : registers_in ts ≡ registers =
            rw f (registers_read registers us 0 register_records (omega arith)
            ∙ rw (no_registers [] [] pages us runs-formed) (append-nil registers)) in
            let b : sources_in ts ≡ sources_in us = rw f (registers-sources registers us 0 register_records) in
            let c : dirty_in pages ts ≡ dirty_in pages us = rw f (registers-dirty registers us pages 0 register_records) in
            let z : of_records pages (state_record (kept_of_file k) ∷ ts) ≡ snapshot_left k registers pages us =
            λ i. record { state = kept_of_file k; registers = a i; sources = b i; dirty = c i } in
            ap (of_records pages) (sym l ∙ e) ∙ z
