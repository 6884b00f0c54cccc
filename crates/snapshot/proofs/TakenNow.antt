-- The program of a snapshot, run on lent lists, comes to the snapshot of those lists.
use mathlib.Core.Path.{◌≡◌, refl, sym, ap, ◌∙◌}
use mathlib.Core.Bool.{Bool, true, false, cond}
use mathlib.Core.List.{List, [], ◌∷◌, map}
use Prim.Native.Nat.{ℕ, zero, suc, ◌+◌, ◌-◌, ◌/◌}
use native.Mathlib.Decide.{dec_lt}
use native.Mathlib.Omega.{arith}
use lib.Dec.{eqb}
use lib.ListN.{length, get_or-eq_default}
use borrow.Author.Tests.{lt-ltb, le-ltb}
use Rattle.bits.specs.Rounding.{page_size}
use Rattle.program.specs.Program.{Prog, ret, ask, run, bind, perform, onwards, after, each, each_in, along, collect, collect_in}
use Rattle.program.specs.Layers.{low, own, beside, lift}
use Rattle.program.proofs.Laws.{run_bind, after_run}
use Rattle.program.proofs.Lists.{collect-run, collect_in_run}
use Rattle.program.proofs.Lifted.{lifted}
use Rattle.memory.specs.Storage.{Fitting, flag_in, met}
use Rattle.memory.specs.Operations as memory
use Rattle.machine.specs.Fresh.{Tracked, LentMachine}
use Rattle.machine.specs.Operations as machine
use Rattle.machine.specs.Numbers.{numbers_of}
use Rattle.machine.specs.declared.Machine.{Machine}
use Rattle.recordfile.specs.Snapshots.{SourceRun, DirtyRun}
use Rattle.tracking.specs.declared.records.Tracking.{Tracking}
use Rattle.tracking.specs.Answers.{tracked_of}
use Rattle.tracking.specs.Operations.{does, fits_all, entry_in, MachineCall, machine_does}
use Rattle.tracking.proofs.Lengths.{fit-yes, fit_not, memory-told}
use Rattle.snapshot.specs.Runs.{Run, flag_at, dirty_runs, source_runs, dirty_from, sources_from}
use Rattle.snapshot.specs.MakeSnapshot.{Taken, taken, not_taken, ask_flag, ask_entry, meet_run, read_run, take_runs, take_pages, ask_kept, Made, not_made, laid_out, snapshot_of, make_snapshot}
use Rattle.snapshot.specs.Answers.{lent_of, Count, counts, met_run, tally, read_out, dirty_out, kept_of, snapshot_now}

-- ---- steps, which leave the state as it is

module _ {Op : Type 0} {Reply : Op → Type 0} {S : Type 0} (does : (o : Op) → S → Reply o × S) (s : S) where
  -- a check that answered n, then a rest that comes to x
  chosen : {A : Type 0} (k : Prog Op Reply A) (x y : A) → run does k s ≡ (x, s) → (b : Bool)
      → run does (cond b k (ret y)) s ≡ (cond b x y, s)
  unfolding run
  chosen k x y e true = e
  chosen k x y e false = refl

  after_kept : {A : Type 0} (refused : ℕ → A) (g : Prog Op Reply ℕ) (k : Prog Op Reply A) (n : ℕ) (x : A)
      → run does g s ≡ (n, s) → run does k s ≡ (x, s) → run does (after refused g k) s ≡ (cond (eqb n 0) x (refused n), s)
  after_kept refused g k n x e q = after_run does refused g k s n s (sym e) ∙ chosen k x (refused n) q (eqb n 0)

  -- n pages met
  pub each-met : (slots : List ℕ) (used : ℕ) (g : ℕ → Prog Op Reply ℕ) → ((p : ℕ) → run does (g p) s ≡ (met slots used p, s))
      → (n p : ℕ) → run does (each g n p) s ≡ (met_run slots used n p, s)
  unfolding run each met_run
  each-met slots used g asks zero p = refl
  each-met slots used g asks (suc n) p =
      after_kept (λ n. n) (g p) (each g n (p + 1)) _ _ (asks p) (each-met slots used g asks n (p + 1))

-- ---- questions

flag-value : (flags : List ℕ) (p : ℕ) → (flag_in flags p).value ≡ flag_at flags p
unfolding flag_in
flag-value flags p = elim (dec_lt p (length flags)) [
  | yes h ↦ rw (lt-ltb p (length flags) h)
  | no h ↦ rw (le-ltb p (length flags) (omega arith)) (sym (get_or-eq_default {A = ℕ} flags 0 (omega arith)))
]

module _ (s : Tracked) where
  -- a page's flag
  flag-asked : (p : ℕ) → run does (ask_flag p) s ≡ (flag_at s.0.flags p, s)
  unfolding run ask_flag
  flag-asked p = ap {B = ℕ × Tracked} (λ (x : ℕ). (x, s)) (flag-value s.0.flags p)

  -- where its bytes come from
  entry-asked : (p : ℕ) → run does (ask_entry p) s ≡ (entry_in s.0.flags s.1 p, s)
  unfolding run ask_entry
  entry-asked p = refl

  -- a dirty run with its bytes
  read_asked : (r : Run) → run does (read_run r) s ≡ (read_out s.0.slots s.0.area r, s)
  unfolding run read_run
  read_asked r = refl

  -- the pages of a run met
  run-met : (r : Run) → run does (meet_run r) s ≡ (met_run s.0.slots s.0.memory.used r.pages r.page, s)
  unfolding run meet_run
  run-met r =
      each-met does s s.0.slots s.0.memory.used (λ p. perform (low (memory.meet? p))) (λ p. refl) r.pages r.page

  -- runs met in turn: the number of their count
  number-chosen : (b : Bool) (c : Count) (k : ℕ) → cond b c.number k ≡ (cond b c (counts k 0 0)).number
  number-chosen true c k = refl
  number-chosen false c k = refl

  runs-met : (rs : List Run) (r n : ℕ) → run does (each_in meet_run rs) s ≡ ((tally s.0.slots s.0.memory.used r n rs).number, s)
  unfolding run each_in tally
  runs-met [] r n = refl
  runs-met (x ∷ rs) r n =
      after_kept does s (λ n. n) (meet_run x) (each_in meet_run rs) _ _ (run-met x) (runs-met rs (r + 1) (n + x.pages))
      ∙ ap {B = ℕ × Tracked} (λ (k : ℕ). (k, s)) (number-chosen
      (eqb (met_run s.0.slots s.0.memory.used x.pages x.page) 0)
      (tally s.0.slots s.0.memory.used (r + 1) (n + x.pages) rs)
      (met_run s.0.slots s.0.memory.used x.pages x.page))

  -- then read
  runs_taken : (rs : List Run) (sources : List SourceRun) → run does (take_runs rs sources) s ≡ (
    cond (eqb (tally s.0.slots s.0.memory.used 0 0 rs).number 0)
        (taken sources (map (read_out s.0.slots s.0.area) rs))
        (not_taken (tally s.0.slots s.0.memory.used 0 0 rs).number),
    s,
  )
  unfolding run take_runs
  runs_taken rs sources =
      after_kept does s not_taken (each_in meet_run rs) _ _ _ (runs-met rs 0 0)
      (run_bind does (collect_in read_run rs) (λ d. ret (taken sources d)) s
      ∙ ap {B = Taken × Tracked} (λ (z : List DirtyRun × Tracked). (taken sources z.0, z.1))
      (collect_in_run does read_run (read_out s.0.slots s.0.area) s read_asked rs))

-- ---- the call

-- what is asked once the pages are taken
abbrev made_numbers : ℕ → ℕ → Taken → MachineCall Made
made_numbers file pages t =
    bind ask_kept (λ k. ask (own machine.registers?) (λ registers. ret (laid_out file pages (snapshot_of k registers t))))

abbrev numbers_then : ℕ → ℕ → Taken → MachineCall Made
numbers_then file pages t = onwards not_made (made_numbers file pages t) t.number

module _ (slots flags area records : List ℕ) (m : Machine) (b : Bool)
    (fit : b ≡ fits_all (length slots) (length flags) (length area) (length records) m.memory) where
  -- what is lent
  abbrev lent : Tracked
  lent = tracked_of slots flags area records m.memory

  -- what the dirty pages' slots come to
  abbrev slots-met : ℕ
  slots-met = (tally slots m.memory.used 0 0 (dirty_from flags 0)).number

  -- the runs of pages
  runs-now : run does (take_runs (dirty_from flags 0) (sources_from flags records 0)) lent ≡ (
    cond (eqb slots-met 0) (taken (sources_from flags records 0) (dirty_out slots flags area)) (not_taken slots-met),
    lent,
  )
  unfolding dirty_out
  runs-now = runs_taken lent (dirty_from flags 0) (sources_from flags records 0)

  -- every page was asked
  all_asked : (n : ℕ) → n ≡ length flags
      → run does (bind (collect ask_flag n 0) (λ fs. bind (collect ask_entry n 0) (λ es. take_runs (dirty_runs 0 fs) (source_runs 0 es)))) lent
      ≡ run does (take_runs (dirty_from flags 0) (sources_from flags records 0)) lent
  unfolding dirty_from sources_from
  all_asked n e =
      let k : length flags - 0 ≡ n = omega arith in
      run_bind does (collect ask_flag n 0) _ lent
      ∙ ap {B = Taken × Tracked}
      (λ (z : List ℕ × Tracked). run does (bind (collect ask_entry n 0) (λ es. take_runs (dirty_runs 0 z.0) (source_runs 0 es))) z.1)
      (collect-run does ask_flag (flag_at flags) lent (flag-asked lent) n 0)
      ∙ run_bind does (collect ask_entry n 0) _ lent
      ∙ ap {B = Taken × Tracked}
      (λ (z : List Tracking × Tracked). run does (take_runs (dirty_runs 0 (along (flag_at flags) n 0)) (source_runs 0 z.0)) z.1)
      (collect-run does ask_entry (entry_in flags records) lent (entry-asked lent) n 0)
      ∙ rw k

  -- lengths first
  pages_unfit : b ≡ false → (not_taken 9, lent) ≡ run does take_pages lent
  unfolding take_pages
  pages_unfit t = fit_not not_taken lent _ b fit t

  pages-taken : b ≡ true
      → (cond (eqb slots-met 0) (taken (sources_from flags records 0) (dirty_out slots flags area)) (not_taken slots-met), lent)
      ≡ run does take_pages lent
  unfolding run take_pages
  pages-taken t =
      let f : Fitting (length slots) (length flags) (length area) m.memory =
      memory-told (length slots) (length flags) (length area) (length records) m.memory b fit t in
      fit-yes not_taken lent _ b fit _ t (sym (all_asked (m.memory.size / page_size) (sym f.flags_are) ∙ runs-now))

  -- the pages, then the machine's numbers
  module _ (file pages : ℕ) where
    abbrev machine-lent : LentMachine
    machine-lent = lent_of slots flags area records m

    taken_then : (t : Taken) → (t, lent) ≡ run does take_pages lent
        → run machine_does (numbers_then file pages t) machine-lent ≡ run machine_does (make_snapshot file pages) machine-lent
    unfolding make_snapshot
    taken_then t e =
        ap {B = Made × LentMachine} (λ (z : Taken × LentMachine). run machine_does (numbers_then file pages z.0) z.1)
        (lifted does (beside machine.does) take_pages lent (numbers_of m) t lent e)
        ∙ sym (run_bind machine_does (lift take_pages) _ machine-lent)

    -- the pages were not taken
    taken_not : (n : ℕ) → (d : Bool) → d ≡ eqb n 0 → d ≡ false → (not_taken n, lent) ≡ run does take_pages lent
        → (not_made n, machine-lent) ≡ run machine_does (make_snapshot file pages) machine-lent
    unfolding run
    taken_not n d i c e =
        ap {B = Made × LentMachine}
        (λ (b : Bool). run machine_does (cond b (made_numbers file pages (not_taken n)) (ret (not_made n))) machine-lent)
        (sym c ∙ i)
        ∙ taken_then (not_taken n) e

    -- the pages were taken
    taken-all : (sources : List SourceRun) (dirty : List DirtyRun) → (taken sources dirty, lent) ≡ run does take_pages lent
        → (laid_out file pages (snapshot_of (kept_of m) m.registers (taken sources dirty)), machine-lent)
        ≡ run machine_does (make_snapshot file pages) machine-lent
    unfolding run bind ask_kept
    taken-all sources dirty e = taken_then (taken sources dirty) e

    -- REFUSAL 9: lengths
    pub made_unfit : b ≡ false → (not_made 9, machine-lent) ≡ run machine_does (make_snapshot file pages) machine-lent
    made_unfit t = taken_not 9 false refl refl (pages_unfit t)

    module _ (t : b ≡ true) (k : ℕ) (d : Bool) (e : k ≡ slots-met) (i : d ≡ eqb k 0) where
      taken-told : (x : Bool) → d ≡ x
          → (cond x (taken (sources_from flags records 0) (dirty_out slots flags area)) (not_taken k), lent) ≡ run does take_pages lent
      taken-told x c =
          ap {B = Taken × Tracked}
          (λ (x : Bool). (cond x (taken (sources_from flags records 0) (dirty_out slots flags area)) (not_taken k), lent))
          (sym c ∙ i)
          ∙ ap {B = Taken × Tracked}
          (λ (x : ℕ). (cond (eqb x 0) (taken (sources_from flags records 0) (dirty_out slots flags area)) (not_taken x), lent))
          e
          ∙ pages-taken t

      -- a dirty page's slot
      pub made-unmet : d ≡ false → (not_made k, machine-lent) ≡ run machine_does (make_snapshot file pages) machine-lent
      made-unmet c = taken_not k d i c (taken-told false c)

      -- THE SNAPSHOT OF WHAT IS LENT, laid out
      pub made-now : d ≡ true
          → (laid_out file pages (snapshot_now slots flags area records m), machine-lent)
          ≡ run machine_does (make_snapshot file pages) machine-lent
      made-now c = taken-all (sources_from flags records 0) (dirty_out slots flags area) (taken-told true c)
