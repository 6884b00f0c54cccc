-- What the runs of a snapshot say of its pages: each run's pages one by one, and that the pages between runs are in none.
use mathlib.Core.Path.{◌≡◌, refl, ap, ◌∙◌}
use mathlib.Core.Bool.{true}
use mathlib.Core.List.{List, [], ◌∷◌}
use mathlib.Core.Logic.{◌≢◌}
use Prim.Native.Nat.{ℕ, zero, suc, ◌+◌, ◌-◌, ◌*◌, ◌/◌, ◌%◌, ◌≤◌, ◌<◌}
use native.Mathlib.Omega.{arith}
use native.Mathlib.Decide.{ℕ_discrete}
use lib.Bits.{bit_and}
use lib.Dec.{eqb}
use borrow.Author.Tests.{eqb-true, eqb-false}
use Rattle.bits.specs.Rounding.{page_size}
use Rattle.program.specs.Program.{along}
use Rattle.memory.specs.Pages.{dirty}
use Rattle.memory.proofs.StoreCases.{cases}
use Rattle.recordfile.specs.Snapshots.{SourceRun, source_run}
use Rattle.tracking.specs.declared.records.Tracking.{Tracking}
use Rattle.tracking.specs.declared.records.Tracking.TheVariants.{Untracked, Tracked}
use Rattle.snapshot.specs.Runs.{Run, a_run, neighbours, join_dirty, dirty_runs, continues, join_source, page_run, source_runs}
use Rattle.snapshot.proofs.Joining.{all_true}

-- ---- source runs

-- the first run from page p on: whole pages below `last`, each with its entry, and none tracked before them
pub record SourceFront (entry : ℕ → Tracking) (last p : ℕ) (r : SourceRun) : Type 0 where
  pub aligned : r.address % page_size ≡ 0
  pub whole : r.size % page_size ≡ 0
  pub some : 0 < r.size
  pub above : p * page_size ≤ r.address
  pub within : r.address + r.size ≤ last * page_size
  pub before : (q : ℕ) → p ≤ q → q * page_size < r.address → entry q ≡ Untracked
  pub inside : (q : ℕ) → r.address ≤ q * page_size → q * page_size < r.address + r.size
      → entry q ≡ Tracked r.id (r.offset + (q * page_size - r.address)) r.flag

-- runs in turn from page p on, and no tracked page after the last of them
unfoldable pub SourcesLaid : (ℕ → Tracking) → ℕ → ℕ → List SourceRun → Type 0
SourcesLaid entry last p [] = (q : ℕ) → p ≤ q → q < last → entry q ≡ Untracked
SourcesLaid entry last p (r ∷ rs) = SourceFront entry last p r × SourcesLaid entry last ((r.address + r.size) / page_size) rs

-- each run's data ends where its last page's does
pub front_offset : (entry : ℕ → Tracking) (last p top : ℕ) (r : SourceRun)
    → ((q id offset flag : ℕ) → q < last → entry q ≡ Tracked id offset flag → offset + page_size ≤ top)
    → SourceFront entry last p r → r.offset + r.size ≤ top
front_offset entry last p top r h f =
    let aligned = f.aligned in
    let whole = f.whole in
    let some = f.some in
    let within = f.within in
    let q : ℕ = (r.address + r.size - page_size) / page_size in
    let e : q * page_size + page_size ≡ r.address + r.size = omega arith in
    let x : r.address ≤ q * page_size = omega arith in
    let y : q * page_size < r.address + r.size = omega arith in
    let z = h q r.id (r.offset + (q * page_size - r.address)) r.flag (omega arith) (f.inside q x y) in
    omega arith

module _ (entry : ℕ → Tracking) (last p : ℕ) where
  -- an untracked page before runs
  untracked-first : (l : List SourceRun) → entry p ≡ Untracked → SourcesLaid entry last (p + 1) l → SourcesLaid entry last p l
  unfolding SourcesLaid
  untracked-first [] e l = λ q h k.
      elim (ℕ_discrete q p) [ yes z ↦ rw z e | no n ↦ l q (omega arith) k ]
  untracked-first (r ∷ rs) e l =
      let f = l.0 in
      let above = f.above in (
        record {
          aligned = f.aligned;
          whole = f.whole;
          some = f.some;
          above = omega arith;
          within = f.within;
          before = λ q h k. elim (ℕ_discrete q p) [ yes z ↦ rw z e | no n ↦ f.before q (omega arith) k ];
          inside = f.inside;
        },
        l.1,
      )

  -- a tracked page before runs
  module _ (id offset flag : ℕ) (e : entry p ≡ Tracked id offset flag) (b : p < last) where
    page-front : SourceFront entry last p (page_run p flag id offset)
    page-front =
        record {
          aligned = omega arith;
          whole = refl;
          some = omega arith;
          above = omega arith;
          within = omega arith;
          before = λ q h k. absurd (omega arith);
          inside = λ q h k.
              let z : q ≡ p = omega arith in
              let y : offset + (p * page_size - p * page_size) ≡ offset = omega arith in
              rw (z, y) e;
        }

    apart : (l : List SourceRun) → SourcesLaid entry last (p + 1) l → SourcesLaid entry last p (page_run p flag id offset ∷ l)
    unfolding SourcesLaid
    apart l h =
        let z : (p * page_size + page_size) / page_size ≡ p + 1 = omega arith in
        (page-front, rw z h)

    -- a run that continues it
    next_address : (s : SourceRun) → continues (page_run p flag id offset) s ≡ true → s.address ≡ p * page_size + page_size
    unfolding continues
    next_address s c = eqb-true _ _ (all_true (eqb s.address (p * page_size + page_size)) _ c).0

    merged_front : (s : SourceRun) → continues (page_run p flag id offset) s ≡ true → SourceFront entry last (p + 1) s
        → SourceFront entry last p (source_run (p * page_size) flag id offset (page_size + s.size))
    unfolding continues
    merged_front s c f =
        let t = all_true (eqb s.address (p * page_size + page_size)) _ c in
        let u = all_true (eqb s.flag flag) _ t.1 in
        let v = all_true (eqb s.id id) _ u.1 in
        let its_address = next_address s c in
        let its_flag : s.flag ≡ flag = eqb-true _ _ u.0 in
        let its_id : s.id ≡ id = eqb-true _ _ v.0 in
        let its_offset : s.offset ≡ offset + page_size = eqb-true _ _ v.1 in
        let whole = f.whole in
        let within = f.within in
        record {
          aligned = omega arith;
          whole = omega arith;
          some = omega arith;
          above = omega arith;
          within = omega arith;
          before = λ q h k. absurd (omega arith);
          inside = λ q h k.
              elim (ℕ_discrete q p) [
                | yes z ↦ page-front.inside q h (omega arith)
                | no n ↦
                    let y : s.offset + (q * page_size - s.address) ≡ offset + (q * page_size - p * page_size) = omega arith in
                    rw (← its_id, ← its_flag, ← y) (f.inside q (omega arith) (omega arith))
              ];
        }

    tracked-first : (l : List SourceRun) → SourcesLaid entry last (p + 1) l
        → SourcesLaid entry last p (join_source (page_run p flag id offset) l)
    unfolding join_source SourcesLaid
    tracked-first [] h = apart [] h
    tracked-first (s ∷ ss) h =
        cases (SourcesLaid entry last p) (continues (page_run p flag id offset) s) _ _
        (λ c.
        let its_address = next_address s c in
        let z : p * page_size + (page_size + s.size) ≡ s.address + s.size = omega arith in
        (merged_front s c h.0, rw z h.1))
        (λ c. apart (s ∷ ss) h)

  page-first : (ts : List Tracking) → p < last → SourcesLaid entry last (p + 1) (source_runs (p + 1) ts) → (t : Tracking) → entry p ≡ t
      → SourcesLaid entry last p (source_runs p (t ∷ ts))
  unfolding source_runs
  page-first ts b h Untracked e = untracked-first (source_runs (p + 1) ts) e h
  page-first ts b h (Tracked id offset flag) e = tracked-first id offset flag e b (source_runs (p + 1) ts) h

pub sources-laid : (entry : ℕ → Tracking) (n p : ℕ) → SourcesLaid entry (p + n) p (source_runs p (along entry n p))
unfolding SourcesLaid along source_runs
sources-laid entry zero p = λ q h k. absurd (omega arith)
sources-laid entry (suc n) p =
    let z : p + suc n ≡ p + 1 + n = omega arith in
    rw z (page-first entry (p + 1 + n) p (along entry n (p + 1)) (omega arith) (sources-laid entry n (p + 1)) (entry p) refl)

-- ---- dirty runs

-- the first run from page p on: pages below `last` of its flag, a dirty one, and none dirty before them
pub record DirtyFront (flag : ℕ → ℕ) (last p : ℕ) (r : Run) : Type 0 where
  pub some : 0 < r.pages
  pub above : p ≤ r.page
  pub within : r.page + r.pages ≤ last
  pub before : (q : ℕ) → p ≤ q → q < r.page → bit_and (flag q) dirty ≡ 0
  pub inside : (q : ℕ) → r.page ≤ q → q < r.page + r.pages → flag q ≡ r.flag
  pub marked : bit_and r.flag dirty ≢ 0

-- runs in turn from page p on, and no dirty page after the last of them
unfoldable pub DirtyLaid : (ℕ → ℕ) → ℕ → ℕ → List Run → Type 0
DirtyLaid flag last p [] = (q : ℕ) → p ≤ q → q < last → bit_and (flag q) dirty ≡ 0
DirtyLaid flag last p (r ∷ rs) = DirtyFront flag last p r × DirtyLaid flag last (r.page + r.pages) rs

module _ (flag : ℕ → ℕ) (last p : ℕ) where
  -- a clean page before runs
  clean-first : (l : List Run) → bit_and (flag p) dirty ≡ 0 → DirtyLaid flag last (p + 1) l → DirtyLaid flag last p l
  unfolding DirtyLaid
  clean-first [] e l = λ q h k. elim (ℕ_discrete q p) [ yes z ↦ rw z e | no n ↦ l q (omega arith) k ]
  clean-first (r ∷ rs) e l =
      let f = l.0 in
      let above = f.above in (
        record {
          some = f.some;
          above = omega arith;
          within = f.within;
          before = λ q h k. elim (ℕ_discrete q p) [ yes z ↦ rw z e | no n ↦ f.before q (omega arith) k ];
          inside = f.inside;
          marked = f.marked;
        },
        l.1,
      )

  -- a dirty page before runs
  module _ (d : bit_and (flag p) dirty ≢ 0) (b : p < last) where
    -- the page, and n pages of its flag after it
    flag-front : (n : ℕ) → p + suc n ≤ last → ((q : ℕ) → p + 1 ≤ q → q < p + suc n → flag q ≡ flag p)
        → DirtyFront flag last p (a_run p (flag p) (n + 1))
    flag-front n w f =
        record {
          some = omega arith;
          above = omega arith;
          within = omega arith;
          before = λ q h k. absurd (omega arith);
          inside = λ q h k. elim (ℕ_discrete q p) [ yes z ↦ ap flag z | no m ↦ f q (omega arith) (omega arith) ];
          marked = d;
        }

    dirty-first : (l : List Run) → DirtyLaid flag last (p + 1) l → DirtyLaid flag last p (join_dirty p (flag p) l)
    unfolding join_dirty neighbours DirtyLaid
    dirty-first [] h = (flag-front 0 (omega arith) (λ q i k. absurd (omega arith)), h)
    dirty-first (r ∷ rs) h =
        cases (DirtyLaid flag last p) (neighbours p (flag p) r) _ _
        (λ c.
        let t = all_true (eqb r.page (p + 1)) _ c in
        let its-page : r.page ≡ p + 1 = eqb-true _ _ t.0 in
        let its_flag : r.flag ≡ flag p = eqb-true _ _ t.1 in
        let within = h.0.within in
        let z : p + (r.pages + 1) ≡ r.page + r.pages = omega arith in
        (flag-front r.pages (omega arith) (λ q i k. h.0.inside q (omega arith) (omega arith) ∙ its_flag), rw z h.1))
        (λ c. (flag-front 0 (omega arith) (λ q i k. absurd (omega arith)), h))

pub dirty-laid : (flag : ℕ → ℕ) (n p : ℕ) → DirtyLaid flag (p + n) p (dirty_runs p (along flag n p))
unfolding DirtyLaid along dirty_runs
dirty-laid flag zero p = λ q h k. absurd (omega arith)
dirty-laid flag (suc n) p =
    let z : p + suc n ≡ p + 1 + n = omega arith in
    rw z
    (let l : List Run = dirty_runs (p + 1) (along flag n (p + 1)) in
    cases (DirtyLaid flag (p + 1 + n) p) (eqb (bit_and (flag p) dirty) 0) l _
    (λ e. clean-first flag (p + 1 + n) p l (eqb-true _ _ e) (dirty-laid flag n (p + 1)))
    (λ e. dirty-first flag (p + 1 + n) p (eqb-false _ _ e) (omega arith) l (dirty-laid flag n (p + 1))))
