-- Groups of pages that are passed over at once: those with no dirty page, and those with no mark of a tracked page.
use mathlib.Core.Path.{◌≡◌, refl, sym, ap, ◌∙◌}
use mathlib.Core.List.{List, [], ◌∷◌}
use Prim.Native.Nat.{ℕ, zero, suc, ◌+◌, ◌-◌, ◌*◌, ◌≤◌, ◌<◌}
use native.Mathlib.Nat.{add-zero}
use native.Mathlib.Omega.{arith}
use lib.Bits.{bit_and, bit_or, or_comm, or_add_and, and_le_l, and_le_r}
use lib.Dec.{eqb}
use lib.ListN.{length, get_or, take, drop}
use borrow.Author.Tests.{eqb-true}
use Rattle.std.specs.Bool.{IsTrue}
use Rattle.std.specs.List.{fold}
use Rattle.std.proofs.lemmas.List.{drop_more}
use Rattle.words.specs.Bytes.{part}
use Rattle.memory.specs.Pages.{dirty}
use Rattle.memory.proofs.Dirty.{or_dirty}
use Rattle.memory.proofs.StoreCases.{cases}
use Rattle.machine.specs.Fresh.{record_words}
use Rattle.tracking.specs.declared.records.Tracking.{Tracking}
use Rattle.tracking.specs.declared.records.Tracking.TheVariants.{Untracked}
use Rattle.tracking.specs.Records.{tracked_mark}
use Rattle.tracking.specs.Operations.{masked, entry_in}
use Rattle.tracking.proofs.PageRecords.{read_untracked}
use Rattle.snapshot.specs.Runs.{flag_at, dirty_from, sources_from}
use Rattle.snapshot.specs.Walk.{group}
use Rattle.snapshot.proofs.DirtyPages.{dirty_clean}
use Rattle.snapshot.proofs.SourcePages.{sources_untracked}

-- ---- dirty pages

-- flags joined tell that none of them, nor what they are joined to, is a dirty page's
fold-clean : (fs : List ℕ) (all : ℕ) → bit_and (fold bit_or all fs) dirty ≡ 0 → bit_and all dirty ≡ 0
fold-clean [] all e = e
fold-clean (f ∷ fs) all e = or_dirty all f (fold-clean fs (bit_or all f) e)

clean_group : (flags : List ℕ) (n p all : ℕ) → p + n ≤ length flags → bit_and (fold bit_or all (take n (drop p flags))) dirty ≡ 0
    → dirty_from flags p ≡ dirty_from flags (p + n)
clean_group flags zero p all h e = ap (dirty_from flags) (sym (add-zero p))
clean_group flags (suc n) p all h e =
    let f : ℕ = flag_at flags p in
    let c : drop p flags ≡ f ∷ drop (p + 1) flags = drop_more flags p 0 (omega arith) in
    let g : bit_and (fold bit_or (bit_or all f) (take n (drop (p + 1) flags))) dirty ≡ 0 = rw c at e in
    let k : bit_and (bit_or f all) dirty ≡ 0 = ap (λ (x : ℕ). bit_and x dirty) (or_comm f all) ∙ fold-clean (take n (drop (p + 1) flags)) (bit_or all f) g in
    let z : p + 1 + n ≡ p + suc n = omega arith in
    dirty_clean flags p (omega arith) (or_dirty f all k)
    ∙ clean_group flags n (p + 1) (bit_or all f) (omega arith) g
    ∙ ap (dirty_from flags) z

pub clean_passed : (flags : List ℕ) (page all : ℕ) → page + group ≤ length flags
    → all ≡ fold bit_or 0 (part flags page (page + group - page)) → IsTrue (eqb (bit_and all dirty) 0)
    → dirty_from flags page ≡ dirty_from flags (page + group)
clean_passed flags page all h e t =
    let z : page + group - page ≡ group = omega arith in
    clean_group flags group page 0 h (rw (e, z) at (eqb-true (bit_and all dirty) 0 t))

-- ---- tracked pages

-- an OR is at least each of its parts
or_least : (a b : ℕ) → (a ≤ bit_or a b) × (b ≤ bit_or a b)
or_least a b = (omega (arith, or_add_and a b, and_le_r a b), omega (arith, or_add_and a b, and_le_l a b))

-- a page with a low mark shows no entry
entry-low : (flags records : List ℕ) (p : ℕ) → get_or records (p * record_words + 2) 0 < tracked_mark
    → entry_in flags records p ≡ Untracked
unfolding masked
entry-low flags records p h =
    rw (← read_untracked (get_or records (p * record_words) 0) (get_or records (p * record_words + 1) 0) _ h)
    (cases (λ (t : Tracking). t ≡ Untracked) (eqb (bit_and (get_or flags p 0) dirty) 0) _ _ (λ e. refl) (λ e. refl))

-- the marks of the pages from `page` to `next`, joined: they tell that none of the pages is tracked
pub record Low (flags records : List ℕ) (page marks next : ℕ) : Type 0 where
  pub so_far : marks < tracked_mark → sources_from flags records page ≡ sources_from flags records next

pub low_on : (flags records : List ℕ) (page marks next : ℕ) → Low flags records page marks next → next < length flags
    → Low flags records page (bit_or marks (get_or records (next * record_words + 2) 0)) (next + 1)
low_on flags records page marks next g h =
    let m : ℕ = get_or records (next * record_words + 2) 0 in
    record {
      so_far = λ (e : bit_or marks m < tracked_mark).
          g.so_far (omega (arith, (or_least marks m).0))
          ∙ sources_untracked flags records next h (entry-low flags records next (omega (arith, (or_least marks m).1)));
    }
