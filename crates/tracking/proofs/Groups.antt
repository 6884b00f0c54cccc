-- Numbers in groups of one size, a group at a time: what is left are the numbers from the next group on.
use Rattle.std.proofs.Common.{◌≡◌, ℕ, ◌+◌, ◌-◌, ◌*◌, ◌<◌, ◌≤◌, List, ◌++◌, length, get_or, drop, sym, ap, ◌∙◌, arith, length-drop, length-append}
use lib.ListN.{get_or-append}
use lib.Seq.{get_or-drop, drop-drop, drop-append_seam}

module _ (all rest : List ℕ) (size i : ℕ) (r : rest ≡ drop (i * size) all) where
  left-long : length rest ≡ length all - i * size
  left-long = ap length r ∙ length-drop (i * size) all

  -- what is left is shorter than a group
  pub groups_end : length rest < size → length all < i * size + size
  groups_end h = omega (arith, left-long)

  -- a group, and what is left after it
  module _ (x after : List ℕ) (e : rest ≡ x ++ after) (l : length x ≡ size) where
    pub group-there : 0 < size → i * size + size ≤ length all
    group-there h =
        let n : length rest ≡ length x + length after = ap length e ∙ length-append x after in
        omega (arith, left-long)

    pub group-at : (k : ℕ) → k < size → get_or x k 0 ≡ get_or all (i * size + k) 0
    group-at k h =
        sym (get_or-append x after 0 k (rw l h))
        ∙ ap (λ (q : List ℕ). get_or q k 0) (sym e ∙ r)
        ∙ get_or-drop (i * size) all k 0

    pub group-next : after ≡ drop (i * size + size) all
    group-next =
        sym (drop-append_seam x after)
        ∙ ap (λ (q : List ℕ). drop (length x) q) (sym e ∙ r)
        ∙ drop-drop (length x) (i * size) all
        ∙ ap (λ (n : ℕ). drop (i * size + n) all) l
