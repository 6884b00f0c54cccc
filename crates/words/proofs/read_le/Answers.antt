-- `words::read_le` meets its contract: std's number of the bytes that are there, and zeros behind them.
use Rattle.std.proofs.Common.{◌≡◌, ℕ, List, length, rules, arith, refl, length-take, length-drop}
use Rattle.words.proofs.Std.{read_part, spelled}
use Rattle.words.proofs.read_le.Goals as goal

pub returns : goal.returns
returns c =
    let q : List ℕ = c.copy_from_slice.new.self in
    let k : ℕ = c.min-n.result in
    let l : length q ≡ k = rw c.copy_from_slice.ensures.after (simp (length-take, length-drop) (omega (arith, c.min-from.ensures, c.min-n.ensures))) in
    read_part _ q _ _ _ k _ _ (λ i. let h = c.type_inv.s i in search rules) c.min-from.ensures (search rules) (search rules)
    c.copy_from_slice.ensures.after (omega (arith, c.from_le_bytes.ensures, spelled k q _ (search rules) l refl))
