-- The text of a file by its form, and what `list` answers.
use mathlib.Core.Path.{◌≡◌, refl}
use mathlib.Core.Bool.{Bool, true, false, cond}
use mathlib.Core.List.{List, [], ◌∷◌}
use Prim.Native.Nat.{ℕ, ◌+◌, ◌%◌, ◌≤◌, ◌<◌}
use native.Mathlib.Nat.{zero-add}
use native.Mathlib.Omega.{arith}
use Rattle.std.specs.Prelude.{Option, Ok, Err}
use Rattle.outcome.specs.Numbers.{refusal_number}
use Rattle.outcome.specs.declared.Refusal.{Refusal}
use Rattle.outcome.specs.declared.Refusal.TheVariants.{BadRecordFile}
use lib.ListN.{length}
use lib.Dec.{eqb, leb}
use borrow.Author.Tests.{le-leb, lt-leb, leb-true}
use Rattle.words.specs.Bytes.{written}
use Rattle.words.proofs.Written.{written_none}
use Rattle.recordfile.specs.Words.{record_bytes}
use Rattle.recordfile.specs.Records.{count_in, records_in}
use Rattle.recordfile.specs.Form.{Form, malformed, needs, least_records, most_records, records_need, judged, capped}
use Rattle.listing.specs.Listing.{letter_e, line, lines, listed, listing, most_line, most_text, output, laid, list_into}
use Rattle.listing.specs.Texts.{Wrote}
use Rattle.listing.proofs.Fixed.{length_put}
use Rattle.listing.proofs.Text.{line-few}

-- ---- the form that the code answers

listed-malformed : (x : Form) (r : Refusal) (text : List ℕ) → Err r ≡ capped x → listed x text ≡ line letter_e (refusal_number r ∷ [])
listed-malformed malformed r text e = let k : r ≡ BadRecordFile = cc in rw k refl
listed-malformed (needs pages) r text e = absurd cc

listed-formed : (x : Form) (o : Option ℕ) (text : List ℕ) → Ok o ≡ capped x → listed x text ≡ text
listed-formed malformed o text e = absurd cc
listed-formed (needs pages) o text e = refl

few-formed : (a b c : Bool) (x : Form) (o : Option ℕ) → Ok o ≡ capped (cond a (cond b (cond c x malformed) malformed) malformed) → c ≡ true
few-formed true true true x o e = refl
few-formed true true false x o e = absurd cc
few-formed true false c x o e = absurd cc
few-formed false b c x o e = absurd cc

-- ---- the text of a file

module _ (file : List ℕ) where
  pub text-malformed : (r : Refusal) (text : List ℕ) → Err r ≡ capped (judged file) → listed (judged file) text ≡ line letter_e (refusal_number r ∷ [])
  text-malformed r text e = listed-malformed (judged file) r text e

  module _ (o : Option ℕ) (e : Ok o ≡ capped (judged file)) where
    pub text-formed : (text : List ℕ) → listed (judged file) text ≡ text
    text-formed text = listed-formed (judged file) o text e

    pub formed-few : count_in file ≤ most_records
    unfolding judged
    formed-few =
        leb-true (count_in file) most_records
        (few-formed (eqb (length file % record_bytes) 0) (leb least_records (count_in file)) (leb (count_in file) most_records)
        (records_need (records_in file)) o e)

-- ---- what `list` answers

pub too_short : (file s : List ℕ) → length s < most_text → output 8 0 s ≡ laid s (list_into file (length s))
unfolding list_into
too_short file s h = simp (lt-leb most_text (length s) h, written_none)

pub into : (file s : List ℕ) → most_text ≤ length s → list_into file (length s) ≡ (0, listing file)
unfolding list_into
into file s room = simp (le-leb most_text (length s) room)

module _ (file s t : List ℕ) (end : ℕ) (room : most_text ≤ length s) where
  -- only `E 11`
  pub told-malformed : (r : Refusal) → Err r ≡ capped (judged file) → t ≡ written s 0 (line letter_e (refusal_number r ∷ []))
      → end ≡ 0 + length (line letter_e (refusal_number r ∷ []))
      → output 0 end t ≡ laid s (list_into file (length s))
  unfolding listing
  told-malformed r e w q = rw (into file s room, text-malformed file r (lines (records_in file)) e, w, q, zero-add)

  pub told-formed : (o : Option ℕ) → Ok o ≡ capped (judged file) → t ≡ written s 0 (lines (records_in file)) → end ≡ 0 + length (lines (records_in file))
      → output 0 end t ≡ laid s (list_into file (length s))
  unfolding listing
  told-formed o e w q = rw (into file s room, text-formed file o e (lines (records_in file)), w, q, zero-add)

-- the text lies inside the output
pub inside-line : (s t : List ℕ) (end n : ℕ) → most_line ≤ length s → Wrote s 0 (line letter_e (n ∷ [])) t end → end ≤ length t
inside-line s t end n room w =
    omega (arith, length_put s t (line letter_e (n ∷ [])) 0 end w, w.ends, line-few letter_e (n ∷ []) (omega arith))
