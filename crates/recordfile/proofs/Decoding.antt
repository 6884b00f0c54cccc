-- Words read and written one by one.
use mathlib.Core.Path.{◌≡◌, refl}
use mathlib.Core.List.{List, ◌++◌, append_assoc, append-nil}
use Prim.Native.Nat.{ℕ, suc, ◌+◌, ◌*◌, ◌-◌, ◌≤◌, ◌<◌}
use native.Mathlib.Nat.{add-zero}
use native.Mathlib.Numerals.{add-one}
use native.Mathlib.Omega.{arith}
use lib.ListN.{length, get_or, take, drop, set, length-set, drop_of_length-le}
use lib.Seq.{take_all, take-suc-set, drop-cons}
use Rattle.words.specs.Bytes.{written}
use Rattle.words.specs.LittleEndian.{to_le, Read}
use Rattle.words.proofs.Written.{length-written, written_none, written_next}
use Rattle.words.proofs.LittleEndian.{length-to_le}
use Rattle.recordfile.specs.Words.{word_bytes, image, words_at}

-- ---- n words from a byte on, i of which are read
module _ (file : List ℕ) (at n : ℕ) where
  -- those read and those that are left are all of them
  pub record ReadTo (words : List ℕ) (i : ℕ) : Type 0 where
    pub within : i ≤ n
    pub sized : length words ≡ n
    pub all : take i words ++ words_at file (at + i * word_bytes) (n - i) ≡ words_at file at n

  pub read_more : (words : List ℕ) (i x : ℕ) → i < n → Read file (at + i * word_bytes) word_bytes x → ReadTo words i
      → ReadTo (set words i x) (i + 1)
  unfolding words_at
  read_more words i x h r w =
      let m : n - i ≡ suc (n - (i + 1)) = omega arith in
      let k : at + i * word_bytes + word_bytes ≡ at + (i + 1) * word_bytes = omega arith in
      record {
        within = omega arith;
        sized = rw length-set w.sized;
        all = rw (add-one, take-suc-set words i x (omega (arith, w.sized)), append_assoc, ← add-one i, r.value, ← k) (rw m at w.all);
      }

  pub read_done : (words : List ℕ) (i : ℕ) → n ≤ i → ReadTo words i → words ≡ words_at file at n
  unfolding words_at
  read_done words i h w =
      let z : n - i ≡ 0 = omega arith in
      rw (z, append-nil, take_all i words (omega (arith, w.sized))) at w.all

-- ---- n words from a byte on, i of which are written
module _ (entry : List ℕ) (at : ℕ) (words : List ℕ) (n : ℕ) where
  -- those that are left make the whole
  pub record WrittenTo (file : List ℕ) (i : ℕ) : Type 0 where
    pub within : i ≤ n
    pub sized : length words ≡ n
    pub same_size : length file ≡ length entry
    pub all : written file (at + i * word_bytes) (image (drop i words)) ≡ written entry at (image words)

  pub write_none : length words ≡ n → WrittenTo entry 0
  write_none e = record { within = omega arith; sized = e; same_size = refl; all = rw add-zero }

  pub write_more : (file now : List ℕ) (i : ℕ) → WrittenTo file i → i < n
      → now ≡ written file (at + i * word_bytes) (to_le word_bytes (get_or words i 0))
      → WrittenTo now (i + 1)
  unfolding image
  write_more file now i w h e =
      let x : List ℕ = to_le word_bytes (get_or words i 0) in
      let l : length x ≡ word_bytes = length-to_le word_bytes (get_or words i 0) in
      let k : at + (i + 1) * word_bytes ≡ at + i * word_bytes + length x = omega arith in
      record {
        within = omega arith;
        sized = w.sized;
        same_size = rw (e, length-written) w.same_size;
        all = rw (e, k, add-one, written_next) (rw (drop-cons words i 0 (omega (arith, w.sized))) at w.all);
      }

  pub write_done : (file : List ℕ) (i : ℕ) → n ≤ i → WrittenTo file i → file ≡ written entry at (image words)
  unfolding image
  write_done file i h w = rw (drop_of_length-le words {i = i} (omega (arith, w.sized)), written_none) at w.all
