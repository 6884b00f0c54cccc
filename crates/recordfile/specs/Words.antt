-- Words in a file: "each six 64-bit little-endian words".
use Rattle.std.specs.Prelude.{List, [], ◌∷◌, ◌++◌, ℕ, zero, suc, ◌+◌, ◌*◌}
use Rattle.words.specs.Bytes.{part}
use Rattle.words.specs.LittleEndian.{from_le, to_le}

-- "64-bit .. words"
abbrev pub word_bytes : ℕ
word_bytes = 8

-- "each six .. words"
abbrev pub record_words : ℕ
record_words = 6

-- "48-byte records"
abbrev pub record_bytes : ℕ
record_bytes = record_words * word_bytes

-- words as bytes, one after another
unfoldable pub image : List ℕ → List ℕ
image [] = []
image (w ∷ ws) = to_le word_bytes w ++ image ws

-- the n words of a file from a byte on
unfoldable pub words_at : List ℕ → ℕ → ℕ → List ℕ
words_at file at zero = []
words_at file at (suc n) = from_le (part file at word_bytes) ∷ words_at file (at + word_bytes) n
