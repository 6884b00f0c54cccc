-- Sound machines.
use Rattle.std.specs.Prelude.{List, ◌≢◌, ◌≡◌, ℕ, ◌*◌, ◌/◌, ◌<◌, length}
use Rattle.std.specs.Int.Bits.{bit_and}
use Rattle.bits.specs.Rounding.{page_size}
use Rattle.words.specs.Bytes.{filled}
use Rattle.memory.specs.Pages.{dirty}
use Rattle.memory.specs.Storage.{span}
use Rattle.machine.specs.Fresh.{LentMachine}
use Rattle.tracking.specs.declared.records.Tracking.TheVariants.{Untracked, Tracked}
use Rattle.tracking.specs.Sources.{find_data, data_of}
use Rattle.handover.specs.View.{View, view}
use Rattle.handover.specs.Reached.{Reached}

-- the bytes of a page
abbrev pub page_in : View → ℕ → List ℕ
page_in v p = span v.memory.byte (p * page_size) page_size

-- what an item of the sources gives for a page
abbrev pub source_gives : List ℕ → List ℕ → ℕ → ℕ → List ℕ
source_gives directory sources id offset = data_of sources (find_data directory (length sources) id offset page_size)

-- "every page without the dirty flag is either tracked, its source giving exactly its bytes and its recorded flag equal to its flag
-- now, or untracked, all zero, flag 0"
pub data SoundPage (directory sources : List ℕ) (v : View) (p : ℕ) : Type 0 where
  is_dirty : bit_and (v.memory.flag p) dirty ≢ 0 → SoundPage directory sources v p
  is_tracked : (id offset : ℕ) → bit_and (v.memory.flag p) dirty ≡ 0 → v.entry p ≡ Tracked id offset (v.memory.flag p)
      → source_gives directory sources id offset ≡ page_in v p → SoundPage directory sources v p
  is_blank : v.memory.flag p ≡ 0 → v.entry p ≡ Untracked → page_in v p ≡ filled page_size 0 → SoundPage directory sources v p

abbrev pub SoundPages : List ℕ → List ℕ → View → Type 0
SoundPages directory sources v = (p : ℕ) → p < v.memory.size / page_size → SoundPage directory sources v p

-- "Sound: reached from fresh by our calls, and every page .."; the sources are those that a resume is to be lent
pub record Sound (directory sources : List ℕ) (m : LentMachine) : Type 0 where
  pub reached : Reached m
  pub pages : SoundPages directory sources (view m.0)
