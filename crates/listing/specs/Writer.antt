-- A lent output and the text in it, as the code holds them.
use Rattle.std.specs.Prelude.{◌≡◌, ◌+◌, ◌≤◌, ℕ, List, length}
use Rattle.listing.specs.Texts.{Wrote}
use Rattle.listing.specs.declared.writer.Writer.{Writer}

-- bytes were added at the text's end
abbrev pub Adds : Writer → Writer → List ℕ → Type 0
Adds old new bytes = Wrote old.out.now old.end bytes new.out.now new.end

-- so many bytes more have room
abbrev pub Room : Writer → ℕ → Type 0
Room text size = text.end + size ≤ length text.out.now

-- the same output is lent, as long as before
pub record SameOutput (old new : Writer) : Type 0 where
  pub output : new.out.ghost_name ≡ old.out.ghost_name
  pub long : length new.out.now ≡ length old.out.now
