-- `words::write_le` meets its contract: the lowest of std's bytes of the number, and zeros past them.
use Rattle.std.proofs.Common.{rules, refl}
use Rattle.words.specs.Bytes.{filled}
use Rattle.words.proofs.Std.{number-written}
use Rattle.words.proofs.write_le.Goals as goal

pub returns : goal.returns
unfolding filled
returns c =
    number-written _ _ _ _ _ _ _ _ _ _ _ (search rules) c.min-from.ensures (search rules) (search rules) (search rules)
    c.copy_from_slice.ensures.after refl (search rules)
