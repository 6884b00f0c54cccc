-- Lengths, then the page's end, then the page's slot.
use Rattle.std.proofs.Common.{rules}
use Rattle.memory.proofs.Lengths.{fits_told}
use Rattle.memory.proofs.ShortPath.{slot_found}
use Rattle.memory.proofs.Memory.slot_here.Goals as goal

pub returns-then-slot-self : goal.returns-then-slot-self
returns-then-slot-self c = (search rules, slot_found _ _ _ _ _ _ _ (fits_told _ _ _ _ _ c.fits.ensures (search rules)) (search rules) c.slot_of-slot.ensures.value)
