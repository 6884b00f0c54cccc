-- An entry that leaves the bytes, an offset above its length, and what is found.
use Rattle.std.proofs.Common.{arith}
use Rattle.tracking.proofs.Lookup.{outside, entry-short, entry_found}
use Rattle.tracking.proofs.sources.entry_place.Goals as goal

pub returns-in_err-end : goal.returns-in_err-end
returns-in_err-end c = rw c.from_residual.ensures (outside _ _ _ _ _ (omega (arith, c.in_err-end.ensures)))

pub returns-then-end-room : goal.returns-then-end-room
returns-then-end-room c = outside _ _ _ _ _ (omega (arith, c.in_ok-end.ensures))

pub returns-in_err-full : goal.returns-in_err-full
returns-in_err-full c =
    rw c.from_residual-in_err-full.ensures (entry-short _ _ _ _ _ (omega (arith, c.in_ok-end.ensures)) (omega (arith, c.in_err-full.ensures)))

pub returns : goal.returns
returns c =
    let a = c.args in
    entry_found a.room a.start a.size a.offset a.wanted (omega (arith, c.in_ok-end.ensures)) _ _ (omega (arith, c.in_ok-full.ensures))
    (omega (arith, c.in_ok-full.ensures)) c.min.ensures
