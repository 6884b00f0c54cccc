-- Lengths, the check of permission, then the load.
use Rattle.std.proofs.Common.{rules, refl, true, false}
use Rattle.memory.proofs.Refused.{refused, passed_on}
use Rattle.memory.specs.Storage.{no_value}
use Rattle.memory.specs.WXorX.{execute_load}
use Rattle.memory.proofs.WriteOrExecute.{executes_denied, executes_done, executes_wide}
use Rattle.memory.proofs.Lengths.{fit_not, fits_told}
use Rattle.memory.proofs.layer.WXorXLayer.execute_load.Goals as goal

pub returns-then-not-fits : goal.returns-then-not-fits
unfolding execute_load
returns-then-not-fits c = search (rules, fit_not no_value)

pub returns-in_err-permits_bytes : goal.returns-in_err-permits_bytes
returns-in_err-permits_bytes c =
    rw (passed_on c.from_residual.ensures.1, ← c.bytes-n.ensures.value) (executes_denied _ _ _ _ c.fits.ensures (search rules) _ false (c.in_err-permits_bytes.ensures c.args.lent.slots.now c.args.lent.area.now) (refused _) refl)

pub returns-in-Some : goal.returns-in-Some
returns-in-Some c =
    let k = c.in_ok-permits_bytes.ensures c.args.lent.slots.now c.args.lent.area.now in
    rw (← c.bytes-n.ensures.value) (executes_wide _ _ _ _ c.fits.ensures (search rules) 0 true k refl _ refl c.in-Some.ensures.is)

pub load_over-requires-clause-fitting : goal.load_over-requires-clause-fitting
load_over-requires-clause-fitting c = search (rules, fits_told)

pub returns : goal.returns
returns c = let k = c.in_ok-permits_bytes.ensures c.args.lent.slots.now c.args.lent.area.now in rw (← c.bytes-n.ensures.value) (executes_done _ _ _ _ c.fits.ensures (search rules) 0 true k refl _ refl c.load_over.ensures)
