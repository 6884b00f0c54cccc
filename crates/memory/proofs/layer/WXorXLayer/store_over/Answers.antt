-- Lengths, no bytes, the check of permission, then the store.
use Rattle.std.proofs.Common.{rules, refl, true, false, sym}
use Rattle.memory.proofs.Refused.{refused, passed_on}
use Rattle.memory.specs.WXorX.{store_bytes}
use Rattle.memory.proofs.Lengths.{fits_told, fit_not}
use Rattle.memory.proofs.WriteOrExecute.{any_none, any_denied, any-done}
use Rattle.memory.proofs.layer.WXorXLayer.store_over.Goals as goal

pub returns-then-not-fits-clause-value : goal.returns-then-not-fits-clause-value
unfolding store_bytes
returns-then-not-fits-clause-value c = search (rules, fit_not (λ n. n))

pub returns-then-n-eq0-clause-value : goal.returns-then-n-eq0-clause-value
returns-then-n-eq0-clause-value c = any_none _ _ _ _ (sym c.len-n.ensures) _ c.fits.ensures (search rules) c.if-n-eq0.true

pub returns-in_err-permits_bytes-clause-value : goal.returns-in_err-permits_bytes-clause-value
returns-in_err-permits_bytes-clause-value c =
    let k = rw c.lent.ensures.flags at (c.in_err-permits_bytes.ensures c.args.storage.now.slots.now c.args.storage.now.area.now) in
    rw (passed_on c.from_residual.ensures.1) (any_denied _ _ _ _ (sym c.len-n.ensures) _ c.fits.ensures (search rules) c.if-n-eq0.false _ false k (refused _) refl)

pub store_pages-requires-clause-fitting : goal.store_pages-requires-clause-fitting
store_pages-requires-clause-fitting c = search (rules, fits_told)

pub returns-clause-value : goal.returns-clause-value
returns-clause-value c =
    let k = rw c.lent.ensures.flags at (c.in_ok-permits_bytes.ensures c.args.storage.now.slots.now c.args.storage.now.area.now) in
    any-done _ _ _ _ (sym c.len-n.ensures) _ c.fits.ensures (search rules) c.if-n-eq0.false 0 true k refl _ refl c.store_pages.ensures.value
