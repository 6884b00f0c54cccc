-- Lengths, the lookup, then the steps.
use Rattle.std.proofs.Common.{rules, refl}
use Rattle.memory.proofs.Refused.{refused}
use Rattle.tracking.proofs.Passed.{passed}
use Rattle.tracking.specs.Tracking.{not_stored, store_bytes}
use Rattle.tracking.proofs.Lengths.{fit_not}
use Rattle.tracking.proofs.ContextStore.{store-missing, store-done, store-refused}
use Rattle.tracking.proofs.storage.TrackedStorage.store_bytes.Goals as goal

pub returns-then-not-fits-clause-value : goal.returns-then-not-fits-clause-value
unfolding store_bytes
returns-then-not-fits-clause-value c = fit_not not_stored _ _ _ c.fits.ensures (search rules)

pub returns-in_default-clause-value : goal.returns-in_default-clause-value
returns-in_default-clause-value c =
    let a = c.args in
    store-missing _ a.sources.directory.now a.sources.bytes.now a.address a.id a.offset a.size a.size_at _ c.fits.ensures (search rules) _ c.in_default.ensures refl

pub returns-in_err-store_data-clause-value : goal.returns-in_err-store_data-clause-value
returns-in_err-store_data-clause-value c =
    let a = c.args in
    rw (passed c.from_residual.result c.from_residual.ensures.1) (store-refused _ a.sources.directory.now a.sources.bytes.now a.address a.id a.offset a.size a.size_at _ c.fits.ensures (search rules) _ c.in-Some.ensures c.in-Some.place refl _ c.load_data-data.ensures _ _ c.in_err-store_data.ensures.value (refused _))

pub returns-clause-value : goal.returns-clause-value
returns-clause-value c =
    let a = c.args in
    store-done _ a.sources.directory.now a.sources.bytes.now a.address a.id a.offset a.size a.size_at _ c.fits.ensures (search rules) _ c.in-Some.ensures c.in-Some.place refl _ c.load_data-data.ensures 0 _ c.in_ok-store_data.ensures.value refl
