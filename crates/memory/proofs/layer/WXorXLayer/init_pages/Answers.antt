-- Lengths, bounds, then the pages and the fill.
use Rattle.std.proofs.Common.{rules, refl, true, false}
use Rattle.memory.proofs.Refused.{refused, passed_on}
use Rattle.memory.specs.Operations.{does}
use Rattle.memory.specs.WXorX.{init_pages}
use Rattle.memory.proofs.WriteOrExecute.{fits-small, init_refused, init_filled}
use Rattle.program.proofs.Laws.{then_done, then_stop}
use Rattle.memory.proofs.Lengths.{fit_not, fits_told}
use Rattle.memory.proofs.layer.WXorXLayer.init_pages.Goals as goal

pub returns-then-not-fits-clause-value : goal.returns-then-not-fits-clause-value
unfolding init_pages
returns-then-not-fits-clause-value c = search (rules, fit_not (λ n. n))

pub check_bounds-requires : goal.check_bounds-requires
check_bounds-requires c = search (rules, fits-small)

pub returns-in_err-check_bounds-clause-value : goal.returns-in_err-check_bounds-clause-value
returns-in_err-check_bounds-clause-value c =
    rw (passed_on c.from_residual.ensures.1) (init_refused _ _ _ _ _ _ _ c.fits.ensures (search rules) _ false c.in_err-check_bounds.ensures (refused _) refl)

pub returns-in_err-init_flags-clause-value : goal.returns-in_err-init_flags-clause-value
returns-in_err-init_flags-clause-value c =
    let b = c.in_ok-check_bounds.ensures in
    rw (passed_on c.from_residual-in_err-init_flags.ensures.1)
    (init_filled _ _ _ _ _ _ _ c.fits.ensures (search rules) 0 true b refl _ refl (then_stop does _ _ _ _ _ false (c.in_err-init_flags.ensures c.args.storage.now.slots.now c.args.storage.now.area.now c.args.memory.now) (refused _) refl))

pub fill_data-requires : goal.fill_data-requires
fill_data-requires c = search (rules, fits_told)

pub returns-clause-value : goal.returns-clause-value
returns-clause-value c =
    let b = c.in_ok-check_bounds.ensures in
    let k = c.in_ok-init_flags.ensures c.args.storage.now.slots.now c.args.storage.now.area.now c.args.memory.now in
    init_filled _ _ _ _ _ _ _ c.fits.ensures (search rules) 0 true b refl _ refl
    (then_done does _ _ _ 0 _ true _ k refl refl c.fill_data.ensures.value)
