-- No form, a page cut short, as many pages as it needs, and another number of them.
use Rattle.std.proofs.lemmas.Result.{err_from_is_err_and}
use Rattle.recordfile.proofs.WholeFile.{no-form, cut-page, all-pages, other-pages}
use Rattle.recordfile.proofs.form.in_form.Goals as goal

pub returns-in_err-needed : goal.returns-in_err-needed
returns-in_err-needed c =
    let p = err_from_is_err_and c.from_residual.result c.from_residual.ensures.1 in rw (p.1, p.2) (no-form _ _ _ c.in_err-needed.ensures)

pub returns-then-pages-ne0 : goal.returns-then-pages-ne0
returns-then-pages-ne0 c = cut-page _ _ _ c.in_ok-needed.ensures c.if-pages-ne0.true

pub returns-then-eq : goal.returns-then-eq
returns-then-eq c = all-pages _ _ _ c.in_ok-needed.ensures c.if-pages-ne0.false _ c.eq.ensures c.if-eq.true

pub returns-else-eq : goal.returns-else-eq
returns-else-eq c = other-pages _ _ _ c.in_ok-needed.ensures c.if-pages-ne0.false _ c.eq.ensures c.if-eq.false c.ranges.pages.fits
