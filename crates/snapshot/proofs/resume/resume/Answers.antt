-- Lengths, the form, the version, then the rest.
use Rattle.std.proofs.Common.{rules, refl}
use Rattle.recordfile.proofs.WholeFile.{left-all}
use Rattle.memory.proofs.Refused.{refused, passed_on}
use Rattle.snapshot.proofs.RestoredRuns.{state-formed, version-read, registers-formed, runs-formed, snapshot-read}
use Rattle.snapshot.proofs.Resumed.{resume_unfit, resume-malformed, resume-other, resume-same}
use Rattle.snapshot.proofs.resume.resume.Goals as goal

pub returns-then-not-fits-clause-value : goal.returns-then-not-fits-clause-value
returns-then-not-fits-clause-value c = search (rules, resume_unfit)

pub returns-in_err-in_form-clause-value : goal.returns-in_err-in_form-clause-value
returns-in_err-in_form-clause-value c =
    rw (passed_on c.from_residual.ensures.1)
    (resume-malformed _ _ _ _ _ _ c.fits.ensures (search rules) _ c.in_err-in_form.ensures (refused _))

pub kept_in-kept-requires : goal.kept_in-kept-requires
kept_in-kept-requires c = search (rules, left-all, state-formed, c.in_ok-in_form.ensures)

pub returns-then-machine-kept-clause-value : goal.returns-then-machine-kept-clause-value
returns-then-machine-kept-clause-value c =
    resume-other _ _ _ _ _ _ c.fits.ensures (search rules) _ c.in_ok-in_form.ensures refl _
    (version-read _ _ c.in_ok-in_form.ensures _ (search (rules, left-all)) c.kept_in-kept.result _ c.kept_in-kept.ensures)
    c.if-machine-kept.true

pub registers_in-registers-requires : goal.registers_in-registers-requires
registers_in-registers-requires c = search (rules, left-all, registers-formed, c.in_ok-in_form.ensures)

pub restore-requires : goal.restore-requires
restore-requires c = search (rules, left-all, runs-formed, c.in_ok-in_form.ensures)

pub returns-clause-value : goal.returns-clause-value
returns-clause-value c =
    resume-same _ _ _ _ _ _ c.fits.ensures (search rules) _ c.in_ok-in_form.ensures refl _
    (snapshot-read _ _ c.in_ok-in_form.ensures _ (search (rules, left-all)) c.kept_in-kept.result _ c.kept_in-kept.ensures _ _
    c.registers_in-registers.ensures (search rules))
    c.if-machine-kept.false _ c.restore.ensures.value
