-- A refusal's number is not 0, and what `?` passes on is the refusal.
use Rattle.std.proofs.Common.{◌≡◌, false, eqb, refl, ap, ◌∙◌, Result, Err, IsErrAnd}
use Rattle.std.proofs.lemmas.Result.{err_from_is_err_and}
use Rattle.outcome.specs.Numbers.{refusal_number}
use Rattle.outcome.specs.declared.Refusal.{Refusal}
use Rattle.outcome.specs.declared.Refusal.TheVariants.{InvalidVersion, MemOutOfBound, MemPageUnalignedAccess, MemWriteOnExecutablePage, MemWriteOnFreezedPage, SnapshotDataLoadError, AllSlotsInUse, OutputTooShort, BadStorage, NoSuchRegister, BadRecordFile}

pub refused : (x : Refusal) → false ≡ eqb (refusal_number x) 0
refused InvalidVersion = refl
refused MemOutOfBound = refl
refused MemPageUnalignedAccess = refl
refused MemWriteOnExecutablePage = refl
refused MemWriteOnFreezedPage = refl
refused SnapshotDataLoadError = refl
refused AllSlotsInUse = refl
refused OutputTooShort = refl
refused BadStorage = refl
refused NoSuchRegister = refl
refused BadRecordFile = refl

-- what a `?` answers with
pub passed_on : {A : Type 0} {r : Result A Refusal} {x : Refusal} → IsErrAnd r (λ e. e ≡ x) → r ≡ Err x
passed_on {r = r} h = let p = err_from_is_err_and r h in p.1 ∙ ap (λ e. Err e) p.2
