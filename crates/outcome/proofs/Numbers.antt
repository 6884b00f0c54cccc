-- The table read backwards: a number has at most one case, so two cases never share one.
use Prim.Native.Nat.{ℕ}
use mathlib.Core.Path.{◌≡◌, refl, ap, sym, ◌∙◌}
use mathlib.Core.List.{List, [], ◌∷◌}
use lib.ListN.{get_or}
use Rattle.std.specs.Prelude.{Ok, Err}
use Rattle.outcome.specs.declared.Refusal.TheVariants.{InvalidVersion, MemOutOfBound, MemPageUnalignedAccess, MemWriteOnExecutablePage, MemWriteOnFreezedPage, SnapshotDataLoadError, AllSlotsInUse, OutputTooShort, BadStorage, NoSuchRegister, BadRecordFile}
use Rattle.outcome.specs.Numbers.{Outcome, number_of}

-- the cases in the table's order
rows : List Outcome
rows =
    Ok tt ∷ Err InvalidVersion ∷ Err MemOutOfBound ∷ Err MemPageUnalignedAccess ∷ Err MemWriteOnExecutablePage ∷ Err MemWriteOnFreezedPage
    ∷ Err SnapshotDataLoadError ∷ Err AllSlotsInUse ∷ Err OutputTooShort ∷ Err BadStorage ∷ Err NoSuchRegister ∷ Err BadRecordFile ∷ []

-- the case of a number
case_of : ℕ → Outcome
case_of n = get_or rows n (Ok tt)

case_of_number : (o : Outcome) → case_of (number_of o) ≡ o
unfolding case_of rows
case_of_number (Ok _) = refl
case_of_number (Err InvalidVersion) = refl
case_of_number (Err MemOutOfBound) = refl
case_of_number (Err MemPageUnalignedAccess) = refl
case_of_number (Err MemWriteOnExecutablePage) = refl
case_of_number (Err MemWriteOnFreezedPage) = refl
case_of_number (Err SnapshotDataLoadError) = refl
case_of_number (Err AllSlotsInUse) = refl
case_of_number (Err OutputTooShort) = refl
case_of_number (Err BadStorage) = refl
case_of_number (Err NoSuchRegister) = refl
case_of_number (Err BadRecordFile) = refl

-- TWO CASES NEVER SHARE A NUMBER
pub number_once : (a b : Outcome) → number_of a ≡ number_of b → a ≡ b
number_once a b e = sym (case_of_number a) ∙ ap case_of e ∙ case_of_number b

-- 0 is the number of one case
pub done_alone : (o : Outcome) → number_of o ≡ 0 → o ≡ Ok tt
done_alone o e = number_once o (Ok tt) e
