-- The number of each answer, as document 01's table has it.
use Rattle.std.specs.Prelude.{ℕ, ◌≡◌, Bool, eqb, Result, Ok, Err}
use Rattle.outcome.specs.declared.Refusal.{Refusal}
use Rattle.outcome.specs.declared.Refusal.TheVariants.{InvalidVersion, MemOutOfBound, MemPageUnalignedAccess, MemWriteOnExecutablePage, MemWriteOnFreezedPage, SnapshotDataLoadError, AllSlotsInUse, OutputTooShort, BadStorage, NoSuchRegister, BadRecordFile}
use Rattle.outcome.specs.declared.UnknownNumber.{UnknownNumber}

-- the column "No." for each row's "Meaning", but for the first
abbrev pub refusal_number : Refusal → ℕ
-- "`InvalidVersion`"
refusal_number InvalidVersion = 1
-- "`MemOutOfBound`"
refusal_number MemOutOfBound = 2
-- "`MemPageUnalignedAccess`"
refusal_number MemPageUnalignedAccess = 3
-- "`MemWriteOnExecutablePage`, also for an execute load from a page that isn't executable"
refusal_number MemWriteOnExecutablePage = 4
-- "`MemWriteOnFreezedPage`"
refusal_number MemWriteOnFreezedPage = 5
-- "`SnapshotDataLoadError`"
refusal_number SnapshotDataLoadError = 6
-- "an absent page must be written and all slots are in use; given then only"
refusal_number AllSlotsInUse = 7
-- "a lent output is too short"
refusal_number OutputTooShort = 8
-- "memory size not a multiple of 4,096 or above the maximum, lent storage of a wrong length, or a page's
-- slot number met that isn't in use"
refusal_number BadStorage = 9
-- "register number 32 or more"
refusal_number NoSuchRegister = 10
-- "record file not in the form below"
refusal_number BadRecordFile = 11

-- what a call answers that reads nothing
abbrev pub Outcome : Type 0
Outcome = Result (Unit {0}) Refusal

-- the number of an answer: "0 | done"
abbrev pub number_of : Outcome → ℕ
number_of (Ok _) = 0
number_of (Err refusal) = refusal_number refusal

-- "0 | done"
abbrev pub is_done : Outcome → Bool
is_done o = eqb (number_of o) 0

-- a number gives the refusal whose number it is, or is itself the error
abbrev pub Names : ℕ → Result Refusal UnknownNumber → Type 0
Names n (Ok refusal) = refusal_number refusal ≡ n
Names n (Err unknown) = (unknown.0 ≡ n) × ((refusal : Refusal) → ¬ (refusal_number refusal ≡ n))
