-- What a refusal is displayed as: the meaning of its number.
use Rattle.std.specs.Prelude.{ℕ, List, codes}
use Rattle.outcome.specs.declared.Refusal.{Refusal}
use Rattle.outcome.specs.declared.Refusal.TheVariants.{InvalidVersion, MemOutOfBound, MemPageUnalignedAccess, MemWriteOnExecutablePage, MemWriteOnFreezedPage, SnapshotDataLoadError, AllSlotsInUse, OutputTooShort, BadStorage, NoSuchRegister, BadRecordFile}

-- the column "Meaning", in words where the table has the Rust's name; src/lib.rt has each beside its case
abbrev pub meaning : Refusal → List ℕ
meaning InvalidVersion = codes "the snapshot is of another version"
meaning MemOutOfBound = codes "past the machine's memory, past the maximum, or a sum past 2^64-1"
meaning MemPageUnalignedAccess = codes "an address, a size or data that is not whole pages"
meaning MemWriteOnExecutablePage = codes "a store to an executable page, or an execute load from one that isn't"
meaning MemWriteOnFreezedPage = codes "a page fill that meets a frozen page"
meaning SnapshotDataLoadError = codes "no such item, its range leaves the source bytes, or the offset is past its end"
meaning AllSlotsInUse = codes "an absent page must be written and all slots are in use"
meaning OutputTooShort = codes "a lent output is too short"
meaning BadStorage = codes "a memory size, a lent length or a page's slot number that can't be"
meaning NoSuchRegister = codes "register number 32 or more"
meaning BadRecordFile = codes "a record file that is not in its form"
