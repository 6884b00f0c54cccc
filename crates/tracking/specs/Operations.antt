-- The operations of tracking, above those of the memory, and what each does to lent storage and records.
use Rattle.std.specs.Prelude.{ℕ, ◌+◌, ◌-◌, ◌^◌, Bool, false, cond, List, length, ◌==◌, bit_and, bit_or, nat_le, nat_lt, slice_index, slice_set}
use Rattle.bits.specs.Rounding.{page_size}
use Rattle.words.specs.Bytes.{filled}
use Rattle.program.specs.Program.{Prog, ask, ret}
use Rattle.program.specs.Layers.{Plus, own, ReplyPlus, over, beside, lift}
use Rattle.memory.specs.Pages.{dirty, cleared}
use Rattle.memory.specs.Storage.{state_of, fits_lengths}
use Rattle.memory.specs.Operations as memory
use Rattle.memory.specs.declared.Memory.{Memory}
use Rattle.machine.specs.Fresh.{Tracked, LentMachine, records_fit}
use Rattle.machine.specs.Operations as machine
use Rattle.tracking.specs.declared.records.Tracking.{Tracking}
use Rattle.tracking.specs.declared.records.Tracking.TheVariants as tracking
use Rattle.tracking.specs.Records.{record_at, with_record}

-- the greatest number of 64 bits
abbrev pub top : ℕ
top = 2 ^ 64 - 1

pub data Op : Type 0 where
  -- whether the lent lengths are right, the records' too
  lengths? : Op
  -- where a page's bytes come from
  entry? : ℕ → Op
  -- a page is tracked, from an offset of an item; a page's record is dropped
  track! : ℕ → ℕ → ℕ → Op
  drop! : ℕ → Op
  -- every page's record is dropped
  drop_all! : Op

abbrev pub Reply : Op → Type 0
Reply lengths? = Bool
Reply (entry? p) = Tracking
Reply (track! p id offset) = ℕ
Reply (drop! p) = ℕ
Reply drop_all! = ℕ

-- "track, untrack, context store, mark program, snapshot and resume check these and the records" (reading 1)
unfoldable pub fits_all : ℕ → ℕ → ℕ → ℕ → Memory → Bool
fits_all slots flags area records m = cond (fits_lengths slots flags area m) (records_fit records flags) false

abbrev pub fits_tracked : Tracked → Bool
fits_tracked m = fits_all (length m.0.slots) (length m.0.flags) (length m.0.area) (length m.1) m.0.memory

-- "The record of a dirty page is no part of any call's answer."
unfoldable pub masked : ℕ → Tracking → Tracking
masked flag t = cond (bit_and flag dirty == 0) t tracking.Untracked

abbrev pub entry_in : List ℕ → List ℕ → ℕ → Tracking
entry_in flags records p = masked (slice_index flags p) (record_at records p)

-- a page's flag made f, and its record t
abbrev pub marked : Tracked → ℕ → ℕ → Tracking → Tracked
marked m p f t =
    (state_of m.0.slots (slice_set m.0.flags p f) m.0.area m.0.memory, with_record m.1 p t)

-- a page's flag without dirty
abbrev pub clean : List ℕ → ℕ → ℕ
clean flags p = cleared (slice_index flags p) dirty

-- "past the machine, or its own offset + 4,096 above 2^64-1: 2 ..; else clear dirty, record offset and the flag now."
unfoldable pub track_page : Tracked → ℕ → ℕ → ℕ → ℕ × Tracked
track_page m p id offset =
    cond (nat_lt p (length m.0.flags))
    (cond (nat_le (offset + page_size) top)
    (0, marked m p (clean m.0.flags p) (tracking.Tracked id offset (clean m.0.flags p)))
    (2, m))
    (2, m)

-- "past the machine 2, else set dirty and drop the record"
unfoldable pub drop_page : Tracked → ℕ → ℕ × Tracked
drop_page m p =
    cond (nat_lt p (length m.0.flags))
    (0, marked m p (bit_or (slice_index m.0.flags p) dirty) tracking.Untracked)
    (2, m)

abbrev pub owns : (o : Op) → Tracked → Reply o × Tracked
owns lengths? m = (fits_tracked m, m)
owns (entry? p) m = (entry_in m.0.flags m.1 p, m)
owns (track! p id offset) m = track_page m p id offset
owns (drop! p) m = drop_page m p
-- "drop all tracking"; "Resume drops records without setting dirty" (reading 19): three zeros are an untracked page's
owns drop_all! m = (0, (m.0, filled (length m.1) 0))

abbrev pub AnyOp : Type 0
AnyOp = Plus memory.Op Op

abbrev pub AnyReply : AnyOp → Type 0
AnyReply = ReplyPlus memory.Reply Reply

abbrev pub does : (o : AnyOp) → Tracked → AnyReply o × Tracked
does = over memory.does owns

-- a call on a memory with records
abbrev pub Call : Type 0 → Type 0
Call A = Prog AnyOp AnyReply A

-- a call on the memory, as one on a memory with records
abbrev pub on_memory : {A : Type 0} → memory.Call A → Call A
on_memory g = lift g

-- "Check lengths (9) first in every call."
unfoldable pub fitting : {A : Type 0} → (ℕ → A) → Call A → Call A
fitting refused g = ask (own lengths?) (λ b. cond b g (ret (refused 9)))

-- ---- with the machine's numbers

abbrev pub MachineOp : Type 0
MachineOp = Plus AnyOp machine.Op

abbrev pub MachineReply : MachineOp → Type 0
MachineReply = ReplyPlus AnyReply machine.Reply

-- the machine's numbers stand beside what is lent, and neither touches the other
abbrev pub machine_does : (o : MachineOp) → LentMachine → MachineReply o × LentMachine
machine_does = over does (beside machine.does)

-- a call on a machine
abbrev pub MachineCall : Type 0 → Type 0
MachineCall A = Prog MachineOp MachineReply A
