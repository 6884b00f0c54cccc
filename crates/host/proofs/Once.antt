-- No second outcome fits a promise of this crate: one law for each form of an answer. x is what the definition gives.
use mathlib.Core.Path.{◌≡◌, ap, sym, ◌∙◌}
use mathlib.Core.List.{List}
use Prim.Native.Nat.{ℕ}
use Rattle.memory.specs.Pages.{PageIndices}
use Rattle.memory.specs.Storage.{State, Valued}
use Rattle.memory.specs.Sparse.{Output}
use Rattle.memory.specs.Answers.{wrote}
use Rattle.machine.specs.declared.Machine.{Machine}
use Rattle.machine.specs.Numbers.{machine_of}
use Rattle.machine.specs.Fresh.{Tracked, LentMachine}
use Rattle.tracking.specs.Sources.{Data}
use Rattle.snapshot.specs.MakeSnapshot as snapshot
use Rattle.host.specs.declared.Stored.{Stored}
use Rattle.host.specs.declared.Fresh.{Fresh}
use Rattle.host.specs.declared.Value.{Value}
use Rattle.host.specs.declared.Indices.{Indices}
use Rattle.host.specs.declared.MachineAnswer.{MachineAnswer}
use Rattle.host.specs.declared.Found.{Found}
use Rattle.host.specs.declared.ContextStored.{ContextStored}
use Rattle.host.specs.declared.Recorded.{Recorded}
use Rattle.host.specs.declared.Made.{Made}
use Rattle.host.specs.Handed.{Left, lent, handed, handed_fresh, handed_value, handed_indices, handed_machine, lent_tracked, handed_found, LeftContext, handed_context, ShownRecord, handed_record, handed_made}

pub stored_once : (r q : Stored) (slots flags area slots₂ flags₂ area₂ : List ℕ) (x : Left)
    → handed r slots flags area ≡ x → handed q slots₂ flags₂ area₂ ≡ x
    → (r ≡ q) × (slots ≡ slots₂) × (flags ≡ flags₂) × (area ≡ area₂)
stored_once r q slots flags area slots₂ flags₂ area₂ x e f =
    let z : handed r slots flags area ≡ handed q slots₂ flags₂ area₂ = e ∙ sym f in (
      λ i. record { number = (z i).number; used = (z i).used },
      ap (λ (l : Left). l.slots) z,
      ap (λ (l : Left). l.flags) z,
      ap (λ (l : Left). l.area) z,
    )

pub fresh_once : (r q : Fresh) (slots flags area slots₂ flags₂ area₂ : List ℕ) (x : ℕ × State)
    → handed_fresh r slots flags area ≡ x → handed_fresh q slots₂ flags₂ area₂ ≡ x
    → (r ≡ q) × (slots ≡ slots₂) × (flags ≡ flags₂) × (area ≡ area₂)
fresh_once r q slots flags area slots₂ flags₂ area₂ x e f =
    let z : handed_fresh r slots flags area ≡ handed_fresh q slots₂ flags₂ area₂ = e ∙ sym f in (
      λ i. record { number = (z i).0; memory = (z i).1.memory },
      ap (λ (y : ℕ × State). y.1.slots) z,
      ap (λ (y : ℕ × State). y.1.flags) z,
      ap (λ (y : ℕ × State). y.1.area) z,
    )

-- a number, and the flags that were left
pub number_once : (r q : ℕ) (slots area : List ℕ) (size used : ℕ) (flags flags₂ : List ℕ) (x : ℕ × State)
    → (r, lent slots flags area size used) ≡ x → (q, lent slots flags₂ area size used) ≡ x
    → (r ≡ q) × (flags ≡ flags₂)
number_once r q slots area size used flags flags₂ x e f =
    let z : ◌≡◌ {A = ℕ × State} (r, lent slots flags area size used) (q, lent slots flags₂ area size used) = e ∙ sym f in
    (ap (λ (y : ℕ × State). y.0) z, ap (λ (y : ℕ × State). y.1.flags) z)

pub value_once : (r q : Value) (s : State) (x : Valued × State) → (handed_value r, s) ≡ x → (handed_value q, s) ≡ x → r ≡ q
value_once r q s x e f =
    let z : ◌≡◌ {A = Valued × State} (handed_value r, s) (handed_value q, s) = e ∙ sym f in
    λ i. record { number = (z i).0.number; value = (z i).0.value }

pub indices_once : (r q : Indices) (x : PageIndices) → handed_indices r ≡ x → handed_indices q ≡ x → r ≡ q
indices_once r q x e f =
    let z : handed_indices r ≡ handed_indices q = e ∙ sym f in
    λ i. record { number = (z i).number; first = (z i).first; last = (z i).last }

pub bytes_once : (r q : ℕ) (out out₂ : List ℕ) (s : State) (x : Output × State)
    → wrote r 0 out s ≡ x → wrote q 0 out₂ s ≡ x
    → (r ≡ q) × (out ≡ out₂)
bytes_once r q out out₂ s x e f =
    let z : wrote r 0 out s ≡ wrote q 0 out₂ s = e ∙ sym f in
    (ap (λ (y : Output × State). y.0.number) z, ap (λ (y : Output × State). y.0.bytes) z)

pub text_once : (r q : Value) (out out₂ : List ℕ) (s : State) (x : Output × State)
    → wrote r.number r.value out s ≡ x → wrote q.number q.value out₂ s ≡ x
    → (r ≡ q) × (out ≡ out₂)
text_once r q out out₂ s x e f =
    let z : wrote r.number r.value out s ≡ wrote q.number q.value out₂ s = e ∙ sym f in
    (λ i. record { number = (z i).0.number; value = (z i).0.value }, ap (λ (y : Output × State). y.0.bytes) z)

-- ---- a machine

pub machine_once : (r q : MachineAnswer) (slots flags area records slots₂ flags₂ area₂ records₂ : List ℕ) (x : ℕ × LentMachine)
    → handed_machine r slots flags area records ≡ x → handed_machine q slots₂ flags₂ area₂ records₂ ≡ x
    → (r ≡ q) × (slots ≡ slots₂) × (flags ≡ flags₂) × (area ≡ area₂) × (records ≡ records₂)
machine_once r q slots flags area records slots₂ flags₂ area₂ records₂ x e f =
    let z : handed_machine r slots flags area records ≡ handed_machine q slots₂ flags₂ area₂ records₂ = e ∙ sym f in (
      λ i. record { number = (z i).0; machine = machine_of (z i).1.1 (z i).1.0.0.memory },
      ap (λ (y : ℕ × LentMachine). y.1.0.0.slots) z,
      ap (λ (y : ℕ × LentMachine). y.1.0.0.flags) z,
      ap (λ (y : ℕ × LentMachine). y.1.0.0.area) z,
      ap (λ (y : ℕ × LentMachine). y.1.0.1) z,
    )

pub register_once : (r q : Value) (x : Valued) → handed_value r ≡ x → handed_value q ≡ x → r ≡ q
register_once r q x e f =
    let z : handed_value r ≡ handed_value q = e ∙ sym f in
    λ i. record { number = (z i).number; value = (z i).value }

-- a register that is set
pub changed_once : (r q : MachineAnswer) (x : ℕ × Machine) → (r.number, r.machine) ≡ x → (q.number, q.machine) ≡ x → r ≡ q
changed_once r q x e f =
    let z : ◌≡◌ {A = ℕ × Machine} (r.number, r.machine) (q.number, q.machine) = e ∙ sym f in
    λ i. record { number = (z i).0; machine = (z i).1 }

-- pc, version, cycles and their maximum, and a machine in which one of them was set: what the definition gives, itself
pub same_once : {A : Type 0} (r q x : A) → r ≡ x → q ≡ x → r ≡ q
same_once r q x e f = e ∙ sym f

-- ---- sources and tracking

pub found_once : (r q : Found) (x : Data) → handed_found r ≡ x → handed_found q ≡ x → r ≡ q
found_once r q x e f =
    let z : handed_found r ≡ handed_found q = e ∙ sym f in
    λ i. record { number = (z i).number; start = (z i).start; count = (z i).count; full = (z i).full }

-- a number, and the flags and the records that were left
pub tracked_once : (r q : ℕ) (slots area : List ℕ) (size used : ℕ) (flags records flags₂ records₂ : List ℕ) (x : ℕ × Tracked)
    → (r, lent_tracked slots flags area records size used) ≡ x → (q, lent_tracked slots flags₂ area records₂ size used) ≡ x
    → (r ≡ q) × (flags ≡ flags₂) × (records ≡ records₂)
tracked_once r q slots area size used flags records flags₂ records₂ x e f =
    let z : ◌≡◌ {A = ℕ × Tracked} (r, lent_tracked slots flags area records size used) (q, lent_tracked slots flags₂ area records₂ size used) =
    e ∙ sym f in
    (ap (λ (y : ℕ × Tracked). y.0) z, ap (λ (y : ℕ × Tracked). y.1.0.flags) z, ap (λ (y : ℕ × Tracked). y.1.1) z)

pub context_once : (r q : ContextStored) (slots flags area records slots₂ flags₂ area₂ records₂ : List ℕ) (x : LeftContext)
    → handed_context r slots flags area records ≡ x → handed_context q slots₂ flags₂ area₂ records₂ ≡ x
    → (r ≡ q) × (slots ≡ slots₂) × (flags ≡ flags₂) × (area ≡ area₂) × (records ≡ records₂)
context_once r q slots flags area records slots₂ flags₂ area₂ records₂ x e f =
    let z : handed_context r slots flags area records ≡ handed_context q slots₂ flags₂ area₂ records₂ = e ∙ sym f in (
      λ i. record { number = (z i).number; used = (z i).used; stored = (z i).stored; full = (z i).full },
      ap (λ (l : LeftContext). l.slots) z,
      ap (λ (l : LeftContext). l.flags) z,
      ap (λ (l : LeftContext). l.area) z,
      ap (λ (l : LeftContext). l.records) z,
    )

pub record_once : (r q : Recorded) (m : Tracked) (x : ShownRecord × Tracked) → (handed_record r, m) ≡ x → (handed_record q, m) ≡ x → r ≡ q
record_once r q m x e f =
    let z : ◌≡◌ {A = ShownRecord × Tracked} (handed_record r, m) (handed_record q, m) = e ∙ sym f in
    λ i.
    record {
      number = (z i).0.number;
      tracked = (z i).0.tracked;
      id = (z i).0.id;
      offset = (z i).0.offset;
      flag = (z i).0.flag;
    }

-- ---- a snapshot, with both its outputs

pub made_once : (r q : Made) (file pages file₂ pages₂ : List ℕ) (m : LentMachine) (x : snapshot.Made × LentMachine)
    → handed_made r file pages m ≡ x → handed_made q file₂ pages₂ m ≡ x → (r ≡ q) × (file ≡ file₂) × (pages ≡ pages₂)
made_once r q file pages file₂ pages₂ m x e f =
    let z : handed_made r file pages m ≡ handed_made q file₂ pages₂ m = e ∙ sym f in (
      λ i. record { number = (z i).0.number; records = (z i).0.records; pages = (z i).0.pages },
      ap (λ (y : snapshot.Made × LentMachine). y.0.file) z,
      ap (λ (y : snapshot.Made × LentMachine). y.0.body) z,
    )
