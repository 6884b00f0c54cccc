-- Operations that keep pages sound: each leaves a page dirty, or as it was. The programs that ask only such.
use mathlib.Core.Path.{◌≡◌, refl, sym, ap, ◌∙◌}
use mathlib.Core.List.{List, ◌∷◌}
use mathlib.Core.Logic.{◌≢◌, ◌⊎◌, inl, inr}
use Prim.Native.Nat.{ℕ, zero, suc, ◌+◌, ◌*◌, ◌/◌, ◌%◌, ◌≤◌, ◌<◌}
use native.Mathlib.Decide.{ℕ_discrete}
use native.Mathlib.Nat.{add-zero}
use native.Mathlib.Omega.{arith}
use lib.ListN.{length, length-take}
use lib.Dec.{ltb, eqb}
use lib.Bits.{bit_and, bit_or, or_comm}
use borrow.Author.Tests.{eq-eqb, ne_eqb, eqb-true, ltb-true, ltb-false}
use Rattle.bits.specs.Rounding.{page_size}
use Rattle.program.specs.Program.{run}
use Rattle.program.specs.Layers.{low, own}
use Rattle.memory.specs.Pages.{dirty}
use Rattle.memory.specs.Storage.{span}
use Rattle.memory.specs.Operations.{lengths?, size?, lr?, flag?, meet?, byte?, bytes?, part!, or!, lr! }
use Rattle.memory.specs.Operations as memory-op
use Rattle.memory.specs.WXorX as wxorx
use Rattle.memory.specs.Calls as memory-calls
use Rattle.memory.specs.View as memory
use Rattle.memory.proofs.StoreCases.{cases}
use Rattle.memory.proofs.Dirty.{dirty-set, or_dirty}
use Rattle.memory.proofs.Seen.{op_size_seen}
use Rattle.tracking.specs.Operations.{entry?, track!, drop!, drop_all!, AnyOp, AnyReply, MachineOp, MachineReply, on_memory, Call, MachineCall}
use Rattle.tracking.specs.Operations as tracking-op
use Rattle.tracking.specs.Tracking.{untrack_pages, page_record}
use Rattle.snapshot.specs.MakeSnapshot.{make_snapshot}
use Rattle.handover.specs.View.{View, remasked, does_v, MachineView, machine_does_v}
use Rattle.handover.specs.Keeping.{NothingLost}
use Rattle.handover.specs.Sound.{SoundPage, SoundPages, is_dirty, is_tracked, is_blank, page_in}
use Rattle.handover.proofs.Asks.{Asks, asks-kept}
use Rattle.handover.proofs.CallsAsk.{Asking, Setting, setting_asks, AskingTracked, asks_wxorx, asks_on_memory, asks_untrack_pages, asks_page_record, asks_make_snapshot}
use Rattle.handover.proofs.CallsAsk as calls-ask
pub use Rattle.handover.proofs.CallsAsk.{asks, sets, inits}
use Rattle.handover.proofs.Effects.{Masked}
use Rattle.handover.proofs.Seen.{mask_twice}

-- ---- bytes

pub span_same : (f g : ℕ → ℕ) (n a : ℕ) → ((i : ℕ) → i < n → f (a + i) ≡ g (a + i)) → span f a n ≡ span g a n
unfolding span
span_same f g zero a e = refl
span_same f g (suc n) a e =
    let h : f a ≡ g a = rw add-zero at (e 0 (omega arith)) in
    let t : span f (a + 1) n ≡ span g (a + 1) n =
    span_same f g n (a + 1) (λ i k. let z : a + 1 + i ≡ a + suc i = omega arith in rw z (e (suc i) (omega arith))) in
    λ i. h i ∷ t i

-- a page whose addresses hold the same bytes
pub page-bytes : (v u : View) (q : ℕ) → ((x : ℕ) → x / page_size ≡ q → u.memory.byte x ≡ v.memory.byte x) → page_in u q ≡ page_in v q
page-bytes v u q e =
    span_same u.memory.byte v.memory.byte page_size (q * page_size) (λ i k. e (q * page_size + i) (omega arith))

-- ---- what keeps pages sound

-- the pages are sound, and a dirty page shows no entry
pub record Good (directory sources : List ℕ) (v : View) : Type 0 where
  pub pages : SoundPages directory sources v
  pub masked : Masked v

module _ (directory sources : List ℕ) where
  -- a page that is as it was
  pub page-same : (v u : View) (q : ℕ) → u.memory.flag q ≡ v.memory.flag q → u.entry q ≡ v.entry q → page_in u q ≡ page_in v q
      → SoundPage directory sources v q → SoundPage directory sources u q
  page-same v u q f t b (is_dirty n) = is_dirty (rw f n)
  page-same v u q f t b (is_tracked id offset c e g) = is_tracked id offset (rw f c) (t ∙ rw f e) (g ∙ sym b)
  page-same v u q f t b (is_blank c e g) = is_blank (f ∙ c) (t ∙ e) (b ∙ g)

-- a page of the memory u that is dirty, or as it was in the memory v
abbrev pub Step : memory.View → memory.View → ℕ → Type 0
Step v u q = (bit_and (u.flag q) dirty ≢ 0) ⊎ ((u.flag q ≡ v.flag q) × ((x : ℕ) → x / page_size ≡ q → u.byte x ≡ v.byte x))

abbrev pub same_step : (v : memory.View) (q : ℕ) → Step v v q
same_step v q = inr (refl, λ x e. refl)

module _ (directory sources : List ℕ) (v : View) (u : memory.View) where
  -- the memory made u beside the same records
  abbrev pub beside-records : View
  beside-records = (remasked {A = ℕ} v (0, u)).1

  page-stepped : (q : ℕ) → Masked v → Step v.memory u q → SoundPage directory sources v q
      → SoundPage directory sources beside-records q
  page-stepped q m (inl n) s = is_dirty n
  page-stepped q m (inr e) s =
      page-same directory sources v beside-records q e.0
      (ap (λ (f : ℕ). tracking-op.masked f (v.entry q)) e.0 ∙ m q)
      (page-bytes v beside-records q e.1)
      s

  pub stepped-good : u.size ≡ v.memory.size → ((q : ℕ) → Step v.memory u q) → Good directory sources v
      → Good directory sources beside-records
  stepped-good e step g =
      record {
        pages = λ q h. page-stepped q g.masked (step q) (g.pages q (rw e at h));
        masked = λ q. mask_twice (u.flag q) (u.flag q) (v.entry q) (λ c. c);
      }

-- ---- gentle operations

-- the bits that are set have dirty among them
abbrev pub GentleMemory : memory-op.Op → Type 0
GentleMemory = Setting (λ f. bit_and f dirty ≢ 0) (λ x. Unit {0})

-- no page is tracked, and no entry dropped of a page that isn't dirty
abbrev pub Gentle : AnyOp → Type 0
Gentle (low o) = GentleMemory o
Gentle (own tracking-op.lengths?) = Unit {0}
Gentle (own (entry? p)) = Unit {0}
Gentle (own (track! p id offset)) = ⊥
Gentle (own (drop! p)) = Unit {0}
Gentle (own drop_all!) = ⊥

-- dirty is dirty
dirty_gentle : bit_and dirty dirty ≢ 0
dirty_gentle e = absurd (omega arith)

or_gentle : (f g : ℕ) → bit_and (bit_or f g) dirty ≡ 0 → bit_and g dirty ≡ 0
or_gentle f g e = or_dirty g f (ap (λ (x : ℕ). bit_and x dirty) (or_comm g f) ∙ e)

-- a flag made f, which is dirty or as it was
pub flag_step : (v : memory.View) (p f : ℕ) → NothingLost (v.flag p) f → (q : ℕ) → Step v (memory.flagged v p f) q
unfolding memory.at_one
flag_step v p f s q =
    cases (λ (x : ℕ). (bit_and x dirty ≢ 0) ⊎ ((x ≡ v.flag q) × ((y : ℕ) → y / page_size ≡ q → v.byte y ≡ v.byte y))) (eqb q p) _ _
    (λ e. here s (ap v.flag (sym (eqb-true q p e))))
    (λ e. inr (refl, λ y z. refl))
  where
    here : NothingLost (v.flag p) f → v.flag p ≡ v.flag q
        → (bit_and f dirty ≢ 0) ⊎ ((f ≡ v.flag q) × ((y : ℕ) → y / page_size ≡ q → v.byte y ≡ v.byte y))
    here (inl n) e = inl n
    here (inr c) e = inr (c ∙ e, λ y z. refl)

pub on_page_step : (v : memory.View) (p : ℕ) (w : memory.View) → ((q : ℕ) → Step v w q)
    → (q : ℕ) → Step v (memory.on_page v p w).1 q
on_page_step v p w s q =
    cases (λ (r : ℕ × memory.View). Step v r.1 q) (ltb p (v.size / page_size)) _ _ (λ e. s q) (λ e. same_step v q)

-- bytes on one page
stored_step : (v : memory.View) (a : ℕ) (bytes : List ℕ) → a % page_size + length bytes ≤ page_size
    → (q : ℕ) → Step v (memory.stored v a bytes) q
unfolding memory.at_one memory.placed
stored_step v a bytes h q = elim (ℕ_discrete q (a / page_size)) [
  | yes e ↦ inl (rw (eq-eqb q (a / page_size) e) (omega (arith, dirty-set (v.flag (a / page_size)))))
  | no n ↦ inr (
    rw (ne_eqb q (a / page_size) n),
    λ x z.
        cases (λ (y : ℕ). y ≡ v.byte x) (ltb x a) _ _
        (λ c. refl)
        (λ c.
        cases (λ (y : ℕ). y ≡ v.byte x) (ltb x (a + length bytes)) _ _
        (λ d. absurd (n (omega (arith, ltb-false x a c, ltb-true x (a + length bytes) d))))
        (λ d. refl)),
  )
]

pub memory_step : (o : memory-op.Op) → GentleMemory o → (v : memory.View) (q : ℕ) → Step v (memory.does_v o v).1 q
memory_step lengths? g v q = same_step v q
memory_step size? g v q = same_step v q
memory_step lr? g v q = same_step v q
memory_step (flag? p) g v q = same_step v q
memory_step (meet? p) g v q = same_step v q
memory_step (byte? a) g v q = same_step v q
memory_step (bytes? a n) g v q = same_step v q
memory_step (part! a bytes) g v q = on_page_step v _ _ (stored_step v a _ (rw length-take (omega arith))) q
memory_step (or! p f) g v q = on_page_step v _ _ (flag_step v p _ (inl (λ e. g (or_gentle (v.flag p) f e)))) q
memory_step (lr! x) g v q = inr (refl, λ y e. refl)

module _ (directory sources : List ℕ) where
  pub op_good : (o : AnyOp) → Gentle o → (v : View) → Good directory sources v → Good directory sources (does_v o v).1
  op_good (low o) g v w =
      stepped-good directory sources v _ (op_size_seen o v.memory) (memory_step o g v.memory) w
  op_good (own tracking-op.lengths?) g v w = w
  op_good (own (entry? p)) g v w = w
  op_good (own (track! p id offset)) g v w = absurd g
  op_good (own (drop! p)) g v w =
      stepped-good directory sources v _ (op_size_seen (or! p dirty) v.memory)
      (memory_step (or! p dirty) dirty_gentle v.memory)
      w
  op_good (own drop_all!) g v w = absurd g

  -- programs that ask gentle operations alone
  pub gentle_kept : {A : Type 0} (g : Call A) → Asks {Reply = AnyReply} Gentle g → (v : View) → Good directory sources v
      → Good directory sources (run does_v g v).1
  gentle_kept g a v w = asks-kept {Reply = AnyReply} Gentle does_v (Good directory sources) op_good g a v w

-- ---- calls on a memory that ask gentle operations alone

abbrev pub GentleCall : {A : Type 0} → memory-op.Call A → Type 0
GentleCall g = Asks {Reply = memory-op.Reply} GentleMemory g

gentle_memory : Asking GentleMemory
gentle_memory = setting_asks _ _

pub gentle_wxorx : (a : ℕ) (bytes : List ℕ) → GentleCall (wxorx.store_bytes a bytes)
gentle_wxorx a bytes = asks_wxorx gentle_memory a bytes

-- a call asks gentle operations alone, sets a flag, or is W^X init_pages
abbrev pub Kind : memory-calls.Named → Type 0
Kind c = calls-ask.Kind GentleMemory c

pub kind : (c : memory-calls.Named) → Kind c
kind c = calls-ask.kind gentle_memory (λ p. dirty_gentle) c (λ x e. tt)

-- ---- calls on a memory with records

abbrev pub GentleTracked : {A : Type 0} → Call A → Type 0
GentleTracked g = Asks {Reply = AnyReply} Gentle g

gentle_tracked : AskingTracked Gentle
gentle_tracked = record { memory = gentle_memory; lengths = tt; entry = λ p. tt; drop = λ p. tt }

-- a call on the memory, as one on a memory with records
pub gentle_on_memory : {A : Type 0} (g : memory-op.Call A) → GentleCall g → GentleTracked (on_memory g)
gentle_on_memory g a = asks_on_memory Gentle g a

pub gentle_untrack_pages : (start size : ℕ) → GentleTracked (untrack_pages start size)
gentle_untrack_pages start size = asks_untrack_pages gentle_tracked start size

pub gentle_page_record : (p : ℕ) → GentleTracked (page_record p)
gentle_page_record p = asks_page_record gentle_tracked p

-- ---- calls on a machine

-- its numbers stand beside the pages
abbrev pub GentleMachine : MachineOp → Type 0
GentleMachine (low o) = Gentle o
GentleMachine (own o) = Unit {0}

abbrev pub GentleMachineCall : {A : Type 0} → MachineCall A → Type 0
GentleMachineCall g = Asks {Reply = MachineReply} GentleMachine g

module _ (directory sources : List ℕ) where
  machine_op_good : (o : MachineOp) → GentleMachine o → (v : MachineView) → Good directory sources v.0
      → Good directory sources (machine_does_v o v).1.0
  machine_op_good (low o) g v w = op_good directory sources o g v.0 w
  machine_op_good (own o) g v w = w

  pub gentle_machine_kept : {A : Type 0} (g : MachineCall A) → GentleMachineCall g → (v : MachineView) → Good directory sources v.0
      → Good directory sources (run machine_does_v g v).1.0
  gentle_machine_kept g a v w =
      asks-kept {Reply = MachineReply} GentleMachine machine_does_v (λ (u : MachineView). Good directory sources u.0) machine_op_good g a v w

pub gentle_make_snapshot : (file pages : ℕ) → GentleMachineCall (make_snapshot file pages)
gentle_make_snapshot file pages =
    asks_make_snapshot
    (record { storage = gentle_tracked; registers = tt; version = tt; pc = tt; cycles = tt; maximum = tt })
    file
    pages
