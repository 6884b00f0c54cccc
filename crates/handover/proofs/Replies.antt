-- What the operations reply on a machine: on every storage, less on well-formed storage, and less still with a slot for every page;
-- and that a program then answers what it ends with on such replies.
use mathlib.Core.Path.{◌≡◌, refl}
use mathlib.Core.Bool.{Bool, true, false}
use mathlib.Core.List.{List}
use mathlib.Core.Logic.{◌≢◌, ◌⊎◌, inl, inr}
use Prim.Native.Nat.{ℕ, ◌+◌, ◌/◌, ◌≤◌, ◌<◌}
use native.Mathlib.Omega.{arith}
use lib.ListN.{length}
use lib.Dec.{ltb, leb, eqb}
use borrow.Author.Tests.{lt-ltb, eqb-false, ltb-false}
use Rattle.bits.specs.Rounding.{page_size}
use Rattle.program.specs.Program.{run}
use Rattle.program.specs.Layers.{low, own}
use Rattle.program.proofs.Keeps.{Ends, ends}
use Rattle.memory.specs.Storage.{State, Valued, absent, slot_in, flag_in, met, or_flag}
use Rattle.memory.specs.Operations as memory-op
use Rattle.memory.specs.View as memory
use Rattle.memory.proofs.StoreCases.{cases, PageStored, past, full, wild, took, had, page-stored}
use Rattle.memory.proofs.Replies as memory-replies
use Rattle.machine.specs.Fresh.{Tracked, LentMachine}
use Rattle.machine.specs.Operations as machine
use Rattle.tracking.specs.Operations.{Op, Reply, lengths?, entry?, track!, drop!, drop_all!, AnyOp, AnyReply, MachineOp, MachineReply, fits_tracked, track_page, drop_page, does, machine_does, Call, MachineCall, top}
use Rattle.tracking.proofs.Lengths.{memory-told}
use Rattle.handover.specs.View.{WellFormed, Whole}
use Rattle.handover.proofs.Ends.{CanPlus}
use Rattle.handover.proofs.WellFormed.{SameLengths, lengths-same, lengths_then, whole-formed, lengths_reply, op_lengths, op_kept, op_whole}

-- where lengths can be wrong or a slot number wild, and where slots can run out
module _ (Wrong Full : Type 0) where
  -- ---- storage

  -- any, well formed, or with a slot for every page
  pub data Sort (m : Tracked) : Type 0 where
    any : Wrong → Full → Sort m
    formed : WellFormed m → Full → Sort m
    whole : Whole m → Sort m

  sort_kept : (o : AnyOp) (m : Tracked) → Sort m → Sort (does o m).1
  sort_kept o m (any w f) = any w f
  sort_kept o m (formed w f) = formed (op_kept o m w) f
  sort_kept o m (whole w) = whole (op_whole o m w)

  -- ---- replies

  -- a page's bytes, of a page that has a slot number
  abbrev pub Met : ℕ → Type 0
  Met n = (n ≡ 0) ⊎ ((n ≡ 9) × Wrong)

  -- done, or past the machine
  abbrev pub Done : ℕ → Type 0
  Done n = (n ≡ 0) ⊎ (n ≡ 2)

  -- a store into one page
  abbrev pub Stored : ℕ → Type 0
  Stored n = (n ≡ 0) ⊎ ((n ≡ 2) ⊎ (((n ≡ 7) × Full) ⊎ ((n ≡ 9) × Wrong)))

  -- of a call on machine m
  module _ (m : Tracked) where
    -- lengths: where they are right, there is a slot number for each page
    pub record Checked (b : Bool) : Type 0 where
      pub wrong : b ≡ false → Wrong
      pub right : b ≡ true → m.0.memory.size / page_size ≡ length m.0.slots

    abbrev pub CanMemory : (o : memory-op.Op) → memory-op.Reply o → Type 0
    CanMemory memory-op.lengths? b = b ≡ false → Wrong
    CanMemory memory-op.size? n = n ≡ m.0.memory.size
    CanMemory memory-op.lr? n = Unit {0}
    CanMemory (memory-op.flag? p) v = Done v.number
    CanMemory (memory-op.meet? p) n = p < length m.0.slots → Met n
    CanMemory (memory-op.byte? a) n = Unit {0}
    CanMemory (memory-op.bytes? a n) l = Unit {0}
    CanMemory (memory-op.part! a bytes) n = Stored n
    CanMemory (memory-op.or! p f) n = Done n
    CanMemory (memory-op.lr! x) n = n ≡ 0

    abbrev pub CanRecords : (o : Op) → Reply o → Type 0
    CanRecords lengths? b = Checked b
    CanRecords (entry? p) t = Unit {0}
    CanRecords (track! p id offset) n = Done n
    CanRecords (drop! p) n = Done n
    CanRecords drop_all! n = n ≡ 0

    abbrev pub CanNumbers : (o : machine.Op) → machine.Reply o → Type 0
    CanNumbers o r = Unit {0}

    abbrev pub Can : (o : AnyOp) → AnyReply o → Type 0
    Can = CanPlus CanMemory CanRecords

    abbrev pub CanMachine : (o : MachineOp) → MachineReply o → Type 0
    CanMachine = CanPlus Can CanNumbers

  -- ---- what is replied

  -- a test that is right does not fail
  right : (b : Bool) → b ≡ true → b ≡ false → Wrong
  right b e f = let z : ◌≡◌ {A = ℕ} 0 1 = cc in absurd (omega arith)

  -- only where a slot number can be wild is one that isn't in use
  wild-wrong : (t : Tracked) → Sort t → (p : ℕ) → slot_in t.0.slots p ≢ absent → t.0.memory.used ≤ slot_in t.0.slots p → Wrong
  wild-wrong t (any w f) p n h = w
  wild-wrong t (formed w f) p n h = absurd (omega (arith, w.memory.held p n))
  wild-wrong t (whole w) p n h = absurd (omega (arith, w.memory.formed.held p n))

  met-reply : (t : Tracked) → Sort t → (p : ℕ) → p < length t.0.slots → Met (met t.0.slots t.0.memory.used p)
  unfolding met
  met-reply t s p h =
      rw (lt-ltb p (length t.0.slots) h)
      (cases Met (eqb (slot_in t.0.slots p) absent) _ _
      (λ a. inl refl)
      (λ a.
      cases Met (ltb (slot_in t.0.slots p) t.0.memory.used) _ _
      (λ b. inl refl)
      (λ b. inr (refl, wild-wrong t s p (eqb-false _ _ a) (ltb-false _ _ b)))))

  part-any : (s : State) (p at : ℕ) (bytes : List ℕ) → Wrong → Full → (r : ℕ × State) → PageStored s p at bytes r → Stored r.0
  part-any s p at bytes w f r (past h) = inr (inl refl)
  part-any s p at bytes w f r (full h e k) = inr (inr (inl (refl, f)))
  part-any s p at bytes w f r (wild h n k) = inr (inr (inr (refl, w)))
  part-any s p at bytes w f r (took h e k) = inl refl
  part-any s p at bytes w f r (had h n k) = inl refl

  part-formed : (s : State) (n : ℕ) → (memory.Roomy s ⊎ Full) → (n ≡ 0) ⊎ ((n ≡ 2) ⊎ ((n ≡ 7) × (memory.Roomy s → ⊥))) → Stored n
  part-formed s n f (inl e) = inl e
  part-formed s n f (inr (inl e)) = inr (inl e)
  part-formed s n (inl r) (inr (inr e)) = absurd (e.1 r)
  part-formed s n (inr f) (inr (inr e)) = inr (inr (inl (e.0, f)))

  -- of a machine that has the lengths of m
  module _ (m : Tracked) where
    checked : (t : Tracked) → SameLengths m t → (fits_tracked t ≡ false → Wrong) → Checked m (fits_tracked t)
    checked t l w =
        record {
          wrong = w;
          right = λ e.
              let fit = memory-told _ _ _ _ t.0.memory (fits_tracked t) refl e in
              omega (arith, fit.slots_are, l.memory.size, l.memory.slots);
        }

    reply : (o : AnyOp) (t : Tracked) → SameLengths m t → Sort t → Can m o (does o t).0
    unfolding flag_in or_flag track_page drop_page
    reply (low memory-op.lengths?) t l (any w f) = λ e. w
    reply (low memory-op.lengths?) t l (formed w f) = right _ (memory-replies.lengths_reply t.0 w.memory)
    reply (low memory-op.lengths?) t l (whole w) = right _ (memory-replies.lengths_reply t.0 w.memory.formed)
    reply (low memory-op.size?) t l s = l.memory.size
    reply (low memory-op.lr?) t l s = tt
    reply (low (memory-op.flag? p)) t l s =
        cases (λ (v : Valued). Done v.number) (ltb p (length t.0.flags)) _ _ (λ b. inl refl) (λ b. inr refl)
    reply (low (memory-op.meet? p)) t l s = λ h. met-reply t s p (omega (arith, l.memory.slots))
    reply (low (memory-op.byte? a)) t l s = tt
    reply (low (memory-op.bytes? a n)) t l s = tt
    reply (low (memory-op.part! a bytes)) t l (any w f) = part-any t.0 _ _ _ w f _ (page-stored t.0 _ _ _)
    reply (low (memory-op.part! a bytes)) t l (formed w f) =
        part-formed t.0 _ (inr f) (memory-replies.part-reply t.0 w.memory _ _ _)
    reply (low (memory-op.part! a bytes)) t l (whole w) =
        part-formed t.0 _ (inl w.memory.roomy) (memory-replies.part-reply t.0 w.memory.formed _ _ _)
    reply (low (memory-op.or! p f)) t l s =
        cases (λ (r : ℕ × State). Done r.0) (ltb p (length t.0.flags)) _ _ (λ b. inl refl) (λ b. inr refl)
    reply (low (memory-op.lr! x)) t l s = refl
    reply (own lengths?) t l (any w f) = checked t l (λ e. w)
    reply (own lengths?) t l (formed w f) = checked t l (right _ (lengths_reply t w))
    reply (own lengths?) t l (whole w) = checked t l (right _ (lengths_reply t (whole-formed t w)))
    reply (own (entry? p)) t l s = tt
    reply (own (track! p id offset)) t l s =
        cases Q (ltb p (length t.0.flags)) _ _
        (λ b. cases Q (leb (offset + page_size) top) _ _ (λ c. inl refl) (λ c. inr refl))
        (λ b. inr refl)
      where
        Q : ℕ × Tracked → Type 0
        Q r = Done r.0
    reply (own (drop! p)) t l s =
        cases (λ (r : ℕ × Tracked). Done r.0) (ltb p (length t.0.flags)) _ _ (λ b. inl refl) (λ b. inr refl)
    reply (own drop_all!) t l s = refl

  -- ---- what a program answers there

  abbrev Good : Tracked → Tracked → Type 0
  Good m t = SameLengths m t × Sort t

  good-kept : (m : Tracked) (o : AnyOp) (t : Tracked) → Good m t → Good m (does o t).1
  good-kept m o t g = (lengths_then m t _ g.0 (op_lengths o t), sort_kept o t g.1)

  pub answers_only : {A : Type 0} (P : A → Type 0) (g : Call A) (m : Tracked) → Sort m → Ends (Can m) P g → P (run does g m).0
  answers_only P g m s e =
      ends does (Good m) (Can m) (good-kept m) (λ o t h. reply m o t h.0 h.1) P g m (lengths-same m, s) e

  -- with the machine's numbers
  machine-kept : (m : Tracked) (o : MachineOp) (n : LentMachine) → Good m n.0 → Good m (machine_does o n).1.0
  machine-kept m (low o) n g = good-kept m o n.0 g
  machine-kept m (own o) n g = g

  machine-reply : (m : Tracked) (o : MachineOp) (n : LentMachine) → Good m n.0 → CanMachine m o (machine_does o n).0
  machine-reply m (low o) n g = reply m o n.0 g.0 g.1
  machine-reply m (own o) n g = tt

  pub machine_only : {A : Type 0} (P : A → Type 0) (g : MachineCall A) (m : LentMachine) → Sort m.0 → Ends (CanMachine m.0) P g
      → P (run machine_does g m).0
  machine_only P g m s e =
      ends machine_does (λ n. Good m.0 n.0) (CanMachine m.0) (machine-kept m.0) (machine-reply m.0) P g m
      (lengths-same m.0, s) e
