-- The machines that our calls reach from fresh: each is well-formed, and one call more reaches another.
use mathlib.Core.Path.{◌≡◌, refl, ap, ◌∙◌, subst}
use mathlib.Core.List.{List, [], ◌∷◌, ◌++◌}
use Prim.Native.Nat.{ℕ, ◌<◌}
use Rattle.memory.specs.View.{Roomy}
use Rattle.machine.specs.Fresh.{LentMachine, fresh}
use Rattle.recordfile.specs.Records.{versions}
use Rattle.recordfile.specs.Snapshots.{Word, Each}
use Rattle.recordfile.proofs.SnapshotRanged.{each_append}
use Rattle.handover.specs.View.{FormedMachine, WholeMachine}
use Rattle.handover.specs.Calls.{Given, Later, answer, leaves}
use Rattle.handover.specs.Reached.{Typed, Reached}
use Rattle.handover.proofs.WellFormed.{calls-kept, fresh-formed}

-- ---- well-formed

pub reached-formed : (m : LentMachine) → Reached m → FormedMachine m
reached-formed m r =
    subst FormedMachine r.left
    (calls-kept r.calls r.later _
    (fresh-formed r.slots r.flags r.area r.records r.size r.version r.maximum r.started))

pub reached-whole : (m : LentMachine) → Reached m → Roomy m.0.0 → WholeMachine m
reached-whole m r room =
    let w : FormedMachine m = reached-formed m r in
    record { memory = record { formed = w.memory; roomy = room }; records_are = w.records_are }

-- ---- no call, and one call more

pub reached-fresh : (slots flags area records : List ℕ) (size version maximum : ℕ)
    → (fresh slots flags area records size version maximum).0 ≡ 0 → version < versions → Word maximum
    → Reached (fresh slots flags area records size version maximum).1
unfolding Each leaves
reached-fresh slots flags area records size version maximum done small word =
    record {
      slots = slots;
      flags = flags;
      area = area;
      records = records;
      size = size;
      version = version;
      maximum = maximum;
      version_small = small;
      maximum_word = word;
      started = done;
      calls = [];
      later = tt;
      typed = tt;
      left = refl;
    }

-- calls, then others
leaves_more : (gs hs : List Given) (m : LentMachine) → leaves (gs ++ hs) m ≡ leaves hs (leaves gs m)
unfolding leaves
leaves_more [] hs m = refl
leaves_more (g ∷ gs) hs m = leaves_more gs hs (answer g m).1

pub reached_then : (m : LentMachine) → Reached m → (g : Given) → Later g → Typed g → Reached (answer g m).1
unfolding Each leaves
reached_then m r g later typed =
    record {
      slots = r.slots;
      flags = r.flags;
      area = r.area;
      records = r.records;
      size = r.size;
      version = r.version;
      maximum = r.maximum;
      version_small = r.version_small;
      maximum_word = r.maximum_word;
      started = r.started;
      calls = r.calls ++ (g ∷ []);
      later = each_append Later r.calls (g ∷ []) r.later (later, tt);
      typed = each_append Typed r.calls (g ∷ []) r.typed (typed, tt);
      left = leaves_more r.calls (g ∷ []) _ ∙ ap (λ (n : LentMachine). (answer g n).1) r.left;
    }
