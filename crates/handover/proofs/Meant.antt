-- The theorem speaks of something: every stopped machine has a fresh host and outputs, and so is handed over; every call but fresh and
-- a clear of dirty is among the further calls; and the calls that always keep a machine sound are those that docs/THEOREM.md lists.
use mathlib.Core.List.{List}
use mathlib.Core.Logic.{◌≢◌, inl}
use mathlib.Core.Path.{◌≡◌, refl, ap, ◌∙◌}
use Prim.Native.Nat.{ℕ, ◌+◌, ◌*◌, ◌/◌, ◌<◌}
use native.Mathlib.Omega.{arith}
use lib.Bits.{bit_and, bit_or, or_comm}
use borrow.Author.Tests.{eq-eqb}
use Rattle.bits.specs.Rounding.{page_size}
use Rattle.words.specs.Bytes.{filled}
use Rattle.words.proofs.Filled.{length-filled}
use Rattle.memory.specs.Pages.{dirty}
use Rattle.memory.proofs.Lengths.{fits-yes}
use Rattle.memory.proofs.Dirty.{or_dirty}
use Rattle.machine.specs.Fresh.{LentMachine, record_words, records_fit}
use Rattle.recordfile.specs.Words.{record_bytes}
use Rattle.recordfile.specs.Records.{flag_values}
use Rattle.recordfile.specs.Form.{least_records}
use Rattle.recordfile.specs.Snapshots.{Word}
use Rattle.handover.specs.View.{view}
use Rattle.handover.specs.Calls.{Named, named, clear_flag_call, Careful}
use Rattle.handover.specs.Reached.{Reached}
use Rattle.handover.specs.Hosts.{Stopped, FreshHost, LongEnough}
use Rattle.handover.specs.Meant.{Somewhere, Always, Meant}
use Rattle.handover.proofs.WellFormed.{fresh_done, fresh-fits}
use Rattle.handover.proofs.Reaching.{reached-formed}
use Rattle.handover.proofs.Theorem.{always-enough, theorem}

-- ---- a fresh host

module _ (m : LentMachine) (r : Reached m) (maximum : ℕ) (word : Word maximum) where
  -- storage like the machine's, lent anew
  abbrev pub host : LentMachine
  host = (fresh_done m.0.0.slots m.0.0.flags m.0.0.area m.0.1 m.0.0.memory.size m.1.version maximum).1

  pub host-there : FreshHost m host
  unfolding records_fit
  host-there =
      let w = reached-formed m r in
      let fit = w.memory.fit in
      record {
        slots = m.0.0.slots;
        flags = m.0.0.flags;
        area = m.0.0.area;
        records = m.0.1;
        maximum = maximum;
        maximum_word = word;
        made =
            fresh-fits m.0.0.slots m.0.0.flags m.0.0.area m.0.1 m.0.0.memory.size m.1.version maximum (
              eq-eqb _ _ (w.records_are ∙ ap (λ (k : ℕ). record_words * k) fit.flags_are),
              fits-yes _ _ _ _
                  (record {
                    whole = fit.whole;
                    small = fit.small;
                    slots_are = fit.slots_are;
                    flags_are = fit.flags_are;
                    area_whole = fit.area_whole;
                    area_small = fit.area_small;
                    used_in = omega arith;
                  }),
            );
        as_many_slots = refl;
      }

-- EVERY STOPPED MACHINE CAN BE HANDED OVER
pub handed_somewhere : (directory sources : List ℕ) (m : LentMachine) → Stopped directory sources m → Somewhere directory sources m
handed_somewhere directory sources m stopped =
    let reached = stopped.sound.reached in
    let n : ℕ = (least_records + m.0.0.memory.size / page_size) * record_bytes in
    let there : FreshHost m (host m reached 0 (omega arith)) = host-there m reached 0 (omega arith) in
    let enough : LongEnough m (filled n 0) (filled m.0.0.memory.size 0) =
    always-enough m reached (filled n 0) (filled m.0.0.memory.size 0) (omega (arith, length-filled n 0))
    (omega (arith, length-filled m.0.0.memory.size 0)) in
    record {
      second = host m reached 0 (omega arith);
      file = filled n 0;
      pages = filled m.0.0.memory.size 0;
      fresh_host = there;
      long_enough = enough;
      handed = theorem.handover directory sources m _ (filled n 0) (filled m.0.0.memory.size 0) stopped there enough;
    }

-- ---- further calls

pub careful_named : (c : Named) → Careful (named c)
careful_named c = tt

pub careful_clear : (p f : ℕ) → f < flag_values → bit_and f dirty ≡ 0 → Careful (clear_flag_call p f)
careful_clear p f h e = (h, e)

-- ---- calls that always keep a machine sound

dirty_stays : (f g : ℕ) → bit_and g dirty ≢ 0 → bit_and (bit_or f g) dirty ≢ 0
dirty_stays f g n e = n (or_dirty g f (ap (λ (x : ℕ). bit_and x dirty) (or_comm g f) ∙ e))

pub always : (directory sources : List ℕ) → Always directory sources
always directory sources =
    record {
      round_up = λ a. (tt, tt, λ m. tt);
      round_down = λ a. (tt, tt, λ m. tt);
      the_page_indices = λ a n. (tt, tt, λ m. tt);
      sparse_init = λ a size flags lead source h. (tt, h, λ m. tt);
      fill = λ a size lead source. (tt, tt, λ m. tt);
      fetch_flag_call = λ p. (tt, tt, λ m. tt);
      set_flag_call = λ p f h n. (tt, h, λ m. inl (dirty_stays ((view m.0).memory.flag p) f n));
      check_permission_call = λ first last want. (tt, tt, λ m. tt);
      set_dirty_call = λ first last. (tt, tt, λ m. tt);
      memory_size_call = (tt, tt, λ m. tt);
      memory_pages_call = (tt, tt, λ m. tt);
      byte_stored = λ l a n v. (tt, tt, λ m. tt);
      bytes_stored = λ l a bytes. (tt, tt, λ m. tt);
      number_stored = λ l n a x. (tt, tt, λ m. tt);
      load_bytes_call = λ a n out. (tt, tt, λ m. tt);
      load_wide_call = λ n a. (tt, tt, λ m. tt);
      execute_load_call = λ l n a. (tt, tt, λ m. tt);
      load_c_string_call = λ a out. (tt, tt, λ m. tt);
      get_lr_call = (tt, tt, λ m. tt);
      set_lr_call = λ x h. (tt, h, λ m. tt);
      numbers = λ o h. (tt, h, λ m. tt);
      data_loaded = λ d s id offset wanted. (tt, tt, λ m. tt);
      untracked = λ start size. (tt, tt, λ m. tt);
      context = λ a id offset wanted size_at h. (tt, h, λ m. (refl, refl));
      recorded = λ p. (tt, tt, λ m. tt);
      snapshot = λ file pages. (tt, tt, λ m. tt);
    }

-- the statements of specs/Meant.antt
pub meant : Meant
meant =
    record { handed = handed_somewhere; named_careful = careful_named; clear_careful = careful_clear; always_sound = always }
