-- A page's record in its three words: read, and as a call answers it.
use Rattle.std.proofs.Common.{◌≡◌, ℕ, ◌+◌, ◌*◌, ◌/◌, ◌%◌, ◌<◌, ◌≤◌, Bool, true, eqb, List, length, get_or, sym, refl, ap, ◌∙◌, arith, le-ltb, lt-ltb, eq-eqb, ne_eqb}
use lib.ListN.{get_or-eq_default}
use lib.Bits.{bit_and}
use Rattle.program.specs.Program.{ret, ask, run, onwards}
use Rattle.program.specs.Layers.{own}
use Rattle.memory.specs.Pages.{dirty}
use Rattle.memory.proofs.StoreCases.{cases}
use Rattle.memory.specs.Storage.{Valued, valued, no_value, flag_in}
use Rattle.machine.specs.Fresh.{record_words}
use Rattle.machine.specs.Fresh as machine
use Rattle.tracking.specs.declared.records.Tracking.{Tracking}
use Rattle.tracking.specs.declared.records.Tracking.TheVariants.{Untracked, Tracked}
use Rattle.tracking.specs.Records.{tracked_mark, record_of, record_at}
use Rattle.tracking.specs.Operations.{Call, does, entry?, masked, entry_in, fits_tracked}
use Rattle.tracking.specs.Tracking.{Recorded, not_recorded, page_record}
use Rattle.tracking.proofs.Lengths.{fit-yes}

-- ---- read

module _ (id offset mark : ℕ) where
  pub read_untracked : mark < tracked_mark → Untracked ≡ record_of id offset mark
  unfolding record_of
  read_untracked h = rw (lt-ltb mark tracked_mark h)

  pub read_tracked : tracked_mark ≤ mark → Tracked id offset (mark % tracked_mark) ≡ record_of id offset mark
  unfolding record_of
  read_tracked h = rw (le-ltb mark tracked_mark h)

-- ---- where a page's bytes come from

module _ (flags records : List ℕ) (p : ℕ) where
  pub entry_none : length records / 3 ≤ p → Untracked ≡ entry_in flags records p
  unfolding masked record_of
  entry_none h =
      let z : get_or records (p * record_words + 2) 0 ≡ 0 = get_or-eq_default records 0 (omega arith) in
      rw z (cases (λ (t : Tracking). Untracked ≡ t) (eqb (bit_and (get_or flags p 0) dirty) 0) _ _ (λ e. refl) (λ e. refl))

  pub entry-dirty : (bit_and (get_or flags p 0) dirty ≡ 0 → ⊥) → Untracked ≡ entry_in flags records p
  unfolding masked
  entry-dirty n = rw (ne_eqb _ _ n)

  module _ (x : Tracking) (q : x ≡ record_at records p) where
    pub entry-clean : bit_and (get_or flags p 0) dirty ≡ 0 → x ≡ entry_in flags records p
    unfolding masked
    entry-clean z = q ∙ rw (eq-eqb _ _ z)

    pub entry_past : length flags ≤ p → x ≡ entry_in flags records p
    entry_past h = entry-clean (ap (λ (f : ℕ). bit_and f dirty) (get_or-eq_default flags 0 h))

-- ---- the call

-- what is recorded of a page
abbrev recorded : ℕ → Tracking → Recorded
recorded p t = record { number = 0; page = p; tracking = t }

-- what follows a look at a page's flag
abbrev record_on : ℕ → Valued → Call Recorded
record_on p f = onwards not_recorded (ask (own (entry? p)) (λ t. ret (recorded p t))) f.number

module _ (here : machine.Tracked) (p : ℕ) (b : Bool) (e : b ≡ fits_tracked here) (t : b ≡ true) where
  on : (v : Valued) (r : Recorded × machine.Tracked) → flag_in here.0.flags p ≡ v → r ≡ run does (record_on p v) here
      → r ≡ run does (page_record p) here
  unfolding run page_record
  on v r q w = fit-yes not_recorded here _ b e r t (w ∙ ap (λ (v : Valued). run does (record_on p v) here) (sym q))

  pub record_past : length here.0.flags ≤ p → (not_recorded 2, here) ≡ run does (page_record p) here
  unfolding run flag_in
  record_past h = on (no_value 2) _ (rw (le-ltb p (length here.0.flags) h)) refl

  pub record_there : (x : Tracking) → p < length here.0.flags → x ≡ entry_in here.0.flags here.1 p
      → (recorded p x, here) ≡ run does (page_record p) here
  unfolding run flag_in
  record_there x h q =
      on (valued (get_or here.0.flags p 0)) _ (rw (lt-ltb p (length here.0.flags) h)) (ap (λ (x : Tracking). (recorded p x, here)) q)
