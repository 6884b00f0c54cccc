-- What a refused resume leaves: where a test refuses, everything; wherever it is refused, the reservation.
use mathlib.Core.Path.{◌≡◌, refl, sym, subst, ◌∙◌}
use mathlib.Core.Bool.{Bool, true, false, cond}
use mathlib.Core.List.{List, [], ◌∷◌}
use mathlib.Core.Logic.{◌≢◌}
use Prim.Native.Nat.{ℕ, zero, suc, ◌+◌, ◌-◌, ◌*◌, ◌/◌, ◌%◌, ◌^◌}
use lib.ListN.{length}
use lib.Dec.{eqb, ltb, leb}
use Rattle.bits.specs.Rounding.{page_size}
use Rattle.program.specs.Program.{Prog, ret, ask, run, bind, perform, onwards, after, each, each_in}
use Rattle.program.specs.Layers.{low, own, beside, lift}
use Rattle.program.proofs.Laws.{after_run}
use Rattle.program.proofs.Lifted.{lift-run}
use Rattle.memory.specs.Pages.{page_indices, writable}
use Rattle.memory.specs.Storage.{State, or_flag, take_slot, write_page, store_page}
use Rattle.memory.specs.Operations as memory
use Rattle.memory.specs.Sparse as sparse
use Rattle.memory.specs.WXorX as wxorx
use Rattle.memory.proofs.StoreCases.{cases, PageStored, past, full, wild, took, had, page-stored}
use Rattle.machine.specs.Operations as machine
use Rattle.machine.specs.Fresh.{Tracked, LentMachine}
use Rattle.recordfile.specs.Records.{records_in}
use Rattle.recordfile.specs.Form as form
use Rattle.recordfile.specs.Form.{Form, malformed, needs, judged, in_form}
use Rattle.recordfile.specs.Snapshots.{SourceRun, DirtyRun, Snapshot, kept_in, snapshot_in}
use Rattle.tracking.specs.Sources.{Data, data_of}
use Rattle.tracking.specs.Operations.{AnyOp, Call, MachineCall, does, machine_does, on_memory, fitting, fits_tracked, lengths?, entry?, track!, drop!, drop_all!, track_page, drop_page, top}
use Rattle.tracking.specs.Tracking.{distance, track_from, track_whole, track, track_pages}
use Rattle.snapshot.specs.Resume.{set_flags, store_run, store_source, restore_data, found, restore_source, restore_dirty, restore_runs, restore_pages, restore_numbers, restore, resume_from, resume}
use Rattle.snapshot.proofs.Resumed.{resume_unfit, resume-malformed, resume-other}

-- ---- where a test refuses, nothing is changed

-- what is not in the form has one number
form_number : (f : Form) (size : ℕ) → form.beside f size ≢ 0 → form.beside f size ≡ 11
form_number malformed size n = refl
form_number (needs count) size n = go (eqb size (page_size * count)) n
  where
    go : (b : Bool) → ◌≢◌ {A = ℕ} (cond b 0 11) 0 → ◌≡◌ {A = ℕ} (cond b 0 11) 11
    go true n = absurd (n refl)
    go false n = refl

module _ (directory sources file pages : List ℕ) (s : LentMachine) where
  abbrev resumed : ℕ × LentMachine
  resumed = run machine_does (resume directory sources file pages) s

  -- "Check lengths (9) first in every call."
  pub wrong-lengths : fits_tracked s.0 ≡ false → resumed ≡ (9, s)
  wrong-lengths e = sym (resume_unfit directory sources file pages s false (sym e) refl)

  module _ (fit : fits_tracked s.0 ≡ true) where
    -- "record form 11"
    pub wrong_form : in_form file (length pages) ≢ 0 → resumed ≡ (11, s)
    unfolding in_form
    wrong_form n =
        sym (resume-malformed directory sources file pages s true (sym fit) refl 11 (sym (form_number (judged file) (length pages) n)) refl)

    -- "version 1"
    pub wrong-version : in_form file (length pages) ≡ 0 → s.1.version ≢ (kept_in (records_in file)).version → resumed ≡ (1, s)
    unfolding snapshot_in
    wrong-version ok v =
        sym (resume-other directory sources file pages s true (sym fit) refl 0 (sym ok) refl (kept_in (records_in file)).version refl v)

-- ---- programs that ask only such operations
module _ {Op : Type 0} {Reply : Op → Type 0} (Such : Op → Type 0) where
  abbrev Only : {A : Type 0} → Prog Op Reply A → Type 0
  Only (ret x) = Unit {0}
  Only (ask o k) = Such o × ((r : Reply o) → Only (k r))

  only_bind : {A B : Type 0} (g : Prog Op Reply A) (k : A → Prog Op Reply B) → Only g → ((x : A) → Only (k x)) → Only (bind g k)
  unfolding bind
  only_bind (ret x) k e f = f x
  only_bind (ask o h) k e f = (e.0, λ r. only_bind (h r) k (e.1 r) f)

  only_then : (g k : Prog Op Reply ℕ) → Only g → Only k → Only (after (λ n. n) g k)
  unfolding after
  only_then g k e f = only_bind g (onwards (λ n. n) k) e (λ n. cases Only (eqb n 0) k (ret n) (λ t. f) (λ t. record {}))

  only_each : (g : ℕ → Prog Op Reply ℕ) → ((p : ℕ) → Only (g p)) → (n p : ℕ) → Only (each g n p)
  unfolding each
  only_each g e zero p = record {}
  only_each g e (suc n) p = only_then (g p) (each g n (p + 1)) (e p) (only_each g e n (p + 1))

  only_each_in : {A : Type 0} (g : A → Prog Op Reply ℕ) → ((x : A) → Only (g x)) → (xs : List A) → Only (each_in g xs)
  unfolding each_in
  only_each_in g e [] = record {}
  only_each_in g e (x ∷ xs) = only_then (g x) (each_in g xs) (e x) (only_each_in g e xs)

  -- what each such operation keeps, they keep
  module _ {S B : Type 0} (does : (o : Op) → S → Reply o × S) (view : S → B)
      (keep : (o : Op) → Such o → (s : S) → view (does o s).1 ≡ view s) where
    only_keeps : {A : Type 0} (g : Prog Op Reply A) → Only g → (s : S) → view (run does g s).1 ≡ view s
    unfolding run
    only_keeps (ret x) e s = refl
    only_keeps (ask o k) e s = only_keeps (k (does o s).0) (e.1 (does o s).0) (does o s).1 ∙ keep o e.0 s

-- ---- every operation but the one that sets the reservation
abbrev Other : memory.Op → Type 0
Other memory.lengths? = Unit {0}
Other memory.size? = Unit {0}
Other memory.lr? = Unit {0}
Other (memory.flag? p) = Unit {0}
Other (memory.meet? p) = Unit {0}
Other (memory.byte? a) = Unit {0}
Other (memory.bytes? a n) = Unit {0}
Other (memory.part! a bytes) = Unit {0}
Other (memory.or! p f) = Unit {0}
Other (memory.lr! x) = ⊥

abbrev AnyOther : AnyOp → Type 0
AnyOther (low o) = Other o
AnyOther (own o) = Unit {0}

abbrev reservation_in : Tracked → ℕ
reservation_in t = t.0.memory.reservation

stored-kept : (s : State) (p at : ℕ) (bytes : List ℕ) → (store_page s p at bytes).1.memory.reservation ≡ s.memory.reservation
unfolding take_slot write_page
stored-kept s p at bytes = go _ (page-stored s p at bytes)
  where
    go : (r : ℕ × State) → PageStored s p at bytes r → r.1.memory.reservation ≡ s.memory.reservation
    go r (past h) = refl
    go r (full h e k) = refl
    go r (wild h n k) = refl
    go r (took h e k) = refl
    go r (had h n k) = refl

or_kept : (s : State) (p f : ℕ) → (or_flag s p f).1.memory.reservation ≡ s.memory.reservation
unfolding or_flag
or_kept s p f = cases (λ (r : ℕ × State). r.1.memory.reservation ≡ s.memory.reservation) (ltb p (length s.flags)) _ _ (λ t. refl) (λ t. refl)

other_kept : (o : memory.Op) → Other o → (s : State) → (memory.does o s).1.memory.reservation ≡ s.memory.reservation
other_kept memory.lengths? e s = refl
other_kept memory.size? e s = refl
other_kept memory.lr? e s = refl
other_kept (memory.flag? p) e s = refl
other_kept (memory.meet? p) e s = refl
other_kept (memory.byte? a) e s = refl
other_kept (memory.bytes? a n) e s = refl
other_kept (memory.part! a bytes) e s = stored-kept s _ _ _
other_kept (memory.or! p f) e s = or_kept s p f
other_kept (memory.lr! x) e s = absurd e

track-kept : (t : Tracked) (p id offset : ℕ) → reservation_in (track_page t p id offset).1 ≡ reservation_in t
unfolding track_page
track-kept t p id offset =
    let P : ℕ × Tracked → Type 0 = λ r. reservation_in r.1 ≡ reservation_in t in
    cases P (ltb p (length t.0.flags)) _ _ (λ a. cases P (leb (offset + page_size) top) _ _ (λ b. refl) (λ b. refl)) (λ a. refl)

drop-kept : (t : Tracked) (p : ℕ) → reservation_in (drop_page t p).1 ≡ reservation_in t
unfolding drop_page
drop-kept t p = cases (λ (r : ℕ × Tracked). reservation_in r.1 ≡ reservation_in t) (ltb p (length t.0.flags)) _ _ (λ a. refl) (λ a. refl)

any_kept : (o : AnyOp) → AnyOther o → (t : Tracked) → reservation_in (does o t).1 ≡ reservation_in t
any_kept (low o) e t = other_kept o e t.0
any_kept (own lengths?) e t = refl
any_kept (own (entry? p)) e t = refl
any_kept (own (track! p id offset)) e t = track-kept t p id offset
any_kept (own (drop! p)) e t = drop-kept t p
any_kept (own drop_all!) e t = refl

-- ---- the runs ask no other

abbrev Quiet : memory.Call ℕ → Type 0
Quiet g = Only Other g

abbrev AnyQuiet : Call ℕ → Type 0
AnyQuiet g = Only AnyOther g

quiet_above : (g : memory.Call ℕ) → Quiet g → AnyQuiet (on_memory g)
unfolding lift
quiet_above (ret x) e = record {}
quiet_above (ask o k) e = (e.0, λ r. quiet_above (k r) (e.1 r))

quiet_fitting : (g : memory.Call ℕ) → Quiet g → Quiet (memory.fitting (λ n. n) g)
unfolding memory.fitting
quiet_fitting g e = (record {}, λ b. cases Quiet b g (ret 9) (λ t. e) (λ t. record {}))

quiet_store : (n a : ℕ) (bytes : List ℕ) → Quiet (sparse.store_over n a bytes)
unfolding sparse.store_over
quiet_store zero a bytes = record {}
quiet_store (suc n) a bytes =
    cases Quiet (eqb (length bytes) 0) (ret 0) _
    (λ t. record {})
    (λ t. only_then Other (perform (memory.part! a bytes)) _ (record {}, λ r. record {}) (quiet_store n _ _))

quiet_permit : (want p : ℕ) → Quiet (sparse.permit want p)
unfolding sparse.permit
quiet_permit want p = (record {}, λ f. cases Quiet (eqb f.number 0) _ (ret f.number) (λ t. record {}) (λ t. record {}))

quiet_permitted : (want a n : ℕ) → Quiet (wxorx.permitted want a n)
unfolding wxorx.permitted sparse.permits
quiet_permitted want a n =
    cases Quiet (eqb (page_indices a n).number 0) _ (ret (page_indices a n).number)
    (λ t. only_each Other (sparse.permit want) (quiet_permit want) _ _)
    (λ t. record {})

quiet_store_bytes : (a : ℕ) (bytes : List ℕ) → Quiet (wxorx.store_bytes a bytes)
unfolding wxorx.store_bytes sparse.store
quiet_store_bytes a bytes =
    quiet_fitting _
    (cases Quiet (eqb (length bytes) 0) (ret 0) _
    (λ t. record {})
    (λ t. only_then Other (wxorx.permitted writable a (length bytes)) (sparse.store a bytes)
    (quiet_permitted writable a (length bytes)) (quiet_store (length bytes) a bytes)))

quiet_set_flags : (first n flag : ℕ) → Quiet (set_flags first n flag)
unfolding set_flags sparse.set_flag
quiet_set_flags first n flag =
    only_each Other (λ p. sparse.set_flag p flag)
    (λ p. quiet_fitting (perform (memory.or! p flag)) (record {}, λ r. record {}))
    n
    first

quiet_store_run : (a flag : ℕ) (bytes : List ℕ) → Quiet (store_run a flag bytes)
unfolding store_run
quiet_store_run a flag bytes = only_then Other (wxorx.store_bytes a bytes) _ (quiet_store_bytes a bytes) (quiet_set_flags _ _ flag)

quiet_track : (start size id offset : ℕ) → AnyQuiet (track start size id offset)
unfolding track track_whole
quiet_track start size id offset =
    let first : ℕ = (start + distance start) / page_size in
    cases AnyQuiet (ltb size (distance start)) (ret 0) _
    (λ t. record {})
    (λ t.
    cases AnyQuiet (ltb (2 ^ 64 - page_size) start) (ret 2) _
    (λ u. record {})
    (λ u.
    cases AnyQuiet (ltb top (offset + distance start)) (ret 2) _
    (λ v. record {})
    (λ v. only_each AnyOther (track_from first id (offset + distance start)) (λ p. (record {}, λ r. record {})) _ first)))

quiet_track_pages : (start size id offset : ℕ) → AnyQuiet (track_pages start size id offset)
unfolding track_pages fitting
quiet_track_pages start size id offset =
    (record {}, λ b. cases AnyQuiet b (track start size id offset) (ret 9) (λ t. quiet_track start size id offset) (λ t. record {}))

quiet_store_source : (a flag id offset : ℕ) (bytes : List ℕ) → AnyQuiet (store_source a flag id offset bytes)
unfolding store_source
quiet_store_source a flag id offset bytes =
    only_then AnyOther (on_memory (store_run a flag bytes)) _
    (quiet_above (store_run a flag bytes) (quiet_store_run a flag bytes))
    (quiet_track_pages a (length bytes) id offset)

quiet_source : (directory sources : List ℕ) (r : SourceRun) → AnyQuiet (restore_source directory sources r)
unfolding restore_source restore_data
quiet_source directory sources r =
    let d : Data = found directory sources r in
    cases AnyQuiet (eqb (r.address % page_size) 0) _ (ret 3)
    (λ t.
    cases AnyQuiet (eqb d.number 0) _ (ret d.number)
    (λ u.
    cases AnyQuiet (eqb (length (data_of sources d) % page_size) 0) _ (ret 3)
    (λ v. quiet_store_source r.address r.flag r.id r.offset (data_of sources d))
    (λ v. record {}))
    (λ u. record {}))
    (λ t. record {})

quiet_dirty : (r : DirtyRun) → Quiet (restore_dirty r)
unfolding restore_dirty
quiet_dirty r =
    cases Quiet (eqb (r.address % page_size) 0) _ (ret 3)
    (λ t. quiet_store_run r.address r.flag r.content)
    (λ t. record {})

quiet_runs : (directory sources : List ℕ) (ss : List SourceRun) (ds : List DirtyRun) → AnyQuiet (restore_runs directory sources ss ds)
unfolding restore_runs
quiet_runs directory sources ss ds =
    only_then AnyOther (each_in (restore_source directory sources) ss) _
    (only_each_in AnyOther (restore_source directory sources) (quiet_source directory sources) ss)
    (only_each_in AnyOther (λ r. on_memory (restore_dirty r)) (λ r. quiet_above (restore_dirty r) (quiet_dirty r)) ds)

-- ---- wherever it is refused, the reservation stays

-- what a refused call leaves has the reservation of before
abbrev Spared : LentMachine → ℕ × LentMachine → Type 0
Spared s r = r.0 ≢ 0 → reservation_in r.1.0 ≡ reservation_in s.0

-- "Last, the reservation.": where the runs were done, nothing refuses any more
pages_spared : (directory sources : List ℕ) (x : Snapshot) (t : Tracked) → (run does (restore_pages directory sources x) t).0 ≢ 0
    → reservation_in (run does (restore_pages directory sources x) t).1 ≡ reservation_in t
unfolding run lift sparse.set_lr restore_pages
pages_spared directory sources x t =
    let g : Call ℕ = restore_runs directory sources x.sources x.dirty in
    let k : Call ℕ = on_memory (sparse.set_lr x.state.reservation) in
    subst (λ (r : ℕ × Tracked). r.0 ≢ 0 → reservation_in r.1 ≡ reservation_in t)
    (sym (after_run does (λ n. n) g k t _ _ refl))
    (last (eqb (run does g t).0 0) (run does g t) (only_keeps AnyOther does reservation_in any_kept g (quiet_runs directory sources x.sources x.dirty) t))
  where
    last : (b : Bool) (u : ℕ × Tracked) → reservation_in u.1 ≡ reservation_in t
        → (run does (cond b (on_memory (sparse.set_lr x.state.reservation)) (ret u.0)) u.1).0 ≢ 0
        → reservation_in (run does (cond b (on_memory (sparse.set_lr x.state.reservation)) (ret u.0)) u.1).1 ≡ reservation_in t
    last true u e n = absurd (n refl)
    last false u e n = e

restore_spared : (directory sources : List ℕ) (x : Snapshot) (s : LentMachine) → Spared s (run machine_does (restore directory sources x) s)
unfolding run restore restore_numbers
restore_spared directory sources x s =
    subst (Spared s) (sym (lift-run does (beside machine.does) (restore_pages directory sources x) _ _)) (pages_spared directory sources x _)

-- "a refused resume must not have it": A REFUSED RESUME HAS THE RESERVATION OF BEFORE
pub reservation_stays : (directory sources file pages : List ℕ) (s : LentMachine)
    → (run machine_does (resume directory sources file pages) s).0 ≢ 0
    → (run machine_does (resume directory sources file pages) s).1.0.0.memory.reservation ≡ s.0.0.memory.reservation
unfolding run resume resume_from
reservation_stays directory sources file pages s =
    let P : MachineCall ℕ → Type 0 = λ g. Spared s (run machine_does g s) in
    cases P (fits_tracked s.0) _ (ret 9)
    (λ a.
    cases P (eqb (in_form file (length pages)) 0) _ (ret (in_form file (length pages)))
    (λ b.
    cases P (eqb s.1.version (snapshot_in file pages).state.version) _ (ret 1)
    (λ c. restore_spared directory sources (snapshot_in file pages) s)
    (λ c n. refl))
    (λ b n. refl))
    (λ a n. refl)
