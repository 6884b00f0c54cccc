-- A run of a snapshot, restored where the memory is blank: its pages are again as they were when it was taken.
use mathlib.Core.Path.{◌≡◌, refl, sym, ap, ap₂, ◌∙◌, subst, subst⁻¹}
use mathlib.Core.List.{List}
use mathlib.Core.Logic.{◌≢◌, ◌⊎◌, inl, inr}
use Prim.Native.Nat.{ℕ, zero, suc, ◌+◌, ◌-◌, ◌*◌, ◌/◌, ◌%◌, ◌≤◌, ◌<◌}
use native.Mathlib.Nat.{add-zero}
use native.Mathlib.Decide.{dec_lt}
use native.Mathlib.Omega.{arith}
use lib.Bits.{bit_and, bit_or, or_add_and, or_comm, and_block, and_mask}
use lib.ListN.{length, get_or}
use borrow.Author.Tests.{eq-eqb}
use Rattle.bits.specs.Rounding.{page_size}
use Rattle.program.specs.Program.{run}
use Rattle.memory.specs.Pages.{maximum, dirty, cleared}
use Rattle.memory.specs.Storage.{span}
use Rattle.memory.proofs.Dirty.{dirty-bit}
use Rattle.memory.proofs.Span.{length-span}
use Rattle.recordfile.specs.Records.{flag_values}
use Rattle.recordfile.specs.Snapshots.{SourceRun, DirtyRun, source_run, dirty_run}
use Rattle.tracking.specs.declared.records.Tracking.{Tracking}
use Rattle.tracking.specs.declared.records.Tracking.TheVariants.{Untracked, Tracked}
use Rattle.tracking.specs.Sources.{Data, find_data, data_of}
use Rattle.tracking.specs.Operations.{on_memory, masked, top}
use Rattle.tracking.specs.Tracking.{track_pages}
use Rattle.snapshot.specs.Runs.{Run}
use Rattle.snapshot.specs.Resume.{store_run, store_source, restore_data, restore_source, restore_dirty, found}
use Rattle.handover.specs.View.{View, does_v}
use Rattle.handover.specs.Sound.{SoundPage, is_dirty, is_tracked, is_blank, SoundPages, source_gives, page_in}
use Rattle.handover.proofs.Seen.{mask_clean, mask_dirty}
use Rattle.handover.proofs.Effects.{Masked, Tracks}
use Rattle.handover.proofs.Storing.{done_then}
use Rattle.handover.proofs.Tracked.{RunStored, run_stored, pages_tracked}
use Rattle.snapshot.proofs.RunPages.{SourceFront, DirtyFront, front_offset}
use Rattle.handover.proofs.SourceData.{run_data}

-- ---- flags

or_dirty_is : (f : ℕ) → bit_or dirty f ≡ f + (dirty - bit_and f dirty)
or_dirty_is f = or_comm dirty f ∙ omega (arith, or_add_and f dirty, dirty-bit f)

-- what is left of a byte without dirty
cleared-is : (f : ℕ) → cleared f dirty ≡ f / 8 % 32 * 8 + f % 4
cleared-is f =
    let a : f / 8 * 8 + f % 8 ≡ f = omega arith in
    let b : bit_and (f / 8 * 8 + f % 8) 251 ≡ bit_and (f / 8) 31 * 8 + bit_and (f % 8) 3 =
    and_block 3 (f / 8) 31 (f % 8) 3 (omega arith) (omega arith) in
    let c : bit_and f 251 ≡ bit_and (f / 8) 31 * 8 + bit_and (f % 8) 3 = rw a at b in
    omega (arith, c, and_mask (f / 8) 5, and_mask (f % 8) 2)

-- a blank page that is dirty, and then has the flag of a dirty one
dirty_again : (f : ℕ) → bit_and f dirty ≢ 0 → bit_or dirty f ≡ f
dirty_again f n = omega (arith, or_dirty_is f, dirty-bit f)

-- and of a clean one, when it is tracked
clean_again : (f : ℕ) → f < flag_values → bit_and f dirty ≡ 0 → cleared (bit_or dirty f) dirty ≡ f
clean_again f h e =
    let a : bit_or dirty f ≡ f + dirty = omega (arith, or_dirty_is f) in
    let b : f / 4 % 2 ≡ 0 = omega (arith, dirty-bit f) in
    ap (λ (x : ℕ). cleared x dirty) a ∙ cleared-is (f + dirty) ∙ without f h b
  where
    without : (f : ℕ) → f < flag_values → f / 4 % 2 ≡ 0 → (f + dirty) / 8 % 32 * 8 + (f + dirty) % 4 ≡ f
    without f h b = omega arith

-- ---- pages

pub get_d_span : (byte : ℕ → ℕ) (n a i : ℕ) → i < n → get_or (span byte a n) i 0 ≡ byte (a + i)
unfolding span
get_d_span byte zero a i h = absurd (omega arith)
get_d_span byte (suc n) a zero h = ap byte (sym (add-zero a))
get_d_span byte (suc n) a (suc i) h = get_d_span byte n (a + 1) i (omega arith) ∙ ap byte (omega arith)

-- page q is in v as in t
pub record Same (t v : View) (q : ℕ) : Type 0 where
  pub flag : v.memory.flag q ≡ t.memory.flag q
  pub entry : v.entry q ≡ t.entry q
  pub byte : (i : ℕ) → i < page_size → v.memory.byte (q * page_size + i) ≡ t.memory.byte (q * page_size + i)

pub same : (v : View) (q : ℕ) → Same v v q
same v q = record { flag = refl; entry = refl; byte = λ i h. refl }

pub same_then : (t v w : View) (q : ℕ) → Same t v q → Same v w q → Same t w q
same_then t v w q a b =
    record { flag = b.flag ∙ a.flag; entry = b.entry ∙ a.entry; byte = λ i h. b.byte i h ∙ a.byte i h }

-- page q is one of n from the first on, or is not
pub zone : (first n q : ℕ) → ((first ≤ q) × (q < first + n)) ⊎ ((q < first) ⊎ (first + n ≤ q))
zone first n q = elim (dec_lt q first) [
  | yes h ↦ inr (inl h)
  | no h ↦ elim (dec_lt q (first + n)) [ yes k ↦ inl (omega arith, k) | no k ↦ inr (inr (omega arith)) ]
]

-- n pages from the first on made as in t, and all others left as in v
pub record Restores (t v : View) (first n : ℕ) (r : ℕ × View) : Type 0 where
  pub done : r.0 ≡ 0
  pub size : r.1.memory.size ≡ v.memory.size
  pub dark : Masked r.1
  pub inside : (q : ℕ) → first ≤ q → q < first + n → Same t r.1 q
  pub outside : (q : ℕ) → (q < first) ⊎ (first + n ≤ q) → Same v r.1 q

-- ---- the bytes of n pages of t stored in v, where these are blank

abbrev pages_in : View → ℕ → ℕ → List ℕ
pages_in t first n = span t.memory.byte (first * page_size) (n * page_size)

module _ (t v : View) (first n f : ℕ) where
  long : length (pages_in t first n) ≡ n * page_size
  long = length-span t.memory.byte (n * page_size) (first * page_size)

  pages-stored : Masked v → v.memory.size % page_size ≡ 0 → v.memory.size ≤ maximum → first + n ≤ v.memory.size / page_size
      → ((q : ℕ) → first ≤ q → q < first + n → v.memory.flag q ≡ 0)
      → RunStored v first f (pages_in t first n) (run does_v (on_memory (store_run (first * page_size) f (pages_in t first n))) v)
  pages-stored dark whole small within blank =
      let l = long in
      run_stored v first f (pages_in t first n) dark whole small (omega arith) (omega arith)
      (λ q a b. let z : v.memory.flag q ≡ 0 = blank q a (omega arith) in rw z)

  module _ (r : ℕ × View) (s : RunStored v first f (pages_in t first n) r) where
    byte-there : (q : ℕ) → first ≤ q → q < first + n → (i : ℕ) → i < page_size
        → r.1.memory.byte (q * page_size + i) ≡ t.memory.byte (q * page_size + i)
    byte-there q a b i h =
        let l = long in
        let j : ℕ = (q - first) * page_size + i in
        let e : first * page_size + j ≡ q * page_size + i = omega arith in
        ap r.1.memory.byte (sym e)
        ∙ s.byte_inside j (omega arith)
        ∙ get_d_span t.memory.byte (n * page_size) (first * page_size) j (omega arith)
        ∙ ap t.memory.byte e

    flag-there : (q : ℕ) → first ≤ q → q < first + n → v.memory.flag q ≡ 0 → r.1.memory.flag q ≡ bit_or dirty f
    flag-there q a b e =
        let l = long in
        s.flag_inside q a (omega arith) ∙ ap (λ (x : ℕ). bit_or (bit_or x dirty) f) e

    entry-there : (q : ℕ) → first ≤ q → q < first + n → r.1.entry q ≡ Untracked
    entry-there q a b = let l = long in s.entry_inside q a (omega arith)

    left : (q : ℕ) → (q < first) ⊎ (first + n ≤ q) → Same v r.1 q
    left q o =
        record {
          flag = s.flag_out q (pages o);
          entry = s.entry_out q (pages o);
          byte = λ i h. s.byte_out (q * page_size + i) (bytes i h o);
        }
      where
        pages : (q < first) ⊎ (first + n ≤ q) → (q < first) ⊎ (first + length (pages_in t first n) / page_size ≤ q)
        pages (inl a) = inl a
        pages (inr a) = let l = long in inr (omega arith)

        bytes : (i : ℕ) → i < page_size → (q < first) ⊎ (first + n ≤ q)
            → (q * page_size + i < first * page_size) ⊎ (first * page_size + length (pages_in t first n) ≤ q * page_size + i)
        bytes i h (inl a) = inl (omega arith)
        bytes i h (inr a) = let l = long in inr (omega arith)

-- a dirty run, with what its pages hold
abbrev pub read_seen : (ℕ → ℕ) → Run → DirtyRun
read_seen byte r = dirty_run (r.page * page_size) r.flag (span byte (r.page * page_size) (r.pages * page_size))

-- a dirty run is stored; a source run whose data is there, too
restore-dirty : (byte : ℕ → ℕ) (r : Run)
    → restore_dirty (read_seen byte r) ≡ store_run (r.page * page_size) r.flag (read_seen byte r).content
unfolding restore_dirty
restore-dirty byte r = rw (eq-eqb (r.page * page_size % page_size) 0 (omega arith))

restore_data_lem : (d : Data) (bytes : List ℕ) (a f id offset : ℕ) → d.number ≡ 0 → length bytes % page_size ≡ 0
    → restore_data d bytes a f id offset ≡ store_source a f id offset bytes
unfolding restore_data
restore_data_lem d bytes a f id offset e h = rw (eq-eqb d.number 0 e, eq-eqb (length bytes % page_size) 0 h)

restore-source : (directory sources bytes : List ℕ) (r : SourceRun) → r.address % page_size ≡ 0
    → (found directory sources r).number ≡ 0 → data_of sources (found directory sources r) ≡ bytes → length bytes % page_size ≡ 0
    → restore_source directory sources r ≡ store_source r.address r.flag r.id r.offset bytes
unfolding restore_source
restore-source directory sources bytes r a e d h =
    rw (eq-eqb (r.address % page_size) 0 a, d) (restore_data_lem (found directory sources r) bytes _ _ _ _ e h)

-- ---- what a machine's view is like before a snapshot

pub record Right (directory sources : List ℕ) (t : View) : Type 0 where
  pub whole : t.memory.size % page_size ≡ 0
  pub small : t.memory.size ≤ maximum
  pub flags : (q : ℕ) → t.memory.flag q < flag_values
  pub dark : Masked t
  pub offsets : (q id offset flag : ℕ) → t.entry q ≡ Tracked id offset flag → offset + page_size ≤ top
  pub pages : SoundPages directory sources t
  -- nothing is past the machine
  pub past_flags : (q : ℕ) → t.memory.size / page_size ≤ q → t.memory.flag q ≡ 0
  pub past_entries : (q : ℕ) → t.memory.size / page_size ≤ q → t.entry q ≡ Untracked
  pub past_bytes : (a : ℕ) → t.memory.size ≤ a → t.memory.byte a ≡ 0

-- how many pages the machine has
abbrev pub page_count : View → ℕ
page_count t = t.memory.size / page_size

pub tracked_not : (e : Tracking) (id offset flag : ℕ) → e ≡ Tracked id offset flag → e ≢ Untracked
tracked_not e id offset flag p q = let z : ◌≡◌ {A = ℕ} 0 1 = cc in omega arith

module _ (directory sources : List ℕ) (t : View) (right : Right directory sources t) where
  -- a dirty page shows no entry, so that an entry is a clean page's
  pub dirty-untracked : (q : ℕ) → bit_and (t.memory.flag q) dirty ≢ 0 → t.entry q ≡ Untracked
  dirty-untracked q n = sym (right.dark q) ∙ mask_dirty (t.memory.flag q) (t.entry q) n

  -- what is tracked of a page is right
  record Gives (q id offset flag : ℕ) : Type 0 where
    clean : bit_and flag dirty ≡ 0
    is_flag : t.memory.flag q ≡ flag
    data_is : source_gives directory sources id offset ≡ page_in t q

  gives : (q id offset flag : ℕ) → q < page_count t → t.entry q ≡ Tracked id offset flag → Gives q id offset flag
  gives q id offset flag h e = go (right.pages q h)
    where
      go : SoundPage directory sources t q → Gives q id offset flag
      go (is_dirty n) = absurd (tracked_not (t.entry q) id offset flag e (dirty-untracked q n))
      go (is_tracked i o c f d) =
          let a : i ≡ id = cc in
          let b : o ≡ offset = cc in
          let g : t.memory.flag q ≡ flag = cc in
          record { clean = rw g at c; is_flag = g; data_is = rw (a, b) at d }
      go (is_blank f u b) = absurd (tracked_not (t.entry q) id offset flag e u)

  -- ---- a run, on a view of the same size whose pages there are blank

  module _ (v : View) (dark : Masked v) (size_is : v.memory.size ≡ t.memory.size) where
    module _ (first n f : ℕ) (r : ℕ × View) (s : RunStored v first f (pages_in t first n) r)
        (blank : (q : ℕ) → first ≤ q → q < first + n → v.memory.flag q ≡ 0) where
      dirty_effect : bit_and f dirty ≢ 0 → ((q : ℕ) → first ≤ q → q < first + n → t.memory.flag q ≡ f) → Restores t v first n r
      dirty_effect marked inside =
          record {
            done = s.done;
            size = s.size;
            dark = s.masked;
            inside = λ q a b.
                record {
                  flag = flag-there t v first n f r s q a b (blank q a b) ∙ dirty_again f marked ∙ sym (inside q a b);
                  entry =
                      entry-there t v first n f r s q a b
                      ∙ sym (dirty-untracked q (let e : t.memory.flag q ≡ f = inside q a b in rw e marked));
                  byte = byte-there t v first n f r s q a b;
                };
            outside = left t v first n f r s;
          }

      -- a source run's pages are tracked besides
      module _ (id offset : ℕ) (x : ℕ × View) (k : Tracks r.1 first n id offset x) (within : first + n ≤ page_count t)
          (tracked : (q : ℕ) → first ≤ q → q < first + n → t.entry q ≡ Tracked id (offset + (q - first) * page_size) f) where
        there : (q : ℕ) → first ≤ q → q < first + n → Gives q id (offset + (q - first) * page_size) f
        there q a b = gives q id (offset + (q - first) * page_size) f (omega arith) (tracked q a b)

        flag_clear : (q : ℕ) → first ≤ q → q < first + n → cleared (r.1.memory.flag q) dirty ≡ f
        flag_clear q a b =
            let g = there q a b in
            let h : f < flag_values = rw g.is_flag at (right.flags q) in
            ap (λ (y : ℕ). cleared y dirty) (flag-there t v first n f r s q a b (blank q a b)) ∙ clean_again f h g.clean

        made : (q : ℕ) → first ≤ q → q < first + n → Same t x.1 q
        made q a b =
            record {
              flag = k.flag_inside q a b ∙ flag_clear q a b ∙ sym (there q a b).is_flag;
              entry =
                  k.entry_inside q a b ∙ ap (Tracked id (offset + (q - first) * page_size)) (flag_clear q a b) ∙ sym (tracked q a b);
              byte = λ i h. k.byte (q * page_size + i) ∙ byte-there t v first n f r s q a b i h;
            }

        around : (q : ℕ) → (q < first) ⊎ (first + n ≤ q) → Same v x.1 q
        around q o =
            let l = left t v first n f r s q o in
            record {
              flag = k.flag_out q o ∙ l.flag;
              entry = k.entry_out q o ∙ l.entry;
              byte = λ i h. k.byte (q * page_size + i) ∙ l.byte i h;
            }

        source_effect : Restores t v first n x
        source_effect =
            record {
              done = k.done;
              size = k.size ∙ s.size;
              dark = λ q. hides q (zone first n q);
              inside = made;
              outside = around;
            }
          where
            hides : (q : ℕ) → ((first ≤ q) × (q < first + n)) ⊎ ((q < first) ⊎ (first + n ≤ q))
                → masked (x.1.memory.flag q) (x.1.entry q) ≡ x.1.entry q
            hides q (inl i) =
                let e : x.1.memory.flag q ≡ f = k.flag_inside q i.0 i.1 ∙ flag_clear q i.0 i.1 in
                mask_clean _ _ (rw e (there q i.0 i.1).clean)
            hides q (inr o) =
                let a = around q o in
                ap₂ masked a.flag a.entry ∙ dark q ∙ sym a.entry

    pub dirty-restored : (p : ℕ) (r : Run) → DirtyFront t.memory.flag (page_count t) p r
        → ((q : ℕ) → r.page ≤ q → q < r.page + r.pages → v.memory.flag q ≡ 0)
        → Restores t v r.page r.pages (run does_v (on_memory (restore_dirty (read_seen t.memory.byte r))) v)
    dirty-restored p r front blank =
        rw (restore-dirty t.memory.byte r)
        (dirty_effect r.page r.pages r.flag _
        (pages-stored t v r.page r.pages r.flag dark (rw size_is right.whole) (rw size_is right.small)
        (rw size_is front.within)
        blank)
        blank front.marked front.inside)

    module _ (p first n f id offset : ℕ)
        (front : SourceFront t.entry (page_count t) p (source_run (first * page_size) f id offset (n * page_size)))
        (blank : (q : ℕ) → first ≤ q → q < first + n → v.memory.flag q ≡ 0) where
      some : 0 < n
      some = omega (arith, front.some)

      within : first + n ≤ page_count t
      within = omega (arith, front.within)

      tracked : (q : ℕ) → first ≤ q → q < first + n → t.entry q ≡ Tracked id (offset + (q - first) * page_size) f
      tracked q a b = front.inside q (omega arith) (omega arith) ∙ ap (λ (o : ℕ). Tracked id (offset + o) f) (omega arith)

      data_found : ((find_data directory (length sources) id offset (n * page_size)).number ≡ 0)
          × (data_of sources (find_data directory (length sources) id offset (n * page_size)) ≡ pages_in t first n)
      data_found =
          run_data directory sources t.memory.byte id offset (first * page_size) n some
          (λ k h.
          let w = within in
          let e : t.entry (first + k) ≡ Tracked id (offset + k * page_size) f =
          tracked (first + k) (omega arith) (omega arith) ∙ ap (λ (o : ℕ). Tracked id (offset + o * page_size) f) (omega arith) in
          (gives (first + k) id (offset + k * page_size) f (omega arith) e).data_is
          ∙ ap (λ (a : ℕ). span t.memory.byte a page_size) (omega arith))

      source-tracks : Restores t v first n (run does_v (store_source (first * page_size) f id offset (pages_in t first n)) v)
      unfolding store_source
      source-tracks =
          let s = pages-stored t v first n f dark (rw size_is right.whole) (rw size_is right.small) (rw size_is within) blank in
          let r : ℕ × View = run does_v (on_memory (store_run (first * page_size) f (pages_in t first n))) v in
          let e : r.1.memory.size ≡ t.memory.size = s.size ∙ size_is in
          let o = front_offset t.entry (page_count t) p top _ (λ q i o g h k. right.offsets q i o g k) front in
          let k = pages_tracked r.1 first n id offset (rw e within) (rw e right.small) o in
          rw (done_then does_v _ (track_pages (first * page_size) (length (pages_in t first n)) id offset) v s.done, long t v first n f)
          (source_effect first n f r s blank id offset _ k within tracked)

      run-restored : Restores t v first n (run does_v (restore_source directory sources (source_run (first * page_size) f id offset (n * page_size))) v)
      run-restored =
          let l = long t v first n f in
          let e =
          restore-source directory sources (pages_in t first n) (source_run (first * page_size) f id offset (n * page_size)) (omega arith)
          data_found.0
          data_found.1
          (omega arith) in
          rw e source-tracks

    pub source-restored : (p : ℕ) (r : SourceRun) → SourceFront t.entry (page_count t) p r
        → ((q : ℕ) → r.address / page_size ≤ q → q < r.address / page_size + r.size / page_size → v.memory.flag q ≡ 0)
        → Restores t v (r.address / page_size) (r.size / page_size) (run does_v (restore_source directory sources r) v)
    source-restored p r front blank =
        subst⁻¹ (λ (x : SourceRun). Restores t v first n (run does_v (restore_source directory sources x) v)) is
        (run-restored p first n r.flag r.id r.offset (subst (SourceFront t.entry (page_count t) p) is front) blank)
      where
        first : ℕ
        first = r.address / page_size

        n : ℕ
        n = r.size / page_size

        at-page : r.address ≡ first * page_size
        at-page = omega (arith, front.aligned)

        in_pages : r.size ≡ n * page_size
        in_pages = omega (arith, front.whole)

        is : r ≡ source_run (first * page_size) r.flag r.id r.offset (n * page_size)
        is = λ i. source_run (at-page i) r.flag r.id r.offset (in_pages i)
