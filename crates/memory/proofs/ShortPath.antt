-- Bytes of one page that is in a slot: what is known of the slot, and that a store or a load there is the whole call.
use Rattle.std.proofs.Common.{◌≡◌, ℕ, ◌+◌, ◌-◌, ◌*◌, ◌/◌, ◌%◌, ◌<◌, ◌≤◌, min, Bool, true, false, List, length, get_or, take, drop, set, sym, refl, ap, ◌∙◌, arith, length-drop, length-take, take_all}
use native.Mathlib.Decide.{dec_lt}
use lib.Bits.{bit_and, bit_or}
use Rattle.bits.specs.Rounding.{page_size}
use Rattle.words.specs.Bytes.{part, written}
use Rattle.words.specs.LittleEndian.{from_le, Read}
use Rattle.program.specs.Program.{run}
use Rattle.memory.specs.declared.Memory.{Memory}
use Rattle.memory.specs.Pages.{maximum, dirty, writable, wxorx_bit}
use Rattle.memory.specs.Storage.{State, state_of, Fitting, fits, absent, slot_in, no_value}
use Rattle.memory.specs.Operations.{Call, does}
use Rattle.memory.specs.Sparse.{store, store_bytes, load, load_wide}
use Rattle.memory.specs.WXorX.{permitted}
use Rattle.memory.specs.WXorX as wxorx
use Rattle.memory.specs.Inner.{Spot, Stored, StoreHere, Did, LoadHere}
use Rattle.memory.proofs.Lengths.{fits-yes, fit-yes}
use Rattle.memory.proofs.OnePage.{slot_read, slot_past, page-had, page-written, fetched-had, stored_there}
use Rattle.memory.proofs.Store.{store_none, store-turn, bytes_stored}
use Rattle.memory.proofs.Loads.{met-used, load-there}
use Rattle.memory.proofs.PageIndices.{indices-are}
use Rattle.memory.proofs.Flags.{left_here, permits-next, permits-done}
use Rattle.memory.proofs.WriteOrExecute.{permitted-pages, any-done}

-- ---- the slot
module _ (slots : List ℕ) (flags area : ℕ) (m : Memory) (a n : ℕ) where
  pub slot_found : (slot : ℕ) → Fitting (length slots) flags area m → n ≤ page_size - a % page_size
      → slot ≡ slot_in slots (a / page_size) → Spot slots flags area m a n slot
  slot_found slot f h is = record { fit = f; inside = omega arith; slot_is = is }

  module _ (slot : ℕ) (spot : Spot slots flags area m a n slot) (u : slot < m.used) where
    -- the page is there, and its slot
    pub spot-there : a / page_size < length slots
    spot-there = elim (dec_lt (a / page_size) (length slots)) [
      | yes h ↦ h
      | no h ↦ absurd (omega (arith, slot_past slots (a / page_size) (omega arith), spot.slot_is, spot.fit.used_in, spot.fit.area_small))
    ]

    spot-small : slot < 65535
    spot-small = omega (arith, spot.fit.used_in, spot.fit.area_small)

-- ---- a store

module _ (slots flags area fl ar : List ℕ) (m : Memory) (a mask : ℕ) (slot : ℕ) where
  pub stored-page : (bytes : List ℕ) → Spot slots (length flags) (length area) m a (length bytes) slot → slot < m.used
      → bit_and (get_or flags (a / page_size) 0) mask ≡ 0 → (length bytes ≡ 0 → ⊥)
      → fl ≡ set flags (a / page_size) (bit_or (get_or flags (a / page_size) 0) dirty)
      → ar ≡ written area (slot * page_size + a % page_size) bytes
      → StoreHere true mask (state_of slots flags area m) (state_of slots fl ar m) a bytes
  stored-page bytes o u e z f w =
      let n : ℕ = length bytes in
      let p : ℕ = a / page_size in
      let there = spot-there slots (length flags) (length area) m a n slot o u in
      let is : slot ≡ get_or slots p 0 = slot_read slots p slot there o.slot_is in
      let h : p < m.size / page_size = omega (arith, there, o.fit.slots_are) in
      record {
        yes =
            λ t.
            record {
              fit = o.fit;
              some = omega arith;
              inside = o.inside;
              free = e;
              is =
                  page-written slots flags area slots area bytes m m p (a % page_size) 0 true
                  (page-had slots flags area m p slot is u h o.fit) refl refl slot (length area)
                  (fetched-had slots (length flags) (length area) m p o.fit slot h is u) fl ar f w;
            };
        no = λ t. absurd (let z : ◌≡◌ {A = ℕ} 0 1 = cc in omega arith);
      }

-- it is the whole call
module _ (mask : ℕ) (s t : State) (a : ℕ) (bytes : List ℕ) (o : Stored mask s t a bytes) where
  right : true ≡ fits s
  right = sym (fits-yes _ _ _ _ o.fit)

  all-stored : (0, t) ≡ run does (store (a / page_size * page_size + a % page_size) bytes) s
  all-stored =
      let n : ℕ = length bytes in
      let l : take n bytes ≡ bytes = take_all n bytes (omega arith) in
      let none : length (drop n bytes) ≡ 0 = simp length-drop (omega arith) in
      store_none t (a / page_size + 1) 0 (drop n bytes) none
      ∙ store-turn s (a / page_size) (a % page_size) bytes n (omega arith) o.some (omega (arith, o.inside)) 0 t true (rw l o.is) refl refl

  sparse_stored : (0, t) ≡ run does (store_bytes a bytes) s
  sparse_stored = bytes_stored s a bytes true right (0, t) refl all-stored

module _ (s t : State) (a : ℕ) (bytes : List ℕ) (o : Stored wxorx_bit s t a bytes) where
  its-pages : (0, s) ≡ run does (permitted writable a (length bytes)) s
  its-pages =
      let n : ℕ = length bytes in
      let p : ℕ = a / page_size in
      let last : ℕ = (a + n - 1) / page_size in
      let there = stored_there s t p (a % page_size) 0 bytes o.is refl in
      let one : last ≡ p = omega (arith, o.some, o.inside) in
      let h : p < length s.flags = omega (arith, there, o.fit.flags_are) in
      let begin = left_here _ s.slots s.area s.flags (last + 1 - p) p in
      let next = permits-next s.slots s.flags s.area p last writable p begin (omega arith) h o.free in
      permitted-pages s writable a n 0 p last true
      (indices-are maximum a n (a + n) o.some refl (omega (arith, there, o.fit.small, o.inside))) refl (0, s) refl
      (permits-done s.slots s.flags s.area p last writable (p + 1) next s.memory (omega arith))

  wxorx_stored : (0, t) ≡ run does (wxorx.store_bytes a bytes) s
  wxorx_stored =
      any-done s a _ bytes refl true (right wxorx_bit s t a bytes o) refl (omega (arith, o.some)) 0 true its-pages refl (0, t) refl
      (all-stored wxorx_bit s t a bytes o)

-- so it was the whole call, or nothing
module _ (s t : State) (a : ℕ) (bytes : List ℕ) (d : Bool) where
  pub did_sparse : (mask : ℕ) → StoreHere d mask s t a bytes → Did d (run does (store_bytes a bytes) s) s t
  did_sparse mask g = record { yes = λ e. sparse_stored mask s t a bytes (g.yes e); no = g.no }

  pub did_wxorx : StoreHere d wxorx_bit s t a bytes → Did d (run does (wxorx.store_bytes a bytes) s) s t
  did_wxorx g = record { yes = λ e. wxorx_stored s t a bytes (g.yes e); no = g.no }

-- where it was nothing, the call goes on
pub did_on : (f : Call ℕ) (s t : State) (d : Bool) (r : ℕ × State) → Did d (run does f s) s t → d ≡ false → r ≡ run does f t → r ≡ run does f s
did_on f s t d r g e q = q ∙ ap (λ (x : State). run does f x) (g.no e)

-- ---- a load
module _ (s : State) (a n slot v : ℕ) (o : Spot s.slots (length s.flags) (length s.area) s.memory a n slot)
    (u : slot < s.memory.used) where
  pub loaded-page : (e : ℕ) → 0 < n → n ≤ 8 → e ≡ n
      → Read (part s.area (slot * page_size + a % page_size) e) 0 (min n 8) v
      → LoadHere v s a n
  unfolding load_wide
  loaded-page e some small y r =
      let there = spot-there s.slots (length s.flags) (length s.area) s.memory a n slot o u in
      let k = spot-small s.slots (length s.flags) (length s.area) s.memory a n slot o u in
      let z : slot ≡ absent → ⊥ = omega arith in
      let met = met-used s.slots s.memory.used (a / page_size) there slot o.slot_is z u in
      let x : min n 8 ≡ n = omega arith in
      let l : List ℕ = part s.area (slot * page_size + a % page_size) n in
      let q : Read l 0 (min n 8) v = rw y at r in
      let w : Read s.area (slot * page_size + a % page_size) (min n 8) v =
      record { value = q.value ∙ rw x (ap from_le (take_all n l (simp length-take (omega arith)))); small = q.small } in
      record {
        is =
            fit-yes no_value s (load n a) true (sym (fits-yes _ _ _ _ o.fit)) _ refl
            (load-there s a n 0 true some small met refl refl o.inside slot o.slot_is z o.fit v w);
      }
