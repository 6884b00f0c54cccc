-- Which numbers a call answers: on well-formed storage never 9, and with a slot for every page never 7.
use Rattle.std.proofs.Common.{◌≡◌, ℕ, zero, suc, ◌+◌, ◌-◌, ◌/◌, ◌<◌, Bool, true, false, cond, eqb, ltb, leb, ◌≢◌, ◌⊎◌, List, [], ◌∷◌, ◌++◌, length, sym, ◌∙◌, inl, inr, arith}
use lib.Bits.{bit_and}
use Rattle.bits.specs.Rounding.{page_size, rounded_up, rounded_down}
use Rattle.words.specs.Bytes.{filled}
use Rattle.words.specs.LittleEndian.{to_le}
use Rattle.program.specs.Program.{ret, run, perform, onwards, and_then, each}
use Rattle.program.proofs.Keeps.{Ends, ends, ends-after, ends-each}
use Rattle.memory.specs.Pages.{PageIndices, page_indices, pages_within, maximum, writable, executable, wxorx_bit, frozen}
use Rattle.memory.specs.Storage.{State, Valued, flag_in, no_value, or_flag, and_flag}
use Rattle.memory.specs.Operations.{Op, Reply, lengths?, size?, lr?, flag?, meet?, byte?, bytes?, part!, or!, lr!, does, Call, fitting}
use Rattle.memory.specs.Sparse.{Output, output, no_output, fetch_flag, set_flag, clear_flag, memory_size, memory_pages, lr, set_lr, permit, permits, check_permission, marks, set_dirty, store_over, store, fill_rest, fill, fill_page_data, meets, load, load_wide, reach, load_bytes, next_byte, c_string, load_c_string}
use Rattle.memory.specs.Sparse as sparse
use Rattle.memory.specs.WXorX.{permitted, execute_load, init_flag, in_bounds, init_pages}
use Rattle.memory.specs.WXorX as wxorx
use Rattle.memory.specs.View.{WellFormed, Roomy, Whole}
use Rattle.memory.specs.Calls.{on_sparse, on_wxorx, Named, init_pages_call, fill_page_data_call, fetch_flag_call, set_flag_call, check_permission_call, set_dirty_call, memory_size_call, memory_pages_call, store_byte_call, store_bytes_call, store_wide_call, load_bytes_call, load_wide_call, execute_load_call, load_c_string_call, get_lr_call, set_lr_call, program, number_in}
use Rattle.memory.proofs.StoreCases.{cases}
use Rattle.memory.proofs.WellFormed.{op_kept, op_roomy}
use Rattle.memory.proofs.Replies.{lengths_reply, meet-reply, part-reply}

-- k is none of the numbers that programs answer of themselves
pub record Foreign (k : ℕ) : Type 0 where
  pub not_0 : 0 ≢ k
  pub not_2 : 2 ≢ k
  pub not_3 : 3 ≢ k
  pub not_4 : 4 ≢ k
  pub not_5 : 5 ≢ k
  pub not_8 : 8 ≢ k

-- the replies from which no program comes to answer k
abbrev pub Can : ℕ → (o : Op) → Reply o → Type 0
Can k lengths? b = b ≡ true
Can k size? n = Unit {0}
Can k lr? n = Unit {0}
Can k (flag? p) v = v.number ≢ k
Can k (meet? p) n = n ≢ k
Can k (byte? a) n = Unit {0}
Can k (bytes? a n) l = Unit {0}
Can k (part! a bytes) n = n ≢ k
Can k (or! p f) n = n ≢ k
Can k (lr! x) n = n ≢ k

-- ---- every program

module _ (k : ℕ) (own : Foreign k) where
  -- a call that never answers k
  abbrev Never : Call ℕ → Type 0
  Never g = Ends (Can k) (λ n. n ≢ k) g

  abbrev NeverValued : Call Valued → Type 0
  NeverValued g = Ends (Can k) (λ v. v.number ≢ k) g

  abbrev NeverOutput : Call Output → Type 0
  NeverOutput g = Ends (Can k) (λ o. o.number ≢ k) g

  never-fitting : {A : Type 0} (Q : A → Type 0) (refused : ℕ → A) (g : Call A) → Ends (Can k) Q g
      → Ends (Can k) Q (fitting refused g)
  unfolding fitting
  never-fitting Q refused g e = λ b t. rw t e

  never_then : (g h : Call ℕ) → Never g → Never h → Never (and_then g h)
  never_then g h e f = ends-after (Can k) (λ n. n ≢ k) (λ n. n ≢ k) (λ n. n) g h e (λ n c. c) f

  never-each : (g : ℕ → Call ℕ) → ((p : ℕ) → Never (g p)) → (n p : ℕ) → Never (each g n p)
  never-each g e n p = ends-each (Can k) (λ n. n ≢ k) g own.not_0 e n p

  never-onwards : {A : Type 0} (Q : A → Type 0) (refused : ℕ → A) (h : Call A) (n : ℕ) → Q (refused n) → Ends (Can k) Q h
      → Ends (Can k) Q (onwards refused h n)
  never-onwards Q refused h n c e = cases (Ends (Can k) Q) (eqb n 0) h (ret (refused n)) (λ t. e) (λ t. c)

  -- flags

  never-permit : (want p : ℕ) → Never (permit want p)
  unfolding permit
  never-permit want p = λ f c.
      never-onwards (λ n. n ≢ k) (λ n. n) _ f.number c
      (cases (λ (n : ℕ). n ≢ k) (eqb (bit_and f.value wxorx_bit) (bit_and want wxorx_bit)) 0 4 (λ t. own.not_0) (λ t. own.not_4))

  never-permits : (first last want : ℕ) → Never (permits first last want)
  unfolding permits
  never-permits first last want = never-each (permit want) (never-permit want) (last + 1 - first) first

  never-marks : (first last : ℕ) → Never (marks first last)
  unfolding marks
  never-marks first last = never-each _ (λ p r c. c) (last + 1 - first) first

  -- stores

  never_store_over : (pages a : ℕ) (bytes : List ℕ) → Never (store_over pages a bytes)
  unfolding store_over
  never_store_over zero a bytes = own.not_0
  never_store_over (suc pages) a bytes =
      cases Never (eqb (length bytes) 0) _ _
      (λ t. own.not_0)
      (λ t. never_then (perform (part! a bytes)) _ (λ r c. c) (never_store_over pages _ _))

  never-store : (a : ℕ) (bytes : List ℕ) → Never (store a bytes)
  unfolding store
  never-store a bytes = never_store_over (length bytes) a bytes

  never_sparse : (a : ℕ) (bytes : List ℕ) → Never (sparse.store_bytes a bytes)
  unfolding sparse.store_bytes
  never_sparse a bytes = never-fitting (λ n. n ≢ k) (λ n. n) _ (never-store a bytes)

  never-fill : (a size lead : ℕ) (source : List ℕ) → Never (fill a size lead source)
  unfolding fill fill_rest
  never-fill a size lead source =
      never_then _ _ (never-store _ _) (never_then _ _ (never-store _ _) (never-store _ _))

  never_fill_page_data : (a size lead : ℕ) (source : List ℕ) → Never (fill_page_data a size lead source)
  unfolding fill_page_data
  never_fill_page_data a size lead source = never-fitting (λ n. n ≢ k) (λ n. n) _ (never-fill a size lead source)

  never_page_indices : (a n : ℕ) → (page_indices a n).number ≢ k
  unfolding pages_within
  never_page_indices a n =
      cases (λ (i : PageIndices). i.number ≢ k) (eqb n 0) _ _
      (λ t. own.not_2)
      (λ t. cases (λ (i : PageIndices). i.number ≢ k) (leb (a + n) maximum) _ _ (λ u. own.not_0) (λ u. own.not_2))

  never-permitted : (want a n : ℕ) → Never (permitted want a n)
  unfolding permitted
  never-permitted want a n = never-onwards (λ n. n ≢ k) (λ n. n) _ _ (never_page_indices a n) (never-permits _ _ want)

  never_wxorx : (a : ℕ) (bytes : List ℕ) → Never (wxorx.store_bytes a bytes)
  unfolding wxorx.store_bytes
  never_wxorx a bytes =
      never-fitting (λ n. n ≢ k) (λ n. n) _
      (cases Never (eqb (length bytes) 0) _ _
      (λ t. own.not_0)
      (λ t. never_then _ _ (never-permitted writable a (length bytes)) (never-store a bytes)))

  never_init_flag : (flags p : ℕ) → Never (init_flag flags p)
  unfolding init_flag
  never_init_flag flags p = λ f c.
      never-onwards (λ n. n ≢ k) (λ n. n) _ f.number c
      (cases Never (eqb (bit_and f.value frozen) 0) _ _ (λ t r d. d) (λ t. own.not_5))

  never_in_bounds : (m a size lead : ℕ) → in_bounds m a size lead ≢ k
  unfolding in_bounds
  never_in_bounds m a size lead =
      let P : ℕ → Type 0 = λ n. n ≢ k in
      cases P (eqb (rounded_down a) a) _ _
      (λ t.
      cases P (eqb (rounded_up size) size) _ _
      (λ t.
      cases P (ltb m a) _ _
      (λ t. own.not_2)
      (λ t.
      cases P (ltb m size) _ _
      (λ t. own.not_2)
      (λ t.
      cases P (ltb m (a + size)) _ _ (λ t. own.not_2) (λ t. cases P (ltb size lead) _ _ (λ t. own.not_2) (λ t. own.not_0)))))
      (λ t. own.not_3))
      (λ t. own.not_3)

  never_init_pages : (a size flags lead : ℕ) (source : List ℕ) → Never (init_pages a size flags lead source)
  unfolding init_pages
  never_init_pages a size flags lead source =
      never-fitting (λ n. n ≢ k) (λ n. n) _
      (λ m c.
      never-onwards (λ n. n ≢ k) (λ n. n) _ _ (never_in_bounds m a size lead)
      (never_then _ _ (never-each _ (never_init_flag flags) _ _) (never-fill a size lead source)))

  -- loads

  never-meets : (a n : ℕ) → Never (meets a n)
  unfolding meets
  never-meets a n = never-each _ (λ p r c. c) _ _

  never-load : (n a : ℕ) → NeverValued (load n a)
  unfolding load
  never-load n a =
      ends-after (Can k) (λ n. n ≢ k) (λ v. v.number ≢ k) no_value _ _ (never-meets a n) (λ n c. c) (λ l c. own.not_0)

  never_load_wide : (n a : ℕ) → NeverValued (load_wide n a)
  unfolding load_wide
  never_load_wide n a = never-fitting (λ v. v.number ≢ k) no_value _ (never-load n a)

  never-reach : (a n room : ℕ) → Never (reach a n room)
  unfolding reach
  never-reach a n room = λ m c.
      cases Never (ltb m (a + n)) _ _
      (λ t. own.not_2)
      (λ t.
      never_then _ _ (never-meets a n) (cases (λ (x : ℕ). x ≢ k) (ltb room n) 8 0 (λ u. own.not_8) (λ u. own.not_0)))

  never_load_bytes : (a n room : ℕ) → NeverOutput (load_bytes a n room)
  unfolding load_bytes
  never_load_bytes a n room =
      never-fitting (λ o. o.number ≢ k) no_output _
      (cases NeverOutput (eqb n 0) _ _
      (λ t. own.not_0)
      (λ t.
      ends-after (Can k) (λ n. n ≢ k) (λ o. o.number ≢ k) no_output _ _ (never-reach a n room) (λ n c. c) (λ l c. own.not_0)))

  never_next_byte : (a : ℕ) (seen : List ℕ) (more : ℕ → Call Output) → ((b : ℕ) → NeverOutput (more b))
      → NeverOutput (next_byte a seen more)
  unfolding next_byte
  never_next_byte a seen more e = λ n c.
      never-onwards (λ o. o.number ≢ k) (λ k. output k 0 seen) _ n c
      (λ b d. cases NeverOutput (eqb b 0) _ _ (λ t. own.not_0) (λ t. e b))

  never_c_string : (room a : ℕ) (seen : List ℕ) → NeverOutput (c_string room a seen)
  unfolding c_string
  never_c_string zero a seen = never_next_byte a seen _ (λ b. own.not_8)
  never_c_string (suc room) a seen = never_next_byte a seen _ (λ b. never_c_string room (a + 1) (seen ++ (b ∷ [])))

  -- every call

  pub never_ends : (c : Named) → Ends (Can k) (λ x. number_in c x ≢ k) (program c)
  unfolding fetch_flag set_flag check_permission set_dirty memory_size memory_pages lr set_lr sparse.store_byte sparse.store_wide
      wxorx.store_byte wxorx.store_wide execute_load load_c_string
  never_ends (init_pages_call on_sparse a size flags lead source) = never_fill_page_data a size lead source
  never_ends (init_pages_call on_wxorx a size flags lead source) = never_init_pages a size flags lead source
  never_ends (fill_page_data_call a size lead source) = never_fill_page_data a size lead source
  never_ends (fetch_flag_call p) = never-fitting (λ v. v.number ≢ k) no_value _ (λ v c. c)
  never_ends (set_flag_call p f) = never-fitting (λ n. n ≢ k) (λ n. n) _ (λ r c. c)
  never_ends (check_permission_call first last want) = never-fitting (λ n. n ≢ k) (λ n. n) _ (never-permits first last want)
  never_ends (set_dirty_call first last) = never-fitting (λ n. n ≢ k) (λ n. n) _ (never-marks first last)
  never_ends memory_size_call = λ r c. own.not_0
  never_ends memory_pages_call = λ r c. own.not_0
  never_ends (store_byte_call on_sparse a n v) = never_sparse a (filled n v)
  never_ends (store_byte_call on_wxorx a n v) = never_wxorx a (filled n v)
  never_ends (store_bytes_call on_sparse a bytes) = never_sparse a bytes
  never_ends (store_bytes_call on_wxorx a bytes) = never_wxorx a bytes
  never_ends (store_wide_call on_sparse n a x) = never_sparse a (to_le n x)
  never_ends (store_wide_call on_wxorx n a x) = never_wxorx a (to_le n x)
  never_ends (load_bytes_call a n out) = never_load_bytes a n (length out)
  never_ends (load_wide_call n a) = never_load_wide n a
  never_ends (execute_load_call on_sparse n a) = never_load_wide n a
  never_ends (execute_load_call on_wxorx n a) =
      never-fitting (λ v. v.number ≢ k) no_value _
      (ends-after (Can k) (λ n. n ≢ k) (λ v. v.number ≢ k) no_value _ _ (never-permitted executable a n) (λ n c. c) (never-load n a))
  never_ends (load_c_string_call a out) = never-fitting (λ o. o.number ≢ k) no_output _ (never_c_string (length out) a [])
  never_ends get_lr_call = λ r c. own.not_0
  never_ends (set_lr_call x) = λ r c. c

  -- ---- on well-formed storage, where 7 asks for a slot for every page

  record Good (s : State) : Type 0 where
    formed : WellFormed s
    roomy : k ≡ 7 → Roomy s

  good-kept : (o : Op) (s : State) → Good s → Good (does o s).1
  good-kept o s w = record { formed = op_kept o s w.formed; roomy = λ e. op_roomy o s (w.roomy e) }

  -- done or past the machine
  zero_or_two : (b : Bool) → cond b 0 2 ≢ k
  zero_or_two true = own.not_0
  zero_or_two false = own.not_2

  good_can : (o : Op) (s : State) → Good s → Can k o (does o s).0
  unfolding flag_in or_flag
  good_can lengths? s w = lengths_reply s w.formed
  good_can size? s w = tt
  good_can lr? s w = tt
  good_can (flag? p) s w =
      cases (λ (v : Valued). v.number ≢ k) (ltb p (length s.flags)) _ _ (λ t. own.not_0) (λ t. own.not_2)
  good_can (meet? p) s w = rw (meet-reply s w.formed p) (zero_or_two (ltb p (s.memory.size / page_size)))
  good_can (byte? a) s w = tt
  good_can (bytes? a n) s w = tt
  good_can (part! a bytes) s w = go (part-reply s w.formed _ _ _)
    where
      go : {n : ℕ} → (n ≡ 0) ⊎ ((n ≡ 2) ⊎ ((n ≡ 7) × (Roomy s → ⊥))) → n ≢ k
      go (inl e) = rw e own.not_0
      go (inr (inl e)) = rw e own.not_2
      go (inr (inr f)) = λ e. f.1 (w.roomy (sym e ∙ f.0))
  good_can (or! p f) s w =
      cases (λ (r : ℕ × State). r.0 ≢ k) (ltb p (length s.flags)) _ _ (λ t. own.not_0) (λ t. own.not_2)
  good_can (lr! x) s w = own.not_0

  pub never : (c : Named) (s : State) → WellFormed s → (k ≡ 7 → Roomy s) → number_in c (run does (program c) s).0 ≢ k
  never c s w r =
      ends does Good (Can k) good-kept good_can (λ x. number_in c x ≢ k) (program c) s (record { formed = w; roomy = r }) (never_ends c)

  pub never_clear : (p f : ℕ) (s : State) → WellFormed s → (clear_flag p f s).0 ≢ k
  unfolding clear_flag and_flag
  never_clear p f s w =
      rw (lengths_reply s w)
      (cases (λ (r : ℕ × State). r.0 ≢ k) (ltb p (length s.flags)) _ _ (λ t. own.not_0) (λ t. own.not_2))

-- ---- 7 and 9

pub foreign : (k : ℕ) → 6 < k → k ≢ 8 → Foreign k
foreign k h n =
    record {
      not_0 = omega arith;
      not_2 = omega arith;
      not_3 = omega arith;
      not_4 = omega arith;
      not_5 = omega arith;
      not_8 = omega arith;
    }

seven : Foreign 7
seven = foreign 7 (omega arith) (omega arith)

nine : Foreign 9
nine = foreign 9 (omega arith) (omega arith)

pub never_9 : (c : Named) (s : State) → WellFormed s → number_in c (run does (program c) s).0 ≢ 9
never_9 c s w = never 9 nine c s w (λ e. absurd (omega arith))

pub never_7 : (c : Named) (s : State) → Whole s → number_in c (run does (program c) s).0 ≢ 7
never_7 c s w = never 7 seven c s w.formed (λ e. w.roomy)

pub clear_never_9 : (p f : ℕ) (s : State) → WellFormed s → (clear_flag p f s).0 ≢ 9
clear_never_9 p f s w = never_clear 9 nine p f s w

pub clear_never_7 : (p f : ℕ) (s : State) → WellFormed s → (clear_flag p f s).0 ≢ 7
clear_never_7 p f s w = never_clear 7 seven p f s w
