-- The calls of W^X memory where they are not those of sparse memory.
use Rattle.std.specs.Prelude.{ℕ, ◌+◌, ◌/◌, cond, List, length, ◌==◌, bit_and, nat_lt}
use Rattle.bits.specs.Rounding.{page_size, rounded_up, rounded_down}
use Rattle.words.specs.Bytes.{filled}
use Rattle.words.specs.LittleEndian.{to_le}
use Rattle.program.specs.Program.{ret, ask, perform, onwards, after, and_then, each}
use Rattle.memory.specs.Pages.{page_indices, writable, executable, frozen}
use Rattle.memory.specs.Storage.{Valued, no_value}
use Rattle.memory.specs.Operations.{Call, fitting, size?, flag?, or! }
use Rattle.memory.specs.Sparse.{store, fill, load, permits}

-- "page indices (2); then pages ascending, the first page that's past the machine (2) or whose W^X bit isn't 0 (4)"; for an
-- execute load isn't executable
unfoldable pub permitted : ℕ → ℕ → ℕ → Call ℕ
permitted want a n = onwards (λ k. k) (permits (page_indices a n).first (page_indices a n).last want) (page_indices a n).number

-- "W^X stores: empty is done; then page indices ..; only then the store."
unfoldable pub store_bytes : ℕ → List ℕ → Call ℕ
store_bytes a bytes =
    fitting (λ n. n)
    (cond (length bytes == 0) (ret 0) (and_then (permitted writable a (length bytes)) (store a bytes)))

unfoldable pub store_byte : ℕ → ℕ → ℕ → Call ℕ
store_byte a n v = store_bytes a (filled n v)

unfoldable pub store_wide : ℕ → ℕ → ℕ → Call ℕ
store_wide n a x = store_bytes a (to_le n x)

-- "W^X execute loads need the executable bit on all their pages, checked in a store's order"
unfoldable pub execute_load : ℕ → ℕ → Call Valued
execute_load n a = fitting no_value (after no_value (permitted executable a n) (load n a))

-- "pages ascending: frozen 5, else flags set"
unfoldable pub init_flag : ℕ → ℕ → Call ℕ
init_flag flags p =
    ask (flag? p)
    (λ f. onwards (λ n. n) (cond (bit_and f.value frozen == 0) (perform (or! p flags)) (ret 5)) f.number)

-- "address or size not whole pages 3; address, size, their sum or the lead past their bounds (wxorx.rs) 2"
unfoldable pub in_bounds : ℕ → ℕ → ℕ → ℕ → ℕ
in_bounds m a size lead =
    cond (rounded_down a == a)
    (cond (rounded_up size == size)
    (cond (nat_lt m a) 2 (cond (nat_lt m size) 2 (cond (nat_lt m (a + size)) 2 (cond (nat_lt size lead) 2 0))))
    3)
    3

-- "W^X `init_pages`: .. then zeros, source, zeros with no W^X check."
unfoldable pub init_pages : ℕ → ℕ → ℕ → ℕ → List ℕ → Call ℕ
init_pages a size flags lead source =
    fitting (λ n. n)
    (ask size?
    (λ m. onwards (λ n. n)
    (and_then (each (init_flag flags) (size / page_size) (a / page_size)) (fill a size lead source))
    (in_bounds m a size lead)))
