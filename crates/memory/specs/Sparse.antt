-- The calls of sparse memory, and those of memory/mod.rs on it.
use Rattle.std.specs.Prelude.{ℕ, zero, suc, ◌+◌, ◌-◌, ◌/◌, min, cond, List, [], ◌∷◌, ◌++◌, length, take, drop, ◌==◌, bit_and, nat_lt}
use Rattle.bits.specs.Rounding.{page_size}
use Rattle.words.specs.Bytes.{filled}
use Rattle.words.specs.LittleEndian.{from_le, to_le}
use Rattle.program.specs.Program.{ret, ask, perform, onwards, after, and_then, each}
use Rattle.memory.specs.Pages.{dirty, wxorx_bit}
use Rattle.memory.specs.Storage.{State, Valued, valued, no_value, in_page, fits, and_flag}
use Rattle.memory.specs.Operations.{Call, fitting, size?, lr?, flag?, meet?, byte?, bytes?, part!, or!, lr! }

-- ---- flags, size and reservation

-- a page's flag; page past the machine: 2
unfoldable pub fetch_flag : ℕ → Call Valued
fetch_flag p = fitting no_value (perform (flag? p))

-- "Set .. of a flag: OR .. page past the machine: 2, no change."
unfoldable pub set_flag : ℕ → ℕ → Call ℕ
set_flag p f = fitting (λ n. n) (perform (or! p f))

-- "clear of a flag: .. AND with complement". Not a program: the theorems on resumed machines leave it out where it clears dirty
unfoldable pub clear_flag : ℕ → ℕ → State → ℕ × State
clear_flag p f s = cond (fits s) (and_flag s p f) (9, s)

unfoldable pub memory_size : Call ℕ
memory_size = perform size?

unfoldable pub memory_pages : Call ℕ
memory_pages = ask size? (λ n. ret (n / page_size))

unfoldable pub lr : Call ℕ
lr = perform lr?

unfoldable pub set_lr : ℕ → Call ℕ
set_lr x = perform (lr! x)

-- a page whose W^X bit isn't as wanted: 4; past the machine: 2
unfoldable pub permit : ℕ → ℕ → Call ℕ
permit want p =
    ask (flag? p) (λ f. onwards (λ n. n) (ret (cond (bit_and f.value wxorx_bit == bit_and want wxorx_bit) 0 4)) f.number)

-- check_permission: pages ascending, the first that refuses decides; no page, done
unfoldable pub permits : ℕ → ℕ → ℕ → Call ℕ
permits first last want = each (permit want) (last + 1 - first) first

unfoldable pub check_permission : ℕ → ℕ → ℕ → Call ℕ
check_permission first last want = fitting (λ n. n) (permits first last want)

-- set_dirty: pages ascending, dirty set; past the machine: 2, earlier pages stay
unfoldable pub marks : ℕ → ℕ → Call ℕ
marks first last = each (λ p. perform (or! p dirty)) (last + 1 - first) first

unfoldable pub set_dirty : ℕ → ℕ → Call ℕ
set_dirty first last = fitting (λ n. n) (marks first last)

-- ---- stores

-- "Sparse stores go page by page, each page marked dirty as it's written. On 2, 7 or 9 the part before stays. Empty stores are
-- done at every address." At most `pages` pages
unfoldable pub store_over : ℕ → ℕ → List ℕ → Call ℕ
store_over zero a bytes = ret 0
store_over (suc pages) a bytes =
    cond (length bytes == 0)
    (ret 0)
    (and_then (perform (part! a bytes)) (store_over pages (a + in_page a (length bytes)) (drop (in_page a (length bytes)) bytes)))

-- every page takes a byte or more, so that as many pages as bytes are enough
unfoldable pub store : ℕ → List ℕ → Call ℕ
store a bytes = store_over (length bytes) a bytes

unfoldable pub store_bytes : ℕ → List ℕ → Call ℕ
store_bytes a bytes = fitting (λ n. n) (store a bytes)

-- store_byte: so many bytes of one value
unfoldable pub store_byte : ℕ → ℕ → ℕ → Call ℕ
store_byte a n v = store_bytes a (filled n v)

-- store8, store16, store32, store64: the low n bytes of a number, "All little-endian."
unfoldable pub store_wide : ℕ → ℕ → ℕ → Call ℕ
store_wide n a x = store_bytes a (to_le n x)

-- the source from `front` bytes past a on, and zeros to the end of `left` bytes
unfoldable pub fill_rest : ℕ → ℕ → ℕ → List ℕ → Call ℕ
fill_rest a front left source =
    and_then (store (a + front) source) (store (a + front + length source) (filled (left - length source) 0))

-- "zeros, source, zeros", "the lead cut to the size"; the source is cut to what is left
unfoldable pub fill : ℕ → ℕ → ℕ → List ℕ → Call ℕ
fill a size lead source =
    and_then (store a (filled (min size lead) 0))
    (fill_rest a (min size lead) (size - min size lead) (take (size - min size lead) source))

-- fill_page_data; "Sparse `init_pages` is the fill alone, at any address, the lead cut to the size."
unfoldable pub fill_page_data : ℕ → ℕ → ℕ → List ℕ → Call ℕ
fill_page_data a size lead source = fitting (λ n. n) (fill a size lead source)

-- ---- loads

-- the pages of n bytes from a on can be read, ascending
unfoldable pub meets : ℕ → ℕ → Call ℕ
meets a n = each (λ p. perform (meet? p)) ((a + n - 1) / page_size + 1 - a / page_size) (a / page_size)

-- "Loads of 1, 2, 4, 8 bytes have no permission check; they meet their pages ascending, and a page past the machine is 2.
-- .. All little-endian."
unfoldable pub load : ℕ → ℕ → Call Valued
load n a = after no_value (meets a n) (ask (bytes? a n) (λ l. ret (valued (from_le l))))

-- load8, load16, load32, load64, and execute_load16, execute_load32: "sparse ones check no flag"
unfoldable pub load_wide : ℕ → ℕ → Call Valued
load_wide n a = fitting no_value (load n a)

-- a number of document 01's table, a value, and bytes for the front of a lent output; a refusal has 0 and no bytes
pub record Output : Type 0 where
  pub number : ℕ
  pub value : ℕ
  pub bytes : List ℕ

abbrev pub output : ℕ → ℕ → List ℕ → Output
output n v l = record { number = n; value = v; bytes = l }

abbrev pub no_output : ℕ → Output
no_output n = output n 0 []

-- "end past the machine 2"; a page's slot number 9; "output shorter than size 8"
unfoldable pub reach : ℕ → ℕ → ℕ → Call ℕ
reach a n room =
    ask size? (λ m. cond (nat_lt m (a + n)) (ret 2) (and_then (meets a n) (ret (cond (nat_lt room n) 8 0))))

-- "`load_bytes`: size 0 done at every address .. No refusal writes; output past the size stays."
unfoldable pub load_bytes : ℕ → ℕ → ℕ → Call Output
load_bytes a n room =
    fitting no_output
    (cond (n == 0)
    (ret (no_output 0))
    (after no_output (reach a n room) (ask (bytes? a n) (λ l. ret (output 0 0 l)))))

-- "C string load, at each byte: past the machine 2": what stands at a, where `seen` was read before it; "zero byte done"
unfoldable pub next_byte : ℕ → List ℕ → (ℕ → Call Output) → Call Output
next_byte a seen more =
    ask (meet? (a / page_size))
    (λ n. onwards (λ k. output k 0 seen)
    (ask (byte? a) (λ b. cond (b == 0) (ret (output 0 (length seen) seen)) (more b))) n)

-- "output full 8. The bytes read so far are at the front of the output, the rest unchanged." `room` bytes are free
unfoldable pub c_string : ℕ → ℕ → List ℕ → Call Output
c_string zero a seen = next_byte a seen (λ b. ret (output 8 0 seen))
c_string (suc room) a seen = next_byte a seen (λ b. c_string room (a + 1) (seen ++ (b ∷ [])))

unfoldable pub load_c_string : ℕ → ℕ → Call Output
load_c_string a room = fitting no_output (c_string room a [])
