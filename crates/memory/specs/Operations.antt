-- The operations that calls on a memory are made of, and what each does to lent storage.
use Rattle.std.specs.Prelude.{ℕ, ◌/◌, ◌%◌, Bool, cond, List, length, take}
use Rattle.bits.specs.Rounding.{page_size}
use Rattle.program.specs.Program.{Prog, ask, ret}
use Rattle.memory.specs.Storage.{State, Valued, state_of, fits, flag_in, met, byte_at, span, store_page, in_page, or_flag, reserved}

pub data Op : Type 0 where
  -- whether the lent lengths are right; the memory's size; its reservation
  lengths? : Op
  size? : Op
  lr? : Op
  -- a page's flag; whether a page's bytes can be read; a byte; so many bytes from an address on
  flag? : ℕ → Op
  meet? : ℕ → Op
  byte? : ℕ → Op
  bytes? : ℕ → ℕ → Op
  -- of bytes from an address on, those on its page are stored; a page's flag is ORed; the reservation is set
  part! : ℕ → List ℕ → Op
  or! : ℕ → ℕ → Op
  lr! : ℕ → Op

abbrev pub Reply : Op → Type 0
Reply lengths? = Bool
Reply size? = ℕ
Reply lr? = ℕ
Reply (flag? p) = Valued
Reply (meet? p) = ℕ
Reply (byte? a) = ℕ
Reply (bytes? a n) = List ℕ
Reply (part! a bytes) = ℕ
Reply (or! p f) = ℕ
Reply (lr! x) = ℕ

abbrev pub does : (o : Op) → State → Reply o × State
does lengths? s = (fits s, s)
does size? s = (s.memory.size, s)
does lr? s = (s.memory.reservation, s)
does (flag? p) s = (flag_in s.flags p, s)
does (meet? p) s = (met s.slots s.memory.used p, s)
does (byte? a) s = (byte_at s a, s)
does (bytes? a n) s = (span (byte_at s) a n, s)
does (part! a bytes) s = store_page s (a / page_size) (a % page_size) (take (in_page a (length bytes)) bytes)
does (or! p f) s = or_flag s p f
does (lr! x) s = (0, state_of s.slots s.flags s.area (reserved s.memory x))

-- a call on a memory
abbrev pub Call : Type 0 → Type 0
Call A = Prog Op Reply A

-- "Check lengths (9) first in every call."
unfoldable pub fitting : {A : Type 0} → (ℕ → A) → Call A → Call A
fitting refused g = ask lengths? (λ b. cond b g (ret (refused 9)))
