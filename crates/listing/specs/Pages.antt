-- What a record file says of a machine's pages.
use Rattle.std.specs.Prelude.{Bool, false, cond, List, [], ◌∷◌, ℕ, zero, suc, ◌+◌, ◌*◌, ◌%◌, eqb, leb}
use Rattle.bits.specs.Rounding.{page_size}
use Rattle.recordfile.specs.declared.Record.{Record}
use Rattle.recordfile.specs.declared.Record.TheVariants as record-variants
use Rattle.listing.specs.declared.pages.Said.{Said}
use Rattle.listing.specs.declared.pages.Said.TheVariants.{LeftOut, Source, Dirty}

-- "maximum memory 4,194,304 bytes (1,024 pages)"
abbrev pub most_pages : ℕ
most_pages = 1024

-- ---- a page

-- a run of so many bytes covers page n: the whole page lies in it
unfoldable pub covers : ℕ → ℕ → ℕ → Bool
covers address size n = cond (leb address (n * page_size)) (leb ((n + 1) * page_size) (address + size)) false

-- what a record says of page n, or else what was said before: a run that covers it is a source's, or dirty; all else says nothing
unfoldable pub said_by : ℕ → Said → Record → Said
said_by n before (record-variants.Source address flag id offset size) = cond (covers address size n) (Source flag id address offset) before
said_by n before (record-variants.Dirty address flag pages place) = cond (covers address (pages * page_size) n) (Dirty flag) before
said_by n before (record-variants.State version pc cycles maximum reservation) = before
said_by n before (record-variants.Registers first one two three four) = before
said_by n before record-variants.Bad = before

-- the last of records that says something decides
unfoldable pub last_said : ℕ → Said → List Record → Said
last_said n before [] = before
last_said n before (r ∷ rs) = last_said n (said_by n before r) rs

-- what records say of page n: it is left out unless a run covers it
unfoldable pub said_of : List Record → ℕ → Said
said_of rs n = last_said n LeftOut rs

-- ---- how many pages

-- 1 for what is counted, else 0
abbrev pub is_dirty : Said → ℕ
is_dirty LeftOut = 0
is_dirty (Source flag id address offset) = 0
is_dirty (Dirty flag) = 1

abbrev pub is_source : Said → ℕ
is_source LeftOut = 0
is_source (Source flag id address offset) = 1
is_source (Dirty flag) = 0

abbrev pub is_left_out : Said → ℕ
is_left_out LeftOut = 1
is_left_out (Source flag id address offset) = 0
is_left_out (Dirty flag) = 0

-- how many of the pages below n
unfoldable pub pages_that : (Said → ℕ) → List Record → ℕ → ℕ
pages_that counted rs zero = 0
pages_that counted rs (suc n) = pages_that counted rs n + counted (said_of rs n)

-- ---- runs that a map can't show

-- 1 for a run of so many bytes that is not drawn whole on so many pages: its address or its size is not whole pages, or it ends past them
unfoldable pub partly : ℕ → ℕ → ℕ → ℕ
partly pages address size =
    cond (eqb (address % page_size) 0)
    (cond (eqb (size % page_size) 0)
    (cond (leb (address + size) (pages * page_size)) 0 1)
    1)
    1

unfoldable pub partly_by : ℕ → Record → ℕ
partly_by pages (record-variants.Source address flag id offset size) = partly pages address size
partly_by pages (record-variants.Dirty address flag count place) = partly pages address (count * page_size)
partly_by pages (record-variants.State version pc cycles maximum reservation) = 0
partly_by pages (record-variants.Registers first one two three four) = 0
partly_by pages record-variants.Bad = 0

-- how many of the runs of records
unfoldable pub runs_partly : ℕ → List Record → ℕ
runs_partly pages [] = 0
runs_partly pages (r ∷ rs) = partly_by pages r + runs_partly pages rs
