-- The map of a snapshot's memory: a picture in SVG 1.1 with a tile for each page of a machine, by what its record file says of it.
use Rattle.std.specs.Prelude.{cond, List, [], ◌∷◌, ◌++◌, ℕ, zero, suc, ◌+◌, ◌-◌, ◌*◌, ◌/◌, ◌%◌, ◌^◌, ltb, leb}
use Prim.Native.String.{String}
use Rattle.bits.specs.Rounding.{page_size}
use Rattle.recordfile.specs.Records.{records_in}
use Rattle.recordfile.specs.Form.{judged}
use Rattle.recordfile.specs.declared.Record.{Record}
use Rattle.listing.specs.Listing.{listed}
use Rattle.listing.specs.Texts.{text, rows, filled}
use Rattle.listing.specs.Pages.{most_pages, said_of, is_dirty, is_source, is_left_out, pages_that, runs_partly}
use Rattle.listing.specs.declared.pages.Said.{Said}
use Rattle.listing.specs.declared.pages.Said.TheVariants.{LeftOut, Source, Dirty}

-- ---- a tile

-- the tiles of a row
abbrev pub row_tiles : ℕ
row_tiles = 32

-- a shade for each value of the flag's bits frozen 1 and executable 2
abbrev pub shades : ℕ
shades = 4

-- the tile of page n: where it stands, its class by kind and shade, and its title
unfoldable pub none_tile : ℕ → List ℕ
none_tile n =
    filled (text "<rect width='.9' height='.9' x='@' y='@' class='out'><title>page @ at @: left out</title></rect>\n")
    (n % row_tiles ∷ n / row_tiles ∷ n ∷ n * page_size ∷ [])

unfoldable pub dirty_tile : ℕ → ℕ → List ℕ
dirty_tile n flag =
    filled (text "<rect width='.9' height='.9' x='@' y='@' class='dirty@'><title>page @ at @: dirty, flag @</title></rect>\n")
    (n % row_tiles ∷ n / row_tiles ∷ flag % shades ∷ n ∷ n * page_size ∷ flag ∷ [])

-- an offset past 2^64-1 is not given
unfoldable pub source_tile : ℕ → ℕ → ℕ → ℕ → List ℕ
source_tile n flag id offset =
    cond (ltb offset (2 ^ 64))
    (filled (text "<rect width='.9' height='.9' x='@' y='@' class='source@'><title>page @ at @: source @ from @, flag @</title></rect>\n")
    (n % row_tiles ∷ n / row_tiles ∷ flag % shades ∷ n ∷ n * page_size ∷ id ∷ offset ∷ flag ∷ []))
    (filled (text "<rect width='.9' height='.9' x='@' y='@' class='source@'><title>page @ at @: source @, flag @</title></rect>\n")
    (n % row_tiles ∷ n / row_tiles ∷ flag % shades ∷ n ∷ n * page_size ∷ id ∷ flag ∷ []))

-- a page's own offset in its item is as far behind the run's as the page is behind the run's address
unfoldable pub tile : ℕ → Said → List ℕ
tile n LeftOut = none_tile n
tile n (Source flag id address offset) = source_tile n flag id (offset + (n * page_size - address))
tile n (Dirty flag) = dirty_tile n flag

-- the tiles of so many pages from page n on
unfoldable pub tiles : List Record → ℕ → ℕ → List ℕ
tiles rs n zero = []
tiles rs n (suc k) = tile n (said_of rs n) ++ tiles rs (n + 1) k

-- ---- around them

-- the height: what stands above the tiles, the rows, and a margin
abbrev pub height_of : ℕ → ℕ
height_of pages = 160 + 18 * ((pages + (row_tiles - 1)) / row_tiles) + 10

-- the size, the styles of the classes, the words, the legend, and where the tiles begin
unfoldable pub frame : List String
frame =
    "<svg xmlns='http://www.w3.org/2000/svg' version='1.1' width='600' height='@' viewBox='0 0 600 @'>"
    ∷ "<title>Memory map of a snapshot</title>"
    ∷ "<style type='text/css'>"
    ∷ "text{font:12px sans-serif;fill:#222}"
    ∷ ".head{font-size:17px;font-weight:bold}"
    ∷ ".count{text-anchor:end}"
    ∷ ".out{fill:#f4f4f4;stroke:#bbb;stroke-width:.04}"
    ∷ ".source0{fill:#a9cfec}.source1{fill:#5fa3d6}.source2{fill:#236cb2}.source3{fill:#0a3468}"
    ∷ ".dirty0{fill:#ffc37d}.dirty1{fill:#f0902c}.dirty2{fill:#bf5b08}.dirty3{fill:#6f3000}"
    ∷ "</style>"
    ∷ "<rect width='100%' height='100%' fill='#fff'/>"
    ∷ "<text class='head' x='12' y='28'>Memory map of a snapshot</text>"
    ∷ "<text x='12' y='56'>pages of the machine</text>"
    ∷ "<text x='270' y='56'>neither</text>"
    ∷ "<text x='342' y='56'>frozen</text>"
    ∷ "<text x='414' y='56'>executable</text>"
    ∷ "<text x='504' y='56'>both</text>"
    ∷ "<text x='12' y='74'>pages dirty</text>"
    ∷ "<text x='12' y='92'>pages from a source</text>"
    ∷ "<text x='12' y='110'>pages left out</text>"
    ∷ "<text x='12' y='128'>runs not drawn whole</text>"
    ∷ "<text x='270' y='128'>not whole pages, or past the last page</text>"
    ∷ "<text x='12' y='150'>A tile is a page of 4,096 bytes, 32 to a row. Its title has its number, address, source and flag.</text>"
    ∷ "<g id='legend' transform='translate(270,61) scale(18)'>"
    ∷ "<rect width='.9' height='.9' x='0' y='0' class='dirty0'/>"
    ∷ "<rect width='.9' height='.9' x='4' y='0' class='dirty1'/>"
    ∷ "<rect width='.9' height='.9' x='8' y='0' class='dirty2'/>"
    ∷ "<rect width='.9' height='.9' x='13' y='0' class='dirty3'/>"
    ∷ "<rect width='.9' height='.9' x='0' y='1' class='source0'/>"
    ∷ "<rect width='.9' height='.9' x='4' y='1' class='source1'/>"
    ∷ "<rect width='.9' height='.9' x='8' y='1' class='source2'/>"
    ∷ "<rect width='.9' height='.9' x='13' y='1' class='source3'/>"
    ∷ "<rect width='.9' height='.9' x='0' y='2' class='out'/>"
    ∷ "</g>"
    ∷ "<g id='pages' transform='translate(12,160) scale(18)'>"
    ∷ []

unfoldable pub opened : ℕ → List ℕ
opened pages = filled (rows frame) (height_of pages ∷ height_of pages ∷ [])

-- the numbers: pages in all, dirty, from a source and left out, and the runs that are not drawn whole
unfoldable pub numbers : List String
numbers =
    "</g>"
    ∷ "<text class='count' x='230' y='56'>@</text>"
    ∷ "<text class='count' x='230' y='74'>@</text>"
    ∷ "<text class='count' x='230' y='92'>@</text>"
    ∷ "<text class='count' x='230' y='110'>@</text>"
    ∷ "<text class='count' x='230' y='128'>@</text>"
    ∷ "</svg>"
    ∷ []

unfoldable pub closed : ℕ → List Record → List ℕ
closed pages rs =
    filled (rows numbers)
    (pages ∷ pages_that is_dirty rs pages ∷ pages_that is_source rs pages ∷ pages_that is_left_out rs pages ∷ runs_partly pages rs ∷ [])

-- ---- the map

unfoldable pub drawn : ℕ → List Record → List ℕ
drawn pages rs = opened pages ++ (tiles rs 0 pages ++ closed pages rs)

-- the map of a record file for a machine of so many pages, "or only `E 11`"
unfoldable pub map : ℕ → List ℕ → List ℕ
map pages file = listed (judged file) (drawn pages (records_in file))

-- the most bytes of a tile, of what stands before the tiles or after them, and of a map
abbrev pub most_tile : ℕ
most_tile = 320

abbrev pub most_frame : ℕ
most_frame = 2048

abbrev pub most_map : ℕ
most_map = most_frame + most_pages * most_tile + most_frame

-- the number and the map, for an output of so many bytes; more pages than the maximum: 9; "a lent output is too short": 8
unfoldable pub map_into : ℕ → List ℕ → ℕ → ℕ × List ℕ
map_into pages file room = cond (leb pages most_pages) (cond (leb most_map room) (0, map pages file) (8, [])) (9, [])
