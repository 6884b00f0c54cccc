-- The calls of tracking as programs.
use Rattle.std.specs.Prelude.{ℕ, ◌+◌, ◌-◌, ◌*◌, ◌/◌, ◌%◌, ◌^◌, min, cond, List, length, ◌==◌, nat_lt, slice_index}
use Rattle.bits.specs.Rounding.{page_size}
use Rattle.program.specs.Program.{ret, ask, perform, onwards, after, and_then, each}
use Rattle.program.specs.Layers.{low, own}
use Rattle.memory.specs.Pages.{page_indices}
use Rattle.memory.specs.Operations as memory
use Rattle.memory.specs.WXorX as wxorx
use Rattle.tracking.specs.declared.records.Tracking.{Tracking}
use Rattle.tracking.specs.declared.records.Tracking.TheVariants.{Untracked}
use Rattle.tracking.specs.declared.context.LoadingAction.{LoadingAction}
use Rattle.tracking.specs.Sources.{Data, find_data, data_of}
use Rattle.tracking.specs.Operations.{Call, fitting, on_memory, top, entry?, track!, drop! }

-- ---- track

-- "with d the distance to the next page boundary": 0 for a boundary
abbrev pub distance : ℕ → ℕ
distance start = (page_size - start % page_size) % page_size

-- "each whole page ascending": the offset of page p where page `first` has this one
abbrev pub track_from : ℕ → ℕ → ℕ → ℕ → Call ℕ
track_from first id offset p = perform (own (track! p id (offset + (p - first) * page_size)))

-- so many whole pages
unfoldable pub track_whole : ℕ → ℕ → ℕ → ℕ → Call ℕ
track_whole first count id offset = each (track_from first id offset) count first

-- "length below d: done, no change. Then start above 2^64-4,096, or offset + d above 2^64-1: 2, no change. Then each whole page
-- ascending .. Partial head and tail pages are never tracked."
unfoldable pub track : ℕ → ℕ → ℕ → ℕ → Call ℕ
track start size id offset =
    cond (nat_lt size (distance start))
    (ret 0)
    (cond (nat_lt (2 ^ 64 - page_size) start)
    (ret 2)
    (cond (nat_lt top (offset + distance start))
    (ret 2)
    (track_whole ((start + distance start) / page_size) ((size - distance start) / page_size) id (offset + distance start))))

unfoldable pub track_pages : ℕ → ℕ → ℕ → ℕ → Call ℕ
track_pages start size id offset = fitting (λ n. n) (track start size id offset)

-- ---- untrack

-- "each page ascending: past the machine 2, else set dirty and drop the record"
unfoldable pub drop_whole : ℕ → ℕ → Call ℕ
drop_whole first last = each (λ p. perform (own (drop! p))) (last + 1 - first) first

-- "length 0 done; page indices (2, no change); each page .."
unfoldable pub untrack : ℕ → ℕ → Call ℕ
untrack start size =
    cond (size == 0)
    (ret 0)
    (onwards (λ n. n) (drop_whole (page_indices start size).first (page_indices start size).last) (page_indices start size).number)

unfoldable pub untrack_pages : ℕ → ℕ → Call ℕ
untrack_pages start size = fitting (λ n. n) (untrack start size)

-- ---- context store

-- a number of document 01's table, the bytes stored, and the full length; "A refused call gives 0 for each number"
pub record Stored : Type 0 where
  pub number : ℕ
  pub stored : ℕ
  pub full : ℕ

abbrev pub stored : ℕ → ℕ → Stored
stored n full = record { number = 0; stored = n; full = full }

abbrev pub not_stored : ℕ → Stored
not_stored n = record { number = n; stored = 0; full = 0 }

-- ".. store, track"
unfoldable pub store_tracked : ℕ → ℕ → ℕ → List ℕ → Call ℕ
store_tracked a id offset bytes =
    and_then (on_memory (wxorx.store_bytes a bytes)) (track_pages a (length bytes) id offset)

-- ".. untrack, store, track"
unfoldable pub replace : ℕ → ℕ → ℕ → List ℕ → Call ℕ
replace a id offset bytes = and_then (untrack_pages a (length bytes)) (store_tracked a id offset bytes)

-- "store the full length as 8 bytes at the size address, untrack, store, track. Earlier steps stay when a later one refuses."
unfoldable pub store_data : ℕ → ℕ → ℕ → ℕ → ℕ → List ℕ → Call ℕ
store_data size_at full a id offset bytes =
    and_then (on_memory (wxorx.store_wide 8 size_at full)) (replace a id offset bytes)

-- "a lookup that finds no item ends the call with 6"
unfoldable pub store_found : Data → List ℕ → ℕ → ℕ → ℕ → ℕ → Call Stored
store_found d sources a id offset size_at =
    onwards not_stored
    (after not_stored (store_data size_at d.full a id offset (data_of sources d)) (ret (stored d.count d.full)))
    d.number

-- "Context store: load the data, store the full length .., untrack, store, track."
unfoldable pub store_bytes : List ℕ → List ℕ → ℕ → ℕ → ℕ → ℕ → ℕ → Call Stored
store_bytes directory sources a id offset wanted size_at =
    fitting not_stored (store_found (find_data directory (length sources) id offset wanted) sources a id offset size_at)

-- ---- mark program

-- "Actions are lent numbers in sixes: address, size, flags, source start, source end, lead" (reading 17)
abbrev pub action_words : ℕ
action_words = 6

abbrev pub action_at : List ℕ → ℕ → LoadingAction
action_at actions i =
    record {
      addr = slice_index actions (i * action_words);
      size = slice_index actions (i * action_words + 1);
      flags = slice_index actions (i * action_words + 2);
      start = slice_index actions (i * action_words + 3);
      end = slice_index actions (i * action_words + 4);
      lead = slice_index actions (i * action_words + 5);
    }

-- "tracks address + lead for the smaller of source length and size - lead, from offset + source start. A sum or difference
-- outside 0 to 2^64-1: 2 at that action."
unfoldable pub mark_action : ℕ → ℕ → LoadingAction → Call ℕ
mark_action id offset action =
    cond (nat_lt top (action.addr + action.lead))
    (ret 2)
    (cond (nat_lt action.end action.start)
    (ret 2)
    (cond (nat_lt action.size action.lead)
    (ret 2)
    (cond (nat_lt top (offset + action.start))
    (ret 2)
    (track_pages (action.addr + action.lead) (min (action.end - action.start) (action.size - action.lead)) id (offset + action.start)))))

-- "Mark program: each action in turn"; numbers after the last whole action are ignored
unfoldable pub mark_actions : List ℕ → ℕ → ℕ → Call ℕ
mark_actions actions id offset = each (λ i. mark_action id offset (action_at actions i)) (length actions / action_words) 0

unfoldable pub mark_program : List ℕ → ℕ → ℕ → Call ℕ
mark_program actions id offset = fitting (λ n. n) (mark_actions actions id offset)

-- ---- a page's record

-- a number of document 01's table, the page, and where its bytes come from
pub record Recorded : Type 0 where
  pub number : ℕ
  pub page : ℕ
  pub tracking : Tracking

abbrev pub not_recorded : ℕ → Recorded
not_recorded n = record { number = n; page = 0; tracking = Untracked }

-- what is tracked of a page, past the machine 2; "The record of a dirty page is no part of any call's answer."
unfoldable pub page_record : ℕ → Call Recorded
page_record p =
    fitting not_recorded
    (ask (low (memory.flag? p))
    (λ f. onwards not_recorded (ask (own (entry? p)) (λ t. ret (record { number = 0; page = p; tracking = t }))) f.number))
