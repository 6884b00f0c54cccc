-- An answer as it is told in a list of answers is the whole answer: two that are told alike are the same.
use mathlib.Core.Path.{◌≡◌, ap}
use mathlib.Core.List.{List, [], ◌∷◌}
use Prim.Native.Nat.{ℕ}
use lib.ListN.{get_or}
use Rattle.memory.specs.Storage.{Valued}
use Rattle.memory.specs.Sparse.{Output}
use Rattle.memory.proofs.Told as memory
use Rattle.machine.specs.Operations as machine
use Rattle.handover.specs.Calls.{Named, round_page_up_call, round_page_down_call, get_page_indices_call, memory_call, numbers_call, load_data_call, track_pages_call, untrack_pages_call, store_bytes_call, mark_program_call, page_record_call, make_snapshot_call, resume, Answers, Given, named, clear_flag_call, fresh_call, AnswerTo, Told, line, numbers, said_numbers, said, told}

-- the first part of an answer
first : List (List ℕ) → List ℕ
first [] = []
first (l ∷ ls) = l

-- and the second
second : List (List ℕ) → List ℕ
second [] = []
second (l ∷ ls) = first ls

number_once : (x y : ℕ) → numbers x [] ≡ numbers y [] → x ≡ y
number_once x y e = ap (λ (t : Told). t.number) e

value_once : (x y : ℕ) → numbers 0 (x ∷ []) ≡ numbers 0 (y ∷ []) → x ≡ y
value_once x y e = ap (λ (t : Told). get_or t.values 0 0) e

valued_once : (x y : Valued) → numbers x.number (x.value ∷ []) ≡ numbers y.number (y.value ∷ []) → x ≡ y
valued_once x y e = λ i. record { number = (e i).number; value = get_or (e i).values 0 0 }

output_once : (x y : Output) (k l : List (List ℕ))
    → line x.number (x.value ∷ []) (x.bytes ∷ []) k ≡ line y.number (y.value ∷ []) (y.bytes ∷ []) l → x ≡ y
unfolding first
output_once x y k l e = λ i. record { number = (e i).number; value = get_or (e i).values 0 0; bytes = first (e i).parts }

numbers_once : (o : machine.Op) (x y : machine.Reply o) → said_numbers o x ≡ said_numbers o y → x ≡ y
numbers_once machine.registers? x y e = ap (λ (t : Told). t.values) e
numbers_once (machine.registers! l) x y e = number_once x y e
numbers_once (machine.register? i) x y e = valued_once x y e
numbers_once (machine.register! i v) x y e = number_once x y e
numbers_once machine.pc? x y e = value_once x y e
numbers_once (machine.pc! v) x y e = number_once x y e
numbers_once machine.commit! x y e = number_once x y e
numbers_once machine.version? x y e = value_once x y e
numbers_once machine.cycles? x y e = value_once x y e
numbers_once (machine.cycles! v) x y e = number_once x y e
numbers_once machine.max_cycles? x y e = value_once x y e
numbers_once (machine.max_cycles! v) x y e = number_once x y e

pub said_once : (c : Named) (x y : Answers c) → said c x ≡ said c y → x ≡ y
unfolding first second
said_once (round_page_up_call a) x y e = value_once x y e
said_once (round_page_down_call a) x y e = value_once x y e
said_once (get_page_indices_call a n) x y e = λ i.
    record { number = (e i).number; first = get_or (e i).values 0 0; last = get_or (e i).values 1 0 }
said_once (memory_call c) x y e = memory.said_once c x y (output_once _ _ _ _ e)
said_once (numbers_call o) x y e = numbers_once o x y e
said_once (load_data_call directory sources id offset wanted) x y e = λ i.
    record {
      place =
          record {
            number = (e i).number;
            start = get_or (e i).values 0 0;
            count = get_or (e i).values 1 0;
            full = get_or (e i).values 2 0;
          };
      bytes = first (e i).parts;
    }
said_once (track_pages_call start size id offset) x y e = number_once x y e
said_once (untrack_pages_call start size) x y e = number_once x y e
said_once (store_bytes_call directory sources a id offset wanted size_at) x y e = λ i.
    record { number = (e i).number; stored = get_or (e i).values 0 0; full = get_or (e i).values 1 0 }
said_once (mark_program_call actions id offset) x y e = number_once x y e
said_once (page_record_call p) x y e = λ i.
    record { number = (e i).number; page = get_or (e i).values 0 0; tracking = (e i).tracking }
said_once (make_snapshot_call file pages) x y e = λ i.
    record {
      number = (e i).number;
      records = get_or (e i).values 0 0;
      pages = get_or (e i).values 1 0;
      file = first (e i).parts;
      body = second (e i).parts;
    }
said_once (resume directory sources file page_file) x y e = number_once x y e

pub told_once : (g : Given) (x y : AnswerTo g) → told g x ≡ told g y → x ≡ y
told_once (named c) x y e = said_once c x y e
told_once (clear_flag_call p f) x y e = number_once x y e
told_once (fresh_call size version maximum) x y e = number_once x y e
