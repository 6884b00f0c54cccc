-- An answer as it is told in a list of answers is the whole answer: two that are told alike are the same.
use Rattle.std.proofs.Common.{◌≡◌, ℕ, [], ap}
use Rattle.memory.specs.Storage.{Valued}
use Rattle.memory.specs.Sparse.{Output, output, no_output}
use Rattle.memory.specs.Calls.{Named, init_pages_call, fill_page_data_call, fetch_flag_call, set_flag_call, check_permission_call, set_dirty_call, memory_size_call, memory_pages_call, store_byte_call, store_bytes_call, store_wide_call, load_bytes_call, load_wide_call, execute_load_call, load_c_string_call, get_lr_call, set_lr_call, Answers, said, Given, named, clear_flag_call, AnswerTo, told}

number_once : (x y : ℕ) → no_output x ≡ no_output y → x ≡ y
number_once x y e = ap (λ (o : Output). o.number) e

value_once : (x y : ℕ) → output 0 x [] ≡ output 0 y [] → x ≡ y
value_once x y e = ap (λ (o : Output). o.value) e

valued_once : (x y : Valued) → output x.number x.value [] ≡ output y.number y.value [] → x ≡ y
valued_once x y e = λ i. record { number = (e i).number; value = (e i).value }

pub said_once : (c : Named) (x y : Answers c) → said c x ≡ said c y → x ≡ y
said_once (init_pages_call l a size flags lead source) x y e = number_once x y e
said_once (fill_page_data_call a size lead source) x y e = number_once x y e
said_once (fetch_flag_call p) x y e = valued_once x y e
said_once (set_flag_call p f) x y e = number_once x y e
said_once (check_permission_call first last want) x y e = number_once x y e
said_once (set_dirty_call first last) x y e = number_once x y e
said_once memory_size_call x y e = value_once x y e
said_once memory_pages_call x y e = value_once x y e
said_once (store_byte_call l a n v) x y e = number_once x y e
said_once (store_bytes_call l a bytes) x y e = number_once x y e
said_once (store_wide_call l n a v) x y e = number_once x y e
said_once (load_bytes_call a n out) x y e = e
said_once (load_wide_call n a) x y e = valued_once x y e
said_once (execute_load_call l n a) x y e = valued_once x y e
said_once (load_c_string_call a out) x y e = e
said_once get_lr_call x y e = value_once x y e
said_once (set_lr_call v) x y e = number_once x y e

pub told_once : (g : Given) (x y : AnswerTo g) → told g x ≡ told g y → x ≡ y
told_once (named c) x y e = said_once c x y e
told_once (clear_flag_call p f) x y e = number_once x y e
