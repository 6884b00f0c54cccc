-- The public calls on a memory as data: what each is given, what it answers, and its meaning, by the definitions that its promise
-- cites. An output is lent with its content: what is laid into it is part of the answer, and `left` is what it then holds.
use Rattle.std.specs.Prelude.{ℕ, List, [], ◌∷◌, length}
use Rattle.words.specs.Bytes.{written}
use Rattle.program.specs.Program.{run}
use Rattle.memory.specs.Storage.{State, Valued}
use Rattle.memory.specs.Operations.{Call, does}
use Rattle.memory.specs.Sparse.{Output, output, no_output, fetch_flag, set_flag, clear_flag, memory_size, memory_pages, lr, set_lr, check_permission, set_dirty, load_wide, load_bytes, load_c_string, fill_page_data}
use Rattle.memory.specs.Sparse as sparse
use Rattle.memory.specs.WXorX as wxorx

pub data Layer : Type 0 where
  on_sparse : Layer
  on_wxorx : Layer

-- every public call on a memory but fresh and clear_flag; n is a width in bytes, of store_number, load_number and execute_load
-- too. store, store_over and store_apart mean what store_bytes does; get_page_indices, storage_fits and meet are lent no memory
pub data Named : Type 0 where
  init_pages_call : Layer → ℕ → ℕ → ℕ → ℕ → List ℕ → Named
  fill_page_data_call : ℕ → ℕ → ℕ → List ℕ → Named
  fetch_flag_call : ℕ → Named
  set_flag_call : ℕ → ℕ → Named
  check_permission_call : ℕ → ℕ → ℕ → Named
  set_dirty_call : ℕ → ℕ → Named
  memory_size_call : Named
  memory_pages_call : Named
  store_byte_call : Layer → ℕ → ℕ → ℕ → Named
  store_bytes_call : Layer → ℕ → List ℕ → Named
  store_wide_call : Layer → ℕ → ℕ → ℕ → Named
  load_bytes_call : ℕ → ℕ → List ℕ → Named
  load_wide_call : ℕ → ℕ → Named
  execute_load_call : Layer → ℕ → ℕ → Named
  load_c_string_call : ℕ → List ℕ → Named
  get_lr_call : Named
  set_lr_call : ℕ → Named

abbrev pub Answers : Named → Type 0
Answers (init_pages_call l a size flags lead source) = ℕ
Answers (fill_page_data_call a size lead source) = ℕ
Answers (fetch_flag_call p) = Valued
Answers (set_flag_call p f) = ℕ
Answers (check_permission_call first last want) = ℕ
Answers (set_dirty_call first last) = ℕ
Answers memory_size_call = ℕ
Answers memory_pages_call = ℕ
Answers (store_byte_call l a n v) = ℕ
Answers (store_bytes_call l a bytes) = ℕ
Answers (store_wide_call l n a x) = ℕ
Answers (load_bytes_call a n out) = Output
Answers (load_wide_call n a) = Valued
Answers (execute_load_call l n a) = Valued
Answers (load_c_string_call a out) = Output
Answers get_lr_call = ℕ
Answers (set_lr_call x) = ℕ

abbrev pub program : (c : Named) → Call (Answers c)
program (init_pages_call on_sparse a size flags lead source) = fill_page_data a size lead source
program (init_pages_call on_wxorx a size flags lead source) = wxorx.init_pages a size flags lead source
program (fill_page_data_call a size lead source) = fill_page_data a size lead source
program (fetch_flag_call p) = fetch_flag p
program (set_flag_call p f) = set_flag p f
program (check_permission_call first last want) = check_permission first last want
program (set_dirty_call first last) = set_dirty first last
program memory_size_call = memory_size
program memory_pages_call = memory_pages
program (store_byte_call on_sparse a n v) = sparse.store_byte a n v
program (store_byte_call on_wxorx a n v) = wxorx.store_byte a n v
program (store_bytes_call on_sparse a bytes) = sparse.store_bytes a bytes
program (store_bytes_call on_wxorx a bytes) = wxorx.store_bytes a bytes
program (store_wide_call on_sparse n a x) = sparse.store_wide n a x
program (store_wide_call on_wxorx n a x) = wxorx.store_wide n a x
program (load_bytes_call a n out) = load_bytes a n (length out)
program (load_wide_call n a) = load_wide n a
program (execute_load_call on_sparse n a) = load_wide n a
program (execute_load_call on_wxorx n a) = wxorx.execute_load n a
program (load_c_string_call a out) = load_c_string a (length out)
program get_lr_call = lr
program (set_lr_call x) = set_lr x

-- an answer as a number of document 01's table, a value and bytes: 0 and none where a call answers no such thing. A call that
-- answers a value alone is done
abbrev pub said : (c : Named) → Answers c → Output
said (init_pages_call l a size flags lead source) n = no_output n
said (fill_page_data_call a size lead source) n = no_output n
said (fetch_flag_call p) v = output v.number v.value []
said (set_flag_call p f) n = no_output n
said (check_permission_call first last want) n = no_output n
said (set_dirty_call first last) n = no_output n
said memory_size_call n = output 0 n []
said memory_pages_call n = output 0 n []
said (store_byte_call l a n v) r = no_output r
said (store_bytes_call l a bytes) n = no_output n
said (store_wide_call l n a x) r = no_output r
said (load_bytes_call a n out) o = o
said (load_wide_call n a) v = output v.number v.value []
said (execute_load_call l n a) v = output v.number v.value []
said (load_c_string_call a out) o = o
said get_lr_call n = output 0 n []
said (set_lr_call x) n = no_output n

-- what a call leaves in the output that is lent to it; "output past the size stays", "the rest unchanged"
abbrev pub left : (c : Named) → Answers c → List (List ℕ)
left (init_pages_call l a size flags lead source) n = []
left (fill_page_data_call a size lead source) n = []
left (fetch_flag_call p) v = []
left (set_flag_call p f) n = []
left (check_permission_call first last want) n = []
left (set_dirty_call first last) n = []
left memory_size_call n = []
left memory_pages_call n = []
left (store_byte_call l a n v) r = []
left (store_bytes_call l a bytes) n = []
left (store_wide_call l n a x) r = []
left (load_bytes_call a n out) o = written out 0 o.bytes ∷ []
left (load_wide_call n a) v = []
left (execute_load_call l n a) v = []
left (load_c_string_call a out) o = written out 0 o.bytes ∷ []
left get_lr_call n = []
left (set_lr_call x) n = []

abbrev pub number_in : (c : Named) → Answers c → ℕ
number_in c x = (said c x).number

-- ---- calls in turn

-- one of the calls above, or a flag cleared
pub data Given : Type 0 where
  named : Named → Given
  clear_flag_call : ℕ → ℕ → Given

abbrev pub AnswerTo : Given → Type 0
AnswerTo (named c) = Answers c
AnswerTo (clear_flag_call p f) = ℕ

-- what a call answers and leaves
abbrev pub answer : (g : Given) → State → AnswerTo g × State
answer (named c) s = run does (program c) s
answer (clear_flag_call p f) s = clear_flag p f s

abbrev pub told : (g : Given) → AnswerTo g → Output
told (named c) x = said c x
told (clear_flag_call p f) n = no_output n

-- what calls answer one after another, and what they leave
unfoldable pub answers : List Given → State → List Output
answers [] s = []
answers (g ∷ gs) s = told g (answer g s).0 ∷ answers gs (answer g s).1

unfoldable pub leaves : List Given → State → State
leaves [] s = s
leaves (g ∷ gs) s = leaves gs (answer g s).1
