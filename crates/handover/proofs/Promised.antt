-- What a call answers and leaves in the theorem is what its promise says: the definition that the promise cites, run on what the call
-- is lent, beside all that it is not lent. A field for each public call on a machine, with the definition as src/ has it.
use mathlib.Core.Path.{◌≡◌, refl, ap, ◌∙◌}
use lib.ListN.{length}
use Rattle.program.specs.Program.{run}
use Rattle.program.specs.Layers.{beside, lift}
use Rattle.program.proofs.Lifted.{lift-run}
use Rattle.memory.specs.Operations as memory-op
use Rattle.memory.specs.Sparse.{fetch_flag, set_flag, clear_flag, memory_size, memory_pages, lr, set_lr, check_permission, set_dirty, fill_page_data, load_wide, load_bytes, load_c_string}
use Rattle.memory.specs.Sparse as sparse
use Rattle.memory.specs.WXorX as wxorx
use Rattle.machine.specs.Fresh.{Tracked, LentMachine}
use Rattle.machine.specs.Operations as machine
use Rattle.tracking.specs.Operations.{Call, does, owns, machine_does, on_memory}
use Rattle.tracking.specs.Tracking as tracking
use Rattle.handover.specs.Promised.{with_rest, with_numbers, Promised}

on_tracked : {A : Type 0} (g : Call A) (m : LentMachine) → run machine_does (lift g) m ≡ with_numbers m (run does g m.0)
on_tracked g m = lift-run does (beside machine.does) g m.0 m.1

on_pages : {A : Type 0} (g : memory-op.Call A) (m : LentMachine)
    → run machine_does (lift (on_memory g)) m ≡ with_rest m (run memory-op.does g m.0.0)
on_pages {A} g m =
    on_tracked (on_memory g) m ∙ ap (λ (r : A × Tracked). with_numbers m r) (lift-run memory-op.does owns g m.0.0 m.0.1)

pub promised : (m : LentMachine) → Promised m
unfolding run lift memory_size memory_pages lr set_lr
promised m =
    record {
      round_up = λ a. refl;
      round_down = λ a. refl;
      indices = λ a n. refl;
      check_permission_call = λ first last want. on_pages (check_permission first last want) m;
      set_dirty_call = λ first last. on_pages (set_dirty first last) m;
      fill_page_data_call = λ a size lead source. on_pages (fill_page_data a size lead source) m;
      sparse_init_pages = λ a size flags lead source. on_pages (fill_page_data a size lead source) m;
      wxorx_init_pages = λ a size flags lead source. on_pages (wxorx.init_pages a size flags lead source) m;
      fetch_flag_call = λ p. on_pages (fetch_flag p) m;
      set_flag_call = λ p f. on_pages (set_flag p f) m;
      clear_a_flag = λ p f. refl;
      memory_size_call = refl;
      memory_pages_call = refl;
      sparse_store_byte = λ a n v. on_pages (sparse.store_byte a n v) m;
      wxorx_store_byte = λ a n v. on_pages (wxorx.store_byte a n v) m;
      sparse_store_bytes = λ a bytes. on_pages (sparse.store_bytes a bytes) m;
      wxorx_store_bytes = λ a bytes. on_pages (wxorx.store_bytes a bytes) m;
      sparse_store_wide = λ n a x. on_pages (sparse.store_wide n a x) m;
      wxorx_store_wide = λ n a x. on_pages (wxorx.store_wide n a x) m;
      load_wide_call = λ n a. on_pages (load_wide n a) m;
      sparse_execute_load = λ n a. on_pages (load_wide n a) m;
      wxorx_execute_load = λ n a. on_pages (wxorx.execute_load n a) m;
      load_bytes_call = λ a n out. on_pages (load_bytes a n (length out)) m;
      load_bytes_output = λ a n out x. refl;
      load_c_string_call = λ a out. on_pages (load_c_string a (length out)) m;
      load_c_string_output = λ a out x. refl;
      get_lr_call = refl;
      set_lr_call = λ x. refl;
      make_a_fresh = λ size version maximum. refl;
      registers = refl;
      with_registers_call = λ l. refl;
      a_register = λ i. refl;
      set_register_call = λ i x. refl;
      pc = refl;
      update_pc_call = λ x. refl;
      commit_pc_call = refl;
      version = refl;
      cycles = refl;
      set_cycles_call = λ x. refl;
      max_cycles = refl;
      set_max_cycles_call = λ x. refl;
      data_loaded = λ directory sources id offset wanted. refl;
      pages_tracked = λ start size id offset. on_tracked (tracking.track_pages start size id offset) m;
      pages_untracked = λ start size. on_tracked (tracking.untrack_pages start size) m;
      context_stored = λ directory sources a id offset wanted size_at. on_tracked (tracking.store_bytes directory sources a id offset wanted size_at) m;
      program_marked = λ actions id offset. on_tracked (tracking.mark_program actions id offset) m;
      record_read = λ p. on_tracked (tracking.page_record p) m;
      snapshot_made = λ file pages. refl;
      snapshot_outputs = λ file pages x. refl;
      machine_resumed = λ directory sources file page_file. refl;
    }
