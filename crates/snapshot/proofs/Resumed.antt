-- Resume, stage by stage: tracking dropped, the machine's numbers set, the runs and the reservation; and the tests before those.
use mathlib.Core.Path.{◌≡◌, refl, sym, ap, ◌∙◌}
use mathlib.Core.Bool.{Bool, true, false, cond}
use mathlib.Core.List.{List}
use Prim.Native.Nat.{ℕ}
use lib.ListN.{length}
use lib.Dec.{eqb}
use borrow.Author.Tests.{eq-eqb, ne_eqb}
use Rattle.words.specs.Bytes.{filled}
use Rattle.outcome.specs.Numbers.{refusal_number}
use Rattle.outcome.specs.declared.Refusal.{Refusal}
use Rattle.program.specs.Program.{ret, run, onwards}
use Rattle.program.specs.Layers.{beside, lift}
use Rattle.program.proofs.Laws.{then_done, then_stop}
use Rattle.program.proofs.Lifted.{lifted}
use Rattle.memory.specs.declared.Memory.{Memory}
use Rattle.memory.specs.Storage.{state_of, reserved}
use Rattle.memory.specs.Sparse as sparse
use Rattle.memory.proofs.Refused.{refused}
use Rattle.machine.specs.declared.Machine.{Machine}
use Rattle.machine.specs.Operations as machine
use Rattle.machine.specs.Numbers.{numbers_of, machine_of, with_registers, update_pc, commit_pc, set_cycles, set_max_cycles}
use Rattle.machine.specs.Fresh.{Tracked, LentMachine}
use Rattle.recordfile.specs.declared.Record.{Record}
use Rattle.recordfile.specs.Form.{in_form}
use Rattle.recordfile.specs.Snapshots.{Snapshot, snapshot_in}
use Rattle.tracking.specs.Operations.{MachineCall, does, machine_does, on_memory, fits_tracked}
use Rattle.tracking.specs.Answers.{tracked_of}
use Rattle.snapshot.specs.declared.resume.Kept as code-kept
use Rattle.snapshot.specs.Resume.{restore_pages, restore_numbers, restore, resume_from, resume}
use Rattle.snapshot.specs.Answers.{lent_of, snapshot_left}
use Rattle.snapshot.proofs.RestoredRuns.{runs_in}

-- ---- tracking dropped, the numbers set, the runs, and last the reservation
module _ (directory sources page_file : List ℕ) (k : code-kept.Kept) (registers : List ℕ) (rs : List Record)
    (slots flags area records untracked : List ℕ) (m m₁ m₂ m₃ m₄ m₅ : Machine) (u : untracked ≡ filled (length records) 0)
    (e₁ : m₁ ≡ machine_of (with_registers registers (numbers_of m)) m.memory)
    (e₂ : m₂ ≡ machine_of (update_pc k.pc (numbers_of m₁)) m₁.memory)
    (e₃ : m₃ ≡ machine_of (commit_pc (numbers_of m₂)) m₂.memory)
    (e₄ : m₄ ≡ machine_of (set_cycles k.cycles (numbers_of m₃)) m₃.memory)
    (e₅ : m₅ ≡ machine_of (set_max_cycles k.maximum (numbers_of m₄)) m₄.memory) where
  abbrev whole : Snapshot
  whole = snapshot_left k registers page_file rs

  -- a machine's numbers set to those of a snapshot
  abbrev told : Machine
  told =
      machine_of
      (set_max_cycles k.maximum (set_cycles k.cycles (commit_pc (update_pc k.pc (with_registers registers (numbers_of m))))))
      m.memory

  abbrev machine_then : ℕ × LentMachine
  machine_then = run machine_does (restore directory sources whole) (lent_of slots flags area records m)

  pages_then : (n : ℕ) (t : Tracked) → (n, t) ≡ run does (restore_pages directory sources whole) (tracked_of slots flags area untracked m₅.memory)
      → (n, (t, numbers_of m₅)) ≡ machine_then
  unfolding run restore restore_numbers
  pages_then n t e =
      let z : m₅ ≡ told = rw (e₅, e₄, e₃, e₂, e₁) in
      lifted does (beside machine.does) (restore_pages directory sources whole) (tracked_of slots flags area untracked m₅.memory) (numbers_of m₅) n t e
      ∙ ap (λ (y : LentMachine). run machine_does (lift (restore_pages directory sources whole)) y)
      (rw (u, z) (refl {a = lent_of slots flags area (filled (length records) 0) told}))

  abbrev runs_then : ℕ × Tracked
  runs_then = run does (runs_in directory sources page_file rs) (tracked_of slots flags area untracked m₅.memory)

  pub machine_refused : (x : Refusal) (t : Tracked) → (refusal_number x, t) ≡ runs_then → (refusal_number x, (t, numbers_of m₅)) ≡ machine_then
  unfolding restore_pages
  machine_refused x t e =
      pages_then _ t (then_stop does _ (on_memory (sparse.set_lr k.reservation)) _ _ t false e (refused x) refl)

  pub machine_restored : (t : Tracked) (memory : Memory) → (0, t) ≡ runs_then → memory ≡ reserved t.0.memory k.reservation
      → (0, ((state_of t.0.slots t.0.flags t.0.area memory, t.1), numbers_of m₅)) ≡ machine_then
  unfolding run lift sparse.set_lr restore_pages
  machine_restored t memory e q =
      pages_then 0 (state_of t.0.slots t.0.flags t.0.area memory, t.1)
      (then_done does (runs_in directory sources page_file rs) (on_memory (sparse.set_lr k.reservation)) _ 0 t true _ e refl refl (rw q))

-- ---- the tests
module _ (directory sources file pages : List ℕ) (s : LentMachine) (b : Bool) (f : b ≡ fits_tracked s.0) where
  abbrev resumed : ℕ × LentMachine
  resumed = run machine_does (resume directory sources file pages) s

  abbrev later : MachineCall ℕ
  later = resume_from directory sources (snapshot_in file pages)

  fitted : (c : Bool) → c ≡ b → run machine_does (cond c (onwards (λ n. n) later (in_form file (length pages))) (ret 9)) s ≡ resumed
  unfolding run resume
  fitted c t =
      ap (λ (x : Bool). run machine_does (cond x (onwards (λ n. n) later (in_form file (length pages))) (ret 9)) s) (t ∙ f)

  pub resume_unfit : b ≡ false → (9, s) ≡ resumed
  unfolding run
  resume_unfit t = fitted false (sym t)

  module _ (t : b ≡ true) (n : ℕ) (e : n ≡ in_form file (length pages)) where
    formed : (c : Bool) → c ≡ eqb n 0 → run machine_does (cond c later (ret n)) s ≡ resumed
    formed c i =
        ap (λ (x : Bool). run machine_does (cond x later (ret n)) s) i
        ∙ ap (λ (x : ℕ). run machine_does (onwards (λ n. n) later x) s) e
        ∙ fitted true (sym t)

    pub resume-malformed : false ≡ eqb n 0 → (n, s) ≡ resumed
    unfolding run
    resume-malformed i = formed false i

    module _ (z : n ≡ 0) where
      versions : (v : ℕ) → (snapshot_in file pages).state.version ≡ v → (c : Bool) → c ≡ eqb s.1.version v
          → run machine_does (cond c (restore directory sources (snapshot_in file pages)) (ret 1)) s ≡ resumed
      unfolding run resume_from
      versions v q c i =
          ap (λ (x : Bool). run machine_does (cond x (restore directory sources (snapshot_in file pages)) (ret 1)) s)
          (i ∙ ap (eqb s.1.version) (sym q))
          ∙ formed true (rw z)

      pub resume-other : (v : ℕ) → (snapshot_in file pages).state.version ≡ v → (s.1.version ≡ v → ⊥) → (1, s) ≡ resumed
      unfolding run
      resume-other v q h = versions v q false (sym (ne_eqb s.1.version v h))

      pub resume-same : (x : Snapshot) → snapshot_in file pages ≡ x → s.1.version ≡ x.state.version
          → (r : ℕ × LentMachine) → r ≡ run machine_does (restore directory sources x) s → r ≡ resumed
      resume-same x q h r e =
          e
          ∙ ap (λ (y : Snapshot). run machine_does (restore directory sources y) s) (sym q)
          ∙ versions x.state.version (ap (λ (y : Snapshot). y.state.version) q) true (sym (eq-eqb s.1.version x.state.version h))
