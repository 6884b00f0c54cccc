-- THE HANDOVER THEOREM, proved: specs/Theorem.antt states it.
use mathlib.Core.Path.{◌≡◌, refl, sym, ap, ap₂, ◌∙◌, subst}
use mathlib.Core.Bool.{Bool, true, false, cond}
use mathlib.Core.List.{List, [], ◌∷◌, map}
use Prim.Native.Nat.{ℕ, zero, suc, ◌+◌, ◌-◌, ◌*◌, ◌/◌, ◌≤◌, ◌<◌}
use native.Mathlib.Decide.{ℕ_discrete}
use native.Mathlib.Omega.{arith}
use lib.ListN.{length}
use borrow.Author.Tests.{eq-eqb, le-leb, lt-ltb, ne_eqb}
use Rattle.bits.specs.Rounding.{page_size}
use Rattle.words.specs.LittleEndian.{Small}
use Rattle.program.specs.Program.{ret, run, onwards, along}
use Rattle.program.specs.Layers.{beside}
use Rattle.program.proofs.Lifted.{lift-run}
use Rattle.program.proofs.Like.{Like}
use Rattle.memory.specs.Storage.{State, absent, slot_in, met}
use Rattle.memory.specs.View as memory
use Rattle.machine.specs.Fresh.{LentMachine, fresh}
use Rattle.machine.specs.Numbers.{Numbers, machine_of, fresh_numbers}
use Rattle.machine.specs.Operations as machine
use Rattle.machine.specs.declared.Machine.{Machine}
use Rattle.recordfile.specs.Words.{record_bytes}
use Rattle.recordfile.specs.Form.{least_records, in_form}
use Rattle.recordfile.specs.Snapshots.{Snapshot, records_of, file_of, page_file_of, snapshot_in, Word, Each, Ranged}
use Rattle.recordfile.proofs.RoundTrip as files
use Rattle.tracking.specs.Operations.{entry_in}
use Rattle.snapshot.specs.Runs.{Run, flag_at, dirty_runs, source_runs, dirty_from, sources_from}
use Rattle.snapshot.specs.MakeSnapshot.{Made, not_made, holds, laid_out}
use Rattle.snapshot.specs.Answers.{met_run, tally, dirty_out}
use Rattle.snapshot.specs.Resume as snapshot
use Rattle.snapshot.proofs.Bounds.{DirtyFits, Fits, dirty-fit, ranged-now, fronts_are}
use Rattle.snapshot.proofs.TakenNow.{made-now}
use Rattle.snapshot.proofs.Merged.{runs_bound}
use Rattle.snapshot.proofs.Answered.{length-pages, length-file, out-short, out-held}
use Rattle.handover.specs.View.{View, view, does_v, MachineView, view_machine, FormedMachine, WholeMachine, machine_does_v}
use Rattle.handover.specs.Calls.{Given, named, resume}
use Rattle.handover.specs.Reached.{Reached}
use Rattle.handover.specs.Sound.{SoundPages}
use Rattle.handover.specs.Hosts.{Stopped, FreshHost, LongEnough, machine_snapshot, snapped, record_file_left, page_file_left, resumed, Agree}
use Rattle.handover.specs.Theorem.{HandedOver, ReadsBack, Theorem}
use Rattle.handover.proofs.WellFormed.{lengths_reply, machine-lengths, fresh-done}
use Rattle.handover.proofs.Seen.{blank, fresh-seen, machine-seen}
use Rattle.handover.proofs.Reaching.{reached-formed, reached-whole, reached-fresh, reached_then}
use Rattle.handover.proofs.InTypes.{InTypes, reached_in_types}
use Rattle.handover.proofs.Restoring.{read_seen, restored}
use Rattle.handover.proofs.Agreeing.{seen-agree, further, view_right}

-- ---- a snapshot of a machine that our calls reached

-- the dirty pages of well-formed storage are met
module _ (s : State) (w : memory.WellFormed s) where
  page-met : (p : ℕ) → p < length s.slots → met s.slots s.memory.used p ≡ 0
  unfolding met
  page-met p h = elim (ℕ_discrete (slot_in s.slots p) absent) [
    | yes e ↦ rw (lt-ltb p _ h, eq-eqb (slot_in s.slots p) absent e)
    | no n ↦ rw (lt-ltb p _ h, ne_eqb (slot_in s.slots p) absent n, lt-ltb (slot_in s.slots p) s.memory.used (w.held p n))
  ]

  pages-met : (n p : ℕ) → p + n ≤ length s.slots → met_run s.slots s.memory.used n p ≡ 0
  unfolding met_run
  pages-met zero p h = refl
  pages-met (suc n) p h = rw (page-met p (omega arith)) (pages-met n (p + 1) (omega arith))

  runs-met : (rs : List Run) (r n : ℕ) → Each (DirtyFits (length s.slots)) rs → (tally s.slots s.memory.used r n rs).number ≡ 0
  unfolding tally Each
  runs-met [] r n e = refl
  runs-met (x ∷ rs) r n e = rw (pages-met x.pages x.page e.0.within) (runs-met rs (r + 1) (n + x.pages) e.1)

module _ (m : LentMachine) (r : Reached m) where
  abbrev formed : FormedMachine m
  formed = reached-formed m r

  abbrev typed : InTypes m
  typed = reached_in_types m r

  ranged : Ranged (machine_snapshot m)
  ranged = ranged-now m.0.0.slots m.0.0.flags m.0.0.area m.0.1 _ formed.memory.fit typed.typed

  dirty-within : Fits (length m.0.0.flags) (length m.0.0.flags) (dirty_from m.0.0.flags 0)
  dirty-within = dirty-fit m.0.0.flags typed.typed.flag_bytes

  all-met : (tally m.0.0.slots m.0.0.memory.used 0 0 (dirty_from m.0.0.flags 0)).number ≡ 0
  all-met =
      let e : length m.0.0.flags ≡ length m.0.0.slots = formed.memory.fit.flags_are ∙ sym formed.memory.fit.slots_are in
      runs-met m.0.0 formed.memory (dirty_from m.0.0.flags 0) 0 0
      (subst (λ (n : ℕ). Each (DirtyFits n) (dirty_from m.0.0.flags 0)) e dirty-within.each)

  -- "There are at most 9 + pages records.": OUTPUTS THAT ARE ALWAYS LONG ENOUGH
  pub always-enough : (file pages : List ℕ) → (least_records + m.0.0.memory.size / page_size) * record_bytes ≤ length file
      → m.0.0.memory.size ≤ length pages → LongEnough m file pages
  unfolding holds
  always-enough file pages f p =
      let fit = formed.memory.fit in
      let x : Machine = machine_of m.1 m.0.0.memory in
      let a : length (file_of (machine_snapshot m)) ≤ length file =
      omega (
        arith,
        length-file m.0.0.slots m.0.0.flags m.0.0.area m.0.1 x,
        runs_bound m.0.0.flags m.0.1,
        fit.flags_are,
      ) in
      let b : length (page_file_of (machine_snapshot m)) ≤ length pages =
      omega (
        arith,
        length-pages m.0.0.slots m.0.0.flags m.0.0.area m.0.1 x,
        dirty-within.in_all,
        fit.flags_are,
        fit.whole,
      ) in
      rw (le-leb _ _ a, le-leb _ _ b)

  module _ (file pages : List ℕ) where
    -- the snapshot is laid out, and the machine was only read
    snapped-is : snapped m file pages ≡ (laid_out (length file) (length pages) (machine_snapshot m), m)
    snapped-is =
        sym
        (made-now m.0.0.slots m.0.0.flags m.0.0.area m.0.1 (machine_of m.1 m.0.0.memory) true
        (sym (lengths_reply m.0 formed)) (length file) (length pages) refl 0 true (sym all-met) refl refl)

    made-is : (snapped m file pages).0 ≡ laid_out (length file) (length pages) (machine_snapshot m)
    made-is = ap (λ (x : Made × LentMachine). x.0) snapped-is

    -- what is made where the outputs hold it
    abbrev whole : Made
    whole =
        record {
          number = 0;
          records = length (records_of (machine_snapshot m));
          pages = length (page_file_of (machine_snapshot m)) / page_size;
          file = file_of (machine_snapshot m);
          body = page_file_of (machine_snapshot m);
        }

    enough-made : LongEnough m file pages → (snapped m file pages).0 ≡ whole
    enough-made e = made-is ∙ sym (out-held (length file) (length pages) (machine_snapshot m) e)

    -- it is done only where they do
    done-made : (snapped m file pages).0.number ≡ 0 → (snapped m file pages).0 ≡ whole
    done-made d = go (holds (length file) (length pages) (machine_snapshot m)) refl
      where
        go : (b : Bool) → holds (length file) (length pages) (machine_snapshot m) ≡ b → (snapped m file pages).0 ≡ whole
        go true e = enough-made e
        go false e =
            let z : (snapped m file pages).0 ≡ not_made 8 = made-is ∙ sym (out-short (length file) (length pages) (machine_snapshot m) e) in
            let n : (snapped m file pages).0.number ≡ 8 = ap (λ (x : Made). x.number) z in
            absurd (omega (arith, d, n))

    -- THE FILES OF A SNAPSHOT READ BACK TO IT
    pub read_back : (snapped m file pages).0.number ≡ 0 → ReadsBack m file pages
    read_back d =
        let fronts = fronts_are m.0.0.slots m.0.0.flags m.0.0.area m.0.1 (machine_of m.1 m.0.0.memory) file pages d in
        let a : record_file_left m file pages ≡ file_of (machine_snapshot m) = fronts.0 ∙ ap (λ (x : Made). x.file) (done-made d) in
        let b : page_file_left m file pages ≡ page_file_of (machine_snapshot m) = fronts.1 ∙ ap (λ (x : Made). x.body) (done-made d) in
        let back = files.read_back (machine_snapshot m) ranged in
        record {
          record_file = a;
          page_file = b;
          file_formed = ap₂ (λ (f p : List ℕ). in_form f (length p)) a b ∙ back.0;
          same_snapshot = ap₂ snapshot_in a b ∙ back.1;
        }

-- ---- a snapshot restored

module _ (directory sources : List ℕ) (m : LentMachine) (stopped : Stopped directory sources m) where
  abbrev seen : View
  seen = view m.0

  pages-restored : run does_v (snapshot.restore_pages directory sources (machine_snapshot m)) (blank m.0.0.memory.size) ≡ (0, seen)
  unfolding sources_from dirty_out dirty_from
  pages-restored =
      let fit = (reached-formed m stopped.sound.reached).memory.fit in
      let e : length m.0.0.flags - 0 ≡ m.0.0.memory.size / page_size = omega (arith, fit.flags_are) in
      restored directory sources seen (view_right directory sources m stopped.sound) (machine_snapshot m)
      (ap (λ (n : ℕ). source_runs 0 (along (entry_in m.0.0.flags m.0.1) n 0)) e)
      (ap (λ (n : ℕ). map (read_seen seen.memory.byte) (dirty_runs 0 (along (flag_at m.0.0.flags) n 0))) e)
      refl

  -- the numbers, and beside them the pages
  machine-restored : (numbers : Numbers) → numbers.version ≡ m.1.version
      → run machine_does_v (snapshot.restore directory sources (machine_snapshot m)) (blank m.0.0.memory.size, numbers)
      ≡ (0, view_machine m)
  unfolding run snapshot.restore snapshot.restore_numbers
  machine-restored numbers v =
      let settles : m.1.pc ≡ m.1.next_pc = sym stopped.settled in
      lift-run does_v (beside machine.does) (snapshot.restore_pages directory sources (machine_snapshot m)) (blank m.0.0.memory.size) _
      ∙ (λ i. (
        (pages-restored i).0,
        (
          (pages-restored i).1,
          record {
            registers = m.1.registers;
            pc = m.1.pc;
            next_pc = settles i;
            version = v i;
            cycles = m.1.cycles;
            max_cycles = m.1.max_cycles;
          },
        ),
      ))

  -- two files that hold the snapshot, resumed on a blank machine of the same version
  resumed-seen : (file page_file_left : List ℕ) → in_form file (length page_file_left) ≡ 0 → snapshot_in file page_file_left ≡ machine_snapshot m
      → (numbers : Numbers) → numbers.version ≡ m.1.version
      → run machine_does_v (snapshot.resume directory sources file page_file_left) (blank m.0.0.memory.size, numbers) ≡ (0, view_machine m)
  unfolding run snapshot.resume snapshot.resume_from
  resumed-seen file page_file_left ok same numbers v =
      let from : MachineView = (blank m.0.0.memory.size, numbers) in
      ap {B = ℕ × MachineView}
      (λ (n : ℕ). run machine_does_v (onwards (λ n. n) (snapshot.resume_from directory sources (snapshot_in file page_file_left)) n) from)
      ok
      ∙ ap {B = ℕ × MachineView} (λ (s : Snapshot). run machine_does_v (snapshot.resume_from directory sources s) from) same
      ∙ ap {B = ℕ × MachineView}
      (λ (b : Bool). run machine_does_v (cond b (snapshot.restore directory sources (machine_snapshot m)) (ret 1)) from)
      (eq-eqb numbers.version m.1.version v)
      ∙ machine-restored numbers v

  -- ---- on a fresh machine

  module _ (n : LentMachine) (host : FreshHost m n) where
    abbrev made : ℕ × LentMachine
    made = fresh host.slots host.flags host.area host.records m.0.0.memory.size m.1.version host.maximum

    made-done : made.0 ≡ 0
    made-done = ap (λ (x : ℕ × LentMachine). x.0) host.made

    made-left : made.1 ≡ n
    made-left = ap (λ (x : ℕ × LentMachine). x.1) host.made

    host-reached : Reached n
    host-reached =
        subst Reached made-left
        (reached-fresh host.slots host.flags host.area host.records m.0.0.memory.size m.1.version host.maximum
        made-done
        (reached_in_types m stopped.sound.reached).typed.version_small
        host.maximum_word)

    host-roomy : memory.Roomy n.0.0
    host-roomy =
        subst (λ (x : LentMachine). memory.Roomy x.0.0) made-left
        (rw (fresh-done host.slots host.flags host.area host.records m.0.0.memory.size m.1.version host.maximum made-done)
        (omega (arith, host.as_many_slots, stopped.roomy)))

    host-seen : view_machine n ≡ (blank m.0.0.memory.size, fresh_numbers m.1.version host.maximum)
    host-seen =
        sym (ap view_machine made-left)
        ∙ fresh-seen host.slots host.flags host.area host.records m.0.0.memory.size m.1.version host.maximum made-done

    module _ (file pages : List ℕ) (enough : LongEnough m file pages) where
      done : (snapped m file pages).0.number ≡ 0
      done = ap (λ (x : Made). x.number) (enough-made m stopped.sound.reached file pages enough)

      back : ReadsBack m file pages
      back = read_back m stopped.sound.reached file pages done

      abbrev call : Given
      call = named (resume directory sources (record_file_left m file pages) (page_file_left m file pages))

      abbrev second : LentMachine
      second = (resumed directory sources m n file pages).1

      like : Like WholeMachine view_machine (resumed directory sources m n file pages) (0, view_machine m)
      like =
          subst (Like WholeMachine view_machine (resumed directory sources m n file pages))
          (ap {B = ℕ × MachineView}
          (run machine_does_v (snapshot.resume directory sources (record_file_left m file pages) (page_file_left m file pages)))
          host-seen
          ∙ resumed-seen (record_file_left m file pages) (page_file_left m file pages) back.file_formed back.same_snapshot
          (fresh_numbers m.1.version host.maximum)
          refl)
          (machine-seen (snapshot.resume directory sources (record_file_left m file pages) (page_file_left m file pages)) n
          (reached-whole n host-reached host-roomy))

      second-reached : Reached second
      second-reached =
          reached_then n host-reached call tt (
            subst Small (sym back.record_file) (files.small-file_of (machine_snapshot m)),
            subst (λ (p : List ℕ). Word (length p)) (sym back.page_file) (ranged m stopped.sound.reached).pages_word,
          )

      second-roomy : memory.Roomy second.0.0
      second-roomy =
          let e = (machine-lengths (snapshot.resume directory sources (record_file_left m file pages) (page_file_left m file pages)) n).memory in
          omega (arith, e.size, e.area, host-roomy)

      agreed : Agree m second
      agreed = seen-agree m second like.seen

      second-stopped : Stopped directory sources second
      second-stopped =
          record {
            sound =
                record {
                  reached = second-reached;
                  pages = subst (SoundPages directory sources) (ap (λ (v : MachineView). v.0) (sym like.seen)) stopped.sound.pages;
                };
            roomy = second-roomy;
            settled = subst (λ (x : Numbers). x.next_pc ≡ x.pc) (sym agreed.numbers) stopped.settled;
          }

      -- THE HANDOVER
      handed : HandedOver directory sources m n file pages
      handed =
          record {
            snapshot_done = done;
            first_unchanged = ap (λ (x : Made × LentMachine). x.1) (snapped-is m stopped.sound.reached file pages);
            resume_done = like.out;
            agree = agreed;
            answer_alike = further m second stopped.sound.reached second-reached stopped.roomy second-roomy agreed;
            stopped_again = second-stopped;
          }

pub theorem : Theorem
theorem =
    record {
      handover = λ directory sources m n file pages stopped host enough. handed directory sources m stopped n host file pages enough;
      further = further;
      read_back = read_back;
      written_again = files.written_again;
    }
