-- The runs that are left, from their record and their page on, make both files.
use Rattle.std.proofs.Common.{◌≡◌, ◌+◌}
use Rattle.snapshot.specs.Runs.{dirty_from}
use Rattle.snapshot.specs.Answers.{SameOutputs}
use Rattle.snapshot.proofs.Files.{WritingDirty}
use Rattle.snapshot.proofs.make.write_dirty.Given as goal

abbrev pub invariant-loop-at : goal.invariant-loop-at
invariant-loop-at l =
    record {
      end : l.at-iterator.a.end ≡ l.from + l.count;
      writing : WritingDirty
          l.lent.slots.now
          l.lent.flags.now
          l.lent.area.now
          l.initial.outputs.file.now
          l.initial.outputs.pages.now
          l.memory
          l.from
          l.count
          l.outputs.file.now
          l.outputs.pages.now
          l.at-iterator.a.start
          l.place
          (dirty_from l.at-iterator.b.pages.flags.now l.at-iterator.b.at);
      same : SameOutputs l.initial.outputs l.outputs;
    }
