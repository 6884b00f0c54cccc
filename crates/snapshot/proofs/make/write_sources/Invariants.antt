-- The source runs that are left, from their record on, make all of them.
use Rattle.std.proofs.Common.{◌≡◌, ◌+◌}
use Rattle.snapshot.specs.Runs.{sources_from}
use Rattle.snapshot.proofs.Files.{WritingSources}
use Rattle.snapshot.proofs.make.write_sources.Given as goal

abbrev pub invariant-loop-at : goal.invariant-loop-at
invariant-loop-at l =
    record {
      end : l.at-iterator.a.end ≡ l.from + l.count;
      writing : WritingSources
          l.fn.source_pages.flags.now
          l.fn.source_pages.records.now
          l.initial.file
          l.from
          l.count
          l.file
          l.at-iterator.a.start
          (sources_from l.at-iterator.b.pages.flags.now l.at-iterator.b.pages.records.now l.at-iterator.b.at);
    }
