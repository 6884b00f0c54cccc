-- There are no more runs than pages.
use Rattle.std.proofs.Common.{rules, arith, ◌<◌, ◌^◌, length}
use Rattle.snapshot.specs.Runs.{sources_from}
use Rattle.snapshot.proofs.Merged.{runs_bound}
use Rattle.snapshot.proofs.make.count_sources.Goals as goal

pub count-requires-clause-fits : goal.count-requires-clause-fits
count-requires-clause-fits c =
    let n : length (sources_from c.new.result.pages.flags.now c.new.result.pages.records.now c.new.result.at) < 2 ^ 64 =
    rw (c.new.ensures.pages, c.new.ensures.first) (omega (arith, runs_bound c.args.source_pages.flags.now c.args.source_pages.records.now)) in
    search (rules, arith)
