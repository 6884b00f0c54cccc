-- The machine's numbers, then the runs.
use Rattle.snapshot.proofs.Files.{runs-filed, file-written, pages_written}
use Rattle.snapshot.proofs.make.write_files.Goals as goal

pub returns-clause-file : goal.returns-clause-file
returns-clause-file c =
    file-written _ _ _ _ _ _ _ c.args.machine c.write_head.ensures
    (runs-filed _ _ _ _ _ _ _ _ c.requires.sources_are c.write_sources.ensures c.write_dirty.ensures.file)

pub returns-clause-pages : goal.returns-clause-pages
returns-clause-pages c = pages_written _ _ _ c.args.tracked.records.now _ _ c.args.machine c.write_dirty.ensures.pages
