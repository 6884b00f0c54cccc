-- The record of the run, then a load of its pages into their part of the page file.
use Rattle.std.proofs.Common.{rules}
use Rattle.snapshot.proofs.Writing.{run_filed, run_laid}
use Rattle.snapshot.proofs.make.write_run.Goals as goal

pub returns-clause-file : goal.returns-clause-file
returns-clause-file c = search (rules, run_filed)

pub returns-clause-pages : goal.returns-clause-pages
returns-clause-pages c = search (rules, run_laid)
