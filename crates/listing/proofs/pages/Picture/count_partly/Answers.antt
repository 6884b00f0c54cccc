-- Invariant: the runs counted and those that are left come to all.
use Rattle.std.proofs.Common.{rules}
use Rattle.recordfile.proofs.FileRecords.{length-records_from}
use Rattle.listing.proofs.Counted.{running_next, running_past, running_fits, running_done}
use Rattle.listing.proofs.pages.Picture.count_partly.Goals as goal

pub overflow_add-runs : goal.overflow_add-runs
overflow_add-runs c = search (rules, running_fits, length-records_from, c.in-Some.ensures)

pub loop-entry-preserved : goal.loop-entry-preserved
loop-entry-preserved c = search (rules, running_past, c.in-Some.ensures)

pub loop-entry-preserved-then-partly_by : goal.loop-entry-preserved-then-partly_by
loop-entry-preserved-then-partly_by c = search (rules, running_next, c.in-Some.ensures)

pub returns : goal.returns
returns c = search (rules, running_done, c.in-None.ensures)
