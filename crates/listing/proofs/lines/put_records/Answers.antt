-- Invariant: the lines of the records that are left, written from here on, make the whole.
use Rattle.std.proofs.Common.{rules}
use Rattle.recordfile.proofs.FileRecords.{length-records_from}
use Rattle.listing.proofs.Text.{going_next, going_fits, going_done, going_room}
use Rattle.listing.proofs.lines.put_records.Goals as goal

pub put_record-requires : goal.put_record-requires
put_record-requires c = search (rules, going_fits, length-records_from, c.in-Some.ensures)

pub loop-entry-preserved : goal.loop-entry-preserved
loop-entry-preserved c = search (rules, going_next, c.in-Some.ensures)

pub returns-clause-wrote : goal.returns-clause-wrote
returns-clause-wrote c = search (rules, going_done, c.in-None.ensures)

pub returns-clause-upper_bound : goal.returns-clause-upper_bound
returns-clause-upper_bound c = search (rules, going_room, length-records_from, c.in-None.ensures)
