-- The size, the count, the first record, the register records, then the runs.
use Rattle.std.proofs.Common.{rules}
use Rattle.recordfile.proofs.WholeFile.{left-all, judged-cut, judged-few, judged-many, judged-none, judged-other, judged-runs, judged-registers}
use Rattle.recordfile.proofs.form.needed_pages.Goals as goal

pub returns-then-file-ne0 : goal.returns-then-file-ne0
returns-then-file-ne0 c = search (rules, judged-cut)

pub returns-then-count-lt-LEAST_RECORDS : goal.returns-then-count-lt-LEAST_RECORDS
returns-then-count-lt-LEAST_RECORDS c = search (rules, judged-few)

pub returns-then-count-gt-MOST_RECORDS : goal.returns-then-count-gt-MOST_RECORDS
returns-then-count-gt-MOST_RECORDS c = search (rules, judged-many)

pub returns-in_default : goal.returns-in_default
returns-in_default c = search (rules, left-all, judged-none, c.in_default.ensures)

pub returns-in_default-entry : goal.returns-in_default-entry
returns-in_default-entry c = search (rules, left-all, judged-other, c.in-Some.ensures)

pub returns-then-registers_stand : goal.returns-then-registers_stand
returns-then-registers_stand c = search (rules, left-all, judged-runs, c.in-Some.ensures)

pub returns-else-registers_stand : goal.returns-else-registers_stand
returns-else-registers_stand c = search (rules, left-all, judged-registers, c.in-Some.ensures)
