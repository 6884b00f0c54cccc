-- The page's words, then its flag.
use Rattle.std.proofs.Common.{rules}
use Rattle.tracking.proofs.PageRecords.{entry_none, entry_past, entry-dirty, entry-clean}
use Rattle.tracking.proofs.records.entry_at.Goals.{else-p-flags-via-then-p-flags+else-flags-p-ne0, else-p-flags-via-else-p-flags}
use Rattle.tracking.proofs.records.entry_at.Goals as goal

pub returns-then-p-records : goal.returns-then-p-records
returns-then-p-records c = search (rules, entry_none)

pub returns-then-flags-p-ne0 : goal.returns-then-flags-p-ne0
returns-then-flags-p-ne0 c = search (rules, entry-dirty)

pub returns : goal.returns
returns c =
    let a = c.args in elim c.else-p-flags.branch [
      | else-p-flags-via-then-p-flags+else-flags-p-ne0 w ↦ entry-clean a.flags.now a.records.now a.page _ c.read_record-found.ensures.1 w.if-flags-p-ne0.false
      | else-p-flags-via-else-p-flags w ↦ entry_past a.flags.now a.records.now a.page _ c.read_record-found.ensures.1 w.if-p-flags.false
    ]
