-- The run so far, before the runs from the next page on, is the run from its first page on.
use Rattle.std.proofs.Common.{◌≡◌}
use Rattle.snapshot.proofs.runs.whole.Given as goal

abbrev pub invariant-loop-next : goal.invariant-loop-next
invariant-loop-next g l =
    record {
      ends : g.P.Pages.Ends l.run l.next;
      so_far : g.P.Pages.before l.run (g.P.Pages.runs l.pages l.next) ≡ g.P.Pages.before l.fn.run (g.P.Pages.runs l.pages l.fn.after);
    }
