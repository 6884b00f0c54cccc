-- The pages passed are in no run. The measure is the pages left.
use Rattle.std.proofs.Common.{◌≡◌, ◌-◌}
use Rattle.snapshot.proofs.runs.RunsIterator.next.Given as goal

abbrev pub invariant-loop-page : goal.invariant-loop-page
invariant-loop-page g l =
    record {
      all : l.len ≡ g.P.Pages.size l.pages;
      kept : l.self.pages ≡ l.pages;
      so_far : g.P.Pages.runs l.pages l.fn.self.at ≡ g.P.Pages.runs l.pages l.page;
    }

abbrev pub decreases-loop-page : goal.decreases-loop-page
decreases-loop-page g l = l.len - l.page
