-- Each return is a case of `fetch_page`.
use Rattle.std.proofs.Common.{rules}
use Rattle.memory.proofs.OnePage.{page_bad, page-had}
use Rattle.memory.proofs.MadeReady.{past_but, past_ready, full_but, full_ready, taken_but, taken_ready, but_area, ready_as_it_was}
use Rattle.memory.proofs.Memory.fetch_page.Goals as goal

pub returns-then-page-self-clause-page_after : goal.returns-then-page-self-clause-page_after
returns-then-page-self-clause-page_after c = search (rules, past_but)

pub returns-then-page-self-clause-ready : goal.returns-then-page-self-clause-ready
returns-then-page-self-clause-ready c = search (rules, past_ready)

pub returns-then-slot-storage-clause-page_after : goal.returns-then-slot-storage-clause-page_after
returns-then-slot-storage-clause-page_after c = search (rules, full_but)

pub returns-then-slot-storage-clause-ready : goal.returns-then-slot-storage-clause-ready
returns-then-slot-storage-clause-ready c = search (rules, full_ready)

pub returns-then-found-eq-INVALID_PAGE_INDEX-clause-page_after : goal.returns-then-found-eq-INVALID_PAGE_INDEX-clause-page_after
returns-then-found-eq-INVALID_PAGE_INDEX-clause-page_after c = rw c.ready.ensures.slots (search (rules, taken_but))

pub returns-then-found-eq-INVALID_PAGE_INDEX-clause-ready : goal.returns-then-found-eq-INVALID_PAGE_INDEX-clause-ready
returns-then-found-eq-INVALID_PAGE_INDEX-clause-ready c = search (rules, taken_ready)

pub returns-then-found-self-clause-page_after : goal.returns-then-found-self-clause-page_after
returns-then-found-self-clause-page_after c = but_area _ _ _ _ _ _ (page_bad _ _ _ _ _ _ c.from-found.ensures (search rules) (search rules) (search rules) (search rules))

pub returns-then-found-self-clause-ready : goal.returns-then-found-self-clause-ready
returns-then-found-self-clause-ready c = ready_as_it_was _ _ _ _ _ _ (page_bad _ _ _ _ _ _ c.from-found.ensures (search rules) (search rules) (search rules) (search rules)) _ _ _

pub returns-clause-page_after : goal.returns-clause-page_after
returns-clause-page_after c = but_area _ _ _ _ _ _ (page-had _ _ _ _ _ _ c.from-found.ensures (search rules) (search rules) (search rules))

pub returns-clause-ready : goal.returns-clause-ready
returns-clause-ready c = ready_as_it_was _ _ _ _ _ _ (page-had _ _ _ _ _ _ c.from-found.ensures (search rules) (search rules) (search rules)) _ _ _
