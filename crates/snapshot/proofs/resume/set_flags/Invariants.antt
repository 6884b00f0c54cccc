-- Invariant: the pages that are left, with the flags as they are, come to what all come to with those at entry.
use Rattle.memory.specs.Lent.{flags_in, SameFlags}
use Rattle.snapshot.proofs.Restored.{Setting}
use Rattle.snapshot.proofs.resume.set_flags.Given as goal

abbrev pub invariant-loop-page : goal.invariant-loop-page
invariant-loop-page l = record {
  going : Setting l.flag (flags_in l.initial.lent l.memory) l.first l.count (flags_in l.lent l.memory) l.page;
  same : SameFlags l.initial.lent l.lent;
}
