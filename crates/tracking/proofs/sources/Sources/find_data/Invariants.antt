-- Invariant: the entries from `i` on give what all of them give.
use Rattle.std.proofs.Common.{length}
use Rattle.tracking.proofs.Lookup.{Left}
use Rattle.tracking.proofs.sources.Sources.find_data.Given as goal

abbrev pub invariant-loop-i : goal.invariant-loop-i
invariant-loop-i l = Left l.self.directory.now (length l.self.bytes.now) l.id l.offset l.size l.i
