-- The memory's call; the records stay.
use Rattle.program.proofs.Lifted.{lifted}
use Rattle.memory.specs.Operations as memory
use Rattle.tracking.specs.Operations.{owns}
use Rattle.tracking.proofs.storage.TrackedStorage.store.Goals as goal

pub returns-clause-value : goal.returns-clause-value
returns-clause-value c = lifted memory.does owns _ _ _ _ _ c.store_bytes_apart.ensures
