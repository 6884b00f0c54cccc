-- The front of the bytes are the low ones.
use Rattle.words.proofs.Std.{low_of}
use Rattle.memory.proofs.layer.WXorXLayer.store_number.Goals as goal

pub returns-clause-value : goal.returns-clause-value
returns-clause-value c = rw (← c.bytes-n.ensures.value, low_of c.bytes-n.result c.args.value _ c.bytes-n.ensures.few c.to_le_bytes-low.ensures) c.store.ensures.value
