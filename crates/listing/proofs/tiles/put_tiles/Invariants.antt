-- Invariant: the tiles of the pages that are left, drawn from here on, make the whole.
use Rattle.recordfile.specs.Records.{records_in}
use Rattle.listing.specs.Writer.{SameOutput}
use Rattle.listing.proofs.Tiled.{Drawing}
use Rattle.listing.proofs.tiles.put_tiles.Given as goal

abbrev pub invariant-loop-number : goal.invariant-loop-number
invariant-loop-number l = record {
  same : SameOutput l.fn.text l.text;
  draws : Drawing (records_in l.picture.file.now) l.fn.text.out.now l.fn.text.end l.picture.pages l.text.out.now l.text.end l.number;
}
