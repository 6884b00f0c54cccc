-- Invariant: the lines of the records that are left, written from here on, make the whole.
use Rattle.recordfile.specs.Reader.{left}
use Rattle.recordfile.specs.Records.{records_in}
use Rattle.listing.specs.Writer.{SameOutput}
use Rattle.listing.proofs.Text.{Going}
use Rattle.listing.proofs.lines.put_records.Given as goal

abbrev pub invariant-loop-entry : goal.invariant-loop-entry
invariant-loop-entry l = record {
  same : SameOutput l.fn.text l.text;
  goes : Going (records_in l.file) l.fn.text.out.now l.fn.text.end l.text.out.now l.text.end (left l.entry-iterator);
}
