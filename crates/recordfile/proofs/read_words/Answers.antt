-- Invariant: the words read and those that are left are all of them.
use borrow.Author.Rules.{rules}
use Rattle.recordfile.proofs.Decoding.{read_more, read_done}
use Rattle.recordfile.proofs.read_words.Goals as goal

pub loop-i-preserved : goal.loop-i-preserved
loop-i-preserved c = search (rules, read_more)

pub returns : goal.returns
returns c = search (rules, read_done)
