-- The room, then the form: the lines, or its refusal.
use Rattle.std.proofs.Common.{rules}
use Rattle.listing.proofs.Judged.{too_short, told-malformed, formed-few, told-formed, inside-line}
use Rattle.listing.proofs.list.Goals as goal

pub returns-then-out-lt-MOST_TEXT-clause-out_after : goal.returns-then-out-lt-MOST_TEXT-clause-out_after
returns-then-out-lt-MOST_TEXT-clause-out_after c = search (rules, too_short)

pub returns-in-Err-clause-out_after : goal.returns-in-Err-clause-out_after
returns-in-Err-clause-out_after c = told-malformed _ _ _ _ (search rules) _ c.in-Err.ensures (search rules) (search rules)

pub returns-in-Err-clause-size_in_bounds : goal.returns-in-Err-clause-size_in_bounds
returns-in-Err-clause-size_in_bounds c = search (rules, inside-line)

pub put_records-requires-clause-file_bound : goal.put_records-requires-clause-file_bound
put_records-requires-clause-file_bound c = search (rules, formed-few)

pub returns-clause-out_after : goal.returns-clause-out_after
returns-clause-out_after c = search (rules, told-formed)
