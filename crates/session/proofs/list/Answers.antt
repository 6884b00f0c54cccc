-- The title, and then the listing at the front of the text.
use Rattle.std.proofs.Common.{rules, ◌≡◌, ◌∙◌, subst}
use Rattle.std.specs.Io.KnownBytes.{Appends}
use Rattle.std.proofs.KnownBytes.{Appends-trans}
use Rattle.std.proofs.lemmas.Result.{on_ok_weaker}
use Rattle.streams.specs.Fronts.{AppendsFront}
use Rattle.streams.proofs.Written.{front_left, front_right}
use Rattle.listing.specs.Listing.{listing}
use Rattle.listing.proofs.Printed.{listing_printed}
use Rattle.session.specs.Said.{listed}
use Rattle.session.proofs.list.Goals as goal

pub returns-in_err-write_full-clause-front : goal.returns-in_err-write_full-clause-front
unfolding listed
returns-in_err-write_full-clause-front g c = front_left _ _ _ _ c.in_err-write_full.ensures.front

pub returns-clause-all : goal.returns-clause-all
unfolding listed
returns-clause-all g c =
    let text : c.front.result.now ≡ listing c.args.file.now =
    c.front.ensures ∙ (listing_printed _ _ _ _ _ c.unwrap_or-size.ensures (search rules) c.list.ensures.out_after c.list.ensures.size_in_bounds).0 in
    on_ok_weaker c.write_full-2.result (λ last. Appends-trans _ _ _ _ _ c.in_ok-write_full.ensures.all (subst (Appends _ _) text last)) c.write_full-2.ensures.all

pub returns-clause-front : goal.returns-clause-front
unfolding listed
returns-clause-front g c =
    let text : c.front.result.now ≡ listing c.args.file.now =
    c.front.ensures ∙ (listing_printed _ _ _ _ _ c.unwrap_or-size.ensures (search rules) c.list.ensures.out_after c.list.ensures.size_in_bounds).0 in
    front_right _ _ _ _ _ c.in_ok-write_full.ensures.all (subst (AppendsFront _ _) text c.write_full-2.ensures.front)
