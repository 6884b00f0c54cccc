-- A line is what its parts are, one behind the other.
use Rattle.std.proofs.Common.{◌≡◌, ◌∙◌, subst}
use Rattle.std.specs.Prelude.{codes}
use Rattle.std.specs.Io.KnownBytes.{Appends}
use Rattle.std.proofs.KnownBytes.{Appends-trans}
use Rattle.std.proofs.lemmas.Result.{on_ok_weaker}
use Rattle.streams.specs.Fronts.{AppendsFront}
use Rattle.streams.proofs.Written.{front_left, front_right}
use Rattle.session.specs.Said.{said, compared}
use Rattle.session.proofs.say_equal.Goals as goal

pub returns-in_err-write_full-clause-front : goal.returns-in_err-write_full-clause-front
unfolding compared
returns-in_err-write_full-clause-front g c =
    front_left _ _ _ (codes "\n")
    (front_left _ _ _ (said c.args.equal) (front_left _ _ _ (codes ": ") (front_left _ _ _ c.args.what.now c.in_err-write_full.ensures.front)))

pub returns-in_err-write_full-2-clause-front : goal.returns-in_err-write_full-2-clause-front
unfolding compared
returns-in_err-write_full-2-clause-front g c =
    front_left _ _ _ _ (front_left _ _ _ _ (front_left _ _ _ _ (front_right _ _ _ _ _ c.in_ok-write_full.ensures.all c.in_err-write_full-2.ensures.front)))

pub returns-in_err-write_full-3-clause-front : goal.returns-in_err-write_full-3-clause-front
unfolding compared
returns-in_err-write_full-3-clause-front g c =
    let parts = Appends-trans _ _ _ _ _ c.in_ok-write_full.ensures.all c.in_ok-write_full-2.ensures.all in
    front_left _ _ _ _ (front_left _ _ _ _ (front_right _ _ _ _ _ parts c.in_err-write_full-3.ensures.front))

pub returns-in_err-write_full-4-clause-front : goal.returns-in_err-write_full-4-clause-front
unfolding compared
returns-in_err-write_full-4-clause-front g c =
    let verdict : c.as_bytes.result.now ≡ said c.args.equal = c.as_bytes.ensures.value ∙ c.said-verdict.ensures in
    let parts = Appends-trans _ _ _ _ _ (Appends-trans _ _ _ _ _ c.in_ok-write_full.ensures.all c.in_ok-write_full-2.ensures.all) c.in_ok-write_full-3.ensures.all in
    front_left _ _ _ _ (front_right _ _ _ _ _ parts (subst (AppendsFront _ _) verdict c.in_err-write_full-4.ensures.front))

pub returns-clause-all : goal.returns-clause-all
unfolding compared
returns-clause-all g c =
    let verdict : c.as_bytes.result.now ≡ said c.args.equal = c.as_bytes.ensures.value ∙ c.said-verdict.ensures in
    let parts = Appends-trans _ _ _ _ _ (Appends-trans _ _ _ _ _ (Appends-trans _ _ _ _ _ c.in_ok-write_full.ensures.all c.in_ok-write_full-2.ensures.all) c.in_ok-write_full-3.ensures.all) (subst (Appends _ _) verdict c.in_ok-write_full-4.ensures.all) in
    on_ok_weaker c.write_full-5.result (Appends-trans _ _ _ _ _ parts) c.write_full-5.ensures.all

pub returns-clause-front : goal.returns-clause-front
unfolding compared
returns-clause-front g c =
    let verdict : c.as_bytes.result.now ≡ said c.args.equal = c.as_bytes.ensures.value ∙ c.said-verdict.ensures in
    let parts = Appends-trans _ _ _ _ _ (Appends-trans _ _ _ _ _ (Appends-trans _ _ _ _ _ c.in_ok-write_full.ensures.all c.in_ok-write_full-2.ensures.all) c.in_ok-write_full-3.ensures.all) (subst (Appends _ _) verdict c.in_ok-write_full-4.ensures.all) in
    front_right _ _ _ _ _ parts c.write_full-5.ensures.front
