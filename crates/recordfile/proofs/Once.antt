-- No second outcome fits a promise: two that both meet the contract of a public function are the same.
use mathlib.Core.Path.{◌≡◌, refl, sym, ap, ◌∙◌}
use mathlib.Core.List.{List, [], ◌∷◌}
use Prim.Native.Nat.{ℕ}
use denote.Ref.{Bor}
use Rattle.std.specs.Prelude.{Result, Option, Some, None}
use Rattle.std.specs.Iterator.{YieldsFirst}
use Rattle.outcome.specs.declared.Refusal.{Refusal}
use Rattle.outcome.specs.Numbers.{Outcome, number_of}
use Rattle.outcome.proofs.Numbers.{number_once}
use Rattle.recordfile.specs.Records.{record_at, encoded}
use Rattle.recordfile.specs.Form.{judged, capped, form_of, in_form}
use Rattle.recordfile.specs.declared.form.Form as code
use Rattle.recordfile.specs.Reader.{next_to, left, TakesNext}
use Rattle.recordfile.specs.declared.Record.{Record}
use Rattle.recordfile.specs.declared.reader.Reader.{Reader}

pub decode_once : (file : List ℕ) (i : ℕ) (r q : Record) → r ≡ record_at file i → q ≡ record_at file i → r ≡ q
decode_once file i r q e f = cc

pub encode_once : (file : List ℕ) (i : ℕ) (entry : Record) (s t : List ℕ) → s ≡ encoded file i entry → t ≡ encoded file i entry → s ≡ t
encode_once file i entry s t e f = cc

pub needed_once : (file : List ℕ) (r q : Result (Option ℕ) Refusal) → r ≡ capped (judged file) → q ≡ capped (judged file) → r ≡ q
needed_once file r q e f = cc

pub judge_once : (file : List ℕ) (r q : code.Form) → r ≡ form_of (capped (judged file)) → q ≡ form_of (capped (judged file)) → r ≡ q
judge_once file r q e f = cc

-- by its number: no two cases share one
pub in_form_once : (file : List ℕ) (pages : ℕ) (r q : Outcome) → number_of r ≡ in_form file pages → number_of q ≡ in_form file pages
    → r ≡ q
in_form_once file pages r q e f = number_once r q (e ∙ sym f)

-- a reader is its file and its position
reader_once : (r q : Reader) → r.file ≡ q.file → r.at ≡ q.at → r ≡ q
reader_once r q e f =
    ap (λ (x : Bor (List ℕ)). record { file = x; at = r.at }) e ∙ ap (λ (n : ℕ). record { file = q.file; at = n }) f

pub start_once : (file : Bor (List ℕ)) (at : ℕ) (r q : Reader) → r.file ≡ file → r.at ≡ at → q.file ≡ file → q.at ≡ at → r ≡ q
start_once file at r q e a f b = reader_once r q (e ∙ sym f) (a ∙ sym b)

pub new_once : (file : Bor (List ℕ)) (r q : Reader) → r.file ≡ file → r.at ≡ 0 → q.file ≡ file → q.at ≡ 0 → r ≡ q
new_once file = start_once file 0

pub peek_once : (s : Reader) (r q : Record) → r ≡ record_at s.file.now s.at → q ≡ record_at s.file.now s.at → r ≡ q
peek_once s r q e f = cc

-- an item is the first record that is left, or there is none, and the reader is past it
pub next_once : (s t u : Reader) (r q : Option Record) → TakesNext s r t → TakesNext s q u → (r ≡ q) × (t ≡ u)
next_once s t u r q e f = (given r q e.0 f.0, reader_once t u (e.1 ∙ sym f.1) (e.2 ∙ sym f.2))
  where
    given : (r q : Option Record) → YieldsFirst left s r t → YieldsFirst left s q u → r ≡ q
    given None None e f = refl
    given None (Some y) e f = absurd (let z : [] ≡ y ∷ left u = sym e.0 ∙ f in cc)
    given (Some x) None e f = absurd (let z : [] ≡ x ∷ left t = sym f.0 ∙ e in cc)
    given (Some x) (Some y) e f = let z : x ∷ left t ≡ y ∷ left u = sym e ∙ f in cc

pub moved_once : (s r q : Reader) → r.file ≡ s.file → r.at ≡ next_to s.at → q.file ≡ s.file → q.at ≡ next_to s.at → r ≡ q
moved_once s = start_once s.file (next_to s.at)

pub read_at_once : (file : List ℕ) (at : ℕ) (r q : Record) → r ≡ record_at file at → q ≡ record_at file at → r ≡ q
read_at_once file at r q e f = cc
