-- What is unpacked is what a loop would go over, where there is as much of it as is wanted.
use Rattle.std.proofs.Common.{◌≡◌, ◌==◌, ℕ, suc, Bool, true, false, if◌then◌else◌, List, [], ◌∷◌, length, Option, None, Some, Result, Ok, Err, refl, sym, ap, subst, ◌∙◌, inr}
use Rattle.std.specs.Result.{is_ok}
use Rattle.template_values_errors.specs.declared.ErrorKind.{ErrorKind}
use Rattle.template_values_errors.specs.declared.ErrorKind.TheVariants.{CannotUnpack}
use Rattle.template_values_model.specs.Gives.{Gives}
use Rattle.template_values_model.specs.Val as values
use Rattle.template_values_model.specs.Val.{Val, list, tuple, vals_of, items_of}
use Rattle.template_values_core.specs.Maps.{pairs_of}
use Rattle.template_values_core.specs.Shape.{pairs_in}
use Rattle.template_values_core.specs.declared.value.Entry.{Entry}
use Rattle.template_values_core.proofs.ReadLemmas.{items_of-vals_of}
use Rattle.template_values_forms.specs.Known.{Known}
use Rattle.template_values_operators.specs.Iterated.{iterated, keys_in}
use Rattle.template_machine_meaning.specs.Replies.{kinded}
use Rattle.template_machine_meaning.specs.Surroundings.{unpacked, unpacked_into}
use Rattle.template_machine_operations.specs.Answers.{Answers, answered}
use Rattle.template_machine_operations.proofs.Answering.{gives_answers}

-- whether so many are unpacked of a value
abbrev pub unpacks_into : ℕ → Val → Bool
unpacks_into n v = is_ok (unpacked_into n (unpacked v))

-- the items, where they are so many
abbrev counted : Bool → List Val → Result (List Val) ErrorKind
counted true vs = Ok vs
counted false vs = Err CannotUnpack

into : (n : ℕ) (vs : List Val) → unpacked_into n (Some vs) ≡ counted (length vs == n) vs
into n vs = by (length vs == n)
  where
    by : (b : Bool) → (if b then Ok vs else Err CannotUnpack) ≡ counted b vs
    by true = refl
    by false = refl

fits : (n : ℕ) (vs : List Val) → (length vs == n) ≡ is_ok (unpacked_into n (Some vs))
fits n vs = by (length vs == n) ∙ sym (ap is_ok (into n vs))
  where
    by : (b : Bool) → b ≡ is_ok (counted b vs)
    by true = refl
    by false = refl

pub fits_list : (n : ℕ) (vs : List Val) (v : Val) → v ≡ list (vals_of vs) → (length vs == n) ≡ unpacks_into n v
fits_list n vs v is = fits n vs ∙ sym (ap (unpacks_into n) is ∙ ap (λ (us : List Val). is_ok (unpacked_into n (Some us))) (items_of-vals_of vs))

pub fits_tuple : (n : ℕ) (vs : List Val) (v : Val) → v ≡ tuple (vals_of vs) → (length vs == n) ≡ unpacks_into n v
fits_tuple n vs v is = fits n vs ∙ sym (ap (unpacks_into n) is ∙ ap (λ (us : List Val). is_ok (unpacked_into n (Some us))) (items_of-vals_of vs))

key_count : (es : List Entry) → length es ≡ length (keys_in (pairs_of (pairs_in es)))
key_count [] = refl
key_count (e ∷ es) = ap suc (key_count es)

pub fits_map : (n : ℕ) (es : List Entry) (v : Val) → v ≡ values.map (pairs_of (pairs_in es)) → (length es == n) ≡ unpacks_into n v
fits_map n es v is = ap (λ k. k == n) (key_count es) ∙ fits n (keys_in (pairs_of (pairs_in es))) ∙ sym (ap (unpacks_into n) is)

taken : (n : ℕ) (vs : List Val) → is_ok (unpacked_into n (Some vs)) ≡ true → unpacked_into n (Some vs) ≡ Ok vs
taken n vs fit = into n vs ∙ ap (λ b. counted b vs) (fits n vs ∙ fit)

gone_over : (known : Known) (n : ℕ) (v : Val) → unpacks_into n v ≡ true → kinded (iterated known v) ≡ unpacked_into n (unpacked v)
gone_over known n (list vs) fit = sym (taken n (items_of vs) fit)
gone_over known n (tuple vs) fit = sym (taken n (items_of vs) fit)
gone_over known n (values.map ps) fit = sym (taken n (keys_in ps) fit)
gone_over known n v fit = cc

-- where so many are unpacked, the items of the value are these
pub unpacked_given : (known : Known) (n : ℕ) (v : Val) (result : Result (List Val) (List ErrorKind)) → unpacks_into n v ≡ true
    → Gives result (iterated known v) → Answers result (unpacked_into n (unpacked v))
unpacked_given known n v result fit gives = subst (Answers result) (gone_over known n v fit) (gives_answers result (iterated known v) gives)

not_taken : (n : ℕ) (o : Option (List Val)) → is_ok (unpacked_into n o) ≡ false → unpacked_into n o ≡ Err CannotUnpack
not_taken n None fit = refl
not_taken n (Some vs) fit = into n vs ∙ ap (λ b. counted b vs) (fits n vs ∙ fit)

-- elsewhere the value cannot be unpacked
pub not_unpacked : (n : ℕ) (v : Val) (kinds : List ErrorKind) → unpacks_into n v ≡ false → kinds ≡ CannotUnpack ∷ []
    → Answers {T = List Val} (Err kinds) (unpacked_into n (unpacked v))
not_unpacked n v kinds fit is = inr (ap answered (not_taken n (unpacked v) fit) ∙ ap (λ (ks : List ErrorKind). Err ks) (sym is))
