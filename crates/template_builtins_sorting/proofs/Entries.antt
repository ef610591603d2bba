-- The pairs of entries, as a list.
use Rattle.std.proofs.Common.{◌≡◌, ◌∙◌, ◌⊎◌, inl, inr, ap, refl, ℕ, ◌<◌, ◌≤◌, List, [], ◌∷◌, map, Result, Ok, Err, length, drop, get_or}
use Rattle.template_values_errors.specs.Memory.{NoMemory}
use Rattle.template_values_errors.specs.declared.ErrorKind.{ErrorKind}
use Rattle.template_values_model.specs.Val.{Val}
use Rattle.template_values_core.specs.Maps.{pairs_of}
use Rattle.template_values_core.specs.Shape.{pairs_in}
use Rattle.template_values_core.specs.declared.value.Entry.{Entry}
use Rattle.template_builtins_arguments.specs.Answers.{single}
use Rattle.template_builtins_sorting.specs.Keys.{each}
use Rattle.template_builtins_sorting.specs.Pairs.{pairs_listed}
use Rattle.template_builtins_sorting.proofs.Steps.{Goes, goes_all_of, goes_err_of}

pub pairs_listed-of : (ps : List (Val × Val)) → pairs_listed (pairs_of ps) ≡ ps
pairs_listed-of [] = refl
pairs_listed-of (p ∷ ps) = ap (λ (qs : List (Val × Val)). (p.0, p.1) ∷ qs) (pairs_listed-of ps)

abbrev pub pair_in : Entry → Val × Val
pair_in e = (e.key, e.value)

pub pairs_in-map : (es : List Entry) → pairs_in es ≡ map pair_in es
pairs_in-map [] = refl
pairs_in-map (e ∷ es) = ap (λ (ps : List (Val × Val)). (e.key, e.value) ∷ ps) (pairs_in-map es)

pub goes_all_pairs : {U : Type 0} (f : Val × Val → Result U ErrorKind) (done : List U) (all : List Entry) (i : ℕ) → length all ≤ i
    → Goes (λ e. f (pair_in e)) done (drop i all) all → each f (pairs_in all) ≡ Ok done
goes_all_pairs f done all i le goes = ap (each f) (pairs_in-map all) ∙ goes_all_of f pair_in done all i le goes

pub goes_err_pairs : {U : Type 0} (f : Val × Val → Result U ErrorKind) (done : List U) (all : List Entry) (i : ℕ) (x : Entry)
    (kinds : List ErrorKind) → i < length all → x ≡ get_or all i x → Goes (λ e. f (pair_in e)) done (drop i all) all
    → NoMemory kinds ⊎ (single (f (pair_in x)) ≡ Err kinds) → NoMemory kinds ⊎ (single (each f (pairs_in all)) ≡ Err kinds)
goes_err_pairs f done all i x kinds lt is goes h =
    elim (goes_err_of f pair_in done all i x kinds lt is goes h) [
      | inl m ↦ inl m
      | inr e ↦ inr (ap (λ (ps : List (Val × Val)). single (each f ps)) (pairs_in-map all) ∙ e)
    ]

pub ruleset listed = (pairs_listed-of)

pub ruleset in_turn = (goes_all_pairs, goes_err_pairs)
