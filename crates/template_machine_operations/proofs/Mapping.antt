-- A map that is made of the entries of a map is that map.
use Rattle.std.proofs.Common.{◌≡◌, ◌≤◌, ◌⊎◌, inl, inr, List, [], ◌∷◌, ◌++◌, append-nil, Option, None, Some, Result, Ok, Err, IfSome, IfOk, IfErr, Bor, refl, sym, ap, ◌∙◌, arith}
use Rattle.std.specs.Prelude.{option_copied, option_map, Vec}
use Rattle.std.proofs.lemmas.Bool.Decides.{nat_tests}
use Rattle.template_values_errors.specs.declared.ErrorKind.{ErrorKind}
use Rattle.template_values_errors.specs.declared.ErrorKind.TheVariants.{InvalidOperation}
use Rattle.template_values_errors.specs.Memory.{NoMemory}
use Rattle.template_values_model.specs.declared.TheConstants.{DEPTH_LIMIT}
use Rattle.template_values_model.specs.Val as values
use Rattle.template_values_model.specs.Val.{Val, Pairs}
use Rattle.template_values_core.specs.Depth.{depth}
use Rattle.template_values_core.specs.Kept.{IsRising}
use Rattle.template_values_core.specs.Maps.{pairs_of}
use Rattle.template_values_core.specs.Reads.{pairs_held}
use Rattle.template_values_core.specs.Shape.{pairs_in}
use Rattle.template_values_core.specs.declared.value.Entry.{Entry}
use Rattle.template_values_core.proofs.PairLemmas.{pairs_in_push}
use Rattle.template_values_core.proofs.Sorting.{collected-rising}
use Rattle.template_compiler_walk.specs.Containers.{map_made, within_depth}
use Rattle.template_machine_meaning.specs.Functions.{base_in, dict_of, entries_of}
use Rattle.template_machine_meaning.specs.Replies.{kinded}
use Rattle.template_machine_operations.specs.Answers.{Answers, answered}
use Rattle.template_machine_operations.specs.Entries.{entries_given, given_base}

pub entries_of-pairs_of : (ps : List (Val × Val)) → entries_of (pairs_of ps) ≡ ps
entries_of-pairs_of [] = refl
entries_of-pairs_of (p ∷ ps) = ap (λ (qs : List (Val × Val)). p ∷ qs) (entries_of-pairs_of ps)

-- a value that nests no deeper than it may is not refused
kept : (v : Val) → depth v ≤ DEPTH_LIMIT → within_depth v ≡ Ok v
kept v bound = grind (arith, nat_tests)

-- its entries rise
made_again : (es : List Entry) → IsRising es → depth (values.map (pairs_of (pairs_in es))) ≤ DEPTH_LIMIT
    → dict_of (base_in (values.map (pairs_of (pairs_in es)))) [] ≡ Ok (values.map (pairs_of (pairs_in es)))
made_again es rising bound =
    ap (λ (ps : List (Val × Val)). kinded (map_made ps)) (append-nil (entries_of (pairs_of (pairs_in es))) ∙ entries_of-pairs_of (pairs_in es))
    ∙ ap (λ (ps : List (Val × Val)). kinded (within_depth (values.map (pairs_of ps)))) (collected-rising es rising)
    ∙ ap kinded (kept (values.map (pairs_of (pairs_in es))) bound)

pub map_again : (v : Val) (ps : Pairs) (held : Option (Bor (List Entry))) → v ≡ values.map ps
    → option_map (λ es. pairs_of (pairs_in es)) (option_copied held) ≡ pairs_held v → IfSome held (λ es. IsRising es.now) → depth v ≤ DEPTH_LIMIT
    → dict_of (base_in v) [] ≡ Ok v
map_again v ps None is has rising bound = let none : None ≡ Some ps = has ∙ ap pairs_held is in cc
map_again v ps (Some es) is has rising bound =
    let same : Some (pairs_of (pairs_in es.now)) ≡ Some ps = has ∙ ap pairs_held is in
    let inner : pairs_of (pairs_in es.now) ≡ ps = cc in
    let whole : v ≡ values.map (pairs_of (pairs_in es.now)) = is ∙ ap values.map (sym inner) in
    rw whole (made_again es.now rising (rw whole at bound))

-- a copy of a value answers
pub copied_answers : (result : Result Val (List ErrorKind)) (reply : Result Val ErrorKind) (v : Val) → reply ≡ Ok v → IfOk result (λ u. u ≡ v)
    → IfErr result NoMemory → Answers result reply
copied_answers (Ok u) reply v given same refused = given ∙ ap (λ (w : Val). Ok w) (sym same)
copied_answers (Err kinds) reply v given same refused = inl refused

-- one entry more was copied
pub copied_next : (es : List Entry) (whole : List (Val × Val)) (k v : Val) (e : Entry) (before later : List Entry) → k ≡ e.key → v ≡ e.value
    → before ≡ e ∷ later → pairs_in es ++ pairs_in before ≡ whole → pairs_in (es ++ record { key = k; value = v } ∷ []) ++ pairs_in later ≡ whole
copied_next es whole k v e before later key val is invariant =
    pairs_in_push es (record { key = k; value = v }) (pairs_in later) ∙ (λ i. pairs_in es ++ (key i, val i) ∷ pairs_in later)
    ∙ ap (λ (bs : List Entry). pairs_in es ++ pairs_in bs) (sym is) ∙ invariant

-- copies of a map's entries are its base
pub based : {Z : Type 0} (result : Result (Vec Entry Z) (List ErrorKind)) (v : Val) (es : List Entry) → v ≡ values.map (pairs_of (pairs_in es))
    → IfOk result (λ xs. pairs_in xs.items ≡ pairs_in es) → IfErr result NoMemory → Answers (entries_given result) (given_base (base_in v))
based (Ok xs) v es is made refused =
    ap (λ (u : Val). given_base (base_in u)) is ∙ ap (λ (ps : List (Val × Val)). Ok ps) (entries_of-pairs_of (pairs_in es) ∙ sym made)
based (Err kinds) v es is made refused = inl refused

-- what was given as a base is the base
pub base_given : (base : Option (List (Val × Val))) (ps : List (Val × Val)) → given_base base ≡ Ok ps → base ≡ Some ps
base_given (Some qs) ps is = let same : qs ≡ ps = cc in ap (λ (rs : List (Val × Val)). Some rs) same
base_given None ps is = cc

-- what is refused as a base is refused
base_refused : (base : Option (List (Val × Val))) (named : List (Val × Val)) (kinds : List ErrorKind) → answered (given_base base) ≡ Err kinds
    → answered (dict_of base named) ≡ Err kinds
base_refused (Some qs) named kinds is = cc
base_refused None named kinds is = let same : InvalidOperation ∷ [] ≡ kinds = cc in ap (λ (ks : List ErrorKind). Err ks) same

pub base_answers : (base : Option (List (Val × Val))) (named : List (Val × Val)) (kinds : List ErrorKind) → NoMemory kinds ⊎ (answered (given_base base) ≡ Err kinds)
    → Answers {T = Val} (Err kinds) (dict_of base named)
base_answers base named kinds (inl memory) = inl memory
base_answers base named kinds (inr refused) = inr (base_refused base named kinds refused)

pub ruleset refusing = (base_answers)
