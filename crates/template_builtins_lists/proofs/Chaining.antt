-- The items of several values, one value behind another.
use Rattle.std.proofs.Common.{arith, ◌≡◌, inl, inr, ℕ, List, ◌<◌, ◌≤◌, ◌+◌, ◌∷◌, [], ◌++◌, length, drop, get_or, nat_eq, Result, Ok, Err, refl, sym, ap, ◌∙◌, append_assoc}
use Rattle.std.proofs.lemmas.Bool.Decides.{nat_tests}
use Rattle.std.proofs.lemmas.List.{at_drop_more, at_drop_all, append-nil}
use Rattle.template_values_errors.specs.declared.ErrorKind.{ErrorKind}
use Rattle.template_values_model.specs.Val.{Val}
use Rattle.template_values_core.specs.declared.value.Entry.{Entry}
use Rattle.template_values_core.specs.Maps.{pairs_of}
use Rattle.template_values_core.specs.Shape.{pairs_in}
use Rattle.template_callables.specs.Callables.{View}
use Rattle.template_builtins_arguments.specs.Answers.{Tells, then as after}
use Rattle.template_builtins_arguments.specs.Arguments.{are_known}
use Rattle.template_builtins_arguments.specs.Parts.{items_of}
use Rattle.template_builtins_lists.specs.Chains.{put_onto, items_of_all}

-- where there are no names there are no keywords either
pub known_of_none : (es : List Entry) → nat_eq (length es) 0 ≡ are_known [] (pairs_of (pairs_in es))
known_of_none [] = refl
known_of_none (e ∷ es) = grind (arith, nat_tests)

turn : (view : View) (vs : List Val) (k : ℕ) (v : Val) → k < length vs → v ≡ get_or vs k v
    → items_of_all view (drop k vs) ≡ after (items_of view v) (λ items. put_onto items (items_of_all view (drop (k + 1) vs)))
turn view vs k v h e = at_drop_more (items_of_all view) vs k v h ∙ ap (λ (z : Val). items_of_all view (z ∷ drop (k + 1) vs)) (sym e)

put_twice : (a b : List Val) (rest : Result (List Val) ErrorKind) → put_onto a (put_onto b rest) ≡ put_onto (a ++ b) rest
put_twice a b (Ok vs) = ap Ok (sym (append_assoc a b vs))
put_twice a b (Err kind) = refl

put_on : (whole out : List Val) (made rest : Result (List Val) ErrorKind) → put_onto whole made ≡ Ok out → put_onto whole (after made (λ items. put_onto items rest)) ≡ put_onto out rest
put_on whole out (Ok vs) rest h = let same : whole ++ vs ≡ out = cc in put_twice whole vs rest ∙ ap (λ (x : List Val). put_onto x rest) same
put_on whole out (Err kind) rest h = absurd cc

pub chain_goes : (view : View) (vs : List Val) (k : ℕ) (v : Val) (whole out : List Val) → k < length vs → v ≡ get_or vs k v → put_onto whole (items_of view v) ≡ Ok out
    → put_onto whole (items_of_all view (drop k vs)) ≡ put_onto out (items_of_all view (drop (k + 1) vs))
chain_goes view vs k v whole out h e made = ap (put_onto whole) (turn view vs k v h e) ∙ put_on whole out (items_of view v) _ made

put_fails : (whole : List Val) (made rest : Result (List Val) ErrorKind) (kinds : List ErrorKind) → Tells {T = List Val} (Err kinds) (put_onto whole made) → Tells {T = List Val} (Err kinds) (put_onto whole (after made (λ items. put_onto items rest)))
put_fails whole (Ok vs) rest kinds h = elim h [ inl m ↦ inl m | inr e ↦ absurd cc ]
put_fails whole (Err kind) rest kinds h = h

pub chain_fails : (view : View) (vs : List Val) (k : ℕ) (v : Val) (whole : List Val) (kinds : List ErrorKind) → k < length vs → v ≡ get_or vs k v → Tells {T = List Val} (Err kinds) (put_onto whole (items_of view v))
    → Tells {T = List Val} (Err kinds) (put_onto whole (items_of_all view (drop k vs)))
chain_fails view vs k v whole kinds h e failed = rw (turn view vs k v h e) (put_fails whole (items_of view v) _ kinds failed)

pub chain_ends : (view : View) (vs : List Val) (k : ℕ) (whole : List Val) → length vs ≤ k → put_onto whole (items_of_all view (drop k vs)) ≡ Ok whole
chain_ends view vs k whole h = ap (put_onto whole) (at_drop_all (items_of_all view) vs k h) ∙ ap Ok (append-nil whole)
