-- Sums, item by item.
use Rattle.std.proofs.Common.{◌≡◌, ℕ, List, ◌<◌, ◌≤◌, ◌+◌, ◌∷◌, length, drop, get_or, Option, Ok, Err, sym, ap, ◌∙◌}
use Rattle.std.proofs.lemmas.List.{at_drop_more, at_drop_all}
use Rattle.template_values_errors.specs.declared.ErrorKind.{ErrorKind}
use Rattle.template_values_model.specs.Val.{Val}
use Rattle.template_callables.specs.Callables.{View}
use Rattle.template_builtins_arguments.specs.Answers.{Tells, then as after}
use Rattle.template_builtins_paths.specs.Items.{part_or_self}
use Rattle.template_builtins_paths.proofs.Steps.{tells_after_err, after_ok}
use Rattle.template_builtins_numbers.specs.Values.{plus, summed}

turn : (view : View) (path : Option Val) (total : Val) (vs : List Val) (k : ℕ) (v : Val) → k < length vs → v ≡ get_or vs k v
    → summed view path total (drop k vs) ≡ after (part_or_self view path v) (λ part. after (plus total part) (λ next. summed view path next (drop (k + 1) vs)))
turn view path total vs k v h e = at_drop_more (summed view path total) vs k v h ∙ ap (λ (z : Val). summed view path total (z ∷ drop (k + 1) vs)) (sym e)

pub summed_goes : (view : View) (path : Option Val) (total : Val) (vs : List Val) (k : ℕ) (v part next : Val) → k < length vs → v ≡ get_or vs k v
    → part_or_self view path v ≡ Ok part → plus total part ≡ Ok next → summed view path total (drop k vs) ≡ summed view path next (drop (k + 1) vs)
summed_goes view path total vs k v part next h e found added =
    turn view path total vs k v h e
    ∙ (after_ok (part_or_self view path v) part _ found
    ∙ after_ok (plus total part) next _ added)

pub summed_lacks : (view : View) (path : Option Val) (total : Val) (vs : List Val) (k : ℕ) (v : Val) (kinds : List ErrorKind) → k < length vs → v ≡ get_or vs k v
    → Tells {T = Val} (Err kinds) (part_or_self view path v) → Tells {T = Val} (Err kinds) (summed view path total (drop k vs))
summed_lacks view path total vs k v kinds h e failed = rw (turn view path total vs k v h e) (tells_after_err (part_or_self view path v) _ kinds failed)

pub summed_fails : (view : View) (path : Option Val) (total : Val) (vs : List Val) (k : ℕ) (v part : Val) (kinds : List ErrorKind) → k < length vs → v ≡ get_or vs k v
    → part_or_self view path v ≡ Ok part → Tells {T = Val} (Err kinds) (plus total part) → Tells {T = Val} (Err kinds) (summed view path total (drop k vs))
summed_fails view path total vs k v part kinds h e found failed =
    let whole : summed view path total (drop k vs) ≡ after (plus total part) (λ next. summed view path next (drop (k + 1) vs)) =
    turn view path total vs k v h e ∙ after_ok (part_or_self view path v) part _ found in
    rw whole (tells_after_err (plus total part) _ kinds failed)

pub summed_ends : (view : View) (path : Option Val) (total : Val) (vs : List Val) (k : ℕ) → length vs ≤ k → summed view path total (drop k vs) ≡ Ok total
summed_ends view path total vs k h = at_drop_all (summed view path total) vs k h
