-- The names that are left for keywords.
use Rattle.std.proofs.Common.{◌≡◌, ℕ, ◌≤◌, Bool, true, ◌&&◌, List, length, drop, Option, Bor, sym, ap, ◌∙◌, arith, nat_le}
use Rattle.std.specs.List.{slice_range}
use Rattle.std.proofs.lemmas.Bool.{le-leb}
use Rattle.std.proofs.lemmas.Grind.{common_steps}
use Rattle.std.proofs.lemmas.List.{drop-map, length-map}
use Rattle.template_values_model.specs.Val.{Val}
use Rattle.template_builtins_arguments.specs.Arguments.{has_known}
use Rattle.template_builtins_arguments.specs.Given.{names_of}

rest_of : (xs : List (Bor (List ℕ))) (n : ℕ) → n ≤ length xs → slice_range xs n (length xs) ≡ drop n xs
rest_of xs n h = grind (arith, common_steps)

has_room : (xs : List (Bor (List ℕ))) (n : ℕ) → n ≤ length xs → nat_le n (length (names_of xs)) ≡ true
has_room xs n h = ap (nat_le n) (length-map xs (λ name. name.now)) ∙ le-leb n (length xs) h

names_left : (xs left : List (Bor (List ℕ))) (n : ℕ) → n ≤ length xs → left ≡ slice_range xs n (length xs) → names_of left ≡ drop n (names_of xs)
names_left xs left n h e = ap names_of (e ∙ rest_of xs n h) ∙ sym (drop-map (λ name. name.now) n xs)

pub taken : (xs left : List (Bor (List ℕ))) (n : ℕ) → n ≤ length xs → left ≡ slice_range xs n (length xs) → (given : Option Val) (r : Bool) → r ≡ has_known (names_of left) given → r ≡ (nat_le n (length (names_of xs)) && has_known (drop n (names_of xs)) given)
taken xs left n h e given r known = rw (has_room xs n h) (known ∙ ap (λ names. has_known names given) (names_left xs left n h e))
