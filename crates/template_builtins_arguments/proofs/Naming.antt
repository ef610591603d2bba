-- What is no text is no name.
use Rattle.std.proofs.Common.{◌≡◌, ℕ, false, List, [], ◌∷◌, None, refl}
use Rattle.std.specs.List.{list_any}
use Rattle.template_values_model.specs.Val.{Val, text, safe_text}
use Rattle.template_values_core.specs.Answers.{text_in}
use Rattle.template_builtins_arguments.specs.Arguments.{is_known}

holds_nowhere : {X : Type 0} (xs : List X) → list_any (λ x. false) xs ≡ false
holds_nowhere [] = refl
holds_nowhere (x ∷ xs) = holds_nowhere xs

pub is_no_name : (names : List (List ℕ)) (key : Val) → text_in key ≡ None → is_known names key ≡ false
is_no_name names (text s) e = cc
is_no_name names (safe_text s) e = cc
is_no_name names _ e = holds_nowhere names
