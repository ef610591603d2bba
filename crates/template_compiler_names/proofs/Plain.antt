-- A name counts wherever it is used, whatever stands behind it.
use Rattle.std.proofs.Common.{◌≡◌, ℕ, List, [], ◌∷◌, refl, sym, ◌∙◌}
use Rattle.template_compiler_tree.specs.Tree.{Expression, variable, constant, slice, unary, binary, chain, conditional, filtered, tested, attribute, item, call, list_literal, tuple_literal, map_literal}
use Rattle.template_compiler_names.specs.Names.{anywhere, place_before, stands_in}

pub before_any : (name : List ℕ) (fields : List (List ℕ)) (e : Expression) → place_before (anywhere name) fields e ≡ stands_in name e
before_any name fields (variable id) = refl
before_any name fields (constant v) = refl
before_any name fields (slice e start stop by) = refl
before_any name fields (unary op e) = refl
before_any name fields (binary op left right) = refl
before_any name fields (chain first links) = refl
before_any name fields (conditional test branch otherwise) = refl
before_any name fields (filtered filter value passed) = refl
before_any name fields (tested test e passed) = refl
before_any name fields (attribute e field) = before_any name (field ∷ fields) e ∙ sym (before_any name (field ∷ []) e)
before_any name fields (item e key) = refl
before_any name fields (call callee passed) = refl
before_any name fields (list_literal es) = refl
before_any name fields (tuple_literal es) = refl
before_any name fields (map_literal ks vs) = refl

-- a name stands in an attribute's expression where it stands before it
pub in_attribute : (name : List ℕ) (e : Expression) (field : List ℕ) → stands_in name (attribute e field) ≡ stands_in name e
in_attribute name e field = before_any name (field ∷ []) e
