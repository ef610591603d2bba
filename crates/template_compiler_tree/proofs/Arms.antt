-- What kind of expression stands at a node: facts for the arms of a match that take all other nodes.
use Rattle.std.proofs.Common.{◌≡◌, false, None, List, [], ◌∷◌, length, ◌==◌, refl, arith, codes, Box, Global}
use Rattle.std.proofs.lemmas.Bool.Decides.{nat_tests}
use Rattle.template_compiler_tree.specs.Tree.{Arguments}
use Rattle.template_compiler_tree.specs.View.{expression_of, chain_of, arguments_in}
use Rattle.template_compiler_tree.specs.Kinds.{description_of, is_self_name, is_empty, called_by, calls_value, call_parts}
use Rattle.template_compiler_tree.specs.declared.calls.CallArg.{CallArg}
use Rattle.template_compiler_tree.specs.declared.span.Spanned.{Spanned}
use Rattle.template_compiler_tree.specs.declared.expressions.Var.{Var as Name}
use Rattle.template_compiler_tree.specs.declared.expressions.GetAttr.{GetAttr as Attribute}
use Rattle.template_compiler_tree.specs.declared.expressions.Expr.{Expr, Var, Compare', GetAttr, GetAttr'}
use Rattle.template_compiler_tree.specs.declared.expressions.Compare.{Compare, Compare' as compared}

pub chain_description : (c : Compare) → description_of (chain_of c) ≡ codes "comparison"
chain_description (compared expr shape ops) = refl

-- no comparison is a call
pub chain_call : (c : Compare) → None ≡ call_parts (chain_of c)
chain_call (compared expr shape ops) = refl

pub other_than_name : (e : Expr) → ((x : Spanned Name) → e ≡ Var x → ⊥) → false ≡ is_self_name (expression_of e)
other_than_name (Var n) h = absurd (h n refl)
other_than_name (Compare' p (compared expr shape ops) span) h = refl
other_than_name _ h = refl

pub other_callee : (e : Expr) (args : Arguments) →
    ((x : Spanned Name) → e ≡ Var x → ⊥) → ((x : Box (Spanned Attribute) Global) → e ≡ GetAttr x → ⊥) →
    calls_value (expression_of e) ≡ called_by (expression_of e) args
other_callee (Var n) args h k = absurd (h n refl)
other_callee (GetAttr' p expr name span) args h k =
    absurd (k record { ptr = p.ptr; alloc = p.alloc; value = record { node = record { expr = expr; name = name }; span = span } } refl)
other_callee (Compare' p (compared expr shape ops) span) args h k = refl
other_callee _ args h k = refl

pub emptiness : (args : List CallArg) → is_empty (arguments_in args) ≡ (length args == 0)
emptiness [] = refl
emptiness (arg ∷ args) = grind (arith, nat_tests)
