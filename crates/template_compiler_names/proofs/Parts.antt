-- What stands behind the left parts of nodes.
use Rattle.std.proofs.Common.{◌≡◌, ℕ, List as Items, [], Box, Global, refl}
use Rattle.template_compiler_tree.specs.View.{expression_of}
use Rattle.template_compiler_tree.specs.declared.span.Spanned.{Spanned}
use Rattle.template_compiler_tree.specs.declared.expressions.Compare.{Compare' as compared}
use Rattle.template_compiler_tree.specs.declared.expressions.GetAttr.{GetAttr as Attribute}
use Rattle.template_compiler_tree.specs.declared.expressions.Expr.{Expr, GetAttr, Compare', GetAttr'}
use Rattle.template_compiler_names.specs.Dotted.{fields_left}

-- no dotted names stand before an expression that is no attribute
pub no_fields : (fields : Items (Items ℕ)) (e : Expr) → ((x : Box (Spanned Attribute) Global) → e ≡ GetAttr x → ⊥) → [] ≡ fields_left (expression_of e) fields
no_fields fields (GetAttr' p expr name span) other =
    absurd (other record { ptr = p.ptr; alloc = p.alloc; value = record { node = record { expr = expr; name = name }; span = span } } refl)
no_fields fields (Compare' p (compared expr shape ops) span) other = refl
no_fields fields _ other = refl
