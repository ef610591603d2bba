-- What is known before a render runs of a tree whose parts are or are not constant.
use Rattle.std.specs.Prelude.{Bool, false, Option, None, Some, option_and_then}
use Rattle.template_values_model.specs.Val.{Val}
use Rattle.template_values_core.specs.Reads.{is_true}
use Rattle.template_values_forms.specs.Known.{nothing_known}
use Rattle.template_compiler_tree.specs.declared.operators.UnaryOpKind.{UnaryOpKind}
use Rattle.template_compiler_tree.specs.declared.operators.BinOpKind.{BinOpKind}
use Rattle.template_compiler_tree.specs.declared.operators.CompareOpKind.{CompareOpKind}
use Rattle.template_compiler_walk.specs.Operators.{compared}
use Rattle.template_compiler_walk.specs.Constants.{made, unary_constant, binary_constant}

abbrev pub unary_folded : UnaryOpKind → Option Val → Option Val
unary_folded op operand = option_and_then (unary_constant op) operand

abbrev pub binary_folded : BinOpKind → Option Val → Option Val → Option Val
binary_folded op left right = option_and_then (λ v. option_and_then (binary_constant op v) right) left

abbrev pub comparison_folded : CompareOpKind → Option Val → Option Val → Option Val
comparison_folded op left right = option_and_then (λ v. option_and_then (λ w. made (compared nothing_known op v w)) right) left

-- a comparison that is constant and true: a chain goes on behind it
abbrev pub is_known_true : Option Val → Bool
is_known_true (Some holds) = is_true holds
is_known_true None = false
