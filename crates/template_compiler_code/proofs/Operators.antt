-- The code that has an operator.
use Rattle.std.proofs.Common.{◌≡◌, Some, ap}
use Rattle.template_compiler_tree.specs.declared.operators.BinOpKind.{BinOpKind}
use Rattle.template_compiler_code.specs.Code as codes
use Rattle.template_compiler_code.specs.Code.{Code, operate, operator_in}

some_same : (a b : BinOpKind) → Some b ≡ Some a → a ≡ b
some_same a b is = cc

-- it is that of the operator
pub with_operator : (c : Code) (op : BinOpKind) → Some op ≡ operator_in c → c ≡ operate op
with_operator (codes.operate p) op is = ap codes.operate (some_same p op is)
with_operator _ op is = cc
