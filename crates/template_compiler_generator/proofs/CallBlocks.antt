-- A call block stands alone.
use Rattle.std.proofs.Common.{◌≡◌, Box, Global, refl}
use Rattle.template_compiler_tree.specs.Tree.{no_statements, statements_more}
use Rattle.template_compiler_tree.specs.declared.span.Spanned.{Spanned}
use Rattle.template_compiler_tree_statements.specs.View.{statement_of}
use Rattle.template_compiler_tree_statements.specs.declared.statements.CallBlock.{CallBlock as CallBlockNode, CallBlock' as called}
use Rattle.template_compiler_tree_statements.specs.declared.statements.Stmt.{CallBlock}
use Rattle.template_compiler_generator.specs.Alone.{statements_of}

with_value : Box (Spanned CallBlockNode) Global → CallBlockNode → Box (Spanned CallBlockNode) Global
with_value n v = record { ptr = n.ptr; alloc = n.alloc; value = record { node = v; span = n.value.span } }

alone_by : (n : Box (Spanned CallBlockNode) Global) (v : CallBlockNode)
    → statements_of (statement_of (CallBlock (with_value n v))) ≡ statements_more (statement_of (CallBlock (with_value n v))) no_statements
unfolding with_value
alone_by n (called call q name args defaults shape body inner) = refl

pub call_alone : (n : Box (Spanned CallBlockNode) Global) → statements_of (statement_of (CallBlock n)) ≡ statements_more (statement_of (CallBlock n)) no_statements
unfolding with_value
call_alone n = alone_by n n.value.node
