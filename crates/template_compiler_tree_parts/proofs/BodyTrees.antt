-- The trees of statements with bodies, from the parts that a node holds.
use Rattle.std.proofs.Common.{◌≡◌, List as Items, Box, Global, rules, sym, ap, ◌∙◌}
use Rattle.template_compiler_tree.specs.Tree.{Statement, Statements, set_block, filter_block, block, macro, call_block}
use Rattle.template_compiler_tree.specs.View.{arguments_in, expression_of, expressions_in, optional_in}
use Rattle.template_compiler_tree_statements.specs.View.{statement_of}
use Rattle.template_compiler_tree.specs.declared.span.Spanned.{Spanned}
use Rattle.template_compiler_tree_statements.specs.declared.statements.Block.{Block as BlockNode}
use Rattle.template_compiler_tree_statements.specs.declared.statements.CallBlock.{CallBlock as CallBlockNode, CallBlock' as called, out-CallBlock}
use Rattle.template_compiler_tree_statements.specs.declared.statements.FilterBlock.{FilterBlock as FilterBlockNode}
use Rattle.template_compiler_tree_statements.specs.declared.statements.Macro.{Macro as MacroNode}
use Rattle.template_compiler_tree_statements.specs.declared.statements.SetBlock.{SetBlock as SetBlockNode}
use Rattle.template_compiler_tree_statements.specs.declared.statements.Stmt.{Stmt, SetBlock, FilterBlock, Block, Macro, CallBlock, the_lemmas as statement_lemmas}
use Rattle.template_compiler_tree_parts.specs.Listed.{statements_in}
use Rattle.template_compiler_tree_parts.proofs.Rows.{statements_row}

pub set_block_tree : (n : Box (Spanned SetBlockNode) Global) → statement_of (SetBlock n)
    ≡ set_block (expression_of n.value.node.target) (optional_in n.value.node.filter) (statements_in n.value.node.body.items)
set_block_tree n = search (rules, statement_lemmas, statements_row)

pub filter_block_tree : (n : Box (Spanned FilterBlockNode) Global) → statement_of (FilterBlock n)
    ≡ filter_block (expression_of n.value.node.filter) (statements_in n.value.node.body.items)
filter_block_tree n = search (rules, statement_lemmas, statements_row)

pub block_tree : (n : Box (Spanned BlockNode) Global) → statement_of (Block n)
    ≡ block n.value.node.name.now n.value.node.required (statements_in n.value.node.body.items)
block_tree n = search (rules, statement_lemmas, statements_row)

pub macro_tree : (n : Box (Spanned MacroNode) Global) → statement_of (Macro n)
    ≡ macro n.value.node.name.now (expressions_in n.value.node.args.items) (expressions_in n.value.node.defaults.items) (statements_in n.value.node.body.items)
macro_tree n = search (rules, statement_lemmas, statements_row)

with_value : Box (Spanned CallBlockNode) Global → CallBlockNode → Box (Spanned CallBlockNode) Global
with_value n v = record { ptr = n.ptr; alloc = n.alloc; value = record { node = v; span = n.value.span } }

call_by : (n : Box (Spanned CallBlockNode) Global) (v : CallBlockNode) → statement_of (CallBlock (with_value n v))
    ≡ call_block (expression_of (out-CallBlock v).call.value.node.expr) (arguments_in (out-CallBlock v).call.value.node.args.items)
    (expressions_in (out-CallBlock v).macro_decl.value.node.args.items) (expressions_in (out-CallBlock v).macro_decl.value.node.defaults.items)
    (statements_in (out-CallBlock v).macro_decl.value.node.body.items)
unfolding with_value out-CallBlock
call_by n (called call q name args defaults shape body inner) = search (rules, statement_lemmas, statements_row)

pub call_tree : (n : Box (Spanned CallBlockNode) Global) → statement_of (CallBlock n)
    ≡ call_block (expression_of (out-CallBlock n.value.node).call.value.node.expr) (arguments_in (out-CallBlock n.value.node).call.value.node.args.items)
    (expressions_in (out-CallBlock n.value.node).macro_decl.value.node.args.items) (expressions_in (out-CallBlock n.value.node).macro_decl.value.node.defaults.items)
    (statements_in (out-CallBlock n.value.node).macro_decl.value.node.body.items)
unfolding with_value
call_tree n = call_by n n.value.node

-- a body that is read of a node, where a statement is that node
pub read_as : {s x : Stmt} {t : Statement} {read body : Items Stmt} (f : Statement → Statements) → s ≡ x → statement_of x ≡ t → read ≡ body →
    statements_in body ≡ f t → statements_in read ≡ f (statement_of s)
read_as f is tree same part =
    ap (λ (ss : Items Stmt). statements_in ss) same ∙ part ∙ ap (λ (u : Statement). f u) (sym (ap (λ (y : Stmt). statement_of y) is ∙ tree))
