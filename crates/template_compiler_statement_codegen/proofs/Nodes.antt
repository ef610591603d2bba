-- The trees of nodes, from the parts that a node holds, and how deep those are.
use Rattle.std.proofs.Common.{◌≡◌, ℕ, ◌<◌, true, Option, List, length, get_or, Box, Global, rules, refl, sym, ap, ◌∙◌, arith, [], ◌∷◌}
use Rattle.template_compiler_tree.specs.Tree.{Expression, Optional, Statement, Statements, absent, given, for_loop, with_block, set_block, auto_escape, filter_block, no_statements, statements_more}
use Rattle.template_compiler_tree_statements.specs.View.{assignments_in, statement_of}
use Rattle.template_compiler_tree.specs.View.{expression_of, optional_in}
use Rattle.template_compiler_tree.specs.declared.calls.Call.{Call as CallNode}
use Rattle.template_compiler_tree.specs.declared.expressions.Expr.{Expr}
use Rattle.template_compiler_tree.specs.declared.span.Spanned.{Spanned}
use Rattle.template_compiler_tree_statements.specs.declared.statements.AutoEscape.{AutoEscape as AutoEscapeNode}
use Rattle.template_compiler_tree_statements.specs.declared.statements.CallBlock.{CallBlock as CallBlockNode, CallBlock' as called, out-CallBlock}
use Rattle.template_compiler_tree_statements.specs.declared.statements.Macro.{Macro as MacroNode}
use Rattle.template_compiler_tree_statements.specs.declared.statements.FilterBlock.{FilterBlock as FilterBlockNode}
use Rattle.template_compiler_tree_statements.specs.declared.statements.ForLoop.{ForLoop as ForLoopNode}
use Rattle.template_compiler_tree_statements.specs.declared.statements.IfCond.{IfCond as IfCondNode}
use Rattle.template_compiler_tree_statements.specs.declared.statements.SetBlock.{SetBlock as SetBlockNode}
use Rattle.template_compiler_tree_statements.specs.declared.statements.WithBlock.{WithBlock as WithBlockNode}
use Rattle.template_compiler_tree_statements.specs.declared.statements.Stmt.{Stmt, AutoEscape, CallBlock, FilterBlock, ForLoop, IfCond, Macro, SetBlock, WithBlock, size-Stmt, the_lemmas}
use Rattle.template_compiler_tree_parts.proofs.Rows.{statements_row}
use Rattle.template_compiler_tree_parts.proofs.Trees.{escape_tree, for_tree, if_tree, with_tree}
use Rattle.template_compiler_walk.specs.Runnable.{IsTarget, IsRunnableStatement, AreRunnableStatements}
use Rattle.template_compiler_tree_parts.specs.Listed.{statements_in}
use Rattle.template_compiler_statement_codegen.specs.Macros.{call_block_of, macro_of}
use Rattle.template_compiler_statement_codegen.specs.Filtered.{AreFiltersIfGiven}
use Rattle.template_compiler_statement_codegen.specs.Listed.{IsRunnableTree, body_deep, condition_deep, condition_of}
use Rattle.template_compiler_statement_codegen.proofs.Bodies.{body_below}

-- a call's block is no whole template
with_value : Box (Spanned CallBlockNode) Global → CallBlockNode → Box (Spanned CallBlockNode) Global
with_value n v = record { ptr = n.ptr; alloc = n.alloc; value = record { node = v; span = n.value.span } }

tree_by : (n : Box (Spanned CallBlockNode) Global) (v : CallBlockNode) → IsRunnableTree (statement_of (CallBlock (with_value n v))) → ⊥
unfolding with_value
tree_by n (called call q name args defaults shape body inner) h = h

pub call_no_tree : (n : Box (Spanned CallBlockNode) Global) → IsRunnableTree (statement_of (CallBlock n)) → ⊥
unfolding with_value
call_no_tree n h = tree_by n n.value.node h

-- a macro, and a call block: their trees, and the body that is smaller than the node
macro_tree : (n : Box (Spanned MacroNode) Global) → statement_of (Macro n) ≡ macro_of n.value.node
macro_tree n = search (rules, the_lemmas, statements_row)

pub macro_is : (s : Stmt) (n : Box (Spanned MacroNode) Global) (m : MacroNode) → s ≡ Macro n → m ≡ n.value.node → statement_of s ≡ macro_of m
macro_is s n m node read = ap (λ (x : Stmt). statement_of x) node ∙ macro_tree n ∙ ap (λ (x : MacroNode). macro_of x) (sym read)

macro_body_smaller : (n : Box (Spanned MacroNode) Global) (i : ℕ) (d : Stmt) → i < length n.value.node.body.items
    → size-Stmt (get_or n.value.node.body.items i d) < size-Stmt (Macro n)
macro_body_smaller n i d h = search (rules, the_lemmas)

macro_positive : (n : Box (Spanned MacroNode) Global) → 0 < size-Stmt (Macro n)
macro_positive n = search (rules, the_lemmas)

pub macro_deep : (s : Stmt) (n : Box (Spanned MacroNode) Global) (body : List Stmt) → s ≡ Macro n → body ≡ n.value.node.body.items
    → body_deep body < size-Stmt s
macro_deep s n body node read = rw (node, read) (body_below n.value.node.body.items (size-Stmt (Macro n)) (macro_positive n) (macro_body_smaller n))

-- what a node of a call block holds
abbrev pub call_in : Box (Spanned CallBlockNode) Global → Spanned CallNode
call_in n = (out-CallBlock n.value.node).call.value

abbrev pub macro_in : Box (Spanned CallBlockNode) Global → Spanned MacroNode
macro_in n = (out-CallBlock n.value.node).macro_decl.value

block_by : (n : Box (Spanned CallBlockNode) Global) (v : CallBlockNode)
    → statement_of (CallBlock (with_value n v)) ≡ call_block_of (call_in (with_value n v)).node (macro_in (with_value n v)).node
unfolding with_value out-CallBlock
block_by n (called call q name args defaults shape body inner) = search (rules, the_lemmas, statements_row)

pub call_block_is : (s : Stmt) (n : Box (Spanned CallBlockNode) Global) (c : Spanned CallNode) (m : Spanned MacroNode) → s ≡ CallBlock n
    → c ≡ call_in n → m ≡ macro_in n → statement_of s ≡ call_block_of c.node m.node
unfolding with_value
call_block_is s n c m node call macro =
    ap (λ (x : Stmt). statement_of x) node ∙ block_by n n.value.node ∙
    ap (λ (x : Spanned CallNode). call_block_of x.node (macro_in n).node) (sym call) ∙
    ap (λ (x : Spanned MacroNode). call_block_of c.node x.node) (sym macro)

block_below : (n : Box (Spanned CallBlockNode) Global) (v : CallBlockNode)
    → body_deep (macro_in (with_value n v)).node.body.items < size-Stmt (CallBlock (with_value n v))
unfolding with_value out-CallBlock
block_below n (called call q name args defaults shape body inner) =
    body_below _ _ (search (rules, the_lemmas)) (λ i d h. search (rules, the_lemmas))

pub call_block_deep : (s : Stmt) (n : Box (Spanned CallBlockNode) Global) (m : Spanned MacroNode) → s ≡ CallBlock n → m ≡ macro_in n
    → body_deep m.node.body.items < size-Stmt s
unfolding with_value
call_block_deep s n m node read = rw (node, read) (block_below n n.value.node)

-- bodies are smaller than the node
true_body_smaller : (n : Box (Spanned IfCondNode) Global) (i : ℕ) (d : Stmt) → i < length n.value.node.true_body.items
    → size-Stmt (get_or n.value.node.true_body.items i d) < size-Stmt (IfCond n)
true_body_smaller n i d h = search (rules, the_lemmas)

false_body_smaller : (n : Box (Spanned IfCondNode) Global) (i : ℕ) (d : Stmt) → i < length n.value.node.false_body.items
    → size-Stmt (get_or n.value.node.false_body.items i d) < size-Stmt (IfCond n)
false_body_smaller n i d h = search (rules, the_lemmas)

condition_positive : (n : Box (Spanned IfCondNode) Global) → 0 < size-Stmt (IfCond n)
condition_positive n = search (rules, the_lemmas)

pub condition_smaller : (n : Box (Spanned IfCondNode) Global) → condition_deep n.value.node < size-Stmt (IfCond n)
condition_smaller n =
    omega (
      arith,
      body_below n.value.node.true_body.items (size-Stmt (IfCond n)) (condition_positive n) (true_body_smaller n),
      body_below n.value.node.false_body.items (size-Stmt (IfCond n)) (condition_positive n) (false_body_smaller n),
    )

loop_body_smaller : (n : Box (Spanned ForLoopNode) Global) (i : ℕ) (d : Stmt) → i < length n.value.node.body.items
    → size-Stmt (get_or n.value.node.body.items i d) < size-Stmt (ForLoop n)
loop_body_smaller n i d h = search (rules, the_lemmas)

loop_other_smaller : (n : Box (Spanned ForLoopNode) Global) (i : ℕ) (d : Stmt) → i < length n.value.node.else_body.items
    → size-Stmt (get_or n.value.node.else_body.items i d) < size-Stmt (ForLoop n)
loop_other_smaller n i d h = search (rules, the_lemmas)

loop_positive : (n : Box (Spanned ForLoopNode) Global) → 0 < size-Stmt (ForLoop n)
loop_positive n = search (rules, the_lemmas)

pub loop_deep : (s : Stmt) (n : Box (Spanned ForLoopNode) Global) (body : List Stmt) → s ≡ ForLoop n → body ≡ n.value.node.body.items
    → body_deep body < size-Stmt s
loop_deep s n body node read = rw (node, read) (body_below n.value.node.body.items (size-Stmt (ForLoop n)) (loop_positive n) (loop_body_smaller n))

pub loop_other_deep : (s : Stmt) (n : Box (Spanned ForLoopNode) Global) (body : List Stmt) → s ≡ ForLoop n → body ≡ n.value.node.else_body.items
    → body_deep body < size-Stmt s
loop_other_deep s n body node read =
    rw (node, read) (body_below n.value.node.else_body.items (size-Stmt (ForLoop n)) (loop_positive n) (loop_other_smaller n))

with_body_smaller : (n : Box (Spanned WithBlockNode) Global) (i : ℕ) (d : Stmt) → i < length n.value.node.body.items
    → size-Stmt (get_or n.value.node.body.items i d) < size-Stmt (WithBlock n)
with_body_smaller n i d h = search (rules, the_lemmas)

with_positive : (n : Box (Spanned WithBlockNode) Global) → 0 < size-Stmt (WithBlock n)
with_positive n = search (rules, the_lemmas)

pub with_deep : (s : Stmt) (n : Box (Spanned WithBlockNode) Global) (body : List Stmt) → s ≡ WithBlock n → body ≡ n.value.node.body.items
    → body_deep body < size-Stmt s
with_deep s n body node read = rw (node, read) (body_below n.value.node.body.items (size-Stmt (WithBlock n)) (with_positive n) (with_body_smaller n))

set_block_smaller : (n : Box (Spanned SetBlockNode) Global) (i : ℕ) (d : Stmt) → i < length n.value.node.body.items
    → size-Stmt (get_or n.value.node.body.items i d) < size-Stmt (SetBlock n)
set_block_smaller n i d h = search (rules, the_lemmas)

set_block_positive : (n : Box (Spanned SetBlockNode) Global) → 0 < size-Stmt (SetBlock n)
set_block_positive n = search (rules, the_lemmas)

pub set_block_deep : (s : Stmt) (n : Box (Spanned SetBlockNode) Global) (body : List Stmt) → s ≡ SetBlock n → body ≡ n.value.node.body.items
    → body_deep body < size-Stmt s
set_block_deep s n body node read =
    rw (node, read) (body_below n.value.node.body.items (size-Stmt (SetBlock n)) (set_block_positive n) (set_block_smaller n))

filter_block_smaller : (n : Box (Spanned FilterBlockNode) Global) (i : ℕ) (d : Stmt) → i < length n.value.node.body.items
    → size-Stmt (get_or n.value.node.body.items i d) < size-Stmt (FilterBlock n)
filter_block_smaller n i d h = search (rules, the_lemmas)

filter_block_positive : (n : Box (Spanned FilterBlockNode) Global) → 0 < size-Stmt (FilterBlock n)
filter_block_positive n = search (rules, the_lemmas)

pub filter_block_deep : (s : Stmt) (n : Box (Spanned FilterBlockNode) Global) (body : List Stmt) → s ≡ FilterBlock n → body ≡ n.value.node.body.items
    → body_deep body < size-Stmt s
filter_block_deep s n body node read =
    rw (node, read) (body_below n.value.node.body.items (size-Stmt (FilterBlock n)) (filter_block_positive n) (filter_block_smaller n))

escape_body_smaller : (n : Box (Spanned AutoEscapeNode) Global) (i : ℕ) (d : Stmt) → i < length n.value.node.body.items
    → size-Stmt (get_or n.value.node.body.items i d) < size-Stmt (AutoEscape n)
escape_body_smaller n i d h = search (rules, the_lemmas)

escape_positive : (n : Box (Spanned AutoEscapeNode) Global) → 0 < size-Stmt (AutoEscape n)
escape_positive n = search (rules, the_lemmas)

pub escape_deep : (s : Stmt) (n : Box (Spanned AutoEscapeNode) Global) (body : List Stmt) → s ≡ AutoEscape n → body ≡ n.value.node.body.items
    → body_deep body < size-Stmt s
escape_deep s n body node read =
    rw (node, read) (body_below n.value.node.body.items (size-Stmt (AutoEscape n)) (escape_positive n) (escape_body_smaller n))

-- an else part that is one condition alone
alone_as : (ss : List Stmt) (s d : Stmt) → length ss ≡ 1 → s ≡ get_or ss 0 d → ss ≡ s ∷ []
alone_as [] s d one read = cc
alone_as (x ∷ []) s d one read = ap (λ (y : Stmt). y ∷ []) (sym read)
alone_as (x ∷ y ∷ ss) s d one read = absurd (omega (arith, one))

pub elif_tree : (ss : List Stmt) (s : Stmt) (n : Box (Spanned IfCondNode) Global) (c : IfCondNode) → length ss ≡ 1 → s ≡ get_or ss 0 s → s ≡ IfCond n
    → c ≡ n.value.node → statements_in ss ≡ statements_more (condition_of c) no_statements
elif_tree ss s n c one read node value =
    ap (λ (l : List Stmt). statements_in l) (alone_as ss s s one read) ∙
    ap (λ (x : Stmt). statements_more (statement_of x) no_statements) node ∙
    ap (λ (x : Statement). statements_more x no_statements) (if_tree n) ∙
    ap (λ (x : IfCondNode). statements_more (condition_of x) no_statements) (sym value)

pub elif_smaller : (ss : List Stmt) (s : Stmt) (n : Box (Spanned IfCondNode) Global) (c : IfCondNode) → length ss ≡ 1 → s ≡ get_or ss 0 s → s ≡ IfCond n
    → c ≡ n.value.node → condition_deep c < body_deep ss
elif_smaller ss s n c one read node value =
    let whole : body_deep ss ≡ body_deep (IfCond n ∷ []) =
    ap (λ (l : List Stmt). body_deep l) (alone_as ss s s one read) ∙ ap (λ (x : Stmt). body_deep (x ∷ [])) node in
    let same : condition_deep c ≡ condition_deep n.value.node = ap (λ (x : IfCondNode). condition_deep x) value in
    omega (arith, condition_smaller n, whole, same)

-- a condition, a loop, a body in a frame, a body with an escape: their trees from what a node holds
pub condition_is : (s : Stmt) (n : Box (Spanned IfCondNode) Global) (c : IfCondNode) → s ≡ IfCond n → c ≡ n.value.node → statement_of s ≡ condition_of c
condition_is s n c node read =
    ap (λ (x : Stmt). statement_of x) node ∙ if_tree n ∙ ap (λ (x : IfCondNode). condition_of x) (sym read)

pub condition_within : (s : Stmt) (n : Box (Spanned IfCondNode) Global) (c : IfCondNode) → s ≡ IfCond n → c ≡ n.value.node → condition_deep c < size-Stmt s
condition_within s n c node read = rw (node, read) (condition_smaller n)

abbrev pub loop_of : ForLoopNode → Statement
loop_of l =
    for_loop (expression_of l.target) (expression_of l.iter) (optional_in l.filter_expr) l.recursive (statements_in l.body.items)
    (statements_in l.else_body.items)

pub loop_is : (s : Stmt) (n : Box (Spanned ForLoopNode) Global) (l : ForLoopNode) → s ≡ ForLoop n → l ≡ n.value.node → statement_of s ≡ loop_of l
loop_is s n l node read = ap (λ (x : Stmt). statement_of x) node ∙ for_tree n ∙ ap (λ (x : ForLoopNode). loop_of x) (sym read)

-- the parts of a block that runs are runnable
pub set_block_runs : (target : Expression) (filters : Optional) (body : Statements) → IsRunnableStatement true (set_block target filters body)
    → IsTarget target × AreFiltersIfGiven filters × AreRunnableStatements true body
set_block_runs target absent body h = (h.0, tt, h.1)
set_block_runs target (given filters) body h = (h.1, h.0, h.2)

set_block_tree : (n : Box (Spanned SetBlockNode) Global) → statement_of (SetBlock n)
    ≡ set_block (expression_of n.value.node.target) (optional_in n.value.node.filter) (statements_in n.value.node.body.items)
set_block_tree n = search (rules, the_lemmas, statements_row)

pub set_block_is : (s : Stmt) (n : Box (Spanned SetBlockNode) Global) (target : Expr) (filters : Option Expr) (body : List Stmt) → s ≡ SetBlock n
    → target ≡ n.value.node.target → filters ≡ n.value.node.filter → body ≡ n.value.node.body.items
    → statement_of s ≡ set_block (expression_of target) (optional_in filters) (statements_in body)
set_block_is s n target filters body node t f b = ap (λ (x : Stmt). statement_of x) node ∙ set_block_tree n ∙ rw (t, f, b) refl

filter_block_tree : (n : Box (Spanned FilterBlockNode) Global) → statement_of (FilterBlock n)
    ≡ filter_block (expression_of n.value.node.filter) (statements_in n.value.node.body.items)
filter_block_tree n = search (rules, the_lemmas, statements_row)

pub filter_block_is : (s : Stmt) (n : Box (Spanned FilterBlockNode) Global) (filters : Expr) (body : List Stmt) → s ≡ FilterBlock n
    → filters ≡ n.value.node.filter → body ≡ n.value.node.body.items → statement_of s ≡ filter_block (expression_of filters) (statements_in body)
filter_block_is s n filters body node f b = ap (λ (x : Stmt). statement_of x) node ∙ filter_block_tree n ∙ rw (f, b) refl

pub with_is : (s : Stmt) (n : Box (Spanned WithBlockNode) Global) (pairs : List (Expr × Expr)) (body : List Stmt) → s ≡ WithBlock n
    → pairs ≡ n.value.node.assignments.items → body ≡ n.value.node.body.items
    → statement_of s ≡ with_block (assignments_in pairs) (statements_in body)
with_is s n pairs body node p b =
    ap (λ (x : Stmt). statement_of x) node ∙ with_tree n ∙
    ap (λ (x : List (Expr × Expr)). with_block (assignments_in x) (statements_in n.value.node.body.items)) (sym p) ∙
    ap (λ (x : List Stmt). with_block (assignments_in pairs) (statements_in x)) (sym b)

pub escape_is : (s : Stmt) (n : Box (Spanned AutoEscapeNode) Global) (enabled : Expr) (body : List Stmt) → s ≡ AutoEscape n
    → enabled ≡ n.value.node.enabled → body ≡ n.value.node.body.items → statement_of s ≡ auto_escape (expression_of enabled) (statements_in body)
escape_is s n enabled body node e b =
    ap (λ (x : Stmt). statement_of x) node ∙ escape_tree n ∙
    ap (λ (x : Expr). auto_escape (expression_of x) (statements_in n.value.node.body.items)) (sym e) ∙
    ap (λ (x : List Stmt). auto_escape (expression_of enabled) (statements_in x)) (sym b)
