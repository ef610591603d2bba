-- How deep the bodies of statements are: the statements in a body are less deep than the statement that holds it.
use Rattle.std.proofs.Common.{◌≡◌, ℕ, zero, suc, ◌+◌, ◌*◌, ◌<◌, ◌≤◌, List as Items, [], ◌∷◌, length, get_or, Box, Global, rules, arith, ap}
use Rattle.template_compiler_tree.specs.declared.span.Spanned.{Spanned}
use Rattle.template_compiler_tree_statements.specs.declared.statements.AutoEscape.{AutoEscape as AutoEscapeNode}
use Rattle.template_compiler_tree_statements.specs.declared.statements.Block.{Block as BlockNode}
use Rattle.template_compiler_tree_statements.specs.declared.statements.CallBlock.{CallBlock as CallBlockNode, CallBlock' as called, out-CallBlock}
use Rattle.template_compiler_tree_statements.specs.declared.statements.FilterBlock.{FilterBlock as FilterBlockNode}
use Rattle.template_compiler_tree_statements.specs.declared.statements.ForLoop.{ForLoop as ForLoopNode}
use Rattle.template_compiler_tree_statements.specs.declared.statements.IfCond.{IfCond as IfCondNode}
use Rattle.template_compiler_tree_statements.specs.declared.statements.Macro.{Macro as MacroNode}
use Rattle.template_compiler_tree_statements.specs.declared.statements.SetBlock.{SetBlock as SetBlockNode}
use Rattle.template_compiler_tree_statements.specs.declared.statements.Template.{Template as TemplateNode}
use Rattle.template_compiler_tree_statements.specs.declared.statements.WithBlock.{WithBlock as WithBlockNode}
use Rattle.template_compiler_tree_statements.specs.declared.statements.Stmt.{Stmt, size-Stmt, AutoEscape, Block, CallBlock, FilterBlock, ForLoop, IfCond, Macro, SetBlock, Template, WithBlock, the_lemmas}
use Rattle.template_compiler_tree_parts.specs.Bodies.{body_deep}

pub deep_at : (xs : Items Stmt) (i : ℕ) (x : Stmt) → i < length xs → x ≡ get_or xs i x → size-Stmt x < body_deep xs
deep_at [] i x h read = absurd (omega (arith, h))
deep_at (y ∷ xs) zero x h read = let same : size-Stmt x ≡ size-Stmt y = ap (λ (s : Stmt). size-Stmt s) read in omega (arith, same)
deep_at (y ∷ xs) (suc i) x h read = let inner : size-Stmt x < body_deep xs = deep_at xs i x (omega (arith, h)) read in omega (arith, inner)

-- where each is less deep than a node, the list is at most as deep as that
all_below : (xs : Items Stmt) (m : ℕ) → ((i : ℕ) (d : Stmt) → i < length xs → size-Stmt (get_or xs i d) < m) → body_deep xs ≤ m
all_below [] m all = omega arith
all_below (x ∷ xs) m all =
    let first : size-Stmt x < m = all 0 x (omega arith) in
    let rest : body_deep xs ≤ m = all_below xs m (λ i d within. all (suc i) d (omega (arith, within))) in
    omega (arith, first, rest)

pub whole_deep : (n : Spanned TemplateNode) → body_deep n.node.children.items ≤ size-Stmt (Template n)
whole_deep n = all_below n.node.children.items (size-Stmt (Template n)) (λ i d h. search (rules, the_lemmas))

pub for_deep : (n : Box (Spanned ForLoopNode) Global) → body_deep n.value.node.body.items ≤ size-Stmt (ForLoop n)
for_deep n = all_below n.value.node.body.items (size-Stmt (ForLoop n)) (λ i d h. search (rules, the_lemmas))

pub for_other_deep : (n : Box (Spanned ForLoopNode) Global) → body_deep n.value.node.else_body.items ≤ size-Stmt (ForLoop n)
for_other_deep n = all_below n.value.node.else_body.items (size-Stmt (ForLoop n)) (λ i d h. search (rules, the_lemmas))

pub if_deep : (n : Box (Spanned IfCondNode) Global) → body_deep n.value.node.true_body.items ≤ size-Stmt (IfCond n)
if_deep n = all_below n.value.node.true_body.items (size-Stmt (IfCond n)) (λ i d h. search (rules, the_lemmas))

pub if_other_deep : (n : Box (Spanned IfCondNode) Global) → body_deep n.value.node.false_body.items ≤ size-Stmt (IfCond n)
if_other_deep n = all_below n.value.node.false_body.items (size-Stmt (IfCond n)) (λ i d h. search (rules, the_lemmas))

pub with_deep : (n : Box (Spanned WithBlockNode) Global) → body_deep n.value.node.body.items ≤ size-Stmt (WithBlock n)
with_deep n = all_below n.value.node.body.items (size-Stmt (WithBlock n)) (λ i d h. search (rules, the_lemmas))

pub set_block_deep : (n : Box (Spanned SetBlockNode) Global) → body_deep n.value.node.body.items ≤ size-Stmt (SetBlock n)
set_block_deep n = all_below n.value.node.body.items (size-Stmt (SetBlock n)) (λ i d h. search (rules, the_lemmas))

pub escape_deep : (n : Box (Spanned AutoEscapeNode) Global) → body_deep n.value.node.body.items ≤ size-Stmt (AutoEscape n)
escape_deep n = all_below n.value.node.body.items (size-Stmt (AutoEscape n)) (λ i d h. search (rules, the_lemmas))

pub filter_block_deep : (n : Box (Spanned FilterBlockNode) Global) → body_deep n.value.node.body.items ≤ size-Stmt (FilterBlock n)
filter_block_deep n = all_below n.value.node.body.items (size-Stmt (FilterBlock n)) (λ i d h. search (rules, the_lemmas))

pub block_deep : (n : Box (Spanned BlockNode) Global) → body_deep n.value.node.body.items ≤ size-Stmt (Block n)
block_deep n = all_below n.value.node.body.items (size-Stmt (Block n)) (λ i d h. search (rules, the_lemmas))

pub macro_deep : (n : Box (Spanned MacroNode) Global) → body_deep n.value.node.body.items ≤ size-Stmt (Macro n)
macro_deep n = all_below n.value.node.body.items (size-Stmt (Macro n)) (λ i d h. search (rules, the_lemmas))

-- a call's body is its macro's
with_value : Box (Spanned CallBlockNode) Global → CallBlockNode → Box (Spanned CallBlockNode) Global
with_value n v = record { ptr = n.ptr; alloc = n.alloc; value = record { node = v; span = n.value.span } }

call_by : (n : Box (Spanned CallBlockNode) Global) (v : CallBlockNode) →
    body_deep (out-CallBlock v).macro_decl.value.node.body.items ≤ size-Stmt (CallBlock (with_value n v))
unfolding with_value out-CallBlock
call_by n (called call q name args defaults shape body inner) = all_below _ _ (λ i d h. search (rules, the_lemmas))

pub call_deep : (n : Box (Spanned CallBlockNode) Global) →
    body_deep (out-CallBlock n.value.node).macro_decl.value.node.body.items ≤ size-Stmt (CallBlock n)
unfolding with_value
call_deep n = call_by n n.value.node

-- what is read of a node, where a statement is that node
pub deep_as : {s x : Stmt} {read body : Items Stmt} → s ≡ x → read ≡ body → body_deep body ≤ size-Stmt x → body_deep read ≤ size-Stmt s
deep_as {s} {x} {read} {body} is same deep =
    let size : size-Stmt s ≡ size-Stmt x = ap (λ (y : Stmt). size-Stmt y) is in
    let list : body_deep read ≡ body_deep body = ap (λ (ss : Items Stmt). body_deep ss) same in
    omega (arith, size, list, deep)

-- measures of the walk: a body in a statement, and a statement in a body
pub body_falls : (d s r t : ℕ) → d ≤ s → s ≤ r → 2 * r + 1 ≡ t → 2 * d < t
body_falls d s r t less within is = omega (arith, less, within, is)

pub item_falls : (m d t : ℕ) → m < d → 2 * d ≡ t → 2 * m + 1 < t
item_falls m d t within is = omega (arith, within, is)
