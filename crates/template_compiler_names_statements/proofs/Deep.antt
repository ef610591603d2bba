-- How deep lists are: what a node holds is less deep than the node.
use Rattle.std.proofs.Common.{◌≡◌, ℕ, zero, suc, ◌+◌, ◌*◌, ◌<◌, ◌≤◌, max, List as Items, [], ◌∷◌, length, get_or, Box, Global, rules, arith, ap}
use Rattle.template_compiler_tree.specs.declared.expressions.BinOp.{BinOp as BinOpNode}
use Rattle.template_compiler_tree.specs.declared.expressions.Compare.{Compare, out-Compare}
use Rattle.template_compiler_tree.specs.declared.expressions.CompareOp.{CompareOp}
use Rattle.template_compiler_tree.specs.declared.expressions.GetItem.{GetItem as GetItemNode}
use Rattle.template_compiler_tree.specs.declared.expressions.IfExpr.{IfExpr as IfExprNode}
use Rattle.template_compiler_tree.specs.declared.expressions.List.{List as ListNode}
use Rattle.template_compiler_tree.specs.declared.expressions.Map.{Map as MapNode}
use Rattle.template_compiler_tree.specs.declared.expressions.Tuple.{Tuple as TupleNode}
use Rattle.template_compiler_tree.specs.declared.expressions.UnaryOp.{UnaryOp as UnaryOpNode}
use Rattle.template_compiler_tree.specs.declared.expressions.Expr.{Expr, size-Expr, BinOp, Compare as CompareNode, GetItem, IfExpr, List, Map, Tuple, UnaryOp, the_lemmas as expressions}
use Rattle.template_compiler_tree.specs.declared.span.Spanned.{Spanned}

abbrev pub deepest : {A : Type 0} → (A → ℕ) → Items A → ℕ
deepest deep [] = 0
deepest deep (x ∷ xs) = max (deep x) (deepest deep xs)

pub deep_at : {A : Type 0} (deep : A → ℕ) (xs : Items A) (i : ℕ) (x : A) → i < length xs → x ≡ get_or xs i x → deep x ≤ deepest deep xs
deep_at deep [] i x h read = absurd (omega (arith, h))
deep_at deep (y ∷ xs) zero x h read = let same : deep x ≡ deep y = ap deep read in omega (arith, same)
deep_at deep (y ∷ xs) (suc i) x h read = let inner : deep x ≤ deepest deep xs = deep_at deep xs i x (omega (arith, h)) read in omega (arith, inner)

-- where all are less deep than a number, so is the deepest one
pub all_below : {A : Type 0} (deep : A → ℕ) (xs : Items A) (m : ℕ) → 0 < m → ((i : ℕ) (d : A) → i < length xs → deep (get_or xs i d) < m) → deepest deep xs < m
all_below deep [] m h all = h
all_below deep (x ∷ xs) m h all =
    let first : deep x < m = all 0 x (omega arith) in
    let rest : deepest deep xs < m = all_below deep xs m h (λ i d within. all (suc i) d (omega (arith, within))) in
    omega (arith, first, rest)

-- measures of the walk of statements: a body, a node, and the statements of a body
pub body_falls : (d s t : ℕ) → d ≤ s → 8 * s + 5 ≡ t → 8 * d + 1 < t
body_falls d s t less is = omega (arith, less, is)

pub part_falls : (d s t : ℕ) → d ≤ s → 8 * s + 4 ≡ t → 8 * d + 1 < t
part_falls d s t less is = omega (arith, less, is)

pub part_falls_within : (d s r t : ℕ) → d ≤ s → s ≤ r → 8 * r + 4 ≡ t → 8 * d + 1 < t
part_falls_within d s r t less within is = omega (arith, less, within, is)

pub region_falls : (d s t : ℕ) → d ≤ s → 8 * s + 4 ≡ t → 8 * d < t
region_falls d s t less is = omega (arith, less, is)

pub node_falls : (m s t : ℕ) → s ≡ m → 8 * s + 5 ≡ t → 8 * m + 4 < t
node_falls m s t same is = omega (arith, same, is)

pub known_node_falls : (m s t : ℕ) → s ≡ m → 8 * s + 6 ≡ t → 8 * m + 4 < t
known_node_falls m s t same is = omega (arith, same, is)

pub item_falls : (m d t : ℕ) → m < d → 8 * d ≡ t → 8 * m + 6 < t
item_falls m d t within is = omega (arith, within, is)

pub inside_falls : (d t : ℕ) → 8 * d + 1 ≡ t → 8 * d < t
inside_falls d t is = omega (arith, is)

abbrev pub items_deep : Items Expr → ℕ
items_deep items = deepest size-Expr items

abbrev pub links_deep : Items CompareOp → ℕ
links_deep links = deepest (λ (link : CompareOp). size-Expr link.expr) links

-- measures of the walk of expressions: an item, a list of them, and a part of a node
pub expression_falls : (m d t : ℕ) → m ≤ d → 6 * d + 4 ≡ t → 6 * m + 3 < t
expression_falls m d t within is = omega (arith, within, is)

pub list_falls : (d s t : ℕ) → d < s → 6 * s ≡ t → 6 * d + 4 < t
list_falls d s t less is = omega (arith, less, is)

pub operand_falls : (m s t : ℕ) → m < s → 6 * s ≡ t → 6 * m + 3 < t
operand_falls m s t less is = omega (arith, less, is)

-- and an operand of one of its left parts
pub part_operand_falls : (m s t : ℕ) → m < s → 6 * s + 1 ≡ t → 6 * m + 3 < t
part_operand_falls m s t less is = omega (arith, less, is)

list_below : (n : Box (Spanned ListNode) Global) → items_deep n.value.node.items.items < size-Expr (List n)
list_below n = all_below size-Expr n.value.node.items.items (size-Expr (List n)) (search (rules, expressions)) (λ i d h. search (rules, expressions))

pub list_deep : (e : Expr) (n : Box (Spanned ListNode) Global) (items : Items Expr) → e ≡ List n → items ≡ n.value.node.items.items → items_deep items < size-Expr e
list_deep e n items node read = rw (node, read) (list_below n)

tuple_below : (n : Box (Spanned TupleNode) Global) → items_deep n.value.node.items.items < size-Expr (Tuple n)
tuple_below n = all_below size-Expr n.value.node.items.items (size-Expr (Tuple n)) (search (rules, expressions)) (λ i d h. search (rules, expressions))

pub tuple_deep : (e : Expr) (n : Box (Spanned TupleNode) Global) (items : Items Expr) → e ≡ Tuple n → items ≡ n.value.node.items.items → items_deep items < size-Expr e
tuple_deep e n items node read = rw (node, read) (tuple_below n)

keys_below : (n : Box (Spanned MapNode) Global) → items_deep n.value.node.keys.items < size-Expr (Map n)
keys_below n = all_below size-Expr n.value.node.keys.items (size-Expr (Map n)) (search (rules, expressions)) (λ i d h. search (rules, expressions))

pub keys_deep : (e : Expr) (n : Box (Spanned MapNode) Global) (items : Items Expr) → e ≡ Map n → items ≡ n.value.node.keys.items → items_deep items < size-Expr e
keys_deep e n items node read = rw (node, read) (keys_below n)

values_below : (n : Box (Spanned MapNode) Global) → items_deep n.value.node.values.items < size-Expr (Map n)
values_below n = all_below size-Expr n.value.node.values.items (size-Expr (Map n)) (search (rules, expressions)) (λ i d h. search (rules, expressions))

pub values_deep : (e : Expr) (n : Box (Spanned MapNode) Global) (items : Items Expr) → e ≡ Map n → items ≡ n.value.node.values.items → items_deep items < size-Expr e
values_deep e n items node read = rw (node, read) (values_below n)

links_below : (n : Box (Spanned Compare) Global) → links_deep (out-Compare n.value.node).ops.items < size-Expr (CompareNode n)
links_below n =
    all_below (λ (link : CompareOp). size-Expr link.expr) (out-Compare n.value.node).ops.items (size-Expr (CompareNode n)) (search (rules, expressions))
    (λ i d h. search (rules, expressions))

pub chain_deep : (e : Expr) (n : Box (Spanned Compare) Global) (links : Items CompareOp) → e ≡ CompareNode n → links ≡ (out-Compare n.value.node).ops.items →
    links_deep links < size-Expr e
chain_deep e n links node read = rw (node, read) (links_below n)

operand_below : (n : Box (Spanned UnaryOpNode) Global) → size-Expr n.value.node.expr < size-Expr (UnaryOp n)
operand_below n = search (rules, expressions)

pub operand_deep : (e : Expr) (n : Box (Spanned UnaryOpNode) Global) (x : Spanned UnaryOpNode) → e ≡ UnaryOp n → x ≡ n.value → size-Expr x.node.expr < size-Expr e
operand_deep e n x node read = rw (node, read) (operand_below n)

right_below : (n : Box (Spanned BinOpNode) Global) → size-Expr n.value.node.right < size-Expr (BinOp n)
right_below n = search (rules, expressions)

pub right_deep : (e : Expr) (n : Box (Spanned BinOpNode) Global) (x : Spanned BinOpNode) → e ≡ BinOp n → x ≡ n.value → size-Expr x.node.right < size-Expr e
right_deep e n x node read = rw (node, read) (right_below n)

test_below : (n : Box (Spanned IfExprNode) Global) → size-Expr n.value.node.test_expr < size-Expr (IfExpr n)
test_below n = search (rules, expressions)

pub test_deep : (e : Expr) (n : Box (Spanned IfExprNode) Global) (x : Spanned IfExprNode) → e ≡ IfExpr n → x ≡ n.value → size-Expr x.node.test_expr < size-Expr e
test_deep e n x node read = rw (node, read) (test_below n)

branch_below : (n : Box (Spanned IfExprNode) Global) → size-Expr n.value.node.true_expr < size-Expr (IfExpr n)
branch_below n = search (rules, expressions)

pub branch_deep : (e : Expr) (n : Box (Spanned IfExprNode) Global) (x : Spanned IfExprNode) → e ≡ IfExpr n → x ≡ n.value → size-Expr x.node.true_expr < size-Expr e
branch_deep e n x node read = rw (node, read) (branch_below n)

subscript_below : (n : Box (Spanned GetItemNode) Global) → size-Expr n.value.node.subscript_expr < size-Expr (GetItem n)
subscript_below n = search (rules, expressions)

pub subscript_deep : (e : Expr) (n : Box (Spanned GetItemNode) Global) (x : Spanned GetItemNode) → e ≡ GetItem n → x ≡ n.value → size-Expr x.node.subscript_expr < size-Expr e
subscript_deep e n x node read = rw (node, read) (subscript_below n)
