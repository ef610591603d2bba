-- Facts of left chains in the order of their code.
use Rattle.std.proofs.Common.{◌≡◌, ℕ, ◌+◌, ◌<◌, ◌≤◌, Bool, true, false, ◌&&◌, List, [], ◌∷◌, ◌++◌, map, reverse, Option, None, Some, Bor, Box, Global, refl, sym, ap, ◌∙◌, append_assoc, arith}
use Rattle.std.specs.Prelude.{IfSome, option_map}
use Rattle.std.proofs.lemmas.List.{reverse-append}
use denote.Hole.Carrier.{out}
use Rattle.template_compiler_tree.specs.Tree.{Expression, Arguments, filtered, attribute, call, variable, absent, given}
use Rattle.template_compiler_tree.specs.Kinds.{is_self_name, is_empty}
use Rattle.template_compiler_tree.specs.View.{expression_of, arguments_in, chain_of}
use Rattle.template_compiler_tree.specs.declared.span.Spanned.{Spanned}
use Rattle.template_compiler_tree.specs.declared.calls.Call.{Call as CallNode}
use Rattle.template_compiler_tree.specs.declared.expressions.Compare.{Compare, Compare' as compared, out-Compare}
use Rattle.template_compiler_tree.specs.declared.expressions.GetAttr.{GetAttr as GetAttrNode}
use Rattle.template_compiler_tree.specs.declared.expressions.Expr.{Expr, size-Expr, Var, GetAttr, Call, GetAttr', Compare'}
use Rattle.template_compiler_walk.specs.Expressions.{attribute_called}
use Rattle.template_compiler_expression_codegen.specs.Coded.{of_called, coded_spine, coded_left}
use Rattle.template_compiler_expression_codegen.proofs.Trees.{call_is}

-- the left part of a chain of comparisons
pub chain_left : (c : Compare) → ◌≡◌ {A = Option Expression} (Some (expression_of (out-Compare c).expr)) (coded_left (chain_of c))
unfolding out-Compare out
chain_left (compared expr shape ops) = refl

-- what is called where it is neither a name nor a method
pub value_left : (e : Expr) (args : Arguments) → ((n : _) → e ≡ Var n → ⊥) → ((n : Box (Spanned GetAttrNode) Global) → e ≡ GetAttr n → ⊥)
    → ◌≡◌ {A = Option Expression} (Some (expression_of e)) (coded_left (call (expression_of e) args))
value_left (Var n) args no_name no_method = absurd (no_name n refl)
value_left (GetAttr' p expr name span) args no_name no_method =
    absurd (no_method record { ptr = p.ptr; alloc = p.alloc; value = record { node = record { expr = expr; name = name }; span = span } } refl)
value_left (Compare' p (compared expr shape ops) span) args no_name no_method = refl
value_left _ args no_name no_method = refl

pub call_left : (e : Expr) (n : Box (Spanned CallNode) Global) (part : Expr) → e ≡ Call n → part ≡ n.value.node.expr
    → coded_left (call (expression_of part) (arguments_in n.value.node.args.items)) ≡ coded_left (expression_of e)
call_left e n part node read =
    ap (λ (x : Expr). coded_left (call (expression_of x) (arguments_in n.value.node.args.items))) read ∙
    ap (λ (t : Expression). coded_left t) (sym (call_is e n n.value.node node refl))

pub called_left : (e : Expr) (n : Box (Spanned CallNode) Global) (part : Expr) → e ≡ Call n → part ≡ n.value.node.expr
    → ((n : _) → part ≡ Var n → ⊥) → ((n : Box (Spanned GetAttrNode) Global) → part ≡ GetAttr n → ⊥)
    → ◌≡◌ {A = Option Expression} (Some (expression_of part)) (coded_left (expression_of e))
called_left e n part node read no_name no_method =
    value_left part (arguments_in n.value.node.args.items) no_name no_method ∙ call_left e n part node read

-- the object where a method is called; none where a block is
abbrev attribute_left : Bool → Box (Spanned GetAttrNode) Global → Option Expression
attribute_left b m =
    of_called (attribute_called b m.value.node.name.now) None (Some (expression_of m.value.node.expr)) (Some (expression_of (GetAttr m)))

pub method_left : (e : Expr) (m : Box (Spanned GetAttrNode) Global) (args : Arguments) → e ≡ GetAttr m
    → (is_self_name (expression_of m.value.node.expr) && is_empty args) ≡ false
    → ◌≡◌ {A = Option Expression} (Some (expression_of m.value.node.expr)) (coded_left (call (expression_of e) args))
method_left e m args node no_block =
    ap (λ (b : Bool). attribute_left b m) (sym no_block) ∙ ap (λ (x : Expr). coded_left (call (expression_of x) args)) (sym node)

pub block_left : (e : Expr) (m : Box (Spanned GetAttrNode) Global) (args : Arguments) → e ≡ GetAttr m
    → (is_self_name (expression_of m.value.node.expr) && is_empty args) ≡ true
    → ◌≡◌ {A = Option Expression} None (coded_left (call (expression_of e) args))
block_left e m args node is_block =
    ap (λ (b : Bool). attribute_left b m) (sym is_block) ∙ ap (λ (x : Expr). coded_left (call (expression_of x) args)) (sym node)

-- a left chain is the left part's and the expression
abbrev pub along_left : Option Expression → List Expression
along_left None = []
along_left (Some l) = coded_spine l

split_called : (b : Bool) (e t : Expression) (name : List ℕ) →
    of_called (attribute_called b name) [] (coded_spine e) (coded_spine (attribute e name)) ++ t ∷ []
    ≡ along_left (of_called (attribute_called b name) None (Some e) (Some (attribute e name))) ++ t ∷ []
split_called true e t name = refl
split_called false e t name = refl

spine_split : (t : Expression) → coded_spine t ≡ along_left (coded_left t) ++ t ∷ []
spine_split (filtered name absent args) = refl
spine_split (filtered name (given e) args) = refl
spine_split (call (variable name) args) = refl
spine_split (call (attribute e name) args) = split_called (is_self_name e && is_empty args) e (call (attribute e name) args) name
spine_split (call _ args) = refl
spine_split _ = refl

-- the left parts that are left
abbrev pub coded_along : Option (Bor Expr) → List Expression
coded_along o = along_left (option_map (λ (p : Bor Expr). expression_of p.now) o)

abbrev pub left_deep : Option (Bor Expr) → ℕ
left_deep None = 0
left_deep (Some part) = size-Expr part.now + 1

pub left_within : (o : Option (Bor Expr)) (m k : ℕ) → IfSome o (λ part. size-Expr part.now < m) → m ≤ k → left_deep o ≤ k + 1
left_within None m k smaller within = omega arith
left_within (Some part) m k smaller within = omega (arith, smaller, within)

-- one node more is passed
pub coded_more : (b : Bor Expr) (o next : Option (Bor Expr)) (passed new : List (Bor Expr)) (root : List Expression) → o ≡ Some b →
    new ≡ passed ++ b ∷ [] → option_map (λ (p : Bor Expr). expression_of p.now) next ≡ coded_left (expression_of b.now) →
    coded_along o ++ map (λ n. expression_of n.now) (reverse passed) ≡ root →
    coded_along next ++ map (λ n. expression_of n.now) (reverse new) ≡ root
coded_more b o next passed new root is grown left so_far =
    let t = expression_of b.now in
    let behind = map (λ (n : Bor Expr). expression_of n.now) (reverse passed) in
    let turned : map (λ (n : Bor Expr). expression_of n.now) (reverse (passed ++ b ∷ [])) ≡ t ∷ behind = rw (reverse-append passed (b ∷ [])) refl in
    let split : coded_spine t ≡ coded_along next ++ t ∷ [] = spine_split t ∙ ap (λ (l : Option Expression). along_left l ++ t ∷ []) (sym left) in
    let here : coded_spine t ++ behind ≡ root = ap (λ (x : Option (Bor Expr)). coded_along x ++ behind) (sym is) ∙ so_far in
    rw (grown, turned) (sym (append_assoc (coded_along next) (t ∷ []) behind) ∙ ap (λ (l : List Expression). l ++ behind) (sym split) ∙ here)

-- where no left part is left, all nodes are passed
pub coded_all : (o : Option (Bor Expr)) (passed new : List (Bor Expr)) (root : List Expression) → o ≡ None → new ≡ reverse passed →
    coded_along o ++ map (λ n. expression_of n.now) (reverse passed) ≡ root → map (λ n. expression_of n.now) new ≡ root
coded_all o passed new root is turned so_far =
    ap (λ (ns : List (Bor Expr)). map (λ (n : Bor Expr). expression_of n.now) ns) turned ∙
    ap (λ (x : Option (Bor Expr)). coded_along x ++ map (λ (n : Bor Expr). expression_of n.now) (reverse passed)) (sym is) ∙ so_far
