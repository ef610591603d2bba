-- Lists of nodes with one more at the end, and their trees.
use Rattle.std.proofs.Common.{◌≡◌, ◌<◌, ◌≤◌, Bool, true, false, if◌then◌else◌, List, [], ◌∷◌, ◌++◌, length, Ok, Err, refl, sym, ap, ◌∙◌, arith}
use Rattle.std.specs.Prelude.{nat_le, Result, IfOk}
use Rattle.std.proofs.lemmas.Bool.Decides.{nat_tests}
use Rattle.template_compiler_tokens.specs.Token.{Token, bad_syntax}
use Rattle.template_compiler_tree.specs.declared.span.Span.{Span}
use Rattle.template_compiler_tree.specs.NodePlaces.{at, parts_more}
use Rattle.template_compiler_tree.specs.ExpressionPlaces.{places_of, places_in, places_of_argument, places_in_arguments, places_in_links}
use Rattle.template_compiler_grammar.specs.DerivedNodes.{and_place}
use Rattle.template_compiler_grammar.specs.Nodes.{placed, placed_in_order, Node, node, compared_node, PlacedWritten}
use Rattle.template_compiler_grammar.specs.Reader.{few_arguments}
use Rattle.template_compiler_grammar.specs.Views.{node_of, placed_arguments_in, placed_links_in}
use Rattle.template_compiler_grammar.proofs.Pushes.{placed_arguments_append}
use Rattle.template_compiler_tree.specs.Tree.{expressions_more, links_more, chain, arguments_more}
use Rattle.template_compiler_tree.specs.View.{expression_of, expressions_in, links_in, argument_of, arguments_in}
use Rattle.template_compiler_tree.specs.declared.calls.CallArg.{CallArg}
use Rattle.template_compiler_tree.specs.declared.expressions.CompareOp.{CompareOp}
use Rattle.template_compiler_tree.specs.declared.expressions.Expr.{Expr}
use Rattle.template_compiler_grammar.specs.Trees.{and_expression, and_link, and_argument, followed_by, argument_count, in_order}

pub expressions_push : (xs : List Expr) (x : Expr) → expressions_in (xs ++ x ∷ []) ≡ and_expression (expressions_in xs) (expression_of x)
expressions_push [] x = refl
expressions_push (y ∷ xs) x = ap (λ es. expressions_more (expression_of y) es) (expressions_push xs x)

pub places_push : (xs : List Expr) (x : Expr) → places_in (xs ++ x ∷ []) ≡ and_place (places_in xs) (places_of x)
places_push [] x = refl
places_push (y ∷ xs) x = ap (λ ps. parts_more (places_of y) ps) (places_push xs x)

pub argument_places_push : (xs : List CallArg) (x : CallArg) →
    places_in_arguments (xs ++ x ∷ []) ≡ and_place (places_in_arguments xs) (places_of_argument x)
argument_places_push [] x = refl
argument_places_push (y ∷ xs) x = ap (λ ps. parts_more (places_of_argument y) ps) (argument_places_push xs x)

pub links_push : (xs : List CompareOp) (x : CompareOp) → links_in (xs ++ x ∷ []) ≡ and_link (links_in xs) x.op (expression_of x.expr)
links_push [] x = refl
links_push (y ∷ xs) x = ap (λ ls. links_more y.op (expression_of y.expr) ls) (links_push xs x)

pub arguments_push : (xs : List CallArg) (x : CallArg) → arguments_in (xs ++ x ∷ []) ≡ and_argument (arguments_in xs) (argument_of x)
arguments_push [] x = refl
arguments_push (y ∷ xs) x = ap (λ args. arguments_more (argument_of y) args) (arguments_push xs x)

pub arguments_append : (xs ys : List CallArg) → arguments_in (xs ++ ys) ≡ followed_by (arguments_in xs) (arguments_in ys)
arguments_append [] ys = refl
arguments_append (x ∷ xs) ys = ap (λ args. arguments_more (argument_of x) args) (arguments_append xs ys)

pub arguments_count : (xs : List CallArg) → argument_count (arguments_in xs) ≡ length xs
arguments_count [] = refl
arguments_count (x ∷ xs) = let p = arguments_count xs in omega arith

-- not too many arguments
few_by : (spans : List Span) (w : PlacedWritten) (ts : List Token) (b : Bool) → nat_le (argument_count (in_order w.tree)) 2000 ≡ b →
    few_arguments spans w ts ≡ (if b then Ok (placed_in_order w, ts) else Err bad_syntax)
unfolding few_arguments
few_by spans w ts b e = ap (λ b. if b then Ok (placed_in_order w, ts) else Err bad_syntax) e

abbrev both : List CallArg → List CallArg → PlacedWritten
both xs ys = placed (arguments_in xs, arguments_in ys) (places_in_arguments xs, places_in_arguments ys)

pub few_in : (spans : List Span) (xs ys args : List CallArg) (ts : List Token) → args ≡ xs ++ ys → length args ≤ 2000 →
    few_arguments spans (both xs ys) ts ≡ Ok (placed_arguments_in args, ts)
few_in spans xs ys args ts e h =
    let n = arguments_count args in
    let whole : arguments_in args ≡ in_order (arguments_in xs, arguments_in ys) = ap arguments_in e ∙ arguments_append xs ys in
    let m = ap argument_count whole in
    let within : argument_count (in_order (arguments_in xs, arguments_in ys)) ≤ 2000 = omega arith in
    let few : nat_le (argument_count (in_order (arguments_in xs, arguments_in ys))) 2000 ≡ true = grind (arith, nat_tests) in
    few_by spans (both xs ys) ts true few ∙ ap (λ a. Ok (a, ts)) (sym (ap placed_arguments_in e ∙ placed_arguments_append xs ys))

pub few_over : (spans : List Span) (xs ys args : List CallArg) (ts : List Token) → args ≡ xs ++ ys → 2000 < length args →
    few_arguments spans (both xs ys) ts ≡ Err bad_syntax
few_over spans xs ys args ts e h =
    let n = arguments_count args in
    let whole : arguments_in args ≡ in_order (arguments_in xs, arguments_in ys) = ap arguments_in e ∙ arguments_append xs ys in
    let m = ap argument_count whole in
    let above : 2000 < argument_count (in_order (arguments_in xs, arguments_in ys)) = omega arith in
    let few : nat_le (argument_count (in_order (arguments_in xs, arguments_in ys))) 2000 ≡ false = grind (arith, nat_tests) in
    few_by spans (both xs ys) ts false few

-- two comparisons or more
pub compared_chain : (a : Node) (xs : List CompareOp) (span : Span) → 1 < length xs →
    compared_node a (placed_links_in xs) span ≡
    node (chain a.tree (links_in xs)) span (parts_more a.places (places_in_links xs))
compared_chain a [] span h = absurd (omega arith)
compared_chain a (x ∷ []) span h = absurd (omega arith)
compared_chain a (x ∷ y ∷ xs) span h = refl

pub compared_held : {E : Type 0} (a : Node) (xs : List CompareOp) (span : Span) (r : Result Expr E) → 1 < length xs →
    IfOk r (λ e. expression_of e ≡ chain a.tree (links_in xs)) →
    IfOk r (λ e. places_of e ≡ at span (parts_more a.places (places_in_links xs))) →
    IfOk r (λ e. node_of e ≡ compared_node a (placed_links_in xs) span)
compared_held a xs span (Ok e) h p q =
    ap (λ t. placed t (places_of e)) p ∙ ap (λ q. placed (chain a.tree (links_in xs)) q) q ∙ sym (compared_chain a xs span h)
compared_held a xs span (Err e) h p q = tt
