-- What targets, assignments, imports and arguments use and store, one behind the other.
use Rattle.std.proofs.Common.{◌≡◌, ℕ, zero, suc, ◌+◌, ◌-◌, ◌<◌, ◌≤◌, Bool, true, false, not, ◌&&◌, ◌||◌, List as Items, [], ◌∷◌, ◌++◌, length, take, get_or, Option, None, Some, Box, Global, refl, sym, ap, ◌∙◌, arith}
use Rattle.std.proofs.lemmas.List.{take_more}
use Rattle.template_compiler_tree.specs.Tree.{Expression, Expressions, no_expressions, expressions_more, Assignments, no_assignments, assignments_more}
use Rattle.template_compiler_tree.specs.View.{expression_of, expressions_in, optional_in}
use Rattle.template_compiler_tree_statements.specs.View.{imports_in}
use Rattle.template_compiler_tree.specs.declared.span.Spanned.{Spanned}
use Rattle.template_compiler_tree.specs.declared.expressions.Compare.{Compare}
use Rattle.template_compiler_tree.specs.declared.expressions.List.{List as ListNode}
use Rattle.template_compiler_tree.specs.declared.expressions.Expr.{Expr, Compare as CompareNode, List}
use Rattle.template_compiler_tree_parts.proofs.Trees.{chain_tree, list_tree}
use Rattle.template_compiler_names.specs.Names.{Places, is_imported, is_stored_in, is_stored_in_one, place_of_arguments, place_in_target, place_in_targets, place_from, reversed, place_in}
use Rattle.template_compiler_names.specs.declared.state.Names.{Names}
use Rattle.template_compiler_names.specs.Among.{nothing}
use Rattle.template_compiler_names.specs.Goes.{Goes, no_place}
use Rattle.template_compiler_names_statements.specs.Stores.{backwards, place_in_first, is_assigned, is_bound}
use Rattle.template_compiler_names.proofs.Laws.{goes_as, goes_nowhere, goes_then, or_assoc, or_false}

-- a list of targets, and an expression that is no target
pub stored_list : (q : Items ℕ) (e : Expr) (n : Box (Spanned ListNode) Global) → e ≡ List n →
    is_stored_in_one q (expressions_in n.value.node.items.items) ≡ is_stored_in q (expression_of e)
stored_list q e n node =
    sym (ap (λ (x : Expr). is_stored_in q (expression_of x)) node ∙ ap (λ (t : Expression). is_stored_in q t) (list_tree n))

pub used_list : (q : Places) (e : Expr) (n : Box (Spanned ListNode) Global) → e ≡ List n →
    place_in_targets q (expressions_in n.value.node.items.items) ≡ place_in_target q (expression_of e)
used_list q e n node =
    sym (ap (λ (x : Expr). place_in_target q (expression_of x)) node ∙ ap (λ (t : Expression). place_in_target q t) (list_tree n))

pub stored_chain : (q : Items ℕ) (e : Expr) (n : Box (Spanned Compare) Global) → e ≡ CompareNode n → false ≡ is_stored_in q (expression_of e)
stored_chain q e n node =
    sym (ap (λ (x : Expr). is_stored_in q (expression_of x)) node ∙ ap (λ (t : Expression). is_stored_in q t) (chain_tree n.value.node))

pub used_chain : (q : Places) (e : Expr) (n : Box (Spanned Compare) Global) → e ≡ CompareNode n → false ≡ place_in_target q (expression_of e)
used_chain q e n node =
    sym (ap (λ (x : Expr). place_in_target q (expression_of x)) node ∙ ap (λ (t : Expression). place_in_target q t) (chain_tree n.value.node))

-- an expression that is no target: it stores nothing, and as a target it uses nothing
pub stores_none : {e x : Expr} (a : Names) → e ≡ x → ((q : Items ℕ) → false ≡ is_stored_in q (expression_of x)) →
    Goes no_place (λ q. is_stored_in q (expression_of e)) a a
stores_none a is none =
    goes_as (λ q. refl) (λ q. none q ∙ ap (λ (y : Expr). is_stored_in q (expression_of y)) (sym is)) (goes_nowhere a)

pub assigns_none : {e x : Expr} (a : Names) → e ≡ x → ((q : Places) → false ≡ place_in_target q (expression_of x)) →
    ((q : Items ℕ) → false ≡ is_stored_in q (expression_of x)) →
    Goes (λ q. place_in_target q (expression_of e)) (λ q. is_stored_in q (expression_of e)) a a
assigns_none a is unused none =
    goes_as (λ q. unused q ∙ ap (λ (y : Expr). place_in_target q (expression_of y)) (sym is))
    (λ q. none q ∙ ap (λ (y : Expr). is_stored_in q (expression_of y)) (sym is)) (goes_nowhere a)

pub none_used : (s : Bool) → (false || (not s && false)) ≡ false
none_used true = refl
none_used false = refl

-- imports
pub import_more : (x : Expr × Option Expr) (xs : Items (Expr × Option Expr)) (q : Items ℕ) →
    (is_bound q (expression_of x.0) (optional_in x.1) || is_imported q (imports_in xs)) ≡ is_imported q (imports_in (x ∷ xs))
import_more (name, None) xs q = refl
import_more (name, Some alias) xs q = refl

-- assignments with what follows them
and_or : (s v k f : Bool) → (not s && (v || (not k && f))) ≡ ((not s && v) || (not (s || k) && f))
and_or true v k f = refl
and_or false v k f = refl

pub used_from : (q : Places) (more : Assignments) (follows : Bool) →
    place_from q more follows ≡ (place_from q more false || (not (is_assigned q.name more) && follows))
used_from q no_assignments follows = refl
used_from q (assignments_more target e more) follows =
    let here = place_in q e || place_in_target q target in
    let s = is_stored_in q.name target in
    ap (λ b. here || (not s && b)) (used_from q more follows) ∙
    ap (λ b. here || b) (and_or s (place_from q more false) (is_assigned q.name more) follows) ∙
    or_assoc here (not s && place_from q more false) (not (s || is_assigned q.name more) && follows)

-- arguments, from the last to the first
rest_of : Expressions → Expressions
rest_of no_expressions = no_expressions
rest_of (expressions_more e es) = es

arguments_step : (q : Places) (x : Expression) (xs defaults : Expressions) (body : Bool) →
    (place_in_first q defaults || (not (is_stored_in q.name x) && place_of_arguments q xs (rest_of defaults) body))
    ≡ place_of_arguments q (expressions_more x xs) defaults body
unfolding rest_of
arguments_step q x xs no_expressions body = refl
arguments_step q x xs (expressions_more e es) body = refl

pub used_by_arguments : (q : Places) (arguments defaults : Expressions) (body : Bool) →
    place_of_arguments q arguments defaults body
    ≡ (place_of_arguments q arguments defaults false || (not (is_stored_in_one q.name arguments) && body))
unfolding rest_of
used_by_arguments q no_expressions defaults body = refl
used_by_arguments q (expressions_more x xs) no_expressions body =
    ap (λ b. not (is_stored_in q.name x) && b) (used_by_arguments q xs no_expressions body) ∙
    and_or (is_stored_in q.name x) (place_of_arguments q xs no_expressions false) (is_stored_in_one q.name xs) body
used_by_arguments q (expressions_more x xs) (expressions_more e es) body =
    let s = is_stored_in q.name x in
    ap (λ b. place_in q e || (not s && b)) (used_by_arguments q xs es body) ∙
    ap (λ b. place_in q e || b) (and_or s (place_of_arguments q xs es false) (is_stored_in_one q.name xs) body) ∙
    or_assoc (place_in q e) (not s && place_of_arguments q xs es false) (not (s || is_stored_in_one q.name xs) && body)

reversed_push : (xs : Items Expr) (x : Expr) (b : Expressions) →
    reversed (expressions_in (xs ++ x ∷ [])) b ≡ expressions_more (expression_of x) (reversed (expressions_in xs) b)
reversed_push [] x b = refl
reversed_push (y ∷ xs) x b = reversed_push xs x (expressions_more (expression_of y) b)

pub backwards_last : (xs : Items Expr) (i : ℕ) (x : Expr) → i < length xs → x ≡ get_or xs i x →
    backwards (take (i + 1) xs) ≡ expressions_more (expression_of x) (backwards (take i xs))
backwards_last xs i x within read =
    ap (λ (es : Items Expr). backwards es) (take_more xs i x within) ∙
    ap (λ (y : Expr). backwards (take i xs ++ y ∷ [])) (sym read) ∙ reversed_push (take i xs) x no_expressions

pub backwards_none : (xs : Items Expr) → backwards (take 0 xs) ≡ no_expressions
backwards_none xs = refl

rest_backwards : (xs : Items Expr) (given later : ℕ) → given ≤ length xs → later ≡ given - 1 → rest_of (backwards (take given xs)) ≡ backwards (take later xs)
unfolding rest_of
rest_backwards xs zero later within is = ap (λ (n : ℕ). backwards (take n xs)) (sym is)
rest_backwards [] (suc k) later within is = absurd (omega (arith, within))
rest_backwards (x ∷ xs) (suc k) later within is =
    let d = get_or (x ∷ xs) k x in
    let one : suc k ≡ k + 1 = omega arith in
    let same : later ≡ k = omega (arith, is) in
    ap (λ (n : ℕ). rest_of (backwards (take n (x ∷ xs)))) one ∙
    ap rest_of (ap (λ (es : Items Expr). backwards es) (take_more (x ∷ xs) k x (omega (arith, within))) ∙ reversed_push (take k (x ∷ xs)) d no_expressions) ∙
    ap (λ (n : ℕ). backwards (take n (x ∷ xs))) (sym same)

pub argument_ends : {G : Names → Type 0} (arguments defaults : Items Expr) (at before given later : ℕ) (x : Expr) (a b d : Names) →
    at ≡ before + 1 → before < length arguments → given ≤ length defaults → later ≡ given - 1 → x ≡ get_or arguments before x →
    ((c : Names) → Goes (λ q. place_of_arguments q (backwards (take at arguments)) (backwards (take given defaults)) false)
    (λ q. is_stored_in_one q (backwards (take at arguments))) a c → G c) →
    Goes (λ q. place_in_first q (backwards (take given defaults))) nothing a b → Goes no_place (λ q. is_stored_in q (expression_of x)) b d →
    (c : Names) → Goes (λ q. place_of_arguments q (backwards (take before arguments)) (backwards (take later defaults)) false)
    (λ q. is_stored_in_one q (backwards (take before arguments))) d c → G c
argument_ends arguments defaults at before given later x a b d one within fits next read ends uses stores c rest =
    let tree = ap (λ (n : ℕ). backwards (take n arguments)) one ∙ backwards_last arguments before x within read in
    let defaulted = backwards (take given defaults) in
    let left = rest_backwards defaults given later fits next in
    let t = expression_of x in
    let behind = backwards (take before arguments) in
    ends c (goes_as
    (λ q.
    ap (λ f. f || (not (is_stored_in q.name t) && place_of_arguments q behind (backwards (take later defaults)) false)) (or_false (place_in_first q defaulted)) ∙
    ap (λ (es : Expressions). place_in_first q defaulted || (not (is_stored_in q.name t) && place_of_arguments q behind es false)) (sym left) ∙
    arguments_step q t behind defaulted false ∙ ap (λ (es : Expressions). place_of_arguments q es defaulted false) (sym tree))
    (λ q. ap (λ (es : Expressions). is_stored_in_one q es) (sym tree))
    (goes_then a d c (goes_then a b d uses stores) rest))

-- no argument is left
pub arguments_end : {G : Names → Type 0} (arguments : Items Expr) (defaults : Expressions) (at : ℕ) (a : Names) → at ≤ 0 →
    ((c : Names) → Goes (λ q. place_of_arguments q (backwards (take at arguments)) defaults false)
    (λ q. is_stored_in_one q (backwards (take at arguments))) a c → G c) → G a
arguments_end arguments defaults at a past ends =
    let none : at ≡ 0 = omega (arith, past) in
    let tree : backwards (take at arguments) ≡ no_expressions = ap (λ (n : ℕ). backwards (take n arguments)) none in
    ends a (goes_as (λ q. ap (λ (es : Expressions). place_of_arguments q es defaults false) (sym tree))
    (λ q. ap (λ (es : Expressions). is_stored_in_one q es) (sym tree)) (goes_nowhere a))
