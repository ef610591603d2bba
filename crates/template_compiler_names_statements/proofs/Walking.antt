-- What statements use and store, by their parts.
use Rattle.std.proofs.Common.{◌≡◌, ◌<◌, ℕ, length, get_or, Bool, true, false, not, ◌&&◌, ◌||◌, List as Items, [], ◌∷◌, codes, bytes_eq, Result, Ok, Err, OnOk, Box, Global, rules, arith, refl, sym, ap, ◌∙◌}
use Rattle.template_compiler_tree.specs.Tree.{Statement}
use Rattle.template_compiler_tree.specs.View.{expression_of, expressions_in}
use Rattle.template_compiler_tree_statements.specs.View.{statement_of}
use Rattle.template_compiler_tree.specs.declared.span.Spanned.{Spanned}
use Rattle.template_compiler_tree_statements.specs.declared.statements.IfCond.{IfCond as IfCondNode}
use Rattle.template_compiler_tree_statements.specs.declared.statements.Stmt.{Stmt, size-Stmt, IfCond, the_lemmas}
use Rattle.template_compiler_tree_parts.specs.Listed.{statements_in}
use Rattle.template_compiler_tree_parts.proofs.Trees.{if_tree}
use Rattle.template_compiler_names.specs.Names.{Places, is_stored_by, is_stored_in_one, place_by, place_of_arguments, place_of_macro, place_within, place_in}
use Rattle.template_compiler_names.specs.declared.state.Names.{Names}
use Rattle.template_compiler_names_statements.specs.Choices.{choice_of}
use Rattle.template_compiler_names.specs.Among.{just, nothing}
use Rattle.template_compiler_names.specs.Goes.{Goes}
use Rattle.template_compiler_names_statements.specs.Stores.{backwards}
use Rattle.template_compiler_names.proofs.Laws.{and_false, or_false, turned, uses_as, uses_then}
use Rattle.template_compiler_names_statements.proofs.Storing.{used_by_arguments}

behind : (c a k u : Bool) → ((not c && a) || (not (c || k) && u)) ≡ (not c && (a || (not k && u)))
behind true a k u = refl
behind false a k u = refl

pub macro_uses : (q : Places) (arguments defaults : Items _) (u : Bool) →
    ((not (just (codes "caller") q.name) && place_of_arguments q (backwards arguments) (backwards defaults) false)
    || (not (just (codes "caller") q.name || is_stored_in_one q.name (backwards arguments)) && u))
    ≡ place_of_macro q (expressions_in arguments) (expressions_in defaults) u
macro_uses q arguments defaults u =
    let xs = backwards arguments in
    let ds = backwards defaults in
    behind (just (codes "caller") q.name) (place_of_arguments q xs ds false) (is_stored_in_one q.name xs) u ∙
    ap (λ b. not (just (codes "caller") q.name) && b) (sym (used_by_arguments q xs ds u)) ∙
    ap (λ b. not b && place_of_arguments q xs ds u) (turned (codes "caller") q.name)

-- chains of `elif`
if_uses : (q : Places) (n : Box (Spanned IfCondNode) Global) →
    ((place_in q (expression_of n.value.node.expr) || place_within q (statements_in n.value.node.true_body.items)) ||
    place_within q (statements_in n.value.node.false_body.items)) ≡ place_by q (choice_of n)
if_uses q n = ap (λ (t : Statement). place_by q t) (sym (if_tree n))

abbrev pub Tested : Box (Spanned IfCondNode) Global → Names → Names → Type 0
Tested n a b =
    Goes (λ q. place_in q (expression_of n.value.node.expr) || place_within q (statements_in n.value.node.true_body.items)) nothing a b

pub chain_end : {T E : Type 0} {G : Names → Type 0} (n : Box (Spanned IfCondNode) Global) (read : Items Stmt) (a b c : Names) (r : Result T E) →
    ((d : Names) → Goes (λ q. place_by q (choice_of n)) nothing a d → G d) → Tested n a b → read ≡ n.value.node.false_body.items →
    OnOk r (Goes (λ q. place_within q (statements_in read)) nothing b c) → OnOk r (G c)
chain_end n read a b c (Ok value) ends step same rest =
    ends c (uses_as (λ q. if_uses q n)
    (uses_then a b c step (uses_as (λ q. ap (λ (ss : Items Stmt). place_within q (statements_in ss)) same) rest)))
chain_end n read a b c (Err error) ends step same rest = tt

only_place : (q : Places) (body : Items Stmt) (m : Box (Spanned IfCondNode) Global) (s : Stmt) → length body ≡ 1 → s ≡ get_or body 0 s → s ≡ IfCond m →
    place_by q (choice_of m) ≡ place_within q (statements_in body)
only_place q [] m s one read is = absurd (omega (arith, one))
only_place q (x ∷ []) m s one read is =
    ap (λ (y : Stmt). place_by q (statement_of y)) (sym is ∙ read) ∙
    sym (ap (λ b. place_by q (statement_of x) || b) (and_false (not (is_stored_by q.name (statement_of x)))) ∙ or_false (place_by q (statement_of x)))
only_place q (x ∷ y ∷ body) m s one read is = absurd (omega (arith, one))

pub chain_goes : {G : Names → Type 0} (n m : Box (Spanned IfCondNode) Global) (s : Stmt) (a b : Names) → length n.value.node.false_body.items ≡ 1 →
    s ≡ get_or n.value.node.false_body.items 0 s → s ≡ IfCond m → ((c : Names) → Goes (λ q. place_by q (choice_of n)) nothing a c → G c) → Tested n a b →
    (c : Names) → Goes (λ q. place_by q (choice_of m)) nothing b c → G c
chain_goes n m s a b one read is ends step c rest =
    ends c (uses_as
    (λ q.
    ap (λ x. (place_in q (expression_of n.value.node.expr) || place_within q (statements_in n.value.node.true_body.items)) || x)
    (only_place q n.value.node.false_body.items m s one read is) ∙ if_uses q n)
    (uses_then a b c step rest))

body_below : (n : Box (Spanned IfCondNode) Global) (i : ℕ) (d : Stmt) → i < length n.value.node.false_body.items
    → size-Stmt (get_or n.value.node.false_body.items i d) < size-Stmt (IfCond n)
body_below n i d within = search (rules, the_lemmas)

pub else_below : (n m : Box (Spanned IfCondNode) Global) (s : Stmt) → length n.value.node.false_body.items ≡ 1 →
    s ≡ get_or n.value.node.false_body.items 0 s → s ≡ IfCond m → size-Stmt (IfCond m) < size-Stmt (IfCond n)
else_below n m s one read is =
    let less = body_below n 0 s (omega (arith, one)) in
    let same : size-Stmt (get_or n.value.node.false_body.items 0 s) ≡ size-Stmt (IfCond m) = ap (λ (x : Stmt). size-Stmt x) (sym read ∙ is) in
    omega (arith, less, same)

-- a loop: its list, and what stands before its body there, the body and the else part
looped : (e t s f l b o : Bool) → ((e || ((t || not s && f) || (not (s || l) && b))) || o) ≡ (((e || t) || (not s && (f || (not l && b)))) || o)
looped true t s f l b o = refl
looped false true s f l b o = refl
looped false false true f l b o = refl
looped false false false true l b o = refl
looped false false false false l b o = refl

pub loop_uses : (q : Places) (e t s f b o : Bool) →
    ((e || ((t || not s && f) || (not (s || just (codes "loop") q.name) && b))) || o) ≡ (e || t || not s && (f || not (bytes_eq q.name (codes "loop")) && b) || o)
loop_uses q e t s f b o =
    looped e t s f (just (codes "loop") q.name) b o ∙
    ap (λ l. ((e || t) || (not s && (f || (not l && b)))) || o) (turned (codes "loop") q.name)
