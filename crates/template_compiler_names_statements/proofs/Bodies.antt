-- Walks of statements seen by their trees.
use Rattle.std.proofs.Common.{◌≡◌, ◌==◌, ℕ, Bool, true, false, Result, OnOk, List as Items, [], ◌∷◌, length, arith, refl, sym, ap, ◌∙◌}
use Rattle.std.proofs.lemmas.Bool.Decides.{nat_tests}
use Rattle.template_compiler_tree.specs.Tree.{Statement}
use Rattle.template_compiler_tree.specs.View.{expressions_in}
use Rattle.template_compiler_tree_statements.specs.View.{statement_of}
use Rattle.template_compiler_tree.specs.declared.expressions.Expr.{Expr}
use Rattle.template_compiler_tree_statements.specs.declared.statements.Stmt.{Stmt}
use Rattle.template_compiler_tree_parts.specs.Listed.{statements_in}
use Rattle.template_compiler_names.specs.Names.{Places, is_stored_by, place_by, place_of_macro, place_within}
use Rattle.template_compiler_names.specs.declared.state.Names.{Names}
use Rattle.template_compiler_names.specs.Among.{Among, nothing}
use Rattle.template_compiler_names.specs.Goes.{Goes}
use Rattle.template_compiler_names.proofs.Laws.{goes_as, goes_nowhere, goes_on, uses_as}

-- a walk of a node is one of the statement that it stands in
pub at_node : {T E : Type 0} {s x : Stmt} (a b : Names) (r : Result T E) → s ≡ x → ((q : Items ℕ) → false ≡ is_stored_by q (statement_of x)) →
    OnOk r (Goes (λ q. place_by q (statement_of x)) nothing a b) → OnOk r (Goes (λ q. place_by q (statement_of s)) (λ q. is_stored_by q (statement_of s)) a b)
at_node a b r is none goes =
    goes_on a b r (λ q. ap (λ (y : Stmt). place_by q (statement_of y)) (sym is))
    (λ q. none q ∙ ap (λ (y : Stmt). is_stored_by q (statement_of y)) (sym is)) goes

-- and one of what its tree uses and stores is a walk of the statement
pub at_tree : {T E : Type 0} {u : Places → Bool} {k : Among} (s : Stmt) (t : Statement) (a b : Names) (r : Result T E) → statement_of s ≡ t →
    ((q : Places) → u q ≡ place_by q t) → ((q : Items ℕ) → k q ≡ is_stored_by q t) → OnOk r (Goes u k a b) →
    OnOk r (Goes (λ q. place_by q (statement_of s)) (λ q. is_stored_by q (statement_of s)) a b)
at_tree s t a b r tree uses stores goes =
    goes_on a b r (λ q. uses q ∙ ap (λ (x : Statement). place_by q x) (sym tree)) (λ q. stores q ∙ ap (λ (x : Statement). is_stored_by q x) (sym tree)) goes

-- an arm of the match on it, by what is seen of its node
pub at_arm : {T E : Type 0} {u : Places → Bool} {k : Among} {s x : Stmt} (a b : Names) (r : Result T E) → s ≡ x →
    ((q : Places) → u q ≡ place_by q (statement_of x)) → ((q : Items ℕ) → k q ≡ is_stored_by q (statement_of x)) → OnOk r (Goes u k a b) →
    OnOk r (Goes (λ q. place_by q (statement_of s)) (λ q. is_stored_by q (statement_of s)) a b)
at_arm a b r is uses stores goes =
    goes_on a b r (λ q. uses q ∙ ap (λ (y : Stmt). place_by q (statement_of y)) (sym is))
    (λ q. stores q ∙ ap (λ (y : Stmt). is_stored_by q (statement_of y)) (sym is)) goes

pub at_none : {s x : Stmt} (a : Names) → s ≡ x → ((q : Places) → false ≡ place_by q (statement_of x)) →
    ((q : Items ℕ) → false ≡ is_stored_by q (statement_of x)) →
    Goes (λ q. place_by q (statement_of s)) (λ q. is_stored_by q (statement_of s)) a a
at_none a is uses stores =
    goes_as (λ q. uses q ∙ ap (λ (y : Stmt). place_by q (statement_of y)) (sym is))
    (λ q. stores q ∙ ap (λ (y : Stmt). is_stored_by q (statement_of y)) (sym is)) (goes_nowhere a)

-- a macro, by the lists that are read from its node
pub macro_reads : (q : Places) {body body' : Items Stmt} {arguments arguments' defaults defaults' : Items Expr} →
    body ≡ body' → arguments ≡ arguments' → defaults ≡ defaults' →
    place_of_macro q (expressions_in arguments) (expressions_in defaults) (place_within q (statements_in body))
    ≡ place_of_macro q (expressions_in arguments') (expressions_in defaults') (place_within q (statements_in body'))
macro_reads q {body} {body'} {arguments} {arguments'} {defaults} {defaults'} bodies xs ds =
    ap (λ (ss : Items Stmt). place_of_macro q (expressions_in arguments) (expressions_in defaults) (place_within q (statements_in ss))) bodies ∙
    ap (λ (es : Items Expr). place_of_macro q (expressions_in es) (expressions_in defaults) (place_within q (statements_in body'))) xs ∙
    ap (λ (es : Items Expr). place_of_macro q (expressions_in arguments') (expressions_in es) (place_within q (statements_in body'))) ds

-- a region without statements
no_body : (q : Places) (body : Items Stmt) → (length body == 0) ≡ true → false ≡ place_within q (statements_in body)
no_body q [] none = refl
no_body q (s ∷ ss) none = let zero : length (s ∷ ss) ≡ 0 = grind (arith, nat_tests) in absurd (omega (arith, zero))

pub empty_region : (a : Names) (body : Items Stmt) → (length body == 0) ≡ true → Goes (λ q. place_within q (statements_in body)) nothing a a
empty_region a body none = uses_as (λ q. no_body q body none) (goes_nowhere a)
