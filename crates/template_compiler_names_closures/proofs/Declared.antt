-- What a macro uses of what surrounds it, by the lists that are read from its node.
use Rattle.std.proofs.Common.{◌≡◌, ℕ, Bool, true, false, not, ◌&&◌, ◌||◌, List as Items, codes, bytes_eq, cond, refl, sym, ap, ◌∙◌}
use Rattle.template_compiler_tree.specs.Tree.{Expressions, Statements, no_expressions}
use Rattle.template_compiler_tree.specs.View.{expressions_in}
use Rattle.template_compiler_tree.specs.declared.expressions.Expr.{Expr}
use Rattle.template_compiler_tree_statements.specs.declared.statements.Stmt.{Stmt}
use Rattle.template_compiler_tree_parts.specs.Listed.{statements_in}
use Rattle.template_compiler_names.specs.Names.{Places, anywhere, is_stored_everywhere, is_stored_in_one, place_of_arguments, place_within, reversed}
use Rattle.template_compiler_names.specs.Enclosed.{encloses}
use Rattle.template_compiler_names.proofs.Laws.{turned}
use Rattle.template_compiler_names_statements.specs.Stores.{backwards}
use Rattle.template_compiler_names_statements.proofs.Storing.{used_by_arguments}

abbrev pub declared_place : Places → Expressions → Expressions → Statements → Bool
declared_place q arguments defaults body =
    place_of_arguments q (reversed arguments no_expressions) (reversed defaults no_expressions) (place_within q body)

pub declared_uses : (q : Places) {arguments arguments' defaults defaults' : Items Expr} {body body' : Items Stmt} →
    arguments ≡ arguments' → defaults ≡ defaults' → body ≡ body' →
    (place_of_arguments q (backwards arguments) (backwards defaults) false
    || (not (is_stored_in_one q.name (backwards arguments)) && place_within q (statements_in body)))
    ≡ declared_place q (expressions_in arguments') (expressions_in defaults') (statements_in body')
declared_uses q {arguments} {arguments'} {defaults} {defaults'} {body} {body'} xs ds bodies =
    sym (used_by_arguments q (backwards arguments) (backwards defaults) (place_within q (statements_in body))) ∙
    ap (λ (es : Items Expr). declared_place q (expressions_in es) (expressions_in defaults) (statements_in body)) xs ∙
    ap (λ (es : Items Expr). declared_place q (expressions_in arguments') (expressions_in es) (statements_in body)) ds ∙
    ap (λ (ss : Items Stmt). declared_place q (expressions_in arguments') (expressions_in defaults') (statements_in ss)) bodies

-- `caller` is taken from the names that are used
without_caller : (c e p : Bool) → cond c false (not e && p) ≡ (not e && (not c && p))
without_caller true true p = refl
without_caller true false p = refl
without_caller false e p = refl

pub enclosed_of : (arguments defaults : Expressions) (body : Statements) (q : Items ℕ) (used : Bool) →
    used ≡ (not (is_stored_everywhere q) && declared_place (anywhere q) arguments defaults body) →
    cond (bytes_eq (codes "caller") q) false used ≡ encloses arguments defaults body q
enclosed_of arguments defaults body q used same =
    ap (λ b. cond (bytes_eq (codes "caller") q) false b) same ∙
    without_caller (bytes_eq (codes "caller") q) (is_stored_everywhere q) (declared_place (anywhere q) arguments defaults body) ∙
    ap (λ c. not (is_stored_everywhere q) && (not c && declared_place (anywhere q) arguments defaults body)) (turned (codes "caller") q)
