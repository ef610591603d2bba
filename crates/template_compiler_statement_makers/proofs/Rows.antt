-- The statements of a body are seen alike in its row and in its list.
use Rattle.std.proofs.Common.{◌≡◌, refl, ap}
use Rattle.template_compiler_tree.specs.NodePlaces.{Parts, no_parts, parts_more, and_parts}
use Rattle.template_compiler_tree.specs.Tree.{statements_more}
use Rattle.template_compiler_tree_statements.specs.View.{statement_of, statements_of}
use Rattle.template_compiler_tree_statements.specs.declared.statements.Stmt.{Row_of-Stmt, end_of-Stmt, more_of-Stmt, items-the_row-Stmt}
use Rattle.template_compiler_grammar.specs.TreeStatements.{places_of_statements, statement_places, statements_places}
use Rattle.template_compiler_statement_makers.specs.Listed.{statements_in}

pub statements_row : {n : _} (k : Row_of-Stmt n) → statements_of k ≡ statements_in (items-the_row-Stmt n k)
statements_row end_of-Stmt = refl
statements_row (more_of-Stmt s rest) = ap (λ ss. statements_more (statement_of s) ss) (statements_row rest)

pub places_row : {n : _} (k : Row_of-Stmt n) → statements_places k ≡ places_of_statements (items-the_row-Stmt n k)
places_row end_of-Stmt = refl
places_row (more_of-Stmt s rest) = ap (λ ps. parts_more (statement_places s) ps) (places_row rest)

pub ruleset nodes_row = (statements_row, places_row)

-- parts behind others, and others behind both
pub parts_behind : (ps qs rs : Parts) → and_parts (and_parts ps qs) rs ≡ and_parts ps (and_parts qs rs)
parts_behind no_parts qs rs = refl
parts_behind (parts_more p ps) qs rs = ap (λ ts. parts_more p ts) (parts_behind ps qs rs)
