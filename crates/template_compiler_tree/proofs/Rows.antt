-- The parts of a node are seen alike, and stand alike, in its row and in its list.
use Rattle.std.proofs.Common.{◌≡◌, refl, ap}
use Rattle.template_compiler_tree.specs.Tree.{expressions_more, links_more, arguments_more}
use Rattle.template_compiler_tree.specs.View.{expression_of, expressions_of, expressions_in, links_of, links_in, argument_of, arguments_of, arguments_in}
use Rattle.template_compiler_tree.specs.ExpressionPlaces.{places_of, places_of_items, places_in, places_of_links, places_in_links, places_of_argument, places_of_arguments, places_in_arguments}
use Rattle.template_compiler_tree.specs.NodePlaces.{parts_more}
use Rattle.template_compiler_tree.specs.declared.expressions.Expr.{Row_of-Expr, end_of-Expr, more_of-Expr, items-the_row-Expr, Row_of-CallArg, end_of-CallArg, more_of-CallArg, items-the_row-CallArg}
use Rattle.template_compiler_tree.specs.declared.expressions.Compare.{Row_of-CompareOp, end_of-CompareOp, more_of-CompareOp, items-the_row-CompareOp}

pub expressions_row : {n : _} (k : Row_of-Expr n) → expressions_of k ≡ expressions_in (items-the_row-Expr n k)
expressions_row end_of-Expr = refl
expressions_row (more_of-Expr e rest) = ap (λ es. expressions_more (expression_of e) es) (expressions_row rest)

pub links_row : {n : _} (k : Row_of-CompareOp n) → links_of k ≡ links_in (items-the_row-CompareOp n k)
links_row end_of-CompareOp = refl
links_row (more_of-CompareOp op e rest) = ap (λ ls. links_more op (expression_of e) ls) (links_row rest)

pub arguments_row : {n : _} (k : Row_of-CallArg n) → arguments_of k ≡ arguments_in (items-the_row-CallArg n k)
arguments_row end_of-CallArg = refl
arguments_row (more_of-CallArg a rest) = ap (λ args. arguments_more (argument_of a) args) (arguments_row rest)

pub places_row : {n : _} (k : Row_of-Expr n) → places_of_items k ≡ places_in (items-the_row-Expr n k)
places_row end_of-Expr = refl
places_row (more_of-Expr e rest) = ap (λ ps. parts_more (places_of e) ps) (places_row rest)

pub link_places_row : {n : _} (k : Row_of-CompareOp n) → places_of_links k ≡ places_in_links (items-the_row-CompareOp n k)
link_places_row end_of-CompareOp = refl
link_places_row (more_of-CompareOp op e rest) = ap (λ ps. parts_more (places_of e) ps) (link_places_row rest)

pub argument_places_row : {n : _} (k : Row_of-CallArg n) → places_of_arguments k ≡ places_in_arguments (items-the_row-CallArg n k)
argument_places_row end_of-CallArg = refl
argument_places_row (more_of-CallArg a rest) = ap (λ ps. parts_more (places_of_argument a) ps) (argument_places_row rest)
