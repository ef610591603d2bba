-- What is left ends as all does.
use Rattle.std.proofs.Common.{◌≡◌, ◌+◌, ◌*◌, ◌≤◌, [], drop}
use Rattle.std.specs.Prelude.{false}
use Rattle.template_compiler_tree.specs.View.{expression_of, expressions_in, links_in, arguments_in}
use Rattle.template_compiler_tree.specs.declared.expressions.Expr.{size-Expr}
use Rattle.template_compiler_names.specs.Names.{place_in, place_in_one, place_in_links, place_in_arguments}
use Rattle.template_compiler_names.specs.declared.state.Names.{Names}
use Rattle.template_compiler_names.specs.Among.{nothing}
use Rattle.template_compiler_names.specs.Dotted.{fields_of}
use Rattle.template_compiler_names.specs.Goes.{Goes}
use Rattle.template_compiler_names_statements.specs.Parts.{left_place, left_deep}
use Rattle.template_compiler_names_statements.proofs.Deep.{items_deep, links_deep}
use Rattle.template_compiler_names_statements.proofs.expressions.+expression.Given as goal

abbrev pub decreases-use_expression : goal.decreases-use_expression
decreases-use_expression l = 6 * size-Expr l.expr.now + 3

abbrev pub decreases-use_others : goal.decreases-use_others
decreases-use_others l = 6 * size-Expr l.expr.now

abbrev pub decreases-use_part : goal.decreases-use_part
decreases-use_part l = 6 * size-Expr l.expr.now + 1

abbrev pub decreases-use_dotted : goal.decreases-use_dotted
decreases-use_dotted l = 6 * size-Expr l.expr.now + 2

abbrev pub decreases-use_plain : goal.decreases-use_plain
decreases-use_plain l = 6 * size-Expr l.expr.now + 2

abbrev pub decreases-use_optional : goal.decreases-use_optional
decreases-use_optional l = 6 * goal.size-use_optional l + 4

abbrev pub decreases-use_items : goal.decreases-use_items
decreases-use_items l = 6 * items_deep l.items.now + 4

abbrev pub decreases-use_links : goal.decreases-use_links
decreases-use_links l = 6 * links_deep l.links.now + 4

abbrev pub decreases-use_argument : goal.decreases-use_argument
decreases-use_argument l = 6 * goal.size-use_argument l + 4

abbrev pub decreases-use_arguments : goal.decreases-use_arguments
decreases-use_arguments l = 6 * goal.size-use_arguments l + 5

abbrev pub decreases-use_dotted-loop-left_part : goal.decreases-use_dotted-loop-left_part
decreases-use_dotted-loop-left_part l = left_deep l.left_part

abbrev pub invariant-use_dotted-loop-left_part : goal.invariant-use_dotted-loop-left_part
invariant-use_dotted-loop-left_part l = record {
  ends : (c : Names) → Goes (left_place (fields_of l.behind.items) l.left_part) nothing l.names c → Goes (λ places. place_in places (expression_of l.fn.expr)) nothing l.initial.names c;
  deep : left_deep l.left_part ≤ size-Expr l.fn.expr + 1;
}

abbrev pub decreases-use_plain-loop-left_part : goal.decreases-use_plain-loop-left_part
decreases-use_plain-loop-left_part l = left_deep l.left_part

abbrev pub invariant-use_plain-loop-left_part : goal.invariant-use_plain-loop-left_part
invariant-use_plain-loop-left_part l = record {
  plain : l.names.nested ≡ false;
  ends : (c : Names) → Goes (left_place [] l.left_part) nothing l.names c → Goes (λ places. place_in places (expression_of l.fn.expr)) nothing l.initial.names c;
  deep : left_deep l.left_part ≤ size-Expr l.fn.expr + 1;
}

abbrev pub invariant-use_items-loop-item : goal.invariant-use_items-loop-item
invariant-use_items-loop-item l = (c : Names) →
    Goes (λ places. place_in_one places (expressions_in (drop l.item-index l.items))) nothing l.names c →
    Goes (λ places. place_in_one places (expressions_in l.items)) nothing l.initial.names c

abbrev pub invariant-use_links-loop-link : goal.invariant-use_links-loop-link
invariant-use_links-loop-link l = (c : Names) →
    Goes (λ places. place_in_links places (links_in (drop l.link-index l.links))) nothing l.names c →
    Goes (λ places. place_in_links places (links_in l.links)) nothing l.initial.names c

abbrev pub invariant-use_arguments-loop-argument : goal.invariant-use_arguments-loop-argument
invariant-use_arguments-loop-argument l = (c : Names) →
    Goes (λ places. place_in_arguments places (arguments_in (drop l.argument-index l.arguments))) nothing l.names c →
    Goes (λ places. place_in_arguments places (arguments_in l.arguments)) nothing l.initial.names c
