-- A node is gone to once it is reached along the left chain; other parts are smaller than the node.
use Rattle.std.proofs.Common.{◌≡◌, ◌+◌, ◌-◌, ◌*◌, ◌≤◌, ◌++◌, None, length, max, take, drop}
use Rattle.template_compiler_tree.specs.View.{expressions_in, links_in}
use Rattle.template_compiler_tree.specs.declared.calls.CallArg.{size-CallArg}
use Rattle.template_compiler_tree.specs.declared.expressions.Expr.{size-Expr}
use Rattle.template_compiler_code.specs.Listing.{code_in}
use Rattle.template_compiler_codegen.specs.Expressions.{codes_of, entry_count, expressions_code}
use Rattle.template_compiler_emission.specs.Puts.{Keeps, Puts}
use Rattle.template_compiler_expression_codegen.specs.Chains.{Grows, constant_behind, leaps_in, linked_to}
use Rattle.template_compiler_expression_codegen.proofs.Along.{so_far}
use Rattle.template_compiler_expression_codegen.proofs.Arguments.{PassedByName, PassedByPlace}
use Rattle.template_compiler_expression_codegen.proofs.Entries.{count_from, entries_from}
use Rattle.template_compiler_expression_codegen.proofs.Sizes.{arguments_deep, items_deep, links_deep, optional_deep}
use Rattle.template_compiler_expression_codegen.proofs.expressions.+expression.Given as goal

abbrev pub decreases-fold_expr : goal.decreases-fold_expr
decreases-fold_expr l = 16 * size-Expr l.expr.now + 4

abbrev pub decreases-fold_left : goal.decreases-fold_left
decreases-fold_left l = 16 * size-Expr l.expr.now + 3

abbrev pub decreases-fold_tree : goal.decreases-fold_tree
decreases-fold_tree l = 16 * size-Expr l.expr.now + 2

abbrev pub decreases-fold_spine : goal.decreases-fold_spine
decreases-fold_spine l = 16 * size-Expr l.expr.now + 1

abbrev pub decreases-compile_expr : goal.decreases-compile_expr
decreases-compile_expr l = 16 * size-Expr l.expr.now + 5

abbrev pub decreases-compile_tree : goal.decreases-compile_tree
decreases-compile_tree l = 16 * size-Expr l.expr.now + 4

abbrev pub decreases-fold_node : goal.decreases-fold_node
decreases-fold_node l = 16 * size-Expr l.expr.now

abbrev pub decreases-fold_unary_operator : goal.decreases-fold_unary_operator
decreases-fold_unary_operator l = 16 * size-Expr l.operand.now + 6

abbrev pub decreases-fold_choice : goal.decreases-fold_choice
decreases-fold_choice l = 16 * size-Expr l.right.now + 7

abbrev pub decreases-fold_constant_choice : goal.decreases-fold_constant_choice
decreases-fold_constant_choice l = 16 * size-Expr l.right.now + 6

abbrev pub decreases-fold_operator : goal.decreases-fold_operator
decreases-fold_operator l = 16 * size-Expr l.right.now + 7

abbrev pub decreases-fold_constant_operator : goal.decreases-fold_constant_operator
decreases-fold_constant_operator l = 16 * size-Expr l.right.now + 6

abbrev pub decreases-compile_optional : goal.decreases-compile_optional
decreases-compile_optional l = 16 * optional_deep l.expr.now + 6

abbrev pub decreases-compile_choice : goal.decreases-compile_choice
decreases-compile_choice l = 16 * max (size-Expr l.test.now) (max (size-Expr l.branch.now) (optional_deep l.otherwise.now)) + 7

abbrev pub decreases-compile_item : goal.decreases-compile_item
decreases-compile_item l = 16 * size-Expr l.key.now + 6

abbrev pub decreases-compile_slice : goal.decreases-compile_slice
decreases-compile_slice l = 16 * max (optional_deep l.start.now) (max (optional_deep l.stop.now) (optional_deep l.step.now)) + 7

abbrev pub decreases-compile_call : goal.decreases-compile_call
decreases-compile_call l = 16 * arguments_deep l.call.now.args.items + 10

abbrev pub decreases-compile_filter : goal.decreases-compile_filter
decreases-compile_filter l = 16 * arguments_deep l.filter.now.args.items + 10

abbrev pub decreases-compile_test : goal.decreases-compile_test
decreases-compile_test l = 16 * arguments_deep l.test.now.args.items + 10

abbrev pub decreases-compile_arguments : goal.decreases-compile_arguments
decreases-compile_arguments l = 16 * arguments_deep l.arguments.now + 9

abbrev pub decreases-compile_positional : goal.decreases-compile_positional
decreases-compile_positional l = 16 * arguments_deep l.arguments.now + 7

abbrev pub decreases-compile_value : goal.decreases-compile_value
decreases-compile_value l = 16 * size-CallArg l.argument.now + 6

abbrev pub decreases-compile_keywords : goal.decreases-compile_keywords
decreases-compile_keywords l = 16 * arguments_deep l.arguments.now + 8

abbrev pub decreases-compile_named : goal.decreases-compile_named
decreases-compile_named l = 16 * arguments_deep l.arguments.now + 7

abbrev pub decreases-compile_entry : goal.decreases-compile_entry
decreases-compile_entry l = 16 * size-CallArg l.argument.now + 6

abbrev pub decreases-compile_items : goal.decreases-compile_items
decreases-compile_items l = 16 * items_deep l.items.now + 7

abbrev pub decreases-compile_entries : goal.decreases-compile_entries
decreases-compile_entries l = 16 * max (items_deep l.keys.now) (items_deep l.values.now) + 7

abbrev pub decreases-fold_list_literal : goal.decreases-fold_list_literal
decreases-fold_list_literal l = 16 * items_deep l.items.now + 8

abbrev pub decreases-fold_tuple_literal : goal.decreases-fold_tuple_literal
decreases-fold_tuple_literal l = 16 * items_deep l.items.now + 8

abbrev pub decreases-fold_map_literal : goal.decreases-fold_map_literal
decreases-fold_map_literal l = 16 * max (items_deep l.keys.now) (items_deep l.values.now) + 8

abbrev pub decreases-compile_link : goal.decreases-compile_link
decreases-compile_link l = 16 * size-Expr l.link.now.expr + 7

abbrev pub decreases-compile_links : goal.decreases-compile_links
decreases-compile_links l = 16 * links_deep l.links.now + 8

abbrev pub decreases-compile_chain : goal.decreases-compile_chain
decreases-compile_chain l = 16 * links_deep l.links.now + 9

abbrev pub decreases-fold_chain : goal.decreases-fold_chain
decreases-fold_chain l = 16 * links_deep l.links.now + 10

abbrev pub decreases-fold_spine-loop-i : goal.decreases-fold_spine-loop-i
decreases-fold_spine-loop-i l = length l.nodes.items - l.i

-- the constant and the code of the nodes so far
abbrev pub invariant-fold_spine-loop-i : goal.invariant-fold_spine-loop-i
invariant-fold_spine-loop-i l = record {
  constant : l.value ≡ (so_far (length (code_in l.initial.code)) (take l.i l.nodes.items)).0;
  code : code_in l.code ≡ code_in l.initial.code ++ (so_far (length (code_in l.initial.code)) (take l.i l.nodes.items)).1;
  same : Keeps l.initial.code l.code;
}

-- the items so far
abbrev pub invariant-compile_items-loop-item : goal.invariant-compile_items-loop-item
invariant-compile_items-loop-item l = Puts (expressions_code (expressions_in (take l.item-index l.items))) l.initial.code l.code

-- the code of the entries that are left makes that of all
abbrev pub invariant-compile_entries-loop-i : goal.invariant-compile_entries-loop-i
invariant-compile_entries-loop-i l = record {
  within : l.i ≤ length l.keys;
  count : l.i + count_from l.keys l.values l.i ≡ entry_count (expressions_in l.keys) (codes_of (expressions_in l.values));
  code : code_in l.code ++ entries_from l.keys l.values l.i (length (code_in l.code))
      ≡ code_in l.initial.code ++ entries_from l.keys l.values 0 (length (code_in l.initial.code));
  same : Keeps l.initial.code l.code;
}

-- the comparisons that are left make the whole chain
abbrev pub invariant-compile_links-loop-next : goal.invariant-compile_links-loop-next
invariant-compile_links-loop-next l = record {
  stays : l.link.holds ≡ None → l.link.left ≡ None;
  constant : constant_behind l.link.holds l.link.left (links_in (drop l.next-index l.links))
      ≡ constant_behind l.fn.first.holds l.fn.first.left (links_in l.links);
  leaps : l.leaps.items ++ leaps_in (links_in (drop l.next-index l.links)) (length (code_in l.code))
      ≡ leaps_in (links_in l.links) (length (code_in l.initial.code));
  code : code_in l.code ++ linked_to 0 (links_in (drop l.next-index l.links)) (length (code_in l.code))
      ≡ code_in l.initial.code ++ linked_to 0 (links_in l.links) (length (code_in l.initial.code));
  grown : Grows l.initial.code l.code;
}

-- the arguments that are left make the code of all
abbrev pub invariant-compile_positional-loop-argument : goal.invariant-compile_positional-loop-argument
invariant-compile_positional-loop-argument l = PassedByPlace l.front l.arguments l.argument-index l.so_far l.initial.code l.code

abbrev pub invariant-compile_named-loop-argument : goal.invariant-compile_named-loop-argument
invariant-compile_named-loop-argument l = PassedByName l.arguments l.argument-index l.so_far l.initial.code l.code
