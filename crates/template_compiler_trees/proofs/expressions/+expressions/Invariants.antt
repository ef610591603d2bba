use Rattle.std.proofs.Common.{◌+◌, ◌*◌}
use Rattle.template_compiler_trees.proofs.expressions.+expressions.Given as goal

abbrev pub decreases-expression : goal.decreases-expression
decreases-expression l = 10 * l.left + 0

abbrev pub decreases-node : goal.decreases-node
decreases-node l = 10 * l.left + 8

abbrev pub decreases-rarer : goal.decreases-rarer
decreases-rarer l = 10 * l.left + 7

abbrev pub decreases-part : goal.decreases-part
decreases-part l = 10 * l.left + 1

abbrev pub decreases-optional : goal.decreases-optional
decreases-optional l = 10 * l.left + 2

abbrev pub decreases-single : goal.decreases-single
decreases-single l = 10 * l.left + 2

abbrev pub decreases-pair : goal.decreases-pair
decreases-pair l = 10 * l.left + 2

abbrev pub decreases-slice : goal.decreases-slice
decreases-slice l = 10 * l.left + 3

abbrev pub decreases-chain : goal.decreases-chain
decreases-chain l = 10 * l.left + 4

abbrev pub decreases-links : goal.decreases-links
decreases-links l = 10 * l.left + 3

abbrev pub decreases-choice : goal.decreases-choice
decreases-choice l = 10 * l.left + 3

abbrev pub decreases-filter : goal.decreases-filter
decreases-filter l = 10 * l.left + 6

abbrev pub decreases-test : goal.decreases-test
decreases-test l = 10 * l.left + 6

abbrev pub decreases-attribute : goal.decreases-attribute
decreases-attribute l = 10 * l.left + 2

abbrev pub decreases-call : goal.decreases-call
decreases-call l = 10 * l.left + 6

abbrev pub decreases-arguments : goal.decreases-arguments
decreases-arguments l = 10 * l.left + 5

abbrev pub decreases-argument : goal.decreases-argument
decreases-argument l = 10 * l.left + 4

abbrev pub decreases-named : goal.decreases-named
decreases-named l = 10 * l.left + 2

abbrev pub decreases-spread : goal.decreases-spread
decreases-spread l = 10 * l.left + 3

abbrev pub decreases-group : goal.decreases-group
decreases-group l = 10 * l.left + 2

abbrev pub decreases-map : goal.decreases-map
decreases-map l = 10 * l.left + 3

abbrev pub decreases-entry : goal.decreases-entry
decreases-entry l = 10 * l.left + 2
