use Rattle.std.proofs.Common.{◌≡◌, vec_len}
use Rattle.template_compiler_grammar.specs.TemplateNodes.{branched_node}
use Rattle.template_compiler_statement_makers.specs.Listed.{statement_nodes_in}
use Rattle.template_compiler_statement_makers.specs.Branches.{branches_in}
use Rattle.template_compiler_statement_makers.proofs.ends.branched.Given as goal

abbrev pub invariant-loop-branch : goal.invariant-loop-branch
invariant-loop-branch l =
    branched_node (branches_in l.branches.items) (statement_nodes_in l.body.items) l.whole ≡
    branched_node (branches_in l.initial.branches.items) (statement_nodes_in l.initial.body.items) l.whole

abbrev pub decreases-loop-branch : goal.decreases-loop-branch
decreases-loop-branch l = vec_len l.branches
