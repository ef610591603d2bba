use Rattle.std.proofs.Common.{◌∙◌}
use Rattle.template_compiler_grammar.specs.Views.{node_of, optional_node_in}
use Rattle.template_compiler_expression_parser.proofs.Chains.{chain_more}
use Rattle.template_compiler_expression_parser.proofs.read.chain.Goals as goal

pub loop-alloc-preserved : goal.loop-alloc-preserved
loop-alloc-preserved c =
    let same = c.loop-alloc-test.ensures.spans ∙ c.loop-alloc.invariant.0 in
    let placed = rw c.span-span.ensures at c.in_ok-filtered.ensures.parsed in
    let read = rw same at placed in (
      c.in_ok-filtered.ensures.spans ∙ same,
      chain_more c.args.tokens.now.spans c.args.left (optional_node_in c.loop-alloc.value) (optional_node_in c.args.value)
          (node_of c.in_ok-filtered.filtered) c.loop-alloc.tokens.left _ _ _ c.loop-alloc.invariant.1 c.loop-alloc-test.ensures.passed read,
    )
