use Rattle.template_compiler_tree_parts.proofs.NodeChains.{chain_left}
use Rattle.template_compiler_tree_parts.proofs.nodes.left.Goals as goal

pub returns-in-Compare-clause-left : goal.returns-in-Compare-clause-left
returns-in-Compare-clause-left c = rw (c.in-Compare.is, c.deref-in-Compare.ensures) (chain_left c.in-Compare.n.value.node)
