use Rattle.template_compiled.proofs.Trees as trees
use Rattle.template_compiled.proofs.compiled.one_tree.Goals as goal

pub returns : goal.returns
returns c = trees.one_tree
