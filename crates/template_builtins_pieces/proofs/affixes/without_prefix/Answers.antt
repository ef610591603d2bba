use Rattle.template_builtins_pieces.proofs.Ends.{prefix_cut, prefix_kept}
use Rattle.template_builtins_pieces.proofs.affixes.without_prefix.Goals as goal

pub returns-in-Some : goal.returns-in-Some
returns-in-Some c = prefix_cut _ _ _ c.in-Some.ensures.cases

pub returns-in-None : goal.returns-in-None
returns-in-None c = prefix_kept _ _ c.in-None.ensures.cases
