use Rattle.template_builtins_pieces.proofs.Ends.{suffix_cut, suffix_kept}
use Rattle.template_builtins_pieces.proofs.affixes.without_suffix.Goals as goal

pub returns-in-Some : goal.returns-in-Some
returns-in-Some c = suffix_cut _ _ _ c.in-Some.ensures.cases

pub returns-in-None : goal.returns-in-None
returns-in-None c = suffix_kept _ _ c.in-None.ensures.cases
