use Rattle.template_machine_operations.proofs.Mapping.{copied_answers, map_again}
use Rattle.template_machine_operations.proofs.dicts.shared_map.Goals as goal

pub returns : goal.returns
returns c =
    copied_answers c.copy.result _ c.args.base.now
    (map_again c.args.base.now c.requires.0 c.entries.result c.requires.1 c.entries.ensures.held c.entries.ensures.rising c.levels.ensures.bound)
    c.copy.ensures.same c.copy.ensures.refused
