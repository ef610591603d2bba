use Rattle.std.proofs.Common.{sym, ◌∙◌}
use Rattle.template_values_forms.specs.Known.{nothing_known}
use Rattle.template_values_forms.specs.Printed.{level_limit}
use Rattle.template_builtins_web.proofs.LaidOut.{leaf_is}
use Rattle.template_builtins_web.proofs.leaves.pretty_leaf.Goals as goal

pub returns : goal.returns
returns c = rw (← leaf_is nothing_known level_limit c.args.value.now (sym c.nests.ensures ∙ c.if-nests.false)) c.json_outer.ensures
