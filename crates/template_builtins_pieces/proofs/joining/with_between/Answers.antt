use Rattle.std.proofs.Common.{◌∙◌}
use Rattle.std.proofs.lemmas.Result.{IfOk-weaker}
use Rattle.template_builtins_pieces.proofs.Gathering.{join_shown}
use Rattle.template_builtins_pieces.proofs.joining.with_between.Goals as goal

pub returns : goal.returns
returns c = IfOk-weaker c.join.result _ _ (λ t made. made ∙ join_shown c.args.separator.now c.args.parts.now) c.join.ensures.ok
