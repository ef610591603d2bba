use Rattle.std.proofs.lemmas.Result.{IfOk-weaker}
use Rattle.template_builtins_pieces.proofs.Exchanging.{replaces}
use Rattle.template_builtins_fields.proofs.formats.replaced.Goals as goal

pub returns : goal.returns
returns c = IfOk-weaker c.replacen.result _ _ (λ t made. replaces _ _ _ _ _ c.utf8.text made) c.replacen.ensures.ok
