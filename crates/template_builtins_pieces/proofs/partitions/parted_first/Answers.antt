use Rattle.std.proofs.Common.{◌∙◌}
use Rattle.std.proofs.lemmas.Result.{IfOk-weaker}
use Rattle.template_builtins_pieces.proofs.Parting.{parted_first, parted_nowhere}
use Rattle.template_builtins_pieces.proofs.partitions.parted_first.Goals as goal

pub returns-in-Some-clause-made : goal.returns-in-Some-clause-made
returns-in-Some-clause-made c =
    IfOk-weaker c.three_texts.result _ _ (λ v is. is ∙ parted_first _ _ _ _ c.requires c.in-Some.ensures.cases) c.three_texts.ensures.made

pub returns-in-None-clause-made : goal.returns-in-None-clause-made
returns-in-None-clause-made c =
    IfOk-weaker c.three_texts-in-None.result _ _ (λ v is. is ∙ parted_nowhere _ _ c.in-None.ensures.cases) c.three_texts-in-None.ensures.made
