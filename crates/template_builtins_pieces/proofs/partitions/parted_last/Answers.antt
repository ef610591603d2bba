use Rattle.std.proofs.Common.{◌∙◌}
use Rattle.std.proofs.lemmas.Result.{IfOk-weaker}
use Rattle.template_builtins_pieces.proofs.Parting.{parted_last, parted_nowhere_last}
use Rattle.template_builtins_pieces.proofs.partitions.parted_last.Goals as goal

pub returns-in-Some-clause-made : goal.returns-in-Some-clause-made
returns-in-Some-clause-made c =
    IfOk-weaker c.three_texts.result _ _ (λ v is. is ∙ parted_last _ _ _ _ c.requires c.in-Some.ensures.cases) c.three_texts.ensures.made

pub returns-in-None-clause-made : goal.returns-in-None-clause-made
returns-in-None-clause-made c =
    IfOk-weaker c.three_texts-in-None.result _ _ (λ v is. is ∙ parted_nowhere_last _ _ c.in-None.ensures.cases) c.three_texts-in-None.ensures.made
