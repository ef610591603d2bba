use Rattle.std.proofs.Common.{ap, sym, ◌∙◌, List, Some}
use Rattle.template_values_model.specs.Val.{Val}
use Rattle.template_values_core.specs.Shape.{pairs_in}
use Rattle.template_machine_operations.specs.Entries.{named_in}
use Rattle.template_machine_operations.proofs.Mapping.{entries_of-pairs_of}
use Rattle.template_machine_operations.proofs.dicts.named_in.Goals as goal

pub returns-in-KeywordMap : goal.returns-in-KeywordMap
returns-in-KeywordMap c =
    ap (λ (ps : List (Val × Val)). Some ps) (sym (entries_of-pairs_of (pairs_in c.in-KeywordMap.entries.now))) ∙ sym (ap named_in c.in-KeywordMap.ensures)
