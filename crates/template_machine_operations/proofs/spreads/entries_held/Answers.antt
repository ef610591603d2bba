use Rattle.std.proofs.Common.{ap, sym, ◌∙◌, List, Some}
use Rattle.template_values_model.specs.Val.{Val}
use Rattle.template_values_core.specs.Shape.{pairs_in}
use Rattle.template_machine_meaning.specs.Spreads.{entries_held}
use Rattle.template_machine_operations.proofs.Mapping.{entries_of-pairs_of}
use Rattle.template_machine_operations.proofs.spreads.entries_held.Goals as goal

pub returns-in-Map : goal.returns-in-Map
returns-in-Map g c =
    ap (λ (ps : List (Val × Val)). Some ps) (sym (entries_of-pairs_of (pairs_in c.in-Map.held.now))) ∙ sym (ap (entries_held (g.R.Records.known c.args.records.now)) c.in-Map.ensures)

pub returns-in-KeywordMap : goal.returns-in-KeywordMap
returns-in-KeywordMap g c =
    ap (λ (ps : List (Val × Val)). Some ps) (sym (entries_of-pairs_of (pairs_in c.in-KeywordMap.held.now))) ∙ sym (ap (entries_held (g.R.Records.known c.args.records.now)) c.in-KeywordMap.ensures)

pub returns-in-Module : goal.returns-in-Module
returns-in-Module g c =
    ap (λ (ps : List (Val × Val)). Some ps) (sym (entries_of-pairs_of (pairs_in c.in-Module.held.now))) ∙ sym (ap (entries_held (g.R.Records.known c.args.records.now)) c.in-Module.ensures)
