use Rattle.std.proofs.Common.{[], ◌∷◌, ap}
use Rattle.template_values_model.specs.Val.{Val}
use Rattle.template_machine_meaning.specs.Functions.{namespace_given}
use Rattle.template_machine_operations.proofs.Naming.{named}
use Rattle.template_machine_operations.proofs.namespaces.names_of.Goals as goal

pub returns-in-Map : goal.returns-in-Map
returns-in-Map c =
    named c.names_in.result (c.args.base.now ∷ []) c.in-Map.entries.now (ap (λ (v : Val). namespace_given (v ∷ [])) c.in-Map.ensures)
    c.names_in.ensures.made c.names_in.ensures.refused

pub returns-in-KeywordMap : goal.returns-in-KeywordMap
returns-in-KeywordMap c =
    named c.names_in-in-KeywordMap.result (c.args.base.now ∷ []) c.in-KeywordMap.entries.now (ap (λ (v : Val). namespace_given (v ∷ [])) c.in-KeywordMap.ensures)
    c.names_in-in-KeywordMap.ensures.made c.names_in-in-KeywordMap.ensures.refused
