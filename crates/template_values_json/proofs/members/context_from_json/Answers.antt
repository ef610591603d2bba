use Rattle.std.proofs.Common.{inl}
use Rattle.std.proofs.lemmas.Result.{IfErr-weaker}
use Rattle.template_values_json.specs.Entries.{ArePlain}
use Rattle.template_values_json.proofs.Made.{only_memory}
use Rattle.template_values_json.proofs.members.context_from_json.Goals as goal

pub returns-in-Some-clause-refused : goal.returns-in-Some-clause-refused
returns-in-Some-clause-refused c =
    let entries = c.in-Some.entries.items in
    let plain : ArePlain entries = rw c.in-Some.is at c.in_ok-entries.ensures.plain in
    IfErr-weaker c.from_map.result _ _ (λ kinds memory. inl memory) (only_memory entries c.from_map.result plain c.from_map.ensures.refused)
