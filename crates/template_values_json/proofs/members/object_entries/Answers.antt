use Rattle.std.proofs.Common.{◌<◌, arith}
use Rattle.std.proofs.lemmas.Result.{IfOk-weaker}
use Rattle.serde_json.specs.Data.{members_depth}
use Rattle.serde_json.specs.View.{members_view}
use Rattle.template_values_json.proofs.Levels.{members_within}
use Rattle.template_values_json.proofs.Plain.{plain_members}
use Rattle.template_values_json.proofs.members.object_entries.Goals as goal

pub returns-in-Object-clause-plain : goal.returns-in-Object-clause-plain
returns-in-Object-clause-plain c =
    let members = members_view c.in-Object.members.entries in
    let shallow : members_depth members < 127 = members_within c.args.document c.in-Object.members 127 c.in-Object.is c.requires.shallow in
    IfOk-weaker c.entries_from.result _ _ (λ es are. plain_members members es.items are (omega (arith, shallow))) c.entries_from.ensures.are
