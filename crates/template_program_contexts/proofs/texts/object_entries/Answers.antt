use Rattle.std.proofs.Common.{◌≡◌, ◌<◌, ap, ◌∙◌, arith}
use Rattle.std.proofs.lemmas.Result.{IfOk-weaker}
use Rattle.json.specs.Json.{object}
use Rattle.json.specs.Tree.{members_depth}
use Rattle.json.specs.Value.{members_view, value_view}
use Rattle.json.proofs.Trees.{view-Object}
use Rattle.template_values_json.specs.Spelled.{spelled_pairs}
use Rattle.template_values_json.proofs.ContextLevels.{members_within}
use Rattle.template_program_contexts.proofs.Members.{plain_spelled, spelled_said}
use Rattle.template_program_contexts.proofs.texts.object_entries.Goals as goal

pub returns-in-Object-clause-says : goal.returns-in-Object-clause-says
returns-in-Object-clause-says c =
    let members = members_view c.in-Object.members.items in
    let seen : value_view c.args.tree.now ≡ object members = ap value_view c.in-Object.is ∙ view-Object c.in-Object.members in
    IfOk-weaker c.entries_from.result _ _
    (λ es are. rw seen (spelled_said members es.items (are ∙ ap (λ xs. spelled_pairs (members_view xs)) c.deref.ensures.value)))
    c.entries_from.ensures.are

pub returns-in-Object-clause-plain : goal.returns-in-Object-clause-plain
returns-in-Object-clause-plain c =
    let members = members_view c.in-Object.members.items in
    let shallow : members_depth members < 127 = members_within c.args.tree.now c.in-Object.members 127 c.in-Object.is c.requires.shallow in
    IfOk-weaker c.entries_from.result _ _
    (λ es are. plain_spelled members es.items (are ∙ ap (λ xs. spelled_pairs (members_view xs)) c.deref.ensures.value) (omega (arith, shallow)))
    c.entries_from.ensures.are
