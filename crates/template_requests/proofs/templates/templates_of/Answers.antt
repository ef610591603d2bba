use Rattle.std.proofs.Common.{◌∙◌, Some, ap, sym}
use Rattle.json.specs.Value.{value_view}
use Rattle.json.proofs.Trees.{view-Object}
use Rattle.template_requests.proofs.Texts.{templates_refused, templates_said}
use Rattle.template_requests.proofs.templates.templates_of.Goals as goal

pub returns-in-Object-clause-says : goal.returns-in-Object-clause-says
returns-in-Object-clause-says c =
    let members = c.in-Object.members in
    let is = ap Some (sym (ap value_view c.in-Object.is ∙ view-Object members)) in
    templates_said c.texts_of.result (Some (value_view c.args.json.now)) c.deref.result.now members.items c.deref.ensures.value is c.texts_of.ensures.says

pub returns-in-Object-clause-refused : goal.returns-in-Object-clause-refused
returns-in-Object-clause-refused c =
    let members = c.in-Object.members in
    let is = ap Some (sym (ap value_view c.in-Object.is ∙ view-Object members)) in
    templates_refused c.texts_of.result (Some (value_view c.args.json.now)) c.deref.result.now members.items c.deref.ensures.value is c.texts_of.ensures.refused
