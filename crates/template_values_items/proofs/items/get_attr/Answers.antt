use Rattle.template_values_items.proofs.Contents.{plain_attribute}
use Rattle.template_values_items.proofs.items.get_attr.Goals as goal

pub returns-in_default : goal.returns-in_default
returns-in_default c t =
    let known = c.R.Records.known t.args.records.now in
    let plain = plain_attribute known t.content.result t.args.name.now t.in_default.not-Namespace t.in_default.not-Loop t.in_default.not-Macro in
    rw (t.content.ensures, plain, ← t.content.ensures, ← t.value_at.ensures) t.copy_or_undefined.ensures
