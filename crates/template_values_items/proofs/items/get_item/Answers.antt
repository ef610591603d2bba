use Rattle.template_values_items.proofs.Contents.{plain_item}
use Rattle.template_values_items.proofs.items.get_item.Goals as goal

pub returns-in_default : goal.returns-in_default
returns-in_default c t =
    let known = c.R.Records.known t.args.records.now in
    let plain = plain_item known t.content.result t.args.key.now t.in_default.not-Namespace t.in_default.not-Loop t.in_default.not-Macro in
    rw (t.content.ensures, plain, ← t.content.ensures) t.held_item.ensures
