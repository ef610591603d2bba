use Rattle.std.proofs.Common.{sym, ◌∙◌}
use Rattle.template_values_forms.specs.Known.{nothing_known}
use Rattle.template_machine_operations.proofs.Unpacked.{not_unpacked, unpacked_given}
use Rattle.template_machine_operations.proofs.sequence.unpack.Goals as goal

pub returns-then-unpacks_into : goal.returns-then-unpacks_into
returns-then-unpacks_into c =
    unpacked_given nothing_known c.args.count c.args.value c.gone_over.result (sym c.unpacks_into.ensures ∙ c.if-unpacks_into.true) c.gone_over.ensures

pub returns-else-unpacks_into : goal.returns-else-unpacks_into
returns-else-unpacks_into c = not_unpacked c.args.count c.args.value c.new.result (sym c.unpacks_into.ensures ∙ c.if-unpacks_into.false) c.new.ensures
