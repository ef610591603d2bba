-- A private name is passed over.
use Rattle.std.proofs.Common.{sym, ◌∙◌}
use Rattle.template_values_core.specs.Shape.{pairs_in}
use Rattle.template_machine_frames.proofs.Public.{passed_over, taken_too}
use Rattle.template_machine_frames.proofs.local.add_if_public.Goals as goal

pub returns-then-is_private-clause-added : goal.returns-then-is_private-clause-added
returns-then-is_private-clause-added c = passed_over c.args.local.now (pairs_in c.args.entries.now.items) (sym c.is_private.ensures ∙ c.if-is_private.true)

pub returns-clause-added : goal.returns-clause-added
returns-clause-added c =
    taken_too c.args.local.now c.args.entries.now.items c.push.new.self.items c.in_ok-public_entry.field-0 (sym c.is_private.ensures ∙ c.if-is_private.false)
    c.in_ok-push.ensures.items c.in_ok-public_entry.ensures.key c.in_ok-public_entry.ensures.value
