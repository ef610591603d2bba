use Rattle.std.proofs.Common.{sym, ap, ◌∙◌}
use Rattle.template_compiler_code.specs.Code as codes
use Rattle.template_compiler_code.specs.View.{code_of}
use Rattle.template_machine_steps.specs.Performs.{ruled}
use Rattle.template_machine_perform.proofs.Lifting.{straight_leads, leads_at}
use Rattle.template_machine_perform.proofs.Left.{operands_left}
use Rattle.template_machine_perform.proofs.scoped.perform_quietly.Goals as goal

pub returns-in-Lookup : goal.returns-in-Lookup
returns-in-Lookup c program =
    straight_leads _ (codes.lookup _) _ _ _ _ _ _ _ (ap code_of c.in-Lookup.is ∙ ap (λ t. codes.lookup t) (sym c.as_str.ensures.value)) c.straight.ensures (c.lookup.ensures (ruled program c.args.bounds.limit c.args.bounds.undefined))

pub returns-in-StoreLocal : goal.returns-in-StoreLocal
returns-in-StoreLocal c program =
    straight_leads _ (codes.store_local _) _ _ _ _ _ _ _ (ap code_of c.in-StoreLocal.is ∙ ap (λ t. codes.store_local t) (sym c.as_str-in-StoreLocal.ensures.value)) c.straight-in-StoreLocal.ensures (c.store_local.ensures (ruled program c.args.bounds.limit c.args.bounds.undefined))

pub returns-in-PushWith : goal.returns-in-PushWith
returns-in-PushWith c program =
    straight_leads _ codes.push_with _ _ _ _ _ _ _ (ap code_of c.in-PushWith.is) c.straight-in-PushWith.ensures (c.push_with.ensures program c.args.bounds.undefined _)

pub returns-in-PopFrame : goal.returns-in-PopFrame
returns-in-PopFrame c program =
    straight_leads _ codes.pop_frame _ _ _ _ _ _ _ (ap code_of c.in-PopFrame.is) c.straight-in-PopFrame.ensures (c.pop_frame.ensures (ruled program c.args.bounds.limit c.args.bounds.undefined) _)

pub returns-in-Iterate : goal.returns-in-Iterate
returns-in-Iterate c program =
    leads_at _ (codes.iterate _) _ _ _ _ _ _ (ap code_of c.in-Iterate.is) (c.iterate.ensures (ruled program c.args.bounds.limit c.args.bounds.undefined))

pub returns-in-PushDidNotIterate : goal.returns-in-PushDidNotIterate
returns-in-PushDidNotIterate c program =
    straight_leads _ codes.push_did_not_iterate _ _ _ _ _ _ _ (ap code_of c.in-PushDidNotIterate.is) c.straight-in-PushDidNotIterate.ensures (c.push_did_not_iterate.ensures (ruled program c.args.bounds.limit c.args.bounds.undefined))

pub returns-in-PushAutoEscape : goal.returns-in-PushAutoEscape
returns-in-PushAutoEscape c program =
    straight_leads _ codes.push_auto_escape _ _ _ _ _ _ _ (ap code_of c.in-PushAutoEscape.is) c.straight-in-PushAutoEscape.ensures (c.push_auto_escape.ensures (ruled program c.args.bounds.limit c.args.bounds.undefined))

pub returns-in-PopAutoEscape : goal.returns-in-PopAutoEscape
returns-in-PopAutoEscape c program =
    straight_leads _ codes.pop_auto_escape _ _ _ _ _ _ _ (ap code_of c.in-PopAutoEscape.is) c.straight-in-PopAutoEscape.ensures (c.pop_auto_escape.ensures (ruled program c.args.bounds.limit c.args.bounds.undefined) _)

pub returns-in-BeginCapture : goal.returns-in-BeginCapture
returns-in-BeginCapture c program =
    straight_leads _ (codes.begin_capture _) _ _ _ _ _ _ _ (ap code_of c.in-BeginCapture.is) c.straight-in-BeginCapture.ensures (c.begin_capture.ensures (ruled program c.args.bounds.limit c.args.bounds.undefined) _)

pub returns-in-EndCapture : goal.returns-in-EndCapture
returns-in-EndCapture c program =
    straight_leads _ codes.end_capture _ _ _ _ _ _ _ (ap code_of c.in-EndCapture.is) c.straight-in-EndCapture.ensures (c.end_capture.ensures (ruled program c.args.bounds.limit c.args.bounds.undefined))

pub returns-in-SetAttr : goal.returns-in-SetAttr
returns-in-SetAttr c program =
    straight_leads _ (codes.set_attr _) _ _ _ _ _ _ _ (ap code_of c.in-SetAttr.is ∙ ap (λ t. codes.set_attr t) (sym c.as_str-in-SetAttr.ensures.value)) c.straight-in-SetAttr.ensures (c.set_attr.ensures (ruled program c.args.bounds.limit c.args.bounds.undefined))

pub returns-in-Enclose : goal.returns-in-Enclose
returns-in-Enclose c program =
    straight_leads _ (codes.enclose _) _ _ _ _ _ _ _ (ap code_of c.in-Enclose.is ∙ ap (λ t. codes.enclose t) (sym c.as_str-in-Enclose.ensures.value)) c.straight-in-Enclose.ensures (c.enclose.ensures (ruled program c.args.bounds.limit c.args.bounds.undefined) _)

pub returns-in-GetClosure : goal.returns-in-GetClosure
returns-in-GetClosure c program =
    straight_leads _ codes.get_closure _ _ _ _ _ _ _ (ap code_of c.in-GetClosure.is) c.straight-in-GetClosure.ensures (c.get_closure.ensures (ruled program c.args.bounds.limit c.args.bounds.undefined))

pub returns-in-ExportLocals : goal.returns-in-ExportLocals
returns-in-ExportLocals c program =
    straight_leads _ codes.export_locals _ _ _ _ _ _ _ (ap code_of c.in-ExportLocals.is) c.straight-in-ExportLocals.ensures (c.export_locals.ensures (ruled program c.args.bounds.limit c.args.bounds.undefined))

pub perform_on_operands-requires : goal.perform_on_operands-requires
perform_on_operands-requires c =
    let h = c.in_default in
    operands_left c.args.instruction.now c.requires h.not-Lookup h.not-StoreLocal h.not-PushWith h.not-PopFrame h.not-Iterate h.not-PushDidNotIterate h.not-PushAutoEscape h.not-PopAutoEscape h.not-BeginCapture h.not-EndCapture h.not-SetAttr h.not-Enclose h.not-GetClosure h.not-ExportLocals

pub returns-in_default : goal.returns-in_default
returns-in_default c program = c.perform_on_operands.ensures program c.args.bounds.limit
