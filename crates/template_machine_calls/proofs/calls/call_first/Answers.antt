use Rattle.std.proofs.Common.{sym, ap, ◌∙◌}
use Rattle.template_compiler_process.specs.Process.{fails}
use Rattle.template_machine_meaning.specs.Calls.{call_plan}
use Rattle.template_machine_meaning.specs.Functions.{first_called, value_called}
use Rattle.template_machine_meaning.specs.Keys.{Around}
use Rattle.template_machine_meaning.specs.Plans.{replies}
use Rattle.template_machine_meaning.specs.Replies.{told}
use Rattle.template_machine_calls.specs.Hosted.{around_under}
use Rattle.template_machine_calls.specs.Left.{reached_by}
use Rattle.template_machine_calls.proofs.Chaining.{planned_as}
use Rattle.template_machine_calls.proofs.calls.call_first.Goals as goal

pub returns-in-Some-clause-told : goal.returns-in-Some-clause-told
returns-in-Some-clause-told g c a =
    let around : Around = around_under c.args.rules (g.H.Callbacks.callables c.args.host.now) a in
    let w = c.args.state.now in
    planned_as (reached_by around) (call_plan around w (first_called w.globals c.args.taken.items)) (call_plan around w (value_called w.globals c.in-Some.callee c.in-Some.args.items)) _ _
    (ap (λ vs. call_plan around w (first_called w.globals vs)) c.in-Some.ensures.some) (c.call_value.ensures.told a)

pub returns-in-None-clause-told : goal.returns-in-None-clause-told
returns-in-None-clause-told g c a =
    let around : Around = around_under c.args.rules (g.H.Callbacks.callables c.args.host.now) a in
    let w = c.args.state.now in
    ap (λ vs. call_plan around w (first_called w.globals vs)) c.in-None.ensures.none ∙ ap (λ ks. replies (told w (fails ks))) (sym c.new.ensures)
