use Rattle.std.proofs.Common.{◌-◌, Option, None, Some, Ok, Err, refl, sym, ap, subst, ◌∙◌}
use Rattle.template_machine_meaning.specs.Calls.{beyond, call_plan}
use Rattle.template_machine_meaning.specs.Functions.{invokes, method_called, method_of}
use Rattle.template_machine_meaning.specs.Keys.{Around}
use Rattle.template_machine_meaning.specs.Records.{known_of}
use Rattle.template_machine_meaning.specs.World.{depth_of}
use Rattle.template_machine_operations.specs.Called.{ComesOr}
use Rattle.template_machine_operations.specs.declared.called.Called.{Called}
use Rattle.template_machine_calls.specs.Hosted.{around_under}
use Rattle.template_machine_calls.specs.Left.{Going, reached_by}
use Rattle.template_machine_calls.proofs.Beginning.{method_as, refused_planned}
use Rattle.template_machine_calls.proofs.Chaining.{err_kept, err_planned, planned_as}
use Rattle.template_machine_calls.proofs.calls.call_method_of.Goals as goal

pub returns-in_err-method-clause-told : goal.returns-in_err-method-clause-told
returns-in_err-method-clause-told g c a =
    let around : Around = around_under c.args.rules (g.H.Callbacks.callables c.args.host.now) a in
    let w = c.args.state.now in
    let go : Going = beyond around 0 (around.limit - depth_of w) in
    let called = method_called w.globals (known_of w) c.args.name.now c.args.object c.args.args.items in
    err_planned (reached_by around) (call_plan around w called) _ _ _
    (refused_planned around 0 go w called _
    (method_as (Err _) _ w.globals (known_of w) c.args.name.now c.args.object _ c.args.args.items c.globals.ensures c.as_slice.ensures.value
    (c.in_err-method.ensures (invokes (method_of c.args.object c.args.name.now) c.as_slice.result.now))))
    c.from_residual.ensures.1

pub returns-in-Some-clause-told : goal.returns-in-Some-clause-told
returns-in-Some-clause-told g c a =
    let w = c.args.state.now in
    c.call.ensures.told a (method_called w.globals (known_of w) c.args.name.now c.args.object c.args.args.items)
    (method_as (Ok (Some c.in-Some.called)) _ w.globals (known_of w) c.args.name.now c.args.object _ c.args.args.items c.globals.ensures c.as_slice.ensures.value
    (subst (λ (o : Option Called). ComesOr (invokes (method_of c.args.object c.args.name.now) c.as_slice.result.now) (Ok o) c.as_slice.result.now
    (method_called c.globals.result.now (known_of w) c.args.name.now c.args.object c.as_slice.result.now)) c.in-Some.is
    (c.in_ok-method.ensures (invokes (method_of c.args.object c.args.name.now) c.as_slice.result.now))))

pub returns-clause-told : goal.returns-clause-told
returns-clause-told g c a =
    let around : Around = around_under c.args.rules (g.H.Callbacks.callables c.args.host.now) a in
    let w = c.args.state.now in
    let object = c.args.object in
    let name = c.args.name.now in
    planned_as (reached_by around) (call_plan around w (method_called w.globals (known_of w) name object c.args.args.items))
    (call_plan around w (invokes (method_of object name) c.as_slice-in-None.result.now)) _ _
    (ap (call_plan around w)
    (method_as (Ok None) _ w.globals (known_of w) name object _ c.args.args.items c.globals.ensures c.as_slice.ensures.value
    (subst (λ (o : Option Called). ComesOr (invokes (method_of object name) c.as_slice.result.now) (Ok o) c.as_slice.result.now
    (method_called c.globals.result.now (known_of w) name object c.as_slice.result.now)) c.in-None.is
    (c.in_ok-method.ensures (invokes (method_of object name) c.as_slice.result.now)))
    ∙ ap (invokes (method_of object name)) (sym c.as_slice-in-None.ensures.value)))
    (c.call_missing.ensures.told a)

pub returns-in_err-method-clause-kept : goal.returns-in_err-method-clause-kept
returns-in_err-method-clause-kept g c = err_kept _ _ c.args.state.now c.args.state.now refl c.from_residual.ensures.1
