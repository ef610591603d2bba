use Rattle.std.proofs.Common.{◌-◌, Ok, Err, inl, refl}
use Rattle.template_machine_meaning.specs.Calls.{beyond, call_plan}
use Rattle.template_machine_meaning.specs.Functions.{name_called}
use Rattle.template_machine_meaning.specs.Keys.{Around}
use Rattle.template_machine_meaning.specs.World.{depth_of, looked_up}
use Rattle.template_machine_calls.specs.Hosted.{around_under}
use Rattle.template_machine_calls.specs.Left.{Going, reached_by}
use Rattle.template_machine_calls.proofs.Beginning.{named_as, refused_planned}
use Rattle.template_machine_calls.proofs.Chaining.{err_kept, err_planned}
use Rattle.template_machine_calls.proofs.calls.call_named.Goals as goal

pub returns-in_err-named-clause-told : goal.returns-in_err-named-clause-told
returns-in_err-named-clause-told g c a =
    err_planned (reached_by (around_under c.args.rules (g.H.Callbacks.callables c.args.host.now) a)) _ _ _ _ (inl c.in_err-named.ensures.refused) c.from_residual.ensures.1

pub returns-in_err-called-clause-told : goal.returns-in_err-called-clause-told
returns-in_err-called-clause-told g c a =
    let around : Around = around_under c.args.rules (g.H.Callbacks.callables c.args.host.now) a in
    let w = c.args.state.now in
    let go : Going = beyond around 0 (around.limit - depth_of w) in
    let called = name_called w.globals (looked_up c.args.name.now w) c.args.args.items in
    err_planned (reached_by around) (call_plan around w called) _ _ _
    (refused_planned around 0 go w called _
    (named_as (Err _) _ w.globals _ (looked_up c.args.name.now w) _ c.args.args.items c.globals.ensures c.in_ok-named.ensures.found c.as_slice.ensures.value c.in_err-called.ensures))
    c.from_residual-in_err-called.ensures.1

pub returns-clause-told : goal.returns-clause-told
returns-clause-told g c a =
    let w = c.args.state.now in
    c.call.ensures.told a (name_called w.globals (looked_up c.args.name.now w) c.args.args.items)
    (named_as (Ok c.in_ok-called.called) _ w.globals _ (looked_up c.args.name.now w) _ c.args.args.items c.globals.ensures c.in_ok-named.ensures.found c.as_slice.ensures.value c.in_ok-called.ensures)

pub returns-in_err-named-clause-kept : goal.returns-in_err-named-clause-kept
returns-in_err-named-clause-kept g c = err_kept _ _ c.args.state.now c.args.state.now refl c.from_residual.ensures.1

pub returns-in_err-called-clause-kept : goal.returns-in_err-called-clause-kept
returns-in_err-called-clause-kept g c = err_kept _ _ c.args.state.now c.args.state.now refl c.from_residual-in_err-called.ensures.1
