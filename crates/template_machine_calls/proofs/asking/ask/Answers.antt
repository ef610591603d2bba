use Rattle.std.proofs.Common.{Ok, Err, inl, refl, sym, ap, ◌∙◌}
use Rattle.std.specs.Prelude.{string_bytes}
use Rattle.template_callables.specs.Answers.{asked_by}
use Rattle.template_compiler_process.specs.Process.{tells, value}
use Rattle.template_machine_meaning.specs.Calls.{called_plan}
use Rattle.template_machine_meaning.specs.Functions.{filter_named, found_called, test_named, value_called}
use Rattle.template_machine_meaning.specs.Keys.{Around}
use Rattle.template_machine_meaning.specs.Plans.{replies}
use Rattle.template_machine_meaning.specs.Replies.{told}
use Rattle.template_machine_meaning.specs.World.{looked_up, value_named}
use Rattle.template_machine_calls.specs.Hosted.{around_under}
use Rattle.template_machine_calls.specs.Left.{asked_plan, left_by, raw_plan}
use Rattle.template_machine_calls.proofs.Beginning.{found_as, refused_planned, value_as}
use Rattle.template_machine_calls.proofs.Chaining.{err_planned, keeps_any, planned_as}
use Rattle.template_machine_calls.proofs.asking.ask.Goals as goal

pub returns-in_err-called-in-Call-clause-comes : goal.returns-in_err-called-in-Call-clause-comes
returns-in_err-called-in-Call-clause-comes g c a pending go =
    let around : Around = around_under c.args.rules (g.H.Callbacks.callables c.args.host.now) a in
    let w = c.args.state.now in
    planned_as (left_by around pending go) (asked_plan around pending go w (asked_by c.args.further)) (called_plan around pending go w (value_called w.globals c.in-Call.callee c.in-Call.args.items)) _ w
    (ap (λ f. asked_plan around pending go w (asked_by f)) c.in-Call.is)
    (err_planned (left_by around pending go) (called_plan around pending go w (value_called w.globals c.in-Call.callee c.in-Call.args.items)) _ _ w
    (refused_planned around pending go w (value_called w.globals c.in-Call.callee c.in-Call.args.items) _
    (value_as (Err _) _ w.globals c.in-Call.callee _ c.in-Call.args.items c.globals.ensures c.as_slice.ensures.value c.in_err-called-in-Call.ensures))
    c.from_residual.ensures.1)

pub returns-in_ok-called-in-Call-clause-comes : goal.returns-in_ok-called-in-Call-clause-comes
returns-in_ok-called-in-Call-clause-comes g c a pending go =
    let around : Around = around_under c.args.rules (g.H.Callbacks.callables c.args.host.now) a in
    let w = c.args.state.now in
    planned_as (left_by around pending go) (asked_plan around pending go w (asked_by c.args.further)) (called_plan around pending go w (value_called w.globals c.in-Call.callee c.in-Call.args.items)) _ _
    (ap (λ f. asked_plan around pending go w (asked_by f)) c.in-Call.is)
    (c.begin.ensures.comes a pending go (value_called w.globals c.in-Call.callee c.in-Call.args.items)
    (value_as (Ok c.in_ok-called-in-Call.called) _ w.globals c.in-Call.callee _ c.in-Call.args.items c.globals.ensures c.as_slice.ensures.value c.in_ok-called-in-Call.ensures))

pub returns-in-Filter-clause-comes : goal.returns-in-Filter-clause-comes
returns-in-Filter-clause-comes g c a pending go =
    let around : Around = around_under c.args.rules (g.H.Callbacks.callables c.args.host.now) a in
    let w = c.args.state.now in
    planned_as (left_by around pending go) (asked_plan around pending go w (asked_by c.args.further)) (raw_plan around go w (filter_named c.as_str.result.now) c.as_slice-in-Filter.result.now) _ _
    (ap (λ f. asked_plan around pending go w (asked_by f)) c.in-Filter.is
    ∙ (λ i. raw_plan around go w (filter_named (sym c.as_str.ensures.value i)) (sym c.as_slice-in-Filter.ensures.value i)))
    (c.ask_filter.ensures.comes a pending go)

pub returns-in-Filter-clause-kept : goal.returns-in-Filter-clause-kept
returns-in-Filter-clause-kept g c = keeps_any c.ask_filter.result c.args.state.now c.ask_filter.new.state c.ask_filter.ensures.kept

pub returns-in-Test-clause-comes : goal.returns-in-Test-clause-comes
returns-in-Test-clause-comes g c a pending go =
    let around : Around = around_under c.args.rules (g.H.Callbacks.callables c.args.host.now) a in
    let w = c.args.state.now in
    planned_as (left_by around pending go) (asked_plan around pending go w (asked_by c.args.further)) (raw_plan around go w (test_named c.as_str-in-Test.result.now) c.as_slice-in-Test.result.now) _ _
    (ap (λ f. asked_plan around pending go w (asked_by f)) c.in-Test.is
    ∙ (λ i. raw_plan around go w (test_named (sym c.as_str-in-Test.ensures.value i)) (sym c.as_slice-in-Test.ensures.value i)))
    (c.ask_test.ensures.comes a pending go)

pub returns-in-Test-clause-kept : goal.returns-in-Test-clause-kept
returns-in-Test-clause-kept g c = keeps_any c.ask_test.result c.args.state.now c.ask_test.new.state c.ask_test.ensures.kept

pub returns-in_err-lookup-in-Lookup-clause-comes : goal.returns-in_err-lookup-in-Lookup-clause-comes
returns-in_err-lookup-in-Lookup-clause-comes g c a pending go =
    err_planned (left_by (around_under c.args.rules (g.H.Callbacks.callables c.args.host.now) a) pending go) _ _ _ _ (inl c.in_err-lookup-in-Lookup.ensures.refused) c.from_residual-in_err-lookup-in-Lookup.ensures.1

pub returns-in_ok-lookup-in-Lookup-clause-comes : goal.returns-in_ok-lookup-in-Lookup-clause-comes
returns-in_ok-lookup-in-Lookup-clause-comes g c a pending go =
    let around : Around = around_under c.args.rules (g.H.Callbacks.callables c.args.host.now) a in
    let w = c.args.state.now in
    ap (λ f. asked_plan around pending go w (asked_by f)) c.in-Lookup.is
    ∙ (λ i. replies (told w (tells (value (value_named (sym c.as_str-in-Lookup.ensures.value i) w))))) ∙ ap (λ v. replies (told w (tells (value v)))) (sym c.in_ok-lookup-in-Lookup.ensures.found)

pub returns-in_ok-lookup-in-Lookup-clause-kept : goal.returns-in_ok-lookup-in-Lookup-clause-kept
returns-in_ok-lookup-in-Lookup-clause-kept g c = refl

pub returns-in_err-found-in-Macro-clause-comes : goal.returns-in_err-found-in-Macro-clause-comes
returns-in_err-found-in-Macro-clause-comes g c a pending go =
    err_planned (left_by (around_under c.args.rules (g.H.Callbacks.callables c.args.host.now) a) pending go) _ _ _ _ (inl c.in_err-found-in-Macro.ensures.refused) c.from_residual-in_err-found-in-Macro.ensures.1

pub returns-in_err-called-in-Macro-clause-comes : goal.returns-in_err-called-in-Macro-clause-comes
returns-in_err-called-in-Macro-clause-comes g c a pending go =
    let around : Around = around_under c.args.rules (g.H.Callbacks.callables c.args.host.now) a in
    let w = c.args.state.now in
    let named = looked_up (string_bytes c.in-Macro.name) w in
    planned_as (left_by around pending go) (asked_plan around pending go w (asked_by c.args.further)) (called_plan around pending go w (found_called w.globals named c.in-Macro.args.items)) _ w
    (ap (λ f. asked_plan around pending go w (asked_by f)) c.in-Macro.is)
    (err_planned (left_by around pending go) (called_plan around pending go w (found_called w.globals named c.in-Macro.args.items)) _ _ w
    (refused_planned around pending go w (found_called w.globals named c.in-Macro.args.items) _
    (found_as (Err _) _ w.globals _ named _ c.in-Macro.args.items c.globals-in-Macro.ensures
    (c.in_ok-found-in-Macro.ensures.found ∙ ap (λ name. looked_up name w) c.as_str-in-Macro.ensures.value) c.as_slice-in-Macro.ensures.value c.in_err-called-in-Macro.ensures))
    c.from_residual-in_err-called-in-Macro.ensures.1)

pub returns-in_ok-called-in-Macro-clause-comes : goal.returns-in_ok-called-in-Macro-clause-comes
returns-in_ok-called-in-Macro-clause-comes g c a pending go =
    let around : Around = around_under c.args.rules (g.H.Callbacks.callables c.args.host.now) a in
    let w = c.args.state.now in
    let named = looked_up (string_bytes c.in-Macro.name) w in
    planned_as (left_by around pending go) (asked_plan around pending go w (asked_by c.args.further)) (called_plan around pending go w (found_called w.globals named c.in-Macro.args.items)) _ _
    (ap (λ f. asked_plan around pending go w (asked_by f)) c.in-Macro.is)
    (c.begin-in-Macro.ensures.comes a pending go (found_called w.globals named c.in-Macro.args.items)
    (found_as (Ok c.in_ok-called-in-Macro.called) _ w.globals _ named _ c.in-Macro.args.items c.globals-in-Macro.ensures
    (c.in_ok-found-in-Macro.ensures.found ∙ ap (λ name. looked_up name w) c.as_str-in-Macro.ensures.value) c.as_slice-in-Macro.ensures.value c.in_ok-called-in-Macro.ensures))

pub returns-in-Block-clause-comes : goal.returns-in-Block-clause-comes
returns-in-Block-clause-comes g c a pending go =
    let around : Around = around_under c.args.rules (g.H.Callbacks.callables c.args.host.now) a in
    ap (λ f. asked_plan around pending go c.args.state.now (asked_by f)) c.in-Block.is
