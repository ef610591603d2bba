use Rattle.std.proofs.Common.{Ok, inl, refl, sym, ap, subst, ◌∙◌}
use Rattle.template_compiler_process.specs.Process.{value}
use Rattle.template_machine_meaning.specs.Calls.{called_plan, said}
use Rattle.template_machine_meaning.specs.Functions.{function_numbered, invokes}
use Rattle.template_machine_meaning.specs.Keys.{Around}
use Rattle.template_machine_meaning.specs.Namespaces.{made_namespace}
use Rattle.template_machine_meaning.specs.Plans.{replies}
use Rattle.template_machine_meaning.specs.Replies.{changed}
use Rattle.template_machine_operations.specs.Called.{Comes}
use Rattle.template_machine_operations.specs.declared.called.Called.{Called}
use Rattle.template_values_core.specs.Shape.{pairs_in}
use Rattle.template_machine_calls.specs.Hosted.{around_under}
use Rattle.template_machine_calls.specs.Left.{left_by}
use Rattle.template_machine_calls.proofs.Chaining.{answered_raw, err_planned, keeps_any, planned_as}
use Rattle.template_machine_calls.proofs.Opening.{compared_open, made_open}
use Rattle.template_machine_calls.proofs.asking.begin.Goals as goal

pub returns-in-Value-clause-comes : goal.returns-in-Value-clause-comes
returns-in-Value-clause-comes g c a pending go came comes =
    let around : Around = around_under c.args.rules (g.H.Callbacks.callables c.args.host.now) a in
    ap (called_plan around pending go c.args.state.now) (subst (λ (k : Called). Comes (Ok k) c.args.args.items came) c.in-Value.is comes)

pub returns-in-Value-clause-kept : goal.returns-in-Value-clause-kept
returns-in-Value-clause-kept g c = refl

pub returns-in_err-make_namespace-in-Namespace-clause-comes : goal.returns-in_err-make_namespace-in-Namespace-clause-comes
returns-in_err-make_namespace-in-Namespace-clause-comes g c a pending go came comes =
    err_planned (left_by (around_under c.args.rules (g.H.Callbacks.callables c.args.host.now) a) pending go) _ _ _ _ (inl c.in_err-make_namespace-in-Namespace.ensures.refused) c.from_residual.ensures.1

pub returns-in_ok-make_namespace-in-Namespace-clause-comes : goal.returns-in_ok-make_namespace-in-Namespace-clause-comes
returns-in_ok-make_namespace-in-Namespace-clause-comes g c a pending go came comes =
    let around : Around = around_under c.args.rules (g.H.Callbacks.callables c.args.host.now) a in
    ap (called_plan around pending go c.args.state.now) (subst (λ (k : Called). Comes (Ok k) c.args.args.items came) c.in-Namespace.is comes)
    ∙ sym (ap (λ t. replies (changed t (value c.in_ok-make_namespace-in-Namespace.field-0))) c.in_ok-make_namespace-in-Namespace.ensures.made
    ∙ ap (λ u. replies (changed (made_namespace c.args.state.now (pairs_in c.in-Namespace.entries.items)) (value u))) c.in_ok-make_namespace-in-Namespace.ensures.given)

pub returns-in_ok-make_namespace-in-Namespace-clause-kept : goal.returns-in_ok-make_namespace-in-Namespace-clause-kept
returns-in_ok-make_namespace-in-Namespace-clause-kept g c =
    made_open c.args.state.now c.make_namespace.new.self (pairs_in c.in-Namespace.entries.items) c.in_ok-make_namespace-in-Namespace.ensures.made

pub returns-in_err-changed-in-Changed-clause-comes : goal.returns-in_err-changed-in-Changed-clause-comes
returns-in_err-changed-in-Changed-clause-comes g c a pending go came comes =
    err_planned (left_by (around_under c.args.rules (g.H.Callbacks.callables c.args.host.now) a) pending go) _ _ _ _ (inl c.in_err-changed-in-Changed.ensures.refused) c.from_residual-in_err-changed-in-Changed.ensures.1

pub returns-in_ok-changed-in-Changed-clause-comes : goal.returns-in_ok-changed-in-Changed-clause-comes
returns-in_ok-changed-in-Changed-clause-comes g c a pending go came comes =
    let around : Around = around_under c.args.rules (g.H.Callbacks.callables c.args.host.now) a in
    ap (called_plan around pending go c.args.state.now) (subst (λ (k : Called). Comes (Ok k) c.args.args.items came) c.in-Changed.is comes)
    ∙ c.in_ok-changed-in-Changed.ensures.told around pending go ∙ ap (λ u. replies (changed c.changed.new.self (value u))) (sym c.from_bool.ensures)

pub returns-in_ok-changed-in-Changed-clause-kept : goal.returns-in_ok-changed-in-Changed-clause-kept
returns-in_ok-changed-in-Changed-clause-kept g c =
    compared_open c.args.state.now c.changed.new.self c.in-Changed.number c.args.args.items c.in_ok-changed-in-Changed.changed
    c.in_ok-changed-in-Changed.ensures.told

pub returns-in-Function-clause-comes : goal.returns-in-Function-clause-comes
returns-in-Function-clause-comes g c a pending go came comes =
    let around : Around = around_under c.args.rules (g.H.Callbacks.callables c.args.host.now) a in
    let number = c.in-Function.number in
    planned_as (left_by around pending go) _ _ _ _
    (ap (called_plan around pending go c.args.state.now) (subst (λ (k : Called). Comes (Ok k) c.args.args.items came) c.in-Function.is comes)
    ∙ ap (λ vs. called_plan around pending go c.args.state.now (invokes (function_numbered number) vs)) (sym c.as_slice.ensures.value)
    ∙ answered_raw around go c.args.state.now (function_numbered number) c.as_slice.result.now (said around.callables (function_numbered number)))
    (c.ask_function.ensures.comes a pending go)

pub returns-in-Function-clause-kept : goal.returns-in-Function-clause-kept
returns-in-Function-clause-kept g c = keeps_any c.ask_function.result c.args.state.now c.ask_function.new.state c.ask_function.ensures.kept

pub returns-in-Macro-clause-comes : goal.returns-in-Macro-clause-comes
returns-in-Macro-clause-comes g c a pending go came comes =
    let around : Around = around_under c.args.rules (g.H.Callbacks.callables c.args.host.now) a in
    ap (called_plan around pending go c.args.state.now) (subst (λ (k : Called). Comes (Ok k) c.args.args.items came) c.in-Macro.is comes)

pub returns-in-Rounds-clause-comes : goal.returns-in-Rounds-clause-comes
returns-in-Rounds-clause-comes g c a pending go came comes =
    let around : Around = around_under c.args.rules (g.H.Callbacks.callables c.args.host.now) a in
    ap (called_plan around pending go c.args.state.now) (subst (λ (k : Called). Comes (Ok k) c.args.args.items came) c.in-Rounds.is comes)
