use Rattle.std.proofs.Common.{ap, sym, ◌∙◌}
use Rattle.template_compiler_code.specs.Code as codes
use Rattle.template_compiler_code.specs.View.{code_of}
use Rattle.template_machine_calls.specs.Hosted.{hosted}
use Rattle.template_compiler_walk.specs.Statements.{is_super_name}
use Rattle.template_machine_loop.specs.Programs.{task_of}
use Rattle.template_machine_loop.proofs.Calling.{none_calls, calls_at, called_name}
use Rattle.template_machine_loop.proofs.calls.called.Goals as goal

pub returns-in-ApplyFilter : goal.returns-in-ApplyFilter
returns-in-ApplyFilter g c program =
    calls_at (hosted c.args.rules (g.H.Callbacks.callables c.args.host.now) program) (codes.apply_filter _ _ _) _ _ _ _ _ _
    (ap code_of c.in-ApplyFilter.is ∙ ap (λ t. codes.apply_filter t c.in-ApplyFilter.count c.in-ApplyFilter.field-2) (sym c.as_str.ensures.value))
    (c.apply_filter.ensures program _)

pub returns-in-PerformTest : goal.returns-in-PerformTest
returns-in-PerformTest g c program =
    calls_at (hosted c.args.rules (g.H.Callbacks.callables c.args.host.now) program) (codes.perform_test _ _ _) _ _ _ _ _ _
    (ap code_of c.in-PerformTest.is ∙ ap (λ t. codes.perform_test t c.in-PerformTest.count c.in-PerformTest.field-2) (sym c.as_str-in-PerformTest.ensures.value))
    (c.perform_test.ensures program _)

pub call_function-requires : goal.call_function-requires
call_function-requires g c =
    called_name (is_super_name c.as_str-in-CallFunction.result.now)
    (sym (ap task_of (ap code_of c.in-CallFunction.is ∙ ap (λ t. codes.call_function t c.in-CallFunction.count) (sym c.as_str-in-CallFunction.ensures.value))) ∙ c.requires)

pub returns-in-CallFunction : goal.returns-in-CallFunction
returns-in-CallFunction g c program =
    calls_at (hosted c.args.rules (g.H.Callbacks.callables c.args.host.now) program) (codes.call_function _ _) _ _ _ _ _ _
    (ap code_of c.in-CallFunction.is ∙ ap (λ t. codes.call_function t c.in-CallFunction.count) (sym c.as_str-in-CallFunction.ensures.value))
    (c.call_function.ensures program)

pub returns-in-CallMethod : goal.returns-in-CallMethod
returns-in-CallMethod g c program =
    calls_at (hosted c.args.rules (g.H.Callbacks.callables c.args.host.now) program) (codes.call_method _ _) _ _ _ _ _ _
    (ap code_of c.in-CallMethod.is ∙ ap (λ t. codes.call_method t c.in-CallMethod.count) (sym c.as_str-in-CallMethod.ensures.value))
    (c.call_method.ensures program)

pub returns-in-CallObject : goal.returns-in-CallObject
returns-in-CallObject g c program =
    calls_at (hosted c.args.rules (g.H.Callbacks.callables c.args.host.now) program) (codes.call_object _) _ _ _ _ _ _
    (ap code_of c.in-CallObject.is) (c.call_object.ensures program)

pub returns-in_default : goal.returns-in_default
returns-in_default g c program =
    let h = c.in_default in
    absurd (none_calls c.args.instruction.now c.requires h.not-ApplyFilter h.not-PerformTest h.not-CallFunction h.not-CallMethod h.not-CallObject)
