use Rattle.std.proofs.Common.{List, None, Some, refl, sym, ap, subst, ◌∙◌}
use Rattle.template_compiler_code.specs.Code.{Code}
use Rattle.template_compiler_code.specs.Listing.{code_in}
use Rattle.template_compiler_code.specs.Steps.{values_in}
use Rattle.template_compiler_code_shapes.specs.Checked.{kind_in, stream_in}
use Rattle.template_compiler_code_shapes.specs.Streams.{IsGood}
use Rattle.template_machine_operands.specs.Operands.{operands_in}
use Rattle.template_machine_operands.specs.declared.Operands.{Operands}
use Rattle.template_machine_loop.specs.Programs.{programs_in, roots_of}
use Rattle.template_machine_loop.proofs.Failing.{tells_on}
use Rattle.template_machine_renders.specs.Handed.{LeavesAtEnd, own_run}
use Rattle.template_machine_renders.proofs.Handed.{begun_breaks, begun_comes, few_left, no_value, value_only}
use Rattle.template_machine_renders.proofs.streams.run_begun.Goals as goal

-- it stops before its end
pub returns-in_err-operands-clause-runs : goal.returns-in_err-operands-clause-runs
returns-in_err-operands-clause-runs g c = λ number is.
    let taken = ap code_in c.instructions-code.ensures.same in
    begun_breaks (g.T.Templates.standing c.args.program.templates.now) (g.T.Templates.joins c.args.program.templates.now) (g.T.Callbacks.callables c.args.program.templates.now) (roots_of c.args.program) c.args.program.rules (code_in (stream_in c.args.stream.now)) c.args.state.now c.args.left.now (g.S.Sink.taken c.args.sink.now) number is
    Operands _ c.from_residual.result c.run_followed.new.state c.run_followed.new.left (g.S.Sink.taken c.run_followed.new.sink)
    (c.in_err-operands.ensures.runs number (is ∙ ap (λ (code : List Code). Some (number, code)) (sym taken))) c.from_residual.ensures.1

pub returns-in_err-operands-clause-failures : goal.returns-in_err-operands-clause-failures
returns-in_err-operands-clause-failures g c = tells_on Operands c.from_residual.result _ (g.S.Sink.failures c.args.sink.now) (g.S.Sink.failures c.args.sink.now) (g.S.Sink.failures c.run_followed.new.sink)
    c.from_residual.ensures.1 refl c.in_err-operands.ensures.failures

pub returns-in-Ok-clause-runs : goal.returns-in-Ok-clause-runs
returns-in-Ok-clause-runs g c = λ number is.
    let taken = ap code_in c.instructions-code.ensures.same in
    begun_comes (g.T.Templates.standing c.args.program.templates.now) (g.T.Templates.joins c.args.program.templates.now) (g.T.Callbacks.callables c.args.program.templates.now) (roots_of c.args.program) c.args.program.rules (code_in (stream_in c.args.stream.now)) c.args.state.now c.args.left.now (g.S.Sink.taken c.args.sink.now) number is
    c.in_ok-operands.operands (values_in (operands_in c.in_ok-operands.operands)) (Some c.in-Ok.value) c.run_followed.new.state c.run_followed.new.left (g.S.Sink.taken c.run_followed.new.sink)
    (c.in_ok-operands.ensures.runs number (is ∙ ap (λ (code : List Code). Some (number, code)) (sym taken)))
    (subst (λ (code : List Code). LeavesAtEnd (own_run (programs_in g.T.Templates.standing g.T.Templates.joins g.T.Callbacks.callables c.args.program) code c.args.state.now) (values_in (operands_in c.in_ok-operands.operands)))
    (ap code_in c.instructions-code.ensures.same) c.in_ok-operands.ensures.leaves)
    (value_only (kind_in c.args.stream.now) c.in-Ok.value _ _ c.in-Ok.ensures.taken (few_left (programs_in g.T.Templates.standing g.T.Templates.joins g.T.Callbacks.callables c.args.program)
    (code_in (stream_in c.args.stream.now)) c.args.state.now (kind_in c.args.stream.now)
    (subst (λ (code : List Code). IsGood (kind_in c.args.stream.now) code) (ap code_in c.instructions-code.ensures.same) c.instructions-code.ensures.good)
    (values_in (operands_in c.in_ok-operands.operands)) (subst (λ (code : List Code). LeavesAtEnd (own_run (programs_in g.T.Templates.standing g.T.Templates.joins g.T.Callbacks.callables c.args.program) code c.args.state.now) (values_in (operands_in c.in_ok-operands.operands)))
    (ap code_in c.instructions-code.ensures.same) c.in_ok-operands.ensures.leaves)))

pub returns-clause-runs : goal.returns-clause-runs
returns-clause-runs g c = λ number is.
    let taken = ap code_in c.instructions-code.ensures.same in
    begun_comes (g.T.Templates.standing c.args.program.templates.now) (g.T.Templates.joins c.args.program.templates.now) (g.T.Callbacks.callables c.args.program.templates.now) (roots_of c.args.program) c.args.program.rules (code_in (stream_in c.args.stream.now)) c.args.state.now c.args.left.now (g.S.Sink.taken c.args.sink.now) number is
    c.in_ok-operands.operands (values_in (operands_in c.in_ok-operands.operands)) None c.run_followed.new.state c.run_followed.new.left (g.S.Sink.taken c.run_followed.new.sink)
    (c.in_ok-operands.ensures.runs number (is ∙ ap (λ (code : List Code). Some (number, code)) (sym taken)))
    (subst (λ (code : List Code). LeavesAtEnd (own_run (programs_in g.T.Templates.standing g.T.Templates.joins g.T.Callbacks.callables c.args.program) code c.args.state.now) (values_in (operands_in c.in_ok-operands.operands)))
    (ap code_in c.instructions-code.ensures.same) c.in_ok-operands.ensures.leaves)
    c.in-Err.ensures.none

pub returns-in-Ok-clause-template : goal.returns-in-Ok-clause-template
returns-in-Ok-clause-template g c = λ is.
    no_value c.in-Ok.value _ (values_in (operands_in c.in_ok-operands.operands)) c.in-Ok.ensures.taken (kind_in c.args.stream.now)
    (few_left (programs_in g.T.Templates.standing g.T.Templates.joins g.T.Callbacks.callables c.args.program)
    (code_in (stream_in c.args.stream.now)) c.args.state.now (kind_in c.args.stream.now)
    (subst (λ (code : List Code). IsGood (kind_in c.args.stream.now) code) (ap code_in c.instructions-code.ensures.same) c.instructions-code.ensures.good)
    (values_in (operands_in c.in_ok-operands.operands)) (subst (λ (code : List Code). LeavesAtEnd (own_run (programs_in g.T.Templates.standing g.T.Templates.joins g.T.Callbacks.callables c.args.program) code c.args.state.now) (values_in (operands_in c.in_ok-operands.operands)))
    (ap code_in c.instructions-code.ensures.same) c.in_ok-operands.ensures.leaves)) is
