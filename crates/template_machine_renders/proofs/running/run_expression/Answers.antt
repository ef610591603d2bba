use Rattle.template_compiler_code.specs.Listing.{code_in}
use Rattle.template_machine_loop.specs.Programs.{programs_in}
use Rattle.template_machine_renders.proofs.Uppermost.{evaluates_none, evaluates_stopped, evaluates_uppermost}
use Rattle.template_machine_renders.proofs.running.run_expression.Goals as goal

pub returns-in_err-operands-clause-evaluates : goal.returns-in_err-operands-clause-evaluates
returns-in_err-operands-clause-evaluates g c =
    let program = c.args.program in
    evaluates_stopped (programs_in g.T.Templates.standing g.T.Templates.joins g.T.Callbacks.callables program)
    (code_in c.args.code.now) c.args.state.now c.args.left.now (g.S.Sink.taken c.args.sink.now) c.run_to_end.new.state c.run_to_end.new.left
    (g.S.Sink.taken c.run_to_end.new.sink) _ _ c.in_err-operands.ensures.runs c.from_residual.ensures.1

pub returns-in_err-take_uppermost-clause-evaluates : goal.returns-in_err-take_uppermost-clause-evaluates
returns-in_err-take_uppermost-clause-evaluates g c =
    let program = c.args.program in
    evaluates_none (programs_in g.T.Templates.standing g.T.Templates.joins g.T.Callbacks.callables program)
    (code_in c.args.code.now) c.args.state.now c.args.left.now (g.S.Sink.taken c.args.sink.now) c.run_to_end.new.state c.run_to_end.new.left
    (g.S.Sink.taken c.run_to_end.new.sink) _ _ _ c.in_ok-operands.ensures.runs c.in_err-take_uppermost.ensures.none c.in_err-take_uppermost.ensures.kind
    c.from_residual-in_err-take_uppermost.ensures.1

pub returns-clause-evaluates : goal.returns-clause-evaluates
returns-clause-evaluates g c =
    let program = c.args.program in
    evaluates_uppermost (programs_in g.T.Templates.standing g.T.Templates.joins g.T.Callbacks.callables program)
    (code_in c.args.code.now) c.args.state.now c.args.left.now (g.S.Sink.taken c.args.sink.now) c.run_to_end.new.state c.run_to_end.new.left
    (g.S.Sink.taken c.run_to_end.new.sink) _ _ _ c.in_ok-operands.ensures.runs c.in_ok-take_uppermost.ensures.taken
