use Rattle.std.proofs.Common.{◌≡◌, ◌≤◌, length, refl, sym, ap, arith}
use Rattle.template_compiler_code.specs.Listing.{code_in}
use Rattle.template_machine_meaning.specs.Keys as keys
use Rattle.template_machine_meaning.specs.Keys.{own}
use Rattle.template_machine_meaning.specs.World.{World}
use Rattle.template_machine_meaning.proofs.RunsKept.{world_stays}
use Rattle.template_machine_operands.specs.Operands.{operands_in}
use Rattle.template_machine_operands.specs.declared.Operands.{Operands}
use Rattle.template_machine_loop.specs.Programs.{roots_of, standing_of}
use Rattle.template_machine_loop.proofs.Failing.{tells_on}
use Rattle.template_machine_renders.proofs.Handed.{followed_breaks, followed_ends, followed_lost, followed_on, followed_stops, leaves_values, parent_there, restart_keeps}
use Rattle.template_machine_renders.proofs.streams.run_followed.Goals as goal

-- its own code stops before its end
pub returns-in_err-operands-clause-runs : goal.returns-in_err-operands-clause-runs
returns-in_err-operands-clause-runs g c = λ number is.
    followed_stops (g.T.Templates.standing c.args.program.templates.now) (g.T.Templates.joins c.args.program.templates.now) (g.T.Callbacks.callables c.args.program.templates.now) (roots_of c.args.program) c.args.program.rules (code_in c.args.code.now) c.args.state.now c.args.left.now (g.S.Sink.taken c.args.sink.now) number is
    _ c.from_residual.result c.run_to_end.new.state c.run_to_end.new.left (g.S.Sink.taken c.run_to_end.new.sink) c.in_err-operands.ensures.runs c.from_residual.ensures.1

pub returns-in_err-operands-clause-failures : goal.returns-in_err-operands-clause-failures
returns-in_err-operands-clause-failures g c = tells_on Operands c.from_residual.result _ (g.S.Sink.failures c.args.sink.now) (g.S.Sink.failures c.args.sink.now) (g.S.Sink.failures c.run_to_end.new.sink)
    c.from_residual.ensures.1 refl c.in_err-operands.ensures.failures

-- it extends no template
pub returns-in_default-clause-runs : goal.returns-in_default-clause-runs
returns-in_default-clause-runs g c = λ number is.
    followed_ends (g.T.Templates.standing c.args.program.templates.now) (g.T.Templates.joins c.args.program.templates.now) (g.T.Callbacks.callables c.args.program.templates.now) (roots_of c.args.program) c.args.program.rules (code_in c.args.code.now) c.args.state.now c.args.left.now (g.S.Sink.taken c.args.sink.now) number is
    (operands_in c.in_ok-operands.operands) c.run_to_end.new.state c.run_to_end.new.left (g.S.Sink.taken c.run_to_end.new.sink) c.in_ok-operands.ensures.runs c.in_ok-operands.operands (sym c.in_default.ensures)

pub returns-in_default-clause-leaves : goal.returns-in_default-clause-leaves
returns-in_default-clause-leaves g c =
    leaves_values (g.T.Templates.standing c.args.program.templates.now) (g.T.Templates.joins c.args.program.templates.now) (g.T.Callbacks.callables c.args.program.templates.now) (roots_of c.args.program) c.args.program.rules (code_in c.args.code.now) c.args.state.now c.args.left.now (g.S.Sink.taken c.args.sink.now)
    (operands_in c.in_ok-operands.operands) c.run_to_end.new.state c.run_to_end.new.left (g.S.Sink.taken c.run_to_end.new.sink) c.in_ok-operands.ensures.runs

-- one that does not stand
pub returns-in_default-get-clause-runs : goal.returns-in_default-get-clause-runs
returns-in_default-get-clause-runs g c = λ number is.
    followed_lost (g.T.Templates.standing c.args.program.templates.now) (g.T.Templates.joins c.args.program.templates.now) (g.T.Callbacks.callables c.args.program.templates.now) (roots_of c.args.program) c.args.program.rules (code_in c.args.code.now) c.args.state.now c.args.left.now (g.S.Sink.taken c.args.sink.now) number is
    (operands_in c.in_ok-operands.operands) c.run_to_end.new.state c.run_to_end.new.left (g.S.Sink.taken c.run_to_end.new.sink) c.in_ok-operands.ensures.runs Operands c.in-Some.name.now c.new.result c.restart.new.self (sym c.in-Some.ensures) (sym c.in_default-get.ensures.found) c.new.ensures c.restart.ensures

pub returns-in_default-get-clause-keeps : goal.returns-in_default-get-clause-keeps
returns-in_default-get-clause-keeps g c =
    restart_keeps c.args.state.now c.run_to_end.new.state c.restart.new.self c.restart.new.self c.in-Some.name.now c.in_ok-operands.ensures.keeps c.restart.ensures (world_stays c.restart.new.self)

-- or one that runs in its place
pub run_whole-requires : goal.run_whole-requires
run_whole-requires g c =
    let floor : c.restart.new.self.floor ≡ c.run_to_end.new.state.floor = ap (λ (w : World). w.floor) c.restart.ensures in
    let many : length c.restart.new.self.frames ≡ length c.run_to_end.new.state.frames = ap (λ (w : World). length w.frames) c.restart.ensures in
    let kept : c.run_to_end.new.state.floor ≡ c.args.state.now.floor = c.in_ok-operands.ensures.keeps.floor in
    let enough : c.args.state.now.floor ≤ length c.run_to_end.new.state.frames = (c.in_ok-operands.ensures.keeps.frames c.requires).many in
    omega (arith, floor, many, kept, enough)

pub returns-in-Ok-clause-runs : goal.returns-in-Ok-clause-runs
returns-in-Ok-clause-runs g c = λ number is.
    followed_on (g.T.Templates.standing c.args.program.templates.now) (g.T.Templates.joins c.args.program.templates.now) (g.T.Callbacks.callables c.args.program.templates.now) (roots_of c.args.program) c.args.program.rules (code_in c.args.code.now) c.args.state.now c.args.left.now (g.S.Sink.taken c.args.sink.now) number is
    (operands_in c.in_ok-operands.operands) c.run_to_end.new.state c.run_to_end.new.left (g.S.Sink.taken c.run_to_end.new.sink) c.in_ok-operands.ensures.runs
    c.in-Some.name.now (standing_of c.in-Some-get.parent) c.restart.new.self (sym c.in-Some.ensures) (sym c.in-Some-get.ensures.found) c.restart.ensures (tt {0}) c.in_ok-operands.operands
    c.run_whole.new.state c.run_whole.new.left (g.S.Sink.taken c.run_whole.new.sink)
    (c.in-Ok.ensures.runs (own (keys.standing c.in-Some.name.now))
    (parent_there (g.T.Templates.standing c.args.program.templates.now) (g.T.Templates.joins c.args.program.templates.now) (g.T.Callbacks.callables c.args.program.templates.now) (roots_of c.args.program) c.args.program.rules (code_in c.args.code.now) c.args.state.now c.args.left.now (g.S.Sink.taken c.args.sink.now) number is
    (operands_in c.in_ok-operands.operands) c.run_to_end.new.state c.run_to_end.new.left (g.S.Sink.taken c.run_to_end.new.sink) c.in_ok-operands.ensures.runs
    c.in-Some.name.now (standing_of c.in-Some-get.parent) c.restart.new.self (sym c.in-Some.ensures) (sym c.in-Some-get.ensures.found) c.restart.ensures))

pub returns-in-Ok-clause-keeps : goal.returns-in-Ok-clause-keeps
returns-in-Ok-clause-keeps g c =
    restart_keeps c.args.state.now c.run_to_end.new.state c.restart.new.self c.run_whole.new.state c.in-Some.name.now c.in_ok-operands.ensures.keeps c.restart.ensures c.in-Ok.ensures.keeps

pub returns-in-Err-clause-runs : goal.returns-in-Err-clause-runs
returns-in-Err-clause-runs g c = λ number is.
    followed_breaks (g.T.Templates.standing c.args.program.templates.now) (g.T.Templates.joins c.args.program.templates.now) (g.T.Callbacks.callables c.args.program.templates.now) (roots_of c.args.program) c.args.program.rules (code_in c.args.code.now) c.args.state.now c.args.left.now (g.S.Sink.taken c.args.sink.now) number is
    (operands_in c.in_ok-operands.operands) c.run_to_end.new.state c.run_to_end.new.left (g.S.Sink.taken c.run_to_end.new.sink) c.in_ok-operands.ensures.runs
    c.in-Some.name.now (standing_of c.in-Some-get.parent) c.restart.new.self (sym c.in-Some.ensures) (sym c.in-Some-get.ensures.found) c.restart.ensures (Unit {0}) Operands c.in-Err.stop
    c.run_whole.new.state c.run_whole.new.left (g.S.Sink.taken c.run_whole.new.sink)
    (c.in-Err.ensures.runs (own (keys.standing c.in-Some.name.now))
    (parent_there (g.T.Templates.standing c.args.program.templates.now) (g.T.Templates.joins c.args.program.templates.now) (g.T.Callbacks.callables c.args.program.templates.now) (roots_of c.args.program) c.args.program.rules (code_in c.args.code.now) c.args.state.now c.args.left.now (g.S.Sink.taken c.args.sink.now) number is
    (operands_in c.in_ok-operands.operands) c.run_to_end.new.state c.run_to_end.new.left (g.S.Sink.taken c.run_to_end.new.sink) c.in_ok-operands.ensures.runs
    c.in-Some.name.now (standing_of c.in-Some-get.parent) c.restart.new.self (sym c.in-Some.ensures) (sym c.in-Some-get.ensures.found) c.restart.ensures))

pub returns-in-Err-clause-keeps : goal.returns-in-Err-clause-keeps
returns-in-Err-clause-keeps g c =
    restart_keeps c.args.state.now c.run_to_end.new.state c.restart.new.self c.run_whole.new.state c.in-Some.name.now c.in_ok-operands.ensures.keeps c.restart.ensures c.in-Err.ensures.keeps

pub returns-in-Ok-clause-leaves : goal.returns-in-Ok-clause-leaves
returns-in-Ok-clause-leaves g c =
    leaves_values (g.T.Templates.standing c.args.program.templates.now) (g.T.Templates.joins c.args.program.templates.now) (g.T.Callbacks.callables c.args.program.templates.now) (roots_of c.args.program) c.args.program.rules (code_in c.args.code.now) c.args.state.now c.args.left.now (g.S.Sink.taken c.args.sink.now)
    (operands_in c.in_ok-operands.operands) c.run_to_end.new.state c.run_to_end.new.left (g.S.Sink.taken c.run_to_end.new.sink) c.in_ok-operands.ensures.runs
