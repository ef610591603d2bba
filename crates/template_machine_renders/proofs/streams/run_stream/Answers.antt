use Rattle.std.proofs.Common.{List, Some, sym, ap, subst, ◌∙◌}
use Rattle.template_compiler_code.specs.Code.{Code}
use Rattle.template_compiler_code.specs.Listing.{code_in}
use Rattle.template_compiler_code_shapes.specs.Checked.{stream_in}
use Rattle.template_machine_meaning.specs.Plans.{Caller, put_back}
use Rattle.template_machine_meaning.specs.Keeps.{KeepsWorld}
use Rattle.template_machine_meaning.specs.World.{World}
use Rattle.template_machine_meaning.proofs.RunsKept.{world_stays}
use Rattle.template_machine_loop.specs.Programs.{programs_under, roots_of}
use Rattle.template_machine_loop.proofs.Itself.{put_back_itself}
use Rattle.template_machine_renders.specs.Handed.{ComesGiving, begun_run, handing, own_run}
use Rattle.template_machine_renders.proofs.Handed.{stream_comes, stream_frames, stream_keeps, stream_lacks, stream_refused}
use Rattle.template_machine_renders.proofs.streams.run_stream.Goals as goal

-- there is no room
pub returns-then-not-has_room-clause-runs : goal.returns-then-not-has_room-clause-runs
returns-then-not-has_room-clause-runs g c =
    let code = code_in (stream_in c.args.stream.now) in
    let s = programs_under (g.T.Templates.standing c.args.program.templates.now) (g.T.Templates.joins c.args.program.templates.now) (g.T.Callbacks.callables c.args.program.templates.now) (handing c.args.number code (roots_of c.args.program)) c.args.program.rules in
    stream_refused s code c.args.number c.args.state.now c.args.left.now (g.S.Sink.taken c.args.sink.now)
    (sym c.has_room.ensures ∙ c.if-not-has_room.true) c.new.result c.new.ensures

pub returns-then-not-has_room-clause-back : goal.returns-then-not-has_room-clause-back
returns-then-not-has_room-clause-back g c = record { within = c.args.state.now; is = put_back_itself c.args.state.now }

pub returns-then-not-has_room-clause-keeps : goal.returns-then-not-has_room-clause-keeps
returns-then-not-has_room-clause-keeps g c = world_stays c.args.state.now

-- no memory for its frame
pub returns-in_err-caller-clause-runs : goal.returns-in_err-caller-clause-runs
returns-in_err-caller-clause-runs g c =
    let code = code_in (stream_in c.args.stream.now) in
    let s = programs_under (g.T.Templates.standing c.args.program.templates.now) (g.T.Templates.joins c.args.program.templates.now) (g.T.Callbacks.callables c.args.program.templates.now) (handing c.args.number code (roots_of c.args.program)) c.args.program.rules in
    stream_lacks s code c.args.number c.args.state.now c.args.left.now (g.S.Sink.taken c.args.sink.now)
    _ c.from_residual.result c.enter_stream.new.self c.from_residual.ensures.1 c.in_err-caller.ensures.refused

pub returns-in_err-caller-clause-back : goal.returns-in_err-caller-clause-back
returns-in_err-caller-clause-back g c =
    record { within = c.args.state.now; is = c.in_err-caller.ensures.unchanged ∙ put_back_itself c.args.state.now }

pub returns-in_err-caller-clause-keeps : goal.returns-in_err-caller-clause-keeps
returns-in_err-caller-clause-keeps g c = subst (KeepsWorld c.args.state.now) (sym c.in_err-caller.ensures.unchanged) (world_stays c.args.state.now)

pub returns-in_err-caller-clause-frames : goal.returns-in_err-caller-clause-frames
returns-in_err-caller-clause-frames g c = ap (λ (w : World). w.frames) c.in_err-caller.ensures.unchanged

-- it runs
pub returns-clause-runs : goal.returns-clause-runs
returns-clause-runs g c =
    let code = code_in (stream_in c.args.stream.now) in
    let s = programs_under (g.T.Templates.standing c.args.program.templates.now) (g.T.Templates.joins c.args.program.templates.now) (g.T.Callbacks.callables c.args.program.templates.now) (handing c.args.number code (roots_of c.args.program)) c.args.program.rules in
    stream_comes s code c.args.number c.args.state.now c.args.left.now (g.S.Sink.taken c.args.sink.now)
    (sym c.has_room.ensures ∙ c.if-not-has_room.false) c.enter_stream.new.self c.in_ok-caller.ensures.within _ _ c.run_begun-ran.result c.run_begun-ran.new.state c.leave_block.new.self
    (c.leave_block.ensures ∙ ap (λ (k : Caller). put_back k c.run_begun-ran.new.state) c.in_ok-caller.ensures.kept)
    (subst
    (λ (k : List Code). ComesGiving
    (own_run (programs_under (g.T.Templates.standing c.args.program.templates.now) (g.T.Templates.joins c.args.program.templates.now) (g.T.Callbacks.callables c.args.program.templates.now) (handing c.args.number k (roots_of c.args.program)) c.args.program.rules) code c.enter_stream.new.self)
    (begun_run (programs_under (g.T.Templates.standing c.args.program.templates.now) (g.T.Templates.joins c.args.program.templates.now) (g.T.Callbacks.callables c.args.program.templates.now) (handing c.args.number k (roots_of c.args.program)) c.args.program.rules) c.args.number c.enter_stream.new.self)
    c.args.left.now (g.S.Sink.taken c.args.sink.now) c.run_begun-ran.result c.run_begun-ran.new.state c.run_begun-ran.new.left (g.S.Sink.taken c.run_begun-ran.new.sink))
    (ap code_in c.instructions.ensures.same)
    (c.run_begun-ran.ensures.runs c.args.number (ap (λ (k : List Code). Some (c.args.number, k)) (ap code_in c.instructions.ensures.same))))

pub returns-clause-keeps : goal.returns-clause-keeps
returns-clause-keeps g c =
    stream_keeps c.args.state.now c.enter_stream.new.self c.run_begun-ran.new.state c.leave_block.new.self c.args.number c.in_ok-caller.ensures.within c.run_begun-ran.ensures.keeps
    (c.leave_block.ensures ∙ ap (λ (k : Caller). put_back k c.run_begun-ran.new.state) c.in_ok-caller.ensures.kept)

pub returns-clause-frames : goal.returns-clause-frames
returns-clause-frames g c =
    stream_frames c.args.state.now c.enter_stream.new.self c.run_begun-ran.new.state c.leave_block.new.self c.args.number c.in_ok-caller.ensures.within c.run_begun-ran.ensures.keeps
    (c.leave_block.ensures ∙ ap (λ (k : Caller). put_back k c.run_begun-ran.new.state) c.in_ok-caller.ensures.kept)

pub returns-clause-back : goal.returns-clause-back
returns-clause-back g c = record {
  within = c.run_begun-ran.new.state;
  is = c.leave_block.ensures ∙ ap (λ (k : Caller). put_back k c.run_begun-ran.new.state) c.in_ok-caller.ensures.kept;
}
