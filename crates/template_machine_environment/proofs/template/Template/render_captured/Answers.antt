use Rattle.std.proofs.Common.{◌≡◌, ℕ, List, [], Ok}
use Rattle.std.proofs.lemmas.Result.{err_from_is_err_and}
use Rattle.template_compiler_process.specs.Fuel.{under}
use Rattle.template_compiler_process.specs.Trace.{Run}
use Rattle.template_compiled.specs.Plain.{text_kept}
use Rattle.template_machine_meaning.specs.World.{World}
use Rattle.template_machine_renders.specs.Renders.{leaves}
use Rattle.template_machine_environment.specs.Extras.{user_answers}
use Rattle.template_machine_environment.specs.Reading.{brought_of}
use Rattle.template_machine_environment.specs.States.{fuel_left_in, world_in}
use Rattle.template_machine_environment.specs.Views.{compiled_in, output_of, source_of}
use Rattle.template_machine_environment.specs.declared.template.Captured.{Captured}
use Rattle.template_machine_environment.proofs.Capturing.{call_faults, call_gives, called}
use Rattle.template_machine_environment.proofs.Plain.{plain_gives}
use Rattle.template_machine_environment.proofs.template.Template.render_captured.Goals as goal

pub returns-in_err-id-clause-isolated : goal.returns-in_err-id-clause-isolated
returns-in_err-id-clause-isolated g c = c.isolated_renders.ensures c.args.context

pub returns-in_err-state-clause-isolated : goal.returns-in_err-state-clause-isolated
returns-in_err-state-clause-isolated g c = c.isolated_renders.ensures c.args.context

pub returns-clause-isolated : goal.returns-clause-isolated
returns-clause-isolated g c = c.isolated_renders.ensures c.args.context

-- where a call faults, no text is asked for
abbrev no_text : Unit {0} → List ℕ
no_text u = []

pub returns-in_err-state-clause-text : goal.returns-in_err-state-clause-text
returns-in_err-state-clause-text g c = λ live n finished.
    let self = c.args.self.now in
    let brought = brought_of (user_answers g.E.Callable.Callable.answer g.E.Method.UnknownMethod.answer g.E.Formatter.Formatter.answer g.E.Join.PathJoin.answer) self.environment.now in
    let p = err_from_is_err_and c.from_residual-in_err-state.result c.from_residual-in_err-state.ensures.1 in
    rw (p.1, p.2)
    (call_faults _ _ no_text brought self.environment.now.registry _ c.args.ids.now _ (compiled_in self.compiled) c.args.context _ _ 0
    c.in_ok-id.ensures.given c.get.ensures c.in_err-state.ensures.renders n finished)

pub returns-in_err-state-clause-plain : goal.returns-in_err-state-clause-plain
returns-in_err-state-clause-plain g c = λ live plain.
    let self = c.args.self.now in
    let brought = brought_of (user_answers g.E.Callable.Callable.answer g.E.Method.UnknownMethod.answer g.E.Formatter.Formatter.answer g.E.Join.PathJoin.answer) self.environment.now in
    plain_gives brought self.environment.now.registry c.args.ids.now (compiled_in self.compiled) (text_kept (source_of self)) c.args.context output_of _ (c.plain_renders.ensures plain)
    (returns-in_err-state-clause-text g c live)

pub returns-clause-text : goal.returns-clause-text
returns-clause-text g c = λ live n finished.
    let self = c.args.self.now in
    let brought = brought_of (user_answers g.E.Callable.Callable.answer g.E.Method.UnknownMethod.answer g.E.Formatter.Formatter.answer g.E.Join.PathJoin.answer) self.environment.now in
    let captured : Captured _ _ _ _ _ _ = record { output = c.run.new.sink; state = c.in_ok-state.state } in
    call_gives _ captured output_of brought self.environment.now.registry _ c.args.ids.now _ (compiled_in self.compiled) c.args.context _ _ _
    c.in_ok-id.ensures.given c.get.ensures c.new-output.ensures.bytes c.in_ok-state.ensures.renders n finished

pub returns-clause-remains : goal.returns-clause-remains
returns-clause-remains g c =
    let self = c.args.self.now in
    let brought = brought_of (user_answers g.E.Callable.Callable.answer g.E.Method.UnknownMethod.answer g.E.Formatter.Formatter.answer g.E.Join.PathJoin.answer) self.environment.now in
    let fuel = self.environment.now.registry.fuel in
    called (λ (r : Run World). fuel_left_in c.in_ok-state.state ≡ leaves fuel r) brought self.environment.now.registry _ c.args.ids.now _ (compiled_in self.compiled)
    c.args.context c.in_ok-id.ensures.given c.get.ensures c.in_ok-state.ensures.remains

pub returns-clause-world : goal.returns-clause-world
returns-clause-world g c =
    let self = c.args.self.now in
    let brought = brought_of (user_answers g.E.Callable.Callable.answer g.E.Method.UnknownMethod.answer g.E.Formatter.Formatter.answer g.E.Join.PathJoin.answer) self.environment.now in
    let fuel = self.environment.now.registry.fuel in
    called (λ (r : Run World). world_in c.in_ok-state.state ≡ (under fuel r).after) brought self.environment.now.registry _ c.args.ids.now _ (compiled_in self.compiled)
    c.args.context c.in_ok-id.ensures.given c.get.ensures c.in_ok-state.ensures.world

pub returns-clause-plain : goal.returns-clause-plain
returns-clause-plain g c = λ live plain.
    let self = c.args.self.now in
    let brought = brought_of (user_answers g.E.Callable.Callable.answer g.E.Method.UnknownMethod.answer g.E.Formatter.Formatter.answer g.E.Join.PathJoin.answer) self.environment.now in
    let captured : Captured _ _ _ _ _ _ = record { output = c.run.new.sink; state = c.in_ok-state.state } in
    plain_gives brought self.environment.now.registry c.args.ids.now (compiled_in self.compiled) (text_kept (source_of self)) c.args.context output_of (Ok captured) (c.plain_renders.ensures plain)
    (returns-clause-text g c live)

-- every render ends
pub returns-in_err-id-clause-finished : goal.returns-in_err-id-clause-finished
returns-in_err-id-clause-finished g c = c.every_render_ends.ensures c.args.ids.now c.args.context

pub returns-in_err-state-clause-finished : goal.returns-in_err-state-clause-finished
returns-in_err-state-clause-finished g c = c.every_render_ends.ensures c.args.ids.now c.args.context

pub returns-clause-finished : goal.returns-clause-finished
returns-clause-finished g c = c.every_render_ends.ensures c.args.ids.now c.args.context
