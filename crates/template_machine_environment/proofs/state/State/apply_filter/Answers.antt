-- the machine has the state's name, and what its environment was given and keeps to
use Rattle.std.proofs.Common.{◌∙◌, Ok, Err, refl}
use Rattle.template_machine_calls.specs.Hosted.{around_under}
use Rattle.template_machine_meaning.specs.Calls.{call_plan}
use Rattle.template_machine_meaning.specs.Functions.{filter_named, invokes}
use Rattle.template_machine_meaning.proofs.RunsKept.{world_stays}
use Rattle.template_compiler_process.specs.Process.{value}
use Rattle.template_values_model.specs.Val.{Val}
use Rattle.template_machine_environment.specs.Extras.{user_answers}
use Rattle.template_machine_environment.specs.Reading.{callables_of}
use Rattle.template_machine_environment.specs.States.{around_in, fuel_left_in}
use Rattle.template_machine_calls.proofs.Temps.{temps_keep}
use Rattle.template_machine_environment.proofs.Told.{around_there, failed_frames, failed_keeps, failed_left, failed_rest, failing_in, failing_left, failing_told, frames_behind, keeps_behind, mark_back, mark_put_back, meant, on_err, planned_there, reached_there, remains_there, rest_from, stopped_in, stopped_remains, stopped_told, temps_frames, temps_put_back, told_there, want_left, want_told, want_world, world_there}
use Rattle.template_machine_environment.proofs.state.State.apply_filter.Goals as goal

-- no memory for the mark
pub returns-in_err-mark-clause-told : goal.returns-in_err-mark-clause-told
returns-in_err-mark-clause-told g c = λ n finished. want_told _ _ _ _ _ c.in_err-mark.ensures.refused c.from_residual.ensures.1

pub returns-in_err-mark-clause-remains : goal.returns-in_err-mark-clause-remains
returns-in_err-mark-clause-remains g c = λ n finished.
    let self = c.args.self.now in
    let says = (user_answers g.E.Callable.Callable.answer g.E.Method.UnknownMethod.answer g.E.Formatter.Formatter.answer g.E.Join.PathJoin.answer) in
    let rules = c.rules-rules.ensures in
    let same = around_there says self c.rules-rules.result (rules.name ∙ c.own_name.ensures) rules.limit rules.undefined in
    let a = around_under c.rules-rules.result (callables_of says self.environment.now) (around_in says self) in
    let called = invokes (filter_named c.args.name.now) c.args.args.now in
    want_left (fuel_left_in self) (fuel_left_in self) (meant says self (call_plan (around_in says self) self.machine called) n) _ _ c.in_err-mark.ensures.refused c.from_residual.ensures.1

pub returns-in_err-mark-clause-world : goal.returns-in_err-mark-clause-world
returns-in_err-mark-clause-world g c = λ n finished.
    let self = c.args.self.now in
    let says = (user_answers g.E.Callable.Callable.answer g.E.Method.UnknownMethod.answer g.E.Formatter.Formatter.answer g.E.Join.PathJoin.answer) in
    let rules = c.rules-rules.ensures in
    let same = around_there says self c.rules-rules.result (rules.name ∙ c.own_name.ensures) rules.limit rules.undefined in
    let a = around_under c.rules-rules.result (callables_of says self.environment.now) (around_in says self) in
    let called = invokes (filter_named c.args.name.now) c.args.args.now in
    want_world (fuel_left_in self) self.machine self.machine (meant says self (call_plan (around_in says self) self.machine called) n) _ _ c.in_err-mark.ensures.refused c.from_residual.ensures.1

pub returns-in_err-mark-clause-put_back : goal.returns-in_err-mark-clause-put_back
returns-in_err-mark-clause-put_back g c = on_err _ _ (temps_put_back c.args.self.now.machine c.args.self.now.machine refl)

pub returns-in_err-mark-clause-keeps : goal.returns-in_err-mark-clause-keeps
returns-in_err-mark-clause-keeps g c = world_stays _

-- a call that is refused
pub returns-in-Err-clause-told : goal.returns-in-Err-clause-told
returns-in-Err-clause-told g c = λ n finished.
    let self = c.args.self.now in
    let says = (user_answers g.E.Callable.Callable.answer g.E.Method.UnknownMethod.answer g.E.Formatter.Formatter.answer g.E.Join.PathJoin.answer) in
    let rules = c.rules-rules.ensures in
    let same = around_there says self c.rules-rules.result (rules.name ∙ c.own_name.ensures) rules.limit rules.undefined in
    let a = around_under c.rules-rules.result (callables_of says self.environment.now) (around_in says self) in
    let called = invokes (filter_named c.args.name.now) c.args.args.now in
    let failed = planned_there says self a called (Err c.in-Err.stop) c.call_filter.new.state same (c.in-Err.ensures.told (around_in says self)) in
    failing_told says self (call_plan (around_in says self) self.machine called) c.call_filter.new.state c.in-Err.stop failed {X = Val} value (Err c.into_error.result) c.into_error.ensures n finished

pub returns-in-Err-clause-remains : goal.returns-in-Err-clause-remains
returns-in-Err-clause-remains g c = λ n finished.
    let self = c.args.self.now in
    let says = (user_answers g.E.Callable.Callable.answer g.E.Method.UnknownMethod.answer g.E.Formatter.Formatter.answer g.E.Join.PathJoin.answer) in
    let rules = c.rules-rules.ensures in
    let same = around_there says self c.rules-rules.result (rules.name ∙ c.own_name.ensures) rules.limit rules.undefined in
    let a = around_under c.rules-rules.result (callables_of says self.environment.now) (around_in says self) in
    let called = invokes (filter_named c.args.name.now) c.args.args.now in
    let failed = planned_there says self a called (Err c.in-Err.stop) c.call_filter.new.state same (c.in-Err.ensures.told (around_in says self)) in
    failing_left says self (call_plan (around_in says self) self.machine called) c.call_filter.new.state c.in-Err.stop failed {X = Val} (Err c.into_error.result) c.into_error.ensures n finished

pub returns-in-Err-clause-world : goal.returns-in-Err-clause-world
returns-in-Err-clause-world g c = λ n finished.
    let self = c.args.self.now in
    let says = (user_answers g.E.Callable.Callable.answer g.E.Method.UnknownMethod.answer g.E.Formatter.Formatter.answer g.E.Join.PathJoin.answer) in
    let rules = c.rules-rules.ensures in
    let same = around_there says self c.rules-rules.result (rules.name ∙ c.own_name.ensures) rules.limit rules.undefined in
    let a = around_under c.rules-rules.result (callables_of says self.environment.now) (around_in says self) in
    let called = invokes (filter_named c.args.name.now) c.args.args.now in
    let failed = planned_there says self a called (Err c.in-Err.stop) c.call_filter.new.state same (c.in-Err.ensures.told (around_in says self)) in
    failing_in says self (call_plan (around_in says self) self.machine called) c.call_filter.new.state c.in-Err.stop failed {X = Val} (Err c.into_error.result) c.into_error.ensures c.in-Err.ensures.kept n finished

pub returns-in-Err-clause-put_back : goal.returns-in-Err-clause-put_back
returns-in-Err-clause-put_back g c = temps_put_back c.args.self.now.machine c.call_filter.new.state c.in-Err.ensures.kept

pub returns-in-Err-clause-frames : goal.returns-in-Err-clause-frames
returns-in-Err-clause-frames g c = temps_frames c.args.self.now.machine c.call_filter.new.state c.in-Err.ensures.kept

pub returns-in-Err-clause-keeps : goal.returns-in-Err-clause-keeps
returns-in-Err-clause-keeps g c = temps_keep c.args.self.now.machine c.call_filter.new.state c.in-Err.ensures.kept

-- one that fails
pub returns-in-Err-come_to-clause-told : goal.returns-in-Err-come_to-clause-told
returns-in-Err-come_to-clause-told g c = λ n finished.
    let self = c.args.self.now in
    let says = (user_answers g.E.Callable.Callable.answer g.E.Method.UnknownMethod.answer g.E.Formatter.Formatter.answer g.E.Join.PathJoin.answer) in
    let rules = c.rules-rules.ensures in
    let same = around_there says self c.rules-rules.result (rules.name ∙ c.own_name.ensures) rules.limit rules.undefined in
    let a = around_under c.rules-rules.result (callables_of says self.environment.now) (around_in says self) in
    let called = invokes (filter_named c.args.name.now) c.args.args.now in
    let planned = planned_there says self a called (Ok c.in-Ok.reached) c.call_filter.new.state same (c.in-Ok.ensures.told (around_in says self)) in
    let there = reached_there says self c.in-Ok.reached c.call_filter.new.state (call_plan (around_in says self) self.machine called) c.come_to.new.self (Err c.in-Err-come_to.stop)
    c.in-Ok.ensures.kept planned c.in-Err-come_to.ensures.does in
    stopped_told says self (call_plan (around_in says self) self.machine called) c.come_to.new.self c.in-Err-come_to.stop there c.in-Err-come_to.ensures.spares n finished
    {X = Val} value (Err c.failed.result) (c.failed.ensures.same ∙ c.into_error-in-Err-come_to.ensures)

pub returns-in-Err-come_to-clause-remains : goal.returns-in-Err-come_to-clause-remains
returns-in-Err-come_to-clause-remains g c = λ n finished.
    let self = c.args.self.now in
    let says = (user_answers g.E.Callable.Callable.answer g.E.Method.UnknownMethod.answer g.E.Formatter.Formatter.answer g.E.Join.PathJoin.answer) in
    let rules = c.rules-rules.ensures in
    let same = around_there says self c.rules-rules.result (rules.name ∙ c.own_name.ensures) rules.limit rules.undefined in
    let a = around_under c.rules-rules.result (callables_of says self.environment.now) (around_in says self) in
    let called = invokes (filter_named c.args.name.now) c.args.args.now in
    let planned = planned_there says self a called (Ok c.in-Ok.reached) c.call_filter.new.state same (c.in-Ok.ensures.told (around_in says self)) in
    let there = reached_there says self c.in-Ok.reached c.call_filter.new.state (call_plan (around_in says self) self.machine called) c.come_to.new.self (Err c.in-Err-come_to.stop)
    c.in-Ok.ensures.kept planned c.in-Err-come_to.ensures.does in
    failed_left self c.come_to.new.self c.failed.new.self c.failed.ensures.rest {X = Val} (fuel_left_in self) (meant says self (call_plan (around_in says self) self.machine called) n) (Err c.failed.result)
    (stopped_remains says self (call_plan (around_in says self) self.machine called) c.come_to.new.self c.in-Err-come_to.stop there c.in-Err-come_to.ensures.spares n finished {X = Val} (Err c.failed.result) (c.failed.ensures.same ∙ c.into_error-in-Err-come_to.ensures))

pub returns-in-Err-come_to-clause-world : goal.returns-in-Err-come_to-clause-world
returns-in-Err-come_to-clause-world g c = λ n finished.
    let self = c.args.self.now in
    let says = (user_answers g.E.Callable.Callable.answer g.E.Method.UnknownMethod.answer g.E.Formatter.Formatter.answer g.E.Join.PathJoin.answer) in
    let rules = c.rules-rules.ensures in
    let same = around_there says self c.rules-rules.result (rules.name ∙ c.own_name.ensures) rules.limit rules.undefined in
    let a = around_under c.rules-rules.result (callables_of says self.environment.now) (around_in says self) in
    let called = invokes (filter_named c.args.name.now) c.args.args.now in
    let planned = planned_there says self a called (Ok c.in-Ok.reached) c.call_filter.new.state same (c.in-Ok.ensures.told (around_in says self)) in
    let there = reached_there says self c.in-Ok.reached c.call_filter.new.state (call_plan (around_in says self) self.machine called) c.come_to.new.self (Err c.in-Err-come_to.stop)
    c.in-Ok.ensures.kept planned c.in-Err-come_to.ensures.does in
    stopped_in says self (call_plan (around_in says self) self.machine called) c.come_to.new.self c.in-Err-come_to.stop there c.in-Err-come_to.ensures.spares n finished {X = Val} (Err c.failed.result) (c.failed.ensures.same ∙ c.into_error-in-Err-come_to.ensures) c.failed.new.self.machine
    (mark_back self.machine c.come_to.new.self.machine c.failed.new.self.machine c.in_ok-mark.mark c.in_ok-mark.ensures.marked c.failed.ensures.put_back)

pub returns-in-Err-come_to-clause-put_back : goal.returns-in-Err-come_to-clause-put_back
returns-in-Err-come_to-clause-put_back g c = mark_put_back c.args.self.now.machine c.come_to.new.self.machine c.failed.new.self.machine c.in_ok-mark.mark c.in_ok-mark.ensures.marked c.failed.ensures.put_back

pub returns-in-Err-come_to-clause-rest : goal.returns-in-Err-come_to-clause-rest
returns-in-Err-come_to-clause-rest g c = failed_rest c.args.self.now c.come_to.new.self c.failed.new.self c.failed.ensures.rest (rest_from c.args.self.now c.come_to.new.self c.call_filter.new.state c.in-Err-come_to.ensures.rest)

pub returns-in-Err-come_to-clause-frames : goal.returns-in-Err-come_to-clause-frames
returns-in-Err-come_to-clause-frames g c =
    failed_frames c.args.self.now.machine c.come_to.new.self.machine c.failed.new.self.machine c.in_ok-mark.mark c.in_ok-mark.ensures.marked c.failed.ensures.put_back
    (frames_behind c.in-Ok.reached c.args.self.now.machine c.call_filter.new.state c.come_to.new.self.machine c.in-Ok.ensures.kept c.in-Err-come_to.ensures.frames)

pub returns-in-Err-come_to-clause-keeps : goal.returns-in-Err-come_to-clause-keeps
returns-in-Err-come_to-clause-keeps g c =
    failed_keeps c.args.self.now.machine c.come_to.new.self.machine c.failed.new.self.machine c.in_ok-mark.mark c.in_ok-mark.ensures.marked c.failed.ensures.put_back
    (frames_behind c.in-Ok.reached c.args.self.now.machine c.call_filter.new.state c.come_to.new.self.machine c.in-Ok.ensures.kept c.in-Err-come_to.ensures.frames)
    (keeps_behind c.in-Ok.reached c.args.self.now.machine c.call_filter.new.state c.come_to.new.self.machine c.in-Ok.ensures.kept c.in-Err-come_to.ensures.keeps)

-- its value
pub returns-in-Ok-come_to-clause-told : goal.returns-in-Ok-come_to-clause-told
returns-in-Ok-come_to-clause-told g c = λ n finished.
    let self = c.args.self.now in
    let says = (user_answers g.E.Callable.Callable.answer g.E.Method.UnknownMethod.answer g.E.Formatter.Formatter.answer g.E.Join.PathJoin.answer) in
    let rules = c.rules-rules.ensures in
    let same = around_there says self c.rules-rules.result (rules.name ∙ c.own_name.ensures) rules.limit rules.undefined in
    let a = around_under c.rules-rules.result (callables_of says self.environment.now) (around_in says self) in
    let called = invokes (filter_named c.args.name.now) c.args.args.now in
    let planned = planned_there says self a called (Ok c.in-Ok.reached) c.call_filter.new.state same (c.in-Ok.ensures.told (around_in says self)) in
    let there = reached_there says self c.in-Ok.reached c.call_filter.new.state (call_plan (around_in says self) self.machine called) c.come_to.new.self (Ok c.in-Ok-come_to.value)
    c.in-Ok.ensures.kept planned c.in-Ok-come_to.ensures.does in
    told_there says self (call_plan (around_in says self) self.machine called) c.come_to.new.self c.in-Ok-come_to.value there n finished

pub returns-in-Ok-come_to-clause-remains : goal.returns-in-Ok-come_to-clause-remains
returns-in-Ok-come_to-clause-remains g c = λ n finished.
    let self = c.args.self.now in
    let says = (user_answers g.E.Callable.Callable.answer g.E.Method.UnknownMethod.answer g.E.Formatter.Formatter.answer g.E.Join.PathJoin.answer) in
    let rules = c.rules-rules.ensures in
    let same = around_there says self c.rules-rules.result (rules.name ∙ c.own_name.ensures) rules.limit rules.undefined in
    let a = around_under c.rules-rules.result (callables_of says self.environment.now) (around_in says self) in
    let called = invokes (filter_named c.args.name.now) c.args.args.now in
    let planned = planned_there says self a called (Ok c.in-Ok.reached) c.call_filter.new.state same (c.in-Ok.ensures.told (around_in says self)) in
    let there = reached_there says self c.in-Ok.reached c.call_filter.new.state (call_plan (around_in says self) self.machine called) c.come_to.new.self (Ok c.in-Ok-come_to.value)
    c.in-Ok.ensures.kept planned c.in-Ok-come_to.ensures.does in
    remains_there says self (call_plan (around_in says self) self.machine called) c.come_to.new.self c.in-Ok-come_to.value there n finished

pub returns-in-Ok-come_to-clause-world : goal.returns-in-Ok-come_to-clause-world
returns-in-Ok-come_to-clause-world g c = λ n finished.
    let self = c.args.self.now in
    let says = (user_answers g.E.Callable.Callable.answer g.E.Method.UnknownMethod.answer g.E.Formatter.Formatter.answer g.E.Join.PathJoin.answer) in
    let rules = c.rules-rules.ensures in
    let same = around_there says self c.rules-rules.result (rules.name ∙ c.own_name.ensures) rules.limit rules.undefined in
    let a = around_under c.rules-rules.result (callables_of says self.environment.now) (around_in says self) in
    let called = invokes (filter_named c.args.name.now) c.args.args.now in
    let planned = planned_there says self a called (Ok c.in-Ok.reached) c.call_filter.new.state same (c.in-Ok.ensures.told (around_in says self)) in
    let there = reached_there says self c.in-Ok.reached c.call_filter.new.state (call_plan (around_in says self) self.machine called) c.come_to.new.self (Ok c.in-Ok-come_to.value)
    c.in-Ok.ensures.kept planned c.in-Ok-come_to.ensures.does in
    world_there says self (call_plan (around_in says self) self.machine called) c.come_to.new.self c.in-Ok-come_to.value there n finished

pub returns-in-Ok-come_to-clause-frames : goal.returns-in-Ok-come_to-clause-frames
returns-in-Ok-come_to-clause-frames g c = frames_behind c.in-Ok.reached c.args.self.now.machine c.call_filter.new.state c.come_to.new.self.machine c.in-Ok.ensures.kept c.in-Ok-come_to.ensures.frames

pub returns-in-Ok-come_to-clause-keeps : goal.returns-in-Ok-come_to-clause-keeps
returns-in-Ok-come_to-clause-keeps g c = keeps_behind c.in-Ok.reached c.args.self.now.machine c.call_filter.new.state c.come_to.new.self.machine c.in-Ok.ensures.kept c.in-Ok-come_to.ensures.keeps

-- every call ends
pub returns-in_err-mark-clause-finished : goal.returns-in_err-mark-clause-finished
returns-in_err-mark-clause-finished g c = c.every_call_ends.ensures.calls (filter_named c.args.name.now) c.args.args.now

pub returns-in-Err-clause-finished : goal.returns-in-Err-clause-finished
returns-in-Err-clause-finished g c = c.every_call_ends.ensures.calls (filter_named c.args.name.now) c.args.args.now

pub returns-in-Err-come_to-clause-finished : goal.returns-in-Err-come_to-clause-finished
returns-in-Err-come_to-clause-finished g c = c.every_call_ends.ensures.calls (filter_named c.args.name.now) c.args.args.now

pub returns-in-Ok-come_to-clause-finished : goal.returns-in-Ok-come_to-clause-finished
returns-in-Ok-come_to-clause-finished g c = c.every_call_ends.ensures.calls (filter_named c.args.name.now) c.args.args.now
