use Rattle.std.proofs.Common.{◌≡◌, ◌∙◌, [], ◌∷◌, Ok, Err, refl, sym, String, string_bytes}
use Rattle.std.specs.declared.alloc.Global.{Global}
use Rattle.template_machine_going.specs.Told.{stop_of}
use Rattle.template_machine_going.proofs.Telling.{told_so}
use Rattle.template_machine_calls.specs.Hosted.{around_under}
use Rattle.template_machine_calls.specs.Left.{value_left}
use Rattle.template_machine_calls.proofs.Turned.{text_refused, text_turned}
use Rattle.template_machine_meaning.specs.Captures.{captured}
use Rattle.template_machine_meaning.specs.Plans.{replies, with_turning}
use Rattle.template_machine_meaning.specs.Replies.{told}
use Rattle.template_machine_meaning.specs.Turnings.{to_text}
use Rattle.template_machine_meaning.specs.World.{keeps}
use Rattle.template_machine_meaning.proofs.RunsKept.{world_stays}
use Rattle.template_compiler_process.specs.Process.{fails}
use Rattle.template_machine_environment.specs.Extras.{user_answers}
use Rattle.template_machine_environment.specs.Reading.{callables_of}
use Rattle.template_machine_environment.specs.States.{around_in, found_in, fuel_left_in, worded_in}
use Rattle.template_machine_calls.proofs.Temps.{temps_keep}
use Rattle.template_machine_environment.proofs.Told.{around_there, failed_frames, failed_keeps, failed_left, failed_rest, failing_in, failing_left, failing_told, found_there, frames_behind, keeps_behind, mark_back, mark_put_back, meant, on_err, printed_there, reached_there, remains_there, rest_from, same_kinds, stopped_in, stopped_remains, stopped_told, temps_frames, temps_put_back, text_failed, told_there, turned_spares, unprinted_there, want_left, want_told, want_world, worded_told, world_there}
use Rattle.template_machine_environment.proofs.state.State.call_macro.Goals as goal

-- no memory for the arguments
pub returns-in_err-given-clause-told : goal.returns-in_err-given-clause-told
returns-in_err-given-clause-told g c = λ n finished. want_told _ _ _ _ _ c.in_err-given.ensures.refused c.from_residual.ensures.1

pub returns-in_err-given-clause-remains : goal.returns-in_err-given-clause-remains
returns-in_err-given-clause-remains g c = λ n finished.
    let self = c.args.self.now in
    let says = (user_answers g.E.Callable.Callable.answer g.E.Method.UnknownMethod.answer g.E.Formatter.Formatter.answer g.E.Join.PathJoin.answer) in
    let rules = c.rules-rules.ensures in
    let same = around_there says self c.rules-rules.result (rules.name ∙ c.own_name.ensures) rules.limit rules.undefined in
    let a = around_under c.rules-rules.result (callables_of says self.environment.now) (around_in says self) in
    let name = c.args.name.now in
    let p = found_in says self name c.args.args.now in
    want_left (fuel_left_in self) (fuel_left_in self) (meant says self (with_turning to_text p) n) _ _ c.in_err-given.ensures.refused c.from_residual.ensures.1

pub returns-in_err-given-clause-world : goal.returns-in_err-given-clause-world
returns-in_err-given-clause-world g c = λ n finished.
    let self = c.args.self.now in
    let says = (user_answers g.E.Callable.Callable.answer g.E.Method.UnknownMethod.answer g.E.Formatter.Formatter.answer g.E.Join.PathJoin.answer) in
    let rules = c.rules-rules.ensures in
    let same = around_there says self c.rules-rules.result (rules.name ∙ c.own_name.ensures) rules.limit rules.undefined in
    let a = around_under c.rules-rules.result (callables_of says self.environment.now) (around_in says self) in
    let name = c.args.name.now in
    let p = found_in says self name c.args.args.now in
    want_world (fuel_left_in self) self.machine self.machine (meant says self (with_turning to_text p) n) _ _ c.in_err-given.ensures.refused c.from_residual.ensures.1

pub returns-in_err-given-clause-put_back : goal.returns-in_err-given-clause-put_back
returns-in_err-given-clause-put_back g c = on_err _ _ (temps_put_back c.args.self.now.machine c.args.self.now.machine refl)

pub returns-in_err-given-clause-keeps : goal.returns-in_err-given-clause-keeps
returns-in_err-given-clause-keeps g c = world_stays _

-- no memory for the mark
pub returns-in_err-mark-clause-told : goal.returns-in_err-mark-clause-told
returns-in_err-mark-clause-told g c = λ n finished. want_told _ _ _ _ _ c.in_err-mark.ensures.refused c.from_residual-in_err-mark.ensures.1

pub returns-in_err-mark-clause-remains : goal.returns-in_err-mark-clause-remains
returns-in_err-mark-clause-remains g c = λ n finished.
    let self = c.args.self.now in
    let says = (user_answers g.E.Callable.Callable.answer g.E.Method.UnknownMethod.answer g.E.Formatter.Formatter.answer g.E.Join.PathJoin.answer) in
    let rules = c.rules-rules.ensures in
    let same = around_there says self c.rules-rules.result (rules.name ∙ c.own_name.ensures) rules.limit rules.undefined in
    let a = around_under c.rules-rules.result (callables_of says self.environment.now) (around_in says self) in
    let name = c.args.name.now in
    let p = found_in says self name c.args.args.now in
    want_left (fuel_left_in self) (fuel_left_in self) (meant says self (with_turning to_text p) n) _ _ c.in_err-mark.ensures.refused c.from_residual-in_err-mark.ensures.1

pub returns-in_err-mark-clause-world : goal.returns-in_err-mark-clause-world
returns-in_err-mark-clause-world g c = λ n finished.
    let self = c.args.self.now in
    let says = (user_answers g.E.Callable.Callable.answer g.E.Method.UnknownMethod.answer g.E.Formatter.Formatter.answer g.E.Join.PathJoin.answer) in
    let rules = c.rules-rules.ensures in
    let same = around_there says self c.rules-rules.result (rules.name ∙ c.own_name.ensures) rules.limit rules.undefined in
    let a = around_under c.rules-rules.result (callables_of says self.environment.now) (around_in says self) in
    let name = c.args.name.now in
    let p = found_in says self name c.args.args.now in
    want_world (fuel_left_in self) self.machine self.machine (meant says self (with_turning to_text p) n) _ _ c.in_err-mark.ensures.refused c.from_residual-in_err-mark.ensures.1

pub returns-in_err-mark-clause-put_back : goal.returns-in_err-mark-clause-put_back
returns-in_err-mark-clause-put_back g c = on_err _ _ (temps_put_back c.args.self.now.machine c.args.self.now.machine refl)

pub returns-in_err-mark-clause-keeps : goal.returns-in_err-mark-clause-keeps
returns-in_err-mark-clause-keeps g c = world_stays _

-- a call that is refused
pub returns-in-Err-clause-told : goal.returns-in-Err-clause-told
returns-in-Err-clause-told g c = λ n finished.
    let self = c.args.self.now in
    let says = (user_answers g.E.Callable.Callable.answer g.E.Method.UnknownMethod.answer g.E.Formatter.Formatter.answer g.E.Join.PathJoin.answer) in
    let rules = c.rules-rules.ensures in
    let same = around_there says self c.rules-rules.result (rules.name ∙ c.own_name.ensures) rules.limit rules.undefined in
    let a = around_under c.rules-rules.result (callables_of says self.environment.now) (around_in says self) in
    let name = c.args.name.now in
    let p = found_in says self name c.args.args.now in
    let failed = text_failed c.call_found.new.state p c.in-Err.stop
    (found_there says self a name c.in_ok-given.given.items c.args.args.now (Err c.in-Err.stop) c.call_found.new.state same c.in_ok-given.ensures.ok (c.in-Err.ensures.told (around_in says self))) in
    failing_told says self (with_turning to_text p) c.call_found.new.state c.in-Err.stop failed {X = String Global} (worded_in self) (Err c.into_error.result) c.into_error.ensures n finished

pub returns-in-Err-clause-remains : goal.returns-in-Err-clause-remains
returns-in-Err-clause-remains g c = λ n finished.
    let self = c.args.self.now in
    let says = (user_answers g.E.Callable.Callable.answer g.E.Method.UnknownMethod.answer g.E.Formatter.Formatter.answer g.E.Join.PathJoin.answer) in
    let rules = c.rules-rules.ensures in
    let same = around_there says self c.rules-rules.result (rules.name ∙ c.own_name.ensures) rules.limit rules.undefined in
    let a = around_under c.rules-rules.result (callables_of says self.environment.now) (around_in says self) in
    let name = c.args.name.now in
    let p = found_in says self name c.args.args.now in
    let failed = text_failed c.call_found.new.state p c.in-Err.stop
    (found_there says self a name c.in_ok-given.given.items c.args.args.now (Err c.in-Err.stop) c.call_found.new.state same c.in_ok-given.ensures.ok (c.in-Err.ensures.told (around_in says self))) in
    failing_left says self (with_turning to_text p) c.call_found.new.state c.in-Err.stop failed {X = String Global} (Err c.into_error.result) c.into_error.ensures n finished

pub returns-in-Err-clause-world : goal.returns-in-Err-clause-world
returns-in-Err-clause-world g c = λ n finished.
    let self = c.args.self.now in
    let says = (user_answers g.E.Callable.Callable.answer g.E.Method.UnknownMethod.answer g.E.Formatter.Formatter.answer g.E.Join.PathJoin.answer) in
    let rules = c.rules-rules.ensures in
    let same = around_there says self c.rules-rules.result (rules.name ∙ c.own_name.ensures) rules.limit rules.undefined in
    let a = around_under c.rules-rules.result (callables_of says self.environment.now) (around_in says self) in
    let name = c.args.name.now in
    let p = found_in says self name c.args.args.now in
    let failed = text_failed c.call_found.new.state p c.in-Err.stop
    (found_there says self a name c.in_ok-given.given.items c.args.args.now (Err c.in-Err.stop) c.call_found.new.state same c.in_ok-given.ensures.ok (c.in-Err.ensures.told (around_in says self))) in
    failing_in says self (with_turning to_text p) c.call_found.new.state c.in-Err.stop failed {X = String Global} (Err c.into_error.result) c.into_error.ensures c.in-Err.ensures.kept n finished

pub returns-in-Err-clause-put_back : goal.returns-in-Err-clause-put_back
returns-in-Err-clause-put_back g c = temps_put_back c.args.self.now.machine c.call_found.new.state c.in-Err.ensures.kept

pub returns-in-Err-clause-frames : goal.returns-in-Err-clause-frames
returns-in-Err-clause-frames g c = temps_frames c.args.self.now.machine c.call_found.new.state c.in-Err.ensures.kept

pub returns-in-Err-clause-keeps : goal.returns-in-Err-clause-keeps
returns-in-Err-clause-keeps g c = temps_keep c.args.self.now.machine c.call_found.new.state c.in-Err.ensures.kept

-- one that fails
pub returns-in-Err-come_to-clause-told : goal.returns-in-Err-come_to-clause-told
returns-in-Err-come_to-clause-told g c = λ n finished.
    let self = c.args.self.now in
    let says = (user_answers g.E.Callable.Callable.answer g.E.Method.UnknownMethod.answer g.E.Formatter.Formatter.answer g.E.Join.PathJoin.answer) in
    let rules = c.rules-rules.ensures in
    let same = around_there says self c.rules-rules.result (rules.name ∙ c.own_name.ensures) rules.limit rules.undefined in
    let a = around_under c.rules-rules.result (callables_of says self.environment.now) (around_in says self) in
    let name = c.args.name.now in
    let p = found_in says self name c.args.args.now in
    let planned = found_there says self a name c.in_ok-given.given.items c.args.args.now (Ok c.in-Ok.reached) c.call_found.new.state same c.in_ok-given.ensures.ok
    (c.in-Ok.ensures.told (around_in says self)) in
    let there = reached_there says self c.in-Ok.reached c.call_found.new.state p c.come_to.new.self (Err c.in-Err-come_to.stop) c.in-Ok.ensures.kept planned c.in-Err-come_to.ensures.does in
    let whole = unprinted_there says self p c.come_to.new.self c.in-Err-come_to.stop there in
    stopped_told says self (with_turning to_text p) c.come_to.new.self c.in-Err-come_to.stop whole c.in-Err-come_to.ensures.spares n finished
    {X = String Global} (worded_in c.failed.new.self) (Err c.failed.result) (c.failed.ensures.same ∙ c.into_error-in-Err-come_to.ensures)

pub returns-in-Err-come_to-clause-remains : goal.returns-in-Err-come_to-clause-remains
returns-in-Err-come_to-clause-remains g c = λ n finished.
    let self = c.args.self.now in
    let says = (user_answers g.E.Callable.Callable.answer g.E.Method.UnknownMethod.answer g.E.Formatter.Formatter.answer g.E.Join.PathJoin.answer) in
    let rules = c.rules-rules.ensures in
    let same = around_there says self c.rules-rules.result (rules.name ∙ c.own_name.ensures) rules.limit rules.undefined in
    let a = around_under c.rules-rules.result (callables_of says self.environment.now) (around_in says self) in
    let name = c.args.name.now in
    let p = found_in says self name c.args.args.now in
    let planned = found_there says self a name c.in_ok-given.given.items c.args.args.now (Ok c.in-Ok.reached) c.call_found.new.state same c.in_ok-given.ensures.ok
    (c.in-Ok.ensures.told (around_in says self)) in
    let there = reached_there says self c.in-Ok.reached c.call_found.new.state p c.come_to.new.self (Err c.in-Err-come_to.stop) c.in-Ok.ensures.kept planned c.in-Err-come_to.ensures.does in
    let whole = unprinted_there says self p c.come_to.new.self c.in-Err-come_to.stop there in
    failed_left self c.come_to.new.self c.failed.new.self c.failed.ensures.rest {X = String Global} (fuel_left_in self) (meant says self (with_turning to_text p) n) (Err c.failed.result)
    (stopped_remains says self (with_turning to_text p) c.come_to.new.self c.in-Err-come_to.stop whole c.in-Err-come_to.ensures.spares n finished {X = String Global} (Err c.failed.result) (c.failed.ensures.same ∙ c.into_error-in-Err-come_to.ensures))

pub returns-in-Err-come_to-clause-world : goal.returns-in-Err-come_to-clause-world
returns-in-Err-come_to-clause-world g c = λ n finished.
    let self = c.args.self.now in
    let says = (user_answers g.E.Callable.Callable.answer g.E.Method.UnknownMethod.answer g.E.Formatter.Formatter.answer g.E.Join.PathJoin.answer) in
    let rules = c.rules-rules.ensures in
    let same = around_there says self c.rules-rules.result (rules.name ∙ c.own_name.ensures) rules.limit rules.undefined in
    let a = around_under c.rules-rules.result (callables_of says self.environment.now) (around_in says self) in
    let name = c.args.name.now in
    let p = found_in says self name c.args.args.now in
    let planned = found_there says self a name c.in_ok-given.given.items c.args.args.now (Ok c.in-Ok.reached) c.call_found.new.state same c.in_ok-given.ensures.ok
    (c.in-Ok.ensures.told (around_in says self)) in
    let there = reached_there says self c.in-Ok.reached c.call_found.new.state p c.come_to.new.self (Err c.in-Err-come_to.stop) c.in-Ok.ensures.kept planned c.in-Err-come_to.ensures.does in
    let whole = unprinted_there says self p c.come_to.new.self c.in-Err-come_to.stop there in
    stopped_in says self (with_turning to_text p) c.come_to.new.self c.in-Err-come_to.stop whole c.in-Err-come_to.ensures.spares n finished {X = String Global} (Err c.failed.result) (c.failed.ensures.same ∙ c.into_error-in-Err-come_to.ensures) c.failed.new.self.machine
    (mark_back self.machine c.come_to.new.self.machine c.failed.new.self.machine c.in_ok-mark.mark c.in_ok-mark.ensures.marked c.failed.ensures.put_back)

pub returns-in-Err-come_to-clause-put_back : goal.returns-in-Err-come_to-clause-put_back
returns-in-Err-come_to-clause-put_back g c = mark_put_back c.args.self.now.machine c.come_to.new.self.machine c.failed.new.self.machine c.in_ok-mark.mark c.in_ok-mark.ensures.marked c.failed.ensures.put_back

pub returns-in-Err-come_to-clause-rest : goal.returns-in-Err-come_to-clause-rest
returns-in-Err-come_to-clause-rest g c = failed_rest c.args.self.now c.come_to.new.self c.failed.new.self c.failed.ensures.rest (rest_from c.args.self.now c.come_to.new.self c.call_found.new.state c.in-Err-come_to.ensures.rest)

pub returns-in-Err-come_to-clause-frames : goal.returns-in-Err-come_to-clause-frames
returns-in-Err-come_to-clause-frames g c =
    failed_frames c.args.self.now.machine c.come_to.new.self.machine c.failed.new.self.machine c.in_ok-mark.mark c.in_ok-mark.ensures.marked c.failed.ensures.put_back
    (frames_behind c.in-Ok.reached c.args.self.now.machine c.call_found.new.state c.come_to.new.self.machine c.in-Ok.ensures.kept c.in-Err-come_to.ensures.frames)

pub returns-in-Err-come_to-clause-keeps : goal.returns-in-Err-come_to-clause-keeps
returns-in-Err-come_to-clause-keeps g c =
    failed_keeps c.args.self.now.machine c.come_to.new.self.machine c.failed.new.self.machine c.in_ok-mark.mark c.in_ok-mark.ensures.marked c.failed.ensures.put_back
    (frames_behind c.in-Ok.reached c.args.self.now.machine c.call_found.new.state c.come_to.new.self.machine c.in-Ok.ensures.kept c.in-Err-come_to.ensures.frames)
    (keeps_behind c.in-Ok.reached c.args.self.now.machine c.call_found.new.state c.come_to.new.self.machine c.in-Ok.ensures.kept c.in-Err-come_to.ensures.keeps)

-- what it comes to is printed
pub returns-in-Err-print_to-clause-told : goal.returns-in-Err-print_to-clause-told
returns-in-Err-print_to-clause-told g c = λ n finished.
    let self = c.args.self.now in
    let says = (user_answers g.E.Callable.Callable.answer g.E.Method.UnknownMethod.answer g.E.Formatter.Formatter.answer g.E.Join.PathJoin.answer) in
    let rules = c.rules-rules.ensures in
    let same = around_there says self c.rules-rules.result (rules.name ∙ c.own_name.ensures) rules.limit rules.undefined in
    let a = around_under c.rules-rules.result (callables_of says self.environment.now) (around_in says self) in
    let name = c.args.name.now in
    let p = found_in says self name c.args.args.now in
    let planned = found_there says self a name c.in_ok-given.given.items c.args.args.now (Ok c.in-Ok.reached) c.call_found.new.state same c.in_ok-given.ensures.ok
    (c.in-Ok.ensures.told (around_in says self)) in
    let there = reached_there says self c.in-Ok.reached c.call_found.new.state p c.come_to.new.self (Ok c.in-Ok-come_to.value) c.in-Ok.ensures.kept planned c.in-Ok-come_to.ensures.does in
    let refused = told_so (λ kinds. with_turning to_text (value_left c.in-Ok-come_to.value c.come_to.new.self.machine) ≡ replies (told c.come_to.new.self.machine (fails kinds))) c.in-Err-print_to.error
    (text_refused c.come_to.new.self.machine c.in-Ok-come_to.value _ _ _ c.new-text.ensures.bytes c.in-Err-print_to.ensures) in
    let whole = printed_there says self p c.come_to.new.self c.in-Ok-come_to.value (Err (stop_of c.in-Err-print_to.error)) refused there in
    stopped_told says self (with_turning to_text p) c.come_to.new.self (stop_of c.in-Err-print_to.error) whole (turned_spares c.come_to.new.self.machine (to_text ∷ []) c.in-Ok-come_to.value (Err (stop_of c.in-Err-print_to.error)) refused) n finished
    {X = String Global} (worded_in c.failed-in-Err-print_to.new.self) (Err c.failed-in-Err-print_to.result) (c.failed-in-Err-print_to.ensures.same ∙ sym (same_kinds c.in-Err-print_to.error))

pub returns-in-Err-print_to-clause-remains : goal.returns-in-Err-print_to-clause-remains
returns-in-Err-print_to-clause-remains g c = λ n finished.
    let self = c.args.self.now in
    let says = (user_answers g.E.Callable.Callable.answer g.E.Method.UnknownMethod.answer g.E.Formatter.Formatter.answer g.E.Join.PathJoin.answer) in
    let rules = c.rules-rules.ensures in
    let same = around_there says self c.rules-rules.result (rules.name ∙ c.own_name.ensures) rules.limit rules.undefined in
    let a = around_under c.rules-rules.result (callables_of says self.environment.now) (around_in says self) in
    let name = c.args.name.now in
    let p = found_in says self name c.args.args.now in
    let planned = found_there says self a name c.in_ok-given.given.items c.args.args.now (Ok c.in-Ok.reached) c.call_found.new.state same c.in_ok-given.ensures.ok
    (c.in-Ok.ensures.told (around_in says self)) in
    let there = reached_there says self c.in-Ok.reached c.call_found.new.state p c.come_to.new.self (Ok c.in-Ok-come_to.value) c.in-Ok.ensures.kept planned c.in-Ok-come_to.ensures.does in
    let refused = told_so (λ kinds. with_turning to_text (value_left c.in-Ok-come_to.value c.come_to.new.self.machine) ≡ replies (told c.come_to.new.self.machine (fails kinds))) c.in-Err-print_to.error
    (text_refused c.come_to.new.self.machine c.in-Ok-come_to.value _ _ _ c.new-text.ensures.bytes c.in-Err-print_to.ensures) in
    let whole = printed_there says self p c.come_to.new.self c.in-Ok-come_to.value (Err (stop_of c.in-Err-print_to.error)) refused there in
    failed_left self c.come_to.new.self c.failed-in-Err-print_to.new.self c.failed-in-Err-print_to.ensures.rest {X = String Global} (fuel_left_in self) (meant says self (with_turning to_text p) n) (Err c.failed-in-Err-print_to.result)
    (stopped_remains says self (with_turning to_text p) c.come_to.new.self (stop_of c.in-Err-print_to.error) whole (turned_spares c.come_to.new.self.machine (to_text ∷ []) c.in-Ok-come_to.value (Err (stop_of c.in-Err-print_to.error)) refused) n finished
    {X = String Global} (Err c.failed-in-Err-print_to.result) (c.failed-in-Err-print_to.ensures.same ∙ sym (same_kinds c.in-Err-print_to.error)))

pub returns-in-Err-print_to-clause-world : goal.returns-in-Err-print_to-clause-world
returns-in-Err-print_to-clause-world g c = λ n finished.
    let self = c.args.self.now in
    let says = (user_answers g.E.Callable.Callable.answer g.E.Method.UnknownMethod.answer g.E.Formatter.Formatter.answer g.E.Join.PathJoin.answer) in
    let rules = c.rules-rules.ensures in
    let same = around_there says self c.rules-rules.result (rules.name ∙ c.own_name.ensures) rules.limit rules.undefined in
    let a = around_under c.rules-rules.result (callables_of says self.environment.now) (around_in says self) in
    let name = c.args.name.now in
    let p = found_in says self name c.args.args.now in
    let planned = found_there says self a name c.in_ok-given.given.items c.args.args.now (Ok c.in-Ok.reached) c.call_found.new.state same c.in_ok-given.ensures.ok
    (c.in-Ok.ensures.told (around_in says self)) in
    let there = reached_there says self c.in-Ok.reached c.call_found.new.state p c.come_to.new.self (Ok c.in-Ok-come_to.value) c.in-Ok.ensures.kept planned c.in-Ok-come_to.ensures.does in
    let refused = told_so (λ kinds. with_turning to_text (value_left c.in-Ok-come_to.value c.come_to.new.self.machine) ≡ replies (told c.come_to.new.self.machine (fails kinds))) c.in-Err-print_to.error
    (text_refused c.come_to.new.self.machine c.in-Ok-come_to.value _ _ _ c.new-text.ensures.bytes c.in-Err-print_to.ensures) in
    let whole = printed_there says self p c.come_to.new.self c.in-Ok-come_to.value (Err (stop_of c.in-Err-print_to.error)) refused there in
    stopped_in says self (with_turning to_text p) c.come_to.new.self (stop_of c.in-Err-print_to.error) whole (turned_spares c.come_to.new.self.machine (to_text ∷ []) c.in-Ok-come_to.value (Err (stop_of c.in-Err-print_to.error)) refused) n finished
    {X = String Global} (Err c.failed-in-Err-print_to.result) (c.failed-in-Err-print_to.ensures.same ∙ sym (same_kinds c.in-Err-print_to.error)) c.failed-in-Err-print_to.new.self.machine
    (mark_back self.machine c.come_to.new.self.machine c.failed-in-Err-print_to.new.self.machine c.in_ok-mark.mark c.in_ok-mark.ensures.marked c.failed-in-Err-print_to.ensures.put_back)

pub returns-in-Err-print_to-clause-put_back : goal.returns-in-Err-print_to-clause-put_back
returns-in-Err-print_to-clause-put_back g c = mark_put_back c.args.self.now.machine c.come_to.new.self.machine c.failed-in-Err-print_to.new.self.machine c.in_ok-mark.mark c.in_ok-mark.ensures.marked c.failed-in-Err-print_to.ensures.put_back

pub returns-in-Err-print_to-clause-rest : goal.returns-in-Err-print_to-clause-rest
returns-in-Err-print_to-clause-rest g c = failed_rest c.args.self.now c.come_to.new.self c.failed-in-Err-print_to.new.self c.failed-in-Err-print_to.ensures.rest (rest_from c.args.self.now c.come_to.new.self c.call_found.new.state c.in-Ok-come_to.ensures.rest)

pub returns-in-Ok-print_to-clause-told : goal.returns-in-Ok-print_to-clause-told
returns-in-Ok-print_to-clause-told g c = λ n finished.
    let self = c.args.self.now in
    let says = (user_answers g.E.Callable.Callable.answer g.E.Method.UnknownMethod.answer g.E.Formatter.Formatter.answer g.E.Join.PathJoin.answer) in
    let rules = c.rules-rules.ensures in
    let same = around_there says self c.rules-rules.result (rules.name ∙ c.own_name.ensures) rules.limit rules.undefined in
    let a = around_under c.rules-rules.result (callables_of says self.environment.now) (around_in says self) in
    let name = c.args.name.now in
    let p = found_in says self name c.args.args.now in
    let planned = found_there says self a name c.in_ok-given.given.items c.args.args.now (Ok c.in-Ok.reached) c.call_found.new.state same c.in_ok-given.ensures.ok
    (c.in-Ok.ensures.told (around_in says self)) in
    let there = reached_there says self c.in-Ok.reached c.call_found.new.state p c.come_to.new.self (Ok c.in-Ok-come_to.value) c.in-Ok.ensures.kept planned c.in-Ok-come_to.ensures.does in
    let text = c.print_to.new.out in
    let u = captured c.come_to.new.self.machine.escape (keeps (string_bytes text)) in
    let made = text_turned c.come_to.new.self.machine c.in-Ok-come_to.value u _ (string_bytes text) c.new-text.ensures.bytes c.in-Ok-print_to.ensures refl in
    let whole = printed_there says self p c.come_to.new.self c.in-Ok-come_to.value (Ok u) made there in
    worded_told (fuel_left_in self) (meant says self (with_turning to_text p) n) c.come_to.new.self text (told_there says self (with_turning to_text p) c.come_to.new.self u whole n finished)

pub returns-in-Ok-print_to-clause-remains : goal.returns-in-Ok-print_to-clause-remains
returns-in-Ok-print_to-clause-remains g c = λ n finished.
    let self = c.args.self.now in
    let says = (user_answers g.E.Callable.Callable.answer g.E.Method.UnknownMethod.answer g.E.Formatter.Formatter.answer g.E.Join.PathJoin.answer) in
    let rules = c.rules-rules.ensures in
    let same = around_there says self c.rules-rules.result (rules.name ∙ c.own_name.ensures) rules.limit rules.undefined in
    let a = around_under c.rules-rules.result (callables_of says self.environment.now) (around_in says self) in
    let name = c.args.name.now in
    let p = found_in says self name c.args.args.now in
    let planned = found_there says self a name c.in_ok-given.given.items c.args.args.now (Ok c.in-Ok.reached) c.call_found.new.state same c.in_ok-given.ensures.ok
    (c.in-Ok.ensures.told (around_in says self)) in
    let there = reached_there says self c.in-Ok.reached c.call_found.new.state p c.come_to.new.self (Ok c.in-Ok-come_to.value) c.in-Ok.ensures.kept planned c.in-Ok-come_to.ensures.does in
    let text = c.print_to.new.out in
    let u = captured c.come_to.new.self.machine.escape (keeps (string_bytes text)) in
    let made = text_turned c.come_to.new.self.machine c.in-Ok-come_to.value u _ (string_bytes text) c.new-text.ensures.bytes c.in-Ok-print_to.ensures refl in
    let whole = printed_there says self p c.come_to.new.self c.in-Ok-come_to.value (Ok u) made there in
    remains_there says self (with_turning to_text p) c.come_to.new.self u whole n finished

pub returns-in-Ok-print_to-clause-world : goal.returns-in-Ok-print_to-clause-world
returns-in-Ok-print_to-clause-world g c = λ n finished.
    let self = c.args.self.now in
    let says = (user_answers g.E.Callable.Callable.answer g.E.Method.UnknownMethod.answer g.E.Formatter.Formatter.answer g.E.Join.PathJoin.answer) in
    let rules = c.rules-rules.ensures in
    let same = around_there says self c.rules-rules.result (rules.name ∙ c.own_name.ensures) rules.limit rules.undefined in
    let a = around_under c.rules-rules.result (callables_of says self.environment.now) (around_in says self) in
    let name = c.args.name.now in
    let p = found_in says self name c.args.args.now in
    let planned = found_there says self a name c.in_ok-given.given.items c.args.args.now (Ok c.in-Ok.reached) c.call_found.new.state same c.in_ok-given.ensures.ok
    (c.in-Ok.ensures.told (around_in says self)) in
    let there = reached_there says self c.in-Ok.reached c.call_found.new.state p c.come_to.new.self (Ok c.in-Ok-come_to.value) c.in-Ok.ensures.kept planned c.in-Ok-come_to.ensures.does in
    let text = c.print_to.new.out in
    let u = captured c.come_to.new.self.machine.escape (keeps (string_bytes text)) in
    let made = text_turned c.come_to.new.self.machine c.in-Ok-come_to.value u _ (string_bytes text) c.new-text.ensures.bytes c.in-Ok-print_to.ensures refl in
    let whole = printed_there says self p c.come_to.new.self c.in-Ok-come_to.value (Ok u) made there in
    world_there says self (with_turning to_text p) c.come_to.new.self u whole n finished

pub returns-in-Err-print_to-clause-frames : goal.returns-in-Err-print_to-clause-frames
returns-in-Err-print_to-clause-frames g c =
    failed_frames c.args.self.now.machine c.come_to.new.self.machine c.failed-in-Err-print_to.new.self.machine c.in_ok-mark.mark c.in_ok-mark.ensures.marked c.failed-in-Err-print_to.ensures.put_back
    (frames_behind c.in-Ok.reached c.args.self.now.machine c.call_found.new.state c.come_to.new.self.machine c.in-Ok.ensures.kept c.in-Ok-come_to.ensures.frames)

pub returns-in-Err-print_to-clause-keeps : goal.returns-in-Err-print_to-clause-keeps
returns-in-Err-print_to-clause-keeps g c =
    failed_keeps c.args.self.now.machine c.come_to.new.self.machine c.failed-in-Err-print_to.new.self.machine c.in_ok-mark.mark c.in_ok-mark.ensures.marked c.failed-in-Err-print_to.ensures.put_back
    (frames_behind c.in-Ok.reached c.args.self.now.machine c.call_found.new.state c.come_to.new.self.machine c.in-Ok.ensures.kept c.in-Ok-come_to.ensures.frames)
    (keeps_behind c.in-Ok.reached c.args.self.now.machine c.call_found.new.state c.come_to.new.self.machine c.in-Ok.ensures.kept c.in-Ok-come_to.ensures.keeps)

pub returns-in-Ok-print_to-clause-frames : goal.returns-in-Ok-print_to-clause-frames
returns-in-Ok-print_to-clause-frames g c = frames_behind c.in-Ok.reached c.args.self.now.machine c.call_found.new.state c.come_to.new.self.machine c.in-Ok.ensures.kept c.in-Ok-come_to.ensures.frames

pub returns-in-Ok-print_to-clause-keeps : goal.returns-in-Ok-print_to-clause-keeps
returns-in-Ok-print_to-clause-keeps g c = keeps_behind c.in-Ok.reached c.args.self.now.machine c.call_found.new.state c.come_to.new.self.machine c.in-Ok.ensures.kept c.in-Ok-come_to.ensures.keeps

-- every call ends
pub returns-in_err-given-clause-finished : goal.returns-in_err-given-clause-finished
returns-in_err-given-clause-finished g c = c.every_call_ends.ensures.texts c.args.name.now c.args.args.now

pub returns-in_err-mark-clause-finished : goal.returns-in_err-mark-clause-finished
returns-in_err-mark-clause-finished g c = c.every_call_ends.ensures.texts c.args.name.now c.args.args.now

pub returns-in-Err-clause-finished : goal.returns-in-Err-clause-finished
returns-in-Err-clause-finished g c = c.every_call_ends.ensures.texts c.args.name.now c.args.args.now

pub returns-in-Err-come_to-clause-finished : goal.returns-in-Err-come_to-clause-finished
returns-in-Err-come_to-clause-finished g c = c.every_call_ends.ensures.texts c.args.name.now c.args.args.now

pub returns-in-Err-print_to-clause-finished : goal.returns-in-Err-print_to-clause-finished
returns-in-Err-print_to-clause-finished g c = c.every_call_ends.ensures.texts c.args.name.now c.args.args.now

pub returns-in-Ok-print_to-clause-finished : goal.returns-in-Ok-print_to-clause-finished
returns-in-Ok-print_to-clause-finished g c = c.every_call_ends.ensures.texts c.args.name.now c.args.args.now
