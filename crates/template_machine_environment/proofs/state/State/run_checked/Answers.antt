use Rattle.std.proofs.Common.{◌∙◌, List, Ok, Err, ap, inl, refl, sym}
use Rattle.std.proofs.KnownBytes.{Appends-nil}
use Rattle.template_values_errors.specs.declared.ErrorKind.{ErrorKind}
use Rattle.template_machine_going.specs.Told.{by_kinds}
use Rattle.template_machine_meaning.proofs.RunsKept.{world_stays}
use Rattle.template_machine_environment.specs.Extras.{user_answers}
use Rattle.template_machine_environment.specs.Renderings.{broken}
use Rattle.template_machine_environment.proofs.Calling.{told_answers}
use Rattle.template_machine_environment.proofs.Streaming.{handed_there, stream_renders, stream_gives, stream_leaves, stream_ends_in}
use Rattle.template_machine_environment.proofs.Told.{temps_put_back}
use Rattle.template_machine_environment.proofs.state.State.run_checked.Goals as goal

pub returns-in-Ok-clause-renders : goal.returns-in-Ok-clause-renders
returns-in-Ok-clause-renders g c = λ n finished.
    let self = c.args.self.now in
    let says = (user_answers g.E.Callable.Callable.answer g.E.Method.UnknownMethod.answer g.E.Formatter.Formatter.answer g.E.Join.PathJoin.answer) in
    let programs = c.program.ensures in
    let is = handed_there says self c.args.stream.now c.program.result.templates.now _ c.program.result.rules.name.now c.program.result.rules.limit c.program.result.rules.undefined
    programs.templates programs.roots programs.name programs.limit programs.undefined in
    stream_renders says self c.args.stream.now _ _ _ _ _ _ is c.remaining-left.ensures c.run_stream-done.result (Ok c.in-Ok.given) _ _ (ap by_kinds (sym c.in-Ok.is))
    c.run_stream-done.ensures.runs c.run_stream-done.ensures.failures n finished

pub returns-in-Ok-clause-gives : goal.returns-in-Ok-clause-gives
returns-in-Ok-clause-gives g c =
    let self = c.args.self.now in
    let says = (user_answers g.E.Callable.Callable.answer g.E.Method.UnknownMethod.answer g.E.Formatter.Formatter.answer g.E.Join.PathJoin.answer) in
    let programs = c.program.ensures in
    let is = handed_there says self c.args.stream.now c.program.result.templates.now _ c.program.result.rules.name.now c.program.result.rules.limit c.program.result.rules.undefined
    programs.templates programs.roots programs.name programs.limit programs.undefined in
    stream_gives says self c.args.stream.now _ _ _ _ _ _ is c.remaining-left.ensures c.run_stream-done.result c.in-Ok.given c.in-Ok.is c.run_stream-done.ensures.runs

pub returns-in-Ok-clause-remains : goal.returns-in-Ok-clause-remains
returns-in-Ok-clause-remains g c =
    let self = c.args.self.now in
    let says = (user_answers g.E.Callable.Callable.answer g.E.Method.UnknownMethod.answer g.E.Formatter.Formatter.answer g.E.Join.PathJoin.answer) in
    let programs = c.program.ensures in
    let is = handed_there says self c.args.stream.now c.program.result.templates.now _ c.program.result.rules.name.now c.program.result.rules.limit c.program.result.rules.undefined
    programs.templates programs.roots programs.name programs.limit programs.undefined in
    stream_leaves says self c.args.stream.now _ _ _ _ _ _ is c.remaining-left.ensures c.run_stream-done.result (Ok c.in-Ok.given) _ _ (ap by_kinds (sym c.in-Ok.is)) _
    c.run_stream-done.ensures.runs c.run_stream-done.ensures.failures c.spend-self.ensures.left

pub returns-in-Ok-clause-world : goal.returns-in-Ok-clause-world
returns-in-Ok-clause-world g c =
    let self = c.args.self.now in
    let says = (user_answers g.E.Callable.Callable.answer g.E.Method.UnknownMethod.answer g.E.Formatter.Formatter.answer g.E.Join.PathJoin.answer) in
    let programs = c.program.ensures in
    let is = handed_there says self c.args.stream.now c.program.result.templates.now _ c.program.result.rules.name.now c.program.result.rules.limit c.program.result.rules.undefined
    programs.templates programs.roots programs.name programs.limit programs.undefined in
    stream_ends_in says self c.args.stream.now _ _ _ _ _ _ is c.remaining-left.ensures c.run_stream-done.result (Ok c.in-Ok.given) _ _ (ap by_kinds (sym c.in-Ok.is))
    c.run_stream-done.ensures.runs c.run_stream-done.ensures.failures

pub returns-in-Ok-clause-failures : goal.returns-in-Ok-clause-failures
returns-in-Ok-clause-failures g c = told_answers c.run_stream-done.result (Ok c.in-Ok.given) _ _ (ap by_kinds (sym c.in-Ok.is)) c.run_stream-done.ensures.failures

pub returns-in-Ok-clause-rest : goal.returns-in-Ok-clause-rest
returns-in-Ok-clause-rest g c = record { environment = refl; template = refl; id = refl; fuel = c.spend-self.ensures.set; streams = refl }

pub returns-in-Ok-clause-keeps : goal.returns-in-Ok-clause-keeps
returns-in-Ok-clause-keeps g c = c.run_stream-done.ensures.keeps

-- it stops before its end
pub returns-clause-renders : goal.returns-clause-renders
returns-clause-renders g c = λ n finished.
    let self = c.args.self.now in
    let says = (user_answers g.E.Callable.Callable.answer g.E.Method.UnknownMethod.answer g.E.Formatter.Formatter.answer g.E.Join.PathJoin.answer) in
    let programs = c.program.ensures in
    let is = handed_there says self c.args.stream.now c.program.result.templates.now _ c.program.result.rules.name.now c.program.result.rules.limit c.program.result.rules.undefined
    programs.templates programs.roots programs.name programs.limit programs.undefined in
    stream_renders says self c.args.stream.now _ _ _ _ _ _ is c.remaining-left.ensures c.run_stream-done.result (Err c.into_error.result) _ _ (ap (λ (ks : List ErrorKind). Err ks) c.into_error.ensures ∙ ap by_kinds (sym c.in-Err.is))
    c.run_stream-done.ensures.runs c.run_stream-done.ensures.failures n finished

pub returns-clause-remains : goal.returns-clause-remains
returns-clause-remains g c =
    let self = c.args.self.now in
    let says = (user_answers g.E.Callable.Callable.answer g.E.Method.UnknownMethod.answer g.E.Formatter.Formatter.answer g.E.Join.PathJoin.answer) in
    let programs = c.program.ensures in
    let is = handed_there says self c.args.stream.now c.program.result.templates.now _ c.program.result.rules.name.now c.program.result.rules.limit c.program.result.rules.undefined
    programs.templates programs.roots programs.name programs.limit programs.undefined in
    stream_leaves says self c.args.stream.now _ _ _ _ _ _ is c.remaining-left.ensures c.run_stream-done.result (Err c.into_error.result) _ _ (ap (λ (ks : List ErrorKind). Err ks) c.into_error.ensures ∙ ap by_kinds (sym c.in-Err.is)) _
    c.run_stream-done.ensures.runs c.run_stream-done.ensures.failures c.spend-self.ensures.left

pub returns-clause-world : goal.returns-clause-world
returns-clause-world g c =
    let self = c.args.self.now in
    let says = (user_answers g.E.Callable.Callable.answer g.E.Method.UnknownMethod.answer g.E.Formatter.Formatter.answer g.E.Join.PathJoin.answer) in
    let programs = c.program.ensures in
    let is = handed_there says self c.args.stream.now c.program.result.templates.now _ c.program.result.rules.name.now c.program.result.rules.limit c.program.result.rules.undefined
    programs.templates programs.roots programs.name programs.limit programs.undefined in
    stream_ends_in says self c.args.stream.now _ _ _ _ _ _ is c.remaining-left.ensures c.run_stream-done.result (Err c.into_error.result) _ _ (ap (λ (ks : List ErrorKind). Err ks) c.into_error.ensures ∙ ap by_kinds (sym c.in-Err.is))
    c.run_stream-done.ensures.runs c.run_stream-done.ensures.failures

pub returns-clause-failures : goal.returns-clause-failures
returns-clause-failures g c = told_answers c.run_stream-done.result (Err c.into_error.result) _ _ (ap (λ (ks : List ErrorKind). Err ks) c.into_error.ensures ∙ ap by_kinds (sym c.in-Err.is)) c.run_stream-done.ensures.failures

pub returns-clause-rest : goal.returns-clause-rest
returns-clause-rest g c = record { environment = refl; template = refl; id = refl; fuel = c.spend-self.ensures.set; streams = refl }

pub returns-clause-keeps : goal.returns-clause-keeps
returns-clause-keeps g c = c.run_stream-done.ensures.keeps

-- no number is left for it
pub returns-in_default-clause-renders : goal.returns-in_default-clause-renders
returns-in_default-clause-renders g c = λ n finished. broken (inl (c.new.ensures, refl)) (0, Appends-nil (g.S.Sink.taken c.args.sink.now))

pub returns-in_default-clause-remains : goal.returns-in_default-clause-remains
returns-in_default-clause-remains g c = λ quiet n finished. inl c.new.ensures

pub returns-in_default-clause-world : goal.returns-in_default-clause-world
returns-in_default-clause-world g c = λ quiet n finished. inl c.new.ensures

pub returns-in_default-clause-put_back : goal.returns-in_default-clause-put_back
returns-in_default-clause-put_back g c = temps_put_back c.args.self.now.machine c.args.self.now.machine refl

pub returns-in_default-clause-keeps : goal.returns-in_default-clause-keeps
returns-in_default-clause-keeps g c = world_stays c.args.self.now.machine

pub returns-in_default-clause-failures : goal.returns-in_default-clause-failures
returns-in_default-clause-failures g c = inl refl

pub returns-in_default-clause-rest : goal.returns-in_default-clause-rest
returns-in_default-clause-rest g c = record { environment = refl; template = refl; id = refl; fuel = refl; streams = refl }
