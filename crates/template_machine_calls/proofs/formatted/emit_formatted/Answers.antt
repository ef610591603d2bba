use Rattle.std.proofs.Common.{◌≡◌, Err, suc, refl, sym, ap, subst, ◌∙◌}
use Rattle.template_compiler_process.specs.Process.{fails}
use Rattle.template_compiler_code.specs.Code as codes
use Rattle.template_machine_meaning.specs.Replies.{told}
use Rattle.template_machine_meaning.specs.Surroundings.{Programs, text_reply, written_reply}
use Rattle.template_machine_meaning.proofs.RunsKept.{world_stays}
use Rattle.template_machine_operands.specs.Operands.{operands_in}
use Rattle.template_machine_steps.specs.Performs.{StepsHeardWriting}
use Rattle.template_machine_steps.proofs.Hearing.{err_heard, heard_writes}
use Rattle.template_machine_steps.proofs.Stepping.{lost_one}
use Rattle.template_machine_calls.specs.Hosted.{hosted}
use Rattle.template_machine_calls.proofs.Formatting.{refused_so, written_so}
use Rattle.template_machine_calls.proofs.Printing.{no_programs, refused_failures, refused_out, told_failures}
use Rattle.template_machine_calls.proofs.formatted.emit_formatted.Goals as goal

pub returns-in_err-value-clause-steps : goal.returns-in_err-value-clause-steps
returns-in_err-value-clause-steps g c program =
    let s : Programs = hosted c.args.rules (g.H.Callbacks.callables c.args.host.now) program in
    heard_writes s codes.emit _ c.args.state.now _ _ _ _ _
    (err_heard s codes.emit _ c.args.state.now _ _ _ _ _ c.from_residual.ensures.1
    (lost_one s codes.emit _ c.args.state.now (Err _) _ _ _ _ (world_stays c.args.state.now) tt c.in_err-value.ensures.none c.in_err-value.ensures.kind refl))

pub returns-in_err-value-clause-failures : goal.returns-in_err-value-clause-failures
returns-in_err-value-clause-failures g c = told_failures _ c.in_err-value.field-0.0 _ c.from_residual.ensures.1

pub returns-in_err-make_formatted-clause-steps : goal.returns-in_err-make_formatted-clause-steps
returns-in_err-make_formatted-clause-steps g c program =
    let s : Programs = hosted c.args.rules (g.H.Callbacks.callables c.args.host.now) program in
    let v = c.in_ok-value.value in
    let w = c.args.state.now in
    subst (λ o. StepsHeardWriting s codes.emit o w (g.S.Sink.taken c.args.sink.now) c.from_residual-in_err-make_formatted.result suc (operands_in c.take.new.self) w (g.S.Sink.taken c.args.sink.now))
    (sym c.in_ok-value.ensures.taken)
    (refused_out s v (operands_in c.take.new.self) w _ _ _ (refused_so s.around w v _ (c.in_err-make_formatted.ensures program.around)) c.from_residual-in_err-make_formatted.ensures.1)

pub returns-in_err-make_formatted-clause-failures : goal.returns-in_err-make_formatted-clause-failures
returns-in_err-make_formatted-clause-failures g c =
    let s : Programs = hosted c.args.rules (g.H.Callbacks.callables c.args.host.now) no_programs in
    refused_failures (λ kinds. written_reply s.around c.args.state.now c.in_ok-value.value ≡ told c.args.state.now (fails kinds)) _ _ _
    (refused_so s.around c.args.state.now c.in_ok-value.value _ (c.in_err-make_formatted.ensures no_programs.around)) c.from_residual-in_err-make_formatted.ensures.1

pub returns-clause-steps : goal.returns-clause-steps
returns-clause-steps g c program =
    let s : Programs = hosted c.args.rules (g.H.Callbacks.callables c.args.host.now) program in
    let v = c.in_ok-value.value in
    let w = c.args.state.now in
    subst (λ o. StepsHeardWriting s codes.emit o w (g.S.Sink.taken c.args.sink.now) c.put_text.result suc (operands_in c.take.new.self) c.put_text.new.state (g.S.Sink.taken c.put_text.new.sink))
    (sym c.in_ok-value.ensures.taken)
    (c.put_text.ensures.steps s v (operands_in c.take.new.self)
    (written_so s.around w v _ (c.in_ok-make_formatted.ensures program.around) ∙ ap (text_reply w) (sym c.as_str.ensures.value)))
