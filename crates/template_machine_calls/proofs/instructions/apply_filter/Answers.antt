use Rattle.std.proofs.Common.{Err, refl, ap}
use Rattle.template_compiler_process.specs.Process as events
use Rattle.template_compiler_code.specs.Code as codes
use Rattle.template_compiler_code.specs.Steps.{on_taken, giving}
use Rattle.template_machine_meaning.specs.Calls.{call_plan}
use Rattle.template_machine_meaning.specs.Functions.{filter_named, invokes}
use Rattle.template_machine_meaning.specs.Surroundings.{Programs}
use Rattle.template_machine_meaning.proofs.RunsKept.{world_stays}
use Rattle.template_machine_operands.specs.Operands.{operands_in}
use Rattle.template_machine_steps.proofs.Gathering.{handed_refused}
use Rattle.template_machine_calls.specs.Hosted.{hosted}
use Rattle.template_machine_calls.proofs.Giving.{err_out, failed, handed_as, handed_with, put_out, refused_as, stop_out}
use Rattle.template_machine_calls.proofs.Temps.{temps_keep}
use Rattle.template_machine_calls.proofs.instructions.apply_filter.Goals as goal

pub returns-in_err-values : goal.returns-in_err-values
returns-in_err-values g c program number =
    err_out (hosted c.args.rules (g.H.Callbacks.callables c.args.host.now) program) _ _ _ _ _ _ _
    (handed_refused (hosted c.args.rules (g.H.Callbacks.callables c.args.host.now) program) (codes.apply_filter c.args.name.now c.args.count number) _ c.args.state.now (Err _) _ _ _ _ c.args.count
    (world_stays c.args.state.now)
    (λ lacks next before place. ap (λ t. on_taken t (λ vs rest. giving next place rest (events.apply_filter c.args.name.now vs))) lacks)
    (refused_as _ _ _ _ c.widened.ensures c.in_err-values.ensures.refused) refl)
    c.from_residual.ensures.1

pub returns-in_err-reached : goal.returns-in_err-reached
returns-in_err-reached g c program number =
    let s : Programs = hosted c.args.rules (g.H.Callbacks.callables c.args.host.now) program in
    stop_out s _ _ _ _ _ _ _
    (failed s (codes.apply_filter c.args.name.now c.args.count number) (events.apply_filter c.args.name.now c.as_slice.result.now) (operands_in c.args.operands.now) c.args.state.now (operands_in c.take_handed.new.self)
    (λ next before place. ap (λ t. on_taken t (λ vs rest. giving next place rest (events.apply_filter c.args.name.now vs)))
    (handed_with c.args.count (operands_in c.args.operands.now) (operands_in c.take_handed.new.self) c.in_ok-values.values.items c.as_slice.result.now
    (handed_as _ _ _ _ c.widened.ensures c.in_ok-values.ensures.taken) c.as_slice.ensures.value))
    (call_plan s.around c.args.state.now (invokes (filter_named c.args.name.now) c.as_slice.result.now)) refl _ _ _
    (temps_keep c.args.state.now _ c.in_err-reached.ensures.kept) (c.in_err-reached.ensures.told program.around))
    c.from_residual-in_err-reached.ensures.1

pub returns : goal.returns
returns g c program number =
    let s : Programs = hosted c.args.rules (g.H.Callbacks.callables c.args.host.now) program in
    put_out s (codes.apply_filter c.args.name.now c.args.count number) (events.apply_filter c.args.name.now c.as_slice.result.now) (operands_in c.args.operands.now) c.args.state.now (operands_in c.take_handed.new.self)
    (λ next before place. ap (λ t. on_taken t (λ vs rest. giving next place rest (events.apply_filter c.args.name.now vs)))
    (handed_with c.args.count (operands_in c.args.operands.now) (operands_in c.take_handed.new.self) c.in_ok-values.values.items c.as_slice.result.now
    (handed_as _ _ _ _ c.widened.ensures c.in_ok-values.ensures.taken) c.as_slice.ensures.value))
    (call_plan s.around c.args.state.now (invokes (filter_named c.args.name.now) c.as_slice.result.now)) refl c.in_ok-reached.reached _ _ _
    (c.in_ok-reached.ensures.told program.around) c.in_ok-reached.ensures.kept c.put.ensures
