use Rattle.std.proofs.Common.{◌∷◌, ap, ◌∙◌}
use Rattle.template_compiler_code.specs.Code as codes
use Rattle.template_compiler_code.specs.Code.{single}
use Rattle.template_machine_meaning.proofs.RunsKept.{world_stays}
use Rattle.template_machine_operands.specs.Operands.{operands_in}
use Rattle.template_machine_steps.proofs.Stepping.{lost_out, want_out}
use Rattle.template_machine_perform.proofs.Lifting.{same_keeps}
use Rattle.template_machine_perform.proofs.Making.{nameless, closureless, macro_built_out}
use Rattle.template_machine_perform.proofs.Scoping.{behind_any}
use Rattle.template_machine_perform.proofs.macros.build_macro.Goals as goal

pub returns-in_err-names : goal.returns-in_err-names
returns-in_err-names c s offset before same =
    behind_any before s (codes.build_macro c.args.name.now offset c.args.flags) _ c.args.state.now _ _ _
    (lost_out s (codes.build_macro c.args.name.now offset c.args.flags) _ c.args.state.now _ _ _ _ _ (world_stays c.args.state.now)
    (λ next counts place. nameless next counts c.args.name.now offset c.args.flags place _ c.in_err-names.ensures.none) c.in_err-names.ensures.kind c.from_residual.ensures.1)

pub returns-in_err-closure : goal.returns-in_err-closure
returns-in_err-closure c s offset before same =
    behind_any before s (codes.build_macro c.args.name.now offset c.args.flags) _ c.args.state.now _ _ _
    (lost_out s (codes.build_macro c.args.name.now offset c.args.flags) _ c.args.state.now _ _ _ _ _ (world_stays c.args.state.now)
    (λ next counts place. closureless next counts c.args.name.now offset c.args.flags place c.in_ok-names.names _ (operands_in c.take.new.self) c.in_ok-names.ensures.taken c.in_err-closure.ensures.none)
    c.in_err-closure.ensures.kind c.from_residual-in_err-closure.ensures.1)

pub returns-in_err-built : goal.returns-in_err-built
returns-in_err-built c s offset before same =
    behind_any before s (codes.build_macro c.args.name.now offset c.args.flags) _ c.args.state.now _ _ _
    (want_out s (codes.build_macro c.args.name.now offset c.args.flags) _ c.args.state.now _ _ _ _ _
    (same_keeps c.args.state.now _ c.in_err-built.ensures.unchanged) c.in_err-built.ensures.refused c.from_residual-in_err-built.ensures.1)

pub returns : goal.returns
returns c s offset before same =
    macro_built_out before s c.args.name.now offset c.args.flags c.args.number _ (operands_in c.take_closure.new.self) _ c.args.state.now _ c.in_ok-names.names c.in_ok-built.built
    c.in_ok-closure.closure c.items_of-arguments.result c.takes_caller.result _
    (c.in_ok-names.ensures.taken ∙ ap (λ o. single c.in_ok-names.names ∷ o) c.in_ok-closure.ensures.taken) same c.items_of-arguments.ensures c.takes_caller.ensures
    c.in_ok-built.ensures.made c.in_ok-built.ensures.given c.push.ensures.pushed c.push.ensures.refused
