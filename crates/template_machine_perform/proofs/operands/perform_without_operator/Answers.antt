use Rattle.std.proofs.Common.{refl, ap, sym, ◌∙◌}
use Rattle.template_compiler_code.specs.Code as codes
use Rattle.template_compiler_code.specs.View.{code_of}
use Rattle.template_machine_steps.specs.Performs.{ruled}
use Rattle.template_machine_perform.proofs.Lifting.{straight_leads, leads_at}
use Rattle.template_machine_perform.proofs.Left.{none_left}
use Rattle.template_machine_perform.proofs.operands.perform_without_operator.Goals as goal

pub returns-in-LoadConst : goal.returns-in-LoadConst
returns-in-LoadConst c program limit =
    straight_leads _ (codes.load_const _) _ _ _ _ _ _ _ (ap code_of c.in-LoadConst.is) c.straight.ensures (c.load_const.ensures (ruled program limit c.args.mode) c.args.state.now)

pub returns-in-Swap : goal.returns-in-Swap
returns-in-Swap c program limit =
    straight_leads _ codes.swap _ _ _ _ _ _ _ (ap code_of c.in-Swap.is) c.straight-in-Swap.ensures (c.swap.ensures (ruled program limit c.args.mode) c.args.state.now)

pub returns-in-DupTop : goal.returns-in-DupTop
returns-in-DupTop c program limit =
    straight_leads _ codes.dup_top _ _ _ _ _ _ _ (ap code_of c.in-DupTop.is) c.straight-in-DupTop.ensures (c.dup_top.ensures (ruled program limit c.args.mode) c.args.state.now)

pub returns-in-DiscardTop : goal.returns-in-DiscardTop
returns-in-DiscardTop c program limit =
    straight_leads _ codes.discard_top _ _ _ _ _ _ _ (ap code_of c.in-DiscardTop.is) c.straight-in-DiscardTop.ensures (c.discard_top.ensures (ruled program limit c.args.mode) c.args.state.now)

pub returns-in-GetAttr : goal.returns-in-GetAttr
returns-in-GetAttr c program limit =
    straight_leads _ (codes.get_attr _) _ _ _ _ _ _ _ (ap code_of c.in-GetAttr.is ∙ ap (λ t. codes.get_attr t) (sym c.as_str.ensures.value)) c.straight-in-GetAttr.ensures (c.get_attr.ensures program limit c.args.state.now refl)

pub returns-in-GetItem : goal.returns-in-GetItem
returns-in-GetItem c program limit =
    straight_leads _ codes.get_item _ _ _ _ _ _ _ (ap code_of c.in-GetItem.is) c.straight-in-GetItem.ensures (c.get_item.ensures program limit c.args.state.now refl)

pub returns-in-Slice : goal.returns-in-Slice
returns-in-Slice c program limit =
    straight_leads _ codes.slice _ _ _ _ _ _ _ (ap code_of c.in-Slice.is) c.straight-in-Slice.ensures (c.slice.ensures program limit c.args.state.now)

pub returns-in-Neg : goal.returns-in-Neg
returns-in-Neg c program limit =
    straight_leads _ codes.negate _ _ _ _ _ _ _ (ap code_of c.in-Neg.is) c.straight-in-Neg.ensures (c.negate.ensures program limit c.args.mode c.args.state.now)

pub returns-in-Not : goal.returns-in-Not
returns-in-Not c program limit =
    straight_leads _ codes.invert _ _ _ _ _ _ _ (ap code_of c.in-Not.is) c.straight-in-Not.ensures (c.invert.ensures program limit c.args.state.now refl)

pub returns-in-IsUndefined : goal.returns-in-IsUndefined
returns-in-IsUndefined c program limit =
    straight_leads _ codes.is_undefined _ _ _ _ _ _ _ (ap code_of c.in-IsUndefined.is) c.straight-in-IsUndefined.ensures (c.is_undefined.ensures (ruled program limit c.args.mode) c.args.state.now)

pub returns-in-CompareAndPreserve : goal.returns-in-CompareAndPreserve
returns-in-CompareAndPreserve c program limit =
    straight_leads _ (codes.compare_and_preserve _) _ _ _ _ _ _ _ (ap code_of c.in-CompareAndPreserve.is ∙ ap (λ o. codes.compare_and_preserve o) (sym c.comparison_of.ensures)) c.straight-in-CompareAndPreserve.ensures (c.compare_and_preserve.ensures program limit c.args.state.now refl)

pub returns-in-Jump : goal.returns-in-Jump
returns-in-Jump c program limit =
    leads_at _ (codes.jump _) _ _ _ _ _ _ (ap code_of c.in-Jump.is) (c.jump.ensures (ruled program limit c.args.mode) _ c.args.state.now)

pub returns-in-JumpIfFalse : goal.returns-in-JumpIfFalse
returns-in-JumpIfFalse c program limit =
    leads_at _ (codes.jump_if_false _) _ _ _ _ _ _ (ap code_of c.in-JumpIfFalse.is) (c.jump_if_false.ensures program limit c.args.state.now refl)

pub returns-in-JumpIfFalseOrPop : goal.returns-in-JumpIfFalseOrPop
returns-in-JumpIfFalseOrPop c program limit =
    leads_at _ (codes.jump_if_false_or_pop _) _ _ _ _ _ _ (ap code_of c.in-JumpIfFalseOrPop.is) (c.jump_if_false_or_pop.ensures program limit c.args.state.now refl)

pub returns-in-JumpIfTrueOrPop : goal.returns-in-JumpIfTrueOrPop
returns-in-JumpIfTrueOrPop c program limit =
    leads_at _ (codes.jump_if_true_or_pop _) _ _ _ _ _ _ (ap code_of c.in-JumpIfTrueOrPop.is) (c.jump_if_true_or_pop.ensures program limit c.args.state.now refl)

pub returns-in-BuildList : goal.returns-in-BuildList
returns-in-BuildList c program limit =
    straight_leads _ (codes.build_list _) _ _ _ _ _ _ _ (ap code_of c.in-BuildList.is) c.straight-in-BuildList.ensures (c.build_list.ensures program limit c.args.mode c.args.state.now)

pub returns-in-BuildTuple : goal.returns-in-BuildTuple
returns-in-BuildTuple c program limit =
    straight_leads _ (codes.build_tuple _) _ _ _ _ _ _ _ (ap code_of c.in-BuildTuple.is) c.straight-in-BuildTuple.ensures (c.build_tuple.ensures program limit c.args.mode c.args.state.now)

pub returns-in-BuildMap : goal.returns-in-BuildMap
returns-in-BuildMap c program limit =
    straight_leads _ (codes.build_map _) _ _ _ _ _ _ _ (ap code_of c.in-BuildMap.is) c.straight-in-BuildMap.ensures (c.build_map.ensures program limit c.args.mode c.args.state.now)

pub returns-in-BuildKwargs : goal.returns-in-BuildKwargs
returns-in-BuildKwargs c program limit =
    straight_leads _ (codes.build_kwargs _) _ _ _ _ _ _ _ (ap code_of c.in-BuildKwargs.is) c.straight-in-BuildKwargs.ensures (c.build_kwargs.ensures program limit c.args.mode c.args.state.now)

pub returns-in-UnpackList : goal.returns-in-UnpackList
returns-in-UnpackList c program limit =
    straight_leads _ (codes.unpack_list _) _ _ _ _ _ _ _ (ap code_of c.in-UnpackList.is) c.straight-in-UnpackList.ensures (c.unpack_list.ensures program limit c.args.mode c.args.state.now)

pub returns-in-UnpackLists : goal.returns-in-UnpackLists
returns-in-UnpackLists c program limit =
    straight_leads _ (codes.unpack_lists _) _ _ _ _ _ _ _ (ap code_of c.in-UnpackLists.is) c.straight-in-UnpackLists.ensures (c.unpack_lists.ensures program limit c.args.mode c.args.state.now refl)

pub returns-in-MergeKwargs : goal.returns-in-MergeKwargs
returns-in-MergeKwargs c program limit =
    straight_leads _ (codes.merge_kwargs _) _ _ _ _ _ _ _ (ap code_of c.in-MergeKwargs.is) c.straight-in-MergeKwargs.ensures (c.merge_kwargs.ensures program limit c.args.state.now refl)

pub returns-in_default : goal.returns-in_default
returns-in_default c program limit =
    let h = c.in_default in
    absurd
    (none_left c.args.instruction.now c.requires.operands c.requires.no_operator h.not-LoadConst h.not-Swap h.not-DupTop h.not-DiscardTop h.not-GetAttr h.not-GetItem h.not-Slice h.not-BuildList h.not-BuildTuple h.not-BuildMap h.not-BuildKwargs h.not-MergeKwargs h.not-UnpackList h.not-UnpackLists h.not-Neg h.not-Not h.not-IsUndefined h.not-CompareAndPreserve h.not-Jump h.not-JumpIfFalse h.not-JumpIfFalseOrPop h.not-JumpIfTrueOrPop)
