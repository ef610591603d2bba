use Rattle.std.proofs.Common.{◌≡◌, true, false, List, [], ◌∷◌, Some, Result, Err, inl, inr, reverse, refl, sym, ap, subst, ◌∙◌}
use Rattle.template_values_errors.specs.declared.ErrorKind.{ErrorKind}
use Rattle.template_values_errors.specs.declared.ErrorKind.TheVariants.{TooManyArguments}
use Rattle.template_machine_meaning.specs.Macros.{arguments_given, bound, caller_locals, handed_over}
use Rattle.template_machine_calls.specs.Binding.{Binds, keywords_in}
use Rattle.template_machine_calls.specs.declared.binding.Bound.{Bound}
use Rattle.template_machine_calls.proofs.Handing.{binds_not, binds_so, bound_so, fault_of, refused_none, refused_others, taken_so, too_many_known}
use Rattle.template_machine_calls.proofs.binding.bind.Goals as goal

pub returns-then-not-fit : goal.returns-then-not-fit
returns-then-not-fit c m names takes =
    let places = c.part-places.result.0.items in
    let keywords = c.part-places.result.1 in
    subst (λ (r : Result Bound (List ErrorKind)). Binds (bound m (handed_over c.args.args.items)) r) (sym c.too_many.ensures)
    (binds_not (bound m (handed_over c.args.args.items)) (Err (TooManyArguments ∷ [])) (TooManyArguments ∷ []) refl (inr (
      TooManyArguments,
      refused_none m c.args.args.items places keywords c.part-places.ensures.parts
          (too_many_known m.arguments places c.as_slice.result.now c.args.names.now (keywords_in keywords) names c.as_slice.ensures.value
          (sym c.fit.ensures ∙ c.if-not-fit.true)),
      refl,
    )))

pub returns-then-not-are_taken : goal.returns-then-not-are_taken
returns-then-not-are_taken c m names takes =
    subst (λ (r : Result Bound (List ErrorKind)). Binds (bound m (handed_over c.args.args.items)) r) (sym c.too_many-then-not-are_taken.ensures)
    (binds_not (bound m (handed_over c.args.args.items)) (Err (TooManyArguments ∷ [])) (TooManyArguments ∷ []) refl (inr (
      TooManyArguments,
      refused_others m c.args.args.items c.part-places.result.0.items c.part-places.result.1 c.part-places.ensures.parts
          (taken_so m c.args.names.now c.args.takes_caller (keywords_in c.part-places.result.1) c.are_taken.result false names takes c.are_taken.ensures c.if-not-are_taken.true),
      refl,
    )))

pub returns-in_err-arguments : goal.returns-in_err-arguments
returns-in_err-arguments c m names takes =
    let places = c.part-places.result.0.items in
    let keywords = c.part-places.result.1 in
    binds_not (bound m (handed_over c.args.args.items)) _ _ c.from_residual.ensures.1
    (fault_of m c.args.args.items places c.as_slice-2.result.now keywords c.args.names.now _ c.part-places.ensures.parts names c.as_slice-2.ensures.value c.in_err-arguments.ensures.refused)

pub returns-in_err-caller : goal.returns-in_err-caller
returns-in_err-caller c m names takes = binds_not (bound m (handed_over c.args.args.items)) _ _ c.from_residual-in_err-caller.ensures.1 (inl c.in_err-caller.ensures.refused)

pub returns : goal.returns
returns c m names takes =
    let places = c.part-places.result.0.items in
    let keywords = c.part-places.result.1 in
    let given : arguments_given m.arguments places (keywords_in keywords) [] ≡ Some (reverse c.in_ok-arguments.arguments.items) =
    (λ i. arguments_given (names i) (sym c.as_slice-2.ensures.value i) (keywords_in keywords) []) ∙ c.in_ok-arguments.ensures.given in
    let made : Bound = record { arguments = c.in_ok-arguments.arguments; caller = c.in_ok-caller.caller } in
    binds_so (bound m (handed_over c.args.args.items)) _ made
    (bound_so m c.args.args.items places keywords c.part-places.ensures.parts (reverse c.in_ok-arguments.arguments.items) given (taken_so m c.args.names.now c.args.takes_caller (keywords_in keywords) c.are_taken.result true names takes c.are_taken.ensures c.if-not-are_taken.false)) refl
    (ap (λ b. caller_locals b (keywords_in keywords)) takes ∙ sym c.in_ok-caller.ensures.found)
