use Rattle.std.proofs.Common.{◌≡◌, subst, List, Option, Ok, Err}
use Rattle.std.proofs.lemmas.Result.{err_from_is_err_and}
use Rattle.template_values_model.specs.Val.{Val}
use Rattle.template_callables.specs.Views.{seen_in}
use Rattle.template_builtins_arguments.specs.Answers.{Tells}
use Rattle.template_builtins_arguments.specs.Given.{given_by}
use Rattle.template_builtins_paths.specs.Items.{each}
use Rattle.template_builtins_paths.specs.Paths.{part_of}
use Rattle.template_builtins_paths.proofs.Steps.{tells_after_err}
use Rattle.template_builtins_callables.proofs.Parting.{parts_are}
use Rattle.template_builtins_callables.proofs.each.parts_made.Goals as goal

pub returns-in_err-parts : goal.returns-in_err-parts
returns-in_err-parts c =
    let view = seen_in c.args.view.now in
    let given = given_by c.in_ok-given.given in
    let items = c.in_ok-items.items.items in
    let path = c.in_ok-path.path.now in
    let kinds = c.in_err-parts.field-0.0 in
    let failed : Tells {T = List Val} (Err kinds) (each (λ item. part_of view item path (given 1)) items) =
    subst (λ (d : Option Val). Tells {T = List Val} (Err kinds) (each (λ item. part_of view item path d) items)) c.at.ensures
    (rw c.deref.ensures.value at c.in_err-parts.ensures) in
    let p = err_from_is_err_and c.from_residual-in_err-parts.result c.from_residual-in_err-parts.ensures.1 in
    rw (parts_are view c.args.value.now c.args.arguments.now given items path c.in_ok-given.ensures c.in_ok-items.ensures c.in_ok-path.ensures, p.1, p.2)
    (tells_after_err {T = List Val} {U = Val} _ _ kinds failed)

pub returns : goal.returns
returns c =
    let view = seen_in c.args.view.now in
    let given = given_by c.in_ok-given.given in
    let items = c.in_ok-items.items.items in
    let path = c.in_ok-path.path.now in
    let made : each (λ item. part_of view item path (given 1)) items ≡ Ok c.in_ok-parts.parts.items =
    subst (λ (d : Option Val). each (λ item. part_of view item path d) items ≡ Ok c.in_ok-parts.parts.items) c.at.ensures
    (rw c.deref.ensures.value at c.in_ok-parts.ensures) in
    rw (parts_are view c.args.value.now c.args.arguments.now given items path c.in_ok-given.ensures c.in_ok-items.ensures c.in_ok-path.ensures, made)
    c.list_of.ensures
