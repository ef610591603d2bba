-- The call takes the place of the one before, or stands behind the others.
use Rattle.std.proofs.Common.{◌≡◌, ◌∙◌, ◌++◌, ◌∷◌, [], sym, ap, ℕ, List, Some, None, set}
use Rattle.std.specs.List.{position}
use Rattle.template_values_model.specs.Val.{Val}
use Rattle.template_machine_meaning.specs.World.{put_given}
use Rattle.template_machine_tables.specs.Calls.{is_for}
use Rattle.template_machine_tables.proofs.Calling.{put_found, put_new}
use Rattle.template_machine_tables.proofs.given.Given.put.Goals as goal

pub returns-in-Some-clause-put : goal.returns-in-Some-clause-put
returns-in-Some-clause-put c =
    let number = c.args.number in
    let calls = c.self.inside.calls.items in
    let is : position (is_for number) calls ≡ Some c.in-Some.place = ap (position (is_for number)) (sym c.as_slice.ensures.value) ∙ sym c.in-Some.ensures in
    ap (λ (call : ℕ × List Val). set calls c.in-Some.place call) c.new.ensures
    ∙ put_found number c.args.args.items calls c.in-Some.place is
    ∙ ap (put_given number c.args.args.items) c.self.view_is

pub returns-in_ok-push-in-None-clause-put : goal.returns-in_ok-push-in-None-clause-put
returns-in_ok-push-in-None-clause-put c =
    let number = c.args.number in
    let calls = c.self.inside.calls.items in
    let none : position (is_for number) calls ≡ None = ap (position (is_for number)) (sym c.as_slice.ensures.value) ∙ sym c.in-None.ensures in
    c.in_ok-push-in-None.ensures.items
    ∙ ap (λ (call : ℕ × List Val). calls ++ call ∷ []) c.new-in-None.ensures
    ∙ put_new number c.args.args.items calls none
    ∙ ap (put_given number c.args.args.items) c.self.view_is
