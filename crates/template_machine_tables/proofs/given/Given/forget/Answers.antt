-- The first call for the loop is gone.
use Rattle.std.proofs.Common.{◌≡◌, ◌∙◌, sym, ap, Some, None}
use Rattle.std.specs.List.{position}
use Rattle.template_machine_meaning.specs.World.{drop_given}
use Rattle.template_machine_tables.specs.Calls.{is_for}
use Rattle.template_machine_tables.proofs.Calling.{drop_found, stays}
use Rattle.template_machine_tables.proofs.given.Given.forget.Goals as goal

pub returns-in-Some : goal.returns-in-Some
returns-in-Some c =
    let number = c.args.number in
    let calls = c.self.inside.calls.items in
    let is : position (is_for number) calls ≡ Some c.in-Some.place = ap (position (is_for number)) (sym c.as_slice.ensures.value) ∙ sym c.in-Some.ensures in
    c.remove-gone.ensures.items ∙ drop_found number calls c.in-Some.place is ∙ ap (drop_given number) c.self.view_is

pub returns-in-None : goal.returns-in-None
returns-in-None c =
    let number = c.args.number in
    let calls = c.self.inside.calls.items in
    let none : position (is_for number) calls ≡ None = ap (position (is_for number)) (sym c.as_slice.ensures.value) ∙ sym c.in-None.ensures in
    sym c.self.view_is ∙ stays number calls none ∙ ap (drop_given number) c.self.view_is
