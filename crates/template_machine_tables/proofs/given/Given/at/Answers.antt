-- The first call for the loop has the arguments.
use Rattle.std.proofs.Common.{◌≡◌, ◌∙◌, sym, ap, Some, None}
use Rattle.std.specs.List.{position}
use Rattle.template_machine_meaning.specs.World.{given_at}
use Rattle.template_machine_tables.specs.Calls.{is_for}
use Rattle.template_machine_tables.proofs.Calling.{found, not_found}
use Rattle.template_machine_tables.proofs.given.Given.at.Goals as goal

pub returns-in-Some : goal.returns-in-Some
returns-in-Some c =
    let number = c.args.number in
    let calls = c.self.inside.calls.items in
    let is : position (is_for number) calls ≡ Some c.in-Some.place = ap (position (is_for number)) (sym c.as_slice.ensures.value) ∙ sym c.in-Some.ensures in
    ap Some c.args-in-Some.ensures ∙ found number calls c.in-Some.place c.index.result.now is c.index.ensures ∙ ap (given_at number) c.self.view_is

pub returns-in-None : goal.returns-in-None
returns-in-None c =
    let number = c.args.number in
    let calls = c.self.inside.calls.items in
    let none : position (is_for number) calls ≡ None = ap (position (is_for number)) (sym c.as_slice.ensures.value) ∙ sym c.in-None.ensures in
    not_found number calls none ∙ ap (given_at number) c.self.view_is
