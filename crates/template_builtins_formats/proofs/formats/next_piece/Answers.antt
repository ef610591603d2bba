use Rattle.std.proofs.Common.{None, Some, Result, lit<, subst}
use Rattle.std.proofs.lemmas.Str.Pattern.{split_once_first}
use Rattle.template_values_errors.specs.declared.ErrorKind.{ErrorKind}
use Rattle.template_callables.specs.Views.{seen_in}
use Rattle.template_builtins_arguments.specs.Answers.{TellsAs}
use Rattle.template_builtins_formats.specs.Formats.{Piece}
use Rattle.template_builtins_formats.specs.Pieces.{seen_piece}
use Rattle.template_builtins_formats.proofs.Going.{next_none, next_some}
use Rattle.template_builtins_formats.proofs.formats.next_piece.Goals as goal

pub returns-in-Some-clause-piece : goal.returns-in-Some-clause-piece
returns-in-Some-clause-piece c =
    let parts = split_once_first 37 c.args.text.now (Some (c.in-Some.before, c.in-Some.behind)) c.in-Some.ensures.cases (lit< tt) in
    subst (λ (answer : Result Piece ErrorKind). TellsAs seen_piece c.behind_percent.result answer)
    (next_some (seen_in c.args.view.now) c.args.text.now c.in-Some.before.now c.in-Some.behind.now c.args.arguments.now parts.0 parts.1 parts.2)
    c.behind_percent.ensures.piece

pub returns-in-None-clause-piece : goal.returns-in-None-clause-piece
returns-in-None-clause-piece c =
    let none = split_once_first 37 c.args.text.now None c.in-None.ensures.cases (lit< tt) in
    subst (λ (answer : Result Piece ErrorKind). TellsAs seen_piece c.last_piece.result answer)
    (next_none (seen_in c.args.view.now) c.args.text.now c.args.arguments.now none)
    c.last_piece.ensures.piece
