use Rattle.std.proofs.Common.{None, Result, lit<, subst}
use Rattle.std.proofs.lemmas.Str.Pattern.{strip_prefix_char}
use Rattle.template_values_errors.specs.declared.ErrorKind.{ErrorKind}
use Rattle.template_callables.specs.Views.{seen_in}
use Rattle.template_builtins_arguments.specs.Answers.{TellsAs}
use Rattle.template_builtins_formats.specs.Formats.{Piece}
use Rattle.template_builtins_formats.specs.Pieces.{seen_piece}
use Rattle.template_builtins_formats.proofs.Going.{not_percent}
use Rattle.template_builtins_formats.proofs.formats.behind_percent.Goals as goal

pub returns-in-None-clause-piece : goal.returns-in-None-clause-piece
returns-in-None-clause-piece c =
    subst (λ (answer : Result Piece ErrorKind). TellsAs seen_piece c.directed.result answer)
    (not_percent (seen_in c.args.view.now) c.args.before.now c.args.behind.now c.args.arguments.now (strip_prefix_char 37 c.args.behind.now None c.in-None.ensures.cases (lit< tt)))
    c.directed.ensures.piece
