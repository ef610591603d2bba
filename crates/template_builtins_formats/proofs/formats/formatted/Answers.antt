use Rattle.std.proofs.Common.{ap, option_map, string_bytes}
use Rattle.std.proofs.lemmas.Result.{err_from_is_err_and}
use Rattle.template_callables.specs.Views.{seen_in}
use Rattle.template_builtins_formats.specs.Pieces.{both, seen_piece}
use Rattle.template_builtins_formats.proofs.Going.{goes_first, goes_on, goes_told}
use Rattle.template_builtins_formats.proofs.formats.formatted.Goals as goal

pub pieces-init : goal.pieces-init
pieces-init c = (c.utf8.text, goes_first (seen_in c.args.view.now) (string_bytes c.new-out.result) c.args.text.now c.args.arguments.now c.new-out.ensures.bytes)

pub returns-in_err-piece : goal.returns-in_err-piece
returns-in_err-piece c =
    let p = err_from_is_err_and c.from_residual.result c.from_residual.ensures.1 in
    rw (p.1, p.2)
    (goes_told (seen_in c.args.view.now) (string_bytes c.pieces.out) c.pieces.rest.now c.pieces.given.now c.args.arguments.now c.args.text.now _ c.in_err-piece.ensures.piece c.pieces.invariant.1)

pub pieces-preserved : goal.pieces-preserved
pieces-preserved c = (
  rw c.in-Some.is at c.in_ok-piece.ensures.rest,
  goes_on (seen_in c.args.view.now) (string_bytes c.pieces.out) (string_bytes c.push_str.new.self) c.pieces.rest.now (string_bytes c.in_ok-piece.piece.text)
      c.in-Some.text.now c.pieces.given.now c.in-Some.arguments.now c.args.arguments.now c.args.text.now (seen_piece c.in_ok-piece.piece).left
      c.in_ok-piece.ensures.piece (ap (option_map both) c.in-Some.is) (rw c.as_str.ensures.value at c.in_ok-push_str.ensures.bytes)
      (rw c.in-Some.is at c.in_ok-piece.ensures.less) c.pieces.invariant.1,
)
