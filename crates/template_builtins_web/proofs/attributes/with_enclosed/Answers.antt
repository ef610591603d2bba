use Rattle.std.proofs.Common.{rules, ◌≡◌, ◌++◌, string_bytes, true}
use Rattle.std.proofs.lemmas.Result.{err_from_is_err_and}
use Rattle.template_callables.specs.Views.{seen_in}
use Rattle.template_builtins_arguments.specs.Texts.{piece_of}
use Rattle.template_builtins_web.proofs.Following.{enclosed_made, enclosed_refused}
use Rattle.template_builtins_web.proofs.attributes.with_enclosed.Goals as goal

pub returns-in_err-push_piece : goal.returns-in_err-push_piece
returns-in_err-push_piece c =
    let p = err_from_is_err_and c.from_residual-in_err-push_piece.result c.from_residual-in_err-push_piece.ensures.1 in
    rw (p.1, p.2)
    (enclosed_refused (string_bytes c.args.text) c.args.before.now c.args.behind.now (string_bytes c.push_str.new.self) (string_bytes c.push_piece.new.out) (piece_of (seen_in c.args.view.now) true c.args.value.now) _ c.in_err-push_piece.ensures)

pub returns : goal.returns
returns c =
    let begun : string_bytes c.push_str.new.self ≡ string_bytes c.args.text ++ c.args.before.now = search rules in
    let ended : string_bytes c.push_str-2.new.self ≡ string_bytes c.push_piece.new.out ++ c.args.behind.now = search rules in
    enclosed_made (string_bytes c.args.text) c.args.before.now c.args.behind.now (string_bytes c.push_str.new.self) (string_bytes c.push_piece.new.out) (string_bytes c.push_str-2.new.self) (piece_of (seen_in c.args.view.now) true c.args.value.now) tt begun c.in_ok-push_piece.ensures ended
