use Rattle.std.proofs.Common.{[], codes, string_bytes, true}
use Rattle.std.proofs.lemmas.Result.{err_from_is_err_and}
use Rattle.template_callables.specs.Views.{seen_in}
use Rattle.template_builtins_arguments.specs.Texts.{piece_of}
use Rattle.template_builtins_web.specs.Elements.{named}
use Rattle.template_builtins_web.specs.Pieces.{enclosed}
use Rattle.template_builtins_web.proofs.Following.{named_made, named_refused}
use Rattle.template_builtins_web.proofs.attributes.with_attribute.Goals as goal

pub returns-in_err-whole : goal.returns-in_err-whole
returns-in_err-whole c =
    let view = seen_in c.args.view.now in
    let p = err_from_is_err_and c.from_residual-in_err-whole.result c.from_residual-in_err-whole.ensures.1 in
    rw (p.1, p.2)
    (named_refused (string_bytes c.args.text) (named view c.args.key.now) tt (enclosed (codes " ") (piece_of view true c.args.key.now) (codes "=\"")) (enclosed [] (piece_of view true c.args.value.now) (codes "\"")) _ c.in_ok-named.ensures c.in_err-whole.ensures)

pub returns : goal.returns
returns c =
    let view = seen_in c.args.view.now in
    rw (named_made (string_bytes c.args.text) (string_bytes c.in_ok-whole.whole) (named view c.args.key.now) tt (enclosed (codes " ") (piece_of view true c.args.key.now) (codes "=\"")) (enclosed [] (piece_of view true c.args.value.now) (codes "\"")) c.in_ok-named.ensures c.in_ok-whole.ensures)
    c.with_enclosed-2.ensures
