use Rattle.std.proofs.Common.{◌++◌, take, append_assoc}
use Rattle.std.specs.Prelude.{encode_utf8}
use Rattle.std.proofs.lemmas.Result.{err_from_is_err_and}
use Rattle.template_compiler_scanner.proofs.Pieces.{escape_goes_on, escape_fails, no_escape_fails, plain_is_itself, refused_as}
use Rattle.template_compiler_scanner.proofs.escapes.unescape.Goals as goal

pub returns-in_err-rest : goal.returns-in_err-rest
returns-in_err-rest c =
    let found = rw c.as_bytes.ensures.value at c.in-Some.ensures in
    let p = err_from_is_err_and c.from_residual.result c.from_residual.ensures.1 in
    rw (p.1, p.2)
    (refused_as
    (λ none. c.loop-backslash.invariant.fails (no_escape_fails c.loop-backslash.rest.now c.in-Some.backslash found none))
    c.in_err-rest.ensures.escape)

pub loop-backslash-preserved : goal.loop-backslash-preserved
loop-backslash-preserved c =
    let s = c.loop-backslash.rest.now in
    let i = c.in-Some.backslash in
    let found = rw c.as_bytes.ensures.value at c.in-Some.ensures in
    let piece = c.in_ok-rest.ensures.escape in
    record {
      utf8 = c.in_ok-rest.ensures.utf8;
      goes_on =
          λ t u.
          rw (piece.4, append_assoc, append_assoc)
          (c.loop-backslash.invariant.goes_on (take i s ++ (encode_utf8 piece.0 ++ t))
          (escape_goes_on s i piece.0 piece.1 t found piece.2 (rw piece.3 at u)));
      fails = λ none. c.loop-backslash.invariant.fails (escape_fails s i piece.0 piece.1 found piece.2 (rw piece.3 at none));
    }

pub returns : goal.returns
returns c =
    rw c.in_ok-push_text.ensures
    (c.loop-backslash.invariant.goes_on c.loop-backslash.rest.now
    (plain_is_itself c.loop-backslash.rest.now (rw c.as_bytes.ensures.value at c.in_default.ensures)))
