use Rattle.std.proofs.Common.{◌+◌, sym, ◌∙◌, ap, subst, length}
use Rattle.std.specs.Str.{IsUtf8, IsCharBoundary}
use Rattle.template_compiler_syntax.specs.Syntax.{start_text}
use Rattle.template_compiler_syntax.specs.Places.{sign_width}
use Rattle.template_compiler_syntax.specs.Segments.{start_sign}
use Rattle.template_compiler_placed_tokens.proofs.Cuts.{stands_start, inside_cut}
use Rattle.template_compiler_placed_tokens.proofs.starts.inside_from.Goals as goal

pub returns-clause-start : goal.returns-clause-start
returns-clause-start c =
    let text = start_text c.args.syntax.now c.args.kind in
    stands_start c.args.source.now text c.args.place (subst IsUtf8 c.start_text.ensures c.start_text.utf8) c.requires.set c.requires.stands

pub returns-clause-cut : goal.returns-clause-cut
returns-clause-cut c =
    let x = c.args.syntax.now in
    let s = c.args.source.now in
    let cut = inside_cut x s c.args.kind c.args.place c.utf8.source (subst IsUtf8 c.start_text.ensures c.start_text.utf8) c.requires.set c.requires.stands in
    let signs = c.start_sign-sign.ensures ∙ ap (λ t. start_sign x t c.args.kind c.args.place) c.as_bytes.ensures.value in
    let widths = c.width.ensures ∙ ap (λ g. sign_width g) signs in
    let places =
    ap (λ t. c.args.place + length t + c.width.result) c.start_text.ensures ∙ ap (λ w. c.args.place + length (start_text x c.args.kind) + w) widths in
    subst (λ n. IsCharBoundary s n) (sym places) cut
