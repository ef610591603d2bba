use Rattle.std.proofs.Common.{subst, sym, ◌∙◌, ap}
use Rattle.std.specs.Str.{IsCharBoundary}
use Rattle.template_compiler_syntax.specs.Places.{newline_len}
use Rattle.template_compiler_syntax.proofs.Data.{newline_cut, tail_of}
use Rattle.template_compiler_syntax.proofs.stripping.without_newline.Goals as goal

pub split_at-requires : goal.split_at-requires
split_at-requires c =
    let same = c.newline_len.ensures ∙ ap (λ t. newline_len t 0) c.as_bytes.ensures.value in
    subst (λ n. IsCharBoundary c.args.text.now n) (sym same) (newline_cut c.args.text.now c.utf8.text)

pub returns-clause-tail : goal.returns-clause-tail
returns-clause-tail c = tail_of c.args.text.now c.split_at.result.1.now c.newline_len.result c.split_at.ensures.back
