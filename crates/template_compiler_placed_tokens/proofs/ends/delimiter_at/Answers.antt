use Rattle.std.proofs.Common.{refl, sym, ◌∙◌, inr}
use Rattle.std.proofs.lemmas.Bool.{false≢true}
use Rattle.template_compiler_syntax.specs.Segments.{bare_end, signed_end}
use Rattle.template_compiler_syntax.proofs.Some.{no_end}
use Rattle.template_compiler_placed_tokens.proofs.Delimiters.{sign_past}
use Rattle.template_compiler_placed_tokens.proofs.ends.delimiter_at.Goals as goal

pub returns-then-stands_at : goal.returns-then-stands_at
returns-then-stands_at c = bare_end (c.stands_at.ensures.0 c.if-stands_at.true) refl

pub returns-then-place-bytes : goal.returns-then-place-bytes
returns-then-place-bytes c = λ last next end.
    no_end (λ stands. false≢true (sym c.if-stands_at.false ∙ c.stands_at.ensures.1 stands))
    (inr (sign_past c.args.bytes.now c.args.place c.if-place-bytes.true)) end

pub returns-then-stands_at-2 : goal.returns-then-stands_at-2
returns-then-stands_at-2 c =
    signed_end (λ stands. false≢true (sym c.if-stands_at.false ∙ c.stands_at.ensures.1 stands))
    (c.stands_at-in_default.ensures.0 c.if-stands_at-2.true) c.at.ensures c.in_default.not-Plain refl
