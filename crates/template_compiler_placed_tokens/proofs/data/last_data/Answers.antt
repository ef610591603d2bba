use Rattle.std.proofs.Common.{◌≡◌, ◌+◌, [], ◌∷◌, inl, inr, sym, ◌∙◌, ap, subst, arith, length}
use Rattle.std.specs.Str.{IsCharBoundary}
use Rattle.std.proofs.lemmas.Bool.{false≢true}
use Rattle.std.proofs.lemmas.Str.{IsCharBoundary-end}
use Rattle.template_compiler_tokens.specs.Token.{template_data}
use Rattle.template_compiler_syntax.specs.Stripping.{stripped_from}
use Rattle.template_compiler_placed_tokens.specs.Left.{placed}
use Rattle.template_compiler_placed_tokens.proofs.Steps.{data_last}
use Rattle.template_compiler_placed_tokens.proofs.Parts.{data_at_end, data_cut}
use Rattle.template_compiler_placed_tokens.proofs.data.last_data.Goals as goal

pub returns-then-is_nothing : goal.returns-then-is_nothing
returns-then-is_nothing c =
    let text = c.data_text-text.result.now in
    let none = c.is_nothing.ensures.0 c.if-is_nothing.true in
    elim (data_last c.args.syntax.now c.args.source.now c.requires.usable c.args.left c.args.from text c.requires.none c.data_text-text.ensures.text) [
      | inl empty ↦ empty.1
      | inr some ↦ absurd (let long = some.0 in omega arith)
    ]

pub returns : goal.returns
returns c =
    let x = c.args.syntax.now in
    let s = c.args.source.now in
    let text = c.data_text-text.result.now in
    let begin = stripped_from x s c.args.left c.args.from (length s) in
    let e = c.data_text-text.ensures.text in
    let at = c.data_start-begin.ensures.start in
    let ahead = c.data_start-begin.ensures.ahead in
    let high = c.requires.cut.0 in
    elim (data_last x s c.requires.usable c.args.left c.args.from text c.requires.none e) [
      | inl empty ↦ absurd (false≢true (sym c.if-is_nothing.false ∙ c.is_nothing.ensures.1 empty.0))
      | inr some ↦
          let last = some.2 in
          let cuts = data_cut s text begin (length s) c.utf8.source c.data_text-text.utf8 some.0 e last in
          record {
            first =
                some.1 ∙
                (ap (λ b. placed (template_data text) b (b + length text) ∷ []) (sym at) ∙
                ap (λ ts. placed (template_data text) c.data_start-begin.result (c.data_start-begin.result + length text) ∷ ts)
                (sym (data_at_end x s c.requires.usable)));
            stage = IsCharBoundary-end s;
            cut = record {
              low = ahead;
              ordered = omega arith;
              high = omega arith;
              begin = subst (λ n. IsCharBoundary s n) (sym at) cuts.0;
              end = subst (λ n. IsCharBoundary s n) (let there : begin + length text ≡ c.data_start-begin.result + length text = omega arith in there) cuts.1;
              next = IsCharBoundary-end s;
            };
          }
    ]
