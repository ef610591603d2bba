use Rattle.std.proofs.Common.{◌≡◌, ◌+◌, ◌≤◌, ◌∷◌, inl, inr, sym, ◌∙◌, ap, subst, arith, length}
use Rattle.std.proofs.lemmas.Bool.{false≢true}
use Rattle.template_compiler_syntax.specs.declared.edges.Edge.TheVariants.{Nothing, Beside}
use Rattle.template_compiler_syntax.specs.Places.{stretch}
use Rattle.template_compiler_syntax.specs.Segments.{start_sign}
use Rattle.template_compiler_syntax.specs.Stripping.{stripped_from, stripped_to}
use Rattle.std.specs.Str.{IsCharBoundary}
use Rattle.template_compiler_tokens.specs.Token.{template_data}
use Rattle.template_compiler_placed_tokens.specs.Left.{placed, data_tokens}
use Rattle.template_compiler_placed_tokens.proofs.Steps.{data_next}
use Rattle.template_compiler_placed_tokens.proofs.Parts.{steps_from, data_cut, start_here}
use Rattle.template_compiler_placed_tokens.proofs.data.before_start.Goals as goal

pub returns-then-is_nothing : goal.returns-then-is_nothing
returns-then-is_nothing c =
    let x = c.args.syntax.now in
    let s = c.args.source.now in
    let kind = c.args.kind in
    let from = c.args.from in
    let start = c.args.start in
    let left = c.args.left in
    let text = c.data_text-text.result.now in
    let begin = stripped_from x s left from start in
    let signs = c.start_sign.ensures ∙ ap (λ t. start_sign x t kind start) c.as_bytes.ensures.value in
    let e = subst (λ g. text ≡ stretch s begin (stripped_to x s (Beside kind g) begin start)) signs c.data_text-text.ensures.text in
    let bound = subst (λ g. stripped_to x s (Beside kind g) begin start ≤ start) signs c.data_text-text.ensures.within in
    let within = c.inside_from-inside.ensures.start.0 in
    let none = c.is_nothing.ensures.0 c.if-is_nothing.true in
    let high : stripped_to x s (Beside kind (start_sign x s kind start)) begin start ≤ length s = omega arith in
    let same : data_tokens x s left from ≡ data_tokens x s Nothing start = elim (data_next x s c.requires.usable left from start kind text c.requires.start e high) [
      | inl empty ↦ empty.1
      | inr some ↦ absurd (let long = some.0 in omega arith)
    ] in
    steps_from x s from start (data_tokens x s left from) (data_tokens x s Nothing start) c.enter.result same c.requires.start.ahead c.enter.ensures

pub returns : goal.returns
returns c =
    let x = c.args.syntax.now in
    let s = c.args.source.now in
    let kind = c.args.kind in
    let from = c.args.from in
    let start = c.args.start in
    let left = c.args.left in
    let text = c.data_text-text.result.now in
    let begin = stripped_from x s left from start in
    let signs = c.start_sign.ensures ∙ ap (λ t. start_sign x t kind start) c.as_bytes.ensures.value in
    let stop = stripped_to x s (Beside kind (start_sign x s kind start)) begin start in
    let e : text ≡ stretch s begin stop = subst (λ g. text ≡ stretch s begin (stripped_to x s (Beside kind g) begin start)) signs c.data_text-text.ensures.text in
    let bound : stop ≤ start = subst (λ g. stripped_to x s (Beside kind g) begin start ≤ start) signs c.data_text-text.ensures.within in
    let within = c.inside_from-inside.ensures.start.0 in
    let high : stop ≤ length s = omega arith in
    let at = c.data_start-begin.ensures.start in
    let ahead = c.data_start-begin.ensures.ahead in
    elim (data_next x s c.requires.usable left from start kind text c.requires.start e high) [
      | inl empty ↦ absurd (false≢true (sym c.if-is_nothing.false ∙ c.is_nothing.ensures.1 empty.0))
      | inr some ↦
          let last = some.2 in
          let cuts = data_cut s text begin stop c.utf8.source c.data_text-text.utf8 some.0 e last in
          record {
            first =
                some.1 ∙ ap (λ b. placed (template_data text) b (b + length text) ∷ data_tokens x s Nothing start) (sym at);
            stage = (c.inside_from-inside.ensures.start, start_here x s from start kind c.requires.start);
            cut = record {
              low = ahead;
              ordered = omega arith;
              high = omega arith;
              begin = subst (λ n. IsCharBoundary s n) (sym at) cuts.0;
              end = subst (λ n. IsCharBoundary s n) (let there : begin + length text ≡ c.data_start-begin.result + length text = omega arith in there) cuts.1;
              next = c.inside_from-inside.ensures.start;
            };
          }
    ]
