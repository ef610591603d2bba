use Rattle.std.proofs.Common.{◌≡◌, ◌+◌, ◌≤◌, ◌∷◌, inl, inr, sym, ◌∙◌, ap, subst, arith, length}
use Rattle.template_compiler_syntax.specs.declared.StartMarker.TheVariants.{Block}
use Rattle.std.specs.Str.{IsCharBoundary}
use Rattle.template_compiler_tokens.specs.Token.{template_data}
use Rattle.template_compiler_tokens.proofs.OneToken.{one_token, some_token}
use Rattle.template_compiler_syntax.specs.declared.edges.Edge.TheVariants.{Beside}
use Rattle.template_compiler_syntax.specs.Places.{stretch}
use Rattle.template_compiler_syntax.specs.Segments.{start_sign}
use Rattle.template_compiler_syntax.specs.Stripping.{stripped_from, stripped_to}
use Rattle.template_compiler_syntax.proofs.Bytes.{takes_bytes}
use Rattle.template_compiler_syntax.proofs.Pieces.{ends_ahead}
use Rattle.template_compiler_syntax.proofs.Some.{set_long}
use Rattle.template_compiler_placed_tokens.specs.Left.{placed, data_tokens}
use Rattle.template_compiler_placed_tokens.proofs.Parts.{data_cut}
use Rattle.template_compiler_placed_tokens.proofs.Steps.{at_raw, at_endless_raw}
use Rattle.template_compiler_placed_tokens.proofs.data.raw_data.Goals as goal

pub returns-in_default : goal.returns-in_default
returns-in_default c = λ i start raw.
    at_endless_raw c.args.syntax.now c.args.source.now c.requires.usable start raw c.in_default.ensures.found

pub returns : goal.returns
returns c = λ i start raw.
    let x = c.args.syntax.now in
    let s = c.args.source.now in
    let from = c.args.from in
    let to = c.in-Some.to in
    let next = c.in-Some.next in
    let last = c.in-Some.last in
    let text = c.data_text-text.result.now in
    let first_at = c.data_start-begin.result in
    let begin = stripped_from x s (Beside Block c.args.inner) from to in
    let signs = c.start_sign.ensures ∙ ap (λ t. start_sign x t Block to) c.as_bytes.ensures.value in
    let stop = stripped_to x s (Beside Block (start_sign x s Block to)) begin to in
    let e : text ≡ stretch s begin stop = subst (λ g. text ≡ stretch s begin (stripped_to x s (Beside Block g) begin to)) signs c.data_text-text.ensures.text in
    let bound : stop ≤ to = subst (λ g. stripped_to x s (Beside Block g) begin to ≤ to) signs c.data_text-text.ensures.within in
    let within = c.inside_from-inside.ensures.start.0 in
    let high : stop ≤ length s = omega arith in
    let first = c.in-Some.ensures.found.0 in
    let end = c.in-Some.ensures.found.1 in
    let low = first.ahead in
    let opened = ends_ahead one_token some_token takes_bytes raw in
    let closed = ends_ahead one_token some_token takes_bytes end in
    let long = set_long (x.block_start) start.here.is_set in
    let at = c.data_start-begin.ensures.start in
    let ahead = c.data_start-begin.ensures.ahead in
    let parts = at_raw x s c.requires.usable text start raw first end e high in
    record {
      none = λ empty. elim parts [ inl none ↦ none.1 | inr some ↦ absurd (let more = some.0 in omega arith) ];
      some = λ more. elim parts [
        | inl none ↦ absurd (let empty = none.0 in omega arith)
        | inr some ↦
            some.1 ∙ ap (λ b. placed (template_data text) b (b + length text) ∷ data_tokens x s (Beside Block last) next) (sym at)
      ];
      cut = λ more. elim parts [
        | inl none ↦ absurd (let empty = none.0 in omega arith)
        | inr some ↦
            let cuts = data_cut s text begin stop c.utf8.source c.data_text-text.utf8 some.0 e some.2 in (
              subst (λ n. IsCharBoundary s n) (sym at) cuts.0,
              subst (λ n. IsCharBoundary s n) (let there : begin + length text ≡ first_at + length text = omega arith in there) cuts.1,
            )
      ];
      high = λ more. elim parts [
        | inl none ↦ absurd (let empty = none.0 in omega arith)
        | inr some ↦ (let there = some.2 in omega arith)
      ];
      low = omega arith;
      ahead = omega arith;
      next = c.in-Some.ensures.cut.1;
    }
