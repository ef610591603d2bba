use Rattle.std.proofs.Common.{◌≡◌, ◌+◌, ◌≤◌, ◌∷◌, inl, inr, sym, ◌∙◌, ap, subst, arith, length}
use Rattle.std.proofs.lemmas.Bool.{false≢true}
use Rattle.template_compiler_syntax.specs.declared.edges.Edge.TheVariants.{Nothing, Beside}
use Rattle.template_compiler_syntax.specs.Places.{stretch}
use Rattle.template_compiler_syntax.specs.Segments.{start_sign}
use Rattle.template_compiler_syntax.specs.Stripping.{stripped_from, stripped_to}
use Rattle.template_compiler_tokens.specs.Token.{template_data}
use Rattle.template_compiler_placed_tokens.specs.Left.{placed, data_tokens}
use Rattle.template_compiler_placed_tokens.proofs.Steps.{data_next, no_data}
use Rattle.template_compiler_placed_tokens.proofs.Parts.{start_here}
use Rattle.template_compiler_tokenizer.proofs.Reading.{goes_on_at_once, holds_up_to}
use Rattle.template_compiler_tokenizer.proofs.reach.hold_data.Goals as goal

pub returns-then-from-start : goal.returns-then-from-start
returns-then-from-start c =
    let x = c.args.syntax.now in
    let s = c.args.source.now in
    let from = c.args.from in
    let place = c.args.start.place in
    let same = c.if-from-start.true in
    let within = c.requires.place.0 in
    goes_on_at_once s c.args.tokens.now.items (data_tokens x s c.args.left from) (data_tokens x s Nothing place) from place c.args.stretch.now
    (ap (λ i. data_tokens x s c.args.left i) same ∙
    no_data x s c.requires.usable c.args.left place c.args.start.kind (start_here x s from place c.args.start.kind c.requires.start) within)
    c.requires.begins c.requires.start.ahead

pub returns-then-is_nothing : goal.returns-then-is_nothing
returns-then-is_nothing c =
    let x = c.args.syntax.now in
    let s = c.args.source.now in
    let kind = c.args.start.kind in
    let from = c.args.from in
    let start = c.args.start.place in
    let left = c.args.left in
    let text = c.data_between-begin.result.0.now in
    let begin = stripped_from x s left from start in
    let signs = c.requires.sign in
    let e = subst (λ g. text ≡ stretch s begin (stripped_to x s (Beside kind g) begin start)) signs c.data_between-begin.ensures.text in
    let bound = subst (λ g. stripped_to x s (Beside kind g) begin start ≤ start) signs c.data_between-begin.ensures.within in
    let within = c.requires.place.0 in
    let none = c.is_nothing.ensures.0 c.if-is_nothing.true in
    let high : stripped_to x s (Beside kind (start_sign x s kind start)) begin start ≤ length s = omega arith in
    let same : data_tokens x s left from ≡ data_tokens x s Nothing start = elim (data_next x s c.requires.usable left from start kind text c.requires.start e high) [
      | inl empty ↦ empty.1
      | inr some ↦ absurd (let long = some.0 in omega arith)
    ] in
    goes_on_at_once s c.args.tokens.now.items (data_tokens x s left from) (data_tokens x s Nothing start) from start c.args.stretch.now same
    c.requires.begins c.requires.start.ahead

pub returns : goal.returns
returns c =
    let x = c.args.syntax.now in
    let s = c.args.source.now in
    let kind = c.args.start.kind in
    let from = c.args.from in
    let start = c.args.start.place in
    let left = c.args.left in
    let text = c.data_between-begin.result.0.now in
    let begin = stripped_from x s left from start in
    let signs = c.requires.sign in
    let stop = stripped_to x s (Beside kind (start_sign x s kind start)) begin start in
    let e : text ≡ stretch s begin stop = subst (λ g. text ≡ stretch s begin (stripped_to x s (Beside kind g) begin start)) signs c.data_between-begin.ensures.text in
    let bound : stop ≤ start = subst (λ g. stripped_to x s (Beside kind g) begin start ≤ start) signs c.data_between-begin.ensures.within in
    let within = c.requires.place.0 in
    let high : stop ≤ length s = omega arith in
    let at = c.data_between-begin.ensures.begin in
    let first = c.data_between-begin.result.1 in
    elim (data_next x s c.requires.usable left from start kind text c.requires.start e high) [
      | inl empty ↦ absurd (false≢true (sym c.if-is_nothing.false ∙ c.is_nothing.ensures.1 empty.0))
      | inr some ↦
          let last = some.2 in
          holds_up_to s c.args.tokens.now.items c.hold_token.new.tokens.items (data_tokens x s left from) (data_tokens x s Nothing start)
          (template_data text) first (first + length text) start c.hold_token.new.stretch c.hold_token.result
          (some.1 ∙ ap (λ b. placed (template_data text) b (b + length text) ∷ data_tokens x s Nothing start) (sym at))
          c.hold_token.ensures.held c.hold_token.ensures.begins (omega arith)
    ]
