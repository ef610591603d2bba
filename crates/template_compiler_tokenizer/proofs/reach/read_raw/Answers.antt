use Rattle.std.proofs.Common.{◌+◌, ◌<◌, inl, inr, Some, length, sym, ◌∙◌, arith, subst, refl}
use Rattle.std.proofs.lemmas.Bool.{cases_lt, false≢true}
use Rattle.std.specs.Prelude.{codes}
use Rattle.template_compiler_syntax.specs.declared.StartMarker.TheVariants.{Block}
use Rattle.template_compiler_syntax.specs.declared.edges.Edge.TheVariants.{Nothing, Beside}
use Rattle.template_compiler_syntax.specs.Segments.{HasInside, only}
use Rattle.template_compiler_tokens.specs.Token.{bad_syntax, template_data}
use Rattle.template_compiler_placed_tokens.specs.Left.{data_tokens}
use Rattle.template_compiler_placed_tokens.proofs.OneWord.{raw_is_name}
use Rattle.template_compiler_tokenizer.proofs.Reading.{goes_on_at_once, goes_on_behind, none_held}
use Rattle.template_compiler_tokenizer.proofs.reach.read_raw.Goals as goal

pub only_word-requires-clause-name : goal.only_word-requires-clause-name
only_word-requires-clause-name c = raw_is_name

pub returns-then-is_nothing : goal.returns-then-is_nothing
returns-then-is_nothing c =
    let x = c.args.syntax.now in
    let s = c.args.source.now in
    let start = c.args.from.now in
    let next = c.in-Some-raw_data.raw.next in
    let holds = subst (λ n. HasInside x s Block 0 n (only (codes "raw")) (Some (c.in-Some.inner, c.in-Some.begin))) c.requires.inside c.in-Some.ensures.found in
    let found = c.in-Some-raw_data.ensures start c.requires.start holds in
    let ahead = found.ahead in (
      goes_on_at_once s c.args.tokens.now.items (data_tokens x s Nothing start) (data_tokens x s (Beside Block c.in-Some-raw_data.raw.last) next) start next
          c.args.stretch.now (found.none (c.is_nothing.ensures.0 c.if-is_nothing.true)) c.requires.begins (omega arith),
      found.next,
      ahead,
    )

pub returns-in-Ok : goal.returns-in-Ok
returns-in-Ok c =
    let x = c.args.syntax.now in
    let s = c.args.source.now in
    let start = c.args.from.now in
    let next = c.in-Some-raw_data.raw.next in
    let text = c.in-Some-raw_data.raw.text.now in
    let begin = c.in-Some-raw_data.raw.begin in
    let holds = subst (λ n. HasInside x s Block 0 n (only (codes "raw")) (Some (c.in-Some.inner, c.in-Some.begin))) c.requires.inside c.in-Some.ensures.found in
    let found = c.in-Some-raw_data.ensures start c.requires.start holds in
    let more : 0 < length text = elim (cases_lt 0 (length text)) [
      | inl more ↦ more
      | inr none ↦ absurd (false≢true (sym c.if-is_nothing.false ∙ c.is_nothing.ensures.1 (omega arith)))
    ] in (
      goes_on_behind s c.args.tokens.now.items c.hold_token.new.tokens.items (data_tokens x s Nothing start)
          (data_tokens x s (Beside Block c.in-Some-raw_data.raw.last) next) (template_data text) begin (begin + length text) next c.hold_token.new.stretch
          (found.some more) c.in-Ok.ensures.held c.in-Ok.ensures.begins (found.high more),
      found.next,
      found.ahead,
    )

pub returns-in-Err : goal.returns-in-Err
returns-in-Err c =
    none_held c.args.source.now c.args.tokens.now.items c.hold_token.new.tokens.items
    (data_tokens c.args.syntax.now c.args.source.now Nothing c.args.from.now) c.in-Err.kind c.in-Err.ensures.held.0 c.in-Err.ensures.held.1

pub returns-in-None-raw_data : goal.returns-in-None-raw_data
returns-in-None-raw_data c =
    let x = c.args.syntax.now in
    let s = c.args.source.now in
    let start = c.args.from.now in
    let holds = subst (λ n. HasInside x s Block 0 n (only (codes "raw")) (Some (c.in-Some.inner, c.in-Some.begin))) c.requires.inside c.in-Some.ensures.found in (
      data_tokens x s Nothing start,
      refl,
      inr (bad_syntax, start, start, c.in-None-raw_data.ensures start c.requires.start holds, refl),
    )

pub returns-in-None : goal.returns-in-None
returns-in-None c = (
  refl,
  λ last next h. c.in-None.ensures.found last next
      (subst (λ n. HasInside c.args.syntax.now c.args.source.now Block 0 n (only (codes "raw")) (Some (last, next))) (sym c.requires.inside) h),
)
