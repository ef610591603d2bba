use Rattle.std.proofs.Common.{◌≡◌, Some, ◌∷◌, sym, ◌∙◌, ap, arith, subst, refl}
use Rattle.std.specs.Prelude.{codes, None}
use Rattle.template_compiler_syntax.specs.declared.StartMarker.TheVariants.{Block}
use Rattle.template_compiler_syntax.specs.declared.edges.Edge.TheVariants.{Nothing}
use Rattle.template_compiler_syntax.specs.Segments.{HasInside, only}
use Rattle.template_compiler_syntax.proofs.Some.{set_long}
use Rattle.template_compiler_tokens.specs.Token.{block_start}
use Rattle.template_compiler_placed_tokens.specs.Finds.{FindsWord}
use Rattle.template_compiler_placed_tokens.specs.Left.{placed, data_tokens, inside_tokens}
use Rattle.template_compiler_tokenizer.specs.Reaches.{GoesOn}
use Rattle.template_compiler_placed_tokens.proofs.OneWord.{no_only_word}
use Rattle.template_compiler_tokenizer.proofs.Reading.{goes_on_behind, none_held}
use Rattle.template_compiler_placed_tokens.proofs.Steps.{at_block}
use Rattle.template_compiler_tokenizer.proofs.reach.read_block.Goals as goal
use Rattle.template_compiler_tokenizer.proofs.reach.read_block.Goals.{then-may_begin_with+in-Other, else-may_begin_with}

pub split_at-requires : goal.split_at-requires
split_at-requires c = (c.behind_white_space-place.ensures c.args.syntax.now).1

pub returns-in-Ok : goal.returns-in-Ok
returns-in-Ok c =
    let x = c.args.syntax.now in
    let s = c.args.source.now in
    let start = c.args.start.place in
    let inside = c.args.start.inside in
    let place = c.behind_white_space-place.result in
    let black = c.behind_white_space-place.ensures x in
    let at = c.requires.inside in
    let found = c.inside_from-inside.ensures in
    let set = set_long (x.block_start) c.requires.start.here.is_set in
    let low = black.0 in
    let left = data_tokens x s Nothing start in
    let rest = inside_tokens x s Block 0 place in
    let stretch = c.hold_token.new.stretch in
    let held = c.hold_token.new.tokens.items in
    let before = c.if-may_begin_with.tokens.items in
    let kept : before ≡ c.args.tokens.now.items = elim c.if-may_begin_with.branch [
      | then-may_begin_with+in-Other w ↦ rw w.tokens-is w.in-Other.ensures.0
      | else-may_begin_with w ↦ rw w.tokens-is refl
    ] in
    let other : FindsWord x s inside (codes "raw") None = elim c.if-may_begin_with.branch [
      | then-may_begin_with+in-Other w ↦
          λ last next h. w.in-Other.ensures.1 last next (subst (λ n. HasInside x s Block 0 n (only (codes "raw")) (Some (last, next))) at h)
      | else-may_begin_with w ↦
          no_only_word x s c.split_at.result.1.now inside place (codes "raw") c.may_begin_with.result c.split_at.ensures.back black.2 black.3
          w.if-may_begin_with.false (rw (c.as_bytes.ensures.value, c.as_bytes-2.ensures.value) at c.may_begin_with.ensures)
    ] in (
      subst (λ ts. GoesOn s ts left held rest place stretch) kept
          (goes_on_behind s before held left rest block_start start inside place stretch
          (at_block x s c.requires.usable c.requires.start
          (λ last next h. other last next (subst (λ n. HasInside x s Block 0 n (only (codes "raw")) (Some (last, next))) (sym at) h)) ∙
          (ap (λ n. placed block_start start n ∷ inside_tokens x s Block 0 n) (sym at) ∙
          ap (λ ts. placed block_start start inside ∷ ts) black.4))
          c.in-Ok.ensures.held c.in-Ok.ensures.begins low),
      black.1,
      omega arith,
    )

pub returns-in-Err : goal.returns-in-Err
returns-in-Err c =
    let before = c.if-may_begin_with.tokens.items in
    let kept : before ≡ c.args.tokens.now.items = elim c.if-may_begin_with.branch [
      | then-may_begin_with+in-Other w ↦ rw w.tokens-is w.in-Other.ensures.0
      | else-may_begin_with w ↦ rw w.tokens-is refl
    ] in
    none_held c.args.source.now c.args.tokens.now.items c.hold_token.new.tokens.items
    (data_tokens c.args.syntax.now c.args.source.now Nothing c.args.start.place) c.in-Err.kind (c.in-Err.ensures.held.0 ∙ kept) c.in-Err.ensures.held.1
