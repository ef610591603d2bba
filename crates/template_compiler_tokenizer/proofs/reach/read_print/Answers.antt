use Rattle.std.proofs.Common.{◌∷◌, sym, ◌∙◌, ap, arith, subst}
use Rattle.std.specs.Str.{IsCharBoundary}
use Rattle.template_compiler_syntax.specs.declared.StartMarker.TheVariants.{Variable}
use Rattle.template_compiler_syntax.specs.declared.edges.Edge.TheVariants.{Nothing}
use Rattle.template_compiler_syntax.proofs.Some.{set_long}
use Rattle.template_compiler_tokens.specs.Token.{variable_start}
use Rattle.template_compiler_placed_tokens.specs.Left.{placed, data_tokens, inside_tokens}
use Rattle.template_compiler_tokenizer.proofs.Reading.{goes_on_behind, none_held}
use Rattle.template_compiler_placed_tokens.proofs.Steps.{at_print}
use Rattle.template_compiler_tokenizer.proofs.reach.read_print.Goals as goal

pub returns-in-Ok : goal.returns-in-Ok
returns-in-Ok c =
    let x = c.args.syntax.now in
    let s = c.args.source.now in
    let start = c.args.start.place in
    let inside = c.args.start.inside in
    let found = c.inside_from-inside.ensures in
    let there = found.place ∙ sym c.requires.inside in
    let set = set_long (x.variable_start) c.requires.start.here.is_set in
    let at = c.requires.inside in (
      goes_on_behind s c.args.tokens.now.items c.hold_token.new.tokens.items (data_tokens x s Nothing start) (inside_tokens x s Variable 0 inside)
          variable_start start inside inside c.hold_token.new.stretch
          (at_print x s c.requires.usable c.requires.start ∙
          ap (λ n. placed variable_start start n ∷ inside_tokens x s Variable 0 n) (sym at))
          c.in-Ok.ensures.held c.in-Ok.ensures.begins (omega arith),
      subst (λ n. IsCharBoundary s n) there found.cut,
      omega arith,
    )

pub returns-in-Err : goal.returns-in-Err
returns-in-Err c =
    none_held c.args.source.now c.args.tokens.now.items c.hold_token.new.tokens.items
    (data_tokens c.args.syntax.now c.args.source.now Nothing c.args.start.place) c.in-Err.kind c.in-Err.ensures.held.0 c.in-Err.ensures.held.1
