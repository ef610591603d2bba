use Rattle.std.proofs.Common.{refl}
use Rattle.template_compiler_placed_tokens.proofs.EndBytes.{space_goes_on}
use Rattle.template_compiler_placed_tokens.proofs.ends.blank_end_at.Goals as goal

pub returns-then-is_space_at-clause-found : goal.returns-then-is_space_at-clause-found
returns-then-is_space_at-clause-found c = λ _.
    space_goes_on c.args.end.syntax.now c.args.bytes.now c.args.end.kind c.args.place (c.if-is_space_at.ensures.byte refl) (c.if-is_space_at.ensures.within refl)
