use Rattle.std.proofs.Common.{refl, sym, ◌∙◌}
use Rattle.template_compiler_stream.proofs.Signs.{other_sign}
use Rattle.template_compiler_stream.proofs.stream.TokenStream.skip.Goals as goal

pub returns-else-is-clause-passed : goal.returns-else-is-clause-passed
returns-else-is-clause-passed c =
    (refl, other_sign c.args.sign c.in-Some.next _ c.in-Some.ensures (sym c.is.ensures ∙ c.if-is.false))
