use Rattle.std.proofs.Common.{◌∙◌}
use Rattle.template_compiler_tokens.specs.Signs.{symbol_of}
use Rattle.template_compiler_stream.proofs.Signs.{begins_as}
use Rattle.template_compiler_stream.proofs.stream.TokenStream.begins.Goals as goal

pub returns-in-Some : goal.returns-in-Some
returns-in-Some c = c.is.ensures ∙ begins_as (symbol_of c.args.sign) (symbol_of c.in-Some.next) _ c.in-Some.ensures
