use Rattle.std.proofs.Common.{◌*◌, min, ap, ◌∙◌}
use Rattle.std.specs.List.{sum_by}
use Rattle.template_compiler_code.specs.Texts.{raw_length}
use Rattle.template_compiled.proofs.compiled.CompiledTemplate.buffer_size_hint.Goals as goal

pub returns : goal.returns
returns c = c.buffer_size_hint.ensures ∙ ap (λ code. min (2 * sum_by raw_length code) 18446744073709551615) c.instructions.ensures.code
