use Rattle.std.proofs.Common.{List, sym, subst}
use Rattle.template_compiler_code.specs.Code.{Code}
use Rattle.template_compiler_code_shapes.specs.declared.StreamKind.TheVariants.{Expression}
use Rattle.template_compiler_code_shapes.specs.Streams.{IsGood}
use Rattle.template_compiler_codegen.specs.Expressions.{expression_code}
use Rattle.template_compiler_generator.specs.Numbers.{numbered_in}
use Rattle.template_compiler_generator.proofs.Accepted.{generated_whole}
use Rattle.template_compiler_generator.proofs.Numbering.{certified_numbered}
use Rattle.template_compiler_generator.proofs.verified.expressions_are_accepted.Goals as goal

pub returns : goal.returns
returns c tree runs before after none g =
    let table = c.expressions_are_certified.ensures tree runs in
    let code = expression_code tree 0 in
    let good : IsGood Expression (numbered_in code) =
    c.certified_is_good.ensures Expression (numbered_in code) table.0 (certified_numbered Expression code table.0 table.1) in
    let P : List Code → Type 0 = λ code. IsGood Expression (numbered_in code) in
    subst P (sym (generated_whole (expression_code tree) before after none g)) good
