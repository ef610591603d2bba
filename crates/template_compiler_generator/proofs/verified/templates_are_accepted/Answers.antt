use Rattle.std.proofs.Common.{List, sym, subst}
use Rattle.template_compiler_code.specs.Code.{Code}
use Rattle.template_compiler_code_shapes.specs.declared.StreamKind.TheVariants.{Template}
use Rattle.template_compiler_code_shapes.specs.Streams.{IsGood}
use Rattle.template_compiler_codegen.specs.Statements.{no_ways, statements_code}
use Rattle.template_compiler_generator.specs.Numbers.{numbered_in}
use Rattle.template_compiler_generator.proofs.Accepted.{generated_whole}
use Rattle.template_compiler_generator.proofs.Numbering.{certified_numbered}
use Rattle.template_compiler_generator.proofs.verified.templates_are_accepted.Goals as goal

pub returns : goal.returns
returns c tree runs before after none g =
    let table = c.templates_are_certified.ensures tree runs in
    let code = statements_code no_ways tree 0 in
    let good : IsGood Template (numbered_in code) =
    c.certified_is_good.ensures Template (numbered_in code) table.0 (certified_numbered Template code table.0 table.1) in
    let P : List Code → Type 0 = λ code. IsGood Template (numbered_in code) in
    subst P (sym (generated_whole (statements_code no_ways tree) before after none g)) good
