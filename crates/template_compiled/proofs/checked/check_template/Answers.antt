use Rattle.std.proofs.Common.{List, sym, subst}
use Rattle.template_compiler_code.specs.Code.{Code}
use Rattle.template_compiler_code_shapes.specs.Streams.{IsGood}
use Rattle.template_compiler_code_shapes.specs.declared.StreamKind.TheVariants.{Template}
use Rattle.template_compiled.specs.Sources.{tree_in}
use Rattle.template_compiled.proofs.Good.{blocks_good, tree_is_good}
use Rattle.template_compiled.proofs.checked.check_template.Goals as goal

pub accepted-requires : goal.accepted-requires
accepted-requires c =
    let source = c.args.template.source in
    let P : List Code → Type 0 = λ code. IsGood Template code in
    subst P (sym c.into_streams-instructions.ensures.code)
    (tree_is_good c.templates_are_accepted.ensures (tree_in source) (c.trees_run.ensures source))

pub check_blocks-requires : goal.check_blocks-requires
check_blocks-requires c =
    let source = c.args.template.source in
    blocks_good c.templates_are_accepted.ensures c.into_streams-instructions.result.1.items (tree_in source) (c.trees_run.ensures source)
    c.into_streams-instructions.ensures.blocks
