-- The code of a tree is bounded by its source.
use Rattle.std.proofs.Common.{get_or, arith}
use Rattle.template_compiler_walk.specs.Blocks.{blocks_in}
use Rattle.template_compiler_codegen.specs.Statements.{no_ways}
use Rattle.template_compiler_laws.specs.Bounds.{TemplatesAreBounded, BlocksAreBounded, ExpressionsAreBounded, ShortTextsFit}
use Rattle.template_compiler_laws.proofs.Expressions.{expression_bound}
use Rattle.template_compiler_laws.proofs.Statements.{template_bound}
use Rattle.template_compiler_laws.proofs.Tokens.{taken_bound}
use Rattle.template_compiler_laws.proofs.Spelled.{spelled_bound}
use Rattle.template_compiler_laws.proofs.Lengths.{expression_most, statements_most}
use Rattle.template_compiler_laws.proofs.Blocks.{blocks_within}
use Rattle.template_compiler_laws.proofs.Depth.{tree_within, blocks_stand}

pub templates_are_bounded : TemplatesAreBounded
templates_are_bounded x source tokens tree usable spelled whole =
    omega (arith, statements_most 150 tree (tree_within whole) no_ways 0, template_bound whole, taken_bound x source tokens usable spelled)

pub blocks_are_bounded : BlocksAreBounded
blocks_are_bounded x source tokens tree usable spelled whole i d less =
    let b = get_or (blocks_in tree) i d in
    omega (arith, statements_most 150 b.body (blocks_stand 150 tree (tree_within whole) i d less) no_ways 0, blocks_within 0 tree i d less, template_bound whole, taken_bound x source tokens usable spelled)

pub expressions_are_bounded : ExpressionsAreBounded
expressions_are_bounded source tokens e spelled whole =
    omega (arith, expression_most 150 e 0, expression_bound whole, spelled_bound spelled)

pub short_texts_fit : ShortTextsFit
short_texts_fit bytes short = omega arith
