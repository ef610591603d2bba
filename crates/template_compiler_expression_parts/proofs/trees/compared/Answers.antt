use Rattle.std.proofs.Common.{rules, ◌<◌, length}
use Rattle.template_compiler_grammar.specs.Views.{node_of}
use Rattle.template_compiler_expression_parts.proofs.Pushes.{compared_held}
use Rattle.template_compiler_expression_parts.proofs.trees.compared.Goals as goal

pub returns-then-len-gt1 : goal.returns-then-len-gt1
returns-then-len-gt1 c =
    let several : 1 < length c.args.links.items = search rules in
    compared_held (node_of c.args.value) c.args.links.items c.args.span c.chain.result several c.chain.ensures.tree c.chain.ensures.places
