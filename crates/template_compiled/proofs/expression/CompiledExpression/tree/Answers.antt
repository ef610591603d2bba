use Rattle.std.proofs.Common.{◌≡◌, rules}
use Rattle.template_compiled.specs.Expressions.{IsFaithfulExpression}
use Rattle.template_compiled.proofs.Alone.{read_again, refused_again}
use Rattle.template_compiled.proofs.expression.CompiledExpression.tree.Goals as goal

pub returns-clause-tree : goal.returns-clause-tree
returns-clause-tree c =
    let same : c.source.result.now ≡ c.args.self.now = search rules in
    read_again c.parse_expr.result c.args.self.now _ same c.parse_expr.ensures.found

pub returns-clause-refused : goal.returns-clause-refused
returns-clause-refused c =
    let is : IsFaithfulExpression c.args.self.now = search rules in
    let same : c.source.result.now ≡ c.args.self.now = search rules in
    refused_again c.parse_expr.result c.args.self.now _ same is c.parse_expr.ensures.refused
