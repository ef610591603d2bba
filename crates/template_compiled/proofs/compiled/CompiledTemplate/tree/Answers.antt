use Rattle.std.proofs.Common.{rules, ◌≡◌}
use Rattle.template_compiled.specs.Compiled.{IsFaithful}
use Rattle.template_compiled.proofs.Accepting.{read_wants, read_whole}
use Rattle.template_compiled.proofs.compiled.CompiledTemplate.tree.Goals as goal

pub returns-clause-tree : goal.returns-clause-tree
returns-clause-tree c =
    let is : IsFaithful c.args.self.now = search rules in
    let shared : c.in_ok-clone.field-0 ≡ c.args.self.now.source.syntax = search rules in
    read_whole c.parse.result c.args.self.now _ _ shared c.source.ensures is c.parse.ensures.found

pub returns-clause-refused : goal.returns-clause-refused
returns-clause-refused c =
    let is : IsFaithful c.args.self.now = search rules in
    let shared : c.in_ok-clone.field-0 ≡ c.args.self.now.source.syntax = search rules in
    read_wants c.parse.result c.args.self.now _ _ shared c.source.ensures is c.parse.ensures.refused
