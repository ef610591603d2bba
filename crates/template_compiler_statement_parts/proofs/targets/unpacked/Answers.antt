use Rattle.std.proofs.Common.{rules, ◌≡◌, length}
use Rattle.template_compiler_statement_parts.proofs.Lists.{unpacked_held}
use Rattle.template_compiler_statement_parts.proofs.targets.unpacked.Goals.{then-len-eq1+in_default, else-len-eq1}
use Rattle.template_compiler_statement_parts.proofs.targets.unpacked.Goals as goal

pub returns : goal.returns
returns c =
    let several : length c.args.targets.items ≡ 1 → ⊥ =
    elim c.if-len-eq1.branch [ then-len-eq1+in_default w ↦ search rules | else-len-eq1 w ↦ search rules ] in
    let same : c.if-len-eq1.targets ≡ c.args.targets =
    elim c.if-len-eq1.branch [ then-len-eq1+in_default w ↦ search rules | else-len-eq1 w ↦ search rules ] in
    unpacked_held c.args.targets.items c.args.span c.list.result several (rw same at c.list.ensures.tree) (rw same at c.list.ensures.places)
