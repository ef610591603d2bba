use Rattle.std.proofs.Common.{rules, ◌≡◌, length}
use Rattle.template_compiler_statement_parts.proofs.ValueLists.{together_held}
use Rattle.template_compiler_statement_parts.proofs.values.together.Goals.{then-len-eq1+in_default, else-len-eq1}
use Rattle.template_compiler_statement_parts.proofs.values.together.Goals as goal

pub returns : goal.returns
returns c =
    let several : length c.args.values.items ≡ 1 → ⊥ =
    elim c.if-len-eq1.branch [ then-len-eq1+in_default w ↦ search rules | else-len-eq1 w ↦ search rules ] in
    let same : c.if-len-eq1.values ≡ c.args.values =
    elim c.if-len-eq1.branch [ then-len-eq1+in_default w ↦ search rules | else-len-eq1 w ↦ search rules ] in
    together_held c.args.values.items c.args.span c.tuple.result several (rw same at c.tuple.ensures.tree) (rw same at c.tuple.ensures.places)
