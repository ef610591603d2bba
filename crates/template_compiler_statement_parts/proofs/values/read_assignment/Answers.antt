use Rattle.std.proofs.Common.{◌∙◌, Ok, ap, sym}
use Rattle.template_compiler_grammar.specs.Views.{placed_assignments_in}
use Rattle.template_compiler_grammar.proofs.Pushes.{placed_assignments_push}
use Rattle.template_compiler_statement_parts.proofs.Assigned.{assignment_is, put_into}
use Rattle.template_compiler_statement_parts.proofs.values.read_assignment.Goals as goal

pub returns-clause-parsed : goal.returns-clause-parsed
returns-clause-parsed g c =
    let value = rw (c.in_ok-expect_assign.ensures.spans ∙ c.in_ok-target.ensures.spans) at c.in_ok-value.ensures.parsed in
    put_into c.put.result c.put.ensures.put c.put.ensures.refused (λ items.
    assignment_is c.args.tokens.now.spans c.args.left (placed_assignments_in c.args.pairs.now.items) _ _ _ _ _ _ c.in_ok-target.ensures.parsed
    c.in_ok-expect_assign.ensures.parsed value
    ∙ ap (λ gs. Ok (gs, c.read_expression.new.tokens.left)) (sym (ap placed_assignments_in items ∙ placed_assignments_push _ _)))
