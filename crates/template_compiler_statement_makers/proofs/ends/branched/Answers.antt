use Rattle.std.proofs.Common.{◌∙◌}
use Rattle.template_compiler_statement_makers.proofs.Branches.{branch_put}
use Rattle.template_compiler_statement_makers.proofs.ends.branched.Goals as goal

pub loop-branch-preserved : goal.loop-branch-preserved
loop-branch-preserved c =
    branch_put _ _ _ _ _ _ _ c.args.whole c.in-Some.ensures.items (rw c.deref.ensures at c.until-span.ensures) c.otherwise.ensures c.in_ok-body.ensures
    ∙ c.loop-branch.invariant
