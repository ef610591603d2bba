use Rattle.std.proofs.Common.{◌≡◌, ◌+◌, ◌-◌, [], ◌∷◌, ◌++◌, take, ap, ◌∙◌, arith}
use Rattle.template_compiler_code.specs.Listing.{code_in}
use Rattle.template_compiler_emission.proofs.Putting.{same_then}
use Rattle.template_compiler_statement_codegen.specs.Rounds.{closed_by}
use Rattle.template_compiler_statement_codegen.specs.declared.rounds.Closing.TheVariants.{Frame}
use Rattle.template_compiler_statement_codegen.proofs.Closings.{closes_one}
use Rattle.template_compiler_statement_codegen.proofs.rounds.close_all.Goals as goal

pub loop-left-preserved : goal.loop-left-preserved
loop-left-preserved c =
    let cs = c.args.closings.now in
    let i = c.loop-left.left - 1 in
    let more : i + 1 ≡ c.loop-left.left = omega arith in
    record {
      within = omega arith;
      code = closes_one cs i Frame (code_in c.loop-left.code) (code_in c.put.new.code) (omega arith)
          (c.in_ok-put.ensures.put.code ∙ ap (λ x. code_in c.loop-left.code ++ x ∷ []) c.instruction.ensures) ∙
          ap (λ n. code_in c.loop-left.code ++ closed_by (take n cs)) more ∙ c.loop-left.invariant.code;
      same = same_then c.loop-left.invariant.same c.in_ok-put.ensures.put.same;
    }
