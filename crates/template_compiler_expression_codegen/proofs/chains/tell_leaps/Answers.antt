use Rattle.std.proofs.Common.{◌≡◌, ◌∷◌, [], ◌++◌, length, ap, ◌∙◌}
use Rattle.std.proofs.lemmas.List.{length-set}
use Rattle.template_compiler_code.specs.Code.{jump_if_false_or_pop}
use Rattle.template_compiler_code.specs.Listing.{code_in}
use Rattle.template_compiler_emission.proofs.Putting.{same_then}
use Rattle.template_compiler_expression_codegen.proofs.Linked.{one_leapt}
use Rattle.template_compiler_expression_codegen.proofs.chains.tell_leaps.Goals as goal

pub loop-place-preserved : goal.loop-place-preserved
loop-place-preserved c =
    let now = code_in c.loop-place.code in
    let place = c.in-Some.place in
    let split : c.loop-place.left.items ≡ c.pop.new.self.items ++ place ∷ [] = c.in-Some.ensures.items in
    record {
      told = one_leapt (length (code_in c.args.code.now)) place c.loop-place.left.items c.pop.new.self.items now (code_in c.land.new.code)
          split c.loop-place.invariant.long c.land.ensures.landed ∙ c.loop-place.invariant.told;
      long = ap length c.land.ensures.landed ∙ length-set now place (jump_if_false_or_pop (length now)) ∙ c.loop-place.invariant.long;
      same = same_then c.loop-place.invariant.same c.land.ensures.same;
    }
