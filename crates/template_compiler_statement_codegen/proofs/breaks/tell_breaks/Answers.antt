use Rattle.std.proofs.Common.{◌≡◌, ◌∷◌, [], ◌++◌, length, ap, ◌∙◌}
use Rattle.std.proofs.lemmas.List.{length-set}
use Rattle.template_compiler_code.specs.Code.{jump}
use Rattle.template_compiler_code.specs.Listing.{code_in}
use Rattle.template_compiler_emission.proofs.Putting.{same_then}
use Rattle.template_compiler_statement_codegen.proofs.Leading.{one_told}
use Rattle.template_compiler_statement_codegen.proofs.breaks.tell_breaks.Goals as goal

pub loop-place-preserved : goal.loop-place-preserved
loop-place-preserved c =
    let now = code_in c.loop-place.code in
    let place = c.in-Some.place in
    let split : c.loop-place.left.items ≡ c.pop.new.self.items ++ place ∷ [] = c.in-Some.ensures.items in
    record {
      told = one_told (length (code_in c.args.code.now)) place c.loop-place.left.items c.pop.new.self.items now (code_in c.land.new.code)
          split c.loop-place.invariant.long c.land.ensures.landed ∙ c.loop-place.invariant.told;
      long = ap length c.land.ensures.landed ∙ length-set now place (jump (length now)) ∙ c.loop-place.invariant.long;
      same = same_then c.loop-place.invariant.same c.land.ensures.same;
    }
