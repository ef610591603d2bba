-- What was taken before the last call, and a beginning of what was left, is a beginning of the text.
use Rattle.std.proofs.Common.{◌++◌, take, sym, ap, subst, ◌∙◌, arith, rules}
use Rattle.std.proofs.KnownBytes.{Appends-trans}
use Rattle.std.proofs.lemmas.Bool.Decides.{nat_tests}
use Rattle.template_machine_surroundings.specs.Writes.{AppendsBeginning}
use Rattle.template_machine_surroundings.proofs.Beginnings.{beginning_of_rest, rest-moved}
use Rattle.template_machine_surroundings.proofs.output.write_bytes.Goals as goal

pub returns-in_err-count-clause-beginning : goal.returns-in_err-count-clause-beginning
returns-in_err-count-clause-beginning g c =
    let before = c.loop-rest.invariant in
    let begun : AppendsBeginning (g.S.Sink.taken c.args.sink.now) (g.S.Sink.taken c.put.new.self) c.args.bytes.now =
    beginning_of_rest _ _ _ _ before.0 c.loop-rest.rest.now before.1 before.2 c.in_err-count.ensures.beginning in
    search (rules, begun)

pub returns-then-count-eq0-clause-beginning : goal.returns-then-count-eq0-clause-beginning
returns-then-count-eq0-clause-beginning g c =
    let before = c.loop-rest.invariant in
    beginning_of_rest _ _ _ _ before.0 c.loop-rest.rest.now before.1 before.2 c.in_ok-count.ensures.beginning

pub loop-rest-preserved : goal.loop-rest-preserved
loop-rest-preserved g c =
    let before = c.loop-rest.invariant in
    let piece = take c.in_ok-count.count c.loop-rest.rest.now in
    let left = c.rest_after-rest.ensures in (
      before.0 ++ piece,
      rest-moved _ before.0 c.loop-rest.rest.now c.in_ok-count.count before.1 ∙ ap (λ l. (before.0 ++ piece) ++ l) (sym left),
      Appends-trans _ _ _ before.0 piece before.2 c.in_ok-count.ensures.bytes,
      subst g.S.Sink.can_take (sym left) c.in_ok-count.ensures.rest,
      grind (arith, nat_tests, c.in_ok-count.ensures.counted),
    )
