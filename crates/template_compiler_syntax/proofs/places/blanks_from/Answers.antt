use Rattle.std.proofs.Common.{sym, ◌∙◌, ap, arith, ◌≡◌}
use Rattle.template_compiler_syntax.specs.Places.{blanks_from}
use Rattle.template_compiler_syntax.proofs.Searches.{blanks_none, blanks_more, blanks_end}
use Rattle.template_compiler_syntax.proofs.places.blanks_from.Goals as goal

pub loop-start-preserved : goal.loop-start-preserved
loop-start-preserved c = record {
  bound = (let before = c.loop-start.invariant.bound in omega arith);
  same = c.loop-start.invariant.same ∙ blanks_more c.args.bytes.now c.loop-start.start c.loop-start-test.true (sym c.is_blank.ensures ∙ c.if-is_blank.true);
}

pub returns-else-is_blank-clause-start : goal.returns-else-is_blank-clause-start
returns-else-is_blank-clause-start c =
    sym (c.loop-start.invariant.same ∙ blanks_end c.args.bytes.now c.loop-start.start c.loop-start-test.true (sym c.is_blank.ensures ∙ c.if-is_blank.false))

pub returns-after-loop-start-clause-start : goal.returns-after-loop-start-clause-start
returns-after-loop-start-clause-start c =
    let none : c.loop-start.start ≡ 0 = omega arith in
    sym (c.loop-start.invariant.same ∙ (ap (λ n. blanks_from c.args.bytes.now n) none ∙ (blanks_none c.args.bytes.now ∙ sym none)))
