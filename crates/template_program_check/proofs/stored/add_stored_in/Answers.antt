use Rattle.std.proofs.Common.{◌||◌, ◌∙◌, ap, arith}
use Rattle.std.specs.BTreeSet.{contains_text}
use Rattle.template_compiler_code.specs.Listing.{code_in}
use Rattle.template_program_check.specs.Names.{is_stored_at, is_stored_in_one}
use Rattle.template_program_check.proofs.Walking.{stored_next, stored_none}
use Rattle.template_program_check.proofs.stored.add_stored_in.Goals as goal

pub loop-index-preserved : goal.loop-index-preserved
loop-index-preserved c = λ name.
    let old = contains_text c.loop-index.names name in
    stored_next (code_in c.args.code.now) c.loop-index.index (omega (arith, c.loop-index-test.true, c.len-count.ensures.len)) name
    old (contains_text c.add_stored_at.new.names name)
    (contains_text c.args.names.now name || is_stored_in_one (code_in c.args.code.now) name)
    (c.in_ok-add_stored_at.ensures name ∙ ap (λ o. old || is_stored_at o name) c.get.ensures) (c.loop-index.invariant name)

pub returns : goal.returns
returns c = λ name.
    stored_none (code_in c.args.code.now) c.loop-index.index (omega (arith, c.loop-index-test.false, c.len-count.ensures.len)) name
    (contains_text c.loop-index.names name) (contains_text c.args.names.now name || is_stored_in_one (code_in c.args.code.now) name) (c.loop-index.invariant name)
