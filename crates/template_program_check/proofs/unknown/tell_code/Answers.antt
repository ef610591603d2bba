use Rattle.std.proofs.Common.{arith, string_bytes}
use Rattle.std.specs.BTreeSet.{contains_text}
use Rattle.template_compiler_code.specs.Listing.{code_in}
use Rattle.template_program_check.proofs.Walking.{code_next, code_none}
use Rattle.template_program_check.proofs.unknown.tell_code.Goals as goal

pub loop-index-preserved : goal.loop-index-preserved
loop-index-preserved c = λ after rest.
    c.loop-index.invariant after
    (code_next (contains_text c.args.stored.now) (code_in c.args.code.now) c.loop-index.index (omega (arith, c.loop-index-test.true, c.len-count.ensures.len))
    (string_bytes c.loop-index.lines) (string_bytes c.tell_at.new.lines) c.in_ok-tell_at.ensures after rest)

pub returns : goal.returns
returns c =
    c.loop-index.invariant (string_bytes c.loop-index.lines)
    (code_none (contains_text c.args.stored.now) (code_in c.args.code.now) c.loop-index.index (omega (arith, c.loop-index-test.false, c.len-count.ensures.len))
    (string_bytes c.loop-index.lines))
