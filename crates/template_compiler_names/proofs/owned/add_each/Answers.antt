use Rattle.std.proofs.Common.{◌||◌, arith}
use Rattle.std.specs.BTreeSet.{contains_text}
use Rattle.template_compiler_names.specs.Among.{is_among}
use Rattle.template_compiler_names.proofs.Sets.{one_added}
use Rattle.template_compiler_names.proofs.owned.add_each.Goals as goal

pub loop-name-preserved : goal.loop-name-preserved
loop-name-preserved c = λ q.
    one_added c.args.added.now c.loop-name.name-index _ (contains_text c.loop-name.names q) (contains_text c.add_name.new.names q)
    (contains_text c.args.names.now q || is_among c.args.added.now q) q (omega arith) (c.in_ok-add_name.ensures.added q) (c.loop-name.invariant q)
