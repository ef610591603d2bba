use Rattle.std.proofs.Common.{length, ap, ◌∙◌}
use Rattle.template_output.proofs.Innermost.{caught_on, kept_on}
use Rattle.template_output.proofs.output.Output.write_str.Goals as goal

pub returns-clause-caught : goal.returns-clause-caught
returns-clause-caught g c =
    caught_on c.write-2.result c.args.text.now c.args.self.now.captures.items c.last_place-last.result c.index_mut.result.now c.write-2.new.self
    (c.last_place-last.ensures ∙ ap length c.as_slice.ensures.value) c.index_mut.ensures.value c.write-2.ensures.written

pub returns-clause-unchanged : goal.returns-clause-unchanged
returns-clause-unchanged g c =
    kept_on c.write-2.result c.args.self.now.captures.items c.last_place-last.result c.index_mut.result.now c.write-2.new.self
    (c.last_place-last.ensures ∙ ap length c.as_slice.ensures.value) c.index_mut.ensures.value c.write-2.ensures.unchanged
