-- The last capture is another.
use Rattle.std.proofs.Common.{length, ap, ◌∙◌}
use Rattle.std.specs.Prelude.{string_bytes}
use Rattle.template_machine_meaning.specs.World.{keeps}
use Rattle.template_machine_state.proofs.Worlds.{capturing}
use Rattle.template_machine_state.proofs.Innermost.{last_changed}
use Rattle.template_machine_state.proofs.state.State.put_captured.Goals as goal

pub returns : goal.returns
returns c =
    let i = c.self.inside in
    rw (← c.self.view_is)
    (ap (capturing i)
    (last_changed (λ d. keeps (string_bytes c.args.text)) i.captures.items c.last_place-last.result c.index_mut.result.now c.of.result
    (c.last_place-last.ensures ∙ ap length c.as_slice.ensures.value) c.index_mut.ensures.value c.of.ensures))
