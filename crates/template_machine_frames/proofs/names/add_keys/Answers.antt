use Rattle.std.proofs.Common.{◌≡◌, ◌∙◌, ap, List, take}
use Rattle.std.specs.Prelude.{◌||◌}
use Rattle.std.specs.BTreeSet.{contains_text}
use Rattle.std.proofs.lemmas.List.{take_all}
use Rattle.template_values_core.specs.declared.value.Entry.{Entry}
use Rattle.template_machine_frames.proofs.Knowing.{is_key, key_found}
use Rattle.template_machine_frames.proofs.names.add_keys.Goals as goal

-- the loop has gone over all entries
pub returns-clause-added : goal.returns-clause-added
returns-clause-added c = λ q.
    let all : take c.loop-entry.entry-index c.args.entries.now ≡ c.args.entries.now =
    take_all c.loop-entry.entry-index c.args.entries.now c.loop-entry-test.false in
    let before = contains_text c.args.names.now q in
    c.loop-entry.invariant q ∙ ap (λ (es : List Entry). before || is_key q es) all ∙ ap (λ b. before || b) (key_found q c.args.entries.now)
