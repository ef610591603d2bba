use Rattle.std.proofs.Common.{◌≡◌, ◌∙◌, ap, List, take}
use Rattle.std.proofs.lemmas.List.{take_all}
use Rattle.template_values_core.specs.declared.value.Entry.{Entry}
use Rattle.template_values_named.proofs.Named.{is_named, named_found}
use Rattle.template_values_named.proofs.kwargs.names_of.Goals as goal

-- the loop has gone over all entries
pub returns-clause-names : goal.returns-clause-names
returns-clause-names c = λ q.
    let all : take c.loop-entry.entry-index c.args.entries.now ≡ c.args.entries.now =
    take_all c.loop-entry.entry-index c.args.entries.now c.loop-entry-test.false in
    c.loop-entry.invariant q ∙ ap (λ (es : List Entry). is_named q es) all ∙ named_found q c.args.entries.now
