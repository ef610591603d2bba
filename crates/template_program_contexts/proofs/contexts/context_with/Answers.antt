use Rattle.std.proofs.Common.{inl}
use Rattle.std.proofs.lemmas.Result.{MatchResult-weaker}
use Rattle.template_values_json.proofs.Made.{only_memory}
use Rattle.template_program_parts.specs.Context.{text_pairs}
use Rattle.template_program_contexts.proofs.Made.{made_context}
use Rattle.template_program_contexts.proofs.contexts.context_with.Goals as goal

pub returns-clause-context : goal.returns-clause-context
returns-clause-context c =
    let entries = c.in_ok-all_entries in
    made_context c.args.floats c.args.documents.now (text_pairs c.args.definitions.now) (text_pairs c.args.values.now) entries.field-0.items c.from_map.result
    entries.ensures.says entries.ensures.plain c.from_map.ensures.made c.from_map.ensures.last

pub returns-clause-refused : goal.returns-clause-refused
returns-clause-refused c =
    let entries = c.in_ok-all_entries in
    MatchResult-weaker c.from_map.result (only_memory entries.field-0.items c.from_map.result entries.ensures.plain c.from_map.ensures.refused)
    (λ v made. tt)
    (λ kinds memory. inl memory)
