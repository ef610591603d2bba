use Rattle.std.proofs.Common.{inl, option_copied}
use Rattle.std.proofs.lemmas.Result.{MatchResult-weaker}
use Rattle.template_program_parts.proofs.Made.{made_context}
use Rattle.template_values_json.proofs.Made.{only_memory}
use Rattle.template_program_parts.proofs.contexts.read_context.Goals as goal

pub returns-clause-context : goal.returns-clause-context
returns-clause-context c =
    let entries = c.in_ok-context_entries in
    made_context (option_copied c.args.json) c.args.definitions.now entries.field-0.items c.from_map.result entries.ensures.says entries.ensures.plain c.from_map.ensures.made c.from_map.ensures.last

pub returns-clause-refused : goal.returns-clause-refused
returns-clause-refused c =
    let entries = c.in_ok-context_entries in
    MatchResult-weaker c.from_map.result (only_memory entries.field-0.items c.from_map.result entries.ensures.plain c.from_map.ensures.refused)
    (λ v made. tt)
    (λ kinds memory. inl memory)
