use Rattle.std.proofs.Common.{◌≡◌, take, None}
use Rattle.std.specs.Option.{option_copied}
use Rattle.template_program_parts.specs.Context.{fault_of_json}
use Rattle.template_program_parts.specs.Entries.{SayContext}
use Rattle.template_values_json.specs.Entries.{ArePlain}
use Rattle.template_program_parts.proofs.contexts.context_entries.Given as goal

-- the entries say what the context has after the definitions so far
abbrev pub invariant-loop-name : goal.invariant-loop-name
invariant-loop-name l = SayContext (option_copied l.json) (take l.name-index l.definitions) l.entries.items × ArePlain l.entries.items × (fault_of_json (option_copied l.json) ≡ None)
