use Rattle.std.proofs.Common.{inl, inr, sym, ap, ◌∙◌}
use Rattle.template_values_json.specs.Json.{data_in}
use Rattle.template_values_json.proofs.Documents.{data_in_text, no_data_in}
use Rattle.template_program_contexts.proofs.whole.read_json.Goals as goal

pub returns-in-Ok-clause-is : goal.returns-in-Ok-clause-is
returns-in-Ok-clause-is c = sym (ap data_in c.as_bytes.ensures.value) ∙ data_in_text _ _ c.in-Ok.ensures.ok.0 c.in-Ok.ensures.ok.1

pub returns-in-Err-clause-refused : goal.returns-in-Err-clause-refused
returns-in-Err-clause-refused c = elim c.refusal_of.ensures [
  | inl memory ↦ inl memory.1
  | inr fault ↦ inr (sym (ap data_in c.as_bytes.ensures.value) ∙ no_data_in c.as_bytes.result.now (c.in-Err.ensures.err fault.0), fault.1)
]
