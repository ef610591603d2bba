use Rattle.std.proofs.Common.{inl, inr}
use Rattle.template_program_contexts.proofs.EachPart.{toml_in_text, no_toml_in}
use Rattle.template_program_contexts.proofs.toml_tables.read_table.Goals as goal

pub returns-in-Ok-clause-is : goal.returns-in-Ok-clause-is
returns-in-Ok-clause-is c = toml_in_text _ _ c.in-Ok.ensures.ok.0 c.in-Ok.ensures.ok.1

pub returns-in-Err-clause-refused : goal.returns-in-Err-clause-refused
returns-in-Err-clause-refused c = elim c.refusal_of.ensures [
  | inl memory ↦ inl memory.1
  | inr fault ↦ inr (no_toml_in c.args.bytes.now (c.in-Err.ensures.refused fault.0), fault.1)
]
