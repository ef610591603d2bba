use Rattle.std.proofs.Common.{sym, ap, ◌∙◌, option_and_then}
use Rattle.std.proofs.lemmas.Result.{IfOk-weaker}
use Rattle.toml.specs.Data.{table}
use Rattle.template_values_model.specs.Lookup.{value_at}
use Rattle.template_program_contexts.specs.Toml.{toml_value}
use Rattle.template_program_contexts.proofs.EachPart.{toml_said}
use Rattle.template_program_contexts.proofs.toml_tables.toml_entries.Goals as goal

pub returns-clause-says : goal.returns-clause-says
returns-clause-says c =
    IfOk-weaker c.entries_from.result _ _
    (λ es are name. toml_said _ es.items name are
    ∙ sym (ap (λ inner. option_and_then (λ ms. value_at name (toml_value (table ms))) inner) c.in_ok-read_table.ensures.is))
    c.entries_from.ensures.are
