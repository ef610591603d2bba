use Rattle.std.proofs.Common.{sym, ap, ◌∙◌}
use Rattle.json.specs.Json.{value, skip_value}
use Rattle.json.specs.Lex.{tokens}
use Rattle.template_values_json.specs.Contexts.{tree_of}
use Rattle.template_program_contexts.proofs.Follows.{all_by_next, all_of_none}
use Rattle.template_program_contexts.proofs.texts.is_json.Goals as goal

pub returns-in-Ok : goal.returns-in-Ok
unfolding tree_of
returns-in-Ok c =
    all_by_next c.is_none.result (value 127 (tokens c.args.text.now)) _ _ c.next.result _ c.is_none.ensures (sym (ap (skip_value 127) c.in_ok-reader.ensures.ok) ∙ c.in-Ok.ensures.value) c.next.ensures.value

pub returns : goal.returns
unfolding tree_of
returns c = all_of_none (value 127 (tokens c.args.text.now)) (sym (ap (skip_value 127) c.in_ok-reader.ensures.ok) ∙ c.in-Err.ensures.value)
