-- What a request is served with, by its options.
use Rattle.std.specs.Prelude.{Bool, false, option_map, unwrap_or}
use Rattle.template_values_errors.specs.declared.modes.AutoEscape.TheVariants as fixed
use Rattle.template_compiler_syntax.specs.Syntax.{Syntax, default_syntax}
use Rattle.template_machine_surroundings.specs.declared.escape.EscapeRule.{EscapeRule}
use Rattle.template_machine_surroundings.specs.declared.escape.EscapeRule.TheVariants.{ByName, Never, Fixed}
use Rattle.template_machine_environment_settings.specs.Extras.{Brought, nothing_brought}
use Rattle.template_program_run.specs.Brought.{brought_under}
use Rattle.template_program_run.specs.declared.options.Options.{Options}

-- what is brought to its environment; how its templates are read: under which syntax, and by which rule of escapes; whether
-- names are told as JSON; and whether the places of a fault are told
pub record Served : Type 0 where
  pub brought : Brought
  pub syntax : Syntax
  pub escapes : EscapeRule
  pub names_as_json : Bool
  pub tells_where : Bool

-- with nothing brought, under the default syntax, with escapes by name, names one a line, and faults without places
abbrev pub plainly_served : Served
plainly_served = record { brought = nothing_brought; syntax = default_syntax; escapes = ByName; names_as_json = false; tells_where = false }

-- the syntax of the options, or else the default one
abbrev pub syntax_under : Options → Syntax
syntax_under options = unwrap_or (option_map (λ syntax. syntax.now) options.syntax) default_syntax

-- the rule that gives no escape fixes none
abbrev pub rule_under : EscapeRule → EscapeRule
rule_under ByName = ByName
rule_under Never = Fixed fixed.None
rule_under (Fixed escape) = Fixed escape

abbrev pub served_under : Options → Served
served_under options = record {
  brought = brought_under options;
  syntax = syntax_under options;
  escapes = rule_under options.escapes;
  names_as_json = options.names_as_json;
  tells_where = options.tells_where;
}
