-- Modules, of the names that they have.
use Rattle.std.specs.Prelude.{[], List, Result, unwrap_or}
use Rattle.template_values_model.specs.Fault.{Fault}
use Rattle.template_values_model.specs.Val as values
use Rattle.template_values_model.specs.Val.{Val}
use Rattle.template_values_core.specs.Answers.{text_in}
use Rattle.template_values_core.specs.Maps.{collected}
use Rattle.template_compiler_walk.specs.Containers.{within_depth}

-- names with their values, and the text that was written; one that was dropped is empty
abbrev pub module_with : List (Val × Val) → Val → Result Val Fault
module_with names written = within_depth (values.«module» (collected names) (unwrap_or (text_in written) []))
