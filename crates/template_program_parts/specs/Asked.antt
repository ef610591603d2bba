-- The context that a command asks for.
use Rattle.std.specs.Prelude.{◌≡◌, ℕ, List, Option, None}
use Rattle.template_values_errors.specs.declared.ErrorKind.{ErrorKind}
use Rattle.template_values_model.specs.Val.{Val, undefined}
use Rattle.template_values_json.specs.Json.{IsRefusal}
use Rattle.template_program_parts.specs.Context.{fault_of_json, IsContextOf}
use Rattle.template_program_parts.specs.declared.command.Command.{Command}
use Rattle.template_program_parts.specs.declared.command.Command.TheVariants as asked

-- the JSON is refused; it is read for a render alone
abbrev pub IsRefusedContext : Command → Option (List ℕ) → List ErrorKind → Type 0
IsRefusedContext asked.Render json kinds = IsRefusal (fault_of_json json) kinds
IsRefusedContext asked.Names json kinds = ⊥

-- the JSON is not refused, and a render has this context; names are told without one
abbrev pub HasContext : Command → Option (List ℕ) → List (List ℕ × List ℕ) → Val → Type 0
HasContext asked.Render json definitions context = (fault_of_json json ≡ None) × IsContextOf json definitions context
HasContext asked.Names json definitions context = context ≡ undefined
