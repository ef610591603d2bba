-- The line that is told of a value.
use Rattle.std.specs.Prelude.{◌≡◌, ℕ, Bool, true, false, List, [], ◌∷◌, ◌++◌, ◌⊎◌, Result, Ok, Err, String, string_bytes}
use Rattle.std.specs.declared.alloc.Global.{Global}
use Rattle.serde_json.specs.Written.{compact_text}
use Rattle.template_values_errors.specs.declared.ErrorKind.{ErrorKind}
use Rattle.template_values_errors.specs.declared.modes.UndefinedBehavior.{UndefinedBehavior}
use Rattle.template_values_errors.specs.Memory.{NoMemory}
use Rattle.template_values_model.specs.Fault.{Fault}
use Rattle.template_values_model.specs.Val.{Val}
use Rattle.template_values_forms.specs.Answers.{mapped}
use Rattle.template_values_forms.specs.Json.{json_data}
use Rattle.template_values_forms.specs.Known.{nothing_known}
use Rattle.template_values_forms.specs.Printed.{printed}
use Rattle.template_machine_meaning.specs.Replies.{guarded, kinded}
use Rattle.template_machine_meaning.specs.Undefined.{forbids_printing}

-- the text of a value: its compact JSON, or what it prints
abbrev pub value_text : Bool → Val → Result (List ℕ) Fault
value_text true v = mapped compact_text (json_data nothing_known v)
value_text false v = printed nothing_known v

-- a text with a newline behind it
abbrev pub line_of : List ℕ → List ℕ
line_of text = text ++ 10 ∷ []

-- the line of a value, where it has a text; an undefined one that may not be printed is refused before
abbrev pub value_line : Bool → UndefinedBehavior → Val → Result (List ℕ) ErrorKind
value_line as_json mode v = guarded (forbids_printing mode v) (kinded (mapped line_of (value_text as_json v)))

-- the line is made; or it is refused with that kind alone, or for want of memory
abbrev pub Makes : Result (List ℕ) ErrorKind → Result (String Global) (List ErrorKind) → Type 0
Makes (Ok line) (Ok made) = string_bytes made ≡ line
Makes (Ok line) (Err kinds) = NoMemory kinds
Makes (Err kind) (Ok made) = ⊥
Makes (Err kind) (Err kinds) = (kinds ≡ kind ∷ []) ⊎ NoMemory kinds
