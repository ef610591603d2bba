-- What contracts see of an output.
use Rattle.std.specs.Prelude.{◌≡◌, ◌⊎◌, ℕ, true, false, List, [], ◌∷◌, map, reverse, Result, Ok, Err, string_bytes}
use Rattle.template_values_errors.specs.Memory.{NoMemory}
use Rattle.template_values_errors.specs.declared.ErrorKind.{ErrorKind}
use Rattle.template_compiler_code.specs.declared.instruction.CaptureMode.{CaptureMode}
use Rattle.template_compiler_code.specs.declared.instruction.CaptureMode.TheVariants as modes
use Rattle.template_machine_meaning.specs.World.{Capture, keeps, drops}
use Rattle.template_machine_meaning.specs.Captures.{capture_begun, with_text}
use Rattle.template_output.specs.declared.capture.Capture as own
use Rattle.template_output.specs.declared.capture.Capture.TheVariants.{Keeps, Drops}
use Rattle.template_output.specs.declared.output.Output.{Output}

abbrev pub capture_of : own.Capture → Capture
capture_of (Keeps text) = keeps (string_bytes text)
capture_of Drops = drops

-- a capture begins as its mode says
abbrev pub capture_begun_by : CaptureMode → Capture
capture_begun_by modes.Capture = capture_begun true
capture_begun_by modes.Discard = capture_begun false

-- the captures that are open, the innermost one first; and the sink
abbrev pub captures_in : {W : Type 0} → Output W → List Capture
captures_in o = reverse (map capture_of o.captures.items)

abbrev pub sink_in : {W : Type 0} → Output W → W
sink_in o = o.sink

-- the innermost one takes a text
abbrev pub with_written : List ℕ → List Capture → List Capture
with_written text [] = []
with_written text (c ∷ captures) = with_text text c ∷ captures

-- there is a text, or the call tells why there is none; or no memory is left
abbrev pub IsToldIn : {X : Type 0} → Result (List ℕ) ErrorKind → Result X (List ErrorKind) → Type 0
IsToldIn (Ok text) (Ok _) = Unit {0}
IsToldIn (Ok text) (Err kinds) = NoMemory kinds
IsToldIn (Err kind) (Ok _) = ⊥
IsToldIn (Err kind) (Err kinds) = (kinds ≡ kind ∷ []) ⊎ NoMemory kinds
