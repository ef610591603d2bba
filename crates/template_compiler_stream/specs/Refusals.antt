-- What a reading in Rust answers beside the reader.
use Rattle.std.specs.Prelude.{◌≡◌, Err}
use Rattle.template_compiler_tokens.specs.Token.{TokenFault, bad_syntax, bad_escape, float_literal}
use Rattle.template_compiler_tokens.specs.Steps.{Read}
use Rattle.template_compiler_stream.specs.declared.refusal.Fault.{Fault}
use Rattle.template_compiler_stream.specs.declared.refusal.Fault.TheVariants as faults
use Rattle.template_compiler_stream.specs.declared.refusal.Refusal.{Refusal}
use Rattle.template_compiler_stream.specs.declared.refusal.Refusal.TheVariants as refusals

abbrev pub fault_of : Fault → TokenFault
fault_of faults.Syntax = bad_syntax
fault_of faults.Escape = bad_escape
fault_of faults.Float = float_literal

-- no memory, or the reader's fault
abbrev pub Refused : {A : Type 0} → Read A → Refusal → Type 0
Refused r (refusals.Token f) = r ≡ Err (fault_of f)
Refused r refusals.OutOfMemory = Unit {0}
