-- The kinds of refusals.
use Rattle.std.specs.Prelude.{◌≡◌, Option, None, Some}
use Rattle.template_values_errors.specs.declared.ErrorKind.{ErrorKind}
use Rattle.template_values_errors.specs.declared.ErrorKind.TheVariants.{OutOfMemory}
use Rattle.template_compiler_tokens.specs.Token.{TokenFault}
use Rattle.template_compiler_tokens.specs.Left.{kind_of}
use Rattle.template_compiler_stream.specs.declared.refusal.Fault.{Fault}
use Rattle.template_compiler_stream.specs.declared.refusal.Refusal.{Refusal}
use Rattle.template_compiler_stream.specs.declared.refusal.Refusal.TheVariants as refusals
use Rattle.template_compiler_stream.specs.Refusals.{fault_of}

-- the kind tells the fault, or tells none
abbrev pub IsFaultOf : ErrorKind → Option Fault → Type 0
IsFaultOf kind (Some f) = kind ≡ kind_of (fault_of f)
IsFaultOf kind None = (f : TokenFault) → kind ≡ kind_of f → ⊥

abbrev pub refused_kind : Refusal → ErrorKind
refused_kind (refusals.Token f) = kind_of (fault_of f)
refused_kind refusals.OutOfMemory = OutOfMemory
