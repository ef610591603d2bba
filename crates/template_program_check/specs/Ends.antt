-- How a check ends, by what it finds.
use Rattle.std.specs.Prelude.{◌≡◌, ℕ, ◌⊎◌, Bool, true, false, List, [], ◌∷◌, ◌++◌, Option, Result, OnOk, option_map, unwrap_or}
use Rattle.std.specs.Borrow.{Bor}
use Rattle.std.specs.declared.io.Error.{Error}
use Rattle.template_values_errors.specs.declared.ErrorKind.TheVariants.{OutOfMemory}
use Rattle.template_compiled.specs.Compiled.{Compiled}
use Rattle.template_compiled.specs.Sources.{Source}
use Rattle.template_compiler_syntax.specs.Syntax.{Syntax, default_syntax}
use Rattle.template_machine_surroundings.specs.declared.escape.EscapeRule.TheVariants.{ByName}
use Rattle.template_program_output.specs.Lines.{error_line}
use Rattle.template_program_output.specs.Shown.{IsFlushed, Puts, Shown, Writes}
use Rattle.template_program_parts.specs.Flushes.{flushed}
use Rattle.template_program_parts.specs.Status.{IsStatusOf}
use Rattle.template_program_parts.specs.declared.outcome.Outcome.{Outcome}
use Rattle.template_program_parts.specs.declared.outcome.Outcome.TheVariants.{Done, Render, Context, Template}
use Rattle.template_program_check.specs.Checked.{Checks}
use Rattle.template_program_check.specs.Unknown.{TellsUnknown}

-- the syntax that is given, or else the default one
abbrev pub given_syntax : Option (Bor Syntax) → Syntax
given_syntax given = unwrap_or (option_map (λ syntax. syntax.now) given) default_syntax

-- a text as it is read under a syntax
abbrev pub read_under : Syntax → List ℕ → Source
read_under syntax text = record { text = text; syntax = syntax; escapes = ByName }

-- the names that nothing has are told with builtins alone
abbrev pub TellsIfAsked : Bool → List Compiled → List ℕ → Type 0
TellsIfAsked true accepted lines = TellsUnknown accepted lines
TellsIfAsked false accepted lines = lines ≡ []

-- the lines of the templates that are refused, and behind them those of the names in the others that nothing has
abbrev pub Finds : Syntax → Bool → List (List ℕ × List ℕ) → List ℕ → Type 0
Finds syntax builtins templates lines = (refusals : List ℕ) × ((unknown : List ℕ) × ((accepted : List Compiled)
    × Checks (read_under syntax) templates refusals accepted × TellsIfAsked builtins accepted unknown × (lines ≡ refusals ++ unknown)))

-- 5 where there is a line
abbrev pub check_status : List ℕ → ℕ
check_status [] = 0
check_status (byte ∷ bytes) = 5

-- the status, and the fault that is told where the lines could not be written
abbrev pub TellsEnd : Outcome → List ℕ → Shown → Shown → ℕ → Type 0
TellsEnd Done lines fault fault_after status = (status ≡ check_status lines) × (fault_after ≡ fault)
TellsEnd (Render kinds) lines fault fault_after status = IsStatusOf (Render kinds) status × Puts fault fault_after (error_line kinds)
TellsEnd (Context kinds) lines fault fault_after status = IsStatusOf (Context kinds) status × Puts fault fault_after (error_line kinds)
TellsEnd (Template kinds) lines fault fault_after status = IsStatusOf (Template kinds) status × Puts fault fault_after (error_line kinds)

-- the lines are written and flushed, or a beginning of them is where the output fails
abbrev pub TellsLines : List ℕ → Shown → Shown → Shown → Shown → ℕ → Type 0
TellsLines lines out out_after fault fault_after status = (written : Result (Unit {0}) Error) × Writes out out_after lines written
    × OnOk written (IsFlushed out_after.answers) × TellsEnd (flushed written Done) lines fault fault_after status

-- What is found is told; or nothing is, for want of memory.
abbrev pub EndsCheck : Syntax → Bool → List (List ℕ × List ℕ) → Shown → Shown → Shown → Shown → ℕ → Type 0
EndsCheck syntax builtins templates out out_after fault fault_after status =
    ((lines : List ℕ) × Finds syntax builtins templates lines × TellsLines lines out out_after fault fault_after status)
    ⊎ ((status ≡ 6) × (out_after ≡ out) × Puts fault fault_after (error_line (OutOfMemory ∷ [])))
