-- What a state holds of what streams made.
use Rattle.std.specs.Prelude.{◌≡◌, ℕ, suc, nat_lt, Bool, true, List, Option, None, Some, option_map}
use Rattle.template_values_model.specs.Val.{Val}
use Rattle.template_compiler_process.specs.Approximants.{IsFinished}
use Rattle.template_compiler_code.specs.Code.{Code}
use Rattle.template_compiler_code.specs.Listing.{code_in}
use Rattle.template_compiler_code_shapes.specs.Checked as checked
use Rattle.template_compiler_code_shapes.specs.declared.checked.Checked.{Checked}
use Rattle.template_machine_meaning.specs.Keys.{Home, kept, Stream, home_of}
use Rattle.template_machine_renders.specs.Programs.{code_at}
use Rattle.template_machine_codes.specs.Streams.{Codes, IsSound}
use Rattle.template_compiled.specs.Compiled.{Compiled}
use Rattle.template_machine_environment.specs.Extras.{UserAnswers}
use Rattle.template_machine_environment.specs.Reading.{registry_of}
use Rattle.template_machine_environment.specs.Renderings.{rendering_in}
use Rattle.template_machine_environment.specs.Standing.{unit_of, units_of}
use Rattle.template_machine_environment.specs.States.{KeepsState, environment_in, stream_in, streams_in, template_in, world_in}
use Rattle.template_machine_environment.specs.declared.registry.Registry.{Registry}
use Rattle.template_machine_environment.specs.declared.state.State.{State}

-- a stream that is handed in is known by a number below one; templates and their blocks are known
abbrev pub is_known_home : ℕ → Home → Bool
is_known_home numbers (kept number) = nat_lt number numbers
is_known_home numbers _ = true

abbrev pub is_known : ℕ → Stream → Bool
is_known numbers stream = is_known_home numbers (home_of stream)

-- the streams of templates, of the one that is rendered, if one is, and of the one that is handed in, if one is; so many were
abbrev pub codes_at : Registry → Option Compiled → Option (ℕ × List Code) → ℕ → Codes
codes_at e root handed numbers = record {
  code = code_at (units_of e) (record { rendered = option_map unit_of root; kept = handed });
  known = is_known numbers;
}

module _ {E C M F J R : Type 0} where
  -- the macros of a state, and its loops that may be called again, are of known streams, and reached where they begin in those that
  -- are still there
  abbrev pub HoldsReached : State E C M F J R → Type 0
  HoldsReached s = IsSound (codes_at (registry_of (environment_in s)) (template_in s) None (streams_in s)) (world_in s)

  -- the state is one that a render of its template left
  pub record IsRendered (says : UserAnswers C M F J) (s : State E C M F J R) : Type 0 where
    pub template : Compiled
    pub is : template_in s ≡ Some template
    pub id : ℕ
    pub bound : ℕ
    pub context : Val
    pub finished : IsFinished (rendering_in says (environment_in s) id template bound context).end
    pub left : world_in s ≡ (rendering_in says (environment_in s) id template bound context).after

  -- so they are with a stream that is handed in next
  abbrev pub codes_with : State E C M F J R → Checked → Codes
  codes_with s c =
      codes_at (registry_of (environment_in s)) (template_in s) (Some (streams_in s, code_in (checked.stream_in c))) (suc (streams_in s))

  -- a state that is left by its run, where that is finished, holds what was reached alone
  abbrev pub KeepsReached : UserAnswers C M F J → State E C M F J R → Checked → Type 0
  KeepsReached says s c =
      (after : State E C M F J R) → KeepsState s (record after { streams = streams_in s }) → streams_in after ≡ suc (streams_in s)
      → (n : ℕ) → IsFinished (stream_in says s c n).end → world_in after ≡ (stream_in says s c n).after → HoldsReached after
