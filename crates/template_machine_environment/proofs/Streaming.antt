-- From the run of a stream that was handed in to what the stream comes to in a state.
use Rattle.std.proofs.Common.{◌≡◌, ℕ, List, Option, Result, Ok, Err, refl, sym, subst, ◌∙◌}
use Rattle.std.specs.Option.{option_map}
use Rattle.template_values_errors.specs.declared.ErrorKind.{ErrorKind}
use Rattle.template_values_errors.specs.declared.modes.UndefinedBehavior.{UndefinedBehavior}
use Rattle.template_values_model.specs.Val.{Val}
use Rattle.template_compiler_process.specs.Approximants.{IsFinished}
use Rattle.template_compiler_process.specs.Fuel.{under}
use Rattle.template_compiler_code.specs.Code.{Code}
use Rattle.template_compiler_code.specs.Listing.{code_in}
use Rattle.template_compiler_code_shapes.specs.Checked as checked
use Rattle.template_compiler_code_shapes.specs.declared.checked.Checked.{Checked}
use Rattle.template_machine_going.specs.Told.{CountsFailures, by_kinds, kinds_in}
use Rattle.template_machine_going.specs.declared.stop.Stop.{Stop}
use Rattle.template_machine_meaning.specs.Surroundings.{Programs}
use Rattle.template_machine_meaning.specs.World.{World}
use Rattle.template_machine_state.specs.Changes.{stream_begun}
use Rattle.template_machine_renders.specs.Handed.{ComesGiving, at_most_one, handing, own_run, stream_run}
use Rattle.template_machine_renders.specs.Programs as units
use Rattle.template_machine_renders.specs.Programs.{programs_of}
use Rattle.template_machine_renders.specs.Renders.{RendersTo}
use Rattle.template_machine_renders.proofs.Handed.{streams_give, streams_render}
use Rattle.template_machine_environment.specs.Extras.{UserAnswers, joins_by}
use Rattle.template_machine_environment.specs.Reading.{callables_of, extras_of, registry_of}
use Rattle.template_machine_environment.specs.Renderings.{IsNoMore, LeavesFuel, Renders, whole}
use Rattle.template_machine_environment.specs.Standing.{unit_of, units_of}
use Rattle.template_machine_environment.specs.States.{EndsIn, GivesLeft, environment_in, fuel_left_in, handing_in, own_in, own_name_in, stream_in, streams_in, template_in, world_in}
use Rattle.template_machine_environment.specs.declared.environment.Environment.{Environment}
use Rattle.template_machine_environment.specs.declared.state.State.{State}
use Rattle.template_machine_environment.proofs.Calling.{after_under, stop_ends_in}
use Rattle.template_machine_environment.proofs.Capturing.{run_stopped}
use Rattle.template_machine_environment.proofs.Told.{leaves_no_more, stop_spares, stopped_leaves}

module _ {E C M F J R : Type 0} (says : UserAnswers C M F J) (s : State E C M F J R) (stream : Checked) where
  abbrev code : List Code
  code = code_in (checked.stream_in stream)

  abbrev begun : World
  begun = stream_begun (streams_in s) (world_in s)

  -- what runs there
  pub handed_there : (there : Environment E C M F J R) (roots : units.Roots) (own : List ℕ) (limit : ℕ) (mode : UndefinedBehavior)
      → there ≡ environment_in s → roots ≡ units.alone (option_map unit_of (template_in s)) → own ≡ own_name_in s
      → limit ≡ (registry_of (environment_in s)).recursion_limit → mode ≡ (registry_of (environment_in s)).undefined_behavior
      → programs_of (units_of (registry_of there)) (joins_by says.joins (extras_of there).join) (callables_of says there) (handing (streams_in s) code roots) own limit mode
      ≡ handing_in says s stream
  handed_there there roots own limit mode t u n l m = λ i.
      programs_of (units_of (registry_of (t i))) (joins_by says.joins (extras_of (t i)).join) (callables_of says (t i)) (handing (streams_in s) code (u i)) (n i) (l i) (m i)

  module _ (program : Programs) (left rest : Option ℕ) (taken written : Option (List ℕ)) (after : World) (is : program ≡ handing_in says s stream)
      (same : left ≡ fuel_left_in s) where
    abbrev pub Does : Result (Option Val) Stop → Type 0
    Does result = ComesGiving (own_run program code begun) (stream_run program (streams_in s) (world_in s)) left taken result after rest written

    does_there : (result : Result (Option Val) Stop) → Does result
        → ComesGiving (own_in says s stream) (stream_in says s stream) (fuel_left_in s) taken result after rest written
    does_there result does =
        subst
        (λ (f : Option ℕ). ComesGiving (own_in says s stream) (stream_in says s stream) f taken result after rest written)
        same
        (subst (λ (p : Programs). ComesGiving (own_run p code begun) (stream_run p (streams_in s) (world_in s)) left taken result after rest written) is does)

    comes : (result : Result (Option Val) Stop) → Does result → (n : ℕ) → IsFinished (stream_in says s stream n).end
        → RendersTo (fuel_left_in s) (stream_in says s stream n) result after rest taken written
    comes result does n finished =
        streams_render (units_of (registry_of (environment_in s))) (joins_by says.joins (extras_of (environment_in s)).join) (callables_of says (environment_in s))
        (handing (streams_in s) code (units.alone (option_map unit_of (template_in s)))) (own_name_in s)
        (registry_of (environment_in s)).recursion_limit (registry_of (environment_in s)).undefined_behavior
        (streams_in s) (world_in s) after (fuel_left_in s) rest taken written n finished (own_in says s stream) result (does_there result does)

    -- a call that tells its kinds alone renders so,
    pub stream_renders : (result : Result (Option Val) Stop) (told : Result (Option Val) (List ErrorKind)) (failed fails : ℕ) → told ≡ by_kinds result
        → Does result → CountsFailures result failed fails → (n : ℕ) → IsFinished (stream_in says s stream n).end
        → Renders told taken written failed fails (under (fuel_left_in s) (stream_in says s stream n))
    stream_renders (Ok x) told failed fails told_is does counts n finished =
        let ended = comes (Ok x) does n finished in
        subst (λ (t : Result (Option Val) (List ErrorKind)). Renders t taken written failed fails (under (fuel_left_in s) (stream_in says s stream n))) (sym told_is)
        (whole ended.over ended.text counts)
    stream_renders (Err stop) told failed fails told_is does counts n finished =
        subst (λ (t : Result (Option Val) (List ErrorKind)). Renders t taken written failed fails (under (fuel_left_in s) (stream_in says s stream n))) (sym told_is)
        (run_stopped (Option Val) (Option Val) stop (kinds_in stop) taken written failed fails (under (fuel_left_in s) (stream_in says s stream n)) refl counts
        (comes (Err stop) does n finished).0)

    -- gives the value,
    pub stream_gives : (result : Result (Option Val) Stop) (given : Option Val) → result ≡ Ok given → Does result → GivesLeft (own_in says s stream) given
    stream_gives result given told does n finished =
        streams_give (units_of (registry_of (environment_in s))) (joins_by says.joins (extras_of (environment_in s)).join) (callables_of says (environment_in s))
        (handing (streams_in s) code (units.alone (option_map unit_of (template_in s)))) (own_name_in s)
        (registry_of (environment_in s)).recursion_limit (registry_of (environment_in s)).undefined_behavior
        code begun (at_most_one given) n finished (does_there (Ok given) (subst Does told does)).1

    -- leaves so much of the fuel, where its sink does not fail,
    pub stream_leaves : (result : Result (Option Val) Stop) (told : Result (Option Val) (List ErrorKind)) (failed fails : ℕ) → told ≡ by_kinds result → (now : Option ℕ)
        → Does result → CountsFailures result failed fails → (IsNoMore (fuel_left_in s) rest → now ≡ rest) → fails ≡ failed
        → (n : ℕ) → IsFinished (stream_in says s stream n).end → LeavesFuel (fuel_left_in s) (stream_in says s stream n) told now
    stream_leaves (Ok x) told failed fails told_is now does counts spent quiet n finished =
        let left_so = (comes (Ok x) does n finished).left_is in
        subst (λ (t : Result (Option Val) (List ErrorKind)). LeavesFuel (fuel_left_in s) (stream_in says s stream n) t now) (sym told_is)
        (spent (leaves_no_more (fuel_left_in s) rest (stream_in says s stream n) left_so) ∙ left_so)
    stream_leaves (Err stop) told failed fails told_is now does counts spent quiet n finished =
        let stopped = comes (Err stop) does n finished in
        subst (λ (t : Result (Option Val) (List ErrorKind)). LeavesFuel (fuel_left_in s) (stream_in says s stream n) t now) (sym told_is)
        (stopped_leaves (Option Val) (fuel_left_in s) rest now taken written (stream_in says s stream n) stop (stop_spares (Option Val) stop failed fails quiet counts) spent stopped.0 stopped.1)

    -- and the world
    pub stream_ends_in : (result : Result (Option Val) Stop) (told : Result (Option Val) (List ErrorKind)) (failed fails : ℕ) → told ≡ by_kinds result
        → Does result → CountsFailures result failed fails → fails ≡ failed
        → (n : ℕ) → IsFinished (stream_in says s stream n).end → EndsIn (fuel_left_in s) told (stream_in says s stream n) after
    stream_ends_in (Ok x) told failed fails told_is does counts quiet n finished =
        subst (λ (t : Result (Option Val) (List ErrorKind)). EndsIn (fuel_left_in s) t (stream_in says s stream n) after) (sym told_is)
        (sym (comes (Ok x) does n finished).world ∙ after_under (fuel_left_in s) (stream_in says s stream n))
    stream_ends_in (Err stop) told failed fails told_is does counts quiet n finished =
        let stopped = comes (Err stop) does n finished in
        subst (λ (t : Result (Option Val) (List ErrorKind)). EndsIn (fuel_left_in s) t (stream_in says s stream n) after) (sym told_is)
        (stop_ends_in (Option Val) (fuel_left_in s) (stream_in says s stream n) after taken written stop (stop_spares (Option Val) stop failed fails quiet counts) stopped.0 stopped.2)
