-- From the run of a block's code in a state to what the block means there.
use Rattle.std.proofs.Common.{◌≡◌, ℕ, ◌-◌, nat_le, Bool, true, false, if◌then◌else◌, inl, inr, List, [], ◌∷◌, ◌++◌, Option, None, Some, Result, Ok, Err, refl, sym, ap, subst, ◌∙◌}
use Rattle.std.specs.Option.{option_map}
use Rattle.template_values_errors.specs.declared.ErrorKind.{ErrorKind}
use Rattle.template_values_errors.specs.declared.ErrorKind.TheVariants.{OutOfFuel}
use Rattle.template_values_errors.specs.declared.modes.UndefinedBehavior.{UndefinedBehavior}
use Rattle.template_compiler_process.specs.Approximants.{IsFinished}
use Rattle.template_compiler_process.specs.Drive.{faults}
use Rattle.template_compiler_process.specs.Fuel.{items_before, under, wraps_at}
use Rattle.template_compiler_process.specs.Process.{done}
use Rattle.template_compiler_process.specs.Trace.{Run, price_of}
use Rattle.template_machine_going.specs.Told.{CountsFailures, SparesSink, by_kinds, kinds_in}
use Rattle.template_machine_going.specs.declared.stop.Stop.{Stop}
use Rattle.template_machine_going.specs.declared.stop.Stop.TheVariants.{Fault, Want}
use Rattle.template_machine_meaning.specs.Blocks.{block_plan}
use Rattle.template_machine_meaning.specs.Surroundings.{Programs}
use Rattle.template_machine_meaning.specs.World.{World}
use Rattle.template_machine_renders.specs.Plans.{DoesPlan}
use Rattle.template_machine_renders.specs.Programs as units
use Rattle.template_machine_renders.specs.Programs.{programs_of}
use Rattle.template_machine_renders.specs.Renders as runs
use Rattle.template_machine_renders.specs.Renders.{RendersTo}
use Rattle.template_machine_renders.proofs.Blocks.{blocks_render}
use Rattle.template_compiled.specs.Compiled.{standing_of}
use Rattle.template_machine_environment.specs.Extras.{UserAnswers, joins_by}
use Rattle.template_machine_environment.specs.Reading.{callables_of, extras_of, registry_of, setting_in}
use Rattle.template_machine_environment.specs.Renderings.{AnswersFailure, IsNoMore, LeavesFuel, Renders, whole}
use Rattle.template_machine_environment.specs.Standing.{unit_of, units_of}
use Rattle.template_machine_environment.specs.States.{EndsIn, block_in, codes_in, environment_in, fuel_left_in, own_name_in, template_in, world_in}
use Rattle.template_machine_environment.specs.declared.environment.Environment.{Environment}
use Rattle.template_machine_environment.specs.declared.state.State.{State}
use Rattle.template_machine_environment.proofs.Capturing.{run_stopped, stop_answers}
use Rattle.template_machine_environment.proofs.Rendering.{ruled_programs}
use Rattle.template_machine_environment.proofs.Told.{leaves_no_more, stop_spares, stopped_leaves}

module _ {E C M F J R : Type 0} (says : UserAnswers C M F J) (s : State E C M F J R) where
  pub program_in : (there : Environment E C M F J R) (roots : units.Roots) (own : List ℕ) (limit : ℕ) (mode : UndefinedBehavior) → there ≡ environment_in s
      → roots ≡ units.alone (option_map unit_of (template_in s)) → own ≡ own_name_in s → limit ≡ (registry_of (environment_in s)).recursion_limit
      → mode ≡ (registry_of (environment_in s)).undefined_behavior
      → programs_of (units_of (registry_of there)) (joins_by says.joins (extras_of there).join) (callables_of says there) roots own limit mode ≡ codes_in says s
  program_in there roots own limit mode t u n l m =
      ruled_programs says there (environment_in s) (template_in s) roots own (own_name_in s) limit mode t u n l m

-- a fuel leaves the world of a run as it is
after_cut : (b : Bool) (r q : Run World) → q.after ≡ r.after → (if b then r else q).after ≡ r.after
after_cut true r q same = refl
after_cut false r q same = same

pub after_under : (fuel : Option ℕ) (r : Run World) → (under fuel r).after ≡ r.after
after_under None r = refl
after_under (Some n) r =
    after_cut (nat_le (price_of r.items) (n - 1)) r (record r { items = items_before (n - 1) r.items; end = faults (wraps_at (n - 1) r.items ++ OutOfFuel ∷ []) }) refl

-- a stop where no sink failed leaves the world of the run
pub stop_ends_in : (X : Type 0) (fuel : Option ℕ) (r : Run World) (after : World) (taken written : Option (List ℕ)) (stop : Stop) → SparesSink stop
    → runs.Renders {X = X} (Err stop) taken written (under fuel r) → runs.LeavesWorld fuel r stop after → EndsIn {X = X} fuel (Err (kinds_in stop)) r after
stop_ends_in X fuel r after taken written (Fault kinds) spares stopped left_so = inr left_so
stop_ends_in X fuel r after taken written (Want kinds) spares (inl want, text) left_so = inl want
stop_ends_in X fuel r after taken written (Want kinds) spares (inr failed, text) left_so = absurd (spares (ap (λ ks. Want ks) failed))

module _ {E C M F J R X : Type 0} (says : UserAnswers C M F J) (s : State E C M F J R) (block : List ℕ) (program : Programs) (left rest : Option ℕ)
    (taken written : Option (List ℕ)) (after : World) where
  abbrev pub Does : Result X Stop → Type 0
  Does result = DoesPlan (λ x. done) program (block_plan program.around (world_in s) block) (world_in s) left taken result after rest written

  comes : (result : Result X Stop) → program ≡ codes_in says s → left ≡ fuel_left_in s → Does result → (n : ℕ) → IsFinished (block_in says s block n).end
      → RendersTo (fuel_left_in s) (block_in says s block n) result after rest taken written
  comes result is same does n finished =
      blocks_render X (setting_in says (environment_in s)) (option_map standing_of (template_in s)) (own_name_in s) block (world_in s) after (fuel_left_in s) rest taken written result
      (subst (λ (f : Option ℕ). DoesPlan (λ x. done) (codes_in says s) (block_plan (codes_in says s).around (world_in s) block) (world_in s) f taken result after rest written) same
      (subst (λ (p : Programs). DoesPlan (λ x. done) p (block_plan p.around (world_in s) block) (world_in s) left taken result after rest written) is does)) n finished

  -- a call that tells its kinds alone renders so,
  pub block_renders : (result : Result X Stop) (told : Result X (List ErrorKind)) (failed fails : ℕ) → told ≡ by_kinds result → program ≡ codes_in says s
      → left ≡ fuel_left_in s → Does result → CountsFailures result failed fails → (n : ℕ) → IsFinished (block_in says s block n).end
      → Renders told taken written failed fails (under (fuel_left_in s) (block_in says s block n))
  block_renders (Ok x) told failed fails told_is is same does counts n finished =
      let ended = comes (Ok x) is same does n finished in
      subst (λ (t : Result X (List ErrorKind)). Renders t taken written failed fails (under (fuel_left_in s) (block_in says s block n))) (sym told_is) (whole ended.over ended.text counts)
  block_renders (Err stop) told failed fails told_is is same does counts n finished =
      subst (λ (t : Result X (List ErrorKind)). Renders t taken written failed fails (under (fuel_left_in s) (block_in says s block n))) (sym told_is)
      (run_stopped X X stop (kinds_in stop) taken written failed fails (under (fuel_left_in s) (block_in says s block n)) refl counts (comes (Err stop) is same does n finished).0)

  -- leaves so much of the fuel, where its sink does not fail,
  pub block_leaves : (result : Result X Stop) (told : Result X (List ErrorKind)) (failed fails : ℕ) → told ≡ by_kinds result → (now : Option ℕ) → program ≡ codes_in says s
      → left ≡ fuel_left_in s → Does result → CountsFailures result failed fails → (IsNoMore (fuel_left_in s) rest → now ≡ rest) → fails ≡ failed
      → (n : ℕ) → IsFinished (block_in says s block n).end → LeavesFuel (fuel_left_in s) (block_in says s block n) told now
  block_leaves (Ok x) told failed fails told_is now is same does counts spent quiet n finished =
      let left_so = (comes (Ok x) is same does n finished).left_is in
      subst (λ (t : Result X (List ErrorKind)). LeavesFuel (fuel_left_in s) (block_in says s block n) t now) (sym told_is)
      (spent (leaves_no_more (fuel_left_in s) rest (block_in says s block n) left_so) ∙ left_so)
  block_leaves (Err stop) told failed fails told_is now is same does counts spent quiet n finished =
      let stopped = comes (Err stop) is same does n finished in
      subst (λ (t : Result X (List ErrorKind)). LeavesFuel (fuel_left_in s) (block_in says s block n) t now) (sym told_is)
      (stopped_leaves X (fuel_left_in s) rest now taken written (block_in says s block n) stop (stop_spares X stop failed fails quiet counts) spent stopped.0 stopped.1)

  -- and the world
  pub block_ends_in : (result : Result X Stop) (told : Result X (List ErrorKind)) (failed fails : ℕ) → told ≡ by_kinds result → program ≡ codes_in says s
      → left ≡ fuel_left_in s → Does result → CountsFailures result failed fails → fails ≡ failed
      → (n : ℕ) → IsFinished (block_in says s block n).end → EndsIn (fuel_left_in s) told (block_in says s block n) after
  block_ends_in (Ok x) told failed fails told_is is same does counts quiet n finished =
      subst (λ (t : Result X (List ErrorKind)). EndsIn (fuel_left_in s) t (block_in says s block n) after) (sym told_is)
      (sym (comes (Ok x) is same does n finished).world ∙ after_under (fuel_left_in s) (block_in says s block n))
  block_ends_in (Err stop) told failed fails told_is is same does counts quiet n finished =
      let stopped = comes (Err stop) is same does n finished in
      subst (λ (t : Result X (List ErrorKind)). EndsIn (fuel_left_in s) t (block_in says s block n) after) (sym told_is)
      (stop_ends_in X (fuel_left_in s) (block_in says s block n) after taken written stop (stop_spares X stop failed fails quiet counts) stopped.0 stopped.2)

-- where the sink failed, it answers so
pub told_answers : {X : Type 0} (result : Result X Stop) (told : Result X (List ErrorKind)) (failed fails : ℕ) → told ≡ by_kinds result → CountsFailures result failed fails
    → AnswersFailure told failed fails
told_answers {X} (Ok x) told failed fails told_is counts = subst (λ (t : Result X (List ErrorKind)). AnswersFailure t failed fails) (sym told_is) counts
told_answers {X} (Err stop) told failed fails told_is counts =
    subst (λ (t : Result X (List ErrorKind)). AnswersFailure t failed fails) (sym told_is) (stop_answers X X stop (kinds_in stop) failed fails refl counts)
