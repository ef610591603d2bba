-- Each run of a stream that is handed in ends, and leaves what was reached alone.
use Rattle.std.proofs.Common.{◌≡◌, ℕ, suc, ◌<◌, ◌≤◌, ◌==◌, Bool, true, false, if◌then◌else◌, List, [], ◌∷◌, length, Option, None, Some, IsSome, refl, sym, ap, subst, arith}
use Rattle.std.specs.Option.{option_and_then, option_map}
use Rattle.std.proofs.lemmas.Bool.Decides.{nat_tests}
use Rattle.std.proofs.lemmas.List.Elements.{All-cons, All-nil}
use Rattle.template_values_errors.specs.declared.ErrorKind.TheVariants.{InvalidOperation}
use Rattle.template_compiler_process.specs.Approximants.{IsFinished}
use Rattle.template_compiler_process.specs.Drive.{faults}
use Rattle.template_compiler_process.specs.Trace.{Run, ended}
use Rattle.template_compiler_code.specs.Code.{Code}
use Rattle.template_compiler_code.specs.Listing.{code_in}
use Rattle.template_compiler_code_shapes.specs.Checked as checked
use Rattle.template_compiler_code_shapes.specs.declared.checked.Checked.{Checked}
use Rattle.template_compiler_code_shapes.specs.Streams.{IsGood}
use Rattle.template_compiler_code_shapes.specs.declared.StreamKind.{StreamKind}
use Rattle.template_compiler_generator.specs.Acceptance.{TemplatesAreAccepted}
use Rattle.template_machine_meaning.specs.Blocks.{is_among}
use Rattle.template_machine_meaning.specs.Keys.{Head, Part, whole, body_of, rounds_of}
use Rattle.template_machine_meaning.specs.Plans.{calls_block, caller_of}
use Rattle.template_machine_meaning.specs.Records.{all_loops}
use Rattle.template_machine_meaning.specs.Surroundings.{Programs}
use Rattle.template_machine_meaning.specs.World.{Globals, Macro, World, has_room}
use Rattle.template_machine_renders.specs.Handed.{backed, begun_run, handed, handing, own_run}
use Rattle.template_machine_renders.specs.Programs as units
use Rattle.template_machine_renders.proofs.Handed.{stream_stays}
use Rattle.template_machine_state.specs.Changes.{stream_begun}
use Rattle.template_machine_codes.specs.StreamLaws.{EveryStreamEnds, EveryStreamLeaves, Leaves, ListsAll, MayRun}
use Rattle.template_machine_codes.specs.Streams as streams
use Rattle.template_machine_codes.specs.Streams.{Codes, IsBodyReached, IsLoopReached, IsSound, part_run}
use Rattle.template_machine_codes.proofs.Sound.{sound_after, sound_left, sound_of}
use Rattle.template_compiled.specs.Compiled.{Compiled}
use Rattle.template_compiled.specs.Standing.{compiled_at}
use Rattle.template_machine_environment.specs.Extras.{UserAnswers, joins_by}
use Rattle.template_machine_environment.specs.Reading.{callables_of, extras_of, registry_of}
use Rattle.template_machine_environment.specs.Standing.{names_in, source_at, unit_of, units_of}
use Rattle.template_machine_environment.specs.States.{environment_in, frameless, handing_in, own_in, own_name_in, stream_in, streams_in, template_in, world_in}
use Rattle.template_machine_environment.specs.declared.registry.Registry.{Registry}
use Rattle.template_machine_environment.specs.declared.state.State.{State}
use Rattle.template_machine_environment_streams.specs.Held.{HoldsReached, KeepsReached, codes_at, codes_with}
use Rattle.template_machine_environment_streams.proofs.Good.{all_verified}
use Rattle.template_machine_environment_streams.proofs.Held.{sound_behind, sound_with}

-- the same programs
pub part_same : (n : ℕ) (part : Part) (o : Option (List Code)) → option_and_then (part_run n part) o ≡ option_and_then (units.part_in n part) o
part_same n part None = refl
part_same n whole (Some code) = refl
part_same n (body_of number vs) (Some code) = refl
part_same n (rounds_of number) (Some code) = refl

-- the names of templates list all that have a head
pub head_there : (o : Option Compiled) → IsSome (option_map units.head_of (option_map unit_of o)) → IsSome (option_map (λ (c : Compiled). c.source) o)
head_there None some = absurd (cc)
head_there (Some c) some = refl

-- what was open before is put back, and what was reached stays so
module _ (codes : Codes) where
  abbrev EndsSound : Run World → Type 0
  EndsSound r = IsFinished r.end × IsSound codes r.after

  backed_sound : (w : World) (r : Run World) → IsSound codes r.after → IsSound codes (backed w r).after
  backed_sound w r sound = sound_left codes (backed w r).after (sound_after codes calls_block (caller_of w) r.after (sound_of codes r.after sound))

  roomy_ends : (w : World) (r : Run World) (b : Bool) → IsSound codes w → EndsSound r → EndsSound (if b then backed w r else ended (faults (InvalidOperation ∷ [])) w)
  roomy_ends w r true sound h = (h.0, backed_sound w r h.1)
  roomy_ends w r false sound h = (tt, sound)

-- nothing was made yet
none_held : (codes : Codes) (id : ℕ) (globals : Globals) (head : Head) → IsSound codes (frameless id globals head)
none_held codes id globals head = record {
  macros = All-nil (λ (m : Macro). IsBodyReached codes m.stream m.number);
  loops = All-nil (IsLoopReached codes);
}

module _ {E C M F J R : Type 0} (says : UserAnswers C M F J) (s : State E C M F J R) (stream : Checked) where
  abbrev e : Registry
  e = registry_of (environment_in s)

  abbrev code : List Code
  code = code_in (checked.stream_in stream)

  abbrev programs : Programs
  programs = handing_in says s stream

  abbrev here : Codes
  here = codes_with s stream

  abbrev begun : World
  begun = stream_begun (streams_in s) (world_in s)

  pub fresh_reached : (id : ℕ) (globals : Globals) (head : Head) → world_in s ≡ frameless id globals head → HoldsReached s
  fresh_reached id globals head is =
      let codes : Codes = codes_at e (template_in s) None (streams_in s) in
      subst (IsSound codes) (sym is) (none_held codes id globals head)

  module _ (accepted : TemplatesAreAccepted) (law : EveryStreamEnds) (listed : (name : List ℕ) → IsSome (source_at e name) → is_among name (names_in e) ≡ true)
      (kind : StreamKind) (good : IsGood kind code) where
    same_programs : streams.programs_of here programs.around ≡ programs
    same_programs = λ i. record { process = λ n k. part_same n k.part (here.code k.stream) i; around = programs.around }

    all_listed : ListsAll programs.around (names_in e)
    all_listed name some = listed name (head_there (compiled_at e.templates name) some)

    there : here.code (handed (streams_in s)).stream ≡ Some code
    there =
        let itself : (streams_in s == streams_in s) ≡ true = grind (arith, nat_tests) in
        ap (λ (b : Bool). if b then Some code else None) itself

    may_run : HoldsReached s → MayRun here (handed (streams_in s)) begun
    may_run held =
        let sound = sound_with e (template_in s) (streams_in s) code (world_in s) held in
        let framed : 0 < suc (length (world_in s).frames) = omega arith in
        let floor : suc (length (world_in s).frames) ≤ suc (length (world_in s).frames) = omega arith in
        record {
          start = record { framed = framed; floor = floor; alone = refl };
          here = refl;
          reached = tt;
          sound = record { macros = sound.macros; loops = All-cons (IsLoopReached here) None (all_loops (world_in s)) tt sound.loops };
        }

    begun_ends : HoldsReached s → (n : ℕ) × EndsSound here (begun_run programs (streams_in s) begun n)
    begun_ends held =
        let at = law here (all_verified accepted e (template_in s) (streams_in s) kind code good) programs.around (names_in e) all_listed (handed (streams_in s))
        (subst (λ (o : Option (List Code)). IsSome (option_and_then (part_run 0 whole) o)) (sym there) refl) begun (may_run held) in
        (at.0, subst (λ (p : Programs). EndsSound here (begun_run p (streams_in s) begun at.0)) same_programs (at.1, at.2))

    stream_ends : HoldsReached s → (n : ℕ) × EndsSound here (stream_in says s stream n)
    stream_ends held =
        let at = begun_ends held in (
          at.0,
          roomy_ends here (world_in s) (begun_run programs (streams_in s) begun at.0) (has_room programs.around.limit 1 (world_in s))
              (sound_with e (template_in s) (streams_in s) code (world_in s) held) at.1,
        )

    pub handed_ends : HoldsReached s → (n : ℕ) × IsFinished (stream_in says s stream n).end
    handed_ends held = let at = stream_ends held in (at.0, at.1.0)

    pub own_leaves : EveryStreamLeaves → HoldsReached s → (n : ℕ) × Leaves kind (own_in says s stream n).end
    own_leaves leaves held =
        let at = leaves here (all_verified accepted e (template_in s) (streams_in s) kind code good) programs.around (names_in e) all_listed (handed (streams_in s)).stream kind code there good begun (may_run held) in
        (at.0, subst (λ (p : Programs). Leaves kind (own_run p code begun at.0).end) same_programs at.1)

    -- whichever bound it is finished under
    ends_sound : HoldsReached s → (n : ℕ) → IsFinished (stream_in says s stream n).end → IsSound here (stream_in says s stream n).after
    ends_sound held n finished =
        let at = stream_ends held in
        subst (λ (r : Run World). IsSound here r.after)
        (stream_stays (units_of e) (joins_by says.joins (extras_of (environment_in s)).join) (callables_of says (environment_in s))
        (handing (streams_in s) code (units.alone (option_map unit_of (template_in s)))) (own_name_in s) e.recursion_limit e.undefined_behavior
        (streams_in s) (world_in s) at.0 n at.1.0 finished)
        at.1.1

    pub later_reached : HoldsReached s → KeepsReached says s stream
    later_reached held after kept counted n finished is =
        let same : codes_at e (template_in s) None (suc (streams_in s)) ≡ codes_at (registry_of (environment_in after)) (template_in after) None (streams_in after) =
        λ i. codes_at (registry_of (sym kept.environment i)) (sym kept.template i) None (sym counted i) in
        subst (λ (codes : Codes). IsSound codes (world_in after)) same
        (subst (IsSound (codes_at e (template_in s) None (suc (streams_in s)))) (sym is)
        (sound_behind e (template_in s) (streams_in s) code (stream_in says s stream n).after (ends_sound held n finished)))
