-- A state that a render left holds what was reached alone.
use Rattle.std.proofs.Common.{◌≡◌, ℕ, ◌+◌, ◌<◌, ◌≤◌, true, List, [], Option, None, Some, IsSome, refl, sym, ap, subst, ◌∙◌, arith}
use Rattle.std.proofs.lemmas.List.Elements.{All-cons, All-nil}
use Rattle.template_values_model.specs.Val.{Val}
use Rattle.template_compiler_process.specs.Approximants.{IsFinished}
use Rattle.template_compiler_process.specs.Trace.{Run}
use Rattle.template_compiler_generator.specs.Acceptance.{TemplatesAreAccepted}
use Rattle.template_machine_meaning.specs.Blocks.{is_among}
use Rattle.template_machine_meaning.specs.Meaning.{head_of, meaning, top}
use Rattle.template_machine_meaning.specs.Plans.{ran}
use Rattle.template_machine_meaning.specs.Surroundings.{Programs, runners}
use Rattle.template_machine_meaning.specs.World.{Macro, World, first_world}
use Rattle.template_machine_codes.specs.Codes.{codes_of}
use Rattle.template_machine_codes.proofs.Alike.{code_means_tree}
use Rattle.template_machine_renders.specs.Programs as units
use Rattle.template_machine_renders.proofs.Handed.{key_stays}
use Rattle.template_machine_codes.specs.StreamLaws.{EveryStreamEnds, ListsAll, MayRun}
use Rattle.template_machine_codes.specs.Streams as streams
use Rattle.template_machine_codes.specs.Streams.{Codes, IsBodyReached, IsLoopReached, IsSound}
use Rattle.template_compiled.specs.Compiled.{Compiled, standing_of}
use Rattle.template_compiled.specs.Standing.{compiled_at}
use Rattle.template_machine_environment.specs.Extras.{Brought, UserAnswers}
use Rattle.template_machine_environment.specs.Reading.{brought_of, registry_of}
use Rattle.template_machine_environment.specs.Standing.{names_in, setting_of, source_at, unit_of, units_of}
use Rattle.template_machine_environment.specs.States.{environment_in, streams_in, world_in}
use Rattle.template_machine_environment.specs.declared.environment.Environment.{Environment}
use Rattle.template_machine_environment.specs.declared.registry.Registry.{Registry}
use Rattle.template_machine_environment.specs.declared.state.State.{State}
use Rattle.template_machine_environment.proofs.Rendering.{same_programs}
use Rattle.template_machine_environment_streams.specs.Held.{HoldsReached, IsRendered, codes_at}
use Rattle.template_machine_environment_streams.proofs.Ending.{head_there, part_same}
use Rattle.template_machine_environment_streams.proofs.Good.{alone_verified}

module _ (k : Brought) (e : Registry) (c : Compiled) (numbers : ℕ) (accepted : TemplatesAreAccepted) (law : EveryStreamEnds)
    (listed : (name : List ℕ) → IsSome (source_at e name) → is_among name (names_in e) ≡ true) (id : ℕ) (context : Val) where
  abbrev codes : Codes
  codes = codes_at e (Some c) None numbers

  abbrev machine : Programs
  machine = units.programs_of (units_of e) k.joins k.callables (units.alone (Some (unit_of c))) c.name e.recursion_limit e.undefined_behavior

  abbrev first : World
  first = first_world id e.globals (head_of (standing_of c)) context

  machine_is : streams.programs_of codes machine.around ≡ machine
  machine_is = λ i. record { process = λ n key. part_same n key.part (codes.code key.stream) i; around = machine.around }

  coded : machine ≡ codes_of (setting_of k e) (Some (standing_of c))
  coded = same_programs k e (Some c) c.name

  all_listed : ListsAll machine.around (names_in e)
  all_listed name some = listed name (head_there (compiled_at e.templates name) some)

  may_run : MayRun codes top first
  may_run =
      let framed : 0 < 1 = omega arith in
      let floor : 1 ≤ 1 = omega arith in
      record {
        start = record { framed = framed; floor = floor; alone = refl };
        here = refl;
        reached = tt;
        sound = record {
          macros = All-nil (λ (m : Macro). IsBodyReached codes m.stream m.number);
          loops = All-cons (IsLoopReached codes) None [] tt (All-nil (IsLoopReached codes));
        };
      }

  machine_ends : (n : ℕ) × IsFinished (ran (runners machine n top) first).end × IsSound codes (ran (runners machine n top) first).after
  machine_ends =
      let at = law codes (alone_verified accepted e (Some c) numbers) machine.around (names_in e) all_listed top refl first may_run in
      let both : IsFinished (ran (runners machine at.0 top) first).end × IsSound codes (ran (runners machine at.0 top) first).after =
      subst (λ (p : Programs). IsFinished (ran (runners p at.0 top) first).end × IsSound codes (ran (runners p at.0 top) first).after) machine_is (at.1, at.2) in
      (at.0, both.0, both.1)

  pub render_sound : (n : ℕ) → IsFinished (meaning (setting_of k e) (standing_of c) n first).end → IsSound codes (meaning (setting_of k e) (standing_of c) n first).after
  render_sound n finished =
      let at = machine_ends in
      let stays = key_stays (units_of e) k.joins k.callables (units.alone (Some (unit_of c))) c.name e.recursion_limit e.undefined_behavior top first at.0 at.1 in
      let means = code_means_tree (setting_of k e) (standing_of c) first n finished in
      let m = stays.0 + means.0 in
      let meant : ran (runners machine m top) first ≡ meaning (setting_of k e) (standing_of c) n first =
      ap (λ (p : Programs). ran (runners p m top) first) coded ∙ means.1 m (omega arith) in
      subst (λ (r : Run World). IsSound codes r.after) (sym (stays.1 m (omega arith)) ∙ meant) at.2

module _ {E C M F J R : Type 0} (says : UserAnswers C M F J) (s : State E C M F J R) (accepted : TemplatesAreAccepted) (law : EveryStreamEnds)
    (listed : (name : List ℕ) → IsSome (source_at (registry_of (environment_in s)) name) → is_among name (names_in (registry_of (environment_in s))) ≡ true) where
  pub rendered_reached : IsRendered says s → HoldsReached s
  rendered_reached left =
      let e : Registry = registry_of (environment_in s) in
      let sound = render_sound (brought_of says (environment_in s)) e left.template (streams_in s) accepted law listed left.id left.context left.bound left.finished in
      subst (λ (o : Option Compiled). IsSound (codes_at e o None (streams_in s)) (world_in s)) (sym left.is)
      (subst (IsSound (codes_at e (Some left.template) None (streams_in s))) (sym left.left) sound)

module _ {E C M F J R : Type 0} where
  -- what the names of an environment list is so of a state's, where it is the state's
  pub listed_there : (s : State E C M F J R) (e : Environment E C M F J R) → e ≡ environment_in s
      → ((name : List ℕ) → IsSome (source_at (registry_of e) name) → is_among name (names_in (registry_of e)) ≡ true)
      → (name : List ℕ) → IsSome (source_at (registry_of (environment_in s)) name) → is_among name (names_in (registry_of (environment_in s))) ≡ true
  listed_there s e is listed =
      subst (λ (e : Environment E C M F J R). (name : List ℕ) → IsSome (source_at (registry_of e) name) → is_among name (names_in (registry_of e)) ≡ true)
      is listed
