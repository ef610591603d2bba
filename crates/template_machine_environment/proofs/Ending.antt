-- Calls on a state end: the names of what stands list all of it.
use Rattle.std.proofs.Common.{◌≡◌, ℕ, ◌+◌, Bool, true, false, cond, ◌||◌, List, [], ◌∷◌, map, Option, None, Some, IsSome, Result, Ok, Err, bytes_eq, refl, sym, ap, subst, ◌∙◌, arith}
use Rattle.std.specs.List.{find, slice_get}
use Rattle.std.specs.Option.{ForSome, option_map}
use Rattle.std.specs.Prelude.{if◌then◌else◌}
use Rattle.template_values_errors.specs.declared.ErrorKind.{ErrorKind}
use Rattle.template_values_errors.specs.declared.ErrorKind.TheVariants.{InvalidOperation}
use Rattle.template_values_model.specs.Val.{Val}
use Rattle.template_compiler_names_statements.proofs.UndeclaredWalking.{turned as named_either_way}
use Rattle.template_compiler_process.specs.Approximants.{IsFinished}
use Rattle.template_compiler_process.specs.Drive.{End, ends, faults, breaks, waits, mistaken, cuts, sticks}
use Rattle.template_compiler_process.specs.Process.{Answer, Process, Told, tells, fails, value}
use Rattle.template_compiler_process.specs.Trace.{Run, ended}
use Rattle.template_compiler_walk.specs.Runnable.{IsRunnableTemplate}
use Rattle.template_machine_meaning.specs.Bodies.{Bodies, bodies_at}
use Rattle.template_machine_meaning.specs.Blocks.{block_within, bodies_plan, body_plan, is_among, lacks_body, text_within}
use Rattle.template_machine_meaning.specs.Calls.{call_plan}
use Rattle.template_machine_meaning.specs.Functions.{Called}
use Rattle.template_machine_meaning.specs.Keys.{Home, Around}
use Rattle.template_machine_meaning.specs.Laws.{AreAllRunnable, ListsAll, MayStart}
use Rattle.template_machine_meaning.specs.Macros.{Bound, bound, bound_plan, handed_over, macro_levels, macro_plan, macro_within}
use Rattle.template_machine_meaning.specs.Meaning.{Standing, Setting, named_so, walks_of}
use Rattle.template_machine_meaning.specs.Plans.{Within, Plan, replies, enters, after_by, caller_of, came_from, given, ran, room_for, settled, told_by, with_turning}
use Rattle.template_machine_meaning.specs.Records.{known_of, loop_of, macro_of}
use Rattle.template_machine_meaning.specs.Replies.{refused}
use Rattle.template_machine_meaning.specs.Rounds.{again_plan, loop_again, rounds_from, rounds_over, rounds_within}
use Rattle.template_machine_meaning.specs.Surroundings.{Programs, runners}
use Rattle.template_machine_meaning.specs.Turnings.{Turning, to_truth, to_text, decided, turned, turned_by, turned_value, worded}
use Rattle.template_machine_meaning.specs.World.{Loop, Macro, Rounds, World, has_room, loop_frame}
use Rattle.template_machine_meaning.proofs.Calling.{Entries, PlanComes, Stands, Tells, call_comes, turns_all}
use Rattle.template_machine_meaning.proofs.Ends.{every_key_ends}
use Rattle.template_machine_renders.specs.Laws.{block_run}
use Rattle.template_machine_renders.specs.Plans.{end_of, replies_of, run_of}
use Rattle.template_compiled.specs.Compiled.{Compiled, standing_of}
use Rattle.template_compiled.specs.Standing.{compiled_at}
use Rattle.template_compiled.proofs.Trees.{tree_runs}
use Rattle.template_machine_environment.specs.Extras.{Brought}
use Rattle.template_machine_environment.specs.Standing.{setting_of}
use Rattle.template_machine_environment.specs.States.{own_name}
use Rattle.template_machine_environment.specs.declared.registry.Registry.{Registry}
use Rattle.template_machine_environment.proofs.Rendering.{all_run}

-- the names of templates
abbrev pub names_of : List Compiled → List (List ℕ)
names_of = map (λ (c : Compiled). c.name)

not_some : IsSome (option_map standing_of None) → ⊥
not_some some = cc

by_test : (found : Bool) (c : Compiled) (there : Option Compiled) (rest : Bool) → (IsSome (option_map standing_of there) → rest ≡ true)
    → IsSome (option_map standing_of (cond found (Some c) there)) → (found || rest) ≡ true
by_test true c there rest later some = refl
by_test false c there rest later some = later some

-- what is found by its name is among them
pub found_listed : (name : List ℕ) (cs : List Compiled) → IsSome (option_map standing_of (find (λ (c : Compiled). bytes_eq name c.name) cs))
    → is_among name (names_of cs) ≡ true
found_listed name [] some = absurd (not_some some)
found_listed name (c ∷ cs) some =
    ap (λ b. b || is_among name (names_of cs)) (named_either_way c.name name)
    ∙ by_test (bytes_eq name c.name) c (find (λ (c : Compiled). bytes_eq name c.name) cs) (is_among name (names_of cs)) (found_listed name cs) some

pub lists_all : (k : Brought) (e : Registry) (all : List Compiled) → ((name : List ℕ) → find (λ (c : Compiled). bytes_eq name c.name) all ≡ compiled_at e.templates name)
    → ListsAll (setting_of k e) (names_of all)
lists_all k e all found name some =
    found_listed name all (subst (λ (o : Option Compiled). IsSome (option_map standing_of o)) (sym (found name)) some)

-- what is told ends a run
abbrev Ends : Told → Type 0
Ends t = IsFinished (end_of t)

decided_ends : (r : Result Bool ErrorKind) → Ends (decided r)
decided_ends (Ok b) = tt
decided_ends (Err kind) = tt

value_ends : (w : World) (t : Turning) (v : Val) → Ends (turned_value (known_of w) w.escape t v)
value_ends w to_truth v = decided_ends _
value_ends w to_text v = text_ends _
  where
    text_ends : (r : Result (List ℕ) ErrorKind) → Ends (worded w.escape r)
    text_ends (Ok text) = tt
    text_ends (Err kind) = tt

one_turned : (w : World) (t : Turning) (told : Told) → Ends told → Ends (turned_by w t told)
one_turned w t (tells (value v)) finished = value_ends w t v
one_turned w t told finished = finished

all_turned : (w : World) (ts : List Turning) (told : Told) → Ends told → Ends (turned w ts told)
all_turned w [] told finished = finished
all_turned w (t ∷ ts) told finished = all_turned w ts (turned_by w t told) (one_turned w t told finished)

-- a run within that is finished ends what enters it
finished_told : (wraps : List ErrorKind) (a : Answer) (e : End) → IsFinished e → Ends (told_by wraps a e)
finished_told wraps a (ends operands) finished = tt
finished_told wraps a (faults kinds) finished = tt
finished_told wraps a breaks finished = finished
finished_told wraps a waits finished = absurd finished
finished_told wraps a mistaken finished = absurd finished
finished_told wraps a cuts finished = absurd finished
finished_told wraps a sticks finished = absurd finished

came_finished : (w : World) (x : Within) (o : Option (World → Run World)) → IsFinished (ran o x.begins).end → IsFinished (run_of (came_from w x o)).end
came_finished w x None finished = absurd finished
came_finished w x (Some begins) finished =
    let after = after_by x.purpose (caller_of w) (begins x.begins).after in
    let a = given x.purpose (caller_of w) (begins x.begins).after in
    all_turned after x.behind (told_by x.wraps a (begins x.begins).end) (finished_told x.wraps a (begins x.begins).end finished)

-- what a call comes to at once ends it
told_ends : (after : World) (t : Told) → Tells (λ w. Unit {0}) after t → Ends t
told_ends after (tells (value v)) comes = tt
told_ends after (fails kinds) comes = tt
told_ends after _ comes = absurd comes

-- nothing is said of worlds, and what is entered may start
abbrev MayEnter : Within → Type 0
MayEnter x = MayStart x.key.part x.begins

abbrev Starting : Plan → Type 0
Starting p = PlanComes (λ w. Unit {0}) MayEnter p

all_worlds : Stands (λ w. Unit {0})
all_worlds = record { temps = λ w temps h. tt; makes = λ w entries h. tt; compares = λ w given h. tt }

refused_starts : (w : World) (kind : ErrorKind) → Starting (replies (refused w kind))
refused_starts w kind = record { items = refl; told = tt }

room_starts : (w : World) (x : Within) → MayEnter x → (b : Bool) → Starting (if b then enters x else replies (refused w InvalidOperation))
room_starts w x may true = may
room_starts w x may false = refused_starts w InvalidOperation

macro_starts : (limit pending : ℕ) (w : World) (vs : List Val) (o : Option Macro) → Starting (macro_plan limit pending w vs o)
macro_starts limit pending w vs None = refused_starts w InvalidOperation
macro_starts limit pending w vs (Some m) = bound_starts (bound m (handed_over vs))
  where
    bound_starts : (r : Result Bound ErrorKind) → Starting (bound_plan limit pending w m r)
    bound_starts (Ok b) =
        room_starts w (macro_within w pending m b) (record { framed = omega arith; floor = omega arith; alone = refl }) (has_room limit (macro_levels + pending) w)
    bound_starts (Err kind) = refused_starts w kind

rounds_start : (a : Around) (w : World) (v : Val) (l : Loop) (o : Option Rounds) → Starting (rounds_from a w true v l o)
rounds_start a w v l None = refused_starts w InvalidOperation
rounds_start a w v l (Some rounds) = over_starts _
  where
    over_starts : (r : Result (List Val) ErrorKind) → Starting (rounds_over a w true l rounds r)
    over_starts (Ok vs) =
        let loop : Loop = loop_again w l rounds vs in
        room_starts w (rounds_within w true l rounds vs)
        (record { frame = loop_frame loop; frames = w.frames; is = refl; floor = refl; loop = loop; looping = refl; called = refl })
        (has_room a.limit 1 w)
    over_starts (Err kind) = record { items = refl; told = tt }

again_starts : (a : Around) (w : World) (vs : List Val) (o : Option Loop) → Starting (again_plan a w vs o)
again_starts a w [] o = refused_starts w InvalidOperation
again_starts a w (v ∷ []) None = refused_starts w InvalidOperation
again_starts a w (v ∷ []) (Some l) = rounds_start a w v l l.rounds
again_starts a w (v ∷ u ∷ vs) o = refused_starts w InvalidOperation

-- a block that is entered so, whichever body it has
module _ (a : Around) (w : World) (name : List ℕ) (entered : Home → Plan) (starts : (home : Home) → Starting (entered home)) where
  body_starts : (b : Bodies) (o : Option Home) → Starting (body_plan a w name entered b o)
  body_starts b None = refused_starts w _
  body_starts b (Some home) = lacking_starts (lacks_body a name home b.homes)
    where
      lacking_starts : (lacks : Bool) → Starting (if lacks then replies (refused w InvalidOperation) else entered home)
      lacking_starts true = refused_starts w InvalidOperation
      lacking_starts false = starts home

  bodies_start : (o : Option Bodies) → Starting (bodies_plan a w name entered o)
  bodies_start None = refused_starts w _
  bodies_start (Some b) = body_starts b (slice_get b.homes b.place)

texts_start : (a : Around) (pending : ℕ) (w : World) (name : List ℕ) (home : Home) → Starting (room_for a.limit (1 + pending) w (text_within w pending name home))
texts_start a pending w name home =
    room_starts w (text_within w pending name home) (record { framed = omega arith; floor = omega arith; alone = refl }) (has_room a.limit (1 + pending) w)

blocks_start : (a : Around) (w : World) (name : List ℕ) (home : Home) → Starting (room_for a.limit 1 w (block_within w name home))
blocks_start a w name home =
    room_starts w (block_within w name home) (record { framed = omega arith; floor = omega arith; alone = refl }) (has_room a.limit 1 w)

entries : (a : Around) → Entries (λ w. Unit {0}) MayEnter a
entries a = record {
  turns = λ x t may. may;
  macros = λ pending w held vs id number. macro_starts a.limit pending w vs (macro_of w id number);
  rounds = λ w held vs id number. again_starts a w vs (loop_of w id number);
  texts = λ pending w held name. bodies_start a w name _ (texts_start a pending w name) (bodies_at name w.blocks);
}

call_starts : (a : Around) (w : World) (c : Called) → Starting (call_plan a w c)
call_starts a w c = call_comes (λ w. Unit {0}) all_worlds MayEnter a (entries a) w tt c

turning_starts : (t : Turning) (p : Plan) → Starting p → Starting (with_turning t p)
turning_starts t (replies r) comes = record { items = comes.items; told = turns_all (λ w. Unit {0}) r.after (t ∷ []) r.told comes.told }
turning_starts t (enters x) may = may

module _ (setting : Setting) (names : List (List ℕ)) (lists : ListsAll setting names) (all : AreAllRunnable setting) (root : Option Standing)
    (runs : ForSome root (λ (t : Standing). IsRunnableTemplate t.tree)) (name : List ℕ) (w : World) where
  abbrev s : Programs
  s = named_so name (walks_of setting root)

  abbrev pub PlanEnds : Plan → Type 0
  PlanEnds p = (n : ℕ) × IsFinished (run_of (settled (runners s n) w p)).end

  -- where nothing is under its key, that is refused at once
  entered_ends : (x : Within) → MayEnter x → (o : Option Process) → s.process 0 x.key ≡ o → PlanEnds (enters x)
  entered_ends x may None is = (
    0,
    subst (λ (o : Option Process). IsFinished (run_of (came_from w x (option_map (λ (p : Process) (v : World). ended breaks v) o))).end) (sym is) tt,
  )
  entered_ends x may (Some p) is =
      let end = every_key_ends setting names lists all root runs name x.key (subst IsSome (sym is) refl) x.begins may in
      (end.0, came_finished w x (runners s end.0 x.key) end.1)

  plan_ends : (p : Plan) → Starting p → PlanEnds p
  plan_ends (replies r) comes = (0, told_ends r.after r.told comes.told)
  plan_ends (enters x) may = entered_ends x may (s.process 0 x.key) refl

  -- whatever stands under its name
  pub block_ends : (block : List ℕ) → (n : ℕ) × IsFinished (block_run s w block n).end
  block_ends block = plan_ends _ (bodies_start s.around w block _ (blocks_start s.around w block) (bodies_at block w.blocks))

  pub call_ends : (c : Called) → PlanEnds (call_plan s.around w c)
  call_ends c = plan_ends (call_plan s.around w c) (call_starts s.around w c)

  -- and what is made of it
  pub turned_ends : (t : Turning) (c : Called) → PlanEnds (with_turning t (call_plan s.around w c))
  turned_ends t c = plan_ends (with_turning t (call_plan s.around w c)) (turning_starts t (call_plan s.around w c) (call_starts s.around w c))

template_runs : (o : Option Compiled) → ForSome (option_map standing_of o) (λ (t : Standing). IsRunnableTemplate t.tree)
template_runs None x e = absurd (cc)
template_runs (Some c) x e = let same : standing_of c ≡ x = cc in subst (λ (y : Standing). IsRunnableTemplate y.tree) same (tree_runs c.source)

-- whether it is a state of a template or of none
module _ (k : Brought) (e : Registry) (all : List Compiled) (found : (name : List ℕ) → find (λ (c : Compiled). bytes_eq name c.name) all ≡ compiled_at e.templates name)
    (o : Option Compiled) (w : World) where
  abbrev programs : Programs
  programs = named_so (own_name o) (walks_of (setting_of k e) (option_map standing_of o))

  pub state_block_ends : (block : List ℕ) → (n : ℕ) × IsFinished (block_run programs w block n).end
  state_block_ends =
      block_ends (setting_of k e) (names_of all) (lists_all k e all found) (all_run k e) (option_map standing_of o) (template_runs o) (own_name o) w

  pub state_call_ends : (c : Called) → (n : ℕ) × IsFinished (run_of (replies_of programs (call_plan programs.around w c) w n)).end
  state_call_ends =
      call_ends (setting_of k e) (names_of all) (lists_all k e all found) (all_run k e) (option_map standing_of o) (template_runs o) (own_name o) w

  pub state_text_ends : (c : Called) → (n : ℕ) × IsFinished (run_of (replies_of programs (with_turning to_text (call_plan programs.around w c)) w n)).end
  state_text_ends =
      turned_ends (setting_of k e) (names_of all) (lists_all k e all found) (all_run k e) (option_map standing_of o) (template_runs o) (own_name o) w to_text
