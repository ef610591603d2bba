-- From the run of the code of a stream that was handed in to what the stream comes to.
use Rattle.std.proofs.Common.{◌≡◌, ◌⊎◌, inl, inr, ℕ, zero, suc, ◌+◌, ◌==◌, ◌≤◌, Bool, true, false, if◌then◌else◌, List, [], ◌∷◌, length, map, Option, None, Some, Result, Ok, Err, IsErrAnd, refl, sym, ap, subst, ◌∙◌, arith}
use Rattle.std.specs.Option.{option_map, option_and_then}
use Rattle.std.proofs.KnownBytes.{Appends-nil}
use Rattle.std.proofs.lemmas.Bool.Decides.{nat_tests}
use Rattle.template_values_errors.specs.declared.ErrorKind.{ErrorKind}
use Rattle.template_values_errors.specs.declared.ErrorKind.TheVariants.{InvalidOperation, TemplateNotFound}
use Rattle.template_values_errors.specs.Memory.{NoMemory}
use Rattle.template_values_model.specs.Val.{Val}
use Rattle.template_values_errors.specs.declared.modes.UndefinedBehavior.{UndefinedBehavior}
use Rattle.template_callables.specs.Callables.{Callables}
use Rattle.template_callables.specs.Joins.{Joins}
use Rattle.template_compiler_process.specs.Approximants.{IsFinished}
use Rattle.template_compiler_process.specs.Drive.{End, ends, faults, breaks, IsUncut}
use Rattle.template_compiler_process.specs.Process.{Answer, Told, tells, fails, breaks_off, leaves, Process, over, step, asks, amiss, cut_short, stuck, Ask}
use Rattle.template_compiler_process.specs.Trace.{Item, paid, Reply, Run, run, behind, ended, go_on}
use Rattle.template_compiler_code.specs.Code.{Code, Operand, single}
use Rattle.template_compiler_code.specs.Counting.{MacroPlace, macro_at, rounds_at}
use Rattle.template_compiler_code.specs.Steps.{exec, values_in}
use Rattle.template_compiler_code.proofs.Rising.{exec_more}
use Rattle.template_compiler_code_shapes.specs.Laws.{EndsWith}
use Rattle.template_compiler_code_shapes.specs.Shapes.{start}
use Rattle.template_compiler_code_shapes.specs.Streams.{IsGood, begins}
use Rattle.template_compiler_code_shapes.specs.declared.StreamKind.{StreamKind}
use Rattle.template_compiler_code_shapes.specs.declared.StreamKind.TheVariants.{Template, Expression}
use Rattle.template_compiler_code_shapes.proofs.Ending.{ends_by}
use Rattle.template_machine_meaning.specs.Keeps.{KeepsFrames, KeepsWorld}
use Rattle.template_machine_meaning.specs.Keys as keys
use Rattle.template_machine_meaning.specs.Keys.{Key, Part, whole, body_of, rounds_of, own, whole_of}
use Rattle.template_machine_meaning.specs.Plans.{calls_block, caller_of, followed, outermost, put_back, ran, restarted}
use Rattle.template_machine_meaning.specs.Surroundings.{Programs, answer, runners}
use Rattle.template_machine_meaning.specs.World.{World, empty_frame, has_room}
use Rattle.template_machine_meaning.proofs.RunsKept.{all_kept, frames_stay, kept_back, own_stay, world_on}
use Rattle.template_machine_state.specs.Changes.{stream_begun}
use Rattle.template_machine_calls.specs.declared.rules.Rules.{Rules}
use Rattle.template_machine_going.specs.Outcomes.{Stops}
use Rattle.template_machine_going.specs.Spots.{Spot}
use Rattle.template_machine_going.specs.Stops.{Wants}
use Rattle.template_machine_going.specs.Strays.{IsLost, Strays}
use Rattle.template_machine_going.specs.Told.{no_memory, stop_of}
use Rattle.template_machine_going.specs.declared.stop.Stop.{Stop}
use Rattle.template_machine_going.specs.declared.stop.Stop.TheVariants.{Fault, Want}
use Rattle.template_machine_going.proofs.Paths.{paid_nothing}
use Rattle.template_machine_going.proofs.Staying.{uncut_stays}
use Rattle.template_machine_loop.specs.Performs.{spot}
use Rattle.template_machine_codes.proofs.Alike.{FollowedBy, ProgramsFollow, finished_alike, keys_alike}
use Rattle.template_machine_loop.specs.Programs.{Roots, Standing, body_in, code_at, kept_code, part_in, programs_of, programs_under}
use Rattle.template_machine_loop.specs.Runs.{Breaks, faulting, running_out, straying, EndsOver, EndsSo, KeyRuns}
use Rattle.template_machine_loop.proofs.Doing.{runner_there}
use Rattle.template_machine_loop.proofs.Restarts.{Reaches, reaches_itself, breaks_there, ends_there, lost_there, over_there, restarts_there}
use Rattle.template_machine_loop.proofs.Streams.{RunsCode, stream_stops}
use Rattle.template_machine_loop.proofs.Wrapping.{either_on}
use Rattle.template_machine_renders.specs.Handed.{ComesGiving, LeavesAtEnd, at_most_one, backed, begun_run, handed, own_run, stream_run}
use Rattle.template_machine_renders.specs.Renders.{RendersTo}
use Rattle.template_machine_renders.proofs.Coming.{ComeTo, breaks_meant, ends_meant, stops_so}

-- Runs that are all changed, but not in what they have left before.
module _ (f : Run World → Run World) (g : World → World) (on : (items : List Item) (r : Run World) → f (behind items r) ≡ behind items (f r))
    (faulted : (kinds : List ErrorKind) (w : World) → f (ended (faults kinds) w) ≡ ended (faults kinds) (g w))
    (lost : (e : End) (w : World) → IsLost e → f (ended e w) ≡ ended e (g w)) (runs : ℕ → Run World) (left rest : Option ℕ) (taken written : Option (List ℕ)) where
  changed_strays : Strays runs → Strays (λ n. f (runs n))
  changed_strays h = record {
    items = h.items;
    least = h.least;
    end = h.end;
    world = g h.world;
    is = λ n le. ap f (h.is n le) ∙ on h.items (ended h.end h.world) ∙ ap (behind h.items) (lost h.end h.world h.lost);
    lost = h.lost;
  }

  changed_wants : Wants runs left rest taken written → Wants (λ n. f (runs n)) left rest taken written
  changed_wants h = record {
    items = h.items;
    least = h.least;
    rest = λ n. f (h.rest n);
    remained = h.remained;
    is = λ n le. ap f (h.is n le) ∙ on h.items (h.rest n);
    pays = h.pays;
    stays = h.stays;
    text = h.text;
  }

  pub changed_breaks : (stop : Stop) (after : World) → Breaks runs stop after left rest taken written → Breaks (λ n. f (runs n)) stop (g after) left rest taken written
  changed_breaks (Fault kinds) after (faulting h) = faulting (record {
    items = h.items;
    least = h.least;
    is = λ n le. ap f (h.is n le) ∙ on h.items (ended (faults kinds) after) ∙ ap (behind h.items) (faulted kinds after);
    pays = h.pays;
    text = h.text;
  })
  changed_breaks (Fault kinds) after (running_out h) = running_out (record {
    items = h.items;
    least = h.least;
    wraps = h.wraps;
    rest = λ n. f (h.rest n);
    remained = h.remained;
    is = λ n le. ap f (h.is n le) ∙ on h.items (behind (paid h.wraps ∷ []) (h.rest n)) ∙ ap (behind h.items) (on (paid h.wraps ∷ []) (h.rest n));
    kinds_are = h.kinds_are;
    pays = h.pays;
    spent = h.spent;
    nothing = h.nothing;
    text = h.text;
  })
  changed_breaks (Fault kinds) after (straying why h) = straying why (changed_strays h)
  changed_breaks (Want kinds) after h = (h.0, either_on changed_wants changed_strays h.1)

-- whatever answers, a process that leaves so many values at its end leaves them, or none where a loop's rounds are left
abbrev Leaves : ℕ → Run World → Type 0
Leaves k r = (vs : List Val) → r.end ≡ ends vs → (vs ≡ []) ⊎ (length vs ≡ k)

told_leaves : (k : ℕ) (go : Answer → World → Run World) → ((a : Answer) (w : World) → Leaves k (go a w)) → (w : World) (t : Told) → Leaves k (go_on go w t)
told_leaves k go later w (tells a) vs is = later a w vs is
told_leaves k go later w (fails kinds) vs is = absurd (cc)
told_leaves k go later w breaks_off vs is = absurd (cc)
told_leaves k go later w leaves vs is = let same : [] ≡ vs = cc in inl (sym same)

run_leaves : (answers : World → Ask → Reply World) (k : ℕ) (p : Process) → EndsWith k p → (w : World) → Leaves k (run answers p w)
run_leaves answers k (over operands) left w vs is = let same : operands ≡ vs = cc in inr (ap (λ (us : List Val). length us) (sym same) ∙ left)
run_leaves answers k (step p) left w vs is = run_leaves answers k p left w vs is
run_leaves answers k (asks e go) left w vs is =
    told_leaves k (λ a v. run answers (go a) v) (λ a. run_leaves answers k (go a) (left a)) (answers w e).after (answers w e).told vs is
run_leaves answers k amiss left w vs is = absurd (cc)
run_leaves answers k cut_short left w vs is = absurd (cc)
run_leaves answers k stuck left w vs is = absurd left

-- so a template's stream leaves nothing, and an expression's one value at most
abbrev FewLeft : StreamKind → List Val → Type 0
FewLeft Template vs = vs ≡ []
FewLeft Expression vs = (vs ≡ []) ⊎ (length vs ≡ 1)

none_left : (vs : List Val) → (vs ≡ []) ⊎ (length vs ≡ 0) → vs ≡ []
none_left [] left = refl
none_left (v ∷ vs) (inl none) = none
none_left (v ∷ vs) (inr none) = absurd (omega (arith, none))

pub few_left : (s : Programs) (code : List Code) (w : World) (kind : StreamKind) → IsGood kind code → (vs : List Val) → LeavesAtEnd (own_run s code w) vs → FewLeft kind vs
few_left s code w Template good vs left =
    none_left vs (run_leaves (answer s left.0) 0 (exec code left.0 0 []) (ends_by Template code good left.0 0 start [] begins refl) w vs (left.1 left.0 (omega arith)))
few_left s code w Expression good vs left =
    run_leaves (answer s left.0) 1 (exec code left.0 0 []) (ends_by Expression code good left.0 0 start [] begins refl) w vs (left.1 left.0 (omega arith))

-- the uppermost value, if there is one, is the only one
one_alone : (v : Val) (vs : List Val) → (v ∷ vs ≡ []) ⊎ (length (v ∷ vs) ≡ 1) → vs ≡ []
one_alone v [] one = refl
one_alone v (u ∷ vs) (inl none) = absurd (cc)
one_alone v (u ∷ vs) (inr one) = absurd (omega (arith, one))

value_alone : (kind : StreamKind) (v : Val) (vs : List Val) → FewLeft kind (v ∷ vs) → vs ≡ []
value_alone Template v vs few = absurd (cc)
value_alone Expression v vs few = one_alone v vs few

pub value_only : (kind : StreamKind) (v : Val) (vs us : List Val) → us ≡ v ∷ vs → FewLeft kind us → us ≡ v ∷ []
value_only kind v vs us top few = top ∙ ap (λ (rest : List Val). v ∷ rest) (value_alone kind v vs (subst (FewLeft kind) top few))

pub no_value : {X : Type 0} (v : Val) (vs us : List Val) → us ≡ v ∷ vs → (kind : StreamKind) → FewLeft kind us → kind ≡ Template → X
no_value v vs us top kind few is = let none : us ≡ [] = subst (λ (k : StreamKind). FewLeft k us) is few in absurd (cc)

-- the key of a stream that is handed in runs its code
pub kept_there : (standing : List ℕ → Option Standing) (roots : Roots) (number : ℕ) (code : List Code) → roots.kept ≡ Some (number, code)
    → code_at standing roots (own (keys.kept number)) ≡ Some code
kept_there standing roots number code is =
    let itself : (number == number) ≡ true = grind (arith, nat_tests) in
    ap (option_and_then (kept_code number)) is ∙ ap (λ (b : Bool). if b then Some code else None) itself

-- a key that has no process has no run
missing : (s : Programs) (key : Key) → ((n : ℕ) → s.process n key ≡ None) → (n : ℕ) → runners s n key ≡ None
missing s key none zero =
    let f : Process → World → Run World = λ p w. ended breaks w in
    ap (option_map f) (none 0)
missing s key none (suc n) =
    let f : Process → World → Run World = λ p w. followed (runners s n) key.part (run (answer s n) p w) in
    ap (option_map f) (none n)

module _ (standing : List ℕ → Option Standing) (joins : Joins) (callables : Callables) (roots : Roots) (rules : Rules) (code : List Code) (w : World) (left : Option ℕ)
    (taken : Option (List ℕ)) where
  abbrev s : Programs
  s = programs_under standing joins callables roots rules

  abbrev first : Spot World
  first = spot 0 [] w left taken

  -- its own code comes to its end, with these operands
  module _ (operands : List Operand) (after : World) (rest : Option ℕ) (written : Option (List ℕ)) (h : EndsOver (answer s) code first operands after rest written) where
    own_ended : (n : ℕ) → h.least + h.bound ≤ n → own_run s code w n ≡ behind h.items (ended (ends (values_in operands)) after)
    own_ended n le =
        uncut_stays World (answer s) code n h.bound n first (omega (arith, le))
        (subst (λ (q : Run World). IsUncut q.end) (sym (h.is n (omega (arith, le)))) tt)
        ∙ h.is n (omega (arith, le))

    pub leaves_values : LeavesAtEnd (own_run s code w) (values_in operands)
    leaves_values = (h.least + h.bound, λ n le. ap (λ (r : Run World). r.end) (own_ended n le))

  module _ (number : ℕ) (is : roots.kept ≡ Some (number, code)) where
    runs_code : RunsCode s (handed number) code
    runs_code = record { is = λ n. ap (option_and_then (part_in n whole)) (kept_there standing roots number code is); part = refl }

    itself : Reaches s (handed number) w left taken (handed number) w left taken
    itself = reaches_itself s (handed number) w left taken

    -- it stops before its end
    pub followed_stops : {X : Type 0} (stop : Stop) (result : Result X Stop) (after : World) (rest : Option ℕ) (written : Option (List ℕ))
        → Stops (answer s) code first (spot 0 [] after rest written) stop → IsErrAnd result (λ told. told ≡ stop)
        → KeyRuns s (handed number) w left taken result after rest written
    followed_stops stop (Ok x) after rest written h told = absurd told
    followed_stops {X} stop (Err other) after rest written h told =
        subst (λ (t : Stop). KeyRuns {X = X} s (handed number) w left taken (Err t) after rest written) (sym told)
        (stream_stops s (handed number) code runs_code w left rest taken written stop after h)

    module _ (operands : List Operand) (after : World) (rest : Option ℕ) (written : Option (List ℕ)) (h : EndsOver (answer s) code first operands after rest written) where
      -- it extends no template
      pub followed_ends : {X : Type 0} (x : X) → after.parent ≡ None → KeyRuns s (handed number) w left taken (Ok x) after rest written
      followed_ends x alone =
          over_there s (handed number) w left taken (handed number) w left taken itself code runs_code (values_in operands) after rest written
          h.items h.least h.bound h.is h.pays h.text alone

      -- one that does not stand
      pub followed_lost : (X : Type 0) (name : List ℕ) (kinds : List ErrorKind) (begun : World) → after.parent ≡ Some name → standing name ≡ None
          → kinds ≡ TemplateNotFound ∷ [] → begun ≡ restarted name after → KeyRuns {X = X} s (handed number) w left taken (Err (Fault kinds)) begun rest written
      followed_lost X name kinds begun extends none are same =
          subst (λ (ks : List ErrorKind). KeyRuns {X = X} s (handed number) w left taken (Err (Fault ks)) begun rest written) (sym are)
          (subst (λ (v : World). KeyRuns {X = X} s (handed number) w left taken (Err (Fault (TemplateNotFound ∷ []))) v rest written) (sym same)
          (lost_there s (handed number) w left taken (handed number) w left taken itself code runs_code (values_in operands) after rest written
          h.items h.least h.bound h.is h.pays h.text name extends
          (missing s (whole_of (own (keys.standing name))) (λ n. ap (λ (o : Option Standing). option_and_then (part_in n whole) (option_map (λ (t : Standing). t.code) o)) none))))

      -- or one that does, and runs in its place
      module _ (name : List ℕ) (t : Standing) (begun : World) (extends : after.parent ≡ Some name) (there : standing name ≡ Some t) (same : begun ≡ restarted name after) where
        abbrev parent : Key
        parent = whole_of (own (keys.standing name))

        pub parent_there : code_at standing roots (own (keys.standing name)) ≡ Some t.code
        parent_there = ap (option_map (λ (u : Standing). u.code)) there

        reaches : Reaches s (handed number) w left taken parent begun rest written
        reaches =
            subst (λ (v : World). Reaches s (handed number) w left taken parent v rest written) (sym same)
            (restarts_there s (handed number) w left taken (handed number) w left taken itself code runs_code (values_in operands) after rest written
            h.items h.least h.bound h.is h.pays h.text name extends
            (λ n. runner_there s parent (λ m. exec t.code m 0 []) (λ m. ap (option_and_then (part_in m whole)) parent_there) n))

        pub followed_on : {X Y : Type 0} (x : X) (y : Y) (last : World) (later : Option ℕ) (more : Option (List ℕ))
            → KeyRuns s parent begun rest written (Ok x) last later more → KeyRuns s (handed number) w left taken (Ok y) last later more
        followed_on x y last later more k = ends_there s (handed number) w left taken parent begun rest written reaches last later more k

        pub followed_breaks : (X Y : Type 0) (stop : Stop) (last : World) (later : Option ℕ) (more : Option (List ℕ))
            → KeyRuns {X = X} s parent begun rest written (Err stop) last later more → KeyRuns {X = Y} s (handed number) w left taken (Err stop) last later more
        followed_breaks X Y stop last later more k = breaks_there s (handed number) w left taken parent begun rest written reaches stop last later more k

    -- it is told with the value that its own code leaves
    pub begun_comes : {X : Type 0} (x : X) (operands : List Val) (value : Option Val) (last : World) (rest : Option ℕ) (written : Option (List ℕ))
        → KeyRuns s (handed number) w left taken (Ok x) last rest written → LeavesAtEnd (own_run s code w) operands → operands ≡ at_most_one value
        → ComesGiving (own_run s code w) (begun_run s number w) left taken (Ok value) last rest written
    begun_comes x operands value last rest written k left_so are = (k, subst (LeavesAtEnd (own_run s code w)) are left_so)

    pub begun_breaks : (X : Type 0) (stop : Stop) (result : Result (Option Val) Stop) (last : World) (rest : Option ℕ) (written : Option (List ℕ))
        → KeyRuns {X = X} s (handed number) w left taken (Err stop) last rest written → IsErrAnd result (λ told. told ≡ stop)
        → ComesGiving (own_run s code w) (begun_run s number w) left taken result last rest written
    begun_breaks X stop (Ok value) last rest written k told = absurd told
    begun_breaks X stop (Err other) last rest written k told =
        subst (λ (t : Stop). ComesGiving (own_run s code w) (begun_run s number w) left taken (Err t) last rest written) (sym told) k

-- a stream that has begun, and behind which what was open before is put back
abbrev ends_backed : (w : World) (runs : ℕ → Run World) (after : World) (left rest : Option ℕ) (taken written : Option (List ℕ)) → EndsSo runs after left rest taken written
    → EndsSo (λ n. backed w (runs n)) (put_back (caller_of w) after) left rest taken written
ends_backed w runs after left rest taken written h = record {
  items = h.items;
  least = h.least;
  operands = h.operands;
  is = λ n le. ap (backed w) (h.is n le);
  pays = h.pays;
  text = h.text;
}

comes_backed : (w : World) (alone runs : ℕ → Run World) (left rest : Option ℕ) (taken written : Option (List ℕ)) (result : Result (Option Val) Stop) (after : World)
    → ComesGiving alone runs left taken result after rest written
    → ComesGiving alone (λ n. backed w (runs n)) left taken result (put_back (caller_of w) after) rest written
comes_backed w alone runs left rest taken written (Ok value) after h = (ends_backed w runs after left rest taken written h.0, h.1)
comes_backed w alone runs left rest taken written (Err stop) after h =
    changed_breaks (backed w) (put_back (caller_of w)) (λ items r. refl) (λ kinds v. refl) (λ e v lost. refl) runs left rest taken written stop after h

module _ (s : Programs) (code : List Code) (number : ℕ) (w : World) (left : Option ℕ) (taken : Option (List ℕ)) where
  abbrev own_begun : ℕ → Run World
  own_begun = own_run s code (stream_begun number w)

  -- where there is room for it
  pub stream_comes : has_room s.around.limit 1 w ≡ true → (begun : World) → begun ≡ stream_begun number w → (rest : Option ℕ) (written : Option (List ℕ))
      (result : Result (Option Val) Stop) (after back : World) → back ≡ put_back (caller_of w) after
      → ComesGiving (own_run s code begun) (begun_run s number begun) left taken result after rest written
      → ComesGiving own_begun (stream_run s number w) left taken result back rest written
  stream_comes room begun is rest written result after back same h =
      let there = comes_backed w own_begun (begun_run s number (stream_begun number w)) left rest taken written result after
      (subst (λ (v : World). ComesGiving (own_run s code v) (begun_run s number v) left taken result after rest written) is h) in
      subst (λ (v : World). ComesGiving own_begun (stream_run s number w) left taken result v rest written) (sym same)
      (subst
      (λ (b : Bool). ComesGiving own_begun (λ n. if b then backed w (begun_run s number (stream_begun number w) n) else ended (faults (InvalidOperation ∷ [])) w)
      left taken result (put_back (caller_of w) after) rest written) (sym room) there)

  -- where there is none
  pub stream_refused : has_room s.around.limit 1 w ≡ false → (kinds : List ErrorKind) → kinds ≡ InvalidOperation ∷ []
      → ComesGiving own_begun (stream_run s number w) left taken (Err (Fault kinds)) w left taken
  stream_refused full kinds are =
      subst (λ (ks : List ErrorKind). ComesGiving own_begun (stream_run s number w) left taken (Err (Fault ks)) w left taken) (sym are)
      (faulting (record {
        items = [];
        least = 0;
        is = λ n le.
            ap (λ (b : Bool). if b then backed w (begun_run s number (stream_begun number w) n) else ended (faults (InvalidOperation ∷ [])) w) full;
        pays = paid_nothing left;
        text = Appends-nil taken;
      }))

  -- or no memory for it
  pub stream_lacks : (kinds : List ErrorKind) (result : Result (Option Val) Stop) (after : World) → IsErrAnd result (λ told. told ≡ stop_of kinds) → NoMemory kinds
      → ComesGiving own_begun (stream_run s number w) left taken result after left taken
  stream_lacks kinds (Ok value) after is why = absurd is
  stream_lacks kinds (Err told) after is why =
      let wants : told ≡ no_memory = is ∙ ap stop_of why in
      subst (λ (t : Stop). ComesGiving own_begun (stream_run s number w) left taken (Err t) after left taken) (sym wants) (
        inl refl,
        inl (record {
          items = [];
          least = 0;
          rest = stream_run s number w;
          remained = left;
          is = λ n le. refl;
          pays = paid_nothing left;
          stays = inl refl;
          text = (0, Appends-nil taken);
        }),
      )

-- what goes on in the template that is extended keeps what every run keeps
pub restart_keeps : (w v u x : World) (name : List ℕ) → KeepsWorld w v → u ≡ restarted name v → KeepsWorld u x → KeepsWorld w x
restart_keeps w v u x name first same later =
    world_on w v x first (world_on v u x (subst (KeepsWorld v) (sym same) (all_kept v (restarted name v) refl refl)) later)

-- what a run within begins so leaves, with what was open before put back, keeps what every run keeps, and the frames
module _ (w begun after back : World) (number : ℕ) (is : begun ≡ stream_begun number w) (kept : KeepsWorld begun after) (same : back ≡ put_back (caller_of w) after) where
  from_begun : KeepsWorld (stream_begun number w) after
  from_begun = subst (λ (v : World). KeepsWorld v after) is kept

  frames_stay_so : outermost (length w.frames) after.frames ≡ w.frames
  frames_stay_so =
      let all : suc (length w.frames) ≤ suc (length w.frames) = omega arith in
      own_stay empty_frame w.frames after.frames (from_begun.frames all)

  pub stream_frames : back.frames ≡ w.frames
  stream_frames = ap (λ (v : World). v.frames) same ∙ frames_stay_so

  pub stream_keeps : KeepsWorld w back
  stream_keeps =
      subst (KeepsWorld w) (sym same)
      (kept_back w after from_begun.loaded.0 from_begun.loaded.1 from_begun.id from_begun.globals calls_block
      (λ many. subst (KeepsFrames w.floor w.frames) (sym frames_stay_so) (frames_stay w.floor w.frames many)) from_begun.blocks)

-- Code goes as far under a greater bound: so the programs of code follow themselves.
code_follows : (n : ℕ) (code : List Code) (place : ℕ) (operands : List Operand) → FollowedBy (Some (exec code n place operands)) (λ m. Some (exec code m place operands))
code_follows n code place operands = (n, λ m le. (exec code m place operands, refl, exec_more code n m le place operands))

body_follows : (n : ℕ) (vs : List Val) (code : List Code) (m : MacroPlace) (b : Bool)
    → FollowedBy (if b then Some (exec code n m.offset (map single vs)) else None) (λ j. if b then Some (exec code j m.offset (map single vs)) else None)
body_follows n vs code m true = code_follows n code m.offset (map single vs)
body_follows n vs code m false = λ j. refl

macro_follows : (n : ℕ) (vs : List Val) (code : List Code) (o : Option MacroPlace) → FollowedBy (option_and_then (body_in n vs code) o) (λ j. option_and_then (body_in j vs code) o)
macro_follows n vs code None = λ j. refl
macro_follows n vs code (Some m) = body_follows n vs code m (m.count == length vs)

rounds_follow : (n : ℕ) (code : List Code) (o : Option ℕ) → FollowedBy (option_map (λ place. exec code n place []) o) (λ j. option_map (λ place. exec code j place []) o)
rounds_follow n code None = λ j. refl
rounds_follow n code (Some place) = code_follows n code place []

part_follows : (n : ℕ) (part : Part) (code : List Code) → FollowedBy (part_in n part code) (λ j. part_in j part code)
part_follows n whole code = code_follows n code 0 []
part_follows n (body_of number vs) code = macro_follows n vs code (macro_at code number)
part_follows n (rounds_of number) code = rounds_follow n code (rounds_at code number)

stream_follows : (n : ℕ) (part : Part) (o : Option (List Code)) → FollowedBy (option_and_then (part_in n part) o) (λ j. option_and_then (part_in j part) o)
stream_follows n part None = λ j. refl
stream_follows n part (Some code) = part_follows n part code

module _ (standing : List ℕ → Option Standing) (joins : Joins) (callables : Callables) (roots : Roots) (name : List ℕ) (limit : ℕ) (mode : UndefinedBehavior) where
  abbrev ruled : Programs
  ruled = programs_of standing joins callables roots name limit mode

  follows_itself : ProgramsFollow ruled ruled
  follows_itself = record { around = refl; follow = λ n key. stream_follows n key.part (code_at standing roots key.stream) }

  -- what a key comes to where it is finished it comes to under every bound that is great enough, and so does a stream
  pub key_stays : (key : Key) (w : World) (n : ℕ) → IsFinished (ran (runners ruled n key) w).end → ComeTo (λ m. ran (runners ruled m key) w) (ran (runners ruled n key) w)
  key_stays key w n finished = keys_alike ruled ruled follows_itself key w n finished

  roomy_stays : (number : ℕ) (w : World) (n : ℕ) (b : Bool)
      → IsFinished (if b then backed w (begun_run ruled number (stream_begun number w) n) else ended (faults (InvalidOperation ∷ [])) w).end
      → ComeTo (λ m. if b then backed w (begun_run ruled number (stream_begun number w) m) else ended (faults (InvalidOperation ∷ [])) w)
      (if b then backed w (begun_run ruled number (stream_begun number w) n) else ended (faults (InvalidOperation ∷ [])) w)
  roomy_stays number w n true finished =
      let same = key_stays (handed number) (stream_begun number w) n finished in
      (same.0, λ m le. ap (backed w) (same.1 m le))
  roomy_stays number w n false finished = (0, λ m le. refl)

  come_there : (number : ℕ) (w : World) (n : ℕ) → IsFinished (stream_run ruled number w n).end → ComeTo (stream_run ruled number w) (stream_run ruled number w n)
  come_there number w n finished = roomy_stays number w n (has_room limit 1 w) finished

  pub stream_stays : (number : ℕ) (w : World) (n m : ℕ) → IsFinished (stream_run ruled number w n).end → IsFinished (stream_run ruled number w m).end
      → stream_run ruled number w n ≡ stream_run ruled number w m
  stream_stays number w n m finished ended =
      let one = come_there number w n finished in
      let other = come_there number w m ended in
      sym (one.1 (one.0 + other.0) (omega arith)) ∙ other.1 (one.0 + other.0) (omega arith)

  module _ (number : ℕ) (w after : World) (fuel left : Option ℕ) (before taken : Option (List ℕ)) (n : ℕ) (finished : IsFinished (stream_run ruled number w n).end) where
    come : ComeTo (stream_run ruled number w) (stream_run ruled number w n)
    come = come_there number w n finished

    -- a call that ran it answers as it ends, with its text, what it leaves of the fuel, and its world
    pub streams_render : (alone : ℕ → Run World) (result : Result (Option Val) Stop) → ComesGiving alone (stream_run ruled number w) fuel before result after left taken
        → RendersTo fuel (stream_run ruled number w n) result after left before taken
    streams_render alone (Ok value) h = ends_meant (stream_run ruled number w) (stream_run ruled number w n) after fuel left before taken come h.0
    streams_render alone (Err stop) h =
        stops_so (Option Val) (stream_run ruled number w n) after fuel left before taken stop finished
        (breaks_meant (stream_run ruled number w) (stream_run ruled number w n) stop after fuel left before taken come h)

  -- and gives the value that its own code leaves
  pub streams_give : (code : List Code) (w : World) (vs : List Val) (n : ℕ) → IsFinished (own_run ruled code w n).end → LeavesAtEnd (own_run ruled code w) vs
      → (own_run ruled code w n).end ≡ ends vs
  streams_give code w vs n finished left =
      let same = finished_alike ruled ruled follows_itself n (exec code n 0 []) w finished in
      let m = same.0 + left.0 + n in
      ap (λ (r : Run World). r.end) (sym (same.1 m (omega arith) (exec code m 0 []) (exec_more code n m (omega arith) 0 [])))
      ∙ left.1 m (omega arith)
