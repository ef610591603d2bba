-- Calls of blocks and of what stands behind them settle, where keys come to their ends one frame deeper; and so does what is
-- loaded to be extended.
use Rattle.std.proofs.Common.{◌≡◌, ℕ, inr, suc, ◌+◌, ◌<◌, ◌≤◌, Bool, true, false, ◌||◌, List, [], ◌∷◌, ◌++◌, length, slice_get, Option, None, Some, Result, Ok, Err, is_some, refl, sym, ap, subst, ◌∙◌, arith}
use Rattle.std.specs.Prelude.{if◌then◌else◌}
use Rattle.std.proofs.lemmas.Bool.Decides.{nat_tests}
use Rattle.std.proofs.lemmas.List.{length-map}
use Rattle.template_values_errors.specs.declared.ErrorKind.{ErrorKind}
use Rattle.template_values_errors.specs.declared.ErrorKind.TheVariants.{InvalidOperation, UnknownFunction, TemplateNotFound, UnknownBlock}
use Rattle.template_values_model.specs.Val.{Val}
use Rattle.template_values_core.specs.Answers.{text_in}
use Rattle.template_values_operators.specs.Iterated.{iterated}
use Rattle.template_compiler_process.specs.Process as events
use Rattle.template_compiler_process.specs.Process.{Ask, begin_capture, end_capture, load_blocks, Answer, done, value, tells, fails, breaks_off, Process, step, asks, on_done, on_value}
use Rattle.template_compiler_process.specs.Trace.{Reply}
use Rattle.template_compiler_walk.specs.Expressions.{block_walk}
use Rattle.template_machine_meaning.specs.World.{Rounds, Loop, Frame, Capture, keeps, drops, World, empty_frame, loop_frame, seen_frames, depth_of, has_room}
use Rattle.template_machine_meaning.specs.Captures.{captured, innermost, around_innermost, is_dropping}
use Rattle.template_machine_meaning.specs.Bodies.{Bodies, bodies_at, with_bodies}
use Rattle.template_machine_meaning.specs.Names.{name_of}
use Rattle.template_machine_meaning.specs.Replies.{told, changed, refused, kinded, guarded}
use Rattle.template_machine_meaning.specs.Records.{known_of}
use Rattle.template_machine_meaning.specs.Undefined.{forbids_iterating}
use Rattle.template_machine_meaning.specs.Keys.{Home, standing, Head}
use Rattle.template_machine_meaning.specs.Plans.{calls_block, takes_block, calls_super, calls_macro, runs_rounds, Within, Plan, replies, enters, room_for, outermost, caller_of, after_by, settled}
use Rattle.template_machine_meaning.specs.Blocks.{captured_if, block_within, lacks_body, body_plan, bodies_plan, block_plan, super_within, behind_plan, super_in, super_from, super_called, is_among, loaded_head, loaded_as, loaded_named, load_plan}
use Rattle.template_machine_meaning.specs.Rounds.{loop_again, rounds_within, rounds_over, rounds_from, innermost_loop, recursed}
use Rattle.template_machine_meaning.specs.Laws.{MayGoRound}
use Rattle.template_machine_meaning.specs.Surroundings.{plan, Programs, runners, answer}
use Rattle.template_machine_meaning.proofs.Outermost.{length_outermost, outermost_all, outermost_append, outermost_behind, outermost_map}
use Rattle.template_machine_meaning.proofs.Settling.{Settles, answered, settles_then, settles_now, settles_step, settles_given, settles_done, settles_refused, settles_to}
use Rattle.template_machine_meaning.proofs.Keeping.{Keeps, Ran, keeps_itself, keeps_on, loops_of, met, unloaded, one_fewer, IsFramed, same_depth, capturing_in, caught}
use Rattle.template_machine_meaning.proofs.Entering.{KeyComes, Rounded, AllCome, settles_entered}

-- what is given leaves a world that keeps what the base has
abbrev pub Kept : {O : Type 0} → List (List ℕ) → World → O → World → Type 0
Kept names base o y = Keeps names base y

-- an event that fails by kinds
pub settles_failed : {O : Type 0} (s : Programs) (w : World) (shape : O → World → Type 0) (e : Ask) (kinds : List ErrorKind) (K : (O → Process) → Answer → Process)
    → ((n : ℕ) → answer s n w e ≡ told w (fails kinds)) → Settles {O = O} s w shape (λ m go. asks e (K go))
settles_failed s w shape e kinds K is = inr (record {
  items = [];
  least = 0;
  kinds = kinds;
  after = w;
  is = λ n m le ge go. answered s w e (told w (fails kinds)) K is n go;
})

-- a frame of its own and more captures are cut behind a run within
loops_back : (w v : World) (loop : Option Loop) → loops_of v.frames ≡ loop ∷ loops_of w.frames → loops_of (outermost (length w.frames) v.frames) ≡ loops_of w.frames
loops_back w v loop e =
    let many : length (loops_of w.frames) ≡ length w.frames = length-map w.frames (λ (f : Frame). f.loop) in
    let all : length w.frames ≤ length (loops_of w.frames) = omega (arith, many) in
    outermost_map (λ (f : Frame). f.loop) (length w.frames) v.frames ∙ ap (λ (loops : List (Option Loop)). outermost (length w.frames) loops) e
    ∙ outermost_behind (length w.frames) loop (loops_of w.frames) all ∙ outermost_all (length w.frames) (loops_of w.frames) many

module _ (names : List (List ℕ)) (w v : World) (loop : Option Loop) (loops : loops_of v.frames ≡ loop ∷ loops_of w.frames) where
  module _ (captures : length w.captures ≤ length v.captures) where
    many_captures : length (outermost (length w.captures) v.captures) + met w.parent ≡ length w.captures + met w.parent
    many_captures = ap (λ n. n + met w.parent) (length_outermost (length w.captures) v.captures captures)

    meets : met w.parent ≤ met w.parent
    meets = omega arith

    module _ (loads : unloaded names v.loaded ≤ unloaded names w.loaded) (added : (more : List (List ℕ)) × (v.loaded ≡ more ++ w.loaded)) where
      fewer : unloaded names v.loaded + met w.parent ≤ unloaded names w.loaded + met w.parent
      fewer = omega (arith, loads)

      block_back : Keeps names w (after_by calls_block (caller_of w) v)
      block_back = record { loops = loops_back w v loop loops; outer = refl; floor = refl; saved = refl; captures = many_captures; meets = meets; loads = fewer; added = added }

      pub text_back : Keeps names w (after_by takes_block (caller_of w) v)
      text_back = record { loops = loops_back w v loop loops; outer = refl; floor = refl; saved = refl; captures = many_captures; meets = meets; loads = fewer; added = added }

      super_back : (named : Bool) (name : List ℕ) (place : ℕ) → Keeps names w (after_by (calls_super named name place) (caller_of w) v)
      super_back named name place = record { loops = loops_back w v loop loops; outer = refl; floor = refl; saved = refl; captures = many_captures; meets = meets; loads = fewer; added = added }

    -- what a macro loaded is put back
    pub macro_back : (added : (more : List (List ℕ)) × (v.loaded ≡ more ++ w.loaded)) → Keeps names w (after_by calls_macro (caller_of w) v)
    macro_back added =
        let same : outermost (length w.loaded) v.loaded ≡ w.loaded =
        ap (λ (xs : List (List ℕ)). outermost (length w.loaded) xs) added.1 ∙ outermost_append (length w.loaded) added.0 w.loaded refl in
        let as_many : unloaded names w.loaded + met w.parent ≤ unloaded names w.loaded + met w.parent = omega arith in
        record {
          loops = loops_back w v loop loops;
          outer = refl;
          floor = refl;
          saved = refl;
          captures = many_captures;
          meets = meets;
          loads = subst (λ (xs : List (List ℕ)). unloaded names xs + met w.parent ≤ unloaded names w.loaded + met w.parent) (sym same) as_many;
          added = ([], same);
        }

  -- rounds that are called belong to the run that calls them; by a name they write into a capture
  inner_one : (captures : List Capture) (n : ℕ) → suc n ≤ length captures → length (around_innermost captures) + 1 ≡ length captures
  inner_one [] n some = absurd (omega (arith, some))
  inner_one (c ∷ captures) n some = omega arith

  pub rounds_kept : (named : Bool) → length v.captures + met w.parent ≡ length (captured_if named w.captures) + met v.parent → met w.parent ≤ met v.parent
      → unloaded names v.loaded + met v.parent ≤ unloaded names w.loaded + met w.parent → (more : List (List ℕ)) × (v.loaded ≡ more ++ w.loaded)
      → Keeps names w (after_by (runs_rounds named) (caller_of w) v)
  rounds_kept false captures meet_more loads added =
      record { loops = loops_back w v loop loops; outer = refl; floor = refl; saved = refl; captures = captures; meets = meet_more; loads = loads; added = added }
  rounds_kept true captures meet_more loads added =
      let written : length v.captures + met w.parent ≡ suc (length w.captures) + met v.parent = captures in
      let some : suc (length w.captures) ≤ length v.captures = omega (arith, written, meet_more) in
      let one : length (around_innermost v.captures) + 1 ≡ length v.captures = inner_one v.captures (length w.captures) some in
      let same : length (around_innermost v.captures) + met w.parent ≡ length w.captures + met v.parent = omega (arith, one, written) in
      record { loops = loops_back w v loop loops; outer = refl; floor = refl; saved = refl; captures = same; meets = meet_more; loads = loads; added = added }

-- where there is room, the run within begins deeper
is_deeper : (limit depth : ℕ) (w : World) → depth ≤ depth_of w → depth < suc (length w.frames) + w.outer
is_deeper limit depth w deep = omega (arith, deep)

has_room_left : (limit depth : ℕ) (w : World) → depth ≤ depth_of w → has_room limit 1 w ≡ true → depth < limit
has_room_left limit depth w deep e = grind (arith, nat_tests)

module _ (names : List (List ℕ)) (s : Programs) (depth : ℕ) (deeper : AllCome names s depth) (w : World) (deep : depth ≤ depth_of w) where
  -- an event that a plan answers
  module _ (O : Type 0) (e : Ask) (read : (O → Process) → Answer → Process) where
    abbrev PlanSettles : Plan → Type 0
    PlanSettles p = plan s.around w e ≡ p → Settles {O = O} s w (Kept names w) (λ m go. asks e (read go))

    either_settles : (b : Bool) (p q : Plan) → PlanSettles p → PlanSettles q → PlanSettles (if b then p else q)
    either_settles true p q first second = first
    either_settles false p q first second = second

    refused_settles : (kind : ErrorKind) → PlanSettles (replies (refused w kind))
    refused_settles kind planned = settles_refused s w (Kept names w) e kind (λ m go. read go) (λ n. ap (settled (runners s n) w) planned)

    failed_settles : (kinds : List ErrorKind) → PlanSettles (replies (told w (fails kinds)))
    failed_settles kinds planned = settles_failed s w (Kept names w) e kinds read (λ n. ap (settled (runners s n) w) planned)

    roomy_settles : (x : Within) (b : Bool) → has_room s.around.limit 1 w ≡ b → (depth < s.around.limit → PlanSettles (enters x))
        → PlanSettles (if b then enters x else replies (refused w InvalidOperation))
    roomy_settles x true room settle = settle (has_room_left s.around.limit depth w deep room)
    roomy_settles x false room settle = refused_settles InvalidOperation

  -- it begins in a frame of its own
  pub begun_framed : (begins : World) (f : Frame) → begins.frames ≡ f ∷ w.frames → begins.floor ≡ suc (length w.frames) → IsFramed begins
  begun_framed begins f frames floor =
      let many : length begins.frames ≡ suc (length w.frames) = ap (λ (fs : List Frame). length fs) frames in
      let floored : begins.floor ≤ length begins.frames = omega (arith, many, floor) in
      record { loop = f.loop; others = loops_of w.frames; loops = ap loops_of frames; floor = floored }

  -- rounds are called in the place of a print
  pub rounds_begin : (named : Bool) (l : Loop) (rounds : Rounds) (vs : List Val) → MayGoRound (rounds_within w named l rounds vs).begins
  rounds_begin named l rounds vs =
      record { frame = loop_frame (loop_again w l rounds vs); frames = w.frames; is = refl; floor = refl; loop = loop_again w l rounds vs; looping = refl; called = refl }

  pub rounds_come : (named : Bool) (l : Loop) (rounds : Rounds) (vs : List Val) → depth < s.around.limit
      → KeyComes s (rounds_within w named l rounds vs).key (rounds_within w named l rounds vs).begins (Rounded names (rounds_within w named l rounds vs).begins)
  rounds_come named l rounds vs room =
      let x = rounds_within w named l rounds vs in
      deeper x.key x.begins (rounds_begin named l rounds vs) (is_deeper s.around.limit depth w deep) room

  pub rounds_return : (named : Bool) (l : Loop) (rounds : Rounds) (vs : List Val) (v : World) → Rounded names (rounds_within w named l rounds vs).begins v
      → Keeps names w (after_by (runs_rounds named) (caller_of w) v)
  rounds_return named l rounds vs v k = rounds_kept names w v (Some k.0) k.1.loops named k.1.captures k.1.meets k.1.loads k.1.added

  -- a block
  abbrev done_read : (Unit {0} → Process) → Answer → Process
  done_read go = on_done (go tt)

  block_entered : (name : List ℕ) (home : Home) → depth < s.around.limit → PlanSettles (Unit {0}) (events.call_block name) done_read (enters (block_within w name home))
  block_entered name home room planned =
      let x = block_within w name home in
      settles_entered (Unit {0}) s w (events.call_block name) (Kept names w) done_read x planned (Ran names x.begins)
      (deeper x.key x.begins (begun_framed x.begins empty_frame refl refl, refl) (is_deeper s.around.limit depth w deep) room)
      (λ v k. (tt, block_back names w v None k.loops (let many : length w.captures ≤ length v.captures = omega (arith, k.captures) in many) k.loads k.added, λ go. refl))

  abbrev block_entering : List ℕ → Home → Plan
  block_entering name home = room_for s.around.limit 1 w (block_within w name home)

  body_settles : (name : List ℕ) (b : Bodies) (o : Option Home) → PlanSettles (Unit {0}) (events.call_block name) done_read (body_plan s.around w name (block_entering name) b o)
  body_settles name b None = refused_settles (Unit {0}) (events.call_block name) done_read UnknownBlock
  body_settles name b (Some home) =
      let x = block_within w name home in
      either_settles (Unit {0}) (events.call_block name) done_read (lacks_body s.around name home b.homes) (replies (refused w InvalidOperation))
      (if has_room s.around.limit 1 w then enters x else replies (refused w InvalidOperation))
      (refused_settles (Unit {0}) (events.call_block name) done_read InvalidOperation)
      (roomy_settles (Unit {0}) (events.call_block name) done_read x (has_room s.around.limit 1 w) refl (block_entered name home))

  bodies_settle : (name : List ℕ) (o : Option Bodies) → PlanSettles (Unit {0}) (events.call_block name) done_read (bodies_plan s.around w name (block_entering name) o)
  bodies_settle name None = refused_settles (Unit {0}) (events.call_block name) done_read UnknownBlock
  bodies_settle name (Some b) = body_settles name b (slice_get b.homes b.place)

  nothing_settles : (e : Ask) → PlanSettles (Unit {0}) e done_read (replies (told w (tells done)))
  nothing_settles e planned = settles_done s w w (Kept names w) e (keeps_itself names w) (λ n. ap (settled (runners s n) w) planned)

  pub settles_block : (name : List ℕ) → Settles {O = Unit {0}} s w (Kept names w) (λ m go. asks (events.call_block name) (on_done (go tt)))
  settles_block name =
      either_settles (Unit {0}) (events.call_block name) done_read (is_some w.parent || is_dropping w.captures) (replies (told w (tells done))) (block_plan s.around w name)
      (nothing_settles (events.call_block name)) (bodies_settle name (bodies_at name w.blocks)) refl

  -- what stands behind a block: printed, or by a name
  super_room : (named : Bool) (name : List ℕ) (place : ℕ) (home : Home) → depth < s.around.limit
      → KeyComes s (super_within w named name place home).key (super_within w named name place home).begins (Ran names (super_within w named name place home).begins)
  super_room named name place home room =
      let x = super_within w named name place home in
      deeper x.key x.begins (begun_framed x.begins empty_frame refl refl, refl) (is_deeper s.around.limit depth w deep) room

  printed_entered : (name : List ℕ) (place : ℕ) (home : Home) → depth < s.around.limit
      → PlanSettles (Unit {0}) events.super_block done_read (enters (super_within w false name place home))
  printed_entered name place home room planned =
      let x = super_within w false name place home in
      settles_entered (Unit {0}) s w events.super_block (Kept names w) done_read x planned (Ran names x.begins) (super_room false name place home room)
      (λ v k. (tt, super_back names w v None k.loops (let many : length w.captures ≤ length v.captures = omega (arith, k.captures) in many) k.loads k.added false name place, λ go. refl))

  named_entered : (e : Ask) (name : List ℕ) (place : ℕ) (home : Home) → depth < s.around.limit → PlanSettles Val e on_value (enters (super_within w true name place home))
  named_entered e name place home room planned =
      let x = super_within w true name place home in
      settles_entered Val s w e (Kept names w) on_value x planned (Ran names x.begins) (super_room true name place home room)
      (λ v k. (
        captured w.escape (innermost (outermost (suc (length w.captures)) v.captures)),
        super_back names w v None k.loops (let many : length w.captures ≤ length v.captures = omega (arith, k.captures) in many) k.loads k.added true name place,
        λ go. refl,
      ))

  module _ (O : Type 0) (e : Ask) (read : (O → Process) → Answer → Process) (named : Bool)
      (entered : (name : List ℕ) (place : ℕ) (home : Home) → depth < s.around.limit → PlanSettles O e read (enters (super_within w named name place home))) where
    behind_settles : (name : List ℕ) (place : ℕ) (o : Option Home) → PlanSettles O e read (behind_plan s.around w named name place o)
    behind_settles name place None = refused_settles O e read InvalidOperation
    behind_settles name place (Some home) =
        roomy_settles O e read (super_within w named name place home) (has_room s.around.limit 1 w) refl (entered name place home)

    super_in_settles : (name : List ℕ) (o : Option Bodies) → PlanSettles O e read (super_in s.around w named name o)
    super_in_settles name None = refused_settles O e read InvalidOperation
    super_in_settles name (Some b) = behind_settles name b.place (slice_get b.homes (suc b.place))

    super_settles : (o : Option (List ℕ)) → PlanSettles O e read (super_from s.around w named o)
    super_settles None = refused_settles O e read InvalidOperation
    super_settles (Some name) = super_in_settles name (bodies_at name w.blocks)

  pub settles_super_block : Settles {O = Unit {0}} s w (Kept names w) (λ m go. asks events.super_block (on_done (go tt)))
  settles_super_block = super_settles (Unit {0}) events.super_block done_read false printed_entered w.block refl

  -- the rounds of the innermost loop, printed
  rounds_entered : (e : Ask) (l : Loop) (rounds : Rounds) (vs : List Val) → depth < s.around.limit → PlanSettles (Unit {0}) e done_read (enters (rounds_within w false l rounds vs))
  rounds_entered e l rounds vs room planned =
      let x = rounds_within w false l rounds vs in
      settles_entered (Unit {0}) s w e (Kept names w) done_read x planned (Rounded names x.begins) (rounds_come false l rounds vs room)
      (λ v k. (tt, rounds_return false l rounds vs v k, λ go. refl))

  over_settles : (e : Ask) (l : Loop) (rounds : Rounds) (r : Result (List Val) ErrorKind) → PlanSettles (Unit {0}) e done_read (rounds_over s.around w false l rounds r)
  over_settles e l rounds (Ok vs) = roomy_settles (Unit {0}) e done_read (rounds_within w false l rounds vs) (has_room s.around.limit 1 w) refl (rounds_entered e l rounds vs)
  over_settles e l rounds (Err kind) = failed_settles (Unit {0}) e done_read (InvalidOperation ∷ kind ∷ [])

  from_settles : (e : Ask) (v : Val) (l : Loop) (o : Option Rounds) → PlanSettles (Unit {0}) e done_read (rounds_from s.around w false v l o)
  from_settles e v l None = refused_settles (Unit {0}) e done_read InvalidOperation
  from_settles e v l (Some rounds) = over_settles e l rounds (guarded (forbids_iterating s.around.undefined v) (kinded (iterated (known_of w) v)))

  recursed_settles : (v : Val) (o : Option Loop) → PlanSettles (Unit {0}) (events.recurse v) done_read (recursed s.around w v o)
  recursed_settles v None = refused_settles (Unit {0}) (events.recurse v) done_read UnknownFunction
  recursed_settles v (Some l) = from_settles (events.recurse v) v l l.rounds

  pub settles_recurse : (v : Val) → Settles {O = Unit {0}} s w (Kept names w) (λ m go. asks (events.recurse v) (on_done (go tt)))
  settles_recurse v = recursed_settles v (innermost_loop (seen_frames w)) refl

  pub settles_super : (e : Ask) (vs : List Val) → plan s.around w e ≡ super_called s.around w vs → Settles {O = Val} s w (Kept names w) (λ m go. asks e (on_value go))
  settles_super e [] planned = super_settles Val e on_value true (named_entered e) w.block planned
  settles_super e (v ∷ vs) planned = refused_settles Val e on_value InvalidOperation planned

-- a template that is extended is loaded, where the names are all that stand
module _ (names : List (List ℕ)) (s : Programs) (lists : (name : List ℕ) (h : Head) → s.around.head (standing name) ≡ Some h → is_among name names ≡ true)
    (w : World) (v : Val) where
  abbrev LoadSettles : Plan → Type 0
  LoadSettles p = plan s.around w (load_blocks v) ≡ p → Settles {O = Unit {0}} s w (Kept names w) (λ m go. asks (load_blocks v) (on_done (go tt)))

  load_refused : (kind : ErrorKind) → LoadSettles (replies (refused w kind))
  load_refused kind planned = settles_refused s w (Kept names w) (load_blocks v) kind (λ m go. on_done (go tt)) (λ n. ap (settled (runners s n) w) planned)

  load_failed : (kinds : List ErrorKind) → LoadSettles (replies (told w (fails kinds)))
  load_failed kinds planned = settles_failed s w (Kept names w) (load_blocks v) kinds (λ go. on_done (go tt)) (λ n. ap (settled (runners s n) w) planned)

  module _ (none : w.parent ≡ None) where
    head_settles : (name : List ℕ) → is_among name w.loaded ≡ false → (o : Option Head) → s.around.head (standing name) ≡ o → LoadSettles (loaded_head w name o)
    head_settles name new None is = load_refused TemplateNotFound
    head_settles name new (Some h) is = λ planned.
        let z : World = record w {
          parent = Some name;
          blocks = with_bodies (standing name) h.blocks w.blocks;
          loaded = name ∷ w.loaded;
          captures = drops ∷ w.captures;
        } in
        let nothing : met w.parent ≡ 0 = ap met none in
        let few : suc (unloaded names (name ∷ w.loaded)) ≤ unloaded names w.loaded = one_fewer name w.loaded new names (lists name h is) in
        let captures : suc (length w.captures) + met w.parent ≡ length w.captures + 1 = omega (arith, nothing) in
        let meets : met w.parent ≤ 1 = omega (arith, nothing) in
        let loads : unloaded names (name ∷ w.loaded) + 1 ≤ unloaded names w.loaded + met w.parent = omega (arith, few) in
        let kept : Keeps names w z = record { loops = refl; outer = refl; floor = refl; saved = refl; captures = captures; meets = meets; loads = loads; added = (name ∷ [], refl) } in
        settles_done s w z (Kept names w) (load_blocks v) kept (λ n. ap (settled (runners s n) w) planned)

    new_settles : (name : List ℕ) (b : Bool) → is_among name w.loaded ≡ b
        → LoadSettles (if b then replies (refused w InvalidOperation) else loaded_head w name (s.around.head (standing name)))
    new_settles name true is = load_refused InvalidOperation
    new_settles name false is = head_settles name is (s.around.head (standing name)) refl

    as_settles : (r : Result (List ℕ) (List ErrorKind)) → LoadSettles (loaded_as s.around w r)
    as_settles (Ok name) = new_settles name (is_among name w.loaded) refl
    as_settles (Err kinds) = load_failed kinds

    named_settles : (o : Option (List ℕ)) → LoadSettles (loaded_named s.around w o)
    named_settles None = load_refused InvalidOperation
    named_settles (Some name) = as_settles (s.around.joins name (name_of s.around w.here))

  load_settles : (parent : Option (List ℕ)) → w.parent ≡ parent → LoadSettles (load_plan s.around w parent v)
  load_settles None none = named_settles none (text_in v)
  load_settles (Some parent) some = load_refused InvalidOperation

  pub settles_load : Settles {O = Unit {0}} s w (Kept names w) (λ m go. asks (load_blocks v) (on_done (go tt)))
  settles_load = load_settles w.parent refl refl

-- the innermost of these captures ends
abbrev ended_among : World → List Capture → Reply World
ended_among w captures = elim captures [
  | [] ↦ told w breaks_off
  | c ∷ cs ↦ changed (record w { captures = cs }) (value (captured w.escape c))
]

pub settles_taken : (names : List (List ℕ)) (s : Programs) (base w : World) (c : Capture) → Keeps names (capturing_in base c) w
    → Settles {O = Val} s w (Kept names base) (λ m go. asks end_capture (on_value go))
settles_taken names s base w c inside =
    let k = caught names base w c inside in
    settles_given s w (record w { captures = k.rest }) (Kept names base) end_capture (captured w.escape k.capture) k.kept (λ n. ap (ended_among w) k.are)

-- a block's text
pub settles_block_text : (names : List (List ℕ)) (s : Programs) (depth : ℕ) → AllCome names s depth → (base : World) → depth ≤ depth_of base
    → (name : List ℕ) (w : World) → Keeps names base w → Settles {O = Val} s w (Kept names base) (λ m go. block_walk name go)
settles_block_text names s depth deeper base deep name w kept =
    let inside : World = capturing_in w (keeps []) in
    let same : depth_of w ≡ depth_of base = same_depth names base w kept in
    let within : depth ≤ depth_of inside = omega (arith, deep, same) in
    settles_to s w inside (Kept names base) (begin_capture true) (λ m go. step (asks (events.call_block name) (on_done (step (asks end_capture (on_value go)))))) (λ n. refl)
    (settles_step s inside (Kept names base) (λ m go. asks (events.call_block name) (on_done (step (asks end_capture (on_value go)))))
    (settles_then s inside (Kept names inside) (Kept names base) (λ m go. asks (events.call_block name) (on_done (go tt))) (λ o m go. step (asks end_capture (on_value go)))
    (settles_block names s depth deeper inside within name)
    (λ o y k. settles_step s y (Kept names base) (λ m go. asks end_capture (on_value go))
    (settles_then s y (Kept names w) (Kept names base) (λ m go. asks end_capture (on_value go)) (λ v m go. go v) (settles_taken names s w y (keeps []) k)
    (λ v z j. settles_now s z (Kept names base) v (keeps_on names base w z kept j))))))
