-- What calls enter comes to its end, where keys do one frame deeper: macros, rounds by their loop's name, and blocks for their
-- texts.
use Rattle.std.proofs.Common.{◌≡◌, ℕ, suc, ◌+◌, ◌<◌, ◌≤◌, Bool, true, false, List, [], ◌∷◌, length, slice_get, Option, None, Some, Result, Ok, Err, if◌then◌else◌, refl, subst, arith}
use Rattle.std.proofs.lemmas.Bool.Decides.{nat_tests}
use Rattle.template_values_errors.specs.declared.ErrorKind.{ErrorKind}
use Rattle.template_values_errors.specs.declared.ErrorKind.TheVariants.{InvalidOperation}
use Rattle.template_values_model.specs.Val.{Val}
use Rattle.template_values_operators.specs.Iterated.{iterated}
use Rattle.template_machine_meaning.specs.World.{Rounds, Loop, Frame, Macro, World, empty_frame, depth_of, has_room}
use Rattle.template_machine_meaning.specs.Records.{known_of, macro_of, loop_of}
use Rattle.template_machine_meaning.specs.Undefined.{forbids_iterating}
use Rattle.template_machine_meaning.specs.Replies.{refused, kinded, guarded}
use Rattle.template_machine_meaning.specs.Keys.{Home}
use Rattle.template_machine_meaning.specs.Bodies.{Bodies, bodies_at}
use Rattle.template_machine_meaning.specs.Plans.{Caller, Within, caller_of, after_by, calls_macro, takes_block, runs_rounds, Plan, replies, enters, room_for}
use Rattle.template_machine_meaning.specs.Blocks.{lacks_body, body_plan, bodies_plan, text_within}
use Rattle.template_machine_meaning.specs.Macros.{Bound, bound, handed_over, macro_levels, macro_within, bound_plan, macro_plan}
use Rattle.template_machine_meaning.specs.Rounds.{rounds_within, rounds_over, rounds_from, again_plan}
use Rattle.template_machine_meaning.specs.Surroundings.{Programs}
use Rattle.template_machine_meaning.proofs.Keeping.{Keeps, keeps_on, Ran, same_depth}
use Rattle.template_machine_meaning.proofs.Entering.{comes_so, Rounded, AllCome}
use Rattle.template_machine_meaning.proofs.Calling.{KeepsFor, PlanComes, Entered, Entries}
use Rattle.template_machine_meaning.proofs.Blocks.{begun_framed, text_back, macro_back, rounds_come, rounds_return}

macro_room : (limit depth pending : ℕ) (w : World) → depth ≤ depth_of w → has_room limit (macro_levels + pending) w ≡ true → depth < limit
macro_room limit depth pending w deep e = grind (arith, nat_tests)

text_room : (limit depth pending : ℕ) (w : World) → depth ≤ depth_of w → has_room limit (1 + pending) w ≡ true → depth < limit
text_room limit depth pending w deep e = grind (arith, nat_tests)

one_room : (limit depth : ℕ) (w : World) → depth ≤ depth_of w → has_room limit 1 w ≡ true → depth < limit
one_room limit depth w deep e = grind (arith, nat_tests)

module _ (names : List (List ℕ)) (s : Programs) (depth : ℕ) (deeper : AllCome names s depth) (base : World) (deep : depth ≤ depth_of base) (c : Caller) where
  abbrev Holds : World → Type 0
  Holds w = KeepsFor names base c w

  abbrev Enters : Within → Type 0
  Enters x = Entered s c (Keeps names base) x

  abbrev PlanSo : Plan → Type 0
  PlanSo p = PlanComes Holds Enters p

  refused_comes : (w : World) (kind : ErrorKind) → PlanSo (replies (refused w kind))
  refused_comes w kind = record { items = refl; told = tt }

  module _ (w : World) (kept : Holds w) where
    within_depth : depth ≤ depth_of w
    within_depth = omega (arith, deep, same_depth names base w kept.0)

    roomy_comes : (limit levels : ℕ) (x : Within) (b : Bool) → has_room limit levels w ≡ b → (has_room limit levels w ≡ true → Enters x)
        → PlanSo (if b then enters x else replies (refused w InvalidOperation))
    roomy_comes limit levels x true room entered = entered room
    roomy_comes limit levels x false room entered = refused_comes w InvalidOperation

    back_for : (f : Caller → World) → Keeps names w (f (caller_of w)) → Keeps names base (f c)
    back_for f back = subst (λ (d : Caller). Keeps names base (f d)) kept.1 (keeps_on names base w (f (caller_of w)) kept.0 back)

    -- a macro
    macro_entered : (pending : ℕ) (m : Macro) (b : Bound) → has_room s.around.limit (macro_levels + pending) w ≡ true → Enters (macro_within w pending m b)
    macro_entered pending m b room =
        let x = macro_within w pending m b in
        let f : Frame = record empty_frame { locals = b.locals; reads = m.closure } in
        let below : depth < suc (length w.frames) + (w.outer + 5 + pending) = omega (arith, within_depth) in
        record {
          comes =
              comes_so s x.key x.begins (Keeps names x.begins) (λ v. Keeps names base (after_by calls_macro c v))
              (λ v k. back_for (λ d. after_by calls_macro d v)
              (macro_back names w v None k.loops (let many : length w.captures ≤ length v.captures = omega (arith, k.captures, k.meets) in many) k.added))
              (deeper x.key x.begins (begun_framed names s depth deeper w within_depth x.begins f refl refl, refl) below (macro_room s.around.limit depth pending w within_depth room));
          text = λ v. (_, refl);
        }

    bound_comes : (pending : ℕ) (m : Macro) (r : Result Bound ErrorKind) → PlanSo (bound_plan s.around.limit pending w m r)
    bound_comes pending m (Ok b) =
        roomy_comes s.around.limit (macro_levels + pending) (macro_within w pending m b) (has_room s.around.limit (macro_levels + pending) w) refl (macro_entered pending m b)
    bound_comes pending m (Err kind) = refused_comes w kind

    macro_comes : (pending : ℕ) (vs : List Val) (o : Option Macro) → PlanSo (macro_plan s.around.limit pending w vs o)
    macro_comes pending vs None = refused_comes w InvalidOperation
    macro_comes pending vs (Some m) = bound_comes pending m (bound m (handed_over vs))

    -- rounds of a loop
    rounds_entered : (l : Loop) (rounds : Rounds) (vs : List Val) → has_room s.around.limit 1 w ≡ true → Enters (rounds_within w true l rounds vs)
    rounds_entered l rounds vs room =
        let x = rounds_within w true l rounds vs in
        record {
          comes =
              comes_so s x.key x.begins (Rounded names x.begins) (λ v. Keeps names base (after_by (runs_rounds true) c v))
              (λ v k. back_for (λ d. after_by (runs_rounds true) d v) (rounds_return names s depth deeper w within_depth true l rounds vs v k))
              (rounds_come names s depth deeper w within_depth true l rounds vs (one_room s.around.limit depth w within_depth room));
          text = λ v. (_, refl);
        }

    over_comes : (l : Loop) (rounds : Rounds) (r : Result (List Val) ErrorKind) → PlanSo (rounds_over s.around w true l rounds r)
    over_comes l rounds (Ok vs) =
        roomy_comes s.around.limit 1 (rounds_within w true l rounds vs) (has_room s.around.limit 1 w) refl (rounds_entered l rounds vs)
    over_comes l rounds (Err kind) = record { items = refl; told = tt }

    from_comes : (v : Val) (l : Loop) (o : Option Rounds) → PlanSo (rounds_from s.around w true v l o)
    from_comes v l None = refused_comes w InvalidOperation
    from_comes v l (Some rounds) = over_comes l rounds (guarded (forbids_iterating s.around.undefined v) (kinded (iterated (known_of w) v)))

    again_comes : (vs : List Val) (o : Option Loop) → PlanSo (again_plan s.around w vs o)
    again_comes (v ∷ []) (Some l) = from_comes v l l.rounds
    again_comes (v ∷ []) None = refused_comes w InvalidOperation
    again_comes [] o = refused_comes w InvalidOperation
    again_comes (v ∷ u ∷ vs) o = refused_comes w InvalidOperation

    -- a block's text
    text_entered : (pending : ℕ) (name : List ℕ) (home : Home) → has_room s.around.limit (1 + pending) w ≡ true → Enters (text_within w pending name home)
    text_entered pending name home room =
        let x = text_within w pending name home in
        let below : depth < suc (length w.frames) + (w.outer + pending) = omega (arith, within_depth) in
        record {
          comes =
              comes_so s x.key x.begins (Ran names x.begins) (λ v. Keeps names base (after_by takes_block c v))
              (λ v k. back_for (λ d. after_by takes_block d v)
              (text_back names w v None k.loops (let many : length w.captures ≤ length v.captures = omega (arith, k.captures) in many) k.loads k.added))
              (deeper x.key x.begins (begun_framed names s depth deeper w within_depth x.begins empty_frame refl refl, refl) below (text_room s.around.limit depth pending w within_depth room));
          text = λ v. (_, refl);
        }

    abbrev text_entering : ℕ → List ℕ → Home → Plan
    text_entering pending name home = room_for s.around.limit (1 + pending) w (text_within w pending name home)

    lacking_comes : (pending : ℕ) (name : List ℕ) (home : Home) (b : Bool) → PlanSo (if b then replies (refused w InvalidOperation) else text_entering pending name home)
    lacking_comes pending name home true = refused_comes w InvalidOperation
    lacking_comes pending name home false =
        roomy_comes s.around.limit (1 + pending) (text_within w pending name home) (has_room s.around.limit (1 + pending) w) refl (text_entered pending name home)

    body_comes : (pending : ℕ) (name : List ℕ) (b : Bodies) (o : Option Home) → PlanSo (body_plan s.around w name (text_entering pending name) b o)
    body_comes pending name b None = record { items = refl; told = tt }
    body_comes pending name b (Some home) = lacking_comes pending name home (lacks_body s.around name home b.homes)

    bodies_come : (pending : ℕ) (name : List ℕ) (o : Option Bodies) → PlanSo (bodies_plan s.around w name (text_entering pending name) o)
    bodies_come pending name None = record { items = refl; told = tt }
    bodies_come pending name (Some b) = body_comes pending name b (slice_get b.homes b.place)

  pub entries : Entries Holds Enters s.around
  entries = record {
    turns = λ x t e. record { comes = e.comes; text = e.text };
    macros = λ pending w kept vs id number. macro_comes w kept pending vs (macro_of w id number);
    rounds = λ w kept vs id number. again_comes w kept vs (loop_of w id number);
    texts = λ pending w kept name. bodies_come w kept pending name (bodies_at name w.blocks);
  }
