-- What an event enters comes to its end, where keys do one level deeper: blocks, what stands behind them, rounds of loops, macros, and
-- templates that are included.
use Rattle.std.proofs.Common.{◌≡◌, ℕ, suc, ◌+◌, ◌<◌, ◌≤◌, Bool, true, false, ◌||◌, List, [], ◌∷◌, ◌++◌, length, slice_get, Option, None, Some, Result, Ok, Err, is_some, refl, sym, ap, subst, ◌∙◌, arith}
use Rattle.std.specs.Prelude.{if◌then◌else◌}
use Rattle.std.proofs.lemmas.Bool.Decides.{nat_tests}
use Rattle.template_values_errors.specs.declared.ErrorKind.{ErrorKind}
use Rattle.template_values_errors.specs.declared.ErrorKind.TheVariants.{InvalidOperation, UnknownFunction, TemplateNotFound, UnknownBlock}
use Rattle.template_values_model.specs.Val.{Val}
use Rattle.template_values_core.specs.Answers.{text_in}
use Rattle.template_values_operators.specs.Iterated.{iterated}
use Rattle.template_compiler_process.specs.Process as events
use Rattle.template_compiler_process.specs.Process.{Ask, load_blocks, Answer, done, tells, fails, Process, asks, on_done, on_value}
use Rattle.template_machine_meaning.specs.World.{Rounds, Loop, Frame, Macro, Capture, drops, World, empty_frame, loop_frame, seen_frames, depth_of, has_room}
use Rattle.template_machine_meaning.specs.Captures.{captured, innermost, is_dropping}
use Rattle.template_machine_meaning.specs.Bodies.{Bodies, bodies_at, with_bodies}
use Rattle.template_machine_meaning.specs.Names.{name_of}
use Rattle.template_machine_meaning.specs.Replies.{told, refused, kinded, guarded}
use Rattle.template_machine_meaning.specs.Records.{known_of, macro_of, loop_of}
use Rattle.template_machine_meaning.specs.Undefined.{forbids_iterating}
use Rattle.template_machine_meaning.specs.Keys.{Home, standing, Key, Head}
use Rattle.template_machine_meaning.specs.Plans.{calls_block, takes_block, calls_super, calls_macro, runs_rounds, includes, with_writes, Caller, Within, Plan, replies, enters, room_for, outermost, caller_of, after_by, settled}
use Rattle.template_machine_meaning.specs.Blocks.{block_within, lacks_body, body_plan, bodies_plan, block_plan, text_within, super_within, behind_plan, super_in, super_from, super_called, is_among, loaded_head, loaded_as, loaded_named, load_plan}
use Rattle.template_machine_meaning.specs.Includes.{Found, Choice, choices_in, first_standing, include_levels, include_within, not_found, included_by, included_from}
use Rattle.template_machine_meaning.specs.Macros.{Bound, bound, handed_over, macro_levels, macro_within, bound_plan, macro_plan}
use Rattle.template_machine_meaning.specs.Rounds.{loop_again, rounds_within, rounds_over, rounds_from, again_plan, innermost_loop, recursed}
use Rattle.template_machine_meaning.specs.Laws.{MayGoRound}
use Rattle.template_machine_meaning.specs.Surroundings.{plan, Programs, runners}
use Rattle.template_machine_meaning.proofs.Keeping.{Keeps, keeps_on, loops_of, met, unloaded, one_fewer, same_many, same_depth, IsFramed}
use Rattle.template_machine_meaning.proofs.Outermost.{outermost_all, outermost_append}
use Rattle.template_machine_meaning.proofs.Entering.{Starts, Rounded, Leaves}
use Rattle.template_machine_meaning.proofs.Blocks.{text_back, macro_back, rounds_kept}
use Rattle.template_machine_meaning.proofs.Included.{loops_writes}
use Rattle.template_machine_meaning.proofs.Calling.{Stands}
use Rattle.template_machine_codes.proofs.Settling.{Settles, settles_failed, settles_done, KeyComes, comes_so, settles_entered}
use Rattle.template_machine_codes.proofs.Calling.{PlanComes, Entered, Entries}
use Rattle.template_machine_codes.specs.Streams.{Codes, IsBodyReached, AreRoundsReached, IsPartReached}
use Rattle.template_machine_codes.proofs.Sound.{Each, LoopSound, Sound, macro_sound, loop_sound, innermost_sound, Held, held_itself, held_after}

-- what a part keeps
abbrev pub LeavesSo : List (List ℕ) → Codes → Key → World → World → Type 0
LeavesSo names codes key w v = Leaves names key.part w v × Sound codes v

-- all keys that are reached come to their ends, where they begin so much deeper
abbrev pub AllReach : List (List ℕ) → Codes → Programs → ℕ → Type 0
AllReach names codes s depth = (key : Key) (w : World) → Starts key.part w → IsPartReached codes key.stream key.part → Sound codes w → w.here ≡ key.stream
    → depth < w.floor + w.outer → depth < s.around.limit → KeyComes codes s key w (LeavesSo names codes key w)

is_deeper : (limit depth : ℕ) (w : World) → depth ≤ depth_of w → depth < suc (length w.frames) + w.outer
is_deeper limit depth w deep = omega (arith, deep)

has_room_left : (limit depth : ℕ) (w : World) → depth ≤ depth_of w → has_room limit 1 w ≡ true → depth < limit
has_room_left limit depth w deep e = grind (arith, nat_tests)

macro_room : (limit depth pending : ℕ) (w : World) → depth ≤ depth_of w → has_room limit (macro_levels + pending) w ≡ true → depth < limit
macro_room limit depth pending w deep e = grind (arith, nat_tests)

text_room : (limit depth pending : ℕ) (w : World) → depth ≤ depth_of w → has_room limit (1 + pending) w ≡ true → depth < limit
text_room limit depth pending w deep e = grind (arith, nat_tests)

include_room : (limit depth : ℕ) (w : World) → depth ≤ depth_of w → has_room limit include_levels w ≡ true → depth < limit
include_room limit depth w deep e = grind (arith, nat_tests)

same_rounds : (a b : Rounds) → Some a ≡ Some b → a ≡ b
same_rounds a b e = cc

super_back : (names : List (List ℕ)) (w v : World) → Keeps names w (after_by takes_block (caller_of w) v) → (named : Bool) (name : List ℕ) (place : ℕ)
    → Keeps names w (after_by (calls_super named name place) (caller_of w) v)
super_back names w v k named name place =
    record { loops = k.loops; outer = k.outer; floor = k.floor; saved = k.saved; captures = k.captures; meets = k.meets; loads = k.loads; added = k.added }

include_back : (names : List (List ℕ)) (w v : World) → loops_of v.frames ≡ loops_of w.frames → length v.captures ≡ length w.captures → (more : List (List ℕ)) → v.loaded ≡ more ++ w.loaded
    → Keeps names w (after_by includes (caller_of w) v)
include_back names w v loops captures more loaded =
    let many : length v.frames ≡ length w.frames = same_many v.frames w.frames loops in
    let meets : met w.parent ≤ met w.parent = omega arith in
    let same : outermost (length w.loaded) v.loaded ≡ w.loaded =
    ap (λ (xs : List (List ℕ)). outermost (length w.loaded) xs) loaded ∙ outermost_append (length w.loaded) more w.loaded refl in
    let fewer : unloaded names w.loaded + met w.parent ≤ unloaded names w.loaded + met w.parent = omega arith in
    record {
      loops = loops_writes (caller_of w).writes (outermost (length w.frames) v.frames) ∙ ap loops_of (outermost_all (length w.frames) v.frames many) ∙ loops;
      outer = refl;
      floor = refl;
      saved = refl;
      captures = ap (λ (cs : List Capture). length cs + met w.parent) (outermost_all (length w.captures) v.captures captures) ∙ ap (λ n. n + met w.parent) captures;
      meets = meets;
      loads = subst (λ (xs : List (List ℕ)). unloaded names xs + met w.parent ≤ unloaded names w.loaded + met w.parent) (sym same) fewer;
      added = ([], same);
    }

module _ (names : List (List ℕ)) (codes : Codes) (s : Programs) (w : World) (sound : Sound codes w) where
  abbrev pub HeldSo : {O : Type 0} → O → World → Type 0
  HeldSo o v = Held names codes w v

  -- an event that a plan answers
  module _ (O : Type 0) (e : Ask) (read : (O → Process) → Answer → Process) where
    abbrev PlanSettles : Plan → Type 0
    PlanSettles p = plan s.around w e ≡ p → Settles codes {O = O} s w HeldSo (λ m go. asks e (read go))

    either_settles : (b : Bool) (p q : Plan) → PlanSettles p → PlanSettles q → PlanSettles (if b then p else q)
    either_settles true p q first second = first
    either_settles false p q first second = second

    refused_settles : (kind : ErrorKind) → PlanSettles (replies (refused w kind))
    refused_settles kind planned = settles_failed codes s w HeldSo e (kind ∷ []) read sound (λ n. ap (settled (runners s n) w) planned)

    failed_settles : (kinds : List ErrorKind) → PlanSettles (replies (told w (fails kinds)))
    failed_settles kinds planned = settles_failed codes s w HeldSo e kinds read sound (λ n. ap (settled (runners s n) w) planned)

    roomy_settles : (levels : ℕ) (x : Within) (b : Bool) → has_room s.around.limit levels w ≡ b → (has_room s.around.limit levels w ≡ true → PlanSettles (enters x))
        → PlanSettles (if b then enters x else replies (refused w InvalidOperation))
    roomy_settles levels x true room settle = settle room
    roomy_settles levels x false room settle = refused_settles InvalidOperation

  abbrev done_read : (Unit {0} → Process) → Answer → Process
  done_read go = on_done (go tt)

  nothing_settles : (e : Ask) → PlanSettles (Unit {0}) e done_read (replies (told w (tells done)))
  nothing_settles e planned = settles_done codes s w w HeldSo e (held_itself names codes w sound) (λ n. ap (settled (runners s n) w) planned)

  module _ (depth : ℕ) (deeper : AllReach names codes s depth) (deep : depth ≤ depth_of w) where
    -- what begins in a frame of its own
    begun_framed : (begins : World) (f : Frame) → begins.frames ≡ f ∷ w.frames → begins.floor ≡ suc (length w.frames) → IsFramed begins
    begun_framed begins f frames floor =
        let many : length begins.frames ≡ suc (length w.frames) = ap (λ (fs : List Frame). length fs) frames in
        let floored : begins.floor ≤ length begins.frames = omega (arith, many, floor) in
        record { loop = f.loop; others = loops_of w.frames; loops = ap loops_of frames; floor = floored }

    -- a block
    block_entered : (name : List ℕ) (home : Home) → has_room s.around.limit 1 w ≡ true → PlanSettles (Unit {0}) (events.call_block name) done_read (enters (block_within w name home))
    block_entered name home room planned =
        let x = block_within w name home in
        settles_entered codes (Unit {0}) s w sound (events.call_block name) HeldSo done_read x planned (LeavesSo names codes x.key x.begins) (λ v k. k.1)
        (deeper x.key x.begins (begun_framed x.begins empty_frame refl refl, refl) tt (record { macros = sound.macros; frames = (tt, sound.frames); closed = sound.closed }) refl
        (is_deeper s.around.limit depth w deep) (has_room_left s.around.limit depth w deep room))
        (λ v k. (tt, held_after names codes w calls_block v (text_back names w v None k.0.loops (let many : length w.captures ≤ length v.captures = omega (arith, k.0.captures) in many) k.0.loads k.0.added) k.1, λ go. refl))

    abbrev block_entering : List ℕ → Home → Plan
    block_entering name home = room_for s.around.limit 1 w (block_within w name home)

    body_settles : (name : List ℕ) (b : Bodies) (o : Option Home) → PlanSettles (Unit {0}) (events.call_block name) done_read (body_plan s.around w name (block_entering name) b o)
    body_settles name b None = refused_settles (Unit {0}) (events.call_block name) done_read UnknownBlock
    body_settles name b (Some home) =
        let x = block_within w name home in
        either_settles (Unit {0}) (events.call_block name) done_read (lacks_body s.around name home b.homes) (replies (refused w InvalidOperation))
        (if has_room s.around.limit 1 w then enters x else replies (refused w InvalidOperation))
        (refused_settles (Unit {0}) (events.call_block name) done_read InvalidOperation)
        (roomy_settles (Unit {0}) (events.call_block name) done_read 1 x (has_room s.around.limit 1 w) refl (block_entered name home))

    bodies_settle : (name : List ℕ) (o : Option Bodies) → PlanSettles (Unit {0}) (events.call_block name) done_read (bodies_plan s.around w name (block_entering name) o)
    bodies_settle name None = refused_settles (Unit {0}) (events.call_block name) done_read UnknownBlock
    bodies_settle name (Some b) = body_settles name b (slice_get b.homes b.place)

    pub settles_block : (name : List ℕ) → Settles codes {O = Unit {0}} s w HeldSo (λ m go. asks (events.call_block name) (on_done (go tt)))
    settles_block name =
        either_settles (Unit {0}) (events.call_block name) done_read (is_some w.parent || is_dropping w.captures) (replies (told w (tells done))) (block_plan s.around w name)
        (nothing_settles (events.call_block name)) (bodies_settle name (bodies_at name w.blocks)) refl

    -- what stands behind a block: printed, or by a name
    super_room : (named : Bool) (name : List ℕ) (place : ℕ) (home : Home) → has_room s.around.limit 1 w ≡ true
        → KeyComes codes s (super_within w named name place home).key (super_within w named name place home).begins (LeavesSo names codes (super_within w named name place home).key (super_within w named name place home).begins)
    super_room named name place home room =
        let x = super_within w named name place home in
        deeper x.key x.begins (begun_framed x.begins empty_frame refl refl, refl) tt (record { macros = sound.macros; frames = (tt, sound.frames); closed = sound.closed }) refl
        (is_deeper s.around.limit depth w deep) (has_room_left s.around.limit depth w deep room)

    printed_entered : (name : List ℕ) (place : ℕ) (home : Home) → has_room s.around.limit 1 w ≡ true
        → PlanSettles (Unit {0}) events.super_block done_read (enters (super_within w false name place home))
    printed_entered name place home room planned =
        let x = super_within w false name place home in
        settles_entered codes (Unit {0}) s w sound events.super_block HeldSo done_read x planned (LeavesSo names codes x.key x.begins) (λ v k. k.1) (super_room false name place home room)
        (λ v k. (tt, held_after names codes w (calls_super false name place) v (super_back names w v (text_back names w v None k.0.loops (let many : length w.captures ≤ length v.captures = omega (arith, k.0.captures) in many) k.0.loads k.0.added) false name place) k.1, λ go. refl))

    named_entered : (e : Ask) (name : List ℕ) (place : ℕ) (home : Home) → has_room s.around.limit 1 w ≡ true → PlanSettles Val e on_value (enters (super_within w true name place home))
    named_entered e name place home room planned =
        let x = super_within w true name place home in
        settles_entered codes Val s w sound e HeldSo on_value x planned (LeavesSo names codes x.key x.begins) (λ v k. k.1) (super_room true name place home room)
        (λ v k. (
          captured w.escape (innermost (outermost (suc (length w.captures)) v.captures)),
          held_after names codes w (calls_super true name place) v (super_back names w v (text_back names w v None k.0.loops (let many : length w.captures ≤ length v.captures = omega (arith, k.0.captures) in many) k.0.loads k.0.added) true name place) k.1,
          λ go. refl,
        ))

    module _ (O : Type 0) (e : Ask) (read : (O → Process) → Answer → Process) (named : Bool)
        (entered : (name : List ℕ) (place : ℕ) (home : Home) → has_room s.around.limit 1 w ≡ true → PlanSettles O e read (enters (super_within w named name place home))) where
      behind_settles : (name : List ℕ) (place : ℕ) (o : Option Home) → PlanSettles O e read (behind_plan s.around w named name place o)
      behind_settles name place None = refused_settles O e read InvalidOperation
      behind_settles name place (Some home) =
          roomy_settles O e read 1 (super_within w named name place home) (has_room s.around.limit 1 w) refl (entered name place home)

      super_in_settles : (name : List ℕ) (o : Option Bodies) → PlanSettles O e read (super_in s.around w named name o)
      super_in_settles name None = refused_settles O e read InvalidOperation
      super_in_settles name (Some b) = behind_settles name b.place (slice_get b.homes (suc b.place))

      super_settles : (o : Option (List ℕ)) → PlanSettles O e read (super_from s.around w named o)
      super_settles None = refused_settles O e read InvalidOperation
      super_settles (Some name) = super_in_settles name (bodies_at name w.blocks)

    pub settles_super_block : Settles codes {O = Unit {0}} s w HeldSo (λ m go. asks events.super_block (on_done (go tt)))
    settles_super_block = super_settles (Unit {0}) events.super_block done_read false printed_entered w.block refl

    pub settles_super : (e : Ask) (vs : List Val) → plan s.around w e ≡ super_called s.around w vs → Settles codes {O = Val} s w HeldSo (λ m go. asks e (on_value go))
    settles_super e [] planned = super_settles Val e on_value true (named_entered e) w.block planned
    settles_super e (v ∷ vs) planned = refused_settles Val e on_value InvalidOperation planned

    -- the rounds of a loop that is reached
    rounds_come : (named : Bool) (l : Loop) (rounds : Rounds) (vs : List Val) → l.rounds ≡ Some rounds → LoopSound codes (Some l) → has_room s.around.limit 1 w ≡ true
        → KeyComes codes s (rounds_within w named l rounds vs).key (rounds_within w named l rounds vs).begins
        (λ v. Rounded names (rounds_within w named l rounds vs).begins v × Sound codes v)
    rounds_come named l rounds vs is reached room =
        let x = rounds_within w named l rounds vs in
        let begins : MayGoRound x.begins = record { frame = loop_frame (loop_again w l rounds vs); frames = w.frames; is = refl; floor = refl; loop = loop_again w l rounds vs; looping = refl; called = refl } in
        deeper x.key x.begins begins (reached rounds is)
        (record { macros = sound.macros; frames = (λ r e. subst (λ (q : Rounds). AreRoundsReached codes q.stream q.number) (same_rounds rounds r e) (reached rounds is), sound.frames); closed = sound.closed }) refl
        (is_deeper s.around.limit depth w deep) (has_room_left s.around.limit depth w deep room)

    rounds_return : (named : Bool) (l : Loop) (rounds : Rounds) (vs : List Val) (v : World) → Rounded names (rounds_within w named l rounds vs).begins v
        → Keeps names w (after_by (runs_rounds named) (caller_of w) v)
    rounds_return named l rounds vs v k = rounds_kept names w v (Some k.0) k.1.loops named k.1.captures k.1.meets k.1.loads k.1.added

    -- those of the innermost loop, printed
    rounds_entered : (e : Ask) (l : Loop) (rounds : Rounds) (vs : List Val) → l.rounds ≡ Some rounds → LoopSound codes (Some l) → has_room s.around.limit 1 w ≡ true
        → PlanSettles (Unit {0}) e done_read (enters (rounds_within w false l rounds vs))
    rounds_entered e l rounds vs is reached room planned =
        let x = rounds_within w false l rounds vs in
        settles_entered codes (Unit {0}) s w sound e HeldSo done_read x planned (λ v. Rounded names x.begins v × Sound codes v) (λ v k. k.1) (rounds_come false l rounds vs is reached room)
        (λ v k. (tt, held_after names codes w (runs_rounds false) v (rounds_return false l rounds vs v k.0) k.1, λ go. refl))

    over_settles : (e : Ask) (l : Loop) (rounds : Rounds) → l.rounds ≡ Some rounds → LoopSound codes (Some l) → (r : Result (List Val) ErrorKind) → PlanSettles (Unit {0}) e done_read (rounds_over s.around w false l rounds r)
    over_settles e l rounds is reached (Ok vs) =
        roomy_settles (Unit {0}) e done_read 1 (rounds_within w false l rounds vs) (has_room s.around.limit 1 w) refl (rounds_entered e l rounds vs is reached)
    over_settles e l rounds is reached (Err kind) = failed_settles (Unit {0}) e done_read (InvalidOperation ∷ kind ∷ [])

    from_settles : (e : Ask) (v : Val) (l : Loop) → LoopSound codes (Some l) → (o : Option Rounds) → l.rounds ≡ o → PlanSettles (Unit {0}) e done_read (rounds_from s.around w false v l o)
    from_settles e v l reached None is = refused_settles (Unit {0}) e done_read InvalidOperation
    from_settles e v l reached (Some rounds) is = over_settles e l rounds is reached (guarded (forbids_iterating s.around.undefined v) (kinded (iterated (known_of w) v)))

    recursed_settles : (v : Val) (o : Option Loop) → innermost_loop (seen_frames w) ≡ o → PlanSettles (Unit {0}) (events.recurse v) done_read (recursed s.around w v o)
    recursed_settles v None is = refused_settles (Unit {0}) (events.recurse v) done_read UnknownFunction
    recursed_settles v (Some l) is = from_settles (events.recurse v) v l (innermost_sound codes w l sound is) l.rounds refl

    pub settles_recurse : (v : Val) → Settles codes {O = Unit {0}} s w HeldSo (λ m go. asks (events.recurse v) (on_done (go tt)))
    settles_recurse v = recursed_settles v (innermost_loop (seen_frames w)) refl refl

    -- a template is included
    module _ (framed : IsFramed w) (ignore_missing : Bool) (v : Val) where
      abbrev asked_for : Ask
      asked_for = events.include ignore_missing v

      missing_settles : (choices : List Val) (b : Bool) → PlanSettles (Unit {0}) asked_for done_read (replies (not_found w b choices))
      missing_settles choices true = nothing_settles asked_for
      missing_settles [] false = nothing_settles asked_for
      missing_settles (c ∷ choices) false = refused_settles (Unit {0}) asked_for done_read TemplateNotFound

      include_entered : (found : Found) → has_room s.around.limit include_levels w ≡ true → PlanSettles (Unit {0}) asked_for done_read (enters (include_within w found))
      include_entered found room planned =
          let x = include_within w found in
          let many : length (with_writes None w.frames) ≡ length w.frames = same_many (with_writes None w.frames) w.frames (loops_writes None w.frames) in
          let all : length w.frames ≤ length (with_writes None w.frames) = omega (arith, many) in
          let below : depth < length w.frames + (w.outer + include_levels) = omega (arith, deep) in
          settles_entered codes (Unit {0}) s w sound asked_for HeldSo done_read x planned (LeavesSo names codes x.key x.begins) (λ v k. k.1)
          (deeper x.key x.begins (record { loop = framed.loop; others = framed.others; loops = loops_writes None w.frames ∙ framed.loops; floor = all }, refl) tt
          (record { macros = sound.macros; frames = subst (Each (LoopSound codes)) (sym (loops_writes None w.frames)) sound.frames; closed = sound.closed }) refl below
          (include_room s.around.limit depth w deep room))
          (λ u k. (tt, held_after names codes w includes u (include_back names w u (k.0.loops ∙ loops_writes None w.frames) k.0.captures k.0.added.0 k.0.added.1) k.1, λ go. refl))

      found_settles : (choices : List Val) (r : Choice) → PlanSettles (Unit {0}) asked_for done_read (included_by s.around.limit w ignore_missing choices r)
      found_settles choices (Ok None) = missing_settles choices ignore_missing
      found_settles choices (Ok (Some found)) =
          roomy_settles (Unit {0}) asked_for done_read include_levels (include_within w found) (has_room s.around.limit include_levels w) refl (include_entered found)
      found_settles choices (Err kinds) = failed_settles (Unit {0}) asked_for done_read kinds

      chosen_settles : (choices : Result (List Val) ErrorKind) → PlanSettles (Unit {0}) asked_for done_read (included_from s.around w ignore_missing choices)
      chosen_settles (Ok vs) = found_settles vs (first_standing s.around (name_of s.around w.here) vs)
      chosen_settles (Err kind) = refused_settles (Unit {0}) asked_for done_read kind

      pub settles_include : Settles codes {O = Unit {0}} s w HeldSo (λ m go. asks asked_for (on_done (go tt)))
      settles_include = chosen_settles (choices_in (known_of w) v) refl

  -- a template that is extended is loaded, where the names are all that stand
  module _ (lists : (name : List ℕ) (h : Head) → s.around.head (standing name) ≡ Some h → is_among name names ≡ true) (v : Val) where
    abbrev LoadSettles : Plan → Type 0
    LoadSettles p = PlanSettles (Unit {0}) (load_blocks v) done_read p

    load_refused : (kind : ErrorKind) → LoadSettles (replies (refused w kind))
    load_refused kind = refused_settles (Unit {0}) (load_blocks v) done_read kind

    module _ (none : w.parent ≡ None) where
      head_settles : (name : List ℕ) → is_among name w.loaded ≡ false → (o : Option Head) → s.around.head (standing name) ≡ o → LoadSettles (loaded_head w name o)
      head_settles name new None is = load_refused TemplateNotFound
      head_settles name new (Some h) is = λ planned.
          let z : World = record w {
            parent = Some name;
            blocks = with_bodies (standing name) h.blocks w.blocks;
            loaded = name ∷ w.loaded;
            captures = drops ∷ w.captures;
          } in
          let nothing : met w.parent ≡ 0 = ap met none in
          let few : suc (unloaded names (name ∷ w.loaded)) ≤ unloaded names w.loaded = one_fewer name w.loaded new names (lists name h is) in
          let captures : suc (length w.captures) + met w.parent ≡ length w.captures + 1 = omega (arith, nothing) in
          let meets : met w.parent ≤ 1 = omega (arith, nothing) in
          let loads : unloaded names (name ∷ w.loaded) + 1 ≤ unloaded names w.loaded + met w.parent = omega (arith, few) in
          let kept : Keeps names w z = record { loops = refl; outer = refl; floor = refl; saved = refl; captures = captures; meets = meets; loads = loads; added = (name ∷ [], refl) } in
          settles_done codes s w z HeldSo (load_blocks v) (record { kept = kept; sound = record { macros = sound.macros; frames = sound.frames; closed = sound.closed }; here = refl }) (λ n. ap (settled (runners s n) w) planned)

      new_settles : (name : List ℕ) (b : Bool) → is_among name w.loaded ≡ b
          → LoadSettles (if b then replies (refused w InvalidOperation) else loaded_head w name (s.around.head (standing name)))
      new_settles name true is = load_refused InvalidOperation
      new_settles name false is = head_settles name is (s.around.head (standing name)) refl

      as_settles : (r : Result (List ℕ) (List ErrorKind)) → LoadSettles (loaded_as s.around w r)
      as_settles (Ok name) = new_settles name (is_among name w.loaded) refl
      as_settles (Err kinds) = failed_settles (Unit {0}) (load_blocks v) done_read kinds

      named_settles : (o : Option (List ℕ)) → LoadSettles (loaded_named s.around w o)
      named_settles None = load_refused InvalidOperation
      named_settles (Some name) = as_settles (s.around.joins name (name_of s.around w.here))

    load_settles : (parent : Option (List ℕ)) → w.parent ≡ parent → LoadSettles (load_plan s.around w parent v)
    load_settles None none = named_settles none (text_in v)
    load_settles (Some parent) some = load_refused InvalidOperation

    pub settles_load : Settles codes {O = Unit {0}} s w HeldSo (λ m go. asks (load_blocks v) (on_done (go tt)))
    settles_load = load_settles w.parent refl refl

held_on : (names : List (List ℕ)) (codes : Codes) (base w v : World) → Held names codes base w → Held names codes w v → Held names codes base v
held_on names codes base w v h k = record { kept = keeps_on names base w v h.kept k.kept; sound = k.sound; here = k.here ∙ h.here }

-- what calls enter: macros, rounds by their loop's name, and blocks for their texts
module _ (names : List (List ℕ)) (codes : Codes) (s : Programs) (depth : ℕ) (deeper : AllReach names codes s depth) (base : World) (deep : depth ≤ depth_of base) (c : Caller) where
  abbrev pub Holds : World → Type 0
  Holds w = Held names codes base w × (caller_of w ≡ c)

  abbrev pub Enters : Within → Type 0
  Enters x = Entered codes s c (Held names codes base) x

  abbrev PlanSo : Plan → Type 0
  PlanSo p = PlanComes Holds Enters p

  refused_comes : (w : World) → Holds w → (kind : ErrorKind) → PlanSo (replies (refused w kind))
  refused_comes w held kind = record { items = refl; told = held }

  module _ (w : World) (held : Holds w) where
    within_depth : depth ≤ depth_of w
    within_depth = omega (arith, deep, same_depth names base w held.0.kept)

    roomy_comes : (levels : ℕ) (x : Within) (b : Bool) → has_room s.around.limit levels w ≡ b → (has_room s.around.limit levels w ≡ true → Enters x)
        → PlanSo (if b then enters x else replies (refused w InvalidOperation))
    roomy_comes levels x true room entered = entered room
    roomy_comes levels x false room entered = refused_comes w held InvalidOperation

    back_for : (f : Caller → World) → Held names codes w (f (caller_of w)) → Held names codes base (f c)
    back_for f back = subst (λ (d : Caller). Held names codes base (f d)) held.1 (held_on names codes base w (f (caller_of w)) held.0 back)

    framed_begun : (begins : World) (f : Frame) → begins.frames ≡ f ∷ w.frames → begins.floor ≡ suc (length w.frames) → IsFramed begins
    framed_begun begins f frames floor = begun_framed names codes s w held.0.sound depth deeper within_depth begins f frames floor

    -- a macro
    macro_entered : (pending : ℕ) (m : Macro) (b : Bound) → IsBodyReached codes m.stream m.number → has_room s.around.limit (macro_levels + pending) w ≡ true → Enters (macro_within w pending m b)
    macro_entered pending m b reached room =
        let x = macro_within w pending m b in
        let f : Frame = record empty_frame { locals = b.locals; reads = m.closure } in
        let below : depth < suc (length w.frames) + (w.outer + 5 + pending) = omega (arith, within_depth) in
        record {
          comes =
              comes_so codes s x.key x.begins (LeavesSo names codes x.key x.begins) (λ v. Held names codes base (after_by calls_macro c v) × Sound codes v)
              (λ v k. (
                back_for (λ d. after_by calls_macro d v)
                    (held_after names codes w calls_macro v
                    (macro_back names w v None k.0.loops (let many : length w.captures ≤ length v.captures = omega (arith, k.0.captures, k.0.meets) in many) k.0.added) k.1),
                k.1,
              ))
              (deeper x.key x.begins (framed_begun x.begins f refl refl, refl) reached (record { macros = held.0.sound.macros; frames = (tt, held.0.sound.frames); closed = held.0.sound.closed }) refl below
              (macro_room s.around.limit depth pending w within_depth room));
          text = λ v. (_, refl);
        }

    bound_comes : (pending : ℕ) (m : Macro) → IsBodyReached codes m.stream m.number → (r : Result Bound ErrorKind) → PlanSo (bound_plan s.around.limit pending w m r)
    bound_comes pending m reached (Ok b) =
        roomy_comes (macro_levels + pending) (macro_within w pending m b) (has_room s.around.limit (macro_levels + pending) w) refl (macro_entered pending m b reached)
    bound_comes pending m reached (Err kind) = refused_comes w held kind

    macro_comes : (pending : ℕ) (vs : List Val) (id number : ℕ) (o : Option Macro) → macro_of w id number ≡ o → PlanSo (macro_plan s.around.limit pending w vs o)
    macro_comes pending vs id number None is = refused_comes w held InvalidOperation
    macro_comes pending vs id number (Some m) is = bound_comes pending m (macro_sound codes w id number m held.0.sound is) (bound m (handed_over vs))

    -- rounds of a loop
    named_rounds : (l : Loop) (rounds : Rounds) (vs : List Val) → l.rounds ≡ Some rounds → LoopSound codes (Some l) → has_room s.around.limit 1 w ≡ true → Enters (rounds_within w true l rounds vs)
    named_rounds l rounds vs is reached room =
        let x = rounds_within w true l rounds vs in
        record {
          comes =
              comes_so codes s x.key x.begins (λ v. Rounded names x.begins v × Sound codes v) (λ v. Held names codes base (after_by (runs_rounds true) c v) × Sound codes v)
              (λ v k. (
                back_for (λ d. after_by (runs_rounds true) d v)
                    (held_after names codes w (runs_rounds true) v (rounds_return names codes s w held.0.sound depth deeper within_depth true l rounds vs v k.0) k.1),
                k.1,
              ))
              (rounds_come names codes s w held.0.sound depth deeper within_depth true l rounds vs is reached room);
          text = λ v. (_, refl);
        }

    named_over : (l : Loop) (rounds : Rounds) → l.rounds ≡ Some rounds → LoopSound codes (Some l) → (r : Result (List Val) ErrorKind) → PlanSo (rounds_over s.around w true l rounds r)
    named_over l rounds is reached (Ok vs) =
        roomy_comes 1 (rounds_within w true l rounds vs) (has_room s.around.limit 1 w) refl (named_rounds l rounds vs is reached)
    named_over l rounds is reached (Err kind) = record { items = refl; told = held }

    named_from : (v : Val) (l : Loop) → LoopSound codes (Some l) → (o : Option Rounds) → l.rounds ≡ o → PlanSo (rounds_from s.around w true v l o)
    named_from v l reached None is = refused_comes w held InvalidOperation
    named_from v l reached (Some rounds) is = named_over l rounds is reached (guarded (forbids_iterating s.around.undefined v) (kinded (iterated (known_of w) v)))

    again_comes : (vs : List Val) (id number : ℕ) (o : Option Loop) → loop_of w id number ≡ o → PlanSo (again_plan s.around w vs o)
    again_comes (v ∷ []) id number (Some l) is = named_from v l (loop_sound codes w id number l held.0.sound is) l.rounds refl
    again_comes (v ∷ []) id number None is = refused_comes w held InvalidOperation
    again_comes [] id number o is = refused_comes w held InvalidOperation
    again_comes (v ∷ u ∷ vs) id number o is = refused_comes w held InvalidOperation

    -- a block's text
    text_entered : (pending : ℕ) (name : List ℕ) (home : Home) → has_room s.around.limit (1 + pending) w ≡ true → Enters (text_within w pending name home)
    text_entered pending name home room =
        let x = text_within w pending name home in
        let below : depth < suc (length w.frames) + (w.outer + pending) = omega (arith, within_depth) in
        record {
          comes =
              comes_so codes s x.key x.begins (LeavesSo names codes x.key x.begins) (λ v. Held names codes base (after_by takes_block c v) × Sound codes v)
              (λ v k. (
                back_for (λ d. after_by takes_block d v)
                    (held_after names codes w takes_block v
                    (text_back names w v None k.0.loops (let many : length w.captures ≤ length v.captures = omega (arith, k.0.captures) in many) k.0.loads k.0.added) k.1),
                k.1,
              ))
              (deeper x.key x.begins (framed_begun x.begins empty_frame refl refl, refl) tt (record { macros = held.0.sound.macros; frames = (tt, held.0.sound.frames); closed = held.0.sound.closed }) refl below
              (text_room s.around.limit depth pending w within_depth room));
          text = λ v. (_, refl);
        }

    abbrev text_entering : ℕ → List ℕ → Home → Plan
    text_entering pending name home = room_for s.around.limit (1 + pending) w (text_within w pending name home)

    lacking_comes : (pending : ℕ) (name : List ℕ) (home : Home) (b : Bool) → PlanSo (if b then replies (refused w InvalidOperation) else text_entering pending name home)
    lacking_comes pending name home true = refused_comes w held InvalidOperation
    lacking_comes pending name home false =
        roomy_comes (1 + pending) (text_within w pending name home) (has_room s.around.limit (1 + pending) w) refl (text_entered pending name home)

    body_comes : (pending : ℕ) (name : List ℕ) (b : Bodies) (o : Option Home) → PlanSo (body_plan s.around w name (text_entering pending name) b o)
    body_comes pending name b None = record { items = refl; told = held }
    body_comes pending name b (Some home) = lacking_comes pending name home (lacks_body s.around name home b.homes)

    bodies_come : (pending : ℕ) (name : List ℕ) (o : Option Bodies) → PlanSo (bodies_plan s.around w name (text_entering pending name) o)
    bodies_come pending name None = record { items = refl; told = held }
    bodies_come pending name (Some b) = body_comes pending name b (slice_get b.homes b.place)

  pub entries : Entries Holds Enters s.around
  entries = record {
    turns = λ x t e. record { comes = e.comes; text = e.text };
    macros = λ pending w held vs id number. macro_comes w held pending vs id number (macro_of w id number) refl;
    rounds = λ w held vs id number. again_comes w held vs id number (loop_of w id number) refl;
    texts = λ pending w held name. bodies_come w held pending name (bodies_at name w.blocks);
  }

  -- callables change such worlds by themselves
  pub holds_stand : Stands Holds
  holds_stand = record {
    temps = λ w temps h. (record { kept = record { loops = h.0.kept.loops; outer = h.0.kept.outer; floor = h.0.kept.floor; saved = h.0.kept.saved; captures = h.0.kept.captures; meets = h.0.kept.meets; loads = h.0.kept.loads; added = h.0.kept.added }; sound = record { macros = h.0.sound.macros; frames = h.0.sound.frames; closed = h.0.sound.closed }; here = h.0.here }, h.1);
    makes = λ w entries h. (record { kept = record { loops = h.0.kept.loops; outer = h.0.kept.outer; floor = h.0.kept.floor; saved = h.0.kept.saved; captures = h.0.kept.captures; meets = h.0.kept.meets; loads = h.0.kept.loads; added = h.0.kept.added }; sound = record { macros = h.0.sound.macros; frames = h.0.sound.frames; closed = h.0.sound.closed }; here = h.0.here }, h.1);
    compares = λ w given h. (record { kept = record { loops = h.0.kept.loops; outer = h.0.kept.outer; floor = h.0.kept.floor; saved = h.0.kept.saved; captures = h.0.kept.captures; meets = h.0.kept.meets; loads = h.0.kept.loads; added = h.0.kept.added }; sound = record { macros = h.0.sound.macros; frames = h.0.sound.frames; closed = h.0.sound.closed }; here = h.0.here }, h.1);
  }
