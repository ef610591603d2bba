-- An include settles, where keys come to their ends one include deeper.
use Rattle.std.proofs.Common.{◌≡◌, ℕ, ◌+◌, ◌<◌, ◌≤◌, Bool, true, false, List, [], ◌∷◌, ◌++◌, length, Option, None, Some, Result, Ok, Err, refl, sym, ap, subst, ◌∙◌, arith}
use Rattle.std.specs.Prelude.{if◌then◌else◌}
use Rattle.std.proofs.lemmas.Bool.Decides.{nat_tests}
use Rattle.template_values_errors.specs.declared.ErrorKind.{ErrorKind}
use Rattle.template_values_errors.specs.declared.ErrorKind.TheVariants.{InvalidOperation, TemplateNotFound}
use Rattle.template_values_model.specs.Val.{Val}
use Rattle.template_compiler_process.specs.Process.{Ask, include, fails, asks, on_done}
use Rattle.template_machine_meaning.specs.World.{Frame, Capture, World, depth_of, has_room}
use Rattle.template_machine_meaning.specs.Records.{known_of}
use Rattle.template_machine_meaning.specs.Names.{name_of}
use Rattle.template_machine_meaning.specs.Replies.{told, refused}
use Rattle.template_machine_meaning.specs.Closures.{writes_of}
use Rattle.template_machine_meaning.specs.Plans.{includes, with_writes, Plan, replies, enters, outermost, caller_of, after_by, settled}
use Rattle.template_machine_meaning.specs.Includes.{Found, Choice, choices_in, first_standing, include_levels, include_within, not_found, included_by, included_from}
use Rattle.template_machine_meaning.specs.Surroundings.{plan, Programs, runners}
use Rattle.template_machine_meaning.proofs.Outermost.{outermost_all, outermost_append}
use Rattle.template_machine_meaning.proofs.Settling.{Settles, settles_done, settles_refused}
use Rattle.template_machine_meaning.proofs.Keeping.{Keeps, Ran, keeps_itself, same_many, loops_of, met, unloaded, IsFramed}
use Rattle.template_machine_meaning.proofs.Entering.{AllCome, settles_entered}
use Rattle.template_machine_meaning.proofs.Blocks.{Kept, settles_failed}

include_room : (limit depth : ℕ) (w : World) → depth ≤ depth_of w → has_room limit include_levels w ≡ true → depth < limit
include_room limit depth w deep e = grind (arith, nat_tests)

-- the innermost frame writes another closure
pub loops_writes : (o : Option ℕ) (fs : List Frame) → loops_of (with_writes o fs) ≡ loops_of fs
loops_writes o [] = refl
loops_writes o (f ∷ fs) = refl

-- the same frames are there behind it, and as many captures
include_back : (names : List (List ℕ)) (w v : World) → loops_of v.frames ≡ loops_of w.frames → length v.captures ≡ length w.captures → (more : List (List ℕ)) → v.loaded ≡ more ++ w.loaded
    → Keeps names w (after_by includes (caller_of w) v)
include_back names w v loops captures more loaded =
    let many : length v.frames ≡ length w.frames = same_many v.frames w.frames loops in
    let meets : met w.parent ≤ met w.parent = omega arith in
    let same : outermost (length w.loaded) v.loaded ≡ w.loaded =
    ap (λ (xs : List (List ℕ)). outermost (length w.loaded) xs) loaded ∙ outermost_append (length w.loaded) more w.loaded refl in
    let fewer : unloaded names w.loaded + met w.parent ≤ unloaded names w.loaded + met w.parent = omega arith in
    record {
      loops = loops_writes (writes_of w.frames) (outermost (length w.frames) v.frames) ∙ ap loops_of (outermost_all (length w.frames) v.frames many) ∙ loops;
      outer = refl;
      floor = refl;
      saved = refl;
      captures = ap (λ (cs : List Capture). length cs + met w.parent) (outermost_all (length w.captures) v.captures captures) ∙ ap (λ n. n + met w.parent) captures;
      meets = meets;
      loads = subst (λ (xs : List (List ℕ)). unloaded names xs + met w.parent ≤ unloaded names w.loaded + met w.parent) (sym same) fewer;
      added = ([], same);
    }

module _ (names : List (List ℕ)) (s : Programs) (w : World) (ignore_missing : Bool) (v : Val) where
  abbrev asked_for : Ask
  asked_for = include ignore_missing v

  abbrev IncludeSettles : Type 0
  IncludeSettles = Settles {O = Unit {0}} s w (Kept names w) (λ m go. asks asked_for (on_done (go tt)))

  refused_so : (kind : ErrorKind) → plan s.around w asked_for ≡ replies (refused w kind) → IncludeSettles
  refused_so kind planned = settles_refused s w (Kept names w) asked_for kind (λ m go. on_done (go tt)) (λ n. ap (settled (runners s n) w) planned)

  failed_so : (kinds : List ErrorKind) → plan s.around w asked_for ≡ replies (told w (fails kinds)) → IncludeSettles
  failed_so kinds planned = settles_failed s w (Kept names w) asked_for kinds (λ go. on_done (go tt)) (λ n. ap (settled (runners s n) w) planned)

  missing_settles : (choices : List Val) (b : Bool) → plan s.around w asked_for ≡ replies (not_found w b choices) → IncludeSettles
  missing_settles choices true planned = settles_done s w w (Kept names w) asked_for (keeps_itself names w) (λ n. ap (settled (runners s n) w) planned)
  missing_settles [] false planned = settles_done s w w (Kept names w) asked_for (keeps_itself names w) (λ n. ap (settled (runners s n) w) planned)
  missing_settles (c ∷ choices) false planned = refused_so TemplateNotFound planned

  -- a template was found, and there is room for it, or none
  abbrev roomy_plan : Found → Bool → Plan
  roomy_plan found b = if b then enters (include_within w found) else replies (refused w InvalidOperation)

  module _ (framed : IsFramed w) (depth : ℕ) (deep : depth ≤ depth_of w) (deeper : AllCome names s depth) where
    running_settles : (found : Found) → plan s.around w asked_for ≡ roomy_plan found (has_room s.around.limit include_levels w)
        → (b : Bool) → has_room s.around.limit include_levels w ≡ b → IncludeSettles
    running_settles found planned true room =
        let x = include_within w found in
        let many : length (with_writes None w.frames) ≡ length w.frames = same_many (with_writes None w.frames) w.frames (loops_writes None w.frames) in
        let all : length w.frames ≤ length (with_writes None w.frames) = omega (arith, many) in
        let below : depth < length w.frames + (w.outer + include_levels) = omega (arith, deep) in
        settles_entered (Unit {0}) s w asked_for (Kept names w) (λ go. on_done (go tt)) x (planned ∙ ap (roomy_plan found) room) (Ran names x.begins)
        (deeper x.key x.begins (record { loop = framed.loop; others = framed.others; loops = loops_writes None w.frames ∙ framed.loops; floor = all }, refl) below
        (include_room s.around.limit depth w deep room))
        (λ u k. (tt, include_back names w u (k.loops ∙ loops_writes None w.frames) k.captures k.added.0 k.added.1, λ go. refl))
    running_settles found planned false room = refused_so InvalidOperation (planned ∙ ap (roomy_plan found) room)

    found_settles : (choices : List Val) (r : Choice) → plan s.around w asked_for ≡ included_by s.around.limit w ignore_missing choices r → IncludeSettles
    found_settles choices (Ok None) planned = missing_settles choices ignore_missing planned
    found_settles choices (Ok (Some found)) planned = running_settles found planned (has_room s.around.limit include_levels w) refl
    found_settles choices (Err kinds) planned = failed_so kinds planned

    chosen_settles : (choices : Result (List Val) ErrorKind) → choices_in (known_of w) v ≡ choices → IncludeSettles
    chosen_settles (Ok vs) e = found_settles vs (first_standing s.around (name_of s.around w.here) vs) (ap (included_from s.around w ignore_missing) e)
    chosen_settles (Err kind) e = refused_so kind (ap (included_from s.around w ignore_missing) e)

    pub settles_include : IncludeSettles
    settles_include = chosen_settles (choices_in (known_of w) v) refl
