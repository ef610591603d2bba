-- What walks keep of the world: the loops of its frames, what else counts as depth and what may not be closed, how many escapes
-- are put back, and how many captures are open, but for the one that drops what is written once a template is extended.
use Rattle.std.proofs.Common.{◌≡◌, ℕ, suc, ◌+◌, ◌<◌, ◌≤◌, ◌⊎◌, inl, inr, Bool, true, false, ◌||◌, List, [], ◌∷◌, ◌++◌, length, Option, None, Some, refl, sym, ap, subst, ◌∙◌, append_assoc, arith}
use Rattle.std.specs.Prelude.{nat_lt, if◌then◌else◌}
use Rattle.std.specs.Str.{bytes_eq}
use Rattle.std.proofs.lemmas.Bool.{lt-ltb}
use Rattle.std.proofs.lemmas.List.{length-map}
use Rattle.std.proofs.lemmas.Slice.Eq.{bytes_eq-Decides}
use Rattle.template_compiler_process.specs.Process.{breaks_off}
use Rattle.template_compiler_process.specs.Trace.{Reply}
use Rattle.template_machine_meaning.specs.World.{Loop, Frame, Capture, World, depth_of}
use Rattle.template_machine_meaning.specs.Replies.{told}
use Rattle.template_machine_meaning.specs.Blocks.{is_among}
use Rattle.template_machine_meaning.specs.Surroundings.{on_frames, on_own, is_own, on_loop}
pub use Rattle.template_machine_meaning.specs.Records.{loops_of}

-- whether a template is extended
abbrev pub met : Option (List ℕ) → ℕ
met None = 0
met (Some name) = 1

-- how many of the names were not loaded
abbrev pub one_unless : Bool → ℕ
one_unless true = 0
one_unless false = 1

abbrev pub unloaded : List (List ℕ) → List (List ℕ) → ℕ
unloaded [] loaded = 0
unloaded (n ∷ names) loaded = one_unless (is_among n loaded) + unloaded names loaded

-- one name more is loaded
no_more : (b c : Bool) → one_unless (b || c) ≤ one_unless c
no_more true true = omega arith
no_more true false = omega arith
no_more false c = omega arith

not_more : (name : List ℕ) (loaded names : List (List ℕ)) → unloaded names (name ∷ loaded) ≤ unloaded names loaded
not_more name loaded [] = omega arith
not_more name loaded (n ∷ names) =
    let first : one_unless (bytes_eq name n || is_among n loaded) ≤ one_unless (is_among n loaded) = no_more (bytes_eq name n) (is_among n loaded) in
    let rest : unloaded names (name ∷ loaded) ≤ unloaded names loaded = not_more name loaded names in
    omega (arith, first, rest)

module _ (name : List ℕ) (loaded : List (List ℕ)) (new : is_among name loaded ≡ false) where
  abbrev Fewer : List (List ℕ) → Type 0
  Fewer names = is_among name names ≡ true → suc (unloaded names (name ∷ loaded)) ≤ unloaded names loaded

  fewer_by : (n : List ℕ) (names : List (List ℕ)) → Fewer names → (b : Bool) → bytes_eq n name ≡ b → (b || is_among name names) ≡ true
      → suc (unloaded (n ∷ names) (name ∷ loaded)) ≤ unloaded (n ∷ names) loaded
  fewer_by n names later true same listed =
      let is : n ≡ name = (bytes_eq-Decides n name).0 same in
      let back : bytes_eq name n ≡ true = (bytes_eq-Decides name n).1 (sym is) in
      let here : one_unless (bytes_eq name n || is_among n loaded) ≡ 0 = ap (λ (b : Bool). one_unless (b || is_among n loaded)) back in
      let there : one_unless (is_among n loaded) ≡ 1 = ap (λ (text : List ℕ). one_unless (is_among text loaded)) is ∙ ap one_unless new in
      let rest : unloaded names (name ∷ loaded) ≤ unloaded names loaded = not_more name loaded names in
      omega (arith, here, there, rest)
  fewer_by n names later false other listed =
      let first : one_unless (bytes_eq name n || is_among n loaded) ≤ one_unless (is_among n loaded) = no_more (bytes_eq name n) (is_among n loaded) in
      let rest : suc (unloaded names (name ∷ loaded)) ≤ unloaded names loaded = later listed in
      omega (arith, first, rest)

  pub one_fewer : (names : List (List ℕ)) → Fewer names
  one_fewer [] listed = let no : false ≡ true = listed in absurd (cc)
  one_fewer (n ∷ names) listed = fewer_by n names (one_fewer names) (bytes_eq n name) refl listed

pub record Keeps (names : List (List ℕ)) (w v : World) : Type 0 where
  pub loops : loops_of v.frames ≡ loops_of w.frames
  pub outer : v.outer ≡ w.outer
  pub floor : v.floor ≡ w.floor
  pub saved : length v.saved ≡ length w.saved
  pub captures : length v.captures + met w.parent ≡ length w.captures + met v.parent
  pub meets : met w.parent ≤ met v.parent
  pub loads : unloaded names v.loaded + met v.parent ≤ unloaded names w.loaded + met w.parent
  pub added : (more : List (List ℕ)) × (v.loaded ≡ more ++ w.loaded)

-- so it is of what a key comes to: all that extends another template has run
pub record Ran (names : List (List ℕ)) (w v : World) : Type 0 where
  pub loops : loops_of v.frames ≡ loops_of w.frames
  pub captures : length v.captures ≡ length w.captures
  pub loads : unloaded names v.loaded ≤ unloaded names w.loaded
  pub added : (more : List (List ℕ)) × (v.loaded ≡ more ++ w.loaded)

pub keeps_itself : (names : List (List ℕ)) (w : World) → Keeps names w w
keeps_itself names w =
    let meets : met w.parent ≤ met w.parent = omega arith in
    let loads : unloaded names w.loaded + met w.parent ≤ unloaded names w.loaded + met w.parent = omega arith in
    record { loops = refl; outer = refl; floor = refl; saved = refl; captures = refl; meets = meets; loads = loads; added = ([], refl) }

pub keeps_on : (names : List (List ℕ)) (w v u : World) → Keeps names w v → Keeps names v u → Keeps names w u
keeps_on names w v u h k =
    let captures : length u.captures + met w.parent ≡ length w.captures + met u.parent = omega (arith, h.captures, k.captures) in
    let meets : met w.parent ≤ met u.parent = omega (arith, h.meets, k.meets) in
    let loads : unloaded names u.loaded + met u.parent ≤ unloaded names w.loaded + met w.parent = omega (arith, h.loads, k.loads) in
    record {
      loops = k.loops ∙ h.loops;
      outer = k.outer ∙ h.outer;
      floor = k.floor ∙ h.floor;
      saved = k.saved ∙ h.saved;
      captures = captures;
      meets = meets;
      loads = loads;
      added = (k.added.0 ++ h.added.0, k.added.1 ∙ ap (λ (xs : List (List ℕ)). k.added.0 ++ xs) h.added.1 ∙ sym (append_assoc k.added.0 h.added.0 w.loaded));
    }

-- as many frames have as many loops
pub same_many : (fs gs : List Frame) → loops_of fs ≡ loops_of gs → length fs ≡ length gs
same_many fs gs e = sym (length-map fs (λ (f : Frame). f.loop)) ∙ ap (λ (loops : List (Option Loop)). length loops) e ∙ length-map gs (λ (f : Frame). f.loop)

pub same_depth : (names : List (List ℕ)) (base w : World) → Keeps names base w → depth_of w ≡ depth_of base
same_depth names base w kept =
    let frames : length w.frames ≡ length base.frames = same_many w.frames base.frames kept.loops in
    omega (arith, frames, kept.outer)

-- the innermost frame, with its loop
pub record Top (w : World) (loop : Option Loop) (loops : List (Option Loop)) : Type 0 where
  pub frame : Frame
  pub rest : List Frame
  pub frames : w.frames ≡ frame ∷ rest
  pub own : frame.loop ≡ loop
  pub others : loops_of rest ≡ loops

top_of : (w : World) (fs : List Frame) (loop : Option Loop) (loops : List (Option Loop)) → w.frames ≡ fs → loops_of fs ≡ loop ∷ loops → Top w loop loops
top_of w [] loop loops is e = absurd (cc)
top_of w (f ∷ fs) loop loops is e = record { frame = f; rest = fs; frames = is; own = cc; others = cc }

pub top : (w : World) (loop : Option Loop) (loops : List (Option Loop)) → loops_of w.frames ≡ loop ∷ loops → Top w loop loops
top w loop loops e = top_of w w.frames loop loops refl e

-- there is a frame, and there are as many as may not be closed
pub record IsFramed (w : World) : Type 0 where
  pub loop : Option Loop
  pub others : List (Option Loop)
  pub loops : loops_of w.frames ≡ loop ∷ others
  pub floor : w.floor ≤ length w.frames

pub framed_on : (names : List (List ℕ)) (base w : World) → IsFramed base → Keeps names base w → IsFramed w
framed_on names base w framed kept =
    let many : length w.frames ≡ length base.frames = same_many w.frames base.frames kept.loops in
    let floor : w.floor ≤ length w.frames = omega (arith, many, kept.floor, framed.floor) in
    record { loop = framed.loop; others = framed.others; loops = kept.loops ∙ framed.loops; floor = floor }

-- a frame in front of those of a world, with a loop or none
abbrev pub behind_frame : World → Frame → World
behind_frame w f = record w { frames = f ∷ w.frames }

pub framed_behind : (w : World) (f : Frame) → w.floor ≤ length w.frames → IsFramed (behind_frame w f)
framed_behind w f floored =
    let floor : w.floor ≤ suc (length w.frames) = omega (arith, floored) in
    record { loop = f.loop; others = loops_of w.frames; loops = refl; floor = floor }

-- that one may be closed
pub may_close : (names : List (List ℕ)) (base w : World) (f : Frame) → base.floor ≤ length base.frames → Keeps names (behind_frame base f) w
    → (t : Top w f.loop (loops_of base.frames)) → w.floor ≤ length t.rest
may_close names base w f floored kept t =
    let many : length t.rest ≡ length base.frames = same_many t.rest base.frames t.others in
    omega (arith, many, kept.floor, floored)

-- what asks for a frame finds it
pub on_frames_is : (w : World) (f : Frame) (fs : List Frame) → w.frames ≡ f ∷ fs → (reply : Frame → List Frame → Reply World) → on_frames w reply ≡ reply f fs
on_frames_is w f fs e reply =
    let P : List Frame → Type 0 = λ gs. (elim gs [ [] ↦ told w breaks_off | g ∷ hs ↦ reply g hs ]) ≡ reply f fs in
    subst P (sym e) refl

is_lower : (m n : ℕ) → m < n → nat_lt m n ≡ true
is_lower m n less = lt-ltb m n less

-- and so does what asks for one that may be closed
pub on_own_is : (w : World) (f : Frame) (fs : List Frame) → w.frames ≡ f ∷ fs → w.floor ≤ length fs → (reply : Frame → List Frame → Reply World) → on_own w reply ≡ reply f fs
on_own_is w f fs e floored reply =
    let many : length w.frames ≡ suc (length fs) = ap (λ (gs : List Frame). length gs) e in
    let less : w.floor < length w.frames = omega (arith, many, floored) in
    ap (λ (b : Bool). if b then on_frames w reply else told w breaks_off) (is_lower w.floor (length w.frames) less) ∙ on_frames_is w f fs e reply

-- a loop's frame may be asked: it may be closed, or its rounds were called
either_way : (b : Bool) → (b || true) ≡ true
either_way true = refl
either_way false = refl

pub may_ask : (w : World) (l : Loop) (rest : List Frame) → length w.frames ≡ suc (length rest) → (l.called ≡ true) ⊎ (w.floor ≤ length rest) → is_own w l ≡ true
may_ask w l rest many (inl called) = ap (λ b. b || nat_lt w.floor (length w.frames)) called
may_ask w l rest many (inr floored) =
    let less : w.floor < length w.frames = omega (arith, many, floored) in
    ap (λ b. l.called || b) (is_lower w.floor (length w.frames) less) ∙ either_way l.called

asked_is : (w : World) (l : Loop) (reply : Reply World) → is_own w l ≡ true → (if is_own w l then reply else told w breaks_off) ≡ reply
asked_is w l reply own = ap (λ b. if b then reply else told w breaks_off) own

loop_is : (w : World) (f : Frame) (fs : List Frame) (l : Loop) → f.loop ≡ Some l → (reply : Frame → Loop → List Frame → Reply World) → is_own w l ≡ true
    → (elim f.loop [ None ↦ told w breaks_off | Some k ↦ if is_own w k then reply f k fs else told w breaks_off ]) ≡ reply f l fs
loop_is w f fs l e reply own =
    let P : Option Loop → Type 0 = λ o. (elim o [ None ↦ told w breaks_off | Some k ↦ if is_own w k then reply f k fs else told w breaks_off ]) ≡ reply f l fs in
    subst P (sym e) (asked_is w l (reply f l fs) own)

-- what asks for a loop's frame finds it
pub on_loop_is : (w : World) (f : Frame) (fs : List Frame) (l : Loop) → w.frames ≡ f ∷ fs → is_own w l ≡ true → f.loop ≡ Some l
    → (reply : Frame → Loop → List Frame → Reply World) → on_loop w reply ≡ reply f l fs
on_loop_is w f fs l e own is reply =
    on_frames_is w f fs e (λ g gs. elim g.loop [ None ↦ told w breaks_off | Some k ↦ if is_own w k then reply g k gs else told w breaks_off ]) ∙ loop_is w f fs l is reply own

-- a capture that was begun is still there
abbrev pub capturing_in : World → Capture → World
capturing_in w c = record w { captures = c ∷ w.captures }

pub record Caught (names : List (List ℕ)) (w v : World) : Type 0 where
  pub capture : Capture
  pub rest : List Capture
  pub are : v.captures ≡ capture ∷ rest
  pub kept : Keeps names w (record v { captures = rest })

caught_among : (names : List (List ℕ)) (w v : World) (c : Capture) → Keeps names (capturing_in w c) v → (captures : List Capture) → v.captures ≡ captures → Caught names w v
caught_among names w v c inside [] e =
    let none : length v.captures ≡ 0 = ap (λ (ds : List Capture). length ds) e in
    absurd (omega (arith, none, inside.captures, inside.meets))
caught_among names w v c inside (d ∷ ds) e =
    let more : length v.captures ≡ suc (length ds) = ap (λ (es : List Capture). length es) e in
    let captures : length ds + met w.parent ≡ length w.captures + met v.parent = omega (arith, more, inside.captures) in
    record {
      capture = d;
      rest = ds;
      are = e;
      kept = record {
        loops = inside.loops;
        outer = inside.outer;
        floor = inside.floor;
        saved = inside.saved;
        captures = captures;
        meets = inside.meets;
        loads = inside.loads;
        added = inside.added;
      };
    }

pub caught : (names : List (List ℕ)) (w v : World) (c : Capture) → Keeps names (capturing_in w c) v → Caught names w v
caught names w v c inside = caught_among names w v c inside v.captures refl
