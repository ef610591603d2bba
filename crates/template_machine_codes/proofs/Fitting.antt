-- How a world stands to the shape of a run: its frames, escapes and captures above those of the world that the run began over.
use Rattle.std.proofs.Common.{◌≡◌, ℕ, ◌+◌, ◌-◌, ◌≤◌, ◌⊎◌, inl, inr, Bool, true, false, cond, List, [], ◌∷◌, ◌++◌, length, Option, None, Some, refl, sym, ap, subst, ◌∙◌, append_assoc, arith}
use Rattle.std.proofs.lemmas.Bool.{and_parts, eqb-true}
use Rattle.std.proofs.lemmas.List.{length-map, length-append}
use Rattle.std.specs.Prelude.{IsSome, ◌==◌, ◌&&◌, if◌then◌else◌}
use Rattle.template_compiler_code_shapes.specs.declared.outline.Floor.{Floor}
use Rattle.template_compiler_code_shapes.specs.declared.outline.Opened.{Opened}
use Rattle.template_compiler_code_shapes.specs.declared.outline.Opened.TheVariants.{With as with_frame, Loop as loop_frame, Recursive as recursive_frame}
use Rattle.template_compiler_code_shapes.specs.Shapes.{Form, Shape, floor_of, frame_closed, loop_closed, innermost_loop}
use Rattle.template_machine_meaning.specs.World.{Loop, Frame, World, counted_loop, depth_of, drop_given}
use Rattle.template_machine_meaning.specs.Leaving.{is_held, loop_left}
use Rattle.template_machine_meaning.specs.Surroundings.{is_own, asked_once}
use Rattle.template_machine_meaning.proofs.Keeping.{loops_of, met, unloaded, top, IsFramed, may_ask}
use Rattle.template_machine_codes.specs.Streams.{Codes}
use Rattle.template_machine_codes.proofs.Sound.{Each, each_joined, LoopSound, Sound, sound_framed, Held}

-- What lies away below the rounds that are called: operands of these forms, and so many escapes and captures. Below a run of its own
-- nothing lies away.
pub record Away : Type 0 where
  pub rounds : Bool
  pub forms : List Form
  pub escapes : ℕ
  pub captures : ℕ

abbrev pub nothing_away : Away
nothing_away = record { rounds = false; forms = []; escapes = 0; captures = 0 }

-- so many frames stay open while the run goes on
abbrev pub least_of : Away → ℕ
least_of away = cond away.rounds 1 0

-- no floor is lower than what lies away
pub record IsLow (away : Away) (floor : Floor) : Type 0 where
  pub operands : length away.forms ≤ floor.operands
  pub escapes : away.escapes ≤ floor.escapes
  pub captures : away.captures ≤ floor.captures

-- the frames that the run has opened: those of the shape, with their loops in the world
pub data Opens (away : Away) : List (Option Loop) → List Opened → Type 0 where
  none_open : away ≡ nothing_away → Opens away [] []
  round_open : {l : Loop} {place : ℕ} {floor : Floor} {frames : List Opened} → away.rounds ≡ true → l.called ≡ true → IsLow away floor → floor.escapes ≡ away.escapes → floor.captures ≡ away.captures
      → Opens away (Some l ∷ []) (recursive_frame place floor ∷ frames)
  with_open : {loops : List (Option Loop)} {frames : List Opened} → Opens away loops frames → Opens away (None ∷ loops) (with_frame ∷ frames)
  loop_open : {l : Loop} {place : ℕ} {loops : List (Option Loop)} {frames : List Opened} → l.called ≡ false → Opens away loops frames → Opens away (Some l ∷ loops) (loop_frame place ∷ frames)
  recursive_open : {l : Loop} {place : ℕ} {floor : Floor} {loops : List (Option Loop)} {frames : List Opened} → l.called ≡ false → IsLow away floor → Opens away loops frames
      → Opens away (Some l ∷ loops) (recursive_frame place floor ∷ frames)

none_low : (away : Away) → away ≡ nothing_away → IsLow away (floor_of [])
none_low away e =
    let operands : length away.forms ≡ 0 = ap (λ (a : Away). length a.forms) e in
    let escapes : away.escapes ≡ 0 = ap (λ (a : Away). a.escapes) e in
    let captures : away.captures ≡ 0 = ap (λ (a : Away). a.captures) e in
    let no_operands : length away.forms ≤ 0 = omega (arith, operands) in
    let no_escapes : away.escapes ≤ 0 = omega (arith, escapes) in
    let no_captures : away.captures ≤ 0 = omega (arith, captures) in
    record { operands = no_operands; escapes = no_escapes; captures = no_captures }

pub low_of : (away : Away) (loops : List (Option Loop)) (frames : List Opened) → Opens away loops frames → IsLow away (floor_of frames)
low_of away _ _ (none_open e) = none_low away e
low_of away _ _ (round_open {l = l} {place = place} {floor = floor} {frames = frames} rounds called low es cs) = low
low_of away _ _ (with_open {loops = loops} {frames = frames} opens) = low_of away loops frames opens
low_of away _ _ (loop_open {l = l} {place = place} {loops = loops} {frames = frames} called opens) = low_of away loops frames opens
low_of away _ _ (recursive_open {l = l} {place = place} {floor = floor} {loops = loops} {frames = frames} called low opens) = low

least_one : (b : Bool) → cond b 1 0 ≤ 1
least_one true = omega arith
least_one false = omega arith

pub enough_open : (away : Away) (loops : List (Option Loop)) (frames : List Opened) → Opens away loops frames → least_of away ≤ length loops
enough_open away _ _ (none_open e) = let least : least_of away ≡ 0 = ap (λ (a : Away). least_of a) e in omega (arith, least)
enough_open away _ _ (round_open {l = l} {place = place} {floor = floor} {frames = frames} rounds called low es cs) = least_one away.rounds
enough_open away _ _ (with_open {loops = loops} {frames = frames} opens) = let h : least_of away ≤ length loops = enough_open away loops frames opens in omega (arith, h)
enough_open away _ _ (loop_open {l = l} {place = place} {loops = loops} {frames = frames} called opens) = let h : least_of away ≤ length loops = enough_open away loops frames opens in omega (arith, h)
enough_open away _ _ (recursive_open {l = l} {place = place} {floor = floor} {loops = loops} {frames = frames} called low opens) =
    let h : least_of away ≤ length loops = enough_open away loops frames opens in omega (arith, h)

-- where the shape has no frame, none is open
pub closed_all : (away : Away) (loops : List (Option Loop)) (frames : List Opened) → Opens away loops frames → frames ≡ [] → (loops ≡ []) × (away ≡ nothing_away)
closed_all away _ _ (none_open e) is = (refl, e)
closed_all away _ _ (round_open {l = l} {place = place} {floor = floor} {frames = frames} rounds called low es cs) is = absurd (cc)
closed_all away _ _ (with_open {loops = loops} {frames = frames} opens) is = absurd (cc)
closed_all away _ _ (loop_open {l = l} {place = place} {loops = loops} {frames = frames} called opens) is = absurd (cc)
closed_all away _ _ (recursive_open {l = l} {place = place} {floor = floor} {loops = loops} {frames = frames} called low opens) is = absurd (cc)

pub never_closed : (away : Away) (frames : List Opened) → away.rounds ≡ true → Opens away [] frames → ⊥
never_closed away _ rounds (none_open e) = let not : away.rounds ≡ false = ap (λ (a : Away). a.rounds) e in absurd (cc)

-- the innermost frame is a loop's
pub record Looped (away : Away) (loops : List (Option Loop)) (frames : List Opened) : Type 0 where
  pub loop : Loop
  pub rest : List (Option Loop)
  pub are : loops ≡ Some loop ∷ rest
  pub may : (loop.called ≡ true) ⊎ (least_of away ≤ length rest)
  pub again : Opens away (Some (asked_once loop) ∷ rest) frames

pub looped : (away : Away) (loops : List (Option Loop)) (frames : List Opened) → Opens away loops frames → IsSome (innermost_loop frames) → Looped away loops frames
looped away _ _ (none_open e) some = absurd (cc)
looped away _ _ (round_open {l = l} {place = place} {floor = floor} {frames = frames} rounds called low es cs) some =
    record { loop = l; rest = []; are = refl; may = inl called; again = round_open rounds called low es cs }
looped away _ _ (with_open {loops = loops} {frames = frames} opens) some = absurd (cc)
looped away _ _ (loop_open {l = l} {place = place} {loops = loops} {frames = frames} called opens) some =
    record { loop = l; rest = loops; are = refl; may = inr (enough_open away loops frames opens); again = loop_open called opens }
looped away _ _ (recursive_open {l = l} {place = place} {floor = floor} {loops = loops} {frames = frames} called low opens) some =
    record { loop = l; rest = loops; are = refl; may = inr (enough_open away loops frames opens); again = recursive_open called low opens }

some_is : {A : Type 0} (x y : A) → Some x ≡ Some y → x ≡ y
some_is x y e = cc

-- the innermost frame is closed, which is no loop's
pub record WithClosed (away : Away) (s : Shape) (loops : List (Option Loop)) (frames : List Opened) (t : Shape) : Type 0 where
  pub rest : List (Option Loop)
  pub below : List Opened
  pub are : loops ≡ None ∷ rest
  pub opened : frames ≡ with_frame ∷ below
  pub opens : Opens away rest below
  pub left : t ≡ record s { frames = below }

pub with_closed : (away : Away) (s : Shape) (loops : List (Option Loop)) (frames : List Opened) (t : Shape) → Opens away loops frames → frame_closed s frames ≡ Some t → WithClosed away s loops frames t
with_closed away s _ _ t (none_open e) is = absurd (cc)
with_closed away s _ _ t (round_open {l = l} {place = place} {floor = floor} {frames = frames} rounds called low es cs) is = absurd (cc)
with_closed away s _ _ t (with_open {loops = loops} {frames = frames} opens) is =
    record { rest = loops; below = frames; are = refl; opened = refl; opens = opens; left = sym (some_is (record s { frames = frames }) t is) }
with_closed away s _ _ t (loop_open {l = l} {place = place} {loops = loops} {frames = frames} called opens) is = absurd (cc)
with_closed away s _ _ t (recursive_open {l = l} {place = place} {floor = floor} {loops = loops} {frames = frames} called low opens) is = absurd (cc)

-- the innermost frame is closed, which is a loop's: one that the run opened, or that of the rounds themselves
pub record LoopClosed (away : Away) (s : Shape) (loops : List (Option Loop)) (frames : List Opened) (t : Shape) : Type 0 where
  pub loop : Loop
  pub rest : List (Option Loop)
  pub frame : Opened
  pub below : List Opened
  pub are : loops ≡ Some loop ∷ rest
  pub called : loop.called ≡ false
  pub opened : frames ≡ frame ∷ below
  pub opens : Opens away rest below
  pub left : t ≡ record s { frames = below }

pub record RoundsOver (away : Away) (s : Shape) (loops : List (Option Loop)) : Type 0 where
  pub loop : Loop
  pub are : loops ≡ Some loop ∷ []
  pub rounds : away.rounds ≡ true
  pub called : loop.called ≡ true
  pub escapes : s.escapes ≡ away.escapes
  pub captures : s.captures ≡ away.captures

tested_shape : (b : Bool) (x t : Shape) → cond b (Some x) None ≡ Some t → (b ≡ true) × (t ≡ x)
tested_shape true x t e = (refl, sym (some_is x t e))
tested_shape false x t e = absurd (cc)

pub loop_closes : (away : Away) (s : Shape) (loops : List (Option Loop)) (frames : List Opened) (t : Shape) → Opens away loops frames → loop_closed s frames ≡ Some t
    → LoopClosed away s loops frames t ⊎ RoundsOver away s loops
loop_closes away s _ _ t (none_open e) is = absurd (cc)
loop_closes away s _ _ t (round_open {l = l} {place = place} {floor = floor} {frames = frames} rounds called low es cs) is =
    let parts = and_parts (s.escapes == floor.escapes) (s.captures == floor.captures)
    (tested_shape ((s.escapes == floor.escapes) && (s.captures == floor.captures)) (record s { frames = frames }) t is).0 in
    inr (record { loop = l; are = refl; rounds = rounds; called = called; escapes = eqb-true s.escapes floor.escapes parts.0 ∙ es; captures = eqb-true s.captures floor.captures parts.1 ∙ cs })
loop_closes away s _ _ t (with_open {loops = loops} {frames = frames} opens) is = absurd (cc)
loop_closes away s _ _ t (loop_open {l = l} {place = place} {loops = loops} {frames = frames} called opens) is =
    inl (record { loop = l; rest = loops; frame = loop_frame place; below = frames; are = refl; called = called; opened = refl; opens = opens; left = sym (some_is (record s { frames = frames }) t is) })
loop_closes away s _ _ t (recursive_open {l = l} {place = place} {floor = floor} {loops = loops} {frames = frames} called low opens) is =
    inl (record {
      loop = l;
      rest = loops;
      frame = recursive_frame place floor;
      below = frames;
      are = refl;
      called = called;
      opened = refl;
      opens = opens;
      left = (tested_shape ((s.escapes == floor.escapes) && (s.captures == floor.captures)) (record s { frames = frames }) t is).1;
    })

-- a world fits where these loops' frames, and so many escapes and captures, are open
pub record Fits (names : List (List ℕ)) (codes : Codes) (away : Away) (base : World) (loops : List (Option Loop)) (escapes captures : ℕ) (w : World) : Type 0 where
  pub frames : loops_of w.frames ≡ loops ++ loops_of base.frames
  pub outer : w.outer ≡ base.outer
  pub floor : w.floor ≡ base.floor
  pub saved : length w.saved + away.escapes ≡ escapes + length base.saved
  pub caught : length w.captures + away.captures + met base.parent ≡ captures + length base.captures + met w.parent
  pub meets : met base.parent ≤ met w.parent
  pub loads : unloaded names w.loaded + met w.parent ≤ unloaded names base.loaded + met base.parent
  pub added : (more : List (List ℕ)) × (w.loaded ≡ more ++ base.loaded)
  pub escaped : away.escapes ≤ escapes
  pub capturing : away.captures ≤ captures
  pub sound : Sound codes w
  pub here : w.here ≡ base.here

-- where the run begins over a world: there is a frame, of the world or of the rounds, and as many as may not be closed
pub record IsBase (away : Away) (base : World) : Type 0 where
  pub framed : ((first : Option Loop) × (others : List (Option Loop)) × (loops_of base.frames ≡ first ∷ others)) ⊎ (away.rounds ≡ true)
  pub floored : base.floor ≤ least_of away + length base.frames

module _ (names : List (List ℕ)) (codes : Codes) (away : Away) (base : World) where
  pub many_frames : (loops : List (Option Loop)) (escapes captures : ℕ) (w : World) → Fits names codes away base loops escapes captures w → length w.frames ≡ length loops + length base.frames
  many_frames loops escapes captures w fits =
      sym (length-map w.frames (λ (f : Frame). f.loop)) ∙ ap (λ (ls : List (Option Loop)). length ls) fits.frames ∙ length-append loops (loops_of base.frames)
      ∙ ap (λ n. length loops + n) (length-map base.frames (λ (f : Frame). f.loop))

  pub depth_at : (loops : List (Option Loop)) (escapes captures : ℕ) (w : World) → Fits names codes away base loops escapes captures w → depth_of w ≡ length loops + depth_of base
  depth_at loops escapes captures w fits =
      let many : length w.frames ≡ length loops + length base.frames = many_frames loops escapes captures w fits in
      omega (arith, many, fits.outer)

  -- what keeps a world that fits, fits
  pub fits_on : (loops : List (Option Loop)) (escapes captures : ℕ) (w v : World) → Fits names codes away base loops escapes captures w → Held names codes w v → Fits names codes away base loops escapes captures v
  fits_on loops escapes captures w v fits held =
      let kept = held.kept in
      let saved : length v.saved + away.escapes ≡ escapes + length base.saved = omega (arith, fits.saved, kept.saved) in
      let caught : length v.captures + away.captures + met base.parent ≡ captures + length base.captures + met v.parent = omega (arith, fits.caught, kept.captures) in
      let meets : met base.parent ≤ met v.parent = omega (arith, fits.meets, kept.meets) in
      let loads : unloaded names v.loaded + met v.parent ≤ unloaded names base.loaded + met base.parent = omega (arith, fits.loads, kept.loads) in
      record {
        frames = kept.loops ∙ fits.frames;
        outer = kept.outer ∙ fits.outer;
        floor = kept.floor ∙ fits.floor;
        saved = saved;
        caught = caught;
        meets = meets;
        loads = loads;
        added = (kept.added.0 ++ fits.added.0, kept.added.1 ∙ ap (λ (xs : List (List ℕ)). kept.added.0 ++ xs) fits.added.1 ∙ sym (append_assoc kept.added.0 fits.added.0 base.loaded));
        escaped = fits.escaped;
        capturing = fits.capturing;
        sound = held.sound;
        here = held.here ∙ fits.here;
      }

  -- there is a frame
  pub framed_at : (loops : List (Option Loop)) (frames : List Opened) (escapes captures : ℕ) (w : World) → IsBase away base → Opens away loops frames → Fits names codes away base loops escapes captures w → IsFramed w
  framed_at loops frames escapes captures w is_base opens fits =
      let enough : least_of away ≤ length loops = enough_open away loops frames opens in
      let many : length w.frames ≡ length loops + length base.frames = many_frames loops escapes captures w fits in
      let floor : w.floor ≤ length w.frames = omega (arith, enough, many, is_base.floored, fits.floor) in
      by_loops loops frames opens fits.frames is_base.framed floor
    where
      by_loops : (loops : List (Option Loop)) (frames : List Opened) → Opens away loops frames → loops_of w.frames ≡ loops ++ loops_of base.frames
          → ((first : Option Loop) × (others : List (Option Loop)) × (loops_of base.frames ≡ first ∷ others)) ⊎ (away.rounds ≡ true) → w.floor ≤ length w.frames → IsFramed w
      by_loops [] frames opens is (inl some) floor = record { loop = some.0; others = some.1; loops = is ∙ some.2; floor = floor }
      by_loops [] frames opens is (inr rounds) floor = absurd (never_closed away frames rounds opens)
      by_loops (o ∷ loops) frames opens is some floor = record { loop = o; others = loops ++ loops_of base.frames; loops = is; floor = floor }

  -- the frames of a world that fits
  pub fits_loops : (loops ls : List (Option Loop)) (escapes captures : ℕ) (w : World) → loops ≡ ls → Fits names codes away base loops escapes captures w → Fits names codes away base ls escapes captures w
  fits_loops loops ls escapes captures w e fits = subst (λ (xs : List (Option Loop)). Fits names codes away base xs escapes captures w) e fits

  pub fits_framed : (loops ls : List (Option Loop)) (escapes captures : ℕ) (w : World) (frames : List Frame) → loops_of frames ≡ ls ++ loops_of base.frames
      → (Each (LoopSound codes) (loops ++ loops_of base.frames) → Each (LoopSound codes) (ls ++ loops_of base.frames))
      → Fits names codes away base loops escapes captures w → Fits names codes away base ls escapes captures (record w { frames = frames })
  fits_framed loops ls escapes captures w frames are reached fits =
      record {
        frames = are;
        outer = fits.outer;
        floor = fits.floor;
        saved = fits.saved;
        caught = fits.caught;
        meets = fits.meets;
        loads = fits.loads;
        added = fits.added;
        escaped = fits.escaped;
        capturing = fits.capturing;
        sound = sound_framed codes w frames (subst (Each (LoopSound codes)) (sym are) (reached (subst (Each (LoopSound codes)) fits.frames fits.sound.frames))) fits.sound;
        here = fits.here;
      }

  -- another world, with the same frames, escapes and captures
  module _ (loops : List (Option Loop)) (escapes captures : ℕ) (w : World) (fits : Fits names codes away base loops escapes captures w) where
    -- a loop was opened, or came to its end
    pub fits_counted : Fits names codes away base loops escapes captures (counted_loop w)
    fits_counted =
        record { frames = fits.frames; outer = fits.outer; floor = fits.floor; saved = fits.saved; caught = fits.caught; meets = fits.meets; loads = fits.loads; added = fits.added; escaped = fits.escaped; capturing = fits.capturing; sound = record { macros = fits.sound.macros; frames = fits.sound.frames; closed = fits.sound.closed }; here = fits.here }

    left_by : (l : Loop) → LoopSound codes (Some l) → (b : Bool)
        → Fits names codes away base loops escapes captures (if b then record w { closed = w.closed ++ l ∷ [] } else record w { given = drop_given l.number w.given })
    left_by l reached true =
        let sound : Sound codes (record w { closed = w.closed ++ l ∷ [] }) =
        record { macros = fits.sound.macros; frames = fits.sound.frames; closed = each_joined (LoopSound codes) Some w.closed (l ∷ []) fits.sound.closed (reached, tt) } in
        record { frames = fits.frames; outer = fits.outer; floor = fits.floor; saved = fits.saved; caught = fits.caught; meets = fits.meets; loads = fits.loads; added = fits.added; escaped = fits.escaped; capturing = fits.capturing; sound = sound; here = fits.here }
    left_by l reached false =
        record { frames = fits.frames; outer = fits.outer; floor = fits.floor; saved = fits.saved; caught = fits.caught; meets = fits.meets; loads = fits.loads; added = fits.added; escaped = fits.escaped; capturing = fits.capturing; sound = record { macros = fits.sound.macros; frames = fits.sound.frames; closed = fits.sound.closed }; here = fits.here }

    pub fits_left : (l : Loop) → LoopSound codes (Some l) → Fits names codes away base loops escapes captures (loop_left w l)
    fits_left l reached = left_by l reached (is_held w l)

  -- the loop of the innermost frame is reached
  pub top_sound : (l : Loop) (rest : List (Option Loop)) (escapes captures : ℕ) (w : World) → Fits names codes away base (Some l ∷ rest) escapes captures w → LoopSound codes (Some l)
  top_sound l rest escapes captures w fits = let all : Each (LoopSound codes) (Some l ∷ (rest ++ loops_of base.frames)) = subst (Each (LoopSound codes)) fits.frames fits.sound.frames in all.0

  -- its loop may be asked
  pub owns : (l : Loop) (rest : List (Option Loop)) (escapes captures : ℕ) (w : World) → IsBase away base → Fits names codes away base (Some l ∷ rest) escapes captures w → (l.called ≡ true) ⊎ (least_of away ≤ length rest)
      → is_own w l ≡ true
  owns l rest escapes captures w is_base fits may =
      let t = top w (Some l) (rest ++ loops_of base.frames) fits.frames in
      let frames : length t.rest ≡ length rest + length base.frames =
      sym (length-map t.rest (λ (f : Frame). f.loop)) ∙ ap (λ (ls : List (Option Loop)). length ls) t.others ∙ length-append rest (loops_of base.frames)
      ∙ ap (λ n. length rest + n) (length-map base.frames (λ (f : Frame). f.loop)) in
      may_ask w l t.rest (ap (λ (fs : List Frame). length fs) t.frames) (floored t.rest frames may)
    where
      floored : (frames : List Frame) → length frames ≡ length rest + length base.frames → (l.called ≡ true) ⊎ (least_of away ≤ length rest) → (l.called ≡ true) ⊎ (w.floor ≤ length frames)
      floored frames many (inl called) = inl called
      floored frames many (inr least) = inr (omega (arith, many, least, is_base.floored, fits.floor))

  -- a frame of none may be closed
  pub closes : (rest : List (Option Loop)) (frames : List Opened) (escapes captures : ℕ) (w : World) → IsBase away base → Opens away rest frames → Fits names codes away base (None ∷ rest) escapes captures w
      → (below : List Frame) → loops_of below ≡ rest ++ loops_of base.frames → w.floor ≤ length below
  closes rest frames escapes captures w is_base opens fits below are =
      let enough : least_of away ≤ length rest = enough_open away rest frames opens in
      let many : length below ≡ length rest + length base.frames =
      sym (length-map below (λ (f : Frame). f.loop)) ∙ ap (λ (ls : List (Option Loop)). length ls) are ∙ length-append rest (loops_of base.frames)
      ∙ ap (λ n. length rest + n) (length-map base.frames (λ (f : Frame). f.loop)) in
      omega (arith, enough, many, is_base.floored, fits.floor)
