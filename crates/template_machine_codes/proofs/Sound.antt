-- What a run has made and opened is reached where it begins: so it stays, whatever runs within.
use Rattle.std.proofs.Common.{◌≡◌, ℕ, zero, suc, ◌-◌, ◌==◌, Bool, true, false, List, [], ◌∷◌, ◌++◌, drop, take, length, map, slice_get, Option, None, Some, refl, sym, subst, arith}
use Rattle.std.specs.Prelude.{All, if◌then◌else◌}
use Rattle.template_machine_meaning.specs.World.{Loop, Frame, Macro, World, seen_frames}
use Rattle.template_machine_meaning.specs.Records.{loop_numbered, all_loops, macro_of, loop_of}
use Rattle.template_machine_meaning.specs.Leaving.{is_below, held_among, loops_behind}
use Rattle.template_machine_meaning.specs.Plans.{Purpose, includes, calls_block, takes_block, calls_super, calls_macro, runs_rounds, Caller, caller_of, outermost, put_back, after_by}
use Rattle.template_machine_meaning.specs.Rounds.{innermost_loop}
use Rattle.template_machine_meaning.proofs.Keeping.{Keeps, keeps_itself, loops_of}
use Rattle.template_machine_meaning.proofs.Included.{loops_writes}
use Rattle.template_machine_codes.specs.Streams.{Codes, IsBodyReached, IsLoopReached, IsSound}

-- each of them is so
abbrev pub Each : {X : Type 0} → (X → Type 0) → List X → Type 0
Each P [] = Unit {0}
Each P (x ∷ xs) = P x × Each P xs

module _ {X : Type 0} (P : X → Type 0) where
  pub each_of : (xs : List X) → All P xs → Each P xs
  each_of [] h = tt
  each_of (x ∷ xs) h = (h 0 x (omega arith), each_of xs (λ k d less. h (suc k) d (omega arith)))

  all_of : (xs : List X) → Each P xs → All P xs
  all_of [] h k d less = absurd (omega (arith, less))
  all_of (x ∷ xs) h zero d less = h.0
  all_of (x ∷ xs) h (suc k) d less = all_of xs h.1 k d (omega (arith, less))

  pub each_append : (xs ys : List X) → Each P xs → Each P ys → Each P (xs ++ ys)
  each_append [] ys h k = k
  each_append (x ∷ xs) ys h k = (h.0, each_append xs ys h.1 k)

  pub each_before : (xs ys : List X) → Each P (xs ++ ys) → Each P xs
  each_before [] ys h = tt
  each_before (x ∷ xs) ys h = (h.0, each_before xs ys h.1)

  pub each_behind : (xs ys : List X) → Each P (xs ++ ys) → Each P ys
  each_behind [] ys h = h
  each_behind (x ∷ xs) ys h = each_behind xs ys h.1

  each_taken : (n : ℕ) (xs : List X) → Each P xs → Each P (take n xs)
  each_taken zero xs h = tt
  each_taken (suc n) [] h = tt
  each_taken (suc n) (x ∷ xs) h = (h.0, each_taken n xs h.1)

  each_at : (xs : List X) (n : ℕ) (x : X) → slice_get xs n ≡ Some x → Each P xs → P x
  each_at [] n x e h = absurd (cc)
  each_at (y ∷ xs) zero x e h = let same : y ≡ x = cc in subst P same h.0
  each_at (y ∷ xs) (suc n) x e h = each_at xs n x e h.1

  module _ {Y : Type 0} (f : Y → X) where
    each_dropped : (n : ℕ) (ys : List Y) → Each P (map f ys) → Each P (map f (drop n ys))
    each_dropped zero ys h = h
    each_dropped (suc n) [] h = tt
    each_dropped (suc n) (y ∷ ys) h = each_dropped n ys h.1

    each_kept : (n : ℕ) (ys : List Y) → Each P (map f ys) → Each P (map f (take n ys))
    each_kept zero ys h = tt
    each_kept (suc n) [] h = tt
    each_kept (suc n) (y ∷ ys) h = (h.0, each_kept n ys h.1)

    pub each_joined : (xs ys : List Y) → Each P (map f xs) → Each P (map f ys) → Each P (map f (xs ++ ys))
    each_joined [] ys h k = k
    each_joined (x ∷ xs) ys h k = (h.0, each_joined xs ys h.1 k)

module _ (codes : Codes) where
  abbrev pub MacroSound : Macro → Type 0
  MacroSound m = IsBodyReached codes m.stream m.number

  abbrev pub LoopSound : Option Loop → Type 0
  LoopSound o = IsLoopReached codes o

  pub record Sound (w : World) : Type 0 where
    pub macros : Each MacroSound w.macros
    pub frames : Each LoopSound (loops_of w.frames)
    pub closed : Each LoopSound (map Some w.closed)

  pub sound_of : (w : World) → IsSound codes w → Sound w
  sound_of w h =
      let loops : Each LoopSound (loops_of w.frames ++ map Some w.closed) = each_of LoopSound (all_loops w) h.loops in
      record {
        macros = each_of MacroSound w.macros h.macros;
        frames = each_before LoopSound (loops_of w.frames) (map Some w.closed) loops;
        closed = each_behind LoopSound (loops_of w.frames) (map Some w.closed) loops;
      }

  pub sound_left : (w : World) → Sound w → IsSound codes w
  sound_left w sound =
      record {
        macros = all_of MacroSound w.macros sound.macros;
        loops = all_of LoopSound (all_loops w) (each_append LoopSound (loops_of w.frames) (map Some w.closed) sound.frames sound.closed);
      }

  -- the loops of other frames
  pub sound_framed : (w : World) (frames : List Frame) → Each LoopSound (loops_of frames) → Sound w → Sound (record w { frames = frames })
  sound_framed w frames h sound = record { macros = sound.macros; frames = h; closed = sound.closed }

  -- macros and loops that are found
  macro_by : (w : World) (b : Bool) (number : ℕ) (m : Macro) → Sound w → (if b then slice_get w.macros number else None) ≡ Some m → MacroSound m
  macro_by w true number m sound e = each_at MacroSound w.macros number m e sound.macros
  macro_by w false number m sound e = absurd (cc)

  pub macro_sound : (w : World) (id number : ℕ) (m : Macro) → Sound w → macro_of w id number ≡ Some m → MacroSound m
  macro_sound w id number m sound e = macro_by w (id == w.id) number m sound e

  numbered_sound : (number : ℕ) (loops : List (Option Loop)) (l : Loop) → Each LoopSound loops → loop_numbered number loops ≡ Some l → LoopSound (Some l)
  numbered_sound number [] l h e = absurd (cc)
  numbered_sound number (None ∷ loops) l h e = numbered_sound number loops l h.1 e
  numbered_sound number (Some k ∷ loops) l h e = by_test (λ f. numbered_sound number loops l h.1 f) (k.number == number) e
    where
      by_test : (loop_numbered number loops ≡ Some l → LoopSound (Some l)) → (b : Bool) → (if b then Some k else loop_numbered number loops) ≡ Some l → LoopSound (Some l)
      by_test later true f = subst LoopSound f h.0
      by_test later false f = later f

  loop_by : (w : World) (b : Bool) (number : ℕ) (l : Loop) → Sound w → (if b then loop_numbered number (all_loops w) else None) ≡ Some l → LoopSound (Some l)
  loop_by w true number l sound e = numbered_sound number (all_loops w) l (each_append LoopSound (loops_of w.frames) (map Some w.closed) sound.frames sound.closed) e
  loop_by w false number l sound e = absurd (cc)

  pub loop_sound : (w : World) (id number : ℕ) (l : Loop) → Sound w → loop_of w id number ≡ Some l → LoopSound (Some l)
  loop_sound w id number l sound e = loop_by w (id == w.id) number l sound e

  inner_sound : (frames : List Frame) (l : Loop) → Each LoopSound (loops_of frames) → innermost_loop frames ≡ Some l → LoopSound (Some l)
  inner_sound [] l h e = absurd (cc)
  inner_sound (f ∷ frames) l h e = by_loop (λ k. inner_sound frames l h.1 k) f.loop h.0 e
    where
      by_loop : (innermost_loop frames ≡ Some l → LoopSound (Some l)) → (o : Option Loop) → LoopSound o
          → (elim o [ None ↦ innermost_loop frames | Some k ↦ Some k ]) ≡ Some l → LoopSound (Some l)
      by_loop later None sound k = later k
      by_loop later (Some x) sound k = subst LoopSound k sound

  pub innermost_sound : (w : World) (l : Loop) → Sound w → innermost_loop (seen_frames w) ≡ Some l → LoopSound (Some l)
  innermost_sound w l sound e =
      inner_sound (seen_frames w) l (each_kept LoopSound (λ (f : Frame). f.loop) (length w.frames - w.base) w.frames sound.frames) e

  -- behind a run within
  each_held : (n : ℕ) (loops : List (Option Loop)) → Each LoopSound loops → Each LoopSound (map Some (held_among n loops))
  each_held n [] h = tt
  each_held n (None ∷ loops) h = each_held n loops h.1
  each_held n (Some l ∷ loops) h = by_test (each_held n loops h.1) (is_below n l)
    where
      by_test : Each LoopSound (map Some (held_among n loops)) → (b : Bool) → Each LoopSound (map Some (if b then l ∷ held_among n loops else held_among n loops))
      by_test later true = (h.0, later)
      by_test later false = later

  sound_back : (c : Caller) (v : World) → Sound v → Sound (put_back c v)
  sound_back c v sound = record {
    macros = sound.macros;
    frames = each_dropped LoopSound (λ (f : Frame). f.loop) (length v.frames - c.frames) v.frames sound.frames;
    closed = each_joined LoopSound Some v.closed (held_among v.held (loops_behind c.frames v)) sound.closed
        (each_held v.held (loops_behind c.frames v) (each_taken LoopSound (length v.frames - c.frames) (loops_of v.frames) sound.frames));
  }

  pub sound_after : (purpose : Purpose) (c : Caller) (v : World) → Sound v → Sound (after_by purpose c v)
  sound_after includes c v sound =
      let back : Sound (put_back c v) = sound_back c v sound in
      record { macros = back.macros; frames = subst (Each LoopSound) (sym (loops_writes c.writes (outermost c.frames v.frames))) back.frames; closed = back.closed }
  sound_after calls_block c v sound = sound_back c v sound
  sound_after takes_block c v sound = sound_back c v sound
  sound_after (calls_super named name place) c v sound = let back : Sound (put_back c v) = sound_back c v sound in record { macros = back.macros; frames = back.frames; closed = back.closed }
  sound_after calls_macro c v sound = let back : Sound (put_back c v) = sound_back c v sound in record { macros = back.macros; frames = back.frames; closed = back.closed }
  sound_after (runs_rounds named) c v sound = let back : Sound (put_back c v) = sound_back c v sound in record { macros = back.macros; frames = back.frames; closed = back.closed }

-- the stream that runs is the caller's again
pub here_after : (purpose : Purpose) (c : Caller) (v : World) → (after_by purpose c v).here ≡ c.here
here_after includes c v = refl
here_after calls_block c v = refl
here_after takes_block c v = refl
here_after (calls_super named name place) c v = refl
here_after calls_macro c v = refl
here_after (runs_rounds named) c v = refl

-- what keeps a world, in the stream that runs, and all that was made is reached
pub record Held (names : List (List ℕ)) (codes : Codes) (w v : World) : Type 0 where
  pub kept : Keeps names w v
  pub sound : Sound codes v
  pub here : v.here ≡ w.here

pub held_itself : (names : List (List ℕ)) (codes : Codes) (w : World) → Sound codes w → Held names codes w w
held_itself names codes w sound = record { kept = keeps_itself names w; sound = sound; here = refl }

-- behind a run within
pub held_after : (names : List (List ℕ)) (codes : Codes) (w : World) (purpose : Purpose) (v : World) → Keeps names w (after_by purpose (caller_of w) v) → Sound codes v
    → Held names codes w (after_by purpose (caller_of w) v)
held_after names codes w purpose v kept sound =
    record { kept = kept; sound = sound_after codes purpose (caller_of w) v sound; here = here_after purpose (caller_of w) v }
