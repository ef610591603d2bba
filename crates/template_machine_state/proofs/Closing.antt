-- A loop that is closed stays known or is forgotten, as its value may be held or not.
use Rattle.std.proofs.Common.{◌≡◌, ℕ, ◌==◌, Bool, true, false, List, [], ◌∷◌, ◌++◌, reverse, Option, None, Some, IfSome, if◌then◌else◌, refl, sym, ap, ◌∙◌}
use Rattle.std.proofs.lemmas.List.{append-nil}
use Rattle.std.specs.Global.{Vec}
use Rattle.std.specs.Option.{option_or}
use Rattle.template_machine_meaning.specs.World.{Loop, World, drop_given}
use Rattle.template_machine_meaning.specs.Records.{loop_numbered}
use Rattle.template_machine_meaning.specs.Leaving.{given_behind, held_among, is_held}
use Rattle.template_machine_frames.specs.Frames.{Scopes, around_innermost, innermost_loop}
use Rattle.template_machine_state.specs.Changes.{loop_closed}
use Rattle.template_machine_state.specs.Cuts.{Calls, CutOne}
use Rattle.template_machine_state.specs.declared.state.State.TheInside.{Inside}
use Rattle.template_machine_state.proofs.Worlds.{capturing}

-- such are what `changed` was called with, and the loops that were closed
left_as : (w : World) (l : Loop) (given : Calls) (closed : List Loop) (b : Bool) → given ≡ (if b then w.given else drop_given l.number w.given)
    → closed ≡ w.closed ++ (if b then l ∷ [] else [])
    → record w { frames = around_innermost w.frames; given = given; closed = closed }
    ≡ record (if b then record w { closed = w.closed ++ l ∷ [] } else record w { given = drop_given l.number w.given }) { frames = around_innermost w.frames }
left_as w l given closed true left kept =
    ap (λ (gs : Calls). record w { frames = around_innermost w.frames; given = gs; closed = closed }) left
    ∙ ap (λ (ls : List Loop). record w { frames = around_innermost w.frames; closed = ls }) kept
left_as w l given closed false left kept =
    ap (λ (gs : Calls). record w { frames = around_innermost w.frames; given = gs; closed = closed }) left
    ∙ ap (λ (ls : List Loop). record w { frames = around_innermost w.frames; given = drop_given l.number w.given; closed = ls }) (kept ∙ append-nil w.closed)

left_so : (w : World) (o : Option Loop) (given : Calls) (closed : List Loop) → given ≡ given_behind w.held (o ∷ []) w.given
    → closed ≡ w.closed ++ held_among w.held (o ∷ [])
    → IfSome o (λ l. record w { frames = around_innermost w.frames; given = given; closed = closed } ≡ loop_closed l w)
left_so w (Some l) given closed left kept = left_as w l given closed (is_held w l) left kept
left_so w None given closed left kept = tt

-- of the fields of a state that a loop's end changes there are such worlds
abbrev pub scoping : Inside → Scopes → Calls → List Loop → World
scoping i s given closed = record (capturing i (reverse i.captures.items)) {
  frames = s.frames;
  base = s.base;
  floor = s.floor;
  outer = s.outer;
  closures = s.closures;
  given = given;
  closed = closed;
}

if_some : {X : Type 0} (o : Option X) (P Q : X → Type 0) → ((x : X) → P x → Q x) → IfSome o P → IfSome o Q
if_some (Some x) P Q so is = so x is
if_some None P Q so is = tt

pub closed_so : (i : Inside) (s : Scopes) (given : Calls) (closed : Vec Loop) → CutOne i.held i.ctx i.given i.closed s given closed
    → IfSome (innermost_loop i.ctx.frames) (λ l. scoping i s given closed.items ≡ loop_closed l (scoping i i.ctx i.given i.closed.items))
closed_so i s given closed cut =
    let w : World = scoping i i.ctx i.given i.closed.items in
    if_some (innermost_loop i.ctx.frames) (λ l. record w { frames = around_innermost w.frames; given = given; closed = closed.items } ≡ loop_closed l w)
    (λ l. scoping i s given closed.items ≡ loop_closed l w)
    (λ l is. ap (λ (t : Scopes). scoping i t given closed.items) cut.rest ∙ is)
    (left_so w (innermost_loop i.ctx.frames) given closed.items cut.forgotten cut.kept)

found_here : (l : Loop) (number : ℕ) (b : Bool) (o p : Option Loop)
    → (if b then Some l else option_or o p) ≡ option_or (if b then Some l else o) p
found_here l number true o p = refl
found_here l number false o p = refl

-- a loop of an open frame comes before those that were closed
pub numbered_of_two : (number : ℕ) (xs ys : List (Option Loop)) → loop_numbered number (xs ++ ys) ≡ option_or (loop_numbered number xs) (loop_numbered number ys)
numbered_of_two number [] ys = refl
numbered_of_two number (None ∷ xs) ys = numbered_of_two number xs ys
numbered_of_two number (Some l ∷ xs) ys =
    ap (λ o. if l.number == number then Some l else o) (numbered_of_two number xs ys) ∙ found_here l number (l.number == number) (loop_numbered number xs) (loop_numbered number ys)

-- one in front is that of both, and where none is in front, one behind
pub loop_in_front : (l : Loop) (number : ℕ) (xs ys : List (Option Loop)) → Some l ≡ loop_numbered number xs → Some l ≡ loop_numbered number (xs ++ ys)
loop_in_front l number xs ys is = ap (λ o. option_or o (loop_numbered number ys)) is ∙ sym (numbered_of_two number xs ys)

pub loop_behind : (o : Option Loop) (number : ℕ) (xs ys : List (Option Loop)) → None ≡ loop_numbered number xs → o ≡ loop_numbered number ys
    → o ≡ loop_numbered number (xs ++ ys)
loop_behind o number xs ys none is = is ∙ ap (λ p. option_or p (loop_numbered number ys)) none ∙ sym (numbered_of_two number xs ys)
