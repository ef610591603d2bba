-- The last capture of a stack is the innermost one.
use Rattle.std.proofs.Common.{◌≡◌, ℕ, suc, ◌+◌, List, [], ◌∷◌, ◌++◌, length, get_or, set, take, reverse, Result, Ok, Err, Option, None, Some, OnOk, OnSome, IfSome, IfNone, sym, ap, ◌∙◌, arith}
use Rattle.std.proofs.Math.Seq.{take-suc, take-suc-set}
use Rattle.std.proofs.lemmas.List.{reverse-append, take_all, length-set}
use Rattle.template_machine_meaning.specs.World.{Capture, World}
use Rattle.template_machine_state.specs.Changes.{innermost_capture, capture_changed}

whole : (cs : List Capture) (place : ℕ) (d : Capture) → place + 1 ≡ length cs → cs ≡ take place cs ++ get_or cs place d ∷ []
whole cs place d e = sym (take_all (suc place) cs (omega arith)) ∙ take-suc cs place d (omega arith)

-- the captures of a stack, the last one first
last_first : (cs : List Capture) (place : ℕ) (d : Capture) → place + 1 ≡ length cs → reverse cs ≡ get_or cs place d ∷ reverse (take place cs)
last_first cs place d e = ap reverse (whole cs place d e) ∙ reverse-append (take place cs) (get_or cs place d ∷ [])

set_last : (cs : List Capture) (place : ℕ) (g : Capture) → place + 1 ≡ length cs → reverse (set cs place g) ≡ g ∷ reverse (take place cs)
set_last cs place g e =
    let n : length (set cs place g) ≡ length cs = length-set cs place g in
    ap reverse (sym (take_all (suc place) (set cs place g) (omega arith)) ∙ take-suc-set cs place g (omega arith))
    ∙ reverse-append (take place cs) (g ∷ [])

-- a change of the last one
pub last_changed : (change : Capture → Capture) (cs : List Capture) (place : ℕ) (f g : Capture) → place + 1 ≡ length cs → f ≡ get_or cs place f → g ≡ change f
    → reverse (set cs place g) ≡ capture_changed change (reverse cs)
last_changed change cs place f g e at is =
    set_last cs place g e ∙ ap (λ x. x ∷ reverse (take place cs)) (is ∙ ap change at) ∙ sym (ap (capture_changed change) (last_first cs place f e))

-- the same where a call succeeded
pub last_changed_on : {X E : Type 0} (result : Result X E) (change : Capture → Capture) (cs : List Capture) (place : ℕ) (f g : Capture)
    → place + 1 ≡ length cs → f ≡ get_or cs place f → OnOk result (g ≡ change f)
    → OnOk result (reverse (set cs place g) ≡ capture_changed change (reverse cs))
last_changed_on (Ok x) change cs place f g e at is = last_changed change cs place f g e at is
last_changed_on (Err e) change cs place f g h at is = tt

-- the same where one gave something
pub last_changed_some : {X : Type 0} (result : Option X) (change : Capture → Capture) (cs : List Capture) (place : ℕ) (f g : Capture)
    → place + 1 ≡ length cs → f ≡ get_or cs place f → OnSome result (g ≡ change f)
    → OnSome result (reverse (set cs place g) ≡ capture_changed change (reverse cs))
last_changed_some (Some x) change cs place f g e at is = last_changed change cs place f g e at is
last_changed_some None change cs place f g e at is = tt

-- what the last one is
last_is : (cs : List Capture) (place : ℕ) (f g : Capture) → place + 1 ≡ length cs → f ≡ get_or cs place f → f ≡ g → innermost_capture (reverse cs) ≡ Some g
last_is cs place f g e at is = ap innermost_capture (last_first cs place f e) ∙ ap Some (sym at ∙ is)

pub last_some : {X : Type 0} (result : Option X) (is : X → Capture) (cs : List Capture) (place : ℕ) (f : Capture) → place + 1 ≡ length cs → f ≡ get_or cs place f
    → IfSome result (λ x. f ≡ is x) → IfSome result (λ x. innermost_capture (reverse cs) ≡ Some (is x))
last_some (Some x) is cs place f e at same = last_is cs place f (is x) e at same
last_some None is cs place f e at same = tt

pub last_none : {X : Type 0} (result : Option X) (cs : List Capture) (place : ℕ) (f g : Capture) → place + 1 ≡ length cs → f ≡ get_or cs place f
    → IfNone result (f ≡ g) → IfNone result (innermost_capture (reverse cs) ≡ Some g)
last_none (Some x) cs place f g e at same = tt
last_none None cs place f g e at same = last_is cs place f g e at same

-- of such captures there are such worlds
pub world_on : {X E : Type 0} (result : Result X E) (world : List Capture → World) (cs ds : List Capture) → OnOk result (cs ≡ ds) → OnOk result (world cs ≡ world ds)
world_on (Ok x) world cs ds is = ap world is
world_on (Err e) world cs ds is = tt

pub world_some : {X : Type 0} (result : Option X) (world : List Capture → World) (cs ds : List Capture) → OnSome result (cs ≡ ds) → OnSome result (world cs ≡ world ds)
world_some (Some x) world cs ds is = ap world is
world_some None world cs ds is = tt

-- the last one goes
pub last_gone : (cs left : List Capture) (c : Capture) → cs ≡ left ++ c ∷ [] → reverse cs ≡ c ∷ reverse left
last_gone cs left c is = ap reverse is ∙ reverse-append left (c ∷ [])
