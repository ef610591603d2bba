-- What closures hold, and which of them a frame writes.
use Rattle.std.proofs.Common.{◌≡◌, ◌∙◌, ◌<◌, ℕ, Bool, true, false, List, [], ◌∷◌, ◌++◌, length, slice_get, slice_set, Result, Ok, Err, OnOk, Option, None, Some, IfSome, is_some, if◌then◌else◌, refl, sym, ap, arith}
use Rattle.template_values_model.specs.Val.{Val}
use Rattle.template_machine_meaning.specs.Namespaces.{may_hold_loop}
use Rattle.template_machine_meaning.specs.Closures.{enclosing, put_at, put_in_closure, stands, writes_of}
use Rattle.template_machine_meaning.specs.Plans.{with_writes}
use Rattle.template_machine_meaning.specs.World.{Bindings, Frame, World, closure_of, local_at, put_local, value_named}
use Rattle.template_machine_state.specs.Changes.{stored, stored_there, writing}

-- in no closure nothing is put
put_none : (w : World) (number : ℕ) (name : List ℕ) (v : Val) (o : Option Bindings) → is_some o ≡ false → w ≡ put_at w number name v o
put_none w number name v None none = refl
put_none w number name v (Some held) none = cc

pub put_nowhere : (w : World) (number : ℕ) (name : List ℕ) (v : Val) → is_some (slice_get w.closures number) ≡ false
    → w ≡ put_in_closure (Some number) name v w
put_nowhere w number name v none = put_none w number name v (slice_get w.closures number) none

-- in one that there is
pub put_there : (w after : World) (closures : List Bindings) (number : ℕ) (name : List ℕ) (v : Val) (holds : Bool) (o : Option Bindings)
    → is_some o ≡ true → IfSome o (λ held. closures ≡ slice_set w.closures number (put_local name v held)) → holds ≡ may_hold_loop v
    → after ≡ record w { closures = closures; held = if holds then w.opened else w.held } → after ≡ put_at w number name v o
put_there w after closures number name v holds (Some held) some is holding left =
    left ∙ ap (λ cs. record w { closures = cs; held = if holds then w.opened else w.held }) is
    ∙ ap (λ b. record w { closures = slice_set w.closures number (put_local name v held); held = if b then w.opened else w.held }) holding
put_there w after closures number name v holds None some is holding left = cc

-- a frame that writes a closure which is there goes on to, another one writes a new one
abbrev written_as : World → Bool → World
written_as w there =
    if there then w
    else record w { frames = with_writes (Some (length w.closures)) w.frames; closures = w.closures ++ [] ∷ [] }

pub writes_on : (w : World) (there : Bool) → there ≡ stands w (writes_of w.frames) → there ≡ true → w ≡ writing w
writes_on w there is some = ap (written_as w) (sym some ∙ is)

pub writes_anew : (w : World) (there : Bool) → there ≡ stands w (writes_of w.frames) → there ≡ false
    → record w { frames = with_writes (Some (length w.closures)) w.frames; closures = w.closures ++ [] ∷ [] } ≡ writing w
writes_anew w there is none = ap (written_as w) (sym none ∙ is)

-- the innermost frame then writes it
pub now_written : (number : ℕ) (fs : List Frame) → 0 < length fs → writes_of (with_writes (Some number) fs) ≡ Some number
now_written number [] some = absurd (omega arith)
now_written number (f ∷ fs) some = refl

-- a store goes into the closure that the frame writes, if it writes one
pub stored_alone : {X E : Type 0} (result : Result X E) (w after : World) (name : List ℕ) (v : Val) → None ≡ writes_of w.frames
    → OnOk result (after ≡ stored_there name v w) → OnOk result (after ≡ stored name v w)
stored_alone (Ok x) w after name v none is = is ∙ ap (λ o. put_in_closure o name v (stored_there name v w)) none
stored_alone (Err e) w after name v none is = tt

pub stored_with : {X E : Type 0} (result : Result X E) (w after : World) (number : ℕ) (name : List ℕ) (v : Val) → Some number ≡ writes_of w.frames
    → OnOk result (after ≡ put_in_closure (Some number) name v (stored_there name v w)) → OnOk result (after ≡ stored name v w)
stored_with (Ok x) w after number name v some is = is ∙ ap (λ o. put_in_closure o name v (stored_there name v w)) some
stored_with (Err e) w after number name v some is = tt

-- a name that the closure holds stays as it is, another one is put there
pub holds_already : (w : World) (number : ℕ) (name : List ℕ) (b : Bool) → writes_of w.frames ≡ Some number
    → b ≡ is_some (local_at name (closure_of w.closures (Some number))) → b ≡ true → w ≡ enclosing name w
holds_already w number name b some is held =
    let test : is_some (local_at name (closure_of w.closures (writes_of w.frames))) ≡ true =
    ap (λ o. is_some (local_at name (closure_of w.closures o))) some ∙ sym is ∙ held in
    sym (ap (λ t. if t then w else put_in_closure (writes_of w.frames) name (value_named name w) w) test)

pub holds_now : {X E : Type 0} (result : Result X E) (w after : World) (number : ℕ) (name : List ℕ) (v : Val) (b : Bool) → writes_of w.frames ≡ Some number
    → b ≡ is_some (local_at name (closure_of w.closures (Some number))) → b ≡ false → v ≡ value_named name w
    → OnOk result (after ≡ put_in_closure (Some number) name v w) → OnOk result (after ≡ enclosing name w)
holds_now (Ok x) w after number name v b some is lacked value put =
    let test : is_some (local_at name (closure_of w.closures (writes_of w.frames))) ≡ false =
    ap (λ o. is_some (local_at name (closure_of w.closures o))) some ∙ sym is ∙ lacked in
    put ∙ ap (λ (u : Val). put_in_closure (Some number) name u w) value
    ∙ sym (ap (λ o. put_in_closure o name (value_named name w) w) some)
    ∙ sym (ap (λ t. if t then w else put_in_closure (writes_of w.frames) name (value_named name w) w) test)
holds_now (Err e) w after number name v b some is lacked value put = tt
