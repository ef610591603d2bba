-- Room for loops that are closed stays, whatever becomes of frames.
use Rattle.std.proofs.Common.{◌≡◌, ◌∙◌, ℕ, ℤ, zero, suc, ◌+◌, ◌-◌, ◌≤◌, Bool, true, false, IsTrue, List, [], ◌∷◌, length, drop, Result, Ok, Err, OnOk, OnErr, IfOk, Option, None, Some, is_some, IfSome, IfNone, nat_le, vec_len, vec_capacity, if◌then◌else◌, refl, sym, ap, subst, arith}
use Rattle.std.specs.Global.{Vec}
use Rattle.template_values_errors.specs.declared.ErrorKind.{ErrorKind}
use Rattle.template_values_errors.specs.declared.ErrorKind.TheVariants.{InvalidOperation}
use Rattle.template_values_model.specs.Val.{Val, int}
use Rattle.template_machine_meaning.specs.Plans.{with_writes}
use Rattle.template_machine_meaning.specs.World.{Bindings, Frame, Loop, empty_frame, loop_frame}
use Rattle.template_machine_frames.specs.Frames.{Becomes, Scopes, around_innermost, asked_frame, frame_asked, framed, framed_anew, included, innermost_changed, put_back, with_local}
use Rattle.template_machine_state.specs.Room.{HasRoom, one_more, open_loops}

-- as much room is enough where no more is wanted
room_for_fewer : (before after : List Frame) (closed : Vec Loop) → open_loops after ≤ open_loops before → HasRoom before closed → HasRoom after closed
room_for_fewer before after closed fewer room = omega (arith, fewer, room)

room_as : (before after : List Frame) (closed : Vec Loop) → open_loops after ≡ open_loops before → HasRoom before closed → HasRoom after closed
room_as before after closed same room = omega (arith, same, room)

same_room : (before after : Scopes) (closed : Vec Loop) → after ≡ before → HasRoom before.frames closed → HasRoom after.frames closed
same_room before after closed same room = room_as before.frames after.frames closed (ap (λ (s : Scopes). open_loops s.frames) same) room

-- a loop wants room for one, or for none
few : (n : ℕ) (b : Bool) → n ≤ (if b then suc n else n)
few n true = omega arith
few n false = omega arith

one_fewer : (o : Option Loop) (n : ℕ) → n ≤ one_more o n
one_fewer None n = omega arith
one_fewer (Some l) n = few n (is_some l.variable)

more_than : (n m : ℕ) (b : Bool) → n ≤ m → (if b then suc n else n) ≤ suc m
more_than n m true less = omega (arith, less)
more_than n m false less = omega (arith, less)

at_most_one : (o : Option Loop) (n m : ℕ) → n ≤ m → one_more o n ≤ suc m
at_most_one None n m less = omega (arith, less)
at_most_one (Some l) n m less = more_than n m (is_some l.variable) less

-- no more than there are frames
loops_few : (fs : List Frame) → open_loops fs ≤ length fs
loops_few [] = omega arith
loops_few (f ∷ fs) = at_most_one f.loop (open_loops fs) (length fs) (loops_few fs)

-- frames of which some are gone
pub around_fewer : (fs : List Frame) → open_loops (around_innermost fs) ≤ open_loops fs
around_fewer [] = omega arith
around_fewer (f ∷ fs) = one_fewer f.loop (open_loops fs)

drop_fewer : (k : ℕ) (fs : List Frame) → open_loops (drop k fs) ≤ open_loops fs
drop_fewer zero fs = omega arith
drop_fewer (suc k) [] = omega arith
drop_fewer (suc k) (f ∷ fs) =
    let less : open_loops (drop k fs) ≤ open_loops fs = drop_fewer k fs in
    let more : open_loops fs ≤ one_more f.loop (open_loops fs) = one_fewer f.loop (open_loops fs) in
    omega (arith, less, more)

-- frames of which the innermost is another, with such a loop
stored_loops : (name : List ℕ) (v : Val) (fs : List Frame) → open_loops (innermost_changed (with_local name v) fs) ≡ open_loops fs
stored_loops name v [] = refl
stored_loops name v (f ∷ fs) = refl

written_loops : (number : Option ℕ) (fs : List Frame) → open_loops (with_writes number fs) ≡ open_loops fs
written_loops number [] = refl
written_loops number (f ∷ fs) = refl

abbrev asked_as : Option Val → Frame → Option Loop → Frame
asked_as item f o = elim o [ None ↦ f | Some l ↦ frame_asked f l item ]

asked_more : (item : Option Val) (f : Frame) (o : Option Loop) (n : ℕ) → f.loop ≡ o → one_more (asked_as item f o).loop n ≡ one_more o n
asked_more item f None n is = ap (λ (p : Option Loop). one_more p n) is
asked_more (Some v) f (Some l) n is = refl
asked_more None f (Some l) n is = refl

asked_loops : (item : Option Val) (fs : List Frame) → open_loops (innermost_changed (asked_frame item) fs) ≡ open_loops fs
asked_loops item [] = refl
asked_loops item (f ∷ fs) = asked_more item f f.loop (open_loops fs) refl

-- so it is where the frames are such
pub stored_on : (name : List ℕ) (v : Val) (before after : List Frame) (closed : Vec Loop) → after ≡ innermost_changed (with_local name v) before
    → HasRoom before closed → HasRoom after closed
stored_on name v before after closed is room = room_as before after closed (ap open_loops is ∙ stored_loops name v before) room

pub stored_room : {X E : Type 0} (result : Result X E) (name : List ℕ) (v : Val) (before after : Scopes) (closed : Vec Loop)
    → OnOk result (after.frames ≡ innermost_changed (with_local name v) before.frames) → OnErr result (after ≡ before)
    → HasRoom before.frames closed → HasRoom after.frames closed
stored_room (Ok x) name v before after closed is same room = stored_on name v before.frames after.frames closed is room
stored_room (Err e) name v before after closed is same room = same_room before after closed same room

pub written_room : (number : Option ℕ) (before after : List Frame) (closed : Vec Loop) → after ≡ with_writes number before
    → HasRoom before closed → HasRoom after closed
written_room number before after closed is room = room_as before after closed (ap open_loops is ∙ written_loops number before) room

pub asked_room : {E : Type 0} (result : Result (Option Val) E) (before after : Scopes) (closed : Vec Loop)
    → IfOk result (λ item. after.frames ≡ innermost_changed (asked_frame item) before.frames) → OnErr result (after ≡ before)
    → HasRoom before.frames closed → HasRoom after.frames closed
asked_room (Ok item) before after closed is same room =
    room_as before.frames after.frames closed (ap open_loops is ∙ asked_loops item before.frames) room
asked_room (Err e) before after closed is same room = same_room before after closed same room

pub numbered_room : (result : Option ℤ) (before after : Scopes) (closed : Vec Loop)
    → IfSome result (λ n. after.frames ≡ innermost_changed (asked_frame (Some (int n))) before.frames) → IfNone result (after ≡ before)
    → HasRoom before.frames closed → HasRoom after.frames closed
numbered_room (Some n) before after closed is same room =
    room_as before.frames after.frames closed (ap open_loops is ∙ asked_loops (Some (int n)) before.frames) room
numbered_room None before after closed is same room = same_room before after closed same room

pub around_room : (before after : List Frame) (closed : Vec Loop) → after ≡ around_innermost before → HasRoom before closed → HasRoom after closed
around_room before after closed is room =
    room_for_fewer before after closed (subst (λ (fs : List Frame). open_loops fs ≤ open_loops before) (sym is) (around_fewer before)) room

pub left_room : (frames base floor outer : ℕ) (before after : Scopes) (closed : Vec Loop) → after ≡ put_back frames base floor outer before
    → HasRoom before.frames closed → HasRoom after.frames closed
left_room frames base floor outer before after closed is room =
    room_for_fewer before.frames after.frames closed
    (subst (λ (s : Scopes). open_loops s.frames ≤ open_loops before.frames) (sym is) (drop_fewer (length before.frames - frames) before.frames)) room

pub included_room : (levels : ℕ) (before after : Scopes) (closed : Vec Loop) → after ≡ included levels before
    → HasRoom before.frames closed → HasRoom after.frames closed
included_room levels before after closed is room =
    room_as before.frames after.frames closed (ap (λ (s : Scopes). open_loops s.frames) is ∙ written_loops None before.frames) room

-- another frame, with no loop
anew_room : (f : Frame) (before after : Scopes) (closed : Vec Loop) → f.loop ≡ None → after ≡ framed_anew f before
    → HasRoom before.frames closed → HasRoom after.frames closed
anew_room f before after closed none is room =
    room_as before.frames after.frames closed
    (ap (λ (s : Scopes). open_loops s.frames) is ∙ ap (λ (o : Option Loop). one_more o (open_loops before.frames)) none) room

pub bare_room : (f : Frame) (before after : Scopes) (closed : Vec Loop) → f ≡ empty_frame → after ≡ framed_anew f before
    → HasRoom before.frames closed → HasRoom after.frames closed
bare_room f before after closed bare is room = anew_room f before after closed (ap (λ (g : Frame). g.loop) bare) is room

pub macro_room : (f : Frame) (locals : Bindings) (reads : Option ℕ) (before after : Scopes) (closed : Vec Loop)
    → f ≡ record empty_frame { locals = locals; reads = reads } → after ≡ framed_anew f before
    → HasRoom before.frames closed → HasRoom after.frames closed
macro_room f locals reads before after closed made is room = anew_room f before after closed (ap (λ (g : Frame). g.loop) made) is room

-- a frame that is opened, where there is room for it
pushed_as : {X : Type 0} (b : Bool) (f : Frame) (before after : Scopes) (result : Result X (List ErrorKind))
    → Becomes (if b then Ok (record before { frames = f ∷ before.frames }) else Err InvalidOperation) result before after
    → open_loops after.frames ≤ one_more f.loop (open_loops before.frames)
pushed_as true f before after (Ok x) is =
    let same : open_loops after.frames ≡ one_more f.loop (open_loops before.frames) = ap (λ (s : Scopes). open_loops s.frames) is in
    omega (arith, same)
pushed_as true f before after (Err kinds) is =
    let same : open_loops after.frames ≡ open_loops before.frames = ap (λ (s : Scopes). open_loops s.frames) is.0 in
    let less : open_loops before.frames ≤ one_more f.loop (open_loops before.frames) = one_fewer f.loop (open_loops before.frames) in
    omega (arith, same, less)
pushed_as false f before after (Ok x) is = absurd is
pushed_as false f before after (Err kinds) is =
    let same : open_loops after.frames ≡ open_loops before.frames = ap (λ (s : Scopes). open_loops s.frames) is.0 in
    let less : open_loops before.frames ≤ one_more f.loop (open_loops before.frames) = one_fewer f.loop (open_loops before.frames) in
    omega (arith, same, less)

pub pushed_bare : {X : Type 0} (limit : ℕ) (f : Frame) (before after : Scopes) (closed : Vec Loop) (result : Result X (List ErrorKind)) → f ≡ empty_frame
    → Becomes (framed limit before f) result before after → HasRoom before.frames closed → HasRoom after.frames closed
pushed_bare limit f before after closed result bare is room =
    let fewer : open_loops after.frames ≤ one_more f.loop (open_loops before.frames) =
    pushed_as (nat_le (length before.frames + before.outer + 1) limit) f before after result is in
    let same : one_more f.loop (open_loops before.frames) ≡ open_loops before.frames = ap (λ (g : Frame). one_more g.loop (open_loops before.frames)) bare in
    let less : open_loops after.frames ≤ open_loops before.frames = omega (arith, fewer, same) in
    room_for_fewer before.frames after.frames closed less room

-- a loop's frame, where room was made for it
made_for : (fs : List Frame) (count : ℕ) (variable : Bool) (closed behind : Vec Loop) → count ≡ length fs → vec_len behind ≡ vec_len closed
    → vec_capacity closed ≤ vec_capacity behind → (IsTrue variable → count + 1 + vec_len behind ≤ vec_capacity behind) → HasRoom fs closed
    → (if variable then suc (open_loops fs) else open_loops fs) + vec_len behind ≤ vec_capacity behind
made_for fs count true closed behind all same grows enough room =
    let less : open_loops fs ≤ length fs = loops_few fs in
    let there : count + 1 + vec_len behind ≤ vec_capacity behind = enough refl in
    omega (arith, less, there, all)
made_for fs count false closed behind all same grows enough room = omega (arith, same, grows, room)

-- it wants as much
wanted : (f : Frame) (l : Loop) (variable : Bool) (n : ℕ) → f ≡ loop_frame l → variable ≡ is_some l.variable
    → one_more f.loop n ≡ (if variable then suc n else n)
wanted f l variable n made is =
    ap (λ (g : Frame). one_more g.loop n) made ∙ sym (ap (λ (b : Bool). if b then suc n else n) is)

pub pushed_room : {X : Type 0} (limit : ℕ) (f : Frame) (l : Loop) (variable : Bool) (count : ℕ) (before after : Scopes) (closed behind : Vec Loop)
    (result : Result X (List ErrorKind)) → f ≡ loop_frame l → variable ≡ is_some l.variable → count ≡ length before.frames
    → vec_len behind ≡ vec_len closed → vec_capacity closed ≤ vec_capacity behind
    → (IsTrue variable → count + 1 + vec_len behind ≤ vec_capacity behind) → Becomes (framed limit before f) result before after
    → HasRoom before.frames closed → HasRoom after.frames behind
pushed_room limit f l variable count before after closed behind result made is all same grows enough pushed room =
    let n = open_loops before.frames in
    let fewer : open_loops after.frames ≤ one_more f.loop n =
    pushed_as (nat_le (length before.frames + before.outer + 1) limit) f before after result pushed in
    let want : one_more f.loop n ≡ (if variable then suc n else n) = wanted f l variable n made is in
    let there : (if variable then suc n else n) + vec_len behind ≤ vec_capacity behind =
    made_for before.frames count variable closed behind all same grows enough room in
    omega (arith, fewer, want, there)

pub entered_room : (f : Frame) (l : Loop) (variable : Bool) (count : ℕ) (before after : Scopes) (closed behind : Vec Loop)
    → f ≡ loop_frame l → variable ≡ is_some l.variable → count ≡ length before.frames
    → vec_len behind ≡ vec_len closed → vec_capacity closed ≤ vec_capacity behind
    → (IsTrue variable → count + 1 + vec_len behind ≤ vec_capacity behind) → after ≡ framed_anew f before
    → HasRoom before.frames closed → HasRoom after.frames behind
entered_room f l variable count before after closed behind made is all same grows enough entered room =
    let n = open_loops before.frames in
    let want : open_loops after.frames ≡ (if variable then suc n else n) =
    ap (λ (s : Scopes). open_loops s.frames) entered ∙ wanted f l variable n made is in
    let there : (if variable then suc n else n) + vec_len behind ≤ vec_capacity behind =
    made_for before.frames count variable closed behind all same grows enough room in
    omega (arith, want, there)

-- what room was made for may not come: more room is there all the same
pub grown_room : (fs : List Frame) (closed behind : Vec Loop) → vec_len behind ≡ vec_len closed → vec_capacity closed ≤ vec_capacity behind
    → HasRoom fs closed → HasRoom fs behind
grown_room fs closed behind same grows room = omega (arith, same, grows, room)

-- a loop has its variable where it was given one
pub variable_there : (variable : Bool) (v : Val) (o : Option Val) (l : Loop) → o ≡ (if variable then Some v else None) → l.variable ≡ o
    → variable ≡ is_some l.variable
variable_there true v o l given is = sym (ap (λ (p : Option Val). is_some p) (is ∙ given))
variable_there false v o l given is = sym (ap (λ (p : Option Val). is_some p) (is ∙ given))
