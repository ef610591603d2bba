-- Frames that go one by one, with their loops.
use Rattle.std.proofs.Common.{◌≡◌, ◌∙◌, ℕ, suc, ◌+◌, ◌-◌, ◌<◌, ◌≤◌, Bool, true, false, ◌&&◌, List, [], ◌∷◌, ◌++◌, length, take, drop, Option, None, Some, is_some, IsSome, IfSome, nat_lt, vec_len, vec_capacity, if◌then◌else◌, refl, sym, ap, arith}
use Rattle.std.proofs.lemmas.List.{append-nil, append_assoc}
use Rattle.std.specs.Global.{Vec}
use Rattle.template_machine_meaning.specs.Leaving.{given_behind, held_among, is_below}
use Rattle.template_machine_meaning.specs.Plans.{outermost}
use Rattle.template_machine_meaning.specs.Records.{loops_of}
use Rattle.template_machine_meaning.specs.World.{Frame, Loop, drop_given}
use Rattle.template_machine_frames.specs.Frames.{Scopes, around_innermost, innermost_loop}
use Rattle.template_machine_state.specs.Cuts.{Calls, CutOne, CutSome, loops_cut}
use Rattle.template_machine_state.specs.Room.{HasRoom, one_more, open_loops}
use Rattle.template_machine_state.proofs.Room.{around_fewer}

-- an innermost frame without a loop goes
plain_given : (held : ℕ) (o : Option Loop) (given : Calls) → is_some o ≡ false → given ≡ given_behind held (o ∷ []) given
plain_given held None given plain = refl
plain_given held (Some l) given plain = cc

plain_closed : (held : ℕ) (o : Option Loop) (closed : List Loop) → is_some o ≡ false → closed ≡ closed ++ held_among held (o ∷ [])
plain_closed held None closed plain = sym (append-nil closed)
plain_closed held (Some l) closed plain = cc

plain_more : (o : Option Loop) (n : ℕ) → is_some o ≡ false → n ≡ one_more o n
plain_more None n plain = refl
plain_more (Some l) n plain = cc

plain_loops : (fs : List Frame) → is_some (innermost_loop fs) ≡ false → open_loops (around_innermost fs) ≡ open_loops fs
plain_loops [] plain = refl
plain_loops (f ∷ fs) plain = plain_more f.loop (open_loops fs) plain

pub cut_plain : (held : ℕ) (before after : Scopes) (given : Calls) (closed : Vec Loop) (b : Bool) → b ≡ is_some (innermost_loop before.frames) → b ≡ false
    → after ≡ record before { frames = around_innermost before.frames } → HasRoom before.frames closed → CutOne held before given closed after given closed
cut_plain held before after given closed b is plain rest room =
    let bare : is_some (innermost_loop before.frames) ≡ false = sym is ∙ plain in
    let fewer : open_loops after.frames ≡ open_loops before.frames = ap (λ (s : Scopes). open_loops s.frames) rest ∙ plain_loops before.frames bare in
    record {
      rest = rest;
      forgotten = plain_given held (innermost_loop before.frames) given bare;
      kept = plain_closed held (innermost_loop before.frames) closed.items bare;
      room = omega (arith, fewer, room);
    }

-- one with a loop whose value may be held
first_of : (a b : Bool) → (a && b) ≡ true → a ≡ true
first_of true b both = refl
first_of false b both = cc

counted_once : (n : ℕ) (b : Bool) → b ≡ true → suc n ≡ (if b then suc n else n)
counted_once n true has = refl
counted_once n false has = cc

held_more : (held : ℕ) (o : Option Loop) (b : Bool) (n : ℕ) → IsSome o → IfSome o (λ l. b ≡ is_below held l) → b ≡ true → suc n ≡ one_more o n
held_more held (Some l) b n some is has =
    counted_once n (is_some l.variable) (first_of (is_some l.variable) (nat_lt l.number held) (sym is ∙ has))
held_more held None b n some is has = cc

held_loops : (held : ℕ) (fs : List Frame) (b : Bool) → IsSome (innermost_loop fs) → IfSome (innermost_loop fs) (λ l. b ≡ is_below held l) → b ≡ true
    → suc (open_loops (around_innermost fs)) ≡ open_loops fs
held_loops held [] b some is has = cc
held_loops held (f ∷ fs) b some is has = held_more held f.loop b (open_loops fs) some is has

-- there is room for it
pub room_there : (held : ℕ) (fs : List Frame) (closed : Vec Loop) (b : Bool) → IsSome (innermost_loop fs)
    → IfSome (innermost_loop fs) (λ l. b ≡ (is_some l.variable && nat_lt l.number held)) → b ≡ true → HasRoom fs closed
    → vec_len closed < vec_capacity closed
room_there held fs closed b some is has room =
    let all : suc (open_loops (around_innermost fs)) ≡ open_loops fs = held_loops held fs b some is has in
    omega (arith, all, room)

kept_given : (held : ℕ) (o : Option Loop) (given : Calls) (b : Bool) → IfSome o (λ l. b ≡ is_below held l) → b ≡ true
    → given ≡ given_behind held (o ∷ []) given
kept_given held (Some l) given b is has = ap (λ h. if h then given else drop_given l.number given) (sym has ∙ is)
kept_given held None given b is has = refl

kept_closed : (held : ℕ) (o : Option Loop) (closed behind : List Loop) (b : Bool) → IsSome o → IfSome o (λ l. b ≡ is_below held l) → b ≡ true
    → IfSome o (λ l. behind ≡ closed ++ l ∷ []) → behind ≡ closed ++ held_among held (o ∷ [])
kept_closed held (Some l) closed behind b some is has kept = kept ∙ ap (λ h. closed ++ (if h then l ∷ [] else [])) (sym has ∙ is)
kept_closed held None closed behind b some is has kept = cc

pub cut_kept : (held : ℕ) (before after : Scopes) (given : Calls) (closed behind : Vec Loop) (b : Bool) → IsSome (innermost_loop before.frames)
    → IfSome (innermost_loop before.frames) (λ l. b ≡ (is_some l.variable && nat_lt l.number held)) → b ≡ true
    → after ≡ record before { frames = around_innermost before.frames } → IfSome (innermost_loop before.frames) (λ l. behind.items ≡ closed.items ++ l ∷ [])
    → vec_len behind ≡ vec_len closed + 1 → vec_capacity behind ≡ vec_capacity closed → HasRoom before.frames closed
    → CutOne held before given closed after given behind
cut_kept held before after given closed behind b some is has rest kept more same room =
    let all : suc (open_loops (around_innermost before.frames)) ≡ open_loops before.frames = held_loops held before.frames b some is has in
    let fewer : open_loops after.frames ≡ open_loops (around_innermost before.frames) = ap (λ (s : Scopes). open_loops s.frames) rest in
    record {
      rest = rest;
      forgotten = kept_given held (innermost_loop before.frames) given b is has;
      kept = kept_closed held (innermost_loop before.frames) closed.items behind.items b some is has kept;
      room = omega (arith, all, fewer, more, same, room);
    }

-- one with another loop
forgotten_given : (held : ℕ) (o : Option Loop) (given left : Calls) (b : Bool) → IsSome o → IfSome o (λ l. b ≡ is_below held l) → b ≡ false
    → IfSome o (λ l. left ≡ drop_given l.number given) → left ≡ given_behind held (o ∷ []) given
forgotten_given held (Some l) given left b some is lacks gone = gone ∙ ap (λ h. if h then given else drop_given l.number given) (sym lacks ∙ is)
forgotten_given held None given left b some is lacks gone = cc

forgotten_closed : (held : ℕ) (o : Option Loop) (closed : List Loop) (b : Bool) → IfSome o (λ l. b ≡ is_below held l) → b ≡ false
    → closed ≡ closed ++ held_among held (o ∷ [])
forgotten_closed held (Some l) closed b is lacks = sym (append-nil closed) ∙ ap (λ h. closed ++ (if h then l ∷ [] else [])) (sym lacks ∙ is)
forgotten_closed held None closed b is lacks = sym (append-nil closed)

pub cut_forgotten : (held : ℕ) (before after : Scopes) (given left : Calls) (closed : Vec Loop) (b : Bool) → IsSome (innermost_loop before.frames)
    → IfSome (innermost_loop before.frames) (λ l. b ≡ (is_some l.variable && nat_lt l.number held)) → b ≡ false
    → after ≡ record before { frames = around_innermost before.frames } → IfSome (innermost_loop before.frames) (λ l. left ≡ drop_given l.number given)
    → HasRoom before.frames closed → CutOne held before given closed after left closed
cut_forgotten held before after given left closed b some is lacks rest gone room =
    let less : open_loops (around_innermost before.frames) ≤ open_loops before.frames = around_fewer before.frames in
    let fewer : open_loops after.frames ≡ open_loops (around_innermost before.frames) = ap (λ (s : Scopes). open_loops s.frames) rest in
    record {
      rest = rest;
      forgotten = forgotten_given held (innermost_loop before.frames) given left b some is lacks gone;
      kept = forgotten_closed held (innermost_loop before.frames) closed.items b is lacks;
      room = omega (arith, less, fewer, room);
    }

-- as long as more are there than are to stay, the innermost one is the first of those that go
one_less : (count n : ℕ) → count ≤ n → suc n - count ≡ suc (n - count)
one_less count n many = omega (arith, many)

loops_more : (count : ℕ) (f : Frame) (fs : List Frame) → count ≤ length fs → loops_cut count (f ∷ fs) ≡ f.loop ∷ loops_cut count fs
loops_more count f fs many = ap (λ n. take n (loops_of (f ∷ fs))) (one_less count (length fs) many)

given_more : (held : ℕ) (o : Option Loop) (loops : List (Option Loop)) (given : Calls)
    → given_behind held loops (given_behind held (o ∷ []) given) ≡ given_behind held (o ∷ loops) given
given_more held None loops given = refl
given_more held (Some l) loops given = refl

first_or_none : (l : Loop) (loops : List Loop) (b : Bool) → (if b then l ∷ [] else []) ++ loops ≡ (if b then l ∷ loops else loops)
first_or_none l loops true = refl
first_or_none l loops false = refl

closed_more : (held : ℕ) (o : Option Loop) (loops : List (Option Loop)) → held_among held (o ∷ []) ++ held_among held loops ≡ held_among held (o ∷ loops)
closed_more held None loops = refl
closed_more held (Some l) loops = first_or_none l (held_among held loops) (is_below held l)

step_frames : (count : ℕ) (fs : List Frame) → count < length fs → outermost count (around_innermost fs) ≡ outermost count fs
step_frames count [] many = absurd (omega (arith, many))
step_frames count (f ∷ fs) many =
    let less : count ≤ length fs = omega (arith, many) in
    sym (ap (λ n. drop n (f ∷ fs)) (one_less count (length fs) less))

step_given : (held count : ℕ) (fs : List Frame) (given : Calls) → count < length fs
    → given_behind held (loops_cut count (around_innermost fs)) (given_behind held (innermost_loop fs ∷ []) given)
    ≡ given_behind held (loops_cut count fs) given
step_given held count [] given many = absurd (omega (arith, many))
step_given held count (f ∷ fs) given many =
    let less : count ≤ length fs = omega (arith, many) in
    given_more held f.loop (loops_cut count fs) given
    ∙ sym (ap (λ (loops : List (Option Loop)). given_behind held loops given) (loops_more count f fs less))

step_closed : (held count : ℕ) (fs : List Frame) (closed : List Loop) → count < length fs
    → (closed ++ held_among held (innermost_loop fs ∷ [])) ++ held_among held (loops_cut count (around_innermost fs))
    ≡ closed ++ held_among held (loops_cut count fs)
step_closed held count [] closed many = absurd (omega (arith, many))
step_closed held count (f ∷ fs) closed many =
    let less : count ≤ length fs = omega (arith, many) in
    append_assoc closed (held_among held (f.loop ∷ [])) (held_among held (loops_cut count fs))
    ∙ ap (λ (ls : List Loop). closed ++ ls) (closed_more held f.loop (loops_cut count fs))
    ∙ sym (ap (λ (loops : List (Option Loop)). closed ++ held_among held loops) (loops_more count f fs less))

-- one more goes
pub cut_more : (held count : ℕ) (before now after : Scopes) (given between left : Calls) (closed among behind : Vec Loop)
    → CutSome held count before given closed now between among → count < length now.frames → CutOne held now between among after left behind
    → CutSome held count before given closed after left behind
cut_more held count before now after given between left closed among behind some many one = record {
  frames = ap (λ (s : Scopes). outermost count s.frames) one.rest ∙ step_frames count now.frames many ∙ some.frames;
  closures = ap (λ (s : Scopes). s.closures) one.rest ∙ some.closures;
  forgotten =
      ap (λ (s : Scopes). given_behind held (loops_cut count s.frames) left) one.rest
      ∙ ap (given_behind held (loops_cut count (around_innermost now.frames))) one.forgotten
      ∙ step_given held count now.frames between many ∙ some.forgotten;
  kept =
      ap (λ (s : Scopes). behind.items ++ held_among held (loops_cut count s.frames)) one.rest
      ∙ ap (λ (ls : List Loop). ls ++ held_among held (loops_cut count (around_innermost now.frames))) one.kept
      ∙ step_closed held count now.frames among.items many ∙ some.kept;
  room = one.room;
}
