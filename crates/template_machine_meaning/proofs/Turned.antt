-- Another context in the outermost frame changes no answer to what may be asked.
use Rattle.std.proofs.Common.{◌≡◌, ℕ, zero, suc, ◌-◌, ◌<◌, ◌≤◌, inl, inr, Bool, true, false, List, [], ◌∷◌, ◌++◌, map, length, take, drop, Option, None, Some, refl, sym, ap, subst, ◌∙◌, arith}
use Rattle.std.specs.Prelude.{IsTrue, IsSome, if◌then◌else◌, slice_get, slice_set, unwrap_or}
use Rattle.std.specs.Option.{option_or}
use Rattle.std.specs.Str.{bytes_eq}
use Rattle.std.proofs.lemmas.Bool.{or_cases}
use Rattle.std.proofs.lemmas.Slice.Eq.{bytes_eq-Decides}
use Rattle.template_values_model.specs.Val.{Val, undefined}
use Rattle.template_values_model.specs.Lookup.{value_at}
use Rattle.template_compiler_names.specs.Among.{Among}
use Rattle.template_machine_meaning.specs.Keys.{Stream}
use Rattle.template_machine_meaning.specs.World.{Bindings, Loop, Frame, Macro, World, local_at, known_by_loop, closure_of, own_in, known_in, known_at, context_beneath, base_context, put_local, depth_behind, depth_within}
use Rattle.template_machine_meaning.specs.Records.{loops_of, known_by, known_of}
use Rattle.template_machine_meaning.specs.Rounds.{innermost_loop}
use Rattle.template_machine_meaning.specs.Plans.{outermost, with_writes}
use Rattle.template_machine_meaning.proofs.Outermost.{outermost_all, outermost_behind}
use Rattle.template_machine_meaning.proofs.Known.{Known, base, inner, Grows, with_name, stored, closed, cleared, IsKnown, IsInner, IsSafe}

-- the outermost frame has the context, the others stay
abbrev pub context_before : Val → List Frame → Val → Val
context_before d [] c = d
context_before d (_ ∷ _) c = c

abbrev pub over_frames : Val → List Frame → List Frame
over_frames d [] = []
over_frames d (f ∷ fs) = record f { context = context_before d fs f.context } ∷ over_frames d fs

abbrev pub over_context : Val → World → World
over_context d w = record w { frames = over_frames d w.frames }

-- options that have something
some_or : {X : Type 0} (o p : Option X) → IsSome o → IsSome (option_or o p)
some_or (Some x) p h = refl
some_or None p h = absurd (cc)

pub or_some : {X : Type 0} (o p : Option X) → IsSome p → IsSome (option_or o p)
or_some (Some x) p h = refl
or_some None p h = h

or_kept : {X : Type 0} (o q p : Option X) → (IsSome o → IsSome q) → IsSome (option_or o p) → IsSome (option_or q p)
or_kept (Some x) q p h i = some_or q p (h refl)
or_kept None q p h i = or_some q p i

or_grown : {X : Type 0} (o p q : Option X) → (IsSome p → IsSome q) → IsSome (option_or o p) → IsSome (option_or o q)
or_grown (Some x) p q h i = refl
or_grown None p q h i = h i

-- what comes first decides; what is the same behind it is the same
first_decides : {X : Type 0} (o : Option X) → IsSome o → (p q r s later other : Option X)
    → option_or (option_or (option_or o p) r) later ≡ option_or (option_or (option_or o q) s) other
first_decides (Some x) h p q r s later other = refl
first_decides None h p q r s later other = absurd (cc)

same_behind : {X : Type 0} (o a b later other : Option X) → option_or a later ≡ option_or b other
    → option_or (option_or o a) later ≡ option_or (option_or o b) other
same_behind (Some x) a b later other e = refl
same_behind None a b later other e = e

-- What a run began with: its stream; what the closures held; and the frames that are beneath its own.
pub record Begun : Type 0 where
  pub stream : Stream
  pub since : List Bindings
  pub beneath : List Frame

-- each closure has what it had before
abbrev pub Grown : List Bindings → List Bindings → Type 0
Grown cs ds = (c : Option ℕ) (name : List ℕ) → IsSome (local_at name (closure_of cs c)) → IsSome (local_at name (closure_of ds c))

pub grown_itself : (cs : List Bindings) → Grown cs cs
grown_itself cs c name h = h

pub grown_on : (cs ds es : List Bindings) → Grown cs ds → Grown ds es → Grown cs es
grown_on cs ds es g h c name i = h c name (g c name i)

-- the closure has each of the names
abbrev pub IsHeld : List Bindings → Option ℕ → Among → Type 0
IsHeld cs c f = (name : List ℕ) → IsTrue (f name) → IsSome (local_at name (closure_of cs c))

-- the frame has each of them
abbrev pub Holds : List Bindings → Among → Frame → Type 0
Holds cs f x = (name : List ℕ) → IsTrue (f name) → IsSome (own_in cs name x)

own_grown : (cs ds : List Bindings) → Grown cs ds → (name : List ℕ) (x : Frame) → IsSome (own_in cs name x) → IsSome (own_in ds name x)
own_grown cs ds g name x h =
    or_grown (local_at name x.locals) _ _ (or_grown (known_by_loop name x.loop) _ _ (g x.reads name)) h

-- a closure that stands takes a name
taken : (cs : List Bindings) (number m : ℕ) (old new : Bindings) (name : List ℕ) → slice_get cs number ≡ Some old
    → (IsSome (local_at name old) → IsSome (local_at name new))
    → IsSome (local_at name (unwrap_or (slice_get cs m) [])) → IsSome (local_at name (unwrap_or (slice_get (slice_set cs number new) m) []))
taken [] number m old new name e h i = absurd (cc)
taken (x ∷ cs) zero zero old new name e h i =
    let same : x ≡ old = cc in
    h (subst (λ (b : Bindings). IsSome (local_at name b)) same i)
taken (x ∷ cs) zero (suc m) old new name e h i = i
taken (x ∷ cs) (suc number) zero old new name e h i = i
taken (x ∷ cs) (suc number) (suc m) old new name e h i = taken cs number m old new name e h i

-- one closure more is there
appended : (cs : List Bindings) (m : ℕ) (name : List ℕ) → IsSome (local_at name (unwrap_or (slice_get cs m) []))
    → IsSome (local_at name (unwrap_or (slice_get (cs ++ [] ∷ []) m) []))
appended [] m name i = absurd (cc)
appended (x ∷ cs) zero name i = i
appended (x ∷ cs) (suc m) name i = appended cs m name i

pub grown_appended : (cs : List Bindings) → Grown cs (cs ++ [] ∷ [])
grown_appended cs None name i = i
grown_appended cs (Some m) name i = appended cs m name i

-- what is put is there, and what was there still is
first_is : (b : Bool) (v : Val) (o : Option Val) → b ≡ true → IsSome (if b then Some v else o)
first_is true v o h = refl
first_is false v o h = absurd (cc)

second_is : (b : Bool) (v w : Val) (o p : Option Val) → (IsSome o → IsSome p) → IsSome (if b then Some v else o) → IsSome (if b then Some w else p)
second_is true v w o p h i = refl
second_is false v w o p h i = h i

either_is : (b : Bool) (v : Val) (o : Option Val) → IsSome o → IsSome (if b then Some v else o)
either_is true v o h = refl
either_is false v o h = h

put_is : (v : Val) (id name : List ℕ) (ls : Bindings) → IsTrue (bytes_eq id name) → IsSome (local_at name (put_local id v ls))
put_is v id name [] h = first_is (bytes_eq id name) v None h
put_is v id name (l ∷ ls) h =
    elim (bytes_eq l.0 id) as (λ b. IsSome (local_at name (if b then (id, v) ∷ ls else l ∷ put_local id v ls))) [
      | true ↦ first_is (bytes_eq id name) v (local_at name ls) h
      | false ↦ either_is (bytes_eq l.0 name) l.1 (local_at name (put_local id v ls)) (put_is v id name ls h)
    ]

put_over : (v : Val) (id name : List ℕ) (l : List ℕ × Val) (ls : Bindings) → (IsSome (local_at name ls) → IsSome (local_at name (put_local id v ls))) → IsSome (local_at name (l ∷ ls))
    → (b : Bool) → bytes_eq l.0 id ≡ b → IsSome (local_at name (if b then (id, v) ∷ ls else l ∷ put_local id v ls))
put_over v id name l ls later h true e =
    second_is (bytes_eq id name) l.1 v (local_at name ls) (local_at name ls) (λ i. i)
    (subst (λ key. IsSome (if bytes_eq key name then Some l.1 else local_at name ls)) ((bytes_eq-Decides l.0 id).0 e) h)
put_over v id name l ls later h false e = second_is (bytes_eq l.0 name) l.1 l.1 (local_at name ls) (local_at name (put_local id v ls)) later h

put_keeps : (v : Val) (id name : List ℕ) (ls : Bindings) → IsSome (local_at name ls) → IsSome (local_at name (put_local id v ls))
put_keeps v id name [] h = absurd (cc)
put_keeps v id name (l ∷ ls) h = put_over v id name l ls (put_keeps v id name ls) h (bytes_eq l.0 id) refl

pub grown_taken : (cs : List Bindings) (number : ℕ) (id : List ℕ) (v : Val) (old : Bindings) → slice_get cs number ≡ Some old
    → Grown cs (slice_set cs number (put_local id v old))
grown_taken cs number id v old e None name i = i
grown_taken cs number id v old e (Some m) name i = taken cs number m old (put_local id v old) name e (put_keeps v id name old) i

-- the name itself is there
set_is : (cs : List Bindings) (number : ℕ) (old new : Bindings) → slice_get cs number ≡ Some old
    → (P : Bindings → Type 0) → P new → P (unwrap_or (slice_get (slice_set cs number new) number) [])
set_is [] number old new e P h = absurd (cc)
set_is (x ∷ cs) zero old new e P h = h
set_is (x ∷ cs) (suc number) old new e P h = set_is cs number old new e P h

pub has_taken : (cs : List Bindings) (number : ℕ) (id name : List ℕ) (v : Val) (old : Bindings) → slice_get cs number ≡ Some old
    → IsTrue (bytes_eq id name) → IsSome (local_at name (closure_of (slice_set cs number (put_local id v old)) (Some number)))
has_taken cs number id name v old e is =
    set_is cs number old (put_local id v old) e (λ (b : Bindings). IsSome (local_at name b)) (put_is v id name old is)

holds_put : (cs : List Bindings) (v : Val) (id : List ℕ) (f : Among) (x : Frame) → Holds cs f x → Holds cs (with_name id f) (record x { locals = put_local id v x.locals })
holds_put cs v id f x h name i = elim (or_cases (bytes_eq id name) (f name) i) [
  | inl own ↦ some_or (local_at name (put_local id v x.locals)) _ (put_is v id name x.locals own)
  | inr other ↦ or_kept (local_at name x.locals) (local_at name (put_local id v x.locals)) _ (put_keeps v id name x.locals) (h name other)
]

-- whether the frame is one of rounds that were called
abbrev pub is_called : Option Loop → Bool
is_called None = false
is_called (Some l) = l.called

-- as many frames as there is known of, over those beneath
abbrev Stands : ℕ → Known → List Frame → Type 0
Stands n (base f) (x ∷ xs) = length xs ≡ n
Stands n (inner b f k) (x ∷ xs) = Stands n k xs
Stands n _ [] = ⊥

abbrev seen_by : Known → List Frame → List Frame
seen_by (base f) (x ∷ xs) = x ∷ []
seen_by (inner b f k) (x ∷ xs) = x ∷ seen_by k xs
seen_by _ [] = []

stands_over : (n : ℕ) (k : Known) (fs : List Frame) → Stands n k fs → n < length fs
stands_over n (base f) (x ∷ xs) h = omega (arith, h)
stands_over n (inner b f k) (x ∷ xs) h = let less : n < length xs = stands_over n k xs h in omega (arith, less)
stands_over n (base f) [] h = absurd h
stands_over n (inner b f k) [] h = absurd h

seen_is : (n : ℕ) (k : Known) (fs : List Frame) → Stands n k fs → take (length fs - n) fs ≡ seen_by k fs
seen_is n (base f) (x ∷ xs) h =
    let one : suc (length xs) - n ≡ 1 = omega (arith, h) in
    ap (λ m. take m (x ∷ xs)) one
seen_is n (inner b f k) (x ∷ xs) h =
    let less : n < length xs = stands_over n k xs h in
    let more : suc (length xs) - n ≡ suc (length xs - n) = omega (arith, less) in
    ap (λ m. take m (x ∷ xs)) more ∙ ap (λ (ys : List Frame). x ∷ ys) (seen_is n k xs h)
seen_is n (base f) [] h = absurd h
seen_is n (inner b f k) [] h = absurd h

module _ (names : List ℕ → Type 0) (uses : Stream → ℕ → Among) (d : Val) where
  -- Each frame has what is known in it, and the context beneath them all agrees with the other context.
  abbrev pub FitsFrames : List Bindings → List Frame → Known → List Frame → Type 0
  FitsFrames cs beneath (base f) (x ∷ xs) =
      Holds cs f x × (xs ≡ beneath) × ((name : List ℕ) → names name → value_at name d ≡ value_at name (base_context (x ∷ xs)))
  FitsFrames cs beneath (inner b f k) (x ∷ xs) = Holds cs f x × FitsFrames cs beneath k xs × (is_called x.loop ≡ b)
  FitsFrames cs beneath _ [] = ⊥

  -- the closure of each macro has what its body uses
  abbrev pub AreHeld : List Bindings → List Macro → Type 0
  AreHeld cs [] = Unit {0}
  AreHeld cs (m ∷ ms) = IsHeld cs m.closure (uses m.stream m.number) × AreHeld cs ms

  pub record FitsIn (begun : Begun) (k : Known) (frames : List Frame) (below : ℕ) (closures : List Bindings) (macros : List Macro) (here : Stream) : Type 0 where
    pub framed : FitsFrames closures begun.beneath k frames
    pub count : below ≡ length begun.beneath
    pub held : AreHeld closures macros
    pub grown : Grown begun.since closures
    pub there : here ≡ begun.stream

  -- a world fits what is known
  abbrev pub Fits : Begun → Known → World → Type 0
  Fits begun k w = FitsIn begun k w.frames w.base w.closures w.macros w.here

  pub fits_none : (cs : List Bindings) (beneath : List Frame) (k : Known) → FitsFrames cs beneath k [] → ⊥
  fits_none cs beneath (base f) h = h
  fits_none cs beneath (inner b f k) h = h

  pub frames_less : (cs : List Bindings) (beneath : List Frame) (k l : Known) (fs : List Frame) → Grows k l → FitsFrames cs beneath l fs → FitsFrames cs beneath k fs
  frames_less cs beneath (base _) (base _) (x ∷ xs) grows h = (λ name i. h.0 name (grows name i), h.1, h.2)
  frames_less cs beneath (inner _ _ k) (inner _ _ l) (x ∷ xs) grows h =
      (λ name i. h.0 name (grows.1 name i), frames_less cs beneath k l xs grows.2 h.1, h.2 ∙ sym grows.0)
  frames_less cs beneath (base _) (base _) [] grows h = absurd h
  frames_less cs beneath (inner _ _ _) (inner _ _ _) [] grows h = absurd h
  frames_less cs beneath (base _) (inner _ _ _) fs grows h = absurd grows
  frames_less cs beneath (inner _ _ _) (base _) fs grows h = absurd grows

  pub frames_grown : (cs ds : List Bindings) → Grown cs ds → (beneath : List Frame) (k : Known) (fs : List Frame) → FitsFrames cs beneath k fs → FitsFrames ds beneath k fs
  frames_grown cs ds g beneath (base f) (x ∷ xs) h = (λ name i. own_grown cs ds g name x (h.0 name i), h.1, h.2)
  frames_grown cs ds g beneath (inner b f k) (x ∷ xs) h = (λ name i. own_grown cs ds g name x (h.0 name i), frames_grown cs ds g beneath k xs h.1, h.2)
  frames_grown cs ds g beneath (base f) [] h = absurd h
  frames_grown cs ds g beneath (inner b f k) [] h = absurd h

  pub held_grown : (cs ds : List Bindings) → Grown cs ds → (ms : List Macro) → AreHeld cs ms → AreHeld ds ms
  held_grown cs ds g [] h = tt
  held_grown cs ds g (m ∷ ms) h = (λ name i. g m.closure name (h.0 name i), held_grown cs ds g ms h.1)

  pub held_more : (cs : List Bindings) (ms : List Macro) (m : Macro) → AreHeld cs ms → IsHeld cs m.closure (uses m.stream m.number) → AreHeld cs (ms ++ m ∷ [])
  held_more cs [] m h i = (i, tt)
  held_more cs (n ∷ ms) m h i = (h.0, held_more cs ms m h.1 i)

  pub held_at : (cs : List Bindings) (ms : List Macro) (number : ℕ) (m : Macro) → slice_get ms number ≡ Some m → AreHeld cs ms → IsHeld cs m.closure (uses m.stream m.number)
  held_at cs [] number m e h = absurd (cc)
  held_at cs (n ∷ ms) zero m e h = let same : n ≡ m = cc in subst (λ (o : Macro). IsHeld cs o.closure (uses o.stream o.number)) same h.0
  held_at cs (n ∷ ms) (suc number) m e h = held_at cs ms number m e h.1

  pub fits_less : (begun : Begun) (k l : Known) (w : World) → Grows k l → Fits begun l w → Fits begun k w
  fits_less begun k l w grows h = record {
    framed = frames_less w.closures begun.beneath k l w.frames grows h.framed;
    count = h.count;
    held = h.held;
    grown = h.grown;
    there = h.there;
  }

  -- the frames changed, and nothing else that is seen
  pub fits_in : (begun : Begun) (k l : Known) (w : World) (fs : List Frame) → Fits begun k w → FitsFrames w.closures begun.beneath l fs
      → FitsIn begun l fs w.base w.closures w.macros w.here
  fits_in begun k l w fs h framed = record { framed = framed; count = h.count; held = h.held; grown = h.grown; there = h.there }

  -- the closures grew, and the frames changed
  pub fits_grown : (begun : Begun) (k l : Known) (w : World) (fs : List Frame) (cs : List Bindings) → Fits begun k w → Grown w.closures cs → FitsFrames cs begun.beneath l fs
      → FitsIn begun l fs w.base cs w.macros w.here
  fits_grown begun k l w fs cs h grown framed = record {
    framed = framed;
    count = h.count;
    held = held_grown w.closures cs grown w.macros h.held;
    grown = grown_on begun.since w.closures cs h.grown grown;
    there = h.there;
  }

  -- what is safe is found, or not, over both
  pub beneath_agrees : (cs : List Bindings) (beneath : List Frame) (k : Known) (fs : List Frame) → FitsFrames cs beneath k fs
      → (name : List ℕ) → names name → value_at name d ≡ value_at name (base_context fs)
  beneath_agrees cs beneath (base f) (x ∷ xs) h name n = h.2 name n
  beneath_agrees cs beneath (inner b f k) (x ∷ y ∷ ys) h name n = beneath_agrees cs beneath k (y ∷ ys) h.1 name n
  beneath_agrees cs beneath (inner b f k) (x ∷ []) h name n = absurd (fits_none cs beneath k h.1)
  beneath_agrees cs beneath (base f) [] h name n = absurd h
  beneath_agrees cs beneath (inner b f k) [] h name n = absurd h

  beneath_over : (c : Val) (x : Frame) (xs : List Frame) → context_beneath c (over_frames d (x ∷ xs)) ≡ d
  beneath_over c x [] = refl
  beneath_over c x (y ∷ ys) = beneath_over x.context y ys

  stands : (cs : List Bindings) (beneath : List Frame) (k : Known) (fs : List Frame) → FitsFrames cs beneath k fs → Stands (length beneath) k fs
  stands cs beneath (base f) (x ∷ xs) h = ap length h.1
  stands cs beneath (inner b f k) (x ∷ xs) h = stands cs beneath k xs h.1
  stands cs beneath (base f) [] h = absurd h
  stands cs beneath (inner b f k) [] h = absurd h

  pub many : (fs : List Frame) → length (over_frames d fs) ≡ length fs
  many [] = refl
  many (f ∷ fs) = ap suc (many fs)

  stands_so : (n : ℕ) (k : Known) (fs : List Frame) → Stands n k fs → Stands n k (over_frames d fs)
  stands_so n (base f) (x ∷ xs) h = many xs ∙ h
  stands_so n (inner b f k) (x ∷ xs) h = stands_so n k xs h
  stands_so n (base f) [] h = absurd h
  stands_so n (inner b f k) [] h = absurd h

  finds_listed : (cs : List Bindings) (beneath : List Frame) (name : List ℕ) → names name → (k : Known) (fs : List Frame) → FitsFrames cs beneath k fs
      → known_at cs name (seen_by k (over_frames d fs)) ≡ known_at cs name (seen_by k fs)
  finds_listed cs beneath name n (base f) (x ∷ []) h = ap (λ o. option_or (option_or (own_in cs name x) o) None) (h.2 name n)
  finds_listed cs beneath name n (base f) (x ∷ y ∷ ys) h = refl
  finds_listed cs beneath name n (inner b f k) (x ∷ y ∷ ys) h = ap (option_or (known_in cs name x)) (finds_listed cs beneath name n k (y ∷ ys) h.1)
  finds_listed cs beneath name n (inner b f k) (x ∷ []) h = absurd (fits_none cs beneath k h.1)
  finds_listed cs beneath name n (base f) [] h = absurd h
  finds_listed cs beneath name n (inner b f k) [] h = absurd h

  finds_known : (cs : List Bindings) (beneath : List Frame) (name : List ℕ) (k : Known) (fs : List Frame) → FitsFrames cs beneath k fs → IsKnown k name → (later other : Option Val)
      → option_or (known_at cs name (seen_by k (over_frames d fs))) later ≡ option_or (known_at cs name (seen_by k fs)) other
  finds_known cs beneath name (base f) (x ∷ xs) h i later other =
      first_decides (own_in cs name x) (h.0 name i) (value_at name (context_before d xs x.context)) (value_at name x.context) None None later other
  finds_known cs beneath name (inner b f k) (x ∷ xs) h (inl i) later other =
      first_decides (own_in cs name x) (h.0 name i) (value_at name (context_before d xs x.context)) (value_at name x.context)
      (known_at cs name (seen_by k (over_frames d xs))) (known_at cs name (seen_by k xs)) later other
  finds_known cs beneath name (inner b f k) (x ∷ y ∷ ys) h (inr i) later other =
      same_behind (known_in cs name x) (known_at cs name (seen_by k (over_frames d (y ∷ ys)))) (known_at cs name (seen_by k (y ∷ ys))) later other
      (finds_known cs beneath name k (y ∷ ys) h.1 i later other)
  finds_known cs beneath name (inner b f k) (x ∷ []) h (inr i) later other = absurd (fits_none cs beneath k h.1)
  finds_known cs beneath name (base f) [] h i later other = absurd h
  finds_known cs beneath name (inner b f k) [] h i later other = absurd h

  over_beneath : (cs : List Bindings) (beneath : List Frame) (k : Known) (fs : List Frame) → FitsFrames cs beneath k fs → base_context (over_frames d fs) ≡ d
  over_beneath cs beneath k (x ∷ xs) h = beneath_over undefined x xs
  over_beneath cs beneath k [] h = absurd (fits_none cs beneath k h)

  -- what a name stands for in frames, of which so many are not seen
  abbrev found_in : List Bindings → List ℕ → Option Val → List Frame → List Frame → Option Val
  found_in cs name given seen fs = option_or (known_at cs name seen) (option_or (value_at name (base_context fs)) given)

  found_so : (cs : List Bindings) (beneath : List Frame) (name : List ℕ) (given : Option Val) (k : Known) (fs : List Frame) → FitsFrames cs beneath k fs → IsSafe names k name
      → found_in cs name given (seen_by k (over_frames d fs)) (over_frames d fs) ≡ found_in cs name given (seen_by k fs) fs
  found_so cs beneath name given k fs h (inl n) =
      ap (λ o. option_or o (option_or (value_at name (base_context (over_frames d fs))) given)) (finds_listed cs beneath name n k fs h)
      ∙ ap (λ (c : Val). option_or (known_at cs name (seen_by k fs)) (option_or (value_at name c) given)) (over_beneath cs beneath k fs h)
      ∙ ap (λ o. option_or (known_at cs name (seen_by k fs)) (option_or o given)) (beneath_agrees cs beneath k fs h name n)
  found_so cs beneath name given k fs h (inr i) =
      finds_known cs beneath name k fs h i (option_or (value_at name (base_context (over_frames d fs))) given) (option_or (value_at name (base_context fs)) given)

  pub finds : (cs : List Bindings) (beneath : List Frame) (name : List ℕ) (given : Option Val) (k : Known) (fs : List Frame) (below : ℕ) → below ≡ length beneath
      → FitsFrames cs beneath k fs → IsSafe names k name
      → found_in cs name given (take (length (over_frames d fs) - below) (over_frames d fs)) (over_frames d fs) ≡ found_in cs name given (take (length fs - below) fs) fs
  finds cs beneath name given k fs below e h safe =
      let deep : Stands below k fs = subst (λ n. Stands n k fs) (sym e) (stands cs beneath k fs h) in
      ap (λ (seen : List Frame). found_in cs name given seen (over_frames d fs)) (seen_is below k (over_frames d fs) (stands_so below k fs deep))
      ∙ found_so cs beneath name given k fs h safe
      ∙ ap (λ (seen : List Frame). found_in cs name given seen fs) (sym (seen_is below k fs deep))

  -- a new frame in front of others is not the outermost one
  pub pushes : (cs : List Bindings) (beneath : List Frame) (k : Known) (f : Frame) (fs : List Frame) → FitsFrames cs beneath k fs → over_frames d (f ∷ fs) ≡ f ∷ over_frames d fs
  pushes cs beneath k f [] fits = absurd (fits_none cs beneath k fits)
  pushes cs beneath k f (g ∷ fs) fits = refl

  -- the loops are the same, and what is known of records
  pub same_loops : (fs : List Frame) → loops_of (over_frames d fs) ≡ loops_of fs
  same_loops [] = refl
  same_loops (f ∷ fs) = ap (λ (loops : List (Option Loop)). f.loop ∷ loops) (same_loops fs)

  pub same_all_loops : (w : World) → loops_of (over_frames d w.frames) ++ map Some w.closed ≡ loops_of w.frames ++ map Some w.closed
  same_all_loops w = ap (λ (loops : List (Option Loop)). loops ++ map Some w.closed) (same_loops w.frames)

  pub same_known : (w : World) → known_of (over_context d w) ≡ known_of w
  same_known w = ap (λ (loops : List (Option Loop)). known_by w.id w.namespaces w.macros (loops ++ map Some w.closed)) (same_loops w.frames)

  depth_over : (n : ℕ) (fs : List Frame) → depth_within (take n (over_frames d fs)) ≡ depth_within (take n fs)
  depth_over zero fs = refl
  depth_over (suc n) [] = refl
  depth_over (suc n) (f ∷ fs) = ap (depth_behind f.loop) (depth_over n fs)

  pub same_depth : (below : ℕ) (fs : List Frame) → depth_within (take (length (over_frames d fs) - below) (over_frames d fs)) ≡ depth_within (take (length fs - below) fs)
  same_depth below fs = ap (λ n. depth_within (take (n - below) (over_frames d fs))) (many fs) ∙ depth_over (length fs - below) fs

  abbrev loop_or : Option Loop → Option Loop → Option Loop
  loop_or o later = elim o [ None ↦ later | Some l ↦ Some l ]

  loop_over_frames : (n : ℕ) (fs : List Frame) → innermost_loop (take n (over_frames d fs)) ≡ innermost_loop (take n fs)
  loop_over_frames zero fs = refl
  loop_over_frames (suc n) [] = refl
  loop_over_frames (suc n) (f ∷ fs) = ap (loop_or f.loop) (loop_over_frames n fs)

  pub same_innermost : (below : ℕ) (fs : List Frame) → innermost_loop (take (length (over_frames d fs) - below) (over_frames d fs)) ≡ innermost_loop (take (length fs - below) fs)
  same_innermost below fs = ap (λ n. innermost_loop (take (n - below) (over_frames d fs))) (many fs) ∙ loop_over_frames (length fs - below) fs

  -- a frame may have lost its locals, where nothing in it is known
  pub frames_cleared : (cs : List Bindings) (beneath : List Frame) (k : Known) (f : Frame) (fs : List Frame) (locals : Bindings) (loop : Option Loop) → is_called loop ≡ is_called f.loop
      → FitsFrames cs beneath k (f ∷ fs) → FitsFrames cs beneath (cleared k) (record f { locals = locals; loop = loop } ∷ fs)
  frames_cleared cs beneath (base ids) f fs locals loop same fits = (λ name i. absurd (cc), fits.1, fits.2)
  frames_cleared cs beneath (inner b ids k) f fs locals loop same fits = (λ name i. absurd (cc), fits.1, same ∙ fits.2)

  pub frames_closed : (cs : List Bindings) (beneath : List Frame) (k : Known) (f : Frame) (fs : List Frame) → IsInner k → FitsFrames cs beneath k (f ∷ fs) → FitsFrames cs beneath (closed k) fs
  frames_closed cs beneath (base ids) f fs is fits = absurd is
  frames_closed cs beneath (inner b ids k) f fs is fits = fits.1

  pub frames_stored : (cs : List Bindings) (beneath : List Frame) (name : List ℕ) (v : Val) (k : Known) (f : Frame) (fs : List Frame) → FitsFrames cs beneath k (f ∷ fs)
      → FitsFrames cs beneath (stored name k) (record f { locals = put_local name v f.locals } ∷ fs)
  frames_stored cs beneath name v (base ids) f fs fits = (holds_put cs v name ids f fits.0, fits.1, fits.2)
  frames_stored cs beneath name v (inner b ids k) f fs fits = (holds_put cs v name ids f fits.0, fits.1, fits.2)

  -- which closure the innermost frame writes says nothing of what it has
  pub frames_writing : (cs : List Bindings) (beneath : List Frame) (k : Known) (number : Option ℕ) (fs : List Frame) → FitsFrames cs beneath k fs → FitsFrames cs beneath k (with_writes number fs)
  frames_writing cs beneath (base ids) number (f ∷ fs) fits = (fits.0, fits.1, fits.2)
  frames_writing cs beneath (inner b ids k) number (f ∷ fs) fits = (fits.0, fits.1, fits.2)
  frames_writing cs beneath (base ids) number [] fits = absurd fits
  frames_writing cs beneath (inner b ids k) number [] fits = absurd fits

  pub writing_over : (number : Option ℕ) (fs : List Frame) → over_frames d (with_writes number fs) ≡ with_writes number (over_frames d fs)
  writing_over number [] = refl
  writing_over number (f ∷ fs) = refl

  -- as many frames fit
  pub frames_many : (cs ds : List Bindings) (beneath : List Frame) (k : Known) (fs gs : List Frame) → FitsFrames cs beneath k fs → FitsFrames ds beneath k gs → length fs ≡ length gs
  frames_many cs ds beneath (base ids) (f ∷ fs) (g ∷ gs) h i = ap (λ (xs : List Frame). suc (length xs)) (h.1 ∙ sym i.1)
  frames_many cs ds beneath (inner b ids k) (f ∷ fs) (g ∷ gs) h i = ap suc (frames_many cs ds beneath k fs gs h.1 i.1)
  frames_many cs ds beneath (base ids) [] gs h i = absurd h
  frames_many cs ds beneath (inner b ids k) [] gs h i = absurd h
  frames_many cs ds beneath (base ids) (f ∷ fs) [] h i = absurd i
  frames_many cs ds beneath (inner b ids k) (f ∷ fs) [] h i = absurd i

  -- the outermost ones
  drop_over : (m : ℕ) (fs : List Frame) → over_frames d (drop m fs) ≡ drop m (over_frames d fs)
  drop_over zero fs = refl
  drop_over (suc m) [] = refl
  drop_over (suc m) (f ∷ fs) = drop_over m fs

  pub outermost_over : (n : ℕ) (fs : List Frame) → outermost n (over_frames d fs) ≡ over_frames d (outermost n fs)
  outermost_over n fs = ap (λ k. drop (k - n) (over_frames d fs)) (many fs) ∙ sym (drop_over (length fs - n) fs)

  -- behind a run in the same frames, in one of its own, and in one that stands on frames that are not seen
  pub frames_same : (cs ds : List Bindings) (beneath : List Frame) (k : Known) (fs gs : List Frame) → FitsFrames cs beneath k fs → FitsFrames ds beneath k gs
      → FitsFrames ds beneath k (outermost (length fs) gs)
  frames_same cs ds beneath k fs gs h i =
      subst (FitsFrames ds beneath k) (sym (outermost_all (length fs) gs (frames_many ds cs beneath k gs fs i h))) i

  pub frames_own : (cs ds : List Bindings) (beneath : List Frame) (b : Bool) (ids : Among) (k : Known) (fs gs : List Frame) → FitsFrames cs beneath k fs → FitsFrames ds beneath (inner b ids k) gs
      → FitsFrames ds beneath k (outermost (length fs) gs)
  frames_own cs ds beneath b ids k fs [] h i = absurd i
  frames_own cs ds beneath b ids k fs (g ∷ gs) h i =
      let many_ones : length gs ≡ length fs = frames_many ds cs beneath k gs fs i.1 h in
      let all : length fs ≤ length gs = omega (arith, many_ones) in
      subst (FitsFrames ds beneath k) (sym (outermost_behind (length fs) g gs all ∙ outermost_all (length fs) gs many_ones)) i.1

  pub frames_under : (cs ds : List Bindings) → Grown cs ds → (beneath : List Frame) (ids : Among) (k : Known) (fs gs : List Frame) → FitsFrames cs beneath k fs → FitsFrames ds fs (base ids) gs
      → FitsFrames ds beneath k (outermost (length fs) gs)
  frames_under cs ds grown beneath ids k fs [] h i = absurd i
  frames_under cs ds grown beneath ids k fs (g ∷ gs) h i =
      let all : length fs ≤ length gs = let e : length gs ≡ length fs = ap length i.1 in omega (arith, e) in
      subst (FitsFrames ds beneath k) (sym (outermost_behind (length fs) g gs all ∙ outermost_all (length fs) gs (ap length i.1) ∙ i.1))
      (frames_grown cs ds grown beneath k fs h)
