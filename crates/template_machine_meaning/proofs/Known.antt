-- What is known where a walk stands, and which of its look-ups can reach the context.
use Rattle.std.proofs.Common.{◌≡◌, ◌∙◌, refl, ℕ, Bool, true, false, ◌||◌, ◌⊎◌, inl, inr, List, Option}
use Rattle.std.specs.Prelude.{IsTrue}
use Rattle.std.specs.Str.{bytes_eq}
use Rattle.std.proofs.lemmas.Bool.{or_left, or_right}
use Rattle.template_compiler_names.specs.Among.{Among, nothing}
use Rattle.template_compiler_process.specs.Process.{Ask, look_up, call_function, store, open_frame, close_frame, open_loop, next_item, close_loop, enclose, get_closure, build_macro, Answer, closure, Process, over, step, asks, amiss, cut_short, stuck}

-- the names that each open frame has of its own, the innermost first; and whether it is the frame of rounds that were called
pub data Known : Type 0 where
  base : Among → Known
  inner : Bool → Among → Known → Known

abbrev pub IsKnown : Known → List ℕ → Type 0
IsKnown (base f) name = IsTrue (f name)
IsKnown (inner b f k) name = IsTrue (f name) ⊎ IsKnown k name

-- in each frame the second knows what the first does
abbrev pub Grows : Known → Known → Type 0
Grows (base f) (base g) = (name : List ℕ) → IsTrue (f name) → IsTrue (g name)
Grows (inner b f k) (inner c g l) = (b ≡ c) × ((name : List ℕ) → IsTrue (f name) → IsTrue (g name)) × Grows k l
Grows _ _ = ⊥

pub grows_itself : (k : Known) → Grows k k
grows_itself (base f) = λ name h. h
grows_itself (inner b f k) = (refl, λ name h. h, grows_itself k)

pub grows_on : (k l m : Known) → Grows k l → Grows l m → Grows k m
grows_on (base _) (base _) (base _) g h = λ name i. h name (g name i)
grows_on (inner _ _ k) (inner _ _ l) (inner _ _ m) g h = (g.0 ∙ h.0, λ name i. h.1 name (g.1 name i), grows_on k l m g.2 h.2)
grows_on (base _) (base _) (inner _ _ _) g h = absurd h
grows_on (inner _ _ _) (inner _ _ _) (base _) g h = absurd h
grows_on (base _) (inner _ _ _) m g h = absurd g
grows_on (inner _ _ _) (base _) m g h = absurd g

pub known_on : (k l : Known) → Grows k l → (name : List ℕ) → IsKnown k name → IsKnown l name
known_on (base _) (base _) g name h = g name h
known_on (inner _ _ k) (inner _ _ l) g name (inl h) = inl (g.1 name h)
known_on (inner _ _ k) (inner _ _ l) g name (inr h) = inr (known_on k l g.2 name h)
known_on (base _) (inner _ _ _) g name h = absurd g
known_on (inner _ _ _) (base _) g name h = absurd g

-- one name more
abbrev pub with_name : List ℕ → Among → Among
with_name id f name = bytes_eq id name || f name

-- a store, the end of a frame, and a loop's next item, for which its frame is cleared
abbrev pub stored : List ℕ → Known → Known
stored name (base f) = base (with_name name f)
stored name (inner b f k) = inner b (with_name name f) k

abbrev pub closed : Known → Known
closed (base f) = base f
closed (inner b f k) = k

abbrev pub cleared : Known → Known
cleared (base f) = base nothing
cleared (inner b f k) = inner b nothing k

-- a frame in front
abbrev pub opened : Known → Known
opened k = inner false nothing k

pub grows_stored : (name : List ℕ) (k : Known) → Grows k (stored name k)
grows_stored name (base f) = λ id h. or_right (bytes_eq name id) (f id) h
grows_stored name (inner b f k) = (refl, λ id h. or_right (bytes_eq name id) (f id) h, grows_itself k)

pub knows_stored : (name : List ℕ) (k : Known) (id : List ℕ) → IsTrue (bytes_eq name id) → IsKnown (stored name k) id
knows_stored name (base f) id h = or_left (bytes_eq name id) (f id) h
knows_stored name (inner b f k) id h = inl (or_left (bytes_eq name id) (f id) h)

abbrev pub IsInner : Known → Type 0
IsInner (base f) = ⊥
IsInner (inner b f k) = Unit {0}

-- what is known behind an event
abbrev pub learnt : Known → Ask → Known
learnt k (store name v) = stored name k
learnt k open_frame = opened k
learnt k close_frame = closed k
learnt k (open_loop how v) = opened k
learnt k next_item = cleared k
learnt k close_loop = closed k
learnt k _ = k

-- how far the making of a macro has come: nothing of it; the closure that the innermost frame writes has these names; or so has
-- the one that was given
pub data Made : Type 0 where
  unmade : Made
  enclosing : Among → Made
  given : Option ℕ → Among → Made

abbrev pub enclosed_of : Made → Among
enclosed_of (enclosing f) = f
enclosed_of _ = nothing

abbrev pub made : Made → Ask → Answer → Made
made m (enclose name) a = enclosing (with_name name (enclosed_of m))
made m get_closure (closure c) = given c (enclosed_of m)
made m _ a = unmade

-- where the rounds of a loop were called their run ends as the loop is closed: all is known then that was known at the start
abbrev pub Leaves : Known → Known → Type 0
Leaves start (inner true f k) = Grows start (inner true f k)
Leaves start _ = Unit {0}

-- a macro is made of a closure that has each name that its body uses
abbrev pub Encloses : Among → Option ℕ → Made → Type 0
Encloses used c (given d f) = (d ≡ c) × ((name : List ℕ) → IsTrue (used name) → IsTrue (f name))
Encloses used c _ = ⊥

-- a look-up of the name finds the same in both contexts, or does not come to them
abbrev pub IsSafe : (List ℕ → Type 0) → Known → List ℕ → Type 0
IsSafe names k name = names name ⊎ IsKnown k name

module _ (names : List ℕ → Type 0) (uses : ℕ → Among) where
  -- `start` is known where the run starts
  abbrev pub May : Known → Known → Made → Ask → Type 0
  May start k m (look_up name) = IsSafe names k name
  May start k m (call_function name vs) = IsSafe names k name
  May start k m (enclose name) = IsSafe names k name
  May start k m (build_macro making c) = Encloses (uses making.number) c m
  May start k m close_frame = IsInner k
  May start k m close_loop = IsInner k × Leaves start k
  May start k m _ = Unit {0}

  -- each event may be asked where it comes, and at the end all is known that was known at the start
  abbrev pub Within : Known → Known → Made → Process → Type 0
  Within start k m (over operands) = Grows start k
  Within start k m (step p) = Within start k m p
  Within start k m (asks e go) = May start k m e × ((a : Answer) → Within start (learnt k e) (made m e a) (go a))
  Within start k m amiss = Unit {0}
  Within start k m cut_short = Unit {0}
  Within start k m stuck = Unit {0}
