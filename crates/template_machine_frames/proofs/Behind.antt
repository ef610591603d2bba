-- Locals that stand behind others.
use Rattle.std.proofs.Common.{◌≡◌, ◌∙◌, ℕ, suc, ◌<◌, ◌==◌, Bool, true, false, not, cond, List, [], ◌∷◌, ◌++◌, length, Option, None, Some, is_some, IsSome, inl, inr, refl, sym, ap, arith}
use Rattle.std.specs.Prelude.{◌||◌, ◌&&◌}
use Rattle.std.specs.Option.{option_or}
use Rattle.std.specs.Str.{bytes_eq}
use Rattle.std.specs.Global.{Vec}
use Rattle.std.specs.Vec.{vec_capacity}
use Rattle.std.proofs.lemmas.List.{append-nil}
use Rattle.template_values_model.specs.Val.{Val}
use Rattle.template_machine_meaning.specs.World.{local_at, put_local}
use Rattle.template_machine_frames.specs.declared.locals.TheConstants.{FEW}
use Rattle.template_machine_frames.specs.declared.local.Local.{Local}
use Rattle.template_machine_frames.specs.Locals.{locals_of, StandBehind}
use Rattle.template_machine_frames.specs.Names.{exports_of, is_private}

-- the locals in front come first
pub found_in_two : (name : List ℕ) (xs ys : List (List ℕ × Val)) → option_or (local_at name xs) (local_at name ys) ≡ local_at name (xs ++ ys)
found_in_two name [] ys = refl
found_in_two name (x ∷ xs) ys = by (bytes_eq x.0 name) (found_in_two name xs ys)
  where
    by : (b : Bool) → option_or (local_at name xs) (local_at name ys) ≡ local_at name (xs ++ ys)
        → option_or (cond b (Some x.1) (local_at name xs)) (local_at name ys) ≡ cond b (Some x.1) (local_at name (xs ++ ys))
    by true rest = refl
    by false rest = rest

-- a name that is found in front is stored there
pub put_in_front : (name : List ℕ) (v : Val) (xs ys : List (List ℕ × Val)) → IsSome (local_at name xs)
    → put_local name v xs ++ ys ≡ put_local name v (xs ++ ys)
put_in_front name v [] ys some = cc
put_in_front name v (x ∷ xs) ys some = by (bytes_eq x.0 name) (put_in_front name v xs ys) some
  where
    by : (b : Bool) → (IsSome (local_at name xs) → put_local name v xs ++ ys ≡ put_local name v (xs ++ ys)) → IsSome (cond b (Some x.1) (local_at name xs))
        → cond b ((name, v) ∷ xs) (x ∷ put_local name v xs) ++ ys ≡ cond b ((name, v) ∷ (xs ++ ys)) (x ∷ put_local name v (xs ++ ys))
    by true rest some = refl
    by false rest some = ap (λ (later : List (List ℕ × Val)). x ∷ later) (rest some)

-- another one behind it
pub put_behind_them : (name : List ℕ) (v : Val) (xs ys : List (List ℕ × Val)) → local_at name xs ≡ None
    → xs ++ put_local name v ys ≡ put_local name v (xs ++ ys)
put_behind_them name v [] ys none = refl
put_behind_them name v (x ∷ xs) ys none = by (bytes_eq x.0 name) (put_behind_them name v xs ys) none
  where
    by : (b : Bool) → (local_at name xs ≡ None → xs ++ put_local name v ys ≡ put_local name v (xs ++ ys)) → cond b (Some x.1) (local_at name xs) ≡ None
        → x ∷ (xs ++ put_local name v ys) ≡ cond b ((name, v) ∷ (xs ++ ys)) (x ∷ put_local name v (xs ++ ys))
    by true rest none = cc
    by false rest none = ap (λ (later : List (List ℕ × Val)). x ∷ later) (rest none)

-- the same where nothing stands behind
pub put_alone : (name : List ℕ) (v : Val) (xs zs ys : List (List ℕ × Val)) → ys ≡ [] → zs ≡ put_local name v xs
    → zs ++ ys ≡ put_local name v (xs ++ ys)
put_alone name v xs zs ys empty put =
    ap (λ ys. zs ++ ys) empty ∙ append-nil zs ∙ put ∙ ap (put_local name v) (sym (append-nil xs) ∙ sym (ap (λ ys. xs ++ ys) empty))

or_all : (a b c : Bool) → ((a || b) || c) ≡ (a || (b || c))
or_all true b c = refl
or_all false b c = refl

either_found : (o p : Option Val) → (is_some o || is_some p) ≡ is_some (option_or o p)
either_found None p = refl
either_found (Some v) p = refl

-- the names of both
pub names_of_two : (q : List ℕ) (xs ys : List (List ℕ × Val)) (before first all : Bool) → first ≡ (before || is_some (local_at q xs))
    → all ≡ (first || is_some (local_at q ys)) → all ≡ (before || is_some (local_at q (xs ++ ys)))
names_of_two q xs ys before first all one two =
    two ∙ ap (λ b. b || is_some (local_at q ys)) one ∙ or_all before (is_some (local_at q xs)) (is_some (local_at q ys))
    ∙ ap (λ b. before || b) (either_found (local_at q xs) (local_at q ys) ∙ ap is_some (found_in_two q xs ys))

either_exported : (a b c : Bool) → ((a && c) || (b && c)) ≡ ((a || b) && c)
either_exported true true true = refl
either_exported true true false = refl
either_exported true false true = refl
either_exported true false false = refl
either_exported false b c = refl

pub exports_of_two : (q : List ℕ) (xs ys : List (List ℕ × Val)) (before first all : Bool) → first ≡ (before || exports_of xs q)
    → all ≡ (first || exports_of ys q) → all ≡ (before || exports_of (xs ++ ys) q)
exports_of_two q xs ys before first all one two =
    let open_name = not (is_private q) in
    two ∙ ap (λ b. b || exports_of ys q) one ∙ or_all before (exports_of xs q) (exports_of ys q)
    ∙ ap (λ b. before || b) (either_exported (is_some (local_at q xs)) (is_some (local_at q ys)) open_name
    ∙ ap (λ b. b && open_name) (either_found (local_at q xs) (local_at q ys) ∙ ap is_some (found_in_two q xs ys)))

-- where there is room in front, nothing stands behind
pub none_behind : (few : Vec Local) (further : List (List ℕ × Val)) → StandBehind few further → length few.items < vec_capacity few → further ≡ []
none_behind few further (inl empty) room = empty
none_behind few further (inr full) room = let le = full.1 in absurd (omega arith)

-- nor where there are few
pub none_behind_few : (few : Vec Local) (further : List (List ℕ × Val)) → StandBehind few further → length few.items < FEW → further ≡ []
none_behind_few few further (inl empty) short = empty
none_behind_few few further (inr full) short = let le = full.0 in absurd (omega arith)

positive : (n : ℕ) → (suc n == 0) ≡ false
positive n = grind arith

-- so that there are none at all where there are none in front
pub empty_where_few : (few : Vec Local) (further : List (List ℕ × Val)) → StandBehind few further → (length few.items == 0) ≡ (length (locals_of few.items ++ further) == 0)
empty_where_few few further stand = by few.items (none_behind_few few further stand)
  where
    by : (ls : List Local) → (length ls < FEW → further ≡ []) → (length ls == 0) ≡ (length (locals_of ls ++ further) == 0)
    by [] none = sym (ap (λ (xs : List (List ℕ × Val)). length xs == 0) (none (omega arith)))
    by (l ∷ ls) none = positive (length ls) ∙ sym (positive (length (locals_of ls ++ further)))
