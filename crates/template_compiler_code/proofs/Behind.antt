-- Names that are lent, and those behind others.
use Rattle.std.proofs.Common.{◌≡◌, ℕ, suc, List, [], ◌∷◌, Option, None, Some, slice_get, ◌||◌, ◌++◌, Bool, true, false, cond, Bor, bytes_eq, map, refl, ap, sym, subst, ◌∙◌}
use Rattle.std.specs.List.{list_any}
use Rattle.std.proofs.lemmas.List.{map-append}
use Rattle.template_compiler_code.specs.Code.{Code}
use Rattle.template_compiler_code.specs.References.{is_among, name_at, names_with, is_jump_to, is_return, names_behind, opens_body}

-- a name is among others, of which each is lent
is_among-lent : (name : List ℕ) (names : List (Bor (List ℕ)))
    → list_any (λ other. bytes_eq other.now name) names ≡ is_among name (map (λ n. n.now) names)
is_among-lent name [] = refl
is_among-lent name (other ∷ names) = ap (λ b. bytes_eq other.now name || b) (is_among-lent name names)

abbrev pub texts : List (Bor (List ℕ)) → List (List ℕ)
texts names = map (λ n. n.now) names

-- whether a name is among others, as a search over the lent ones finds
pub found-among : (name : List ℕ) (names lent : List (Bor (List ℕ))) (b : Bool) → lent ≡ names
    → b ≡ list_any (λ other. bytes_eq other.now name) lent → is_among name (texts names) ≡ b
found-among name names lent b same found =
    sym (is_among-lent name names) ∙ ap (list_any (λ other. bytes_eq other.now name)) (sym same) ∙ sym found

-- a name that is among others adds nothing, and another one stands behind them
pub name-again : (names : List (List ℕ)) (name : List ℕ) (o : Option (List ℕ)) → Some name ≡ o → is_among name names ≡ true
    → names ≡ names_with names o
name-again names name o given among =
    ap (λ a. cond a names (names ++ name ∷ [])) (sym among) ∙ ap (names_with names) given

pub name-first : (names : List (List ℕ)) (name : List ℕ) (o : Option (List ℕ)) → Some name ≡ o → is_among name names ≡ false
    → names ++ name ∷ [] ≡ names_with names o
name-first names name o given missing =
    ap (λ a. cond a names (names ++ name ∷ [])) (sym missing) ∙ ap (names_with names) given

pub texts-push : (names new : List (Bor (List ℕ))) (name : Bor (List ℕ)) → new ≡ names ++ name ∷ []
    → texts new ≡ texts names ++ name.now ∷ []
texts-push names new name pushed = ap texts pushed ∙ map-append (λ n. n.now) names (name ∷ [])

-- a body that does not begin at a place is still under way there
pub still_within : (code : List Code) (names wanted : List (List ℕ)) (body : Option ℕ) (end place left : ℕ) → body ≡ Some end → left ≡ suc place → is_jump_to end (slice_get code place) ≡ false
    → names_behind code names body left ≡ wanted → names_behind code names (Some end) place ≡ wanted
still_within code names wanted body end place left is at other h =
    let P : Option ℕ → Type 0 = λ o. names_behind code names o left ≡ wanted in
    let Q : ℕ → Type 0 = λ n. names_behind code names (Some end) n ≡ wanted in
    let R : Bool → Type 0 = λ b. names_behind code names (cond b None (Some end)) place ≡ wanted in
    subst R other (subst Q at (subst P is h))

-- outside of bodies an instruction that neither ends one nor leads past one adds its name
pub still_outside : (code : List Code) (names more wanted : List (List ℕ)) (body : Option ℕ) (place left : ℕ) → body ≡ None → left ≡ suc place
    → is_return (slice_get code place) ≡ false → opens_body code (slice_get code place) ≡ false → more ≡ names_with names (name_at code place)
    → names_behind code names body left ≡ wanted → names_behind code more body place ≡ wanted
still_outside code names more wanted body place left is at inside closed added h =
    let P : Option ℕ → Type 0 = λ o. names_behind code names o left ≡ wanted in
    let Q : ℕ → Type 0 = λ n. names_behind code names None n ≡ wanted in
    let behind = names_behind code (names_with names (name_at code place)) None place in
    let R : Bool → Type 0 = λ b. cond b (names_behind code names (Some (suc place)) place) (cond (opens_body code (slice_get code place)) names behind) ≡ wanted in
    let S : Bool → Type 0 = λ b. cond b names behind ≡ wanted in
    let T : List (List ℕ) → Type 0 = λ ns. names_behind code ns None place ≡ wanted in
    let U : Option ℕ → Type 0 = λ o. names_behind code more o place ≡ wanted in
    subst U (sym is) (subst T (sym added) (subst S closed (subst R inside (subst Q at (subst P is h)))))
