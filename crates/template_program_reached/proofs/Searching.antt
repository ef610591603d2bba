-- The search for all that the main template reaches.
use Rattle.std.proofs.Common.{◌≡◌, ◌∙◌, ℕ, ◌+◌, ◌<◌, ◌≤◌, Bool, true, false, List, [], ◌∷◌, ◌++◌, length, get_or, Option, None, Some, refl, sym, ap, subst, arith, Decides, below_more, length-append}
use Rattle.std.specs.Borrow.{Bor}
use Rattle.std.specs.BTreeMap.{BTreeMap}
use Rattle.std.specs.List.{All, Contains}
use Rattle.std.proofs.lemmas.List.{get_or_append_left, get_or_default}
use Rattle.std.proofs.lemmas.List.Elements.{All-append, All-contains, All-get_or, All-weaker, Contains-append_left}
use Rattle.std.proofs.lemmas.Option.{same_Some}
use Rattle.template_compiler_syntax.specs.Syntax.{Syntax}
use Rattle.template_program_reached.specs.Loaded.{IsLoading}
use Rattle.template_program_reached.specs.Places.{text_at, kept_of, IsLast, IsMarked, IsPlace, Reaches, TellPlaces}
use Rattle.template_program_reached.specs.Reached.{source_under, Loads, IsPath, IsReached}
use Rattle.template_program_reached.proofs.Marking.{IsFrom, only_one}
use Rattle.template_program_reached.proofs.Telling.{kept_last, last_kept}
use Rattle.template_program_reached.proofs.Under.{under_none, under_place}

-- the last template of a name that is reached stands there
abbrev pub IsFound : Syntax → List (List ℕ × List ℕ) → ℕ → List ℕ → ℕ → Type 0
IsFound x texts n main i = (name : List ℕ) × IsLast texts n name i × IsReached x texts main name

-- of each name that the source loads by, the place stands in the order
abbrev pub IsCovered : Syntax → BTreeMap (Bor (List ℕ)) ℕ → List ℕ → List ℕ → Type 0
IsCovered x places source order =
    (names : List (List ℕ)) → IsLoading x source names → (name : List ℕ) (i : ℕ) → Contains names name → kept_of name places ≡ Some i
    → Contains order i

-- each of the order is reached, and what the first of them load stands there too
pub record IsSearch (x : Syntax) (places : BTreeMap (Bor (List ℕ)) ℕ) (texts : List (List ℕ × List ℕ)) (main : List ℕ) (next : ℕ)
    (order : List ℕ) : Type 0 where
  pub within : next ≤ length order
  pub found : All (IsFound x texts (length texts) main) order
  pub begins : (i : ℕ) → kept_of main places ≡ Some i → Contains order i
  pub covered : (k : ℕ) → k < next → IsCovered x places (text_at texts (get_or order k 0)).1 order

pub search_begins : (x : Syntax) (places : BTreeMap (Bor (List ℕ)) ℕ) (texts : List (List ℕ × List ℕ)) (main : List ℕ) (old order : List ℕ)
    → TellPlaces places texts (length texts) → old ≡ [] → Reaches places (main ∷ []) old order → IsSearch x places texts main 0 order
search_begins x places texts main old order tell none r = record {
  within = omega arith;
  found = subst (All (IsFound x texts (length texts) main)) (sym (r.behind ∙ ap (λ (xs : List ℕ). xs ++ r.added) none))
      (All-weaker (IsFrom places (main ∷ [])) (IsFound x texts (length texts) main)
      (λ i h. (
        h.0,
        last_kept places texts (length texts) (h.0) i tell
            (h.2),
        record { names = []; path = sym (only_one main (h.0) (h.1)) },
      ))
      (r.added) (r.from));
  begins = λ i at. r.there main i (0, omega arith, refl) at;
  covered = λ k h. absurd (omega arith);
}

-- a path goes on
path_more : (x : Syntax) (texts : List (List ℕ × List ℕ)) (from : List ℕ) (names : List (List ℕ)) (mid to : List ℕ)
    → IsPath x texts from names mid
    → Loads x texts mid to → IsPath x texts from (names ++ to ∷ []) to
path_more x texts from [] mid to path loads = (subst (λ (n : List ℕ). Loads x texts n to) (sym path) loads, refl)
path_more x texts from (next ∷ names) mid to path loads = (path.0, path_more x texts next names mid to (path.1) loads)

-- what one that is reached loads is reached
reached_more : (x : Syntax) (texts : List (List ℕ × List ℕ)) (main : List ℕ) (p : ℕ) (names : List (List ℕ)) (to : List ℕ)
    → IsFound x texts (length texts) main p → IsLoading x (text_at texts p).1 names → Contains names to → IsReached x texts main to
reached_more x texts main p names to found loading among =
    let loads : Loads x texts (found.0) to = record {
      source = (text_at texts p).1;
      stands = under_place texts (length texts) (found.0) p refl (found.1);
      loaded = record { names = names; all = loading; one = among };
    } in
    record { names = found.2.names ++ to ∷ []; path = path_more x texts main (found.2.names) (found.0) to (found.2.path) loads }

pub search_goes : (x : Syntax) (places : BTreeMap (Bor (List ℕ)) ℕ) (texts : List (List ℕ × List ℕ)) (main : List ℕ) (next p : ℕ)
    (names : List (List ℕ))
    (order new : List ℕ) → TellPlaces places texts (length texts)
    → ((source : List ℕ) (names others : List (List ℕ)) → IsLoading x source names → IsLoading x source others → names ≡ others)
    → next < length order → p ≡ get_or order next 0 → IsLoading x (text_at texts p).1 names → Reaches places names order new
    → IsSearch x places texts main next order → IsSearch x places texts main (next + 1) new
search_goes x places texts main next p names order new tell one within at loading r is =
    let long : length new ≡ length order + length (r.added) = ap (λ (xs : List ℕ). length xs) (r.behind) ∙ length-append order (r.added) in
    let here : IsFound x texts (length texts) main p =
    subst (IsFound x texts (length texts) main) (sym at)
    (All-get_or (IsFound x texts (length texts) main) order next 0 within (is.found)) in
    let stay : (i : ℕ) → Contains order i → Contains new i =
    λ i among. subst (λ (xs : List ℕ). Contains xs i) (sym (r.behind)) (Contains-append_left order (r.added) i among) in
    let same : (k : ℕ) → k < length order → get_or new k 0 ≡ get_or order k 0 =
    λ k h. ap (λ (xs : List ℕ). get_or xs k 0) (r.behind) ∙ get_or_append_left order (r.added) 0 k h in
    record {
      within = omega arith;
      found = subst (All (IsFound x texts (length texts) main)) (sym (r.behind))
          (All-append (IsFound x texts (length texts) main) order (r.added) (is.found)
          (All-weaker (IsFrom places names) (IsFound x texts (length texts) main)
          (λ i h. (
            h.0,
            last_kept places texts (length texts) (h.0) i tell (h.2),
            reached_more x texts main p names (h.0) here loading
                (h.1),
          ))
          (r.added) (r.from)));
      begins = λ i kept. stay i (is.begins i kept);
      covered = below_more (λ (k : ℕ). IsCovered x places (text_at texts (get_or new k 0)).1 new) next
          (λ k h. subst (λ (q : ℕ). IsCovered x places (text_at texts q).1 new) (sym (same k (omega (arith, is.within))))
          (λ ns all name i among kept. stay i (is.covered k h ns all name i among kept)))
          (subst (λ (q : ℕ). IsCovered x places (text_at texts q).1 new) (at ∙ sym (same next within))
          (λ ns all name i among kept.
          r.there name i (subst (λ (ms : List (List ℕ)). Contains ms name) (one (text_at texts p).1 ns names all loading) among) kept));
    }

-- all along a path stand in the order
along : (x : Syntax) (places : BTreeMap (Bor (List ℕ)) ℕ) (texts : List (List ℕ × List ℕ)) (main : List ℕ) (next : ℕ) (order : List ℕ)
    → TellPlaces places texts (length texts) → length order ≤ next → IsSearch x places texts main next order
    → (from : List ℕ) (names : List (List ℕ)) (to : List ℕ) → IsPath x texts from names to
    → ((i : ℕ) → kept_of from places ≡ Some i → Contains order i) → (i : ℕ) → kept_of to places ≡ Some i → Contains order i
along x places texts main next order tell done is from [] to path there = subst
    (λ (n : List ℕ). (i : ℕ) → kept_of n places ≡ Some i → Contains order i) path there
along x places texts main next order tell done is from (mid ∷ names) to path there =
    along x places texts main next order tell done is mid names to (path.1) (by (kept_of from places) refl)
  where
    loads : Loads x texts from mid
    loads = path.0

    covers : (j : ℕ) → kept_of from places ≡ Some j → Contains order j → (i : ℕ) → kept_of mid places ≡ Some i → Contains order i
    covers j at (k, h, e) i kept =
        let source : source_under texts from ≡ Some (text_at texts j).1 =
        under_place texts (length texts) from j refl (last_kept places texts (length texts) from j tell at) in
        let same : (text_at texts j).1 ≡ loads.source = same_Some (text_at texts j).1 (loads.source) (sym source ∙ loads.stands) in
        let stands : get_or order k 0 ≡ j = get_or_default order k 0 j h ∙ e in
        is.covered k (omega arith) (loads.loaded.names)
        (subst (λ (s : List ℕ). IsLoading x s (loads.loaded.names)) (sym same ∙ ap (λ (q : ℕ). (text_at texts q).1) (sym stands))
        (loads.loaded.all))
        mid i (loads.loaded.one) kept

    by : (o : Option ℕ) → kept_of from places ≡ o → (i : ℕ) → kept_of mid places ≡ Some i → Contains order i
    by (Some j) at i kept = covers j at (there j at) i kept
    by None at i kept =
        let none : source_under texts from ≡ None = under_none texts from (subst (IsPlace texts (length texts) from) at (tell from)) in
        let some : source_under texts from ≡ Some (loads.source) = loads.stands in
        absurd (cc)

-- the search has ended: a mark tells whether the last template of a name is reached
pub search_ends : (x : Syntax) (places : BTreeMap (Bor (List ℕ)) ℕ) (texts : List (List ℕ × List ℕ)) (main : List ℕ) (next : ℕ)
    (order : List ℕ) (marks : List Bool)
    → TellPlaces places texts (length texts) → length order ≤ next → IsSearch x places texts main next order → IsMarked marks order
    → (i : ℕ) (name : List ℕ) → IsLast texts (length texts) name i → Decides (get_or marks i false) (IsReached x texts main name)
search_ends x places texts main next order marks tell done is m i name last = (
  λ e.
      let found : IsFound x texts (length texts) main i = All-contains (IsFound x texts (length texts) main) order i (is.found)
      (m.marked i e) in
      subst (IsReached x texts main) (sym (found.1.named) ∙ last.named) (found.2),
  λ reached.
      (All-contains (λ (j : ℕ). (j < length marks) × (get_or marks j false ≡ true)) order i (m.ordered)
      (along x places texts main next order tell done is main (reached.names) name (reached.path) (is.begins) i
      (kept_last places texts (length texts) name i tell last))).1,
)
