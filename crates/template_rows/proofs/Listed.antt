-- What was listed so far, and what is read of the items that are left.
use Rattle.std.proofs.Common.{◌≡◌, ℕ, List, [], ◌∷◌, ◌++◌, Option, None, Some, refl, sym, ap, append_assoc, map, option_map, String, Global, string_bytes, ◌∙◌, rules}
use Rattle.std.proofs.lemmas.List.{map-append}
use Rattle.std.specs.Borrow.{Bor}
use Rattle.serde_json.specs.Data.{Data}
use Rattle.serde_json.specs.Find.{as_str}
use Rattle.serde_json.specs.View.{view, items_view}
use Rattle.serde_json.specs.declared.value.Value.{Value, String as OfText, the_lemmas}
use Rattle.template_rows.specs.Entries.{Pair, all_in, pair_in, texts_of_pair}

abbrev pub behind : {A : Type 0} → List A → Option (List A) → Option (List A)
behind done left = option_map (λ more. done ++ more) left

pub behind-more : {A : Type 0} (done part : List A) (left : Option (List A)) → behind done (option_map (λ more. part ++ more) left) ≡ behind (done ++ part) left
behind-more done part None = refl
behind-more done part (Some more) = ap Some (sym (append_assoc done part more))

-- one more item
pub one-more : {A : Type 0} (read : Data → Option A) (done : List A) (one : A) (here : Value) (later : List Value) (all : Option (List A)) → read (view here) ≡ Some one
    → all ≡ behind done (all_in read (items_view (here ∷ later))) → all ≡ behind (done ++ one ∷ []) (all_in read (items_view later))
one-more read done one here later all is h =
    let left = all_in read (items_view later) in
    let opened : all ≡ behind done (option_map (λ more. one ∷ more) left) = rw is at h in
    opened ∙ behind-more done (one ∷ []) left

-- the text that a value is
pub as_str-text : (text : String Global) → as_str (view (OfText text)) ≡ Some (string_bytes text)
as_str-text text = search (rules, the_lemmas)

-- one more text
pub texts-one : (done : List (Bor (List ℕ))) (text : Bor (List ℕ)) (here : Value) (later : List Value) (all : Option (List (List ℕ))) → as_str (view here) ≡ Some text.now
    → all ≡ behind (map (λ t. t.now) done) (all_in as_str (items_view (here ∷ later))) → all ≡ behind (map (λ t. t.now) (done ++ text ∷ [])) (all_in as_str (items_view later))
texts-one done text here later all is h =
    one-more as_str (map (λ t. t.now) done) text.now here later all is h ∙ ap (λ texts. behind texts (all_in as_str (items_view later))) (sym (map-append (λ t. t.now) done (text ∷ [])))

-- one more pair
pub pairs-one : (done : List Pair) (pair : Pair) (here : Value) (later : List Value) (all : Option (List (List ℕ × List ℕ))) → pair_in (view here) ≡ Some (texts_of_pair pair)
    → all ≡ behind (map texts_of_pair done) (all_in pair_in (items_view (here ∷ later))) → all ≡ behind (map texts_of_pair (done ++ pair ∷ [])) (all_in pair_in (items_view later))
pairs-one done pair here later all is h =
    one-more pair_in (map texts_of_pair done) (texts_of_pair pair) here later all is h ∙ ap (λ pairs. behind pairs (all_in pair_in (items_view later))) (sym (map-append texts_of_pair done (pair ∷ [])))
