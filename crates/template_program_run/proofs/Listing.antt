-- Names as a JSON list.
use Rattle.std.proofs.Common.{◌≡◌, ◌∙◌, ℕ, Global, String, Vec, false, List, [], ◌∷◌, ◌++◌, map, string_bytes, refl, sym, ap, rules}
use Rattle.serde_json.specs.Data.{array, string}
use Rattle.serde_json.specs.View.{items_of, view}
use Rattle.serde_json.specs.Written.{compact_text, has_float, items_have_float}
use Rattle.serde_json.specs.declared.value.Value as json
use Rattle.serde_json.proofs.Views.{view-Array}
use Rattle.template_program_run.specs.Lines.{strings_of}

added : {A C : Type 0} (f : A → C) (xs : List A) (x : A) → map f (xs ++ x ∷ []) ≡ map f xs ++ f x ∷ []
added f [] x = refl
added f (y ∷ ys) x = ap (λ zs. f y ∷ zs) (added f ys x)

-- lists that are alike under two functions stay so with one more each
pub alike_more : {A B C : Type 0} (f : A → C) (g : B → C) (xs : List A) (ys : List B) (x : A) (y : B) → map f xs ≡ map g ys → f x ≡ g y
    → map f (xs ++ x ∷ []) ≡ map g (ys ++ y ∷ [])
alike_more f g xs ys x y are is = added f xs x ∙ ap (λ zs. zs ++ f x ∷ []) are ∙ ap (λ z. map g ys ++ z ∷ []) is ∙ sym (added g ys y)

-- the data of a text
view_text : (text : String Global) → view (json.String text) ≡ string (string_bytes text)
view_text text = search (rules, json.the_lemmas)

-- the text of a copy of a name is that of the name
pub copy_seen : (copy name : String Global) → string_bytes copy ≡ string_bytes name → view (json.String copy) ≡ string (string_bytes name)
copy_seen copy name is = view_text copy ∙ ap string is

-- texts have no floats
no_floats : {A : Type 0} (texts : List (String A)) → items_have_float (items_of (strings_of texts)) ≡ false
no_floats [] = refl
no_floats (text ∷ texts) = no_floats texts

-- so a list that holds them is written as they are
pub list_text : {A : Type 0} (list : Vec json.Value Global) (texts : List (String A)) (written : List ℕ) → map view list.items ≡ strings_of texts
    → (has_float (view (json.Array list)) ≡ false → written ≡ compact_text (view (json.Array list)))
    → written ≡ compact_text (array (items_of (strings_of texts)))
list_text list texts written same text =
    let seen : view (json.Array list) ≡ array (items_of (strings_of texts)) = view-Array list ∙ ap (λ ds. array (items_of ds)) same in
    text (ap has_float seen ∙ no_floats texts) ∙ ap compact_text seen
