-- The templates of a request: an object whose members are texts.
use Rattle.std.specs.Prelude.{◌≡◌, ℕ, List, [], ◌∷◌, Option, None, Some, Contains, IfSome, IsSomeAnd, String, map, string_bytes}
use Rattle.std.specs.declared.alloc.Global.{Global}
use Rattle.json.specs.Json.{Json, Members, no_members, member}
use Rattle.json.specs.Find.{as_object, as_str}

-- the names of members with their texts, where they are texts
abbrev pub texts_in : Members → List (List ℕ × Option (List ℕ))
texts_in no_members = []
texts_in (member name j later) = (name, as_str j) ∷ texts_in later

-- the names of templates with their texts
abbrev pub named_texts : List (String Global × String Global) → List (List ℕ × Option (List ℕ))
named_texts templates = map (λ t. (string_bytes t.0, Some (string_bytes t.1))) templates

-- a member is no text
abbrev pub LacksText : List (List ℕ × Option (List ℕ)) → Type 0
LacksText texts = (name : List ℕ) × Contains texts (name, None)

-- an object is given, and the templates are its members, in order
abbrev pub SaysTexts : Option Json → List (String Global × String Global) → Type 0
SaysTexts None templates = ⊥
SaysTexts (Some j) templates = IsSomeAnd (as_object j) (λ members. named_texts templates ≡ texts_in members)

-- none is given, or a member of it is no text
abbrev pub LacksTexts : Option Json → Type 0
LacksTexts None = Unit {0}
LacksTexts (Some j) = IfSome (as_object j) (λ members. LacksText (texts_in members))
