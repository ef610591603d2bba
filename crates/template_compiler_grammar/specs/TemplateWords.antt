-- What the grammar of statements asks of tokens: words and tags.
use Rattle.std.specs.Prelude.{ℕ, Bool, List, [], ◌∷◌, codes, bytes_eq}
use Rattle.std.specs.List.{list_any}
use Rattle.template_compiler_tokens.specs.Token.{Token, identifier, block_start, block_end}

abbrev pub word : List ℕ → Token
word name = identifier name

-- `{% name`, before what stands in the tag
abbrev pub opens : List ℕ → List Token → List Token
opens name ts = block_start ∷ identifier name ∷ ts

-- `{% name %}`
abbrev pub tag : List ℕ → List Token → List Token
tag name ts = block_start ∷ identifier name ∷ block_end ∷ ts

-- the words that are no targets, macro names, arguments nor aliases
abbrev pub reserved_words : List (List ℕ)
reserved_words =
    codes "true" ∷ codes "True" ∷ codes "false" ∷ codes "False" ∷ codes "none" ∷ codes "None" ∷ codes "loop" ∷ codes "self" ∷ []

abbrev pub is_reserved : List ℕ → Bool
is_reserved name = list_any (λ word. bytes_eq word name) reserved_words
