-- Why an expression is refused.
use Rattle.std.specs.Prelude.{◌≡◌, ◌⊎◌, List, [], ◌∷◌}
use Rattle.template_compiler_tokens.specs.Token.{Token, bad, TokenFault, bad_syntax}

-- among the tokens is one that is none, for this reason
abbrev pub Stands : TokenFault → List Token → Type 0
Stands f [] = ⊥
Stands f (t ∷ ts) = (t ≡ bad f) ⊎ Stands f ts

-- the tokens have no tree, or the reason stands among them
abbrev pub Blamed : TokenFault → List Token → Type 0
Blamed f ts = (f ≡ bad_syntax) ⊎ Stands f ts
