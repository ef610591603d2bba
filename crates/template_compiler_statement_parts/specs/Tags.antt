-- The tag that stands next.
use Rattle.std.specs.Prelude.{ℕ, List, ◌∷◌, Option, None}
use Rattle.template_compiler_tokens.specs.Token.{Token, block_start}
use Rattle.template_compiler_stream.specs.Signs.{next_word}

-- its word
abbrev pub next_tag : List Token → Option (List ℕ)
next_tag (block_start ∷ ts) = next_word ts
next_tag _ = None
