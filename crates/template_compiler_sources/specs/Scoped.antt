-- The word `scoped` behind the name of a block, which a syntax may take, and which says nothing.
use Rattle.std.specs.Prelude.{ℕ, Bool, true, false, ◌&&◌, if◌then◌else◌, codes, bytes_eq, List, [], ◌∷◌}
use Rattle.template_compiler_tokens.specs.Token.{Token, block_start, identifier}
use Rattle.template_compiler_tokenizer.specs.Spans.{Spanned}
use Rattle.template_compiler_sources.specs.declared.scoped.Head.{Head}
use Rattle.template_compiler_sources.specs.declared.scoped.Head.TheVariants.{Elsewhere, Begun, Worded, Named}

-- where a reader of tokens stands behind one more word
abbrev pub after_word : Head → List ℕ → Head
after_word Begun word = if bytes_eq word (codes "block") then Worded else Elsewhere
after_word Worded name = Named
after_word Named word = Elsewhere
after_word Elsewhere word = Elsewhere

-- and behind one more token
abbrev pub after : Head → Token → Head
after head block_start = Begun
after head (identifier word) = after_word head word
after head t = Elsewhere

abbrev pub is_named : Head → Bool
is_named Named = true
is_named Worded = false
is_named Begun = false
is_named Elsewhere = false

-- the token is the word `scoped`, behind the name of a block
abbrev pub is_scoped : Head → Token → Bool
is_scoped head (identifier word) = is_named head && bytes_eq word (codes "scoped")
is_scoped head t = false

-- the tokens from there on without each such word
abbrev pub unscoped : {A : Type 0} → (A → Token) → Head → List A → List A
unscoped token head [] = []
unscoped token head (t ∷ ts) =
    if is_scoped head (token t) then unscoped token (after head (token t)) ts else t ∷ unscoped token (after head (token t)) ts

-- what is read of a source's tokens: all of them, or those without such words, where blocks may be `scoped`
abbrev pub taken_words : Bool → List Token → List Token
taken_words scoped_blocks ts = if scoped_blocks then unscoped (λ t. t) Elsewhere ts else ts

abbrev pub taken_spans : Bool → List Spanned → List Spanned
taken_spans scoped_blocks ts = if scoped_blocks then unscoped (λ (t : Spanned). t.token) Elsewhere ts else ts
