-- Where the reading of a source ends.
use Rattle.std.specs.Prelude.{◌≡◌, ◌≤◌, ◌+◌, ◌⊎◌, ℕ, List, [], ◌∷◌, ◌++◌, take, Err}
use Rattle.template_compiler_tokens.specs.Token.{Token, bad, bad_escape}
use Rattle.template_compiler_tokens.specs.Places.{token_count}
use Rattle.template_compiler_syntax.specs.Syntax.{Syntax}
use Rattle.template_compiler_syntax.specs.Flat.{IsTokens}
use Rattle.template_compiler_sources.specs.Scoped.{taken_words}
use Rattle.template_compiler_sources.specs.Spelled.{IsSpelled}
use Rattle.template_compiler_grammar.specs.TreeReader.{template_of}
use Rattle.template_compiler_sources.specs.Wholes.{expression_alone}
use Rattle.template_compiler_sources.specs.declared.prefixes.Text.{Text}
use Rattle.template_compiler_sources.specs.declared.prefixes.Text.TheVariants as texts

-- what is read of a template's tokens
pub data TakenTokens (x : Syntax) (source : List ℕ) : List Token → Type 0 where
  taken_tokens : {tokens : List Token} → IsTokens x source tokens → TakenTokens x source (taken_words x.scoped_blocks tokens)

-- the text's tokens
abbrev pub HasTokens : Text → List Token → Type 0
HasTokens (texts.Template source filename syntax) ts = TakenTokens syntax source.now ts
HasTokens (texts.Expression source) ts = IsSpelled source.now ts

-- a bad escape is the fault of no token, so it marks what stands behind the first of the tokens
abbrev pub marked : List Token → ℕ → List Token
marked ts k = take k ts ++ bad bad_escape ∷ []

-- the reading of the first k tokens comes to their end
abbrev pub ReadsTo : Text → List Token → ℕ → Type 0
ReadsTo (texts.Template source filename syntax) ts k = template_of (marked ts k) ≡ Err bad_escape
ReadsTo (texts.Expression source) ts k = expression_alone (marked ts k) ≡ Err bad_escape

-- and it does not come to the end of one token more, or of two, which is as many as are looked at together
pub record EndsAt (text : Text) (ts : List Token) (k : ℕ) : Type 0 where
  pub within : k ≤ token_count ts
  pub reads : ReadsTo text ts k
  pub ends : k + 1 ≤ token_count ts → ReadsTo text ts (k + 1) → ⊥
  pub past : k + 2 ≤ token_count ts → ReadsTo text ts (k + 2) → ⊥

-- the reading comes to the end of the first k tokens, or goes over it as it looks at two together
abbrev pub Reaches : Text → List Token → ℕ → Type 0
Reaches text ts k = ReadsTo text ts k ⊎ ((k + 1 ≤ token_count ts) × ReadsTo text ts (k + 1))
