-- The tokens that are left in a stream, which holds them all.
use Rattle.std.specs.Prelude.{◌≡◌, ℕ, List, [], ◌∷◌, ◌++◌, map, drop, Option, None, Some}
use Rattle.std.specs.Borrow.{Bor}
use Rattle.template_compiler_tree.specs.declared.span.Span.{Span}
use Rattle.template_compiler_tokens.specs.Token as token
use Rattle.template_compiler_tokens.specs.Token.{bad}
use Rattle.template_compiler_tokens.specs.View.{token_of}
use Rattle.template_compiler_tokens.specs.declared.token.Token as scanned
use Rattle.template_compiler_stream.specs.Refusals.{fault_of}
use Rattle.template_compiler_stream.specs.declared.refusal.Fault.{Fault}
use Rattle.template_compiler_stream.specs.declared.stream.First.{First}
use Rattle.template_compiler_stream.specs.declared.stream.First.TheVariants.{Token, End, Bad}
use Rattle.template_compiler_stream.specs.declared.stream.Next.{Next}
use Rattle.template_compiler_stream.specs.declared.stream.Next.TheVariants as next

abbrev pub ended : Option Fault → List token.Token
ended None = []
ended (Some f) = bad (fault_of f) ∷ []

-- those from the place on
unfoldable pub left_in : List (scanned.Token × Span) → ℕ → Option Fault → List token.Token
left_in held place fault = map (λ t. token_of t.0) (drop place held) ++ ended fault

-- the tokens where the first was taken
abbrev pub ahead : First → List token.Token → List token.Token
ahead (Token t span) ts = token_of t ∷ ts
ahead End ts = []
ahead (Bad f) ts = bad (fault_of f) ∷ []

-- what stands next, to look at
abbrev pub Shows : List token.Token → Next → Type 0
Shows ts (next.Token t span) = (rest : List token.Token) × (ts ≡ token_of t.now ∷ rest)
Shows ts next.End = ts ≡ []
Shows ts (next.Bad f) = ts ≡ bad (fault_of f) ∷ []

-- a token that stands next, to look at; or there is none
abbrev pub Peeks : List token.Token → Option (Bor scanned.Token) → Type 0
Peeks ts (Some t) = (rest : List token.Token) × (ts ≡ token_of t.now ∷ rest)
Peeks ts None = (f : Option Fault) × (ts ≡ ended f)

-- what stands behind the next one
abbrev pub behind : List token.Token → List token.Token
behind [] = []
behind (t ∷ ts) = ts

-- the tokens behind the next one; what is none is not passed
abbrev pub passed : List token.Token → List token.Token
passed [] = []
passed (bad f ∷ ts) = bad f ∷ ts
passed (t ∷ ts) = ts
