-- What a reader of tokens answers, over the tokens that are left.
use Rattle.std.specs.Prelude.{◌≡◌, ◌⊎◌, List, [], ◌∷◌, Option, None, Some, Result, Ok, Err}
use Rattle.std.specs.Borrow.{Bor}
use Rattle.template_values_errors.specs.declared.ErrorKind.{ErrorKind}
use Rattle.template_values_errors.specs.declared.ErrorKind.TheVariants.{SyntaxError, BadEscape, NoFloats, OutOfMemory}
use Rattle.template_compiler_tree.specs.declared.span.Span.{Span}
use Rattle.template_compiler_tokens.specs.Token as token
use Rattle.template_compiler_tokens.specs.Token.{TokenFault, bad_syntax, bad_escape, float_literal, bad}
use Rattle.template_compiler_tokens.specs.declared.token.Token.{Token}
use Rattle.template_compiler_tokens.specs.View.{token_of}

-- the kind of an error that tells why a stretch of text is no token
abbrev pub kind_of : TokenFault → ErrorKind
kind_of bad_syntax = SyntaxError
kind_of bad_escape = BadEscape
kind_of float_literal = NoFloats

-- want of memory; or the next stretch of text is no token, and the kind says why
abbrev pub IsRefused : List token.Token → List ErrorKind → Type 0
IsRefused left e =
    (e ≡ OutOfMemory ∷ []) ⊎ ((fault : TokenFault) × (left ≡ bad fault ∷ []) × (e ≡ kind_of fault ∷ []))

-- the first of the tokens that are left, which stays
abbrev pub Shows : List token.Token → Result (Option (Bor Token × Span)) (List ErrorKind) → Type 0
Shows left (Ok (Some shown)) = (behind : List token.Token) × (left ≡ token_of shown.0.now ∷ behind)
Shows left (Ok None) = left ≡ []
Shows left (Err e) = IsRefused left e

-- the first of the tokens that are left, and those that are left behind it; what is no token stays
abbrev pub Takes : List token.Token → List token.Token → Result (Option (Token × Span)) (List ErrorKind) → Type 0
Takes old new (Ok (Some taken)) = old ≡ token_of taken.0 ∷ new
Takes old new (Ok None) = (old ≡ []) × (new ≡ [])
Takes old new (Err e) = IsRefused old e × (new ≡ old)
