-- A scanned token is a token.
use Rattle.std.proofs.Common.{◌≡◌, ℕ, refl}
use Rattle.template_compiler_tokens.specs.Token as token
use Rattle.template_compiler_tokens.specs.Token.{TokenFault, template_data, bad}
use Rattle.template_compiler_tokens.specs.declared.token.Token.{Token}
use Rattle.template_compiler_tokens.specs.declared.token.Token.TheVariants.{TemplateData}
use Rattle.template_compiler_tokens.specs.View.{token_of}
use Rattle.template_compiler_tokens.specs.Lexical.{taken}

pub never_bad : (t : Token) (fault : TokenFault) → token_of t ≡ bad fault → ⊥
never_bad (TemplateData text) fault e = cc
never_bad _ fault e = cc

taken_some : (t : token.Token) (n : ℕ) → ((fault : TokenFault) → t ≡ bad fault → ⊥) → taken t n ≡ n
taken_some (bad fault) n some = absurd (some fault refl)
taken_some (template_data text) n some = refl
taken_some _ n some = refl

-- what belongs to a scanned token is all that was taken
pub taken_whole : (t : Token) (n : ℕ) → taken (token_of t) n ≡ n
taken_whole t n = taken_some (token_of t) n (never_bad t)
