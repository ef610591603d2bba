-- The faults that errors of a tokenizer tell.
use Rattle.std.proofs.Common.{◌≡◌, inl, inr, List, [], ◌∷◌, refl, sym, ap, ◌∙◌}
use Rattle.template_values_errors.specs.declared.ErrorKind.{ErrorKind}
use Rattle.template_values_errors.specs.declared.ErrorKind.TheVariants.{OutOfMemory}
use Rattle.template_compiler_tokens.specs.Token.{Token, TokenFault, bad_syntax, bad_escape, float_literal, bad}
use Rattle.template_compiler_tokens.specs.Left.{kind_of, IsRefused}

pub one_fault : (f g : TokenFault) → kind_of f ≡ kind_of g → f ≡ g
one_fault bad_syntax bad_syntax e = refl
one_fault bad_syntax bad_escape e = cc
one_fault bad_syntax float_literal e = cc
one_fault bad_escape bad_syntax e = cc
one_fault bad_escape bad_escape e = refl
one_fault bad_escape float_literal e = cc
one_fault float_literal bad_syntax e = cc
one_fault float_literal bad_escape e = cc
one_fault float_literal float_literal e = refl

pub wanted : (f : TokenFault) (kind : ErrorKind) → kind ∷ [] ≡ OutOfMemory ∷ [] → kind ≡ kind_of f → ⊥
wanted bad_syntax kind h e = cc
wanted bad_escape kind h e = cc
wanted float_literal kind h e = cc

-- where no token stands, and the kind tells a fault, it is that one
pub told_fault : (left : List Token) (kind : ErrorKind) (f : TokenFault) → IsRefused left (kind ∷ []) → kind ≡ kind_of f → left ≡ bad f ∷ []
told_fault left kind f (inl h) e = absurd (wanted f kind h e)
told_fault left kind f (inr (g, h, k)) e =
    let same : kind ≡ kind_of g = cc in h ∙ ap (λ g. bad g ∷ []) (one_fault g f (sym same ∙ e))
