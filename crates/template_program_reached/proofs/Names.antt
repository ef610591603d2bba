-- The names that a source loads templates by.
use Rattle.std.proofs.Common.{◌≡◌, ◌∙◌, ℕ, List, sym, ap, subst}
use Rattle.template_compiler_tokens.specs.Token.{Token}
use Rattle.template_compiler_syntax.specs.Syntax.{Syntax}
use Rattle.template_compiler_syntax.specs.Flat.{IsTokens}
use Rattle.template_program_reached.specs.Loaded.{elsewhere, names_from, IsLoading, loading_by}

-- the names in all tokens are those that the source loads by
pub loading_is : (x : Syntax) (source : List ℕ) (ts left : List Token) (names : List (List ℕ)) → IsTokens x source ts → left ≡ ts
    → names ≡ names_from elsewhere left → IsLoading x source names
loading_is x source ts left names tokens same is =
    subst (IsLoading x source) (sym (is ∙ ap (names_from elsewhere) same)) (loading_by tokens)
