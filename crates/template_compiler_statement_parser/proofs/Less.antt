-- What is one level deeper is read with one level less.
use Rattle.std.proofs.Common.{◌≡◌, ℕ, suc, List, ap}
use Rattle.template_compiler_tree.specs.declared.span.Span.{Span}
use Rattle.template_compiler_tokens.specs.Token.{Token}
use Rattle.template_compiler_grammar.specs.TemplateGrammar.{Around}
use Rattle.template_compiler_grammar.specs.TemplateReader.{here, deeper_body, statements_at}

pub body_less : (spans : List Span) (d n : ℕ) (p : Around) (ts : List Token) → d ≡ suc n → deeper_body spans d p ts ≡ statements_at spans n p ts
unfolding deeper_body statements_at here
body_less spans d n p ts e = ap (λ d. deeper_body spans d p ts) e
