-- A source has one fault or none, and it has one where it has no tree.
use Rattle.std.proofs.Common.{◌≡◌, ℕ, List, Result, Ok, Err, refl, sym, ap, ◌∙◌}
use Rattle.template_compiler_tree.specs.Tree.{Expression, Statement, template, Statements}
use Rattle.template_compiler_tokens.specs.Token.{Token, TokenFault}
use Rattle.template_compiler_syntax.specs.Syntax.{Syntax, IsUsable}
use Rattle.template_compiler_syntax.specs.Flat.{IsTokens}
use Rattle.template_compiler_syntax.proofs.Theorems.{one_tokens, some_tokens}
use Rattle.template_compiler_sources.specs.Scoped.{taken_words}
use Rattle.template_compiler_sources.specs.Spelled.{IsSpelled}
use Rattle.template_compiler_sources.proofs.Spelling.{one_spelled, some_spelled}
use Rattle.template_compiler_grammar.specs.TreeReader.{template_of}
use Rattle.template_compiler_sources.specs.Source.{IsSource, IsFaulty, IsExpressionSource, IsFaultyExpression}
use Rattle.template_compiler_sources.specs.Wholes.{expression_alone}
use Rattle.template_compiler_sources.proofs.Sources.{faulty_expression, faulty_source, found_expression, found_source}

same_fault : {A : Type 0} {f g : TokenFault} → ◌≡◌ {A = Result A TokenFault} (Err f) (Err g) → f ≡ g
same_fault e = cc

-- templates
pub one_fault : (x : Syntax) (source : List ℕ) (f g : TokenFault) → IsUsable x → IsFaulty x source f → IsFaulty x source g → f ≡ g
one_fault x source f g usable is other =
    same_fault (
    sym is.ends ∙
    ap (λ ts. template_of (taken_words x.scoped_blocks ts)) (one_tokens x source is.tokens other.tokens usable is.spelled other.spelled) ∙
    other.ends)

fault_in : (x : Syntax) (source : List ℕ) (tokens : List Token) → IsUsable x → IsTokens x source tokens →
    ((tree : Statement) → IsSource x source tree → ⊥) → (r : Result Statements TokenFault) →
    template_of (taken_words x.scoped_blocks tokens) ≡ r → (fault : TokenFault) × IsFaulty x source fault
fault_in x source tokens usable spelled treeless (Ok body) e = absurd (treeless (template body) (found_source x source tokens body spelled e))
fault_in x source tokens usable spelled treeless (Err f) e = (f, faulty_source x source tokens f usable spelled e)

pub some_fault : (x : Syntax) (source : List ℕ) → IsUsable x → ((tree : Statement) → IsSource x source tree → ⊥) →
    (fault : TokenFault) × IsFaulty x source fault
some_fault x source usable treeless =
    let all = some_tokens x source in
    fault_in x source all.0 usable all.1 treeless (template_of (taken_words x.scoped_blocks all.0)) refl

-- expressions
pub one_expression_fault : (source : List ℕ) (f g : TokenFault) → IsFaultyExpression source f → IsFaultyExpression source g → f ≡ g
one_expression_fault source f g is other =
    same_fault (sym is.ends ∙ ap (λ ts. expression_alone ts) (one_spelled source is.tokens other.tokens is.spelled other.spelled) ∙ other.ends)

expression_fault_in : (source : List ℕ) (tokens : List Token) → IsSpelled source tokens →
    ((tree : Expression) → IsExpressionSource source tree → ⊥) → (r : Result Expression TokenFault) → expression_alone tokens ≡ r →
    (fault : TokenFault) × IsFaultyExpression source fault
expression_fault_in source tokens spelled treeless (Ok tree) e = absurd (treeless tree (found_expression source tokens tree spelled e))
expression_fault_in source tokens spelled treeless (Err f) e = (f, faulty_expression source tokens f spelled e)

pub some_expression_fault : (source : List ℕ) → ((tree : Expression) → IsExpressionSource source tree → ⊥) →
    (fault : TokenFault) × IsFaultyExpression source fault
some_expression_fault source treeless =
    let all = some_spelled source in expression_fault_in source all.0 all.1 treeless (expression_alone all.0) refl
