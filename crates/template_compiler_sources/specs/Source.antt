-- Which tree a source has, and why it has none.
use Rattle.std.specs.Prelude.{◌≡◌, ◌≤◌, ◌^◌, ◌⊎◌, ℕ, List, [], ◌∷◌, length, Err}
use Rattle.template_values_errors.specs.declared.ErrorKind.{ErrorKind}
use Rattle.template_values_errors.specs.declared.ErrorKind.TheVariants as kinds
use Rattle.template_compiler_tree.specs.Tree.{Expression, Statement, template, Statements}
use Rattle.template_compiler_tokens.specs.Token.{Token, TokenFault}
use Rattle.template_compiler_tokens.specs.Left.{kind_of}
use Rattle.template_compiler_syntax.specs.Syntax.{Syntax}
use Rattle.template_compiler_syntax.specs.Flat.{IsTokens}
use Rattle.template_compiler_tokenizer.specs.Spans.{Spanned, HasSpans, words_in}
use Rattle.template_compiler_sources.specs.Scoped.{taken_spans, taken_words}
use Rattle.template_compiler_sources.specs.Spans.{token_spans}
use Rattle.template_compiler_sources.specs.Spelled.{IsSpelled, spelled_spans}
use Rattle.template_compiler_grammar.specs.Grammar.{IsExpression}
use Rattle.template_compiler_grammar.specs.TemplateGrammar.{IsTemplate}
use Rattle.template_compiler_grammar.specs.TreeReader.{template_of}
use Rattle.template_compiler_grammar.specs.DerivedExpressions.{expression_places}
use Rattle.template_compiler_grammar.specs.DerivedStatements.{template_places}
use Rattle.template_compiler_grammar.specs.Nodes.{placed, Node}
use Rattle.template_compiler_grammar.specs.TemplateNodes.{PlacedStatement}
use Rattle.template_compiler_sources.specs.Wholes.{expression_alone}

-- the source's tokens are the template's statements, where the syntax has it without the word `scoped` behind a block's name
pub data IsSource (x : Syntax) (source : List ℕ) : Statement → Type 0 where
  source_of : {tokens : List Token} {body : Statements} → IsTokens x source tokens →
      IsTemplate (taken_words x.scoped_blocks tokens) body →
      IsSource x source (template body)

-- and each node stands where its tokens do
pub data IsPlacedSource (x : Syntax) (source : List ℕ) : PlacedStatement → Type 0 where
  placed_source : {tokens : List Spanned} {body : Statements} → HasSpans x source tokens →
      (whole : IsTemplate (words_in (taken_spans x.scoped_blocks tokens)) body) →
      IsPlacedSource x source (placed (template body) (template_places (token_spans (taken_spans x.scoped_blocks tokens)) whole))

-- the source has no tree: the reading of its tokens from the first on ends with the fault
pub record IsFaulty (x : Syntax) (source : List ℕ) (fault : TokenFault) : Type 0 where
  pub tokens : List Token
  pub spelled : IsTokens x source tokens
  pub ends : template_of (taken_words x.scoped_blocks tokens) ≡ Err fault
  pub treeless : (tree : Statement) → IsSource x source tree → ⊥

-- the source's tokens are the expression
pub data IsExpressionSource (source : List ℕ) : Expression → Type 0 where
  expression_source : {tokens : List Token} {tree : Expression} → IsSpelled source tokens → IsExpression 150 tokens tree [] →
      IsExpressionSource source tree

-- and each node stands where its tokens do
pub data IsPlacedExpressionSource (source : List ℕ) : Node → Type 0 where
  placed_expression_source : {tokens : List Token} {tree : Expression} → (spelled : IsSpelled source tokens) →
      (whole : IsExpression 150 tokens tree []) →
      IsPlacedExpressionSource source (placed tree (expression_places (spelled_spans [] spelled) whole))

-- the source is no expression: the reading of its tokens from the first on ends with the fault
pub record IsFaultyExpression (source : List ℕ) (fault : TokenFault) : Type 0 where
  pub tokens : List Token
  pub spelled : IsSpelled source tokens
  pub ends : expression_alone tokens ≡ Err fault
  pub treeless : (tree : Expression) → IsExpressionSource source tree → ⊥

-- the error alone, without a cause
abbrev pub IsAlone : ErrorKind → List ErrorKind → Type 0
IsAlone kind e = e ≡ kind ∷ []

-- why a source is refused: for want of memory, for its size, or for the fault
abbrev pub Refuses : List ℕ → (TokenFault → Type 0) → List ErrorKind → Type 0
Refuses source faulty e =
    IsAlone kinds.OutOfMemory e ⊎ ((IsAlone kinds.TooLarge e × (2 ^ 32 ≤ length source)) ⊎
    ((fault : TokenFault) × IsAlone (kind_of fault) e × faulty fault))

abbrev pub RefusesSource : Syntax → List ℕ → List ErrorKind → Type 0
RefusesSource x source = Refuses source (IsFaulty x source)

abbrev pub RefusesExpression : List ℕ → List ErrorKind → Type 0
RefusesExpression source = Refuses source (IsFaultyExpression source)
