-- Sources of expressions, and what they stand for.
use Rattle.std.specs.Prelude.{ℕ, ◌<◌, ◌^◌, ◌⊎◌, List, [], length, Ok}
use Rattle.template_values_errors.specs.declared.ErrorKind.{ErrorKind}
use Rattle.template_values_model.specs.Val.{none}
use Rattle.template_compiler_tree.specs.Tree.{Expression, constant}
use Rattle.template_compiler_walk.specs.Runnable.{IsRunnable}
use Rattle.template_compiler_code.specs.Code.{Code}
use Rattle.template_compiler_codegen.specs.Statements.{standalone_code}
use Rattle.template_compiler_generator.specs.Numbers.{numbered_in}
use Rattle.template_compiler_tokens.specs.Steps.{Read}
use Rattle.template_compiler_grammar.specs.TreeReader.{expression_at}
use Rattle.template_compiler_sources.proofs.Spelling.{some_spelled}
use Rattle.template_compiler_sources.specs.Source.{IsExpressionSource, RefusesExpression}
use Rattle.template_compiled.specs.Sources.{HasNoRoom}

-- the source is this expression
abbrev pub HasExpression : List ℕ → Expression → Type 0
HasExpression source e = IsExpressionSource source e

abbrev pub IsAcceptedExpression : List ℕ → Type 0
IsAcceptedExpression source = (e : Expression) × HasExpression source e

-- what was read, with nothing behind it; and a constant where that is none
abbrev pub read_alone : Read Expression → Expression
read_alone (Ok (e, [])) = e
read_alone _ = constant none

-- the expression of a source, whose tokens are read from the first to the last
unfoldable pub expression_in : List ℕ → Expression
expression_in source = read_alone (expression_at 150 (some_spelled source).0)

-- the code of that expression, whose filters and tests have their numbers
abbrev pub code_alone : List ℕ → List Code
code_alone source = numbered_in (standalone_code (expression_in source))

-- why a source is refused: it is no expression or is too large, or there is no room for its code
abbrev pub IsExpressionRefusedWith : List ℕ → List ErrorKind → Type 0
IsExpressionRefusedWith source kinds = RefusesExpression source kinds ⊎ HasNoRoom source kinds

-- Every expression that a source is read to has a walk.
abbrev pub AloneRuns : Type 0
AloneRuns = (source : List ℕ) → IsRunnable (expression_in source)

-- the source is an expression
pub record IsFaithfulExpression (source : List ℕ) : Type 0 where
  pub fits : length source < 2 ^ 32
  pub has_expression : HasExpression source (expression_in source)
