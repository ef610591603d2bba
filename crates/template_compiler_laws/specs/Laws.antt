-- What is read has a walk.
use Rattle.std.specs.Prelude.{ℕ, List}
use Rattle.template_compiler_tree.specs.Tree.{Expression, Statements}
use Rattle.template_compiler_tokens.specs.Token.{Token}
use Rattle.template_compiler_grammar.specs.Grammar.{IsExpression}
use Rattle.template_compiler_grammar.specs.TemplateGrammar.{IsTemplate}
use Rattle.template_compiler_walk.specs.Runnable.{IsRunnable, IsRunnableTemplate}

abbrev pub ExpressionsRun : Type 0
ExpressionsRun = (levels : ℕ) (tokens rest : List Token) (e : Expression) → IsExpression levels tokens e rest → IsRunnable e

abbrev pub TemplatesRun : Type 0
TemplatesRun = (tokens : List Token) (tree : Statements) → IsTemplate tokens tree → IsRunnableTemplate tree
