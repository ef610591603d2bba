-- What is generated is a good stream, once its names have their numbers.
use Rattle.std.specs.Prelude.{◌≡◌, []}
use Rattle.template_compiler_tree.specs.Tree.{Expression, Statements}
use Rattle.template_compiler_walk.specs.Runnable.{IsRunnable, IsRunnableTemplate}
use Rattle.template_compiler_code_shapes.specs.declared.StreamKind.TheVariants.{Template, Expression as ExpressionStream}
use Rattle.template_compiler_code_shapes.specs.Streams.{IsGood}
use Rattle.template_compiler_codegen.specs.Expressions.{expression_code}
use Rattle.template_compiler_codegen.specs.Statements.{no_ways, statements_code}
use Rattle.template_compiler_generator.specs.Numbers.{numbered_in}
use Rattle.template_compiler_generator.specs.Drafts.{Draft, Generates}

-- Whatever is generated for a runnable template, onto no code, is a good stream of a template with its numbers.
abbrev pub TemplatesAreAccepted : Type 0
TemplatesAreAccepted = (tree : Statements) → IsRunnableTemplate tree → (before after : Draft) → before.code ≡ []
    → Generates (statements_code no_ways tree) before after → IsGood Template (numbered_in after.code)

-- The same of a runnable expression alone.
abbrev pub ExpressionsAreAccepted : Type 0
ExpressionsAreAccepted = (e : Expression) → IsRunnable e → (before after : Draft) → before.code ≡ []
    → Generates (expression_code e) before after → IsGood ExpressionStream (numbered_in after.code)
