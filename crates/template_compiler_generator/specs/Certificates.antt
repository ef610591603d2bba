-- Generated code has certificates.
use Rattle.std.specs.Prelude.{ℕ, ◌+◌, ◌*◌, ◌≤◌, [], length, Option}
use Rattle.template_compiler_tree.specs.Tree.{Expression, Statements}
use Rattle.template_compiler_walk.specs.Runnable.{IsRunnable, IsRunnableTemplate}
use Rattle.template_compiler_code.specs.Steps.{exec}
use Rattle.template_compiler_code_shapes.specs.declared.StreamKind.TheVariants.{Template, Expression as ExpressionStream}
use Rattle.template_compiler_code_shapes.specs.Laws.{LastsFor}
use Rattle.template_compiler_code_shapes.specs.Shapes.{Shape}
use Rattle.template_compiler_code_shapes.specs.Streams.{IsCertificate}
use Rattle.template_compiler_codegen.specs.Statements.{template_code, standalone_code}

-- The code of a runnable template has a table of shapes that shows it to be good.
abbrev pub TemplatesAreCertified : Type 0
TemplatesAreCertified = (tree : Statements) → IsRunnableTemplate tree
    → (table : ℕ → Option Shape) × IsCertificate Template (template_code tree) table

-- So has the code of a runnable expression alone.
abbrev pub ExpressionsAreCertified : Type 0
ExpressionsAreCertified = (e : Expression) → IsRunnable e
    → (table : ℕ → Option Shape) × IsCertificate ExpressionStream (standalone_code e) table

-- The code of a runnable template goes on from answer to answer: for so many of them it runs for one more than them times
-- one more than its instructions at most.
abbrev pub TemplatesGoOn : Type 0
TemplatesGoOn = (tree : Statements) → IsRunnableTemplate tree → (answers bound : ℕ) → (answers + 1) * (length (template_code tree) + 1) ≤ bound
    → LastsFor answers (exec (template_code tree) bound 0 [])

-- So does the code of a runnable expression alone.
abbrev pub ExpressionsGoOn : Type 0
ExpressionsGoOn = (e : Expression) → IsRunnable e → (answers bound : ℕ) → (answers + 1) * (length (standalone_code e) + 1) ≤ bound
    → LastsFor answers (exec (standalone_code e) bound 0 [])
