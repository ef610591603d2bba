-- A statement that stands alone.
use Rattle.template_compiler_tree.specs.Tree.{Statement, Statements, template, no_statements, statements_more}
use Rattle.template_compiler_walk.specs.Runnable.{IsRunnableTemplate}

-- the statements of a whole template, or a statement alone
abbrev pub statements_of : Statement → Statements
statements_of (template body) = body
statements_of s = statements_more s no_statements

-- they have a walk, where no loop is around them
abbrev pub CanStand : Statement → Type 0
CanStand s = IsRunnableTemplate (statements_of s)
