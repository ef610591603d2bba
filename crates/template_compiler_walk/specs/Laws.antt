-- The laws of walks.
use Rattle.std.specs.Prelude.{ℕ, ◌≤◌, List}
use Rattle.template_values_model.specs.Val.{Val}
use Rattle.template_compiler_tree.specs.Tree.{Statements}
use Rattle.template_compiler_process.specs.Process.{Below}
use Rattle.template_compiler_walk.specs.Counting.{MacroBody, LoopRounds}
use Rattle.template_compiler_walk.specs.Statements.{template_walk, macro_walk, rounds_walk}

-- Under a greater bound a template does what it does under a smaller one, as far as that goes.
abbrev pub WalksRise : Type 0
WalksRise = (tree : Statements) (n m : ℕ) → n ≤ m → Below (template_walk n tree) (template_walk m tree)

-- So does the body of a macro, over its arguments.
abbrev pub MacrosRise : Type 0
MacrosRise = (b : MacroBody) (vs : List Val) (n m : ℕ) → n ≤ m → Below (macro_walk n b vs) (macro_walk m b vs)

-- And so do the rounds of a loop that is called again.
abbrev pub RoundsRise : Type 0
RoundsRise = (r : LoopRounds) (n m : ℕ) → n ≤ m → Below (rounds_walk n r) (rounds_walk m r)
