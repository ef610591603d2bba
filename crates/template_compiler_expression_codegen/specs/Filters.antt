-- The filters of a block, one by one.
use Rattle.std.specs.Prelude.{List, [], ◌∷◌}
use Rattle.template_compiler_tree.specs.Tree.{Expression, filtered}
use Rattle.template_compiler_walk.specs.Runnable.{AreRunnableArguments}
use Rattle.template_compiler_codegen.specs.Expressions.{Coded, nothing, then_code, filter_code}

-- the last of some filters, over the value on top
abbrev pub last_code : Expression → Coded
last_code (filtered name value args) = filter_code name args
last_code _ = nothing

-- where it is a filter, its arguments are runnable
abbrev pub IsLastRunnable : Expression → Type 0
IsLastRunnable (filtered name value args) = AreRunnableArguments args
IsLastRunnable _ = Unit {0}

-- one behind the other
abbrev pub each_code : List Expression → Coded
each_code [] = nothing
each_code (e ∷ es) = then_code (last_code e) (each_code es)
