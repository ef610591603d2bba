-- What a declaration makes is found under its number.
use Rattle.std.specs.Prelude.{◌≡◌, ℕ, List, true, Some, IsSomeAnd}
use Rattle.template_compiler_tree.specs.Tree.{Expression, Expressions, Optional, Arguments, Statements, for_loop, macro, call_block}
use Rattle.template_compiler_process.specs.Process.{Counts, no_counts, counted_together}
use Rattle.template_compiler_walk.specs.Expressions.{callee_of}
use Rattle.template_compiler_walk.specs.Counting.{loop_counts, macro_numbered, rounds_numbered}
use Rattle.template_compiler_walk.specs.Statements.{caller_name, looping_behind, making_of}
use Rattle.template_compiler_walk.specs.Standing.{IsMade, Stands}

-- A macro that a walk makes, wherever in a tree it is declared, has the number under which its own body is found, with its arguments,
-- its defaults, and what stands before it.
abbrev pub MacrosFindTheirBodies : Type 0
MacrosFindTheirBodies = (tree : Statements) (first : Counts) (name : List ℕ) (arguments defaults : Expressions) (body : Statements)
    → Stands (macro name arguments defaults body) first tree no_counts
    → macro_numbered (making_of first name arguments defaults body).number tree
    ≡ Some (record { arguments = arguments; defaults = defaults; body = body; first = first })

-- So has the body of a call block, where that is made a macro.
abbrev pub CallersFindTheirBodies : Type 0
CallersFindTheirBodies = (tree : Statements) (first : Counts) (callee : Expression) (passed : Arguments) (arguments defaults : Expressions) (body : Statements)
    → IsMade (callee_of callee passed) → Stands (call_block callee passed arguments defaults body) first tree no_counts
    → macro_numbered (making_of first caller_name arguments defaults body).number tree
    ≡ Some (record { arguments = arguments; defaults = defaults; body = body; first = first })

-- A loop that a walk opens and that may be called again has the number under which its own rounds are found: its target, its body and
-- its else part, and what stands before its body.
abbrev pub LoopsFindTheirRounds : Type 0
LoopsFindTheirRounds = (tree : Statements) (first : Counts) (target e : Expression) (condition : Optional) (body otherwise : Statements)
    → Stands (for_loop target e condition true body otherwise) first tree no_counts
    → IsSomeAnd (looping_behind true first).rounds (λ number. rounds_numbered number tree
    ≡ Some (record { target = target; body = body; otherwise = otherwise; first = counted_together first (loop_counts true) }))
