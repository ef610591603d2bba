-- What the code of trees does.
use Rattle.std.specs.Prelude.{◌≡◌, ℕ, List, [], length, map, None, Some}
use Rattle.template_values_model.specs.Val.{Val}
use Rattle.template_compiler_tree.specs.Tree.{Expression, Statements}
use Rattle.template_compiler_process.specs.Process.{Below}
use Rattle.template_compiler_walk.specs.Counting.{MacroBody, LoopRounds, macro_numbered, rounds_numbered}
use Rattle.template_compiler_walk.specs.Statements.{number_of, template_walk, standalone_walk, macro_walk, rounds_walk}
use Rattle.template_compiler_code.specs.Code.{single}
use Rattle.template_compiler_code.specs.Counting.{macro_at, rounds_at}
use Rattle.template_compiler_code.specs.Steps.{exec}
use Rattle.template_compiler_codegen.specs.Statements.{template_code, standalone_code}

-- The code of a template performs the template's walk: whatever is told, the same events in the same order, with the
-- same priced steps between them, as far as the walk goes under its bound.
abbrev pub TemplatesPerform : Type 0
TemplatesPerform = (tree : Statements) (n : ℕ) → (j : ℕ) × Below (template_walk n tree) (exec (template_code tree) j 0 [])

-- The code of an expression alone performs its walk, and leaves its value.
abbrev pub ExpressionsPerform : Type 0
ExpressionsPerform = (e : Expression) → (j : ℕ) × Below (standalone_walk e) (exec (standalone_code e) j 0 [])

-- The macro of a number in a tree is found by it in the code: its place says how many parameters it has, and the code from
-- there on, over a value for each of them, performs its walk.
abbrev pub MacrosPerform : Type 0
MacrosPerform = (tree : Statements) (number : ℕ) (m : MacroBody) → macro_numbered number tree ≡ Some m →
    (offset : ℕ) × (macro_at (template_code tree) number ≡ Some (record { offset = offset; count = number_of m.arguments }))
    × ((n : ℕ) → (j : ℕ) × ((vs : List Val) → length vs ≡ number_of m.arguments → Below (macro_walk n m vs) (exec (template_code tree) j offset (map single vs))))

-- So are the rounds of a loop that may be called again.
abbrev pub RoundsPerform : Type 0
RoundsPerform = (tree : Statements) (number : ℕ) (r : LoopRounds) → rounds_numbered number tree ≡ Some r →
    (place : ℕ) × (rounds_at (template_code tree) number ≡ Some place)
    × ((n : ℕ) → (j : ℕ) × Below (rounds_walk n r) (exec (template_code tree) j place []))

-- A number that no macro or loop of the tree has is no number in the code either.
abbrev pub NumbersAgree : Type 0
NumbersAgree = (tree : Statements) (number : ℕ) → (macro_numbered number tree ≡ None → macro_at (template_code tree) number ≡ None)
    × (rounds_numbered number tree ≡ None → rounds_at (template_code tree) number ≡ None)
