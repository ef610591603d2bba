-- What generated code does wherever it stands.
use Rattle.std.specs.Prelude.{◌≡◌, ℕ, ◌+◌, List, ◌∷◌, ◌++◌, length}
use Rattle.template_compiler_tree.specs.Tree.{Expression, Statements}
use Rattle.template_compiler_process.specs.Process.{no_counts, Process, Below}
use Rattle.template_compiler_walk.specs.Expressions.{expression_walk}
use Rattle.template_compiler_walk.specs.Statements.{Exits, statements_walk}
use Rattle.template_compiler_code.specs.Code.{Operand, single, Code}
use Rattle.template_compiler_code.specs.Counting.{counts_in, counts_before}
use Rattle.template_compiler_code.specs.Steps.{exec}
use Rattle.template_compiler_codegen.specs.Expressions.{expression_code}
use Rattle.template_compiler_codegen.specs.Statements.{Ways, left_by, statements_code}

-- The piece stands in the code at the place: so many instructions go before it.
pub record HasPiece (code : List Code) (place : ℕ) (piece : List Code) : Type 0 where
  pub front : List Code
  pub back : List Code
  pub is : code ≡ front ++ (piece ++ back)
  pub at : length front ≡ place

-- Wherever the code of an expression stands, over whatever operands: for each bound behind it there is one before it, under
-- which the code does there what the walk does, whatever is told, and goes on behind the piece with the value on top.
abbrev pub ExpressionsPerformAnywhere : Type 0
ExpressionsPerformAnywhere = (e : Expression) (code : List Code) (place : ℕ) → HasPiece code place (expression_code e place)
    → (behind : ℕ) → (before : ℕ) × ((operands : List Operand)
    → Below (expression_walk e (λ v. exec code behind (place + length (expression_code e place)) (single v ∷ operands)))
    (exec code before place operands))

-- A way out of a loop: wherever the closings and the jump stand, the code does there what the exit does, as far as that goes.
abbrev pub LeadsTo : List Code → ℕ → List Operand → List Code → ℕ → Process → Type 0
LeadsTo code bound operands closings to exit =
    (place : ℕ) → HasPiece code place (left_by closings to place) → Below exit (exec code bound place operands)

-- `break` and `continue` lead to the exits.
pub record WaysLead (code : List Code) (bound : ℕ) (operands : List Operand) (ways : Ways) (exits : Exits) : Type 0 where
  pub on_break : LeadsTo code bound operands ways.closings ways.break_to exits.on_break
  pub on_continue : LeadsTo code bound operands ways.closings ways.continue_to exits.on_continue

-- The same of statements: the code does there what their walk does behind so many macros and loops as are made or may be called
-- again in the code before, as far as that goes under its bound, with the exits that its ways out lead to, where none is made on
-- them, and goes on behind the piece over the same operands.
abbrev pub StatementsPerformAnywhere : Type 0
StatementsPerformAnywhere = (tree : Statements) (n : ℕ) (ways : Ways) → counts_in ways.closings ≡ no_counts → (code : List Code) (place : ℕ)
    → HasPiece code place (statements_code ways tree place)
    → (behind : ℕ) → (before : ℕ) × ((operands : List Operand) (exits : Exits) → WaysLead code behind operands ways exits
    → Below (statements_walk n (counts_before code place) tree exits (exec code behind (place + length (statements_code ways tree place)) operands))
    (exec code before place operands))
