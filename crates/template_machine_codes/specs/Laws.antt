-- Code means what its tree does.
use Rattle.std.specs.Prelude.{◌≡◌, ℕ, ◌≤◌, Option}
use Rattle.template_compiler_tree.specs.Tree.{Expression}
use Rattle.template_compiler_process.specs.Approximants.{IsFinished}
use Rattle.template_compiler_codegen.specs.Statements.{standalone_code}
use Rattle.template_machine_meaning.specs.World.{World}
use Rattle.template_machine_meaning.specs.Keys.{Key}
use Rattle.template_machine_meaning.specs.Plans.{ran}
use Rattle.template_machine_meaning.specs.Surroundings.{runners}
use Rattle.template_machine_meaning.specs.Meaning.{Standing, Setting, walks_of, evaluation, meaning}
use Rattle.template_machine_codes.specs.Codes.{codes_of, code_meaning, code_evaluation}

-- A tree's meaning that is finished is its code's meaning under every bound that is great enough.
abbrev pub CodeMeansTree : Type 0
CodeMeansTree = (setting : Setting) (root : Standing) (w : World) (n : ℕ) → IsFinished (meaning setting root n w).end
    → (least : ℕ) × ((m : ℕ) → least ≤ m → code_meaning setting root m w ≡ meaning setting root n w)

-- So it is of each key.
abbrev pub CodesMeanKeys : Type 0
CodesMeanKeys = (setting : Setting) (root : Option Standing) (key : Key) (w : World) (n : ℕ)
    → IsFinished (ran (runners (walks_of setting root) n key) w).end
    → (least : ℕ) × ((m : ℕ) → least ≤ m
    → ran (runners (codes_of setting root) m key) w ≡ ran (runners (walks_of setting root) n key) w)

-- So it is of an expression.
abbrev pub CodeMeansExpression : Type 0
CodeMeansExpression = (setting : Setting) (e : Expression) (w : World) → IsFinished (evaluation setting e w).end
    → (least : ℕ) × ((m : ℕ) → least ≤ m → code_evaluation setting m (standalone_code e) w ≡ evaluation setting e w)
