-- The laws from runs of code to renders and to values.
use Rattle.std.specs.Prelude.{ℕ, List, Option, None, Some, Result, Err}
use Rattle.template_values_model.specs.Val.{Val}
use Rattle.template_compiler_tree.specs.Tree.{Expression}
use Rattle.template_compiler_process.specs.Approximants.{IsFinished}
use Rattle.template_compiler_process.specs.Fuel.{under}
use Rattle.template_compiler_process.specs.Process.{done}
use Rattle.template_compiler_process.specs.Trace.{Run}
use Rattle.template_compiler_walk.specs.Runnable.{IsRunnable}
use Rattle.template_compiler_codegen.specs.Statements.{standalone_code}
use Rattle.template_machine_meaning.specs.World.{World}
use Rattle.template_machine_meaning.specs.Plans.{ran}
use Rattle.template_machine_meaning.specs.Blocks.{block_plan}
use Rattle.template_machine_meaning.specs.Surroundings.{Programs, runners}
use Rattle.template_machine_meaning.specs.Laws.{IsAlone}
use Rattle.template_machine_meaning.specs.Meaning.{Standing, Setting, walks_of, named_so, evaluation, meaning, top}
use Rattle.template_machine_codes.specs.Codes.{codes_of}
use Rattle.template_machine_going.specs.declared.stop.Stop.{Stop}
use Rattle.template_machine_loop.specs.Plans.{DoesPlan, replies_of, run_of}
use Rattle.template_machine_loop.specs.Runs.{Breaks, EndsSo, Evaluates}
use Rattle.template_machine_renders.specs.Renders.{GivesValue, IsDone, Renders, RendersTo}

-- the code of a template that is rendered, with that of those that it extends, from a world on, under each bound
abbrev pub code_runs : Setting → Standing → World → ℕ → Run World
code_runs setting root w n = ran (runners (codes_of setting (Some root)) n top) w

-- A run of a template's code that came to its end is what its tree means.
abbrev pub EndsRender : Type 0
EndsRender = (setting : Setting) (root : Standing) (w after : World) (fuel left : Option ℕ) (before taken : Option (List ℕ))
    → EndsSo (code_runs setting root w) after fuel left before taken
    → (n : ℕ) → IsFinished (meaning setting root n w).end → IsDone fuel (meaning setting root n w) after left before taken

-- A run that stopped is it up to there.
abbrev pub StopsRender : Type 0 → Type 0
StopsRender X = (setting : Setting) (root : Standing) (w after : World) (fuel left : Option ℕ) (before taken : Option (List ℕ))
    (stop : Stop) → Breaks (code_runs setting root w) stop after fuel left before taken
    → (n : ℕ) → IsFinished (meaning setting root n w).end
    → Renders {X = X} (Err stop) before taken (under fuel (meaning setting root n w))

-- What a run of an expression's code tells is what its tree means, cut by the fuel, and so is the world that it leaves with a value.
-- There is nothing that runs which it could call.
abbrev pub ExpressionsEvaluate : Type 0
ExpressionsEvaluate = (setting : Setting) (e : Expression) → IsRunnable e → (w after : World) → IsAlone w → (fuel left : Option ℕ)
    (before taken : Option (List ℕ)) (result : Result Val Stop)
    → Evaluates (codes_of setting None) (standalone_code e) w fuel before result after left taken
    → GivesValue result after (under fuel (evaluation setting e w))

-- what a block comes to that is called from outside, from a world on, under a bound
abbrev pub block_run : Programs → World → List ℕ → ℕ → Run World
block_run s w block n = run_of (replies_of s (block_plan s.around w block) w n)

-- A run of a block's code is what the block means.
abbrev pub BlocksRender : Type 0 → Type 0
BlocksRender X = (setting : Setting) (root : Option Standing) (name block : List ℕ) (w after : World) (fuel left : Option ℕ)
    (before taken : Option (List ℕ)) (result : Result X Stop)
    → DoesPlan (λ x. done) (named_so name (codes_of setting root)) (block_plan (named_so name (codes_of setting root)).around w block)
    w fuel before result after left taken
    → (n : ℕ) → IsFinished (block_run (named_so name (walks_of setting root)) w block n).end
    → RendersTo fuel (block_run (named_so name (walks_of setting root)) w block n) result after left before taken
