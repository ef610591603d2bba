-- What code means under the surroundings of a machine.
use Rattle.std.specs.Prelude.{ℕ, ◌==◌, [], List, length, map, Option, None, Some, option_map, if◌then◌else◌}
use Rattle.std.specs.Option.{option_and_then}
use Rattle.template_values_model.specs.Val.{Val}
use Rattle.template_compiler_tree.specs.Tree.{Statements}
use Rattle.template_compiler_process.specs.Process.{Process}
use Rattle.template_compiler_process.specs.Trace.{Run, run}
use Rattle.template_compiler_code.specs.Code.{Code, single}
use Rattle.template_compiler_code.specs.Counting.{MacroPlace, macro_at, rounds_at}
use Rattle.template_compiler_code.specs.Steps.{exec}
use Rattle.template_compiler_codegen.specs.Statements.{template_code}
use Rattle.template_machine_meaning.specs.World.{World}
use Rattle.template_machine_meaning.specs.Keys.{Part, whole, body_of, rounds_of}
use Rattle.template_machine_meaning.specs.Plans.{ran}
use Rattle.template_machine_meaning.specs.Surroundings.{Programs, runners, answer}
use Rattle.template_machine_meaning.specs.Meaning.{Standing, Setting, tree_of, around_of, top}

-- the code of a tree, under a bound
abbrev pub coded : ℕ → Statements → Process
coded n t = exec (template_code t) n 0 []

-- the body of a macro in it, over one argument for each parameter, the last one on top
abbrev pub body_coded : ℕ → List Val → Statements → MacroPlace → Option Process
body_coded n vs t m = if m.count == length vs then Some (exec (template_code t) n m.offset (map single vs)) else None

-- the code of a part of a tree
abbrev pub part_coded : ℕ → Part → Statements → Option Process
part_coded n whole t = Some (coded n t)
part_coded n (body_of number vs) t = option_and_then (body_coded n vs t) (macro_at (template_code t) number)
part_coded n (rounds_of number) t = option_map (λ place. exec (template_code t) n place []) (rounds_at (template_code t) number)

-- the code of each key, where a template is rendered or none is
abbrev pub codes_of : Setting → Option Standing → Programs
codes_of setting root = record {
  process = λ n key. option_and_then (part_coded n key.part) (tree_of setting root key.stream);
  around = around_of setting root;
}

-- the code of a template from a world on, and of those that it extends, under a bound on its instructions and on the runs within it
abbrev pub code_meaning : Setting → Standing → ℕ → World → Run World
code_meaning setting root n w = ran (runners (codes_of setting (Some root)) n top) w

-- so it is of code that stands alone
abbrev pub code_evaluation : Setting → ℕ → List Code → World → Run World
code_evaluation setting n code w = run (answer (codes_of setting None) n) (exec code n 0 []) w
