-- Where no template is rendered, its key finds nothing.
use Rattle.std.proofs.Common.{◌≡◌, ℕ, zero, suc, List, [], Option, None, ap}
use Rattle.std.specs.Option.{option_map}
use Rattle.template_callables.specs.Callables.{Callables}
use Rattle.template_callables.specs.Joins.{Joins}
use Rattle.template_compiler_process.specs.Drive.{breaks}
use Rattle.template_compiler_process.specs.Process.{Process}
use Rattle.template_compiler_process.specs.Trace.{Run, ended, run}
use Rattle.template_compiler_code.specs.Code.{Code}
use Rattle.template_machine_meaning.specs.World.{World}
use Rattle.template_machine_meaning.specs.Keys.{Key}
use Rattle.template_machine_meaning.specs.Plans.{ran, followed}
use Rattle.template_machine_meaning.specs.Surroundings.{Programs, respond, runners}
use Rattle.template_machine_meaning.specs.Meaning.{top}
use Rattle.template_machine_going.specs.Strays.{Strays}
use Rattle.template_machine_calls.specs.declared.rules.Rules.{Rules}
use Rattle.template_machine_loop.specs.Programs.{programs_under, Roots, Standing, standing_of}
use Rattle.template_machine_loop.specs.declared.templates.Compiled.{Compiled}

none_runs : (s : Programs) (key : Key) → ((n : ℕ) → s.process n key ≡ None) → (n : ℕ) → runners s n key ≡ None
none_runs s key none zero = let f : Process → World → Run World = λ p w. ended breaks w in ap (option_map f) (none 0)
none_runs s key none (suc n) =
    let f : Process → World → Run World = λ p w. followed (runners s n) key.part (run (respond s.around (runners s n)) p w) in
    ap (option_map f) (none n)

stray_there : (s : Programs) (key : Key) (w : World) → ((n : ℕ) → s.process n key ≡ None) → Strays (λ n. ran (runners s n key) w)
stray_there s key w none = record {
  items = [];
  least = 0;
  end = breaks;
  world = w;
  is = λ n le. ap (λ (o : Option (World → Run World)). ran o w) (none_runs s key none n);
  lost = tt;
}

-- the template that is rendered, and a stream that was handed in
abbrev roots_in : Option Compiled → Option (ℕ × List Code) → Roots
roots_in root kept = record { rendered = option_map standing_of root; kept = kept }

pub stray_rootless : (standing : List ℕ → Option Standing) (joins : Joins) (callables : Callables) (root : Option Compiled) (kept : Option (ℕ × List Code)) (rules : Rules)
    (w : World) → root ≡ None → Strays (λ n. ran (runners (programs_under standing joins callables (roots_in root kept) rules) n top) w)
stray_rootless standing joins callables root kept rules w none =
    stray_there (programs_under standing joins callables (roots_in root kept) rules) top w
    (λ n. ap (λ (r : Option Compiled). (programs_under standing joins callables (roots_in r kept) rules).process n top) none)
