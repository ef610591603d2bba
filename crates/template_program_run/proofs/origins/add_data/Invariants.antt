-- The origins so far are those from before, and then those of the paths so far.
use Rattle.std.proofs.Common.{◌≡◌, ◌++◌, map, take}
use Rattle.template_program_run.specs.Held.{origin_in}
use Rattle.template_program_run.specs.Origins.{data_origin}
use Rattle.template_program_run.proofs.origins.add_data.Given as goal

abbrev pub invariant-loop-path : goal.invariant-loop-path
invariant-loop-path l =
    map origin_in l.origins.items
    ≡ map origin_in l.fn.origins.items ++ map data_origin (map (λ path. path.now) (take l.path-index l.paths))
