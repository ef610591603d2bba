use Rattle.std.proofs.Common.{drop}
use Rattle.std.specs.Prelude.{option_copied}
use Rattle.template_callables.specs.Views.{seen_in}
use Rattle.template_builtins_sorting.specs.Keys.{folded_part}
use Rattle.template_builtins_sorting.proofs.Steps.{Goes}
use Rattle.template_builtins_sorting.proofs.keys.folded_parts.Given as goal

abbrev pub invariant-loop-path : goal.invariant-loop-path
invariant-loop-path l =
    Goes (folded_part (seen_in l.view) (option_copied l.fn.default) l.is_cased l.value) l.parts.items (drop l.path-index l.paths) l.paths
