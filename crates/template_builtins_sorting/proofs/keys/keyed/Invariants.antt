use Rattle.std.proofs.Common.{drop}
use Rattle.std.specs.Prelude.{option_copied}
use Rattle.template_callables.specs.Views.{seen_in}
use Rattle.template_builtins_sorting.specs.Keys.{key_of, with_key}
use Rattle.template_builtins_sorting.proofs.Steps.{Goes}
use Rattle.template_builtins_sorting.proofs.keys.keyed.Given as goal

abbrev pub invariant-loop-value : goal.invariant-loop-value
invariant-loop-value l =
    Goes (with_key (key_of (seen_in l.view) l.paths (option_copied l.fn.default) l.is_cased)) l.keyed.items
    (drop l.value-index l.items) l.items
