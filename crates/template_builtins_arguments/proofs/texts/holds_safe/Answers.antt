use Rattle.std.proofs.Common.{rules, tests}
use Rattle.std.proofs.lemmas.Iterator.{YieldsList-from_slice}
use Rattle.std.proofs.lemmas.Iterator.Search.{any_from_yields_List}
use Rattle.template_builtins_arguments.specs.Texts.{is_safe}
use Rattle.template_builtins_arguments.proofs.texts.holds_safe.Goals as goal

pub returns : goal.returns
returns c =
    any_from_yields_List is_safe _ _ _ c.any.ensures.ran (YieldsList-from_slice c.args.values.now cc) (λ x b q k. search (rules, tests))
