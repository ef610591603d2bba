use Rattle.std.proofs.Common.{◌∙◌}
use Rattle.std.specs.Str.Iter.{chars_rest}
use Rattle.template_builtins_web.proofs.Spacing.{stepped}
use Rattle.template_builtins_web.proofs.attributes.without_first.Goals as goal

pub returns : goal.returns
returns c =
    c.as_str.ensures
    ∙ stepped chars_rest c.args.text.now c.chars-characters.result c.next.new.self c.next.result c.utf8.text c.chars-characters.ensures.rest c.next.ensures.steps.0
