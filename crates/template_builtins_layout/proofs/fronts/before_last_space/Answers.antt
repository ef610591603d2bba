use Rattle.std.proofs.Common.{sym, ◌∙◌, lit<, Some, None}
use Rattle.std.proofs.lemmas.Str.Pattern.{rfind_char}
use Rattle.template_builtins_layout.proofs.Spaces.{last_space, no_last_space, range_is}
use Rattle.template_builtins_layout.proofs.fronts.before_last_space.Goals as goal

pub returns-in-None : goal.returns-in-None
returns-in-None c = sym (no_last_space c.args.text.now (rfind_char 32 c.args.text.now None c.in-None.ensures.cases (lit< tt)))

pub returns-in-Some : goal.returns-in-Some
returns-in-Some c =
    let found = rfind_char 32 c.args.text.now (Some c.in-Some.place) c.in-Some.ensures.cases (lit< tt) in
    c.range.ensures.value ∙ range_is c.args.text.now c.in-Some.place ∙ sym (last_space c.args.text.now c.in-Some.place found.0 found.1 found.2)
