use Rattle.std.proofs.Common.{◌≡◌, Bool, ap, rules, subst, sym, ◌∙◌}
use Rattle.template_compiler_syntax.specs.Syntax.{IsUsable}
use Rattle.template_compiler_syntax.proofs.Theorems.{one_tokens}
use Rattle.template_compiler_sources.specs.Scoped.{taken_words}
use Rattle.template_compiler_sources.proofs.prefixes.template_tokens.Goals as goal

pub returns-in-Ok : goal.returns-in-Ok
returns-in-Ok c = λ ts spelled.
    let usable : IsUsable c.args.syntax.now = search rules in
    let x = c.args.syntax.now in
    let all = c.new-tokenizer.result.left in
    let taken : c.in-Ok.tokens.left ≡ taken_words x.scoped_blocks all =
    subst (λ (b : Bool). c.in-Ok.tokens.left ≡ taken_words b all) c.scoped_blocks-scoped.ensures c.in-Ok.ensures.tokens in
    ap (taken_words x.scoped_blocks) (one_tokens x c.args.source.now ts all usable spelled (search rules)) ∙ sym taken
