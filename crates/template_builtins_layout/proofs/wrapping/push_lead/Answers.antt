use Rattle.std.proofs.Common.{List, ℕ, ◌++◌, ap, sym, ◌∙◌, string_bytes}
use Rattle.template_values_print.specs.Pieces.{encoded}
use Rattle.template_builtins_layout.proofs.Broken.{lead_stays}
use Rattle.template_builtins_layout.proofs.wrapping.push_lead.Goals as goal

pub returns-then-stays-clause-made : goal.returns-then-stays-clause-made
returns-then-stays-clause-made c =
    c.in_ok-push_text.ensures.made
    ∙ ap (λ (x : List ℕ). string_bytes c.args.out.now ++ x)
    (sym (lead_stays (encoded c.args.layout.markup) c.args.layout.wrap.now c.args.layout.width c.args.layout.cuts c.args.room c.character_count-blanks.result c.character_count.result c.args.gap.now c.args.word.now c.stays.result c.utf8.gap c.character_count-blanks.ensures c.character_count.ensures c.stays.ensures.value c.if-stays.true))
