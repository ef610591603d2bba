use Rattle.std.proofs.Common.{List, rules, subst, ℕ}
use Rattle.std.proofs.lemmas.Result.{IfOk-weaker}
use Rattle.template_program_parts.specs.Context.{text_pairs}
use Rattle.template_program_reached.specs.Sifted.{Sifts}
use Rattle.template_program_run.specs.Served.{syntax_under}
use Rattle.template_program_run.proofs.folder.read_sifted.Goals as goal

pub returns-in_err-templates-clause-refused : goal.returns-in_err-templates-clause-refused
returns-in_err-templates-clause-refused g c is = c.in_err-templates.ensures.refused (search rules)

pub returns-clause-read : goal.returns-clause-read
returns-clause-read g c =
    let all = text_pairs c.in_ok-templates.templates.items in
    IfOk-weaker c.sifted.result _ _ (λ left sifted. record {
      all = all;
      below = c.in_ok-templates.ensures.read;
      sifted = subst (λ (main : List ℕ). Sifts (syntax_under c.args.options) all main all (text_pairs left.items)) c.named_main.ensures sifted;
    }) c.sifted.ensures.sifted
