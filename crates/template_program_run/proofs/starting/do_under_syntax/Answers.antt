use Rattle.std.proofs.Common.{inl, inr, refl, subst}
use Rattle.template_compiler_syntax.specs.Syntax.{IsUsable}
use Rattle.template_program_words.specs.declared.syntax.SyntaxWords.{SyntaxWords}
use Rattle.template_program_run.specs.Asked.{syntax_set}
use Rattle.template_program_run.specs.Starts.{RefusesSyntax}
use Rattle.template_program_run.proofs.starting.do_under_syntax.Goals as goal

pub returns-in-Ok : goal.returns-in-Ok
returns-in-Ok g c =
    inr (subst (λ (words : SyntaxWords). IsUsable (syntax_set words)) c.syntax_words.ensures c.in-Ok.ensures.usable, c.do_words.ensures)

pub returns-in-Err : goal.returns-in-Err
returns-in-Err g c =
    let refused = subst (λ (words : SyntaxWords). RefusesSyntax (syntax_set words) c.in-Err.refused) c.syntax_words.ensures c.in-Err.ensures.refused in
    inl (c.in-Err.refused, refused, c.refuse_syntax.ensures.status, refl, c.refuse_syntax.ensures.told)
