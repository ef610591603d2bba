use Rattle.std.proofs.Common.{ℕ, List, ◌++◌, sym, ap, ◌∙◌, string_bytes, lit<, Some, None}
use Rattle.std.proofs.lemmas.Str.Pattern.{split_once_first}
use Rattle.template_builtins_layout.proofs.Ampersands.{goes_on, rest_utf8, unescaped_last, unescaped_next}
use Rattle.template_builtins_layout.proofs.references.unescaped.Goals as goal

pub loop-part-preserved : goal.loop-part-preserved
loop-part-preserved c =
    let cut = split_once_first 38 c.loop-part.rest.now (Some (c.in-Some.part, c.in-Some.after)) c.in-Some.ensures.cases (lit< tt) in (
      rest_utf8 c.loop-part.rest.now c.in-Some.part.now c.in-Some.after.now c.loop-part.invariant.0 c.in-Some.ensures.cases,
      goes_on _ _ _ _ _ _ c.in_ok-push_part.ensures
          (unescaped_next c.loop-part.behind c.loop-part.rest.now c.in-Some.part.now c.in-Some.after.now cut.0 cut.1 cut.2)
          c.loop-part.invariant.1,
    )

pub returns : goal.returns
returns c =
    c.in_ok-push_part-2.ensures
    ∙ ap (λ (x : List ℕ). string_bytes c.loop-part.out ++ x)
    (sym (unescaped_last c.loop-part.behind c.loop-part.rest.now (split_once_first 38 c.loop-part.rest.now None c.in_default.ensures.cases (lit< tt))))
    ∙ c.loop-part.invariant.1
