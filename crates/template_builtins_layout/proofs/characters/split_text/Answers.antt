use Rattle.std.proofs.Common.{sym, ◌∙◌}
use Rattle.std.proofs.lemmas.Str.{IsCharBoundary-at_seam, IsUtf8-past_char}
use Rattle.template_builtins_layout.proofs.Cutting.{front_is}
use Rattle.template_builtins_layout.proofs.characters.split_text.Goals as goal

pub range-requires-clause-end_boundary : goal.range-requires-clause-end_boundary
range-requires-clause-end_boundary c =
    let parts = sym c.chars-characters.ensures.rest ∙ c.in_ok-first.ensures.steps.0 in
    rw c.len_utf8.ensures.len (IsCharBoundary-at_seam _ _ _ parts (IsUtf8-past_char _ _ c.in_ok-first.first c.utf8.text parts))

pub returns-clause-parts : goal.returns-clause-parts
returns-clause-parts c =
    let parts = sym c.chars-characters.ensures.rest ∙ c.in_ok-first.ensures.steps.0 in (
      c.in_ok-first.first,
      c.range.ensures.value ∙ front_is _ _ _ c.len_utf8.result parts c.len_utf8.ensures.len,
      rw c.as_str.ensures parts,
    )
