use Rattle.std.proofs.Common.{sym, ◌∙◌, append_assoc, append-nil}
use Rattle.std.proofs.lemmas.Str.{IsUtf8-past_char}
use Rattle.template_builtins_methods.proofs.Casing.{titled_empty, titled_step}
use Rattle.template_builtins_methods.proofs.cases.titled.Goals as goal

pub loop-character-preserved : goal.loop-character-preserved
loop-character-preserved c =
    let held = c.loop-character.invariant in
    let parts = c.in-Some.ensures.steps.0 in
    let step = titled_step c.loop-character.begins _ _ c.in-Some.character held.0 parts in (
      IsUtf8-past_char _ _ c.in-Some.character held.0 parts,
      rw (c.in_ok-push_title.ensures, c.begins_behind-begins.ensures, append_assoc) (rw step at held.1),
    )

pub returns : goal.returns
returns c = sym (append-nil _) ∙ rw (titled_empty _ _ c.in-None.ensures.steps.0.0) at c.loop-character.invariant.1
