use Rattle.std.proofs.Common.{◌∙◌, Bool, Some, ap, rules, subst, sym}
use Rattle.std.proofs.lemmas.Fn.{always_returns_same}
use Rattle.std.specs.Cmp.Lexicographic.{slice_cmp}
use Rattle.std.specs.Ordering.{nat_cmp}
use Rattle.std.specs.Prelude.{is_some, string_bytes}
use Rattle.template_program_files.specs.declared.folder_files.FolderFile.{FolderFile}
use Rattle.template_program_run.specs.Folders.{TellsText}
use Rattle.template_program_run.proofs.Halving.{absent_parted, names_searchable, same_name, tells_text}
use Rattle.template_program_run.proofs.named.has_text.Goals as goal

pub returns-in-Ok : goal.returns-in-Ok
returns-in-Ok c =
    let found = c.in-Ok.ensures.position (λ (f : FolderFile). slice_cmp nat_cmp (string_bytes f.name) c.args.name.now)
    (always_returns_same _ _ _ (λ a r q k. search rules)) c.index-files-place.result in
    let file = c.index-files-place.result in
    let at = c.index-files-place.is in
    let named = ap (λ (f : FolderFile). string_bytes f.name) at ∙ same_name _ c.args.name.now found in
    subst (λ (yes : Bool). TellsText c.args.files.now c.args.name.now (Some yes)) (ap (λ (f : FolderFile). is_some f.text) at ∙ sym c.is_some.ensures)
    (tells_text c.args.files.now c.args.name.now file (c.in-Ok.place, c.in-Ok.ensures.bound, sym at) named)

pub returns-in-Err : goal.returns-in-Err
returns-in-Err c =
    let parted = c.in-Err.ensures.position (λ (f : FolderFile). slice_cmp nat_cmp (string_bytes f.name) c.args.name.now)
    (always_returns_same _ _ _ (λ a r q k. search rules)) (names_searchable c.args.name.now c.args.files.now c.requires) in
    absent_parted c.args.name.now c.args.files.now c.in-Err.field-0 parted
