use Rattle.std.proofs.Common.{◌≡◌, ◌∙◌, ◌+◌, ◌<◌, ◌∷◌, ◌++◌, [], List, ℕ, length, take, sym, ap, arith}
use Rattle.std.proofs.lemmas.List.{append_assoc, map_more}
use Rattle.template_program_files.specs.Below.{files_in, folders_in}
use Rattle.template_program_files.specs.Views.{entry_of, names_in, standing_in}
use Rattle.template_program_files.specs.declared.folders.Entry.{Entry}
use Rattle.template_program_files.proofs.Within.{files_append, folders_append}
use Rattle.template_program_files.proofs.listing.add_entries.Goals as goal

-- one more entry was found
pub loop-entry-preserved : goal.loop-entry-preserved
loop-entry-preserved c =
    let k = c.loop-entry.entry-index in
    let entries = c.args.entries.now in
    let one = entry_of c.entry-item.result in
    let folder = c.args.folder.now in
    let before = standing_in (take k entries) in
    let h : k < length entries = omega arith in
    let more : standing_in (take (k + 1) entries) ≡ before ++ one ∷ [] =
    map_more entry_of entries k c.entry-item.result h ∙ ap (λ (e : Entry). before ++ entry_of e ∷ []) (sym c.entry-item.is) in
    let files = names_in c.args.found.now.files.items in
    let folders = names_in c.args.found.now.folders.items in (
      c.in_ok-add_entry.ensures.files ∙ ap (λ (ns : List (List ℕ)). ns ++ files_in folder (one ∷ [])) c.loop-entry.invariant.0
          ∙ append_assoc files (files_in folder before) (files_in folder (one ∷ []))
          ∙ ap (λ (ns : List (List ℕ)). files ++ ns) (sym (files_append folder before (one ∷ [])) ∙ ap (files_in folder) (sym more)),
      c.in_ok-add_entry.ensures.folders ∙ ap (λ (ns : List (List ℕ)). ns ++ folders_in folder (one ∷ [])) c.loop-entry.invariant.1
          ∙ append_assoc folders (folders_in folder before) (folders_in folder (one ∷ []))
          ∙ ap (λ (ns : List (List ℕ)). folders ++ ns) (sym (folders_append folder before (one ∷ [])) ∙ ap (folders_in folder) (sym more)),
    )
