use Rattle.std.proofs.Common.{All, IfSome, List, rules, subst}
use Rattle.template_program_files.specs.declared.folder_files.FolderFile.{FolderFile}
use Rattle.std.proofs.lemmas.Result.{IfOk-weaker}
use Rattle.template_program_parts.specs.Context.{text_pairs}
use Rattle.template_program_run.specs.Folders.{no_folder, no_main, no_path, IsPathIn, MayBeMain, RefusesMain, RefusesPaths}
use Rattle.template_program_run.specs.Naming.{naming_in}
use Rattle.template_program_run.proofs.folder.read_below.Goals as goal

pub returns-in_err-files-clause-refused : goal.returns-in_err-files-clause-refused
returns-in_err-files-clause-refused g c is = no_folder (c.in_err-files.ensures.file (search rules))

pub returns-in_err-check_paths-clause-refused : goal.returns-in_err-check_paths-clause-refused
returns-in_err-check_paths-clause-refused g c is = no_path
    (record {
      ascending = c.in_ok-files.ensures.ascending;
      complete = c.in_ok-files.ensures.complete;
      sound = c.in_ok-files.ensures.sound;
      texts = c.in_ok-files.ensures.texts;
    })
    (subst (λ (files : List FolderFile). RefusesPaths files (naming_in c.args.naming).paths) c.as_slice.ensures.value
    c.in_err-check_paths.ensures.lacking)

pub returns-in_err-check_main-clause-refused : goal.returns-in_err-check_main-clause-refused
returns-in_err-check_main-clause-refused g c is = no_main
    (record {
      ascending = c.in_ok-files.ensures.ascending;
      complete = c.in_ok-files.ensures.complete;
      sound = c.in_ok-files.ensures.sound;
      texts = c.in_ok-files.ensures.texts;
    })
    (subst (λ (files : List FolderFile). RefusesMain files (naming_in c.args.naming).main) c.as_slice-2.ensures.value
    c.in_err-check_main.ensures.no_text)

pub returns-clause-read : goal.returns-clause-read
returns-clause-read g c = IfOk-weaker c.templates_of.result _ _ (λ all are. record {
  files = c.in_ok-files.files.items;
  behind = text_pairs c.in_ok-behind.behind.items;
  stands = record {
    ascending = c.in_ok-files.ensures.ascending;
    complete = c.in_ok-files.ensures.complete;
    sound = c.in_ok-files.ensures.sound;
    texts = c.in_ok-files.ensures.texts;
  };
  named = subst (λ (files : List FolderFile). All (IsPathIn files) (naming_in c.args.naming).paths) c.as_slice.ensures.value
      c.in_ok-check_paths.ensures.named;
  main_named = subst (λ (files : List FolderFile). IfSome (naming_in c.args.naming).main (MayBeMain files))
      c.as_slice-2.ensures.value c.in_ok-check_main.ensures.named;
  read = c.in_ok-behind.ensures.read;
  are = are;
}) c.templates_of.ensures.templates
