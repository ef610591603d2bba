use Rattle.std.proofs.Common.{◌≡◌, ◌∙◌, ◌++◌, codes, List, ℕ, Err, None, sym, ap, subst}
use Rattle.std.specs.List.{All, Contains}
use Rattle.std.proofs.lemmas.Result.{IfOk-weaker, err_from_is_err_and}
use Rattle.template_program_parts.specs.declared.faults.FileFault.TheVariants.{File}
use Rattle.template_program_files.specs.Below.{IsBelow, IsFolderBelow, IsNamedBelow, maybe, name_below, surely}
use Rattle.template_program_files.specs.Refused.{LacksFile, no_file, no_folder}
use Rattle.template_program_files.specs.Views.{names_in}
use Rattle.template_program_files.proofs.Named.{all_among}
use Rattle.template_program_files.proofs.folder_files.read_folder.Goals as goal

pub returns-clause-complete : goal.returns-clause-complete
returns-clause-complete g c =
    let told = g.S.Folders.entries c.args.rt.now in
    let base : c.as_str.result.now ≡ c.args.path.now ++ codes "/" = c.as_str.ensures.value ∙ c.in_ok-base.ensures in
    IfOk-weaker c.read_files.result _ _
    (λ files is. λ folders name below. subst (λ (ns : List (List ℕ)). Contains ns (name_below folders name)) (sym is)
    ((c.in_ok-names.ensures.same (name_below folders name)).1
    (c.in_ok-files_below.ensures.complete folders name (subst (λ (s : List ℕ). IsBelow (surely told) s folders name) (sym base) below))))
    c.read_files.ensures.names

pub returns-clause-sound : goal.returns-clause-sound
returns-clause-sound g c =
    let told = g.S.Folders.entries c.args.rt.now in
    let base : c.as_str.result.now ≡ c.args.path.now ++ codes "/" = c.as_str.ensures.value ∙ c.in_ok-base.ensures in
    let found = names_in c.in_ok-files_below.field-0.items in
    let names = names_in c.in_ok-names.names.items in
    let all : All (IsNamedBelow (maybe told) (c.args.path.now ++ codes "/")) found =
    subst (λ (s : List ℕ). All (IsNamedBelow (maybe told) s) found) base c.in_ok-files_below.ensures.sound in
    IfOk-weaker c.read_files.result _ _
    (λ files is. subst (All (IsNamedBelow (maybe told) (c.args.path.now ++ codes "/"))) (sym is)
    (all_among (IsNamedBelow (maybe told) (c.args.path.now ++ codes "/")) found names
    (λ name h. (c.in_ok-names.ensures.same name).0 h) all))
    c.read_files.ensures.names

-- nothing is told of a folder
pub returns-in_err-files_below-clause-file : goal.returns-in_err-files_below-clause-file
returns-in_err-files_below-clause-file g c = λ is.
    let told = g.S.Folders.entries c.args.rt.now in
    let base : c.as_str.result.now ≡ c.args.path.now ++ codes "/" = c.as_str.ensures.value ∙ c.in_ok-base.ensures in
    let passed = err_from_is_err_and c.from_residual-in_err-files_below.result c.from_residual-in_err-files_below.ensures.1 in
    let first = passed.1 in
    let second = passed.2 in
    let fault : c.in_err-files_below.field-0.0 ≡ File = cc (first, second, is) in
    let lacks = c.in_err-files_below.ensures.file (ap Err fault) in
    no_folder {p = lacks.0} (subst (λ (s : List ℕ). IsFolderBelow (maybe told) s (lacks.0)) base (lacks.1))
    (subst (λ (s : List ℕ). told (s ++ lacks.0) ≡ None) base (lacks.2))

-- one of the files is lacking
pub returns-clause-file : goal.returns-clause-file
returns-clause-file g c = λ is.
    let told = g.S.Folders.entries c.args.rt.now in
    let content = g.S.FileSystem.content c.args.rt.now in
    let base : c.as_str.result.now ≡ c.args.path.now ++ codes "/" = c.as_str.ensures.value ∙ c.in_ok-base.ensures in
    let again : c.as_str-2.result.now ≡ c.args.path.now ++ codes "/" = c.as_str-2.ensures.value ∙ c.in_ok-base.ensures in
    let found = names_in c.in_ok-files_below.field-0.items in
    let names = names_in c.in_ok-names.names.items in
    let all : All (IsNamedBelow (maybe told) (c.args.path.now ++ codes "/")) found =
    subst (λ (s : List ℕ). All (IsNamedBelow (maybe told) s) found) base c.in_ok-files_below.ensures.sound in
    no_file {names = names} c.in_ok-names.ensures.ascending
    (all_among (IsNamedBelow (maybe told) (c.args.path.now ++ codes "/")) found names (λ name h. (c.in_ok-names.ensures.same name).0 h) all)
    (subst (λ (s : List ℕ). LacksFile content s c.args.limit names) again (c.read_files.ensures.file is))
