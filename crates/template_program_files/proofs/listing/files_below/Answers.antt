use Rattle.std.proofs.Common.{Vec, String, ◌≡◌, ◌∙◌, ◌<◌, ◌≤◌, ◌++◌, [], List, ℕ, string_bytes, length, get_or, Result, None, sym, ap, subst, arith}
use Rattle.std.specs.declared.alloc.Global.{Global}
use Rattle.std.specs.IoError.{error_kind}
use Rattle.std.specs.Option.{IfSome}
use Rattle.std.specs.Result.{IsErrAnd}
use Rattle.std.proofs.lemmas.List.Elements.{All-get_or}
use Rattle.template_program_parts.specs.Faults.{fault_of_read}
use Rattle.template_program_parts.specs.declared.faults.FileFault.{FileFault}
use Rattle.template_program_parts.specs.declared.faults.FileFault.TheVariants.{File}
use Rattle.std.proofs.lemmas.List.{length-map}
use Rattle.template_program_files.specs.Below.{Standing, IsFolderBelow, files_in, folders_in, maybe}
use Rattle.template_program_files.specs.Views.{names_in, standing_in}
use Rattle.template_program_files.specs.declared.folders.Entry.{Entry}
use Rattle.template_program_files.proofs.Walking.{asked_at, named_next, nothing_told, walk_ends, walk_goes}
use Rattle.template_program_files.proofs.listing.files_below.Goals as goal

pub returns-then-next-len-clause-complete : goal.returns-then-next-len-clause-complete
returns-then-next-len-clause-complete g c = λ inner name below.
    let folders = c.loop-next.found.folders in
    let done : length (names_in folders.items) ≤ c.loop-next.next = omega
    (arith, length-map folders.items string_bytes, folders.ok.0, c.len.ensures) in
    walk_ends (g.S.Folders.entries c.args.rt.now) c.args.base.now c.loop-next.next (names_in c.loop-next.found.files.items)
    (names_in folders.items) done
    c.loop-next.invariant inner name below

-- one more folder was gone through
pub loop-next-preserved : goal.loop-next-preserved
loop-next-preserved g c =
    let folders = c.loop-next.found.folders in
    let next = c.loop-next.next in
    let path = c.args.base.now in
    let folder = c.in_ok-folder.folder in
    let told = g.S.Folders.entries c.args.rt.now in
    let xs = standing_in c.in_ok-entries.entries.items in
    let inside : next < length folders.items = omega (arith, folders.ok.0, c.len.ensures) in
    let within : next < length (names_in folders.items) = omega (arith, inside, length-map folders.items string_bytes) in
    let at : string_bytes folder ≡ get_or (names_in folders.items) next [] =
    named_next folders.items next c.index.result.now folder inside c.index.ensures c.in_ok-folder.ensures.cases in
    let listed : c.as_str-in-loop-next.result.now ≡ path ++ string_bytes folder =
    asked_at path c.as_str-in-loop-next.result.now (string_bytes c.in_ok-path.path) (string_bytes folder) c.as_str.result.now
    c.as_str-in-loop-next.ensures.value c.in_ok-path.ensures c.as_str.ensures.value in
    let given : standing_in c.as_slice.result.now ≡ xs = ap (λ (es : List Entry). standing_in es) c.as_slice.ensures.value in
    let same : c.as_str-in-loop-next-2.result.now ≡ string_bytes folder = c.as_str-in-loop-next-2.ensures.value in
    walk_goes told path next (names_in c.loop-next.found.files.items) (names_in folders.items)
    (names_in c.add_entries.new.found.files.items)
    (names_in c.add_entries.new.found.folders.items) (string_bytes folder) xs within at
    (subst (λ (s : List ℕ). IfSome (told s) (λ all. xs ≡ all)) listed c.in_ok-entries.ensures.listed)
    (c.in_ok-add_entries.ensures.files
    ∙ ap (λ (ys : List Standing). names_in c.loop-next.found.files.items ++ files_in c.as_str-in-loop-next-2.result.now ys) given
    ∙ ap (λ (p : List ℕ). names_in c.loop-next.found.files.items ++ files_in p xs) same)
    (c.in_ok-add_entries.ensures.folders
    ∙ ap (λ (ys : List Standing). names_in folders.items ++ folders_in c.as_str-in-loop-next-2.result.now ys) given
    ∙ ap (λ (p : List ℕ). names_in folders.items ++ folders_in p xs) same)
    c.loop-next.invariant

-- a folder that is refused, but for want of memory, is one of which nothing is told
pub returns-in_err-entries-clause-file : goal.returns-in_err-entries-clause-file
returns-in_err-entries-clause-file g c = λ is.
    let folders = c.loop-next.found.folders in
    let next = c.loop-next.next in
    let path = c.args.base.now in
    let folder = c.in_ok-folder.folder in
    let told = g.S.Folders.entries c.args.rt.now in
    let kind = error_kind c.in_err-entries.field-0.0 in
    let inside : next < length folders.items = omega (arith, folders.ok.0, c.len.ensures) in
    let within : next < length (names_in folders.items) = omega (arith, inside, length-map folders.items string_bytes) in
    let at : string_bytes folder ≡ get_or (names_in folders.items) next [] =
    named_next folders.items next c.index.result.now folder inside c.index.ensures c.in_ok-folder.ensures.cases in
    let listed : c.as_str-in-loop-next.result.now ≡ path ++ string_bytes folder =
    asked_at path c.as_str-in-loop-next.result.now (string_bytes c.in_ok-path.path) (string_bytes folder) c.as_str.result.now
    c.as_str-in-loop-next.ensures.value c.in_ok-path.ensures c.as_str.ensures.value in
    let here : IsFolderBelow (maybe told) path (string_bytes folder) = subst (IsFolderBelow (maybe told) path) (sym at)
    (All-get_or (IsFolderBelow (maybe told) path) (names_in folders.items) next [] within c.loop-next.invariant.folders_are) in
    let gives : File ≡ fault_of_read kind =
    subst (λ (r : Result (Vec (String Global) Global) FileFault). IsErrAnd r
    (λ fault. fault ≡ fault_of_read kind)) is c.from_residual-in_err-entries.ensures.1 in (
      string_bytes folder,
      here,
      subst (λ (s : List ℕ). told s ≡ None) listed
          (nothing_told (told c.as_str-in-loop-next.result.now) kind gives c.in_err-entries.ensures.refused),
    )
