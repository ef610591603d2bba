-- The files so far have the names that are not left, and their texts take what is not left of the limit.
use Rattle.std.proofs.Common.{◌≡◌, ◌+◌, ◌++◌, ◌<◌, sum_by, string_bytes}
use Rattle.std.specs.List.{All}
use Rattle.std.specs.Option.{IfSome}
use Rattle.std.specs.Vec.Iter.{into_iter_items}
use Rattle.template_program_files.specs.Views.{SaysText, file_names, names_in, text_size}
use Rattle.template_program_files.proofs.folder_files.read_files.Given as goal

abbrev pub invariant-loop-name : goal.invariant-loop-name
invariant-loop-name g l =
    (file_names l.files.items ++ names_in (into_iter_items l.name-iterator) ≡ names_in l.fn.names.items)
    × (sum_by (λ file. text_size file.text) l.files.items + l.left ≡ l.limit) × (0 < l.left)
    × All (λ file. IfSome (g.S.FileSystem.content l.rt (l.base ++ string_bytes file.name)) (SaysText file.text)) l.files.items
