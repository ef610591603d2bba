-- What is left ends as all does.
use Rattle.std.proofs.Common.{map, string_bytes}
use Rattle.std.specs.BTreeSet.{btree_set_len}
use Rattle.template_compiler_statement_codegen.proofs.Declaring.{Encloses}
use Rattle.template_compiler_statement_codegen.proofs.macros.enclose_all.Given as goal

abbrev pub invariant-loop-name : goal.invariant-loop-name
invariant-loop-name l = Encloses (map string_bytes l.fn.names.keys) (map string_bytes l.left.keys) l.initial.code l.code

abbrev pub decreases-loop-name : goal.decreases-loop-name
decreases-loop-name l = btree_set_len l.left
