-- With the names that are left, the names so far are those wanted.
use Rattle.std.proofs.Common.{◌≡◌, ◌<◌, map, length}
use Rattle.template_compiler_code.specs.Listing.{code_in}
use Rattle.template_compiler_code.specs.References.{names_behind, names_before}
use Rattle.template_compiler_code.proofs.references.get_referenced_names.Given as goal

abbrev pub invariant-loop-left : goal.invariant-loop-left
invariant-loop-left l = record {
  within : l.left < length (code_in l.fn.code);
  names : names_behind (code_in l.fn.code) (map (λ n. n.now) l.names.items) l.body l.left ≡ names_before (code_in l.fn.code) l.fn.index;
}

abbrev pub decreases-loop-left : goal.decreases-loop-left
decreases-loop-left l = l.left
