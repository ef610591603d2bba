-- The leaps that are left, led to the end, make what all of them make of the first code.
use Rattle.std.proofs.Common.{◌≡◌, length, vec_len}
use Rattle.template_compiler_code.specs.Listing.{code_in}
use Rattle.template_compiler_emission.specs.Puts.{Keeps}
use Rattle.template_compiler_expression_codegen.specs.Chains.{leapt}
use Rattle.template_compiler_expression_codegen.proofs.chains.tell_leaps.Given as goal

abbrev pub invariant-loop-place : goal.invariant-loop-place
invariant-loop-place l = record {
  told : leapt (length (code_in l.initial.code)) l.left.items (code_in l.code)
      ≡ leapt (length (code_in l.initial.code)) l.fn.leaps.items (code_in l.initial.code);
  long : length (code_in l.code) ≡ length (code_in l.initial.code);
  same : Keeps l.initial.code l.code;
}

abbrev pub decreases-loop-place : goal.decreases-loop-place
decreases-loop-place l = vec_len l.left
