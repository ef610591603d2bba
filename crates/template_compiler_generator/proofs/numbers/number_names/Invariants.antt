-- With the names so far, the code behind the place is numbered as all of it is.
use Rattle.std.proofs.Common.{◌≡◌, ◌≤◌, length, map}
use Rattle.template_compiler_code.specs.Listing.{code_in, places_in, IsSameTemplate}
use Rattle.template_compiler_generator.specs.Numbers.{bare, names_at, numbered_in}
use Rattle.template_compiler_generator.proofs.Passing.{passed}
use Rattle.template_compiler_generator.proofs.numbers.number_names.Given as goal

abbrev pub invariant-loop-place : goal.invariant-loop-place
invariant-loop-place l = record {
  filters : length l.filters.items ≤ 50;
  tests : length l.tests.items ≤ 50;
  passed : passed (code_in l.code) l.place (names_at (code_in l.code) l.filters.items l.tests.items) ≡ numbered_in (code_in l.fn.code);
  kept : map bare (code_in l.code) ≡ map bare (code_in l.fn.code);
  same : IsSameTemplate l.fn.code l.code;
  places : places_in l.code ≡ places_in l.fn.code;
}
