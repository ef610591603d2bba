use Rattle.std.proofs.Common.{◌≡◌, ◌<◌, ◌∙◌, length, sym, ap, refl, arith}
use Rattle.std.proofs.lemmas.List.{length-map}
use Rattle.template_compiler_code.specs.Listing.{code_in}
use Rattle.template_compiler_generator.specs.Numbers.{bare, names_at, numbered_in, numbered_behind}
use Rattle.template_compiler_generator.proofs.Passing.{step_passes, step_bare}
use Rattle.template_compiler_generator.proofs.numbers.number_names.Goals as goal

pub loop-place-init : goal.loop-place-init
unfolding numbered_in
loop-place-init c = record {
  filters = omega (arith, ap length c.new-filters.ensures.items);
  tests = omega (arith, ap length c.new-tests.ensures.items);
  passed = (λ i. numbered_behind (names_at (code_in c.args.code.now) (c.new-filters.ensures.items i) (c.new-tests.ensures.items i)) (code_in c.args.code.now));
  kept = refl;
  same = record { name = refl; source = refl };
  places = refl;
}

pub loop-place-preserved : goal.loop-place-preserved
loop-place-preserved c =
    let old = code_in c.loop-place.code in
    let new = code_in c.number_at.new.code in
    let k = c.loop-place.place in
    let before = names_at old c.loop-place.filters.items c.loop-place.tests.items in
    let after = names_at new c.number_at.new.filters.items c.number_at.new.tests.items in
    let kept = c.loop-place.invariant.kept in
    let lengths : length old ≡ length (code_in c.args.code.now) =
    sym (length-map old bare) ∙ ap length kept ∙ length-map (code_in c.args.code.now) bare in
    let less : k < length old = omega (arith, lengths, c.loop-place-test.true, c.len-place-end.ensures.len) in
    let step = c.in_ok-number_at.ensures.numbered in
    record {
      filters = c.number_at.ensures.filters;
      tests = c.number_at.ensures.tests;
      passed = step_passes old new k before after less step ∙ c.loop-place.invariant.passed;
      kept = step_bare old new k before after less step ∙ kept;
      same = record {
        name = c.number_at.ensures.same.name ∙ c.loop-place.invariant.same.name;
        source = c.number_at.ensures.same.source ∙ c.loop-place.invariant.same.source;
      };
      places = c.number_at.ensures.places ∙ c.loop-place.invariant.places;
    }
