use Rattle.std.proofs.Common.{◌≡◌, ℕ, ◌+◌, ◌<◌, ◌≤◌, ◌⊎◌, inl, inr, length, Some, Bool, true, false, refl, ap, subst, ◌∙◌, slice_get, arith}
use Rattle.std.specs.Prelude.{option_and_then, nat_lt}
use Rattle.std.proofs.lemmas.Bool.{ltb-true, ltb-false}
use Rattle.std.proofs.lemmas.Option.{slice_get_within}
use Rattle.template_compiler_code.specs.Listing.{code_in}
use Rattle.template_compiler_code_shapes.specs.Effects.{aim_of}
use Rattle.template_compiler_code_shapes.proofs.pass.marks_of.Goals as goal

below_or_at : (q n : ℕ) → q < n + 1 → (q < n) ⊎ (q ≡ n)
below_or_at q n less = by_test (nat_lt q n) refl
  where
    by_test : (b : Bool) → nat_lt q n ≡ b → (q < n) ⊎ (q ≡ n)
    by_test true e = inl (ltb-true q n e)
    by_test false e = inr (let not_below : n ≤ q = ltb-false q n e in omega arith)

pub loop-place-preserved : goal.loop-place-preserved
loop-place-preserved c =
    let code = code_in c.args.code.now in
    let i = c.loop-place.invariant in
    record {
      count = c.mark_way.ensures.count ∙ i.count;
      end = i.end;
      first = c.mark_way.ensures.keeps 0 i.first;
      last = c.mark_way.ensures.keeps (length code) i.last;
      aims = λ place to d less at aim low. elim (below_or_at place c.loop-place.place less) [
        | inl below ↦ c.mark_way.ensures.keeps to (i.aims place to d below at aim low)
        | inr here ↦ c.mark_way.ensures.has to (
            let P : ℕ → Type 0 = λ n. slice_get code n ≡ Some d in
            c.aim_at-aim.ensures ∙ ap (option_and_then aim_of) (subst P here at) ∙ aim)
            (let n = i.count in omega arith)
      ];
    }

pub returns-clause-marks : goal.returns-clause-marks
returns-clause-marks c =
    let code = code_in c.args.code.now in
    let i = c.loop-place.invariant in
    record {
      first = i.first;
      last = i.last;
      aims = λ place to d at aim low. i.aims place to d (let less : place < length code = slice_get_within code place d at in let e = i.end in let past = c.loop-place-test.false in let h = c.loop-place.auto.place-end in omega arith) at aim low;
    }
