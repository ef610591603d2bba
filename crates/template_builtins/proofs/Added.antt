-- Filters that were added, then tests, and then what answers for unknown methods.
use Rattle.std.proofs.Common.{◌≡◌, ◌∙◌, sym, ap, subst, ℕ, List, Option, Some}
use Rattle.std.specs.Option.{IsSomeAnd}
use Rattle.template_machine_environment.specs.Extras.{Extras}
use Rattle.template_builtins_callables.specs.declared.builtin.Builtin.{Builtin}
use Rattle.template_builtins_methods.specs.declared.method.PythonMethods.{PythonMethods}
use Rattle.template_builtins.specs.Installed.{Adds, Installs, IsMade, filter_kind, test_kind}

module _ {C M F J R : Type 0} (gives : Builtin → C → Type 0) (makes : PythonMethods → M → Type 0) (method : M)
    (old mid late new : Extras C M F J R)
    (filters : Adds gives filter_kind old.filters mid.filters) (first : mid ≡ record old { filters = mid.filters })
    (tests : Adds gives test_kind mid.tests late.tests) (second : late ≡ record mid { tests = late.tests })
    (made : IsMade makes method) (third : new ≡ record late { method = Some method }) where
  pub installed : Installs gives makes old new
  installed =
      let same_filters : new.filters ≡ mid.filters =
      ap (λ (x : Extras C M F J R). x.filters) third ∙ ap (λ (x : Extras C M F J R). x.filters) second in
      let same_tests : mid.tests ≡ old.tests = ap (λ (x : Extras C M F J R). x.tests) first in
      let last_tests : new.tests ≡ late.tests = ap (λ (x : Extras C M F J R). x.tests) third in
      let has_method : new.method ≡ Some method = ap (λ (x : Extras C M F J R). x.method) third in
      record {
        filters = subst (λ (stand : List ℕ → Option C). Adds gives filter_kind old.filters stand) (sym same_filters) filters;
        tests = subst (λ (stood : List ℕ → Option C). Adds gives test_kind stood new.tests) same_tests
            (subst (λ (stand : List ℕ → Option C). Adds gives test_kind mid.tests stand) (sym last_tests) tests);
        methods = subst (λ (m : Option M). IsSomeAnd m (IsMade makes)) (sym has_method) made;
        others = third ∙ ap (λ (x : Extras C M F J R). record x { method = Some method }) second
            ∙ ap (λ (x : Extras C M F J R). record x { tests = late.tests; method = Some method }) first
            ∙ (λ i. record old { filters = (sym same_filters) i; tests = (sym last_tests) i; method = (sym has_method) i });
      }
