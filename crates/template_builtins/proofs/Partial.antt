-- What a table leaves that was added in part.
use Rattle.std.proofs.Common.{◌≡◌, ◌∙◌, sym, ap, ℕ, List, ◌∷◌, Bool, true, false, Option, None, Some, option_map, Result, Ok, Err, OnErr, if◌then◌else◌, bytes_eq}
use Rattle.std.specs.Borrow.{Bor}
use Rattle.std.proofs.lemmas.Result.{on_err_weaker}
use Rattle.template_machine_environment.specs.Extras.{Extras}
use Rattle.template_builtins_callables.specs.Names.{named, rows_of}
use Rattle.template_builtins_callables.specs.declared.builtin.Builtin.{Builtin}
use Rattle.template_builtins_callables.specs.declared.builtin.Kind.{Kind}
use Rattle.template_builtins.specs.Installed.{Adds, InstallsSome, KeepsOthers, Stands, filter_kind, test_kind}

-- what is in no table is in none of its rows
rest_by : {K : Type 0} (kind : K → Kind) (b : Bool) (x : K) (o : Option K) → option_map kind (if b then Some x else o) ≡ None
    → option_map kind o ≡ None
rest_by kind true x o h = cc
rest_by kind false x o h = h

-- where nothing is given, nothing changes
stays : {C : Type 0} (gives : Builtin → C → Type 0) (given : Option Kind) (before after : Option C) → given ≡ None
    → Stands gives given before after → after ≡ before
stays gives None before after none stands = stands
stays gives (Some kind) before after none stands = cc

-- the rows behind the first were added, and the first was not
module _ {K C : Type 0} (kind : K → Kind) (gives : Builtin → C → Type 0) where
  pub keeps_others : (table : List (Bor (List ℕ) × K)) (row : Bor (List ℕ) × K) (rows : List (Bor (List ℕ) × K))
      (old mid new : List ℕ → Option C) → table ≡ row ∷ rows → Adds gives (λ name. option_map kind (named (rows_of rows) name)) old mid
      → new ≡ mid → KeepsOthers (λ name. option_map kind (named (rows_of table) name)) old new
  keeps_others table row rows old mid new is added same name none =
      let first : option_map kind (named (rows_of (row ∷ rows)) name) ≡ None =
      ap (λ (t : List (Bor (List ℕ) × K)). option_map kind (named (rows_of t) name)) (sym is) ∙ none in
      let rest = rest_by kind (bytes_eq row.0.now name) row.1 (named (rows_of rows) name) first in
      ap (λ (f : List ℕ → Option C). f name) same ∙ stays gives (option_map kind (named (rows_of rows) name)) (old name) (mid name) rest (added name)

  pub keeps_where_refused : {T E : Type 0} (r : Result T E) (table : List (Bor (List ℕ) × K)) (row : Bor (List ℕ) × K)
      (rows : List (Bor (List ℕ) × K)) (old mid new : List ℕ → Option C) → table ≡ row ∷ rows
      → Adds gives (λ name. option_map kind (named (rows_of rows) name)) old mid → OnErr r (new ≡ mid)
      → OnErr r (KeepsOthers (λ name. option_map kind (named (rows_of table) name)) old new)
  keeps_where_refused r table row rows old mid new is added same =
      on_err_weaker r (keeps_others table row rows old mid new is added) same

  -- the rows behind the first were added in part
  pub keeps_of_rest : (table : List (Bor (List ℕ) × K)) (row : Bor (List ℕ) × K) (rows : List (Bor (List ℕ) × K))
      (old new : List ℕ → Option C) → table ≡ row ∷ rows → KeepsOthers (λ name. option_map kind (named (rows_of rows) name)) old new
      → KeepsOthers (λ name. option_map kind (named (rows_of table) name)) old new
  keeps_of_rest table row rows old new is kept name none =
      let first : option_map kind (named (rows_of (row ∷ rows)) name) ≡ None =
      ap (λ (t : List (Bor (List ℕ) × K)). option_map kind (named (rows_of t) name)) (sym is) ∙ none in
      kept name (rest_by kind (bytes_eq row.0.now name) row.1 (named (rows_of rows) name) first)

-- what holds anyhow
pub anyhow : {T E : Type 0} {P : Type 0} (r : Result T E) → P → OnErr r P
anyhow (Ok x) p = tt
anyhow (Err e) p = p

-- filters were added in part
pub some_filters : {C M F J R : Type 0} (old new : Extras C M F J R) → KeepsOthers filter_kind old.filters new.filters
    → new ≡ record old { filters = new.filters } → InstallsSome old new
some_filters old new kept same =
    let tests : new.tests ≡ old.tests = ap (λ (x : Extras _ _ _ _ _). x.tests) same in
    record {
      filters = kept;
      tests = λ name none. ap (λ (f : List ℕ → Option _). f name) tests;
      others = same ∙ (λ i. record old { filters = new.filters; tests = (sym tests) i });
    }

-- filters were added, and tests in part
pub some_tests : {C M F J R : Type 0} (gives : Builtin → C → Type 0) (old mid new : Extras C M F J R)
    → Adds gives filter_kind old.filters mid.filters → mid ≡ record old { filters = mid.filters }
    → KeepsOthers test_kind mid.tests new.tests → new ≡ record mid { tests = new.tests } → InstallsSome old new
some_tests gives old mid new added first kept second =
    let filters : new.filters ≡ mid.filters = ap (λ (x : Extras _ _ _ _ _). x.filters) second in
    let tests : mid.tests ≡ old.tests = ap (λ (x : Extras _ _ _ _ _). x.tests) first in
    record {
      filters = λ name none. ap (λ (f : List ℕ → Option _). f name) filters
          ∙ stays gives (filter_kind name) (old.filters name) (mid.filters name) none (added name);
      tests = λ name none. kept name none ∙ ap (λ (f : List ℕ → Option _). f name) tests;
      others = second ∙ ap (λ (x : Extras _ _ _ _ _). record x { tests = new.tests }) first
          ∙ (λ i. record old { filters = (sym filters) i; tests = new.tests });
    }
