use Rattle.std.proofs.Common.{◌≡◌, ◌∙◌, List, String, string_bytes, sym, subst}
use Rattle.std.specs.declared.alloc.Global.{Global}
use Rattle.std.specs.List.{Contains, dedup}
use Rattle.std.specs.Cmp.Lexicographic.{on_texts, on_texts_equal, texts_ties}
use Rattle.std.specs.String.{string_eq}
use Rattle.std.proofs.lemmas.List.Filters.{dedup_is}
use Rattle.std.proofs.lemmas.List.Kept.{Any-dedup, Contains-from_dedup, IsStrictlySortedBy-dedup}
use Rattle.std.proofs.lemmas.List.Sorted.{Contains-permutation, IsPermutation-sym}
use Rattle.std.proofs.lemmas.Slice.Eq.{bytes_eq-Decides}
use Rattle.template_program_files.specs.Views.{names_in}
use Rattle.template_program_files.proofs.Named.{name_of_text, names_ascend, text_of_name}
use Rattle.template_program_files.proofs.names.ordered.Goals as goal

pub returns-clause-ascending : goal.returns-clause-ascending
returns-clause-ascending c =
    names_ascend c.dedup.new.self.items (rw (dedup_is _ _ _ c.dedup.ensures.filtered)
    (IsStrictlySortedBy-dedup (on_texts (λ (x : String Global). string_bytes x))
    (λ x y. texts_ties (string_bytes x) (string_bytes y)) _ c.in_ok-sort.ensures.sorted))

pub returns-clause-same : goal.returns-clause-same
returns-clause-same c = λ name.
    let sorted = c.sort.new.self.items in
    let is : c.dedup.new.self.items ≡ dedup string_eq sorted = dedup_is string_eq sorted c.dedup.new.self.items c.dedup.ensures.filtered in
    let moved = c.in_ok-sort.ensures.permutation in (
      λ h.
          let x = text_of_name c.dedup.new.self.items name h in
          let kept : Contains sorted (x.0) = Contains-from_dedup string_eq sorted (x.0)
          (subst (λ (xs : List (String Global)). Contains xs (x.0)) is (x.1)) in
          subst (Contains (names_in c.args.names.items)) (x.2)
          (name_of_text c.args.names.items (x.0) (Contains-permutation sorted c.args.names.items (x.0)
          (IsPermutation-sym c.args.names.items sorted moved) kept)),
      λ h.
          let x = text_of_name c.args.names.items name h in
          let any = Any-dedup (on_texts_equal (λ (y : String Global). string_bytes y)) sorted (x.0)
          (Contains-permutation c.args.names.items sorted (x.0) moved (x.1)) in
          let same : string_bytes (x.0) ≡ string_bytes (any.1) = (bytes_eq-Decides (string_bytes (x.0)) (string_bytes (any.1))).0 (any.4) in
          subst (Contains (names_in c.dedup.new.self.items)) (sym same ∙ x.2)
          (name_of_text c.dedup.new.self.items (any.1) (subst (λ (xs : List (String Global)). Contains xs (any.1)) (sym is)
          (any.0, any.2, any.3))),
    )
