-- The functions that an environment has by itself go under their names, one after the other.
use Rattle.std.proofs.Common.{◌≡◌, ℕ, zero, suc, ◌+◌, ◌<◌, ◌≤◌, List, [], ◌∷◌, Option, Some, get_or, unwrap_or, sym, ap, arith}
use Rattle.std.specs.Prelude.{take}
use Rattle.template_values_model.specs.Val.{Val, function}
use Rattle.template_values_named.specs.Named.{with_named, with_all_named}
use Rattle.template_machine_meaning.specs.OwnFunctions.{own_name, own_values}
use Rattle.template_machine_tables.specs.Numbers.{number_of}
use Rattle.template_machine_tables.specs.declared.functions.OwnFunction.{OwnFunction}
use Rattle.template_machine_tables.specs.declared.functions.OwnFunction.TheVariants.{Range, Dict, Namespace}

abbrev all : List OwnFunction
all = Range ∷ Dict ∷ Namespace ∷ []

module _ (id : ℕ) where
  -- what stands once the first of them do
  abbrev pub standing : ℕ → List (List ℕ × Val)
  standing i = with_all_named (take i (own_values id)) []

  pub next : (i : ℕ) (d : OwnFunction) (name : List ℕ) → i < 3 → own_name (number_of (get_or all i d)) ≡ Some name
      → with_named name (function id (number_of (get_or all i d))) (standing i) ≡ standing (i + 1)
  next zero d name below is = ap (λ (o : Option (List ℕ)). with_named (unwrap_or o []) (function id 0) (standing 0)) (sym is)
  next (suc zero) d name below is = ap (λ (o : Option (List ℕ)). with_named (unwrap_or o []) (function id 1) (standing 1)) (sym is)
  next (suc (suc zero)) d name below is = ap (λ (o : Option (List ℕ)). with_named (unwrap_or o []) (function id 2) (standing 2)) (sym is)
  next (suc (suc (suc i))) d name below is = absurd (omega arith)

  pub all_stand : (i : ℕ) → i ≤ 3 → 3 ≤ i → standing i ≡ standing 3
  all_stand i within behind = let is : i ≡ 3 = omega arith in ap standing is
