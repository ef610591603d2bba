-- What the order of values is, kind by kind.
use Rattle.std.specs.Prelude.{◌≡◌, ◌≢◌, ℕ, ℤ, pos, ◌<◌, true, false, List}
use Rattle.std.specs.declared.cmp.Ordering.TheVariants.{Less, Equal}
use Rattle.std.specs.Ordering.{int_cmp, nat_cmp, ordering_then}
use Rattle.std.specs.Cmp.Lexicographic.{slice_cmp}
use Rattle.template_values_model.specs.Val.{Val, Vals, Pairs, undefined, silent_undefined, truth, int, text, safe_text, bytes, list, tuple, map, keyword_map, «module», function, namespace, loop_record, macro_record, no_vals, vals_more, no_pairs, pairs_more}
use Rattle.template_values_core.specs.Order.{rank_of, val_cmp}

-- values of different kinds stand by their kinds
abbrev pub KindsFirst : Type 0
KindsFirst = (v w : Val) → rank_of v < rank_of w → val_cmp v w ≡ Less

-- values that are equal and not identical
pub record Alike : Type 0 where
  pub undefined_forms : val_cmp undefined silent_undefined ≡ Equal
  pub false_is_zero : val_cmp (truth false) (int (pos 0)) ≡ Equal
  pub true_is_one : val_cmp (truth true) (int (pos 1)) ≡ Equal
  pub safe_texts : (s : List ℕ) → val_cmp (text s) (safe_text s) ≡ Equal
  pub not_identical : (s : List ℕ) → text s ≢ safe_text s
  pub sequences : (vs : Vals) → val_cmp (list vs) (tuple vs) ≡ Equal
  pub keyword_maps : (ps : Pairs) → val_cmp (map ps) (keyword_map ps) ≡ Equal
  pub modules : (ps : Pairs) (s : List ℕ) → val_cmp (map ps) («module» ps s) ≡ Equal

-- values of one kind stand by what they hold
pub record WithinKinds : Type 0 where
  pub numbers : (n m : ℤ) → val_cmp (int n) (int m) ≡ int_cmp n m
  pub texts : (s t : List ℕ) → val_cmp (text s) (text t) ≡ slice_cmp nat_cmp s t
  pub byte_strings : (s t : List ℕ) → val_cmp (bytes s) (bytes t) ≡ slice_cmp nat_cmp s t
  pub items : (v w : Val) (vs ws : Vals) → val_cmp (list (vals_more v vs)) (list (vals_more w ws))
      ≡ ordering_then (val_cmp v w) (val_cmp (list vs) (list ws))
  pub shorter : (v : Val) (vs : Vals) → val_cmp (list no_vals) (list (vals_more v vs)) ≡ Less
  pub pairs : (j k v w : Val) (ps qs : Pairs) → val_cmp (map (pairs_more j v ps)) (map (pairs_more k w qs))
      ≡ ordering_then (val_cmp j k) (ordering_then (val_cmp v w) (val_cmp (map ps) (map qs)))
  pub fewer : (k v : Val) (ps : Pairs) → val_cmp (map no_pairs) (map (pairs_more k v ps)) ≡ Less
  pub functions : (d e n m : ℕ) → val_cmp (function d n) (function e m) ≡ ordering_then (nat_cmp d e) (nat_cmp n m)
  pub namespaces : (d e n m : ℕ) → val_cmp (namespace d n) (namespace e m) ≡ ordering_then (nat_cmp d e) (nat_cmp n m)
  pub loops : (d e n m : ℕ) → val_cmp (loop_record d n) (loop_record e m) ≡ ordering_then (nat_cmp d e) (nat_cmp n m)
  pub macros : (d e n m : ℕ) → val_cmp (macro_record d n) (macro_record e m) ≡ ordering_then (nat_cmp d e) (nat_cmp n m)
