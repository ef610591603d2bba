-- When two values are identical: of one kind, with identical contents.
use Rattle.std.specs.Prelude.{Bool, true, false, ◌&&◌, nat_eq, bytes_eq}
use Rattle.std.specs.Ordering.{int_eq}
use Rattle.template_values_model.specs.Val.{Val, Vals, Pairs, undefined, silent_undefined, none, truth, int, text, safe_text, bytes, list, tuple, map, keyword_map, «module», function, namespace, loop_record, macro_record, no_vals, vals_more, no_pairs, pairs_more}

abbrev mutual
  pub identical : Val → Val → Bool
  identical undefined undefined = true
  identical silent_undefined silent_undefined = true
  identical none none = true
  identical (truth true) (truth true) = true
  identical (truth false) (truth false) = true
  identical (int m) (int n) = int_eq m n
  identical (text s) (text t) = bytes_eq s t
  identical (safe_text s) (safe_text t) = bytes_eq s t
  identical (bytes s) (bytes t) = bytes_eq s t
  identical (list vs) (list ws) = identical_items vs ws
  identical (tuple vs) (tuple ws) = identical_items vs ws
  identical (map ps) (map qs) = identical_pairs ps qs
  identical (keyword_map ps) (keyword_map qs) = identical_pairs ps qs
  identical («module» ps s) («module» qs t) = identical_pairs ps qs && bytes_eq s t
  identical (function e m) (function f n) = nat_eq e f && nat_eq m n
  identical (namespace e m) (namespace f n) = nat_eq e f && nat_eq m n
  identical (loop_record e m) (loop_record f n) = nat_eq e f && nat_eq m n
  identical (macro_record e m) (macro_record f n) = nat_eq e f && nat_eq m n
  identical _ _ = false

  pub identical_items : Vals → Vals → Bool
  identical_items no_vals no_vals = true
  identical_items (vals_more v vs) (vals_more w ws) = identical v w && identical_items vs ws
  identical_items _ _ = false

  pub identical_pairs : Pairs → Pairs → Bool
  identical_pairs no_pairs no_pairs = true
  identical_pairs (pairs_more k v ps) (pairs_more l w qs) = (identical k l && identical v w) && identical_pairs ps qs
  identical_pairs _ _ = false
