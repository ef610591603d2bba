-- How deep a value nests. Functions and records are not followed.
use Rattle.std.specs.Prelude.{ℕ, ◌+◌, max}
use Rattle.template_values_model.specs.Val.{Val, Vals, Pairs, list, tuple, map, keyword_map, «module», no_vals, vals_more, no_pairs, pairs_more}

abbrev mutual
  -- scalars have 0, a container one more than its deepest item; keys are items too
  pub depth : Val → ℕ
  depth (list vs) = vals_depth vs + 1
  depth (tuple vs) = vals_depth vs + 1
  depth (map ps) = pairs_depth ps + 1
  depth (keyword_map ps) = pairs_depth ps + 1
  depth («module» ps s) = pairs_depth ps + 1
  depth _ = 0

  -- the deepest of the values
  pub vals_depth : Vals → ℕ
  vals_depth no_vals = 0
  vals_depth (vals_more v vs) = max (depth v) (vals_depth vs)

  -- the deepest of the keys and values
  pub pairs_depth : Pairs → ℕ
  pairs_depth no_pairs = 0
  pairs_depth (pairs_more k v ps) = max (max (depth k) (depth v)) (pairs_depth ps)
