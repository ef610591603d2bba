-- Names with their values.
use Rattle.std.specs.Prelude.{◌≡◌, ℕ, List, [], ◌∷◌, ◌++◌, Option, None, Some, String, map, string_bytes, if◌then◌else◌}
use Rattle.std.specs.BTreeMap.{BTreeMap, insert_entry}
use Rattle.std.specs.Cmp.Lexicographic.{slice_cmp}
use Rattle.std.specs.Ordering.{nat_cmp}
use Rattle.std.specs.Str.{bytes_eq}
use Rattle.std.specs.declared.alloc.Global.{Global}
use Rattle.template_values_model.specs.Val.{Val}

-- the value of a name, if it has one
abbrev pub local_at : List ℕ → List (List ℕ × Val) → Option Val
local_at name [] = None
local_at name (l ∷ ls) = if bytes_eq l.0 name then Some l.1 else local_at name ls

-- the name has the value from now on, where names stand in their order by bytes
abbrev pub with_named : List ℕ → Val → List (List ℕ × Val) → List (List ℕ × Val)
with_named name v named = insert_entry (slice_cmp nat_cmp) named name v

-- each of the names has its value, in turn
abbrev pub with_all_named : List (List ℕ × Val) → List (List ℕ × Val) → List (List ℕ × Val)
with_all_named [] named = named
with_all_named (g ∷ given) named = with_all_named given (with_named g.0 g.1 named)

-- some of the first of the names have their values, in turn, and nothing else changed
pub record PutsSome (given before after : List (List ℕ × Val)) : Type 0 where
  pub some : List (List ℕ × Val)
  pub rest : List (List ℕ × Val)
  pub all : given ≡ some ++ rest
  pub put : after ≡ with_all_named some before

-- what contracts see of names with values
abbrev pub pairs_named : List (String Global × Val) → List (List ℕ × Val)
pairs_named entries = map (λ e. (string_bytes e.0, e.1)) entries

-- and of a map of names
abbrev pub named_in : BTreeMap (String Global) Val → List (List ℕ × Val)
named_in m = pairs_named m.entries
