-- What a map has under a text.
use Rattle.std.specs.Prelude.{ℕ, List, Option, None, Some, Bool, false, if◌then◌else◌}
use Rattle.std.specs.Str.{bytes_eq}
use Rattle.template_values_model.specs.Val.{Val, Pairs, text, safe_text, map, keyword_map, «module», no_pairs, pairs_more}

-- the value is this text, safe or not
abbrev pub is_text : List ℕ → Val → Bool
is_text name (text s) = bytes_eq s name
is_text name (safe_text s) = bytes_eq s name
is_text name _ = false

-- the value under a text
abbrev pub entry_at : List ℕ → Pairs → Option Val
entry_at name no_pairs = None
entry_at name (pairs_more k v ps) = if is_text name k then Some v else entry_at name ps

-- what a value that stands for scopes, as a context does, knows under a name
abbrev pub value_at : List ℕ → Val → Option Val
value_at name (map ps) = entry_at name ps
value_at name (keyword_map ps) = entry_at name ps
value_at name («module» ps s) = entry_at name ps
value_at name _ = None
