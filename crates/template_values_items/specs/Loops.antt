-- What a loop has under the later ones of its names.
use Rattle.std.specs.Prelude.{ℕ, suc, ◌==◌, pos, List, length, slice_get, unwrap_or, if◌then◌else◌, codes}
use Rattle.std.specs.Str.{bytes_eq}
use Rattle.template_values_model.specs.Val.{Val, undefined, truth, int}
use Rattle.template_values_operators.specs.Records.{is_last, item_before}

-- under a name that tells no place and no number of items
abbrev pub loop_rest : List ℕ → List Val → ℕ → ℕ → Val
loop_rest name items place depth =
    if bytes_eq name (codes "first") then truth (place == 0)
    else (if bytes_eq name (codes "last") then truth (is_last place (length items))
    else (if bytes_eq name (codes "depth") then int (pos (suc depth))
    else (if bytes_eq name (codes "depth0") then int (pos depth)
    else (if bytes_eq name (codes "previtem") then unwrap_or (item_before place items) undefined
    else (if bytes_eq name (codes "nextitem") then unwrap_or (slice_get items (suc place)) undefined
    else undefined)))))
