-- The names that instructions refer to: those that are looked up, stored or called, and `loop` where a loop with its
-- variable begins.
use Rattle.std.specs.Prelude.{ℕ, zero, suc, pred, min, ◌==◌, Bool, true, false, List, [], ◌∷◌, ◌++◌, length, Option, None, Some, option_and_then, slice_get, bytes_eq, codes, if◌then◌else◌}
use Rattle.std.specs.List.{list_any}
use Rattle.template_compiler_code.specs.Code.{Code, lookup, store_local, call_function, push_loop, jump, return}
use Rattle.template_compiler_code.specs.Counting.{has_variable}

abbrev pub name_referred : Code → Option (List ℕ)
name_referred (lookup name) = Some name
name_referred (store_local name) = Some name
name_referred (call_function name count) = Some name
name_referred (push_loop flags) = if has_variable flags then Some (codes "loop") else None
name_referred _ = None

abbrev pub name_at : List Code → ℕ → Option (List ℕ)
name_at code place = option_and_then name_referred (slice_get code place)

abbrev pub is_among : List ℕ → List (List ℕ) → Bool
is_among name names = list_any (λ other. bytes_eq other name) names

-- the names, and behind them one more, unless it is among them
abbrev pub names_with : List (List ℕ) → Option (List ℕ) → List (List ℕ)
names_with names None = names
names_with names (Some name) = if is_among name names then names else names ++ name ∷ []

-- The body of a macro stands behind a jump that leads past its `Return`.

abbrev pub is_return : Option Code → Bool
is_return (Some return) = true
is_return _ = false

abbrev pub is_jump_to : ℕ → Option Code → Bool
is_jump_to end (Some (jump to)) = to == end
is_jump_to end _ = false

-- the jump before the body of a macro
abbrev pub opens_body : List Code → Option Code → Bool
opens_body code (Some (jump to)) = is_return (slice_get code (pred to))
opens_body code _ = false

-- The names, and behind them those of the instructions before a place, the latest first: as far as the body of the macro
-- around it begins, and without the bodies that end before it. Such a body may be under way: that which ends before a
-- place where its opening jump leads.
abbrev pub names_behind : List Code → List (List ℕ) → Option ℕ → ℕ → List (List ℕ)
names_behind code names body zero = names
names_behind code names (Some end) (suc place) = names_behind code names (if is_jump_to end (slice_get code place) then None else Some end) place
names_behind code names None (suc place) = if is_return (slice_get code place)
    then names_behind code names (Some (suc place)) place
    else if opens_body code (slice_get code place)
    then names
    else names_behind code (names_with names (name_at code place)) None place

-- those of the instruction at a place, and of those before it; a place behind the last one counts as the last
abbrev pub names_before : List Code → ℕ → List (List ℕ)
names_before code index =
    let place = min index (pred (length code)) in
    if opens_body code (slice_get code place) then [] else names_behind code (names_with [] (name_at code place)) None place
