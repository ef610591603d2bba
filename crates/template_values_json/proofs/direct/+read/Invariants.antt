use Rattle.std.proofs.Common.{◌≡◌, ℕ, ◌+◌, ◌*◌, ◌≤◌, ◌++◌, length}
use Rattle.json.specs.Json.{items, members, value, parse_map}
use Rattle.serde_json.specs.Read.{converted}
use Rattle.template_values_core.specs.Shape.{pairs_in}
use Rattle.template_values_json.specs.Whole.{whole_pairs, whole_values}
use Rattle.template_values_json.proofs.Turns.{vals_before}
use Rattle.template_values_json.proofs.direct.+read.Given as goal

abbrev pub decreases-read_value : goal.decreases-read_value
decreases-read_value l = 3 * l.depth + 2

abbrev pub decreases-read_list : goal.decreases-read_list
decreases-read_list l = 3 * l.depth + 1

abbrev pub decreases-read_map : goal.decreases-read_map
decreases-read_map l = 3 * l.depth + 1

abbrev pub decreases-read_values : goal.decreases-read_values
decreases-read_values l = 3 * l.depth + 3

abbrev pub decreases-read_entries : goal.decreases-read_entries
decreases-read_entries l = 3 * l.depth + 3

-- the values so far and those of the items that are left are those of all
abbrev pub invariant-read_values-items : goal.invariant-read_values-items
invariant-read_values-items l =
    (n : ℕ) × (length l.reader ≤ n)
    × (converted whole_values (items (value l.depth) (length l.initial.reader) l.initial.reader) ≡ parse_map (vals_before l.values.items) (converted whole_values (items (value l.depth) n l.reader)))
    × (length l.reader ≤ length l.initial.reader)

abbrev pub decreases-read_values-items : goal.decreases-read_values-items
decreases-read_values-items l = length l.reader

-- the entries so far and those of the members that are left are those of all
abbrev pub invariant-read_entries-members : goal.invariant-read_entries-members
invariant-read_entries-members l =
    (n : ℕ) × (length l.reader ≤ n)
    × (converted whole_pairs (members (value l.depth) (length l.initial.reader) l.initial.reader) ≡ parse_map (λ later. pairs_in l.entries.items ++ later) (converted whole_pairs (members (value l.depth) n l.reader)))
    × (length l.reader ≤ length l.initial.reader)

abbrev pub decreases-read_entries-members : goal.decreases-read_entries-members
decreases-read_entries-members l = length l.reader
