-- Items in lists of some lengths.
use Rattle.std.specs.Prelude.{ℕ, ◌+◌, ◌-◌, ◌/◌, ◌%◌, ℤ, pos, negsuc, ◌&&◌, nat_le, if◌then◌else◌, List, [], ◌∷◌, ◌++◌, length, take, drop, replicate, Option, None, Some, Result, Ok}
use Rattle.std.specs.Int.{div_ceil}
use Rattle.template_values_errors.specs.declared.ErrorKind.{ErrorKind}
use Rattle.template_values_model.specs.Val.{Val}
use Rattle.template_values_operators.specs.Kinds.{is_none}
use Rattle.template_builtins_arguments.specs.Answers.{Made, then as after, refused}
use Rattle.template_builtins_arguments.specs.Arguments.{needed_from, whole}
use Rattle.template_builtins_paths.specs.Items.{each}
use Rattle.template_builtins_lists.specs.Lists.{list_from}
use Rattle.template_builtins_lists.specs.declared.lines.TheConstants.{LINES_LIMIT}

-- how many there are to be, at least one
abbrev pub counted : ℤ → Result ℕ ErrorKind
counted (pos n) = if nat_le 1 n && nat_le n LINES_LIMIT then Ok n else refused
counted (negsuc n) = refused

unfoldable pub count_from : Option Val → Result ℕ ErrorKind
count_from given = after (needed_from given) (λ v. after (whole v) counted)

-- the items in pieces of these lengths
abbrev pub cut : List ℕ → List Val → List (List Val)
cut [] items = []
cut (n ∷ ns) items = take n items ∷ cut ns (drop n items)

-- of so many items in pieces of n items each
abbrev pub batch_lengths : ℕ → ℕ → List ℕ
batch_lengths n count = replicate (div_ceil count n) n

-- in n pieces, of which the first have one item more, where items are left over
abbrev pub slice_lengths : ℕ → ℕ → List ℕ
slice_lengths n count = replicate (count % n) (div_ceil count n) ++ replicate (n - count % n) (count / n)

-- as many items as there are to be, with a filling that is not none at the end
abbrev pub filled : ℕ → Option Val → List Val → List Val
filled width None items = items
filled width (Some v) items = if is_none v then items else items ++ replicate (width - length items) v

unfoldable pub filled_list : ℕ → Option Val → List Val → Made
filled_list width filling items = list_from (filled width filling items)

-- lists of such lengths, each filled
abbrev pub lists_cut : List ℕ → ℕ → Option Val → List Val → Result (List Val) ErrorKind
lists_cut lengths width filling items = each (filled_list width filling) (cut lengths items)

-- lists of n items
unfoldable pub batched : ℕ → Option Val → List Val → Made
batched n filling items = after (lists_cut (batch_lengths n (length items)) n filling items) list_from

-- n lists, filled up to the length of the longest
unfoldable pub sliced : ℕ → Option Val → List Val → Made
sliced n filling items =
    after (lists_cut (slice_lengths n (length items)) (div_ceil (length items) n) filling items) list_from
