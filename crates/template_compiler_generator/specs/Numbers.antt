-- The numbers of the names of filters and of tests.
use Rattle.std.specs.Prelude.{◌≡◌, ℕ, ◌||◌, if◌then◌else◌, List, [], ◌∷◌, ◌++◌, length, map, nat_le, bytes_eq, Option, None, Some, is_some, slice_get, unwrap_or}
use Rattle.std.specs.List.{position}
use Rattle.std.proofs.Math.ListN.{set}
use Rattle.template_compiler_code.specs.Code.{Code, apply_filter, perform_test}

-- the place of a name among others
abbrev pub place_among : List (List ℕ) → List ℕ → Option ℕ
place_among names name = position (λ other. bytes_eq other name) names

-- the number of a name is its place among those that have numbers, from 0 on; one that has none has 255
abbrev pub no_number : ℕ
no_number = 255

abbrev pub number_among : List (List ℕ) → List ℕ → ℕ
number_among names name = unwrap_or (place_among names name) no_number

-- the names that have numbers, and one more behind them, unless it has one or they are 50
abbrev pub with_name : List (List ℕ) → List ℕ → List (List ℕ)
with_name names name = if is_some (place_among names name) || nat_le 50 (length names) then names else names ++ name ∷ []

-- the names of filters that have numbers, and those of tests
pub record Names : Type 0 where
  pub filters : List (List ℕ)
  pub tests : List (List ℕ)

abbrev pub no_names : Names
no_names = record { filters = []; tests = [] }

-- those that have them behind an instruction
abbrev pub names_with : Names → Code → Names
names_with names (apply_filter name count number) = record names { filters = with_name names.filters name }
names_with names (perform_test name count number) = record names { tests = with_name names.tests name }
names_with names _ = names

-- an instruction with its number
abbrev pub numbered : Names → Code → Code
numbered names (apply_filter name count number) = apply_filter name count (number_among names.filters name)
numbered names (perform_test name count number) = perform_test name count (number_among names.tests name)
numbered names c = c

-- code behind which these names have numbers
abbrev pub numbered_behind : Names → List Code → List Code
numbered_behind names [] = []
numbered_behind names (c ∷ code) = numbered (names_with names c) c ∷ numbered_behind (names_with names c) code

-- Code with its numbers: the first 50 names of filters have those from 0 on, in the order in which they first stand, and
-- others have 255; and so have the names of tests.
unfoldable pub numbered_in : List Code → List Code
numbered_in code = numbered_behind no_names code

-- an instruction as it is whatever its number
abbrev pub bare : Code → Code
bare (apply_filter name count number) = apply_filter name count no_number
bare (perform_test name count number) = perform_test name count no_number
bare c = c

-- the name of the filter or the test at a place
abbrev pub name_of : Option Code → List ℕ
name_of (Some (apply_filter name count number)) = name
name_of (Some (perform_test name count number)) = name
name_of _ = []

abbrev pub name_at : List Code → ℕ → List ℕ
name_at code place = name_of (slice_get code place)

-- the names at places of the code: those of filters, and those of tests
abbrev pub names_at : List Code → List ℕ → List ℕ → Names
names_at code filters tests = record { filters = map (name_at code) filters; tests = map (name_at code) tests }

-- the names that have numbers behind an instruction, if there is one
abbrev pub names_past : Names → Option Code → Names
names_past names None = names
names_past names (Some c) = names_with names c

-- the code, where that instruction has its number
abbrev pub numbered_at : List Code → ℕ → Names → Option Code → List Code
numbered_at code place names None = code
numbered_at code place names (Some c) = set code place (numbered names c)

-- the instruction at a place is given its number, which its name has from then on
pub record Numbers (old new : List Code) (place : ℕ) (before after : Names) : Type 0 where
  pub names : after ≡ names_past before (slice_get old place)
  pub code : new ≡ numbered_at old place after (slice_get old place)
