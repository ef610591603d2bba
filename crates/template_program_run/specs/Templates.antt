-- The templates that the words name by their paths.
use Rattle.std.specs.Prelude.{◌≡◌, ◌^◌, ℕ, Bool, true, false, List, [], ◌∷◌, map, codes, All, Contains, IfSome, Option}
use Rattle.template_program_parts.specs.Reading.{LacksText}

-- the names of the templates: the paths of the files, or the one of the input where none is given
abbrev pub template_names : List (List ℕ) → List (List ℕ)
template_names [] = codes "<stdin>" ∷ []
template_names (path ∷ paths) = path ∷ paths

-- the names of templates
abbrev pub addition_names : List (List ℕ × List ℕ) → List (List ℕ)
addition_names additions = map (λ a. a.0) additions

-- the first of the names
abbrev pub first_name : List (List ℕ) → List ℕ
first_name [] = []
first_name (name ∷ names) = name

-- a template holds what stands under its name, where that is told
abbrev pub IsReadFrom : (List ℕ → Option (List ℕ)) → List ℕ × List ℕ → Type 0
IsReadFrom content template = IfSome (content template.0) (λ all. template.1 ≡ all)

-- the input is the one template, where its bytes are told
abbrev pub IsInput : Option (List ℕ) → List (List ℕ × List ℕ) → Type 0
IsInput input additions = IfSome input (λ all. additions ≡ (codes "<stdin>", all) ∷ [])

-- the templates are the files of these paths; or the input, if it is read in their place
abbrev pub AreTemplates : (List ℕ → Option (List ℕ)) → Option (List ℕ) → List (List ℕ) → List (List ℕ × List ℕ) → Bool → Type 0
AreTemplates content input paths additions true = (addition_names additions ≡ template_names []) × IsInput input additions
AreTemplates content input paths additions false = (addition_names additions ≡ paths) × All (IsReadFrom content) additions

-- an input of so many bytes or more is refused
abbrev pub input_limit : ℕ
input_limit = 2 ^ 32

-- an input of which no read may fail is too long, or no text, where its bytes are told
abbrev pub LacksInput : Bool → Option (List ℕ) → Type 0
LacksInput may_fail input = may_fail ≡ false → LacksText input input_limit

-- one of these files cannot be had
abbrev pub LacksFiles : (List ℕ → Option (List ℕ)) → List (List ℕ) → Type 0
LacksFiles content paths = (path : List ℕ) × Contains paths path × LacksText (content path) input_limit

-- a template cannot be had: one of the files, or the input, if it is read in their place
abbrev pub LacksTemplate : (List ℕ → Option (List ℕ)) → Bool → Option (List ℕ) → List (List ℕ) → Bool → Type 0
LacksTemplate content may_fail input paths true = LacksInput may_fail input
LacksTemplate content may_fail input paths false = LacksFiles content paths

-- the input is as it was
abbrev pub IsSameInput : Bool → Option (List ℕ) → Bool → Option (List ℕ) → Type 0
IsSameInput may_fail input may_fail_after input_after = (may_fail_after ≡ may_fail) × (input_after ≡ input)
