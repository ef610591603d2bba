-- Code does the same whatever its numbers.
use Rattle.std.proofs.Common.{◌≡◌, ℕ, zero, suc, List, [], ◌∷◌, map, Option, None, Some, option_map, slice_get, refl, sym, ap, ◌∙◌}
use Rattle.std.proofs.lemmas.Option.{slice_get-map}
use Rattle.template_compiler_process.specs.Process.{Process, Counts, counted_together}
use Rattle.template_compiler_code.specs.Code.{Operand, Code, apply_filter, perform_test}
use Rattle.template_compiler_code.specs.Counting.{counts_of, counts_before}
use Rattle.template_compiler_code.specs.Prices.{price_of, steps}
use Rattle.template_compiler_code.specs.Steps.{deed, act, exec}
use Rattle.template_compiler_generator.specs.Numbers.{Names, names_with, numbered, numbered_behind, numbered_in, no_names, bare}
use Rattle.template_compiler_generator.specs.NumberLaws.{NumbersRunAlike}

-- a number leaves an instruction as it is else
pub bare_numbered : (names : Names) (c : Code) → bare (numbered names c) ≡ bare c
bare_numbered names (apply_filter name count number) = refl
bare_numbered names (perform_test name count number) = refl
bare_numbered names _ = refl

bare_behind : (names : Names) (code : List Code) → map bare (numbered_behind names code) ≡ map bare code
bare_behind names [] = refl
bare_behind names (c ∷ code) =
    (λ i. bare_numbered (names_with names c) c i ∷ bare_behind (names_with names c) code i)

pub bare_in : (code : List Code) → map bare (numbered_in code) ≡ map bare code
unfolding numbered_in
bare_in code = bare_behind no_names code

-- what an instruction counts, costs and does does not hang on its number
bare_counts : (c : Code) → counts_of (bare c) ≡ counts_of c
bare_counts (apply_filter name count number) = refl
bare_counts (perform_test name count number) = refl
bare_counts _ = refl

bare_price : (c : Code) → price_of (bare c) ≡ price_of c
bare_price (apply_filter name count number) = refl
bare_price (perform_test name count number) = refl
bare_price _ = refl

bare_deed : (next : ℕ → List Operand → Process) (before : Counts) (c : Code) (place : ℕ) (operands : List Operand)
    → deed next before (bare c) place operands ≡ deed next before c place operands
bare_deed next before (apply_filter name count number) place operands = refl
bare_deed next before (perform_test name count number) place operands = refl
bare_deed next before _ place operands = refl

counts_alike : (place : ℕ) (code : List Code) → counts_before (map bare code) place ≡ counts_before code place
counts_alike zero code = refl
counts_alike (suc place) [] = refl
counts_alike (suc place) (c ∷ code) = (λ i. counted_together (bare_counts c i) (counts_alike place code i))

bare_act : (next : ℕ → List Operand → Process) (before : Counts) (o : Option Code) (place : ℕ) (operands : List Operand)
    → act next before (option_map bare o) place operands ≡ act next before o place operands
bare_act next before None place operands = refl
bare_act next before (Some c) place operands = (λ i. steps (bare_price c i) (bare_deed next before c place operands i))

bare_exec : (code : List Code) (bound place : ℕ) (operands : List Operand) → exec (map bare code) bound place operands ≡ exec code bound place operands
bare_exec code zero place operands = refl
bare_exec code (suc bound) place operands =
    (λ i. act (λ p os. bare_exec code bound p os i) (counts_alike place code i) (slice_get-map bare code place i) place operands)
    ∙ bare_act (exec code bound) (counts_before code place) (slice_get code place) place operands

-- code that differs in numbers alone does the same
pub alike_exec : (a b : List Code) → map bare a ≡ map bare b → (bound place : ℕ) (operands : List Operand)
    → exec a bound place operands ≡ exec b bound place operands
alike_exec a b same bound place operands =
    sym (bare_exec a bound place operands) ∙ ap (λ (code : List Code). exec code bound place operands) same ∙ bare_exec b bound place operands

pub numbers_run_alike : NumbersRunAlike
numbers_run_alike code bound place operands = alike_exec (numbered_in code) code (bare_in code) bound place operands
