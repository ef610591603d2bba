-- Parts of code with its numbers are those of code without.
use Rattle.std.proofs.Common.{◌≡◌, ℕ, ◌-◌, ◌==◌, if◌then◌else◌, List, [], ◌∷◌, length, map, Option, None, Some, option_map, refl, sym, ap, ◌∙◌}
use Rattle.std.specs.Prelude.{nat_lt, suc}
use Rattle.std.specs.Option.{option_and_then}
use Rattle.template_values_model.specs.Val.{Val}
use Rattle.template_compiler_tree.specs.Tree.{Statements}
use Rattle.template_compiler_code.specs.Code.{Code, single, apply_filter, perform_test}
use Rattle.template_compiler_code.specs.Counting.{MacroPlace, counts_of, offset_of, names_listed, macro_from, macro_at, rounds_from, rounds_at}
use Rattle.template_compiler_code.specs.Steps.{exec}
use Rattle.template_compiler_codegen.specs.Statements.{template_code}
use Rattle.template_compiler_generator.specs.Numbers.{bare, numbered_in}
use Rattle.template_compiler_generator.proofs.Alike.{bare_in, numbers_run_alike}
use Rattle.template_machine_meaning.specs.Keys.{Part, whole, body_of, rounds_of}
use Rattle.template_machine_codes.specs.Codes.{body_coded, part_coded}
use Rattle.template_machine_renders.specs.Programs.{body_in, part_in}

-- what an instruction counts, where its macro begins and what it lists does not hang on its number
bare_counts : (c : Code) → counts_of (bare c) ≡ counts_of c
bare_counts (apply_filter name count number) = refl
bare_counts (perform_test name count number) = refl
bare_counts _ = refl

bare_offset : (c : Code) → offset_of (bare c) ≡ offset_of c
bare_offset (apply_filter name count number) = refl
bare_offset (perform_test name count number) = refl
bare_offset _ = refl

bare_listed : (c : Code) → names_listed (bare c) ≡ names_listed c
bare_listed (apply_filter name count number) = refl
bare_listed (perform_test name count number) = refl
bare_listed _ = refl

macro_bare : (count : ℕ) (code : List Code) (number : ℕ) → macro_from count (map bare code) number ≡ macro_from count code number
macro_bare count [] number = refl
macro_bare count (c ∷ code) number =
    (λ i. if nat_lt number (bare_counts c i).macros then Some (record { offset = bare_offset c i; count = count })
    else macro_bare (bare_listed c i) code (number - (bare_counts c i).macros) i)

rounds_bare : (place : ℕ) (code : List Code) (number : ℕ) → rounds_from place (map bare code) number ≡ rounds_from place code number
rounds_bare place [] number = refl
rounds_bare place (c ∷ code) number =
    (λ i. if nat_lt number (bare_counts c i).rounds then Some (suc place) else rounds_bare (suc place) code (number - (bare_counts c i).rounds) i)

macro_numbered : (code : List Code) (number : ℕ) → macro_at (numbered_in code) number ≡ macro_at code number
macro_numbered code number =
    sym (macro_bare 0 (numbered_in code) number) ∙ ap (λ (cs : List Code). macro_at cs number) (bare_in code) ∙ macro_bare 0 code number

rounds_numbered : (code : List Code) (number : ℕ) → rounds_at (numbered_in code) number ≡ rounds_at code number
rounds_numbered code number =
    sym (rounds_bare 0 (numbered_in code) number) ∙ ap (λ (cs : List Code). rounds_at cs number) (bare_in code) ∙ rounds_bare 0 code number

-- so the parts are
module _ (t : Statements) (n : ℕ) where
  abbrev code : List Code
  code = template_code t

  body_alike : (vs : List Val) (o : Option MacroPlace) → option_and_then (body_in n vs (numbered_in code)) o ≡ option_and_then (body_coded n vs t) o
  body_alike vs None = refl
  body_alike vs (Some m) = λ i. if m.count == length vs then Some (numbers_run_alike code n m.offset (map single vs) i) else None

  rounds_alike : (o : Option ℕ) → option_map (λ (place : ℕ). exec (numbered_in code) n place []) o ≡ option_map (λ (place : ℕ). exec code n place []) o
  rounds_alike None = refl
  rounds_alike (Some place) = λ i. Some (numbers_run_alike code n place [] i)

  pub parts_alike : (part : Part) → part_in n part (numbered_in code) ≡ part_coded n part t
  parts_alike whole = λ i. Some (numbers_run_alike code n 0 [] i)
  parts_alike (body_of number vs) =
      ap (option_and_then (body_in n vs (numbered_in code))) (macro_numbered code number) ∙ body_alike vs (macro_at code number)
  parts_alike (rounds_of number) =
      ap (option_map (λ (place : ℕ). exec (numbered_in code) n place [])) (rounds_numbered code number) ∙ rounds_alike (rounds_at code number)
