-- Arguments whose code is put one by one: those that are passed by their place, or those that are passed by a name.
use Rattle.std.specs.Prelude.{◌≡◌, ℕ, ◌+◌, ◌++◌, ◌||◌, Bool, List, length}
use Rattle.template_compiler_tree.specs.Tree.{Argument, Arguments, arguments_more}
use Rattle.template_compiler_walk.specs.Expressions.{Passing, has_spread}
use Rattle.template_compiler_code.specs.Listing.{code_in}
use Rattle.template_compiler_code.specs.declared.listing.Instructions.{Instructions}
use Rattle.template_compiler_codegen.specs.Core.{Core, no_ways, flat}
use Rattle.template_compiler_codegen.specs.Expressions.{Coded, listed_core, mapped_core, stretches_core, entries_stretches_core, list_count, rest_count, merged_core, keywords_core, run_core, positional_cores, keyword_cores}
use Rattle.template_compiler_emission.specs.Puts.{Keeps, Puts}
use Rattle.template_compiler_expression_codegen.specs.declared.stretches.Stretches.{Stretches}

abbrev pub listed_code : ℕ → Coded
listed_code n = flat no_ways (listed_core n)

abbrev pub mapped_code : ℕ → Coded
mapped_code n = flat no_ways (mapped_core n)

abbrev pub merged_code : Bool → ℕ → Coded
merged_code several n = flat no_ways (merged_core several n)

abbrev pub run_code : Bool → ℕ → ℕ → Coded
run_code spread lists values = flat no_ways (run_core spread lists values)

abbrev pub stretches_code : ℕ → List (Passing Core Core) → Coded
stretches_code n args = flat no_ways (stretches_core n args)

abbrev pub named_code : ℕ → List (Passing (List ℕ × Core) Core) → Coded
named_code n named = flat no_ways (entries_stretches_core n named)

abbrev pub keywords_code : List (Passing (List ℕ × Core) Core) → Coded
keywords_code named = flat no_ways (keywords_core named)

-- one argument is put: whatever arguments follow, they make of what is now what they and the one make of what was before
pub record PassesOne (X : Type 0) (cores : Arguments → List (Passing X Core)) (code_of : ℕ → List (Passing X Core) → Coded) (argument : Argument) (so_far now : Stretches) (old new : Instructions) : Type 0 where
  pub lists : (rest : Arguments) → now.lists + list_count now.last (cores rest) ≡ so_far.lists + list_count so_far.last (cores (arguments_more argument rest))
  pub last : (rest : Arguments) → rest_count now.last (cores rest) ≡ rest_count so_far.last (cores (arguments_more argument rest))
  pub spread : (rest : Arguments) → (now.spread || has_spread (cores rest)) ≡ (so_far.spread || has_spread (cores (arguments_more argument rest)))
  pub code : (rest : Arguments) → code_in new ++ code_of now.last (cores rest) (length (code_in new))
      ≡ code_in old ++ code_of so_far.last (cores (arguments_more argument rest)) (length (code_in old))
  pub same : Keeps old new

abbrev pub PassesByPlace : Argument → Stretches → Stretches → Instructions → Instructions → Type 0
PassesByPlace argument so_far now old new = PassesOne Core positional_cores stretches_code argument so_far now old new

abbrev pub PassesByName : Argument → Stretches → Stretches → Instructions → Instructions → Type 0
PassesByName argument so_far now old new = PassesOne (List ℕ × Core) keyword_cores named_code argument so_far now old new

-- all arguments are put, behind so many values or entries
pub record PassesAll (X : Type 0) (front : ℕ) (args : List (Passing X Core)) (code : Coded) (now : Stretches) (old new : Instructions) : Type 0 where
  pub lists : now.lists ≡ list_count front args
  pub last : now.last ≡ rest_count front args
  pub spread : now.spread ≡ has_spread args
  pub put : Puts code old new

abbrev pub ArePassedByPlace : ℕ → Arguments → Stretches → Instructions → Instructions → Type 0
ArePassedByPlace front args now old new =
    PassesAll Core front (positional_cores args) (stretches_code front (positional_cores args)) now old new

abbrev pub ArePassedByName : Arguments → Stretches → Instructions → Instructions → Type 0
ArePassedByName args now old new = PassesAll (List ℕ × Core) 0 (keyword_cores args) (named_code 0 (keyword_cores args)) now old new
