-- Chains of comparisons, whose leaps are told their target at the end of the chain.
use Rattle.std.specs.Prelude.{◌≡◌, ℕ, ◌+◌, suc, Bool, false, not, List, [], ◌∷◌, ◌++◌, length, Option, None, Some, option_and_then}
use Rattle.std.proofs.Math.ListN.{set}
use Rattle.template_values_model.specs.Val.{Val}
use Rattle.template_values_core.specs.Reads.{is_true}
use Rattle.template_compiler_tree.specs.declared.operators.CompareOpKind.{CompareOpKind}
use Rattle.template_compiler_tree.specs.Tree.{Expression, Links, no_links, links_more}
use Rattle.template_compiler_walk.specs.Constants.{chain_constant, chain_decided}
use Rattle.template_compiler_code.specs.Code.{Code, compare_and_preserve, jump_if_false_or_pop}
use Rattle.template_compiler_code.specs.Listing.{code_in}
use Rattle.template_compiler_code.specs.declared.listing.Instructions.{Instructions}
use Rattle.template_compiler_codegen.specs.Expressions.{Coded, one, then_code, expression_code}
use Rattle.template_compiler_emission.specs.Puts.{Keeps}

-- some code stands behind the instructions
pub record Grows (old new : Instructions) : Type 0 where
  pub rest : List Code
  pub code : code_in new ≡ code_in old ++ rest
  pub same : Keeps old new

-- a comparison behind the value at its left
abbrev pub link_code : CompareOpKind → Expression → Coded
link_code op e = then_code (expression_code e) (one (compare_and_preserve op))

-- later comparisons whose leaps all lead to one place
abbrev pub linked_to : ℕ → Links → Coded
linked_to to no_links place = []
linked_to to (links_more op e links) place =
    let piece = link_code op e (suc place) in jump_if_false_or_pop to ∷ (piece ++ linked_to to links (suc place + length piece))

-- the places of those leaps
abbrev pub leaps_in : Links → ℕ → List ℕ
leaps_in no_links place = []
leaps_in (links_more op e links) place = place ∷ leaps_in links (suc place + length (link_code op e (suc place)))

-- the leaps at the places lead to a target
abbrev pub leapt : ℕ → List ℕ → List Code → List Code
leapt to [] code = code
leapt to (place ∷ places) code = set (leapt to places code) place (jump_if_false_or_pop to)

-- behind a comparison that is constant, its right side may be constant too
abbrev pub left_behind : Option Val → Option Val → Option Val
left_behind holds right = option_and_then (λ h. right) holds

-- a comparison that is constant and false: the chain ends behind it
abbrev pub is_false : Option Val → Bool
is_false (Some holds) = not (is_true holds)
is_false None = false

-- the constant of a chain, from what is known so far: the truth, and the side at the left of what is left
abbrev pub constant_behind : Option Val → Option Val → Links → Option Val
constant_behind holds left links = option_and_then (λ h. chain_decided h links (option_and_then (λ v. chain_constant v links) left)) holds
