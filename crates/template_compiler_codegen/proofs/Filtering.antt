-- The code of the filters of a block performs their walk, over the text that they are handed.
use Rattle.std.proofs.Common.{ℕ, ◌+◌, List, ◌∷◌, length, refl}
use Rattle.template_values_model.specs.Val.{Val}
use Rattle.template_compiler_tree.specs.Tree.{Expression, Arguments, filtered, absent, given}
use Rattle.template_compiler_process.specs.Process as events
use Rattle.template_compiler_process.specs.Process.{Process}
use Rattle.template_compiler_process.proofs.Below.{below-cut_short}
use Rattle.template_compiler_walk.specs.Expressions.{Giving, passed_walk, positional_walks, keyword_walks, filter_walk, filters_walk}
use Rattle.template_compiler_code.specs.Code.{single, apply_filter}
use Rattle.template_compiler_codegen.specs.Core.{no_ways, flat}
use Rattle.template_compiler_codegen.specs.Expressions.{Coded, then_code, no_number, passed_count, passed_core, positional_cores, keyword_cores, filter_code, filters_code}
use Rattle.template_compiler_codegen.proofs.Standing.{behind_then, stands_first, stands_second}
use Rattle.template_compiler_codegen.proofs.Expressions.{Over, moved}
use Rattle.template_compiler_codegen.proofs.Plain.{plain_positional}
use Rattle.template_compiler_codegen.proofs.Behind.{over_anywhere}
use Rattle.template_compiler_codegen.proofs.Passing.{over_front}
use Rattle.template_compiler_codegen.proofs.Performing.{takes, spreads_alike, merges_alike, performs_positional, performs_keyword}
use Rattle.template_compiler_codegen.proofs.Storing.{Stores}

-- a piece over a value, and another over the value that the first gives
over_then : (first second : Coded) (walk more : Val → Giving) → Over first walk → Over second more
    → Over (then_code first second) (λ v go. walk v (λ w. more w go))
over_then first second walk more f g code place h k =
    let mid = place + length (first place) in
    let later = g code mid (stands_second code place first second h) k in
    let earlier = f code place (stands_first code place first second h) later.0 in (
      earlier.0,
      λ v operands go below.
          earlier.1 v operands (λ w. more w go)
          (λ w. later.1 w operands go
          (λ u. moved code k (place + length (then_code first second place)) (mid + length (second mid)) (single u ∷ operands) (go u) (behind_then first second place) (below u))),
    )

-- a piece over a value, and what takes the value that it gives
pub stores_over : (first second : Coded) (walk : Val → Giving) (more : Val → Process → Process) → Over first walk → Stores second more
    → Stores (then_code first second) (λ v go. walk v (λ w. more w go))
stores_over first second walk more f g code place h k =
    let mid = place + length (first place) in
    let later = g code mid (stands_second code place first second h) k in
    let earlier = f code place (stands_first code place first second h) later.0 in (
      earlier.0,
      λ v operands go below.
          earlier.1 v operands (λ w. more w go)
          (λ w. later.1 w operands go
          (moved code k (place + length (then_code first second place)) (mid + length (second mid)) operands go (behind_then first second place) below)),
    )

over_filter : (name : List ℕ) (args : Arguments) → Over (filter_code name args) (filter_walk name args)
over_filter name args =
    let pieces = positional_cores args in
    let named = keyword_cores args in
    over_anywhere (filter_code name args) (filter_walk name args) (λ code before.
    over_front code before (λ front. passed_walk front (positional_walks args) (keyword_walks args)) (flat no_ways (passed_core 1 pieces named)) (passed_count 1 pieces named)
    (takes code before 1 pieces (positional_walks args) (performs_positional args) (plain_positional args) (spreads_alike args) named (keyword_walks args) (performs_keyword code before args) (merges_alike args))
    (apply_filter name (passed_count 1 pieces named) no_number) (events.apply_filter name) (λ next so_many place operands. refl))

pub over_filters : (e : Expression) → Over (filters_code e) (filters_walk e)
over_filters (filtered name absent args) = over_filter name args
over_filters (filtered name (given e) args) = over_then (filters_code e) (filter_code name args) (filters_walk e) (filter_walk name args) (over_filters e) (over_filter name args)
over_filters _ = λ code place h k. (0, λ v operands go below. below-cut_short _)
