-- Targets store what stands on top: from any place, over any operands.
use Rattle.std.proofs.Common.{◌≡◌, ℕ, ◌+◌, ◌==◌, suc, true, List, [], ◌∷◌, ◌++◌, length, map, refl, sym, ◌∙◌, arith}
use Rattle.std.proofs.lemmas.Bool.Decides.{nat_tests}
use Rattle.template_values_model.specs.Val.{Val}
use Rattle.template_compiler_tree.specs.Tree.{Expression, Expressions, variable, attribute, list_literal, no_expressions, expressions_more}
use Rattle.template_compiler_process.specs.Process.{store, set_attribute, unpack, Process, step, asks, on_done, on_items, Below}
use Rattle.template_compiler_process.proofs.Below.{below-cut_short, below-step, below-asks_items_of}
use Rattle.template_compiler_walk.specs.Expressions.{expression_walk}
use Rattle.template_compiler_walk.specs.Statements.{number_of, target_walk, targets_walk}
use Rattle.template_compiler_code.specs.Code.{Operand, single, Code, store_local, set_attr, unpack_list}
use Rattle.template_compiler_code.specs.Steps.{exec}
use Rattle.template_compiler_codegen.specs.Expressions.{Coded, then_code, one, nothing, expression_code}
use Rattle.template_compiler_codegen.specs.Statements.{target_code, targets_code}
use Rattle.template_compiler_codegen.proofs.Standing.{StandsAt, instruction_at, below_at, behind_then, stands_first, stands_second}
use Rattle.template_compiler_codegen.proofs.Expressions.{behind_single, done_at, moved}
use Rattle.template_compiler_codegen.proofs.Performing.{performs}

-- code that takes a value and does not look at the ways out
abbrev pub Stores : Coded → (Val → Process → Process) → Type 0
Stores piece walk = (code : List Code) (place : ℕ) → StandsAt code place (piece place) → (k : ℕ) → (j : ℕ) × ((v : Val) (operands : List Operand) (go : Process)
    → Below go (exec code k (place + length (piece place)) operands) → Below (walk v go) (exec code j place (single v ∷ operands)))

-- values in turn on the operands, the first one on top, which code takes
abbrev pub StoresAll : Coded → (List Val → Process → Process) → ℕ → Type 0
StoresAll piece walk count = (code : List Code) (place : ℕ) → StandsAt code place (piece place) → (k : ℕ) → (j : ℕ) × ((vs : List Val) → length vs ≡ count → (operands : List Operand) (go : Process)
    → Below go (exec code k (place + length (piece place)) operands) → Below (walk vs go) (exec code j place (map single vs ++ operands)))

stores_name : (name : List ℕ) → Stores (one (store_local name)) (λ v go. step (asks (store name v) (on_done go)))
stores_name name code place h k = (
  suc k,
  λ v operands go below. done_at code place (store_local name) [] h k (single v ∷ operands) operands (store name v) go refl
      (moved code k (place + length (one (store_local name) place)) (suc place) operands go (sym (behind_single place (store_local name))) below),
)

-- an attribute is set on what an expression gives
stores_attribute : (e : Expression) (name : List ℕ) → Stores (then_code (expression_code e) (one (set_attr name))) (λ v go. expression_walk e (λ holder. step (asks (set_attribute name v holder) (on_done go))))
stores_attribute e name code place h k =
    let first = expression_code e in
    let last = one (set_attr name) in
    let mid = place + length (first place) in
    let a = performs e code place (stands_first code place first last h) (suc k) in (
      a.0,
      λ v operands go below.
          a.1 (single v ∷ operands) (λ holder. step (asks (set_attribute name v holder) (on_done go)))
          (λ holder. done_at code mid (set_attr name) [] (stands_second code place first last h) k (single holder ∷ single v ∷ operands) operands (set_attribute name v holder) go refl
          (moved code k (place + length (then_code first last place)) (suc mid) operands go (behind_then first last place ∙ sym (behind_single mid (set_attr name))) below)),
    )

over_none : (code : List Code) (k place : ℕ) (vs : List Val) → length vs ≡ 0 → (operands : List Operand) (go : Process) → Below go (exec code k place operands) → Below go (exec code k place (map single vs ++ operands))
over_none code k place [] none operands go below = below
over_none code k place (v ∷ vs) none operands go below = absurd (omega (arith, none))

pub no_targets : StoresAll nothing (λ vs go. go) 0
no_targets code place h k =
    let same : place + length (nothing place) ≡ place = omega arith in
    (k, λ vs none operands go below. over_none code k place vs none operands go (moved code k (place + length (nothing place)) place operands go same below))

pub over_more : (code : List Code) (j place : ℕ) (all : List Val → Process → Process) (count : ℕ) (operands : List Operand) (go : Process)
    → ((v : Val) (vs : List Val) → length vs ≡ count → Below (all (v ∷ vs) go) (exec code j place (single v ∷ (map single vs ++ operands))))
    → (vs : List Val) → length vs ≡ suc count → Below (all vs go) (exec code j place (map single vs ++ operands))
over_more code j place all count operands go h [] many = absurd (omega (arith, many))
over_more code j place all count operands go h (v ∷ vs) many = h v vs (omega arith)

more_targets : (target : Expression) (targets : Expressions) → Stores (target_code target) (target_walk target) → StoresAll (targets_code targets) (targets_walk targets) (number_of targets)
    → StoresAll (then_code (target_code target) (targets_code targets)) (targets_walk (expressions_more target targets)) (suc (number_of targets))
more_targets target targets f g code place h k =
    let first = target_code target in
    let more = targets_code targets in
    let mid = place + length (first place) in
    let b = g code mid (stands_second code place first more h) k in
    let a = f code place (stands_first code place first more h) b.0 in (
      a.0,
      λ vs many operands go below.
          over_more code a.0 place (targets_walk (expressions_more target targets)) (number_of targets) operands go
          (λ v us few. a.1 v (map single us ++ operands) (targets_walk targets us go)
          (b.1 us few operands go (moved code k (place + length (then_code first more place)) (mid + length (more mid)) operands go (behind_then first more place) below)))
          vs many,
    )

count_of : (n m : ℕ) → (n == m) ≡ true → n ≡ m
count_of n m e = grind (arith, nat_tests)

unpacks : (targets : Expressions) → StoresAll (targets_code targets) (targets_walk targets) (number_of targets)
    → Stores (then_code (one (unpack_list (number_of targets))) (targets_code targets)) (λ v go. step (asks (unpack (number_of targets) v) (on_items (number_of targets) (λ vs. targets_walk targets vs go))))
unpacks targets g code place h k =
    let n = number_of targets in
    let first = one (unpack_list n) in
    let more = targets_code targets in
    let mid = place + length (first place) in
    let b = g code mid (stands_second code place first more h) k in (
      suc b.0,
      λ v operands go below.
          below_at code place (unpack_list n) (instruction_at code place (unpack_list n) [] (stands_first code place first more h)) b.0 (single v ∷ operands) (step (asks (unpack n v) (on_items n (λ vs. targets_walk targets vs go))))
          (below-step _ _ (below-asks_items_of (unpack n v) n (λ vs. targets_walk targets vs go) (λ vs. exec code b.0 (suc place) (map single vs ++ operands))
          (λ vs many. moved code b.0 mid (suc place) (map single vs ++ operands) (targets_walk targets vs go) (sym (behind_single place (unpack_list n)))
          (b.1 vs (count_of (length vs) n many) operands go (moved code k (place + length (then_code first more place)) (mid + length (more mid)) operands go (behind_then first more place) below))))),
    )

mutual
  pub stores : (target : Expression) → Stores (target_code target) (target_walk target)
  stores (variable name) = stores_name name
  stores (attribute e name) = stores_attribute e name
  stores (list_literal targets) = unpacks targets (stores_all targets)
  stores _ = λ code place h k. (0, λ v operands go below. below-cut_short _)

  stores_all : (targets : Expressions) → StoresAll (targets_code targets) (targets_walk targets) (number_of targets)
  stores_all no_expressions = no_targets
  stores_all (expressions_more target targets) = more_targets target targets (stores target) (stores_all targets)
