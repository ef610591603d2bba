-- Values that stand on the operands in turn, the last one on top, are stored where imported names are.
use Rattle.std.proofs.Common.{◌≡◌, ℕ, ◌+◌, suc, List, [], ◌∷◌, length, arith}
use Rattle.template_values_model.specs.Val.{Val}
use Rattle.template_compiler_tree.specs.Tree.{Imports, no_imports, imports_more}
use Rattle.template_compiler_process.specs.Process.{Process, Below}
use Rattle.template_compiler_walk.specs.Statements.{number_of, target_walk, imported_names, stored_as, imports_stored}
use Rattle.template_compiler_code.specs.Code.{Operand, single, Code}
use Rattle.template_compiler_code.specs.Steps.{exec}
use Rattle.template_compiler_codegen.specs.Core.{no_ways, flat}
use Rattle.template_compiler_codegen.specs.Expressions.{Coded, then_code, nothing}
use Rattle.template_compiler_codegen.specs.Statements.{target_code, imports_core}
use Rattle.template_compiler_codegen.proofs.Standing.{StandsAt, behind_then, stands_first, stands_second}
use Rattle.template_compiler_codegen.proofs.Expressions.{moved, pushed}
use Rattle.template_compiler_codegen.proofs.Storing.{stores}

abbrev pub imports_code : Imports → Coded
imports_code names = flat no_ways (imports_core names)

-- code that takes so many values
abbrev pub StoresPushed : Coded → (List Val → Process → Process) → ℕ → Type 0
StoresPushed piece walk count = (code : List Code) (place : ℕ) → StandsAt code place (piece place) → (k : ℕ) → (j : ℕ) × ((vs : List Val) → length vs ≡ count → (operands : List Operand) (go : Process)
    → Below go (exec code k (place + length (piece place)) operands) → Below (walk vs go) (exec code j place (pushed vs operands)))

over_nothing : (code : List Code) (k place : ℕ) (vs : List Val) → length vs ≡ 0 → (operands : List Operand) (go : Process)
    → Below go (exec code k (place + length (nothing place)) operands) → Below go (exec code k place (pushed vs operands))
unfolding pushed
over_nothing code k place [] none operands go below =
    let same : place + length (nothing place) ≡ place = omega arith in moved code k (place + length (nothing place)) place operands go same below
over_nothing code k place (v ∷ vs) none operands go below = absurd (omega (arith, none))

-- the later ones first
over_later : (code : List Code) (j place count : ℕ) (all : List Val → Process → Process) (operands : List Operand) (go : Process)
    → ((v : Val) (vs : List Val) → length vs ≡ count → Below (all (v ∷ vs) go) (exec code j place (pushed vs (single v ∷ operands))))
    → (vs : List Val) → length vs ≡ suc count → Below (all vs go) (exec code j place (pushed vs operands))
unfolding pushed
over_later code j place count all operands go h [] many = absurd (omega (arith, many))
over_later code j place count all operands go h (v ∷ vs) many = h v vs (omega arith)

pub stores_imports : (names : Imports) → StoresPushed (imports_code names) (imports_stored names) (number_of (imported_names names))
stores_imports no_imports code place h k = (k, λ vs none operands go below. over_nothing code k place vs none operands go below)
stores_imports (imports_more e alias more) code place h k =
    let target = stored_as e alias in
    let first = imports_code more in
    let second = target_code target in
    let mid = place + length (first place) in
    let b = stores target code mid (stands_second code place first second h) k in
    let a = stores_imports more code place (stands_first code place first second h) b.0 in (
      a.0,
      λ vs many operands go below.
          over_later code a.0 place (number_of (imported_names more)) (imports_stored (imports_more e alias more)) operands go
          (λ v us few. a.1 us few (single v ∷ operands) (target_walk target v go)
          (b.1 v operands go (moved code k (place + length (then_code first second place)) (mid + length (second mid)) operands go (behind_then first second place) below)))
          vs many,
    )
