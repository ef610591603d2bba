-- What a loop goes over: the value of an expression, or the list of those of its items that a condition keeps.
use Rattle.std.proofs.Common.{◌≡◌, ℕ, ◌+◌, zero, suc, List, [], ◌∷◌, ◌++◌, length, None, refl, sym, ◌∙◌, length-append, arith}
use Rattle.template_values_model.specs.Val.{Val}
use Rattle.template_compiler_tree.specs.declared.operators.BinOpKind.TheVariants.{Add}
use Rattle.template_compiler_tree.specs.Tree.{Expression, Optional, absent, given}
use Rattle.template_compiler_process.specs.Process as events
use Rattle.template_compiler_process.specs.Process.{truth_of, spread, open_loop, next_item, close_loop, Process, step, asks, on_done, on_value, on_item, on_all, truth_asked, Below}
use Rattle.template_compiler_process.proofs.Below.{below-cut_short, below-step, below-asks_item, below-asks_all}
use Rattle.template_compiler_walk.specs.Expressions.{expression_walk}
use Rattle.template_compiler_walk.specs.Statements.{target_walk, nameless_loop, kept_rounds, sifting, iterable_walk}
use Rattle.template_compiler_code.specs.Code.{Operand, single, counted, counting, Code, load_const, build_list, unpack_lists, operate, swap, dup_top, discard_top, jump, jump_if_false, push_loop, iterate, pop_loop_frame}
use Rattle.template_compiler_code.specs.Steps.{exec}
use Rattle.template_compiler_codegen.specs.Expressions.{Coded, then_code, one, either_code, expression_code}
use Rattle.template_compiler_codegen.specs.Statements.{target_code, no_flags, one_item, keep_code, kept_code, iterable_code}
use Rattle.template_compiler_codegen.proofs.Standing.{StandsAt, behind_one, instruction_at, below_at, behind_then, stands_first, stands_second, first_part, last_part, stands_either, behind_either}
use Rattle.template_compiler_codegen.proofs.Expressions.{Performs, behind_single, asks_at, done_free, moved, longer, tests_at, jumps_at}
use Rattle.template_compiler_codegen.proofs.Performing.{performs}
use Rattle.template_compiler_codegen.proofs.Storing.{stores}

-- the value on top goes into the counted run below it
keeps_at : (code : List Code) (place : ℕ) → StandsAt code place (keep_code place) → (k : ℕ) (v : Val) (kept : List Val) (operands : List Operand) (p : Process)
    → Below p (exec code k (place + length (keep_code place)) (counted (kept ++ v ∷ []) ∷ operands)) → Below (step (step p)) (exec code (suc (suc (suc k))) place (single v ∷ counted kept ∷ operands))
keeps_at code place h k v kept operands p below =
    let second = behind_one code place swap (load_const one_item ∷ operate Add ∷ []) h in
    let third = behind_one code (suc place) (load_const one_item) (operate Add ∷ []) second in
    let ends : place + length (keep_code place) ≡ suc (suc (suc place)) = omega arith in
    below_at code place swap (instruction_at code place swap (load_const one_item ∷ operate Add ∷ []) h) (suc (suc k)) (single v ∷ counted kept ∷ operands) (step (step p))
    (below-step _ _ (below_at code (suc place) (load_const one_item) (instruction_at code (suc place) (load_const one_item) (operate Add ∷ []) second) (suc k) (counting kept v ∷ operands) (step p)
    (below_at code (suc (suc place)) (operate Add) (instruction_at code (suc (suc place)) (operate Add) [] third) k (single one_item ∷ counting kept v ∷ operands) (step p)
    (below-step _ _ (moved code k (place + length (keep_code place)) (suc (suc (suc place))) (counted (kept ++ v ∷ []) ∷ operands) p ends below)))))

-- whether the value on top is kept, as the condition tells
abbrev sift_code : Expression → Coded
sift_code condition = then_code (expression_code condition) (either_code keep_code (one discard_top))

abbrev Sifts : Expression → List Code → ℕ → ℕ → Type 0
Sifts condition code from to = (k : ℕ) → (j : ℕ) × ((v : Val) (kept : List Val) (operands : List Operand) (p q : Process)
    → Below p (exec code k to (counted (kept ++ v ∷ []) ∷ operands)) → Below q (exec code k to (counted kept ∷ operands))
    → Below (expression_walk condition (λ c. truth_asked c (step (step (step p))) q)) (exec code j from (single v ∷ counted kept ∷ operands)))

sifts : (condition : Expression) (code : List Code) (place : ℕ) → StandsAt code place (sift_code condition place) → Sifts condition code place (place + length (sift_code condition place))
sifts condition code place h k =
    let first = expression_code condition in
    let second = either_code keep_code (one discard_top) in
    let mid = place + length (first place) in
    let parts = stands_either code mid keep_code (one discard_top) (stands_second code place first second h) in
    let leap_at = suc mid + length (keep_code (suc mid)) in
    let begins = suc leap_at in
    let behind = begins + length (one discard_top begins) in
    let m = suc (suc (suc (suc k))) in
    let ends : place + length (sift_code condition place) ≡ behind = behind_then first second place ∙ sym (behind_either keep_code (one discard_top) mid) in
    let earlier = performs condition code place (stands_first code place first second h) (suc m) in (
      earlier.0,
      λ v kept operands p q yes no.
          earlier.1 (single v ∷ counted kept ∷ operands) (λ c. truth_asked c (step (step (step p))) q)
          (λ c. tests_at code mid (jump_if_false begins) parts.test parts.tests m (single c ∷ single v ∷ counted kept ∷ operands) (truth_of c) (step (step (step p))) q
          (exec code m (suc mid) (single v ∷ counted kept ∷ operands)) (exec code m begins (single v ∷ counted kept ∷ operands)) refl
          (keeps_at code (suc mid) parts.left (suc k) v kept operands (step p)
          (jumps_at code leap_at behind parts.rest parts.leaps k (counted (kept ++ v ∷ []) ∷ operands) p
          (moved code k (place + length (sift_code condition place)) behind (counted (kept ++ v ∷ []) ∷ operands) p ends yes)))
          (longer code (suc k) m begins (single v ∷ counted kept ∷ operands) q (omega arith)
          (below_at code begins discard_top (instruction_at code begins discard_top [] parts.right) k (single v ∷ counted kept ∷ operands) q
          (moved code k (place + length (sift_code condition place)) (suc begins) (counted kept ∷ operands) q (ends ∙ sym (behind_single begins discard_top)) no)))),
    )

-- the item is doubled and stored
abbrev stored_code : Expression → Coded
stored_code target = then_code (one dup_top) (target_code target)

abbrev StoresDouble : Expression → List Code → ℕ → ℕ → Type 0
StoresDouble target code from to = (k : ℕ) → (j : ℕ) × ((v : Val) (operands : List Operand) (go : Process)
    → Below go (exec code k to (single v ∷ operands)) → Below (target_walk target v go) (exec code j from (single v ∷ operands)))

stores_double : (target : Expression) (code : List Code) (place : ℕ) → StandsAt code place (stored_code target place) → StoresDouble target code place (place + length (stored_code target place))
stores_double target code place h k =
    let first = one dup_top in
    let second = target_code target in
    let mid = place + length (first place) in
    let b = stores target code mid (stands_second code place first second h) k in (
      suc b.0,
      λ v operands go below.
          below_at code place dup_top (instruction_at code place dup_top [] (stands_first code place first second h)) b.0 (single v ∷ operands) (target_walk target v go)
          (moved code b.0 mid (suc place) (single v ∷ single v ∷ operands) (target_walk target v go) (sym (behind_single place dup_top))
          (b.1 v (single v ∷ operands) go (moved code k (place + length (stored_code target place)) (mid + length (second mid)) (single v ∷ operands) go (behind_then first second place) below))),
    )

-- what stands at the places of a loop that keeps items
record Keeping (code : List Code) (place begins jump_at ends_at : ℕ) (target condition : Expression) : Type 0 where
  rest : List Code
  asks_there : StandsAt code place (iterate ends_at ∷ rest)
  stores_there : StoresDouble target code (suc place) begins
  sifts_there : Sifts condition code begins jump_at
  leads_back : StandsAt code jump_at (jump place ∷ [])

-- so many rounds at most
turns : (code : List Code) (place begins jump_at ends_at : ℕ) (target condition : Expression) → Keeping code place begins jump_at ends_at target condition → (n k : ℕ)
    → (j : ℕ) × ((kept : List Val) (operands : List Operand) (finished : List Val → Process) → ((vs : List Val) → Below (finished vs) (exec code k ends_at (counted vs ∷ operands)))
    → Below (kept_rounds n (sifting target condition) kept finished) (exec code j place (counted kept ∷ operands)))
turns code place begins jump_at ends_at target condition at zero k = (0, λ kept operands finished below. below-cut_short _)
turns code place begins jump_at ends_at target condition at (suc n) k =
    let later = turns code place begins jump_at ends_at target condition at n k in
    let m = later.0 + k in
    let sifted = at.sifts_there (suc m) in
    let stored = at.stores_there sifted.0 in
    let all = stored.0 + k in (
      suc all,
      λ kept operands finished below.
          let round : Val → Process → Process → Process = sifting target condition in
          let again : List Val → Process = λ vs. step (kept_rounds n round vs finished) in
          let back : (vs : List Val) → Below (again vs) (exec code (suc m) jump_at (counted vs ∷ operands)) =
          λ vs. jumps_at code jump_at place [] at.leads_back m (counted vs ∷ operands) (kept_rounds n round vs finished)
          (longer code later.0 m place (counted vs ∷ operands) (kept_rounds n round vs finished) (omega arith) (later.1 vs operands finished below)) in
          let turn : Val → Process = λ v. round v (step (step (step (again (kept ++ v ∷ []))))) (again kept) in
          below_at code place (iterate ends_at) (instruction_at code place (iterate ends_at) at.rest at.asks_there) all (counted kept ∷ operands) (step (asks next_item (on_item turn (finished kept))))
          (below-step _ _ (below-asks_item next_item turn (λ v. exec code all (suc place) (single v ∷ counted kept ∷ operands)) (finished kept) (exec code all ends_at (counted kept ∷ operands))
          (λ v. longer code stored.0 all (suc place) (single v ∷ counted kept ∷ operands) (turn v) (omega arith)
          (stored.1 v (counted kept ∷ operands) (expression_walk condition (λ c. truth_asked c (step (step (step (again (kept ++ v ∷ []))))) (again kept)))
          (sifted.1 v kept operands (again (kept ++ v ∷ [])) (again kept) (back (kept ++ v ∷ [])) (back kept))))
          (longer code k all ends_at (counted kept ∷ operands) (finished kept) (omega arith) (below kept)))),
    )

-- the rounds of a loop that keeps items
keeps_rounds : (n : ℕ) (target condition : Expression) (code : List Code) (place : ℕ) → StandsAt code place (kept_code target condition place) → (k : ℕ)
    → (j : ℕ) × ((kept : List Val) (operands : List Operand) (finished : List Val → Process)
    → ((vs : List Val) → Below (finished vs) (exec code k (place + length (kept_code target condition place)) (counted vs ∷ operands)))
    → Below (kept_rounds n (sifting target condition) kept finished) (exec code j place (counted kept ∷ operands)))
keeps_rounds n target condition code place h k =
    let stored = stored_code target (suc place) in
    let begins = suc place + length stored in
    let piece = sift_code condition begins in
    let ends_at = suc (begins + length piece) in
    let jump_at = begins + length piece in
    let inner = behind_one code place (iterate ends_at) (stored ++ (piece ++ (jump place ∷ []))) h in
    let behind_stored = last_part code (suc place) stored (piece ++ (jump place ∷ [])) inner in
    let whole : place + length (kept_code target condition place) ≡ ends_at = omega (arith, length-append stored (piece ++ (jump place ∷ [])), length-append piece (jump place ∷ [])) in
    let turned = turns code place begins jump_at ends_at target condition (record {
      rest = stored ++ (piece ++ (jump place ∷ []));
      asks_there = h;
      stores_there = stores_double target code (suc place) (first_part code (suc place) stored (piece ++ (jump place ∷ [])) inner);
      sifts_there = sifts condition code begins (first_part code begins piece (jump place ∷ []) behind_stored);
      leads_back = last_part code begins piece (jump place ∷ []) behind_stored;
    }) n k in
    (turned.0, λ kept operands finished below. turned.1 kept operands finished (λ vs. moved code k (place + length (kept_code target condition place)) ends_at (counted vs ∷ operands) (finished vs) whole (below vs)))

-- the list of what is kept
performs_kept : (n : ℕ) (target e condition : Expression) → Performs (iterable_code target e (given condition)) (iterable_walk n target e (given condition))
performs_kept n target e condition code place h k =
    let last = one (build_list None) in
    let closing_piece = then_code (one pop_loop_frame) last in
    let looped = then_code (kept_code target condition) closing_piece in
    let opened = then_code (one (push_loop no_flags)) looped in
    let valued = then_code (expression_code e) opened in
    let first = one (unpack_lists 0) in
    let value_at = place + length (first place) in
    let open_at = value_at + length (expression_code e value_at) in
    let rounds_at = open_at + length (one (push_loop no_flags) open_at) in
    let close_at = rounds_at + length (kept_code target condition rounds_at) in
    let list_at = close_at + length (one pop_loop_frame close_at) in
    let behind_first = stands_second code place first valued h in
    let behind_value = stands_second code value_at (expression_code e) opened behind_first in
    let behind_open = stands_second code open_at (one (push_loop no_flags)) looped behind_value in
    let behind_rounds = stands_second code rounds_at (kept_code target condition) closing_piece behind_open in
    let behind_close = stands_second code close_at (one pop_loop_frame) last behind_rounds in
    let turned = keeps_rounds n target condition code rounds_at (stands_first code rounds_at (kept_code target condition) closing_piece behind_open) (suc (suc k)) in
    let earlier = performs e code value_at (stands_first code value_at (expression_code e) opened behind_first) (suc turned.0) in
    let whole : place + length (iterable_code target e (given condition) place) ≡ suc list_at =
    behind_then first valued place ∙ behind_then (expression_code e) opened value_at ∙ behind_then (one (push_loop no_flags)) looped open_at
    ∙ behind_then (kept_code target condition) closing_piece rounds_at ∙ behind_then (one pop_loop_frame) last close_at ∙ sym (behind_single list_at (build_list None)) in (
      suc earlier.0,
      λ operands go below.
          let listed : List Val → Process = λ vs. step (asks (events.build_list vs) (on_value go)) in
          let finished : List Val → Process = λ vs. asks close_loop (on_done (listed vs)) in
          let kept_from : List Val → Process = λ none_yet. expression_walk e (λ v. asks (open_loop nameless_loop v) (on_done (kept_rounds n (sifting target condition) none_yet finished))) in
          let lists : (vs : List Val) → Below (listed vs) (exec code (suc k) list_at (counted vs ∷ operands)) =
          λ vs. asks_at code list_at (build_list None) [] behind_close k (counted vs ∷ operands) operands (events.build_list vs) go refl
          (λ v. moved code k (place + length (iterable_code target e (given condition) place)) (suc list_at) (single v ∷ operands) (go v) whole (below v)) in
          let closes : (vs : List Val) → Below (finished vs) (exec code (suc (suc k)) close_at (counted vs ∷ operands)) =
          λ vs. done_free code close_at pop_loop_frame [] (stands_first code close_at (one pop_loop_frame) last behind_rounds) (suc k) (counted vs ∷ operands) (counted vs ∷ operands) close_loop (listed vs) refl
          (moved code (suc k) list_at (suc close_at) (counted vs ∷ operands) (listed vs) (sym (behind_single close_at pop_loop_frame)) (lists vs)) in
          below_at code place (unpack_lists 0) (instruction_at code place (unpack_lists 0) [] (stands_first code place first valued h)) earlier.0 operands (step (asks (spread []) (on_all kept_from)))
          (below-step _ _ (below-asks_all (spread []) kept_from (λ vs. exec code earlier.0 (suc place) (counted vs ∷ operands))
          (λ none_yet. moved code earlier.0 value_at (suc place) (counted none_yet ∷ operands) (kept_from none_yet) (sym (behind_single place (unpack_lists 0)))
          (earlier.1 (counted none_yet ∷ operands) (λ v. asks (open_loop nameless_loop v) (on_done (kept_rounds n (sifting target condition) none_yet finished)))
          (λ v. done_free code open_at (push_loop no_flags) [] (stands_first code open_at (one (push_loop no_flags)) looped behind_value) turned.0 (single v ∷ counted none_yet ∷ operands) (counted none_yet ∷ operands)
          (open_loop nameless_loop v) (kept_rounds n (sifting target condition) none_yet finished) refl
          (moved code turned.0 rounds_at (suc open_at) (counted none_yet ∷ operands) (kept_rounds n (sifting target condition) none_yet finished) (sym (behind_single open_at (push_loop no_flags)))
          (turned.1 none_yet operands finished closes))))))),
    )

pub performs_iterable : (n : ℕ) (target e : Expression) (condition : Optional) → Performs (iterable_code target e condition) (iterable_walk n target e condition)
performs_iterable n target e absent = performs e
performs_iterable n target e (given condition) = performs_kept n target e condition
