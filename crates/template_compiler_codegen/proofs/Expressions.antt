-- The code of an expression performs its walk: over any operands, and from any place.
use Rattle.std.proofs.Common.{◌≡◌, ℕ, ◌+◌, ◌*◌, ◌≤◌, suc, List, [], ◌∷◌, ◌++◌, length, Option, None, Some, append-nil, refl, sym, ap, subst, ◌∙◌, arith}
use Rattle.template_values_model.specs.Val.{Val}
use Rattle.template_compiler_process.specs.Process as events
use Rattle.template_compiler_process.specs.Process.{Counts, Ask, truth_of, Process, step, asks, on_done, on_value, on_truth, Below}
use Rattle.template_compiler_process.proofs.Below.{below-step, below-asks_done, below-asks_value, below-asks_truth, below-trans}
use Rattle.template_compiler_walk.specs.Expressions.{folded}
use Rattle.template_compiler_code.specs.Code.{Operand, single, Code, load_const, build_map, build_kwargs, build_list, build_tuple, merge_kwargs, jump, jump_if_false, jump_if_false_or_pop, jump_if_true_or_pop}
use Rattle.template_compiler_code.specs.Counting.{counts_before}
use Rattle.template_compiler_code.specs.Steps.{taken, on_taken, paired, act, exec}
use Rattle.template_compiler_code.proofs.Rising.{exec_more}
use Rattle.template_compiler_codegen.specs.Expressions.{Coded, then_code, one, loaded, skipped, either_code}
use Rattle.template_compiler_codegen.proofs.Standing.{StandsAt, behind_one, instruction_at, below_at, behind_then, stands_first, stands_second, stands_either, behind_either}

-- The code from a place to another gives what a walk gives: for any bound behind it there is one before it, under
-- which it goes as far as the walk, over any operands, and leaves the value on top of them.
abbrev pub Gives : List Code → ((Val → Process) → Process) → ℕ → ℕ → Type 0
Gives code walk from to = (k : ℕ) → (j : ℕ) × ((operands : List Operand) (go : Val → Process)
    → ((v : Val) → Below (go v) (exec code k to (single v ∷ operands))) → Below (walk go) (exec code j from operands))

-- a piece of code that does so wherever it stands
abbrev pub Performs : Coded → ((Val → Process) → Process) → Type 0
Performs piece walk = (code : List Code) (place : ℕ) → StandsAt code place (piece place) → Gives code walk place (place + length (piece place))

pub gives_to : (code : List Code) (walk : (Val → Process) → Process) (from to at : ℕ) → to ≡ at → Gives code walk from to → Gives code walk from at
gives_to code walk from to at e h = let P : ℕ → Type 0 = λ n. Gives code walk from n in subst P e h

pub behind_single : (place : ℕ) (c : Code) → suc place ≡ place + length (c ∷ [])
behind_single place c = omega arith

-- one instruction that asks for a value
pub asks_at : (code : List Code) (place : ℕ) (c : Code) (piece : List Code) → StandsAt code place (c ∷ piece) → (k : ℕ) (operands rest : List Operand) (e : Ask) (go : Val → Process)
    → act (exec code k) (counts_before code place) (Some c) place operands ≡ step (asks e (on_value (λ w. exec code k (suc place) (single w ∷ rest))))
    → ((v : Val) → Below (go v) (exec code k (suc place) (single v ∷ rest))) → Below (step (asks e (on_value go))) (exec code (suc k) place operands)
asks_at code place c piece h k operands rest e go is below =
    let P : Process → Type 0 = λ q. Below (step (asks e (on_value go))) q in
    below_at code place c (instruction_at code place c piece h) k operands (step (asks e (on_value go)))
    (subst P (sym is) (below-step _ _ (below-asks_value e go (λ w. exec code k (suc place) (single w ∷ rest)) below)))

-- one instruction that asks for something to be done
pub done_at : (code : List Code) (place : ℕ) (c : Code) (piece : List Code) → StandsAt code place (c ∷ piece) → (k : ℕ) (operands rest : List Operand) (e : Ask) (p : Process)
    → act (exec code k) (counts_before code place) (Some c) place operands ≡ step (asks e (on_done (exec code k (suc place) rest))) → Below p (exec code k (suc place) rest) → Below (step (asks e (on_done p))) (exec code (suc k) place operands)
done_at code place c piece h k operands rest e p is below =
    let P : Process → Type 0 = λ q. Below (step (asks e (on_done p))) q in
    below_at code place c (instruction_at code place c piece h) k operands (step (asks e (on_done p))) (subst P (sym is) (below-step _ _ (below-asks_done e p (exec code k (suc place) rest) below)))

-- the same for nothing
pub done_free : (code : List Code) (place : ℕ) (c : Code) (piece : List Code) → StandsAt code place (c ∷ piece) → (k : ℕ) (operands rest : List Operand) (e : Ask) (p : Process)
    → act (exec code k) (counts_before code place) (Some c) place operands ≡ asks e (on_done (exec code k (suc place) rest)) → Below p (exec code k (suc place) rest) → Below (asks e (on_done p)) (exec code (suc k) place operands)
done_free code place c piece h k operands rest e p is below =
    let P : Process → Type 0 = λ q. Below (asks e (on_done p)) q in
    below_at code place c (instruction_at code place c piece h) k operands (asks e (on_done p)) (subst P (sym is) (below-asks_done e p (exec code k (suc place) rest) below))

-- a constant is loaded
loads_at : (code : List Code) (place : ℕ) (v : Val) (piece : List Code) → StandsAt code place (load_const v ∷ piece) → (k : ℕ) (operands : List Operand) (p : Process)
    → Below p (exec code k (suc place) (single v ∷ operands)) → Below p (exec code (suc k) place operands)
loads_at code place v piece h k operands p below =
    below_at code place (load_const v) (instruction_at code place (load_const v) piece h) k operands p below

pub performs_load : (v : Val) → Performs (one (load_const v)) (λ go. go v)
performs_load v code place h =
    gives_to code (λ go. go v) place (suc place) (place + length (one (load_const v) place)) (behind_single place (load_const v))
    (λ k. (suc k, λ operands go below. loads_at code place v [] h k operands (go v) (below v)))

pub performs_loaded : (o : Option Val) (piece : Coded) (walk : (Val → Process) → Process) → Performs piece walk → Performs (loaded o piece) (λ go. folded o go (walk go))
performs_loaded None piece walk h = h
performs_loaded (Some v) piece walk h = performs_load v

-- a piece that runs over a value
abbrev pub Over : Coded → (Val → (Val → Process) → Process) → Type 0
Over piece more = (code : List Code) (place : ℕ) → StandsAt code place (piece place) → (k : ℕ) → (j : ℕ) × ((v : Val) (operands : List Operand) (go : Val → Process)
    → ((w : Val) → Below (go w) (exec code k (place + length (piece place)) (single w ∷ operands))) → Below (more v go) (exec code j place (single v ∷ operands)))

-- a piece, and another over the value that the first gives
pub gives_then : (first second : Coded) (walk : (Val → Process) → Process) (more : Val → (Val → Process) → Process) → Performs first walk → Over second more
    → Performs (then_code first second) (λ go. walk (λ v. more v go))
gives_then first second walk more f g code place h =
    let mid = place + length (first place) in
    gives_to code (λ go. walk (λ v. more v go)) place (mid + length (second mid)) (place + length (then_code first second place)) (sym (behind_then first second place))
    (λ k.
    let later = g code mid (stands_second code place first second h) k in
    let earlier = f code place (stands_first code place first second h) later.0 in
    (earlier.0, λ operands go below. earlier.1 operands (λ v. more v go) (λ v. later.1 v operands go below)))

-- what runs behind, at a place that is told in another way
pub moved : (code : List Code) (k from to : ℕ) (operands : List Operand) (p : Process) → from ≡ to → Below p (exec code k from operands) → Below p (exec code k to operands)
moved code k from to operands p e h = let P : ℕ → Type 0 = λ n. Below p (exec code k n operands) in subst P e h

-- and for more instructions
pub longer : (code : List Code) (k m place : ℕ) (operands : List Operand) (p : Process) → k ≤ m → Below p (exec code k place operands) → Below p (exec code m place operands)
longer code k m place operands p less h = below-trans p (exec code k place operands) (exec code m place operands) h (exec_more code k m less place operands)

-- one instruction over one value
pub over_one : (c : Code) (e : Val → Ask) → ((next : ℕ → List Operand → Process) (before : Counts) (place : ℕ) (v : Val) (operands : List Operand)
    → act next before (Some c) place (single v ∷ operands) ≡ step (asks (e v) (on_value (λ w. next (suc place) (single w ∷ operands)))))
    → Over (one c) (λ v go. step (asks (e v) (on_value go)))
over_one c e is code place h k = (
  suc k,
  λ v operands go below. asks_at code place c [] h k (single v ∷ operands) operands (e v) go (is (exec code k) (counts_before code place) place v operands)
      (λ w. moved code k (place + length (one c place)) (suc place) (single w ∷ operands) (go w) (sym (behind_single place c)) (below w)),
)

-- a piece, and one instruction over the value below and the one that the piece gives
pub over_two : (piece : Coded) (walk : (Val → Process) → Process) (c : Code) (e : Val → Val → Ask) → Performs piece walk → ((next : ℕ → List Operand → Process) (before : Counts) (place : ℕ) (v w : Val) (operands : List Operand)
    → act next before (Some c) place (single w ∷ single v ∷ operands) ≡ step (asks (e v w) (on_value (λ u. next (suc place) (single u ∷ operands)))))
    → Over (then_code piece (one c)) (λ v go. walk (λ w. step (asks (e v w) (on_value go))))
over_two piece walk c e f is code place h k =
    let mid = place + length (piece place) in
    let earlier = f code place (stands_first code place piece (one c) h) (suc k) in (
      earlier.0,
      λ v operands go below. earlier.1 (single v ∷ operands) (λ w. step (asks (e v w) (on_value go)))
          (λ w. asks_at code mid c [] (stands_second code place piece (one c) h) k (single w ∷ single v ∷ operands) operands (e v w) go (is (exec code k) (counts_before code mid) mid v w operands)
          (λ u. moved code k (place + length (then_code piece (one c) place)) (suc mid) (single u ∷ operands) (go u) (behind_then piece (one c) place ∙ sym (behind_single mid c)) (below u))),
    )

-- a test of the value on top
pub tests_at : (code : List Code) (place : ℕ) (c : Code) (piece : List Code) → StandsAt code place (c ∷ piece) → (k : ℕ) (operands : List Operand) (e : Ask) (p q r s : Process)
    → act (exec code k) (counts_before code place) (Some c) place operands ≡ step (asks e (on_truth r s)) → Below p r → Below q s → Below (step (asks e (on_truth p q))) (exec code (suc k) place operands)
tests_at code place c piece h k operands e p q r s is f g =
    let P : Process → Type 0 = λ x. Below (step (asks e (on_truth p q))) x in
    below_at code place c (instruction_at code place c piece h) k operands (step (asks e (on_truth p q))) (subst P (sym is) (below-step _ _ (below-asks_truth e p r q s f g)))

-- the place behind a piece that may be skipped
pub behind_skipped : (leap : ℕ → Code) (inner : Coded) (place : ℕ) → suc place + length (inner (suc place)) ≡ place + length (skipped leap inner place)
behind_skipped leap inner place = omega arith

-- `and`
pub over_and : (right : Coded) (walk : (Val → Process) → Process) → Performs right walk → Over (skipped jump_if_false_or_pop right) (λ v go. step (asks (truth_of v) (on_truth (walk go) (go v))))
over_and right walk f code place h k =
    let behind = suc place + length (right (suc place)) in
    let inner = f code (suc place) (behind_one code place (jump_if_false_or_pop behind) (right (suc place)) h) k in
    let m = inner.0 + k in (
      suc m,
      λ v operands go below.
          let there : (w : Val) → Below (go w) (exec code k behind (single w ∷ operands)) = λ w. moved code k (place + length (skipped jump_if_false_or_pop right place)) behind (single w ∷ operands) (go w) (sym (behind_skipped jump_if_false_or_pop right place)) (below w) in
          tests_at code place (jump_if_false_or_pop behind) (right (suc place)) h m (single v ∷ operands) (truth_of v) (walk go) (go v) (exec code m (suc place) operands) (exec code m behind (single v ∷ operands)) refl
          (longer code inner.0 m (suc place) operands (walk go) (omega arith) (inner.1 operands go there))
          (longer code k m behind (single v ∷ operands) (go v) (omega arith) (there v)),
    )

-- `or`
pub over_or : (right : Coded) (walk : (Val → Process) → Process) → Performs right walk → Over (skipped jump_if_true_or_pop right) (λ v go. step (asks (truth_of v) (on_truth (go v) (walk go))))
over_or right walk f code place h k =
    let behind = suc place + length (right (suc place)) in
    let inner = f code (suc place) (behind_one code place (jump_if_true_or_pop behind) (right (suc place)) h) k in
    let m = inner.0 + k in (
      suc m,
      λ v operands go below.
          let there : (w : Val) → Below (go w) (exec code k behind (single w ∷ operands)) = λ w. moved code k (place + length (skipped jump_if_true_or_pop right place)) behind (single w ∷ operands) (go w) (sym (behind_skipped jump_if_true_or_pop right place)) (below w) in
          tests_at code place (jump_if_true_or_pop behind) (right (suc place)) h m (single v ∷ operands) (truth_of v) (go v) (walk go) (exec code m behind (single v ∷ operands)) (exec code m (suc place) operands) refl
          (longer code k m behind (single v ∷ operands) (go v) (omega arith) (there v))
          (longer code inner.0 m (suc place) operands (walk go) (omega arith) (inner.1 operands go there)),
    )

-- a jump
pub jumps_at : (code : List Code) (place to : ℕ) (piece : List Code) → StandsAt code place (jump to ∷ piece) → (k : ℕ) (operands : List Operand) (p : Process) → Below p (exec code k to operands) → Below (step p) (exec code (suc k) place operands)
jumps_at code place to piece h k operands p below =
    below_at code place (jump to) (instruction_at code place (jump to) piece h) k operands (step p) (below-step _ _ below)

-- two pieces of which the value on top chooses one
pub over_either : (first second : Coded) (walk other : (Val → Process) → Process) → Performs first walk → Performs second other
    → Over (either_code first second) (λ v go. step (asks (truth_of v) (on_truth (walk (λ w. step (go w))) (other go))))
over_either first second walk other f g code place h k =
    let parts = stands_either code place first second h in
    let leap_at = suc place + length (first (suc place)) in
    let begins = suc leap_at in
    let behind = begins + length (second begins) in
    let left = f code (suc place) parts.left (suc k) in
    let right = g code begins parts.right k in
    let m = left.0 + right.0 in (
      suc m,
      λ v operands go below.
          let there : (w : Val) → Below (go w) (exec code k behind (single w ∷ operands)) = λ w. moved code k (place + length (either_code first second place)) behind (single w ∷ operands) (go w) (sym (behind_either first second place)) (below w) in
          tests_at code place (jump_if_false begins) parts.test parts.tests m (single v ∷ operands) (truth_of v) (walk (λ w. step (go w))) (other go) (exec code m (suc place) operands) (exec code m begins operands) refl
          (longer code left.0 m (suc place) operands (walk (λ w. step (go w))) (omega arith)
          (left.1 operands (λ w. step (go w)) (λ w. jumps_at code leap_at behind parts.rest parts.leaps k (single w ∷ operands) (go w) (there w))))
          (longer code right.0 m begins operands (other go) (omega arith) (right.1 operands go there)),
    )

-- values on the operands, the last one on top
unfoldable pub pushed : List Val → List Operand → List Operand
pushed [] operands = operands
pushed (v ∷ vs) operands = pushed vs (single v ∷ operands)

pub pushed_twice : (vs us : List Val) (operands : List Operand) → pushed (vs ++ us) operands ≡ pushed us (pushed vs operands)
unfolding pushed
pushed_twice [] us operands = refl
pushed_twice (v ∷ vs) us operands = pushed_twice vs us (single v ∷ operands)

taken_pushed : (vs : List Val) (n : ℕ) (operands : List Operand) (later : List Val) → taken (length vs + n) (pushed vs operands) later ≡ taken n operands (vs ++ later)
unfolding pushed
taken_pushed [] n operands later = let e : length {A = Val} [] + n ≡ n = omega arith in ap (λ m. taken m operands later) e
taken_pushed (v ∷ vs) n operands later =
    let e : length (v ∷ vs) + n ≡ length vs + suc n = omega arith in
    ap (λ m. taken m (pushed vs (single v ∷ operands)) later) e ∙ taken_pushed vs (suc n) (single v ∷ operands) later

pub taken_all : (vs : List Val) (n : ℕ) (operands : List Operand) → length vs ≡ n → taken n (pushed vs operands) [] ≡ Some (vs, operands)
taken_all vs n operands e =
    let same : n ≡ length vs + 0 = omega arith in
    ap (λ m. taken m (pushed vs operands) []) same ∙ taken_pushed vs 0 operands [] ∙ ap (λ us. Some (us, operands)) (append-nil vs)

-- the code of several expressions leaves their values, as many as there are
abbrev pub GivesAll : List Code → ((List Val → Process) → Process) → ℕ → ℕ → ℕ → Type 0
GivesAll code walk count from to = (k : ℕ) → (j : ℕ) × ((operands : List Operand) (go : List Val → Process)
    → ((vs : List Val) → length vs ≡ count → Below (go vs) (exec code k to (pushed vs operands))) → Below (walk go) (exec code j from operands))

-- a container is built of them
pub builds_at : (code : List Code) (place : ℕ) (c : Code) → StandsAt code place (c ∷ []) → (k : ℕ) (vs : List Val) (operands : List Operand) (e : Ask) (go : Val → Process)
    → act (exec code k) (counts_before code place) (Some c) place (pushed vs operands) ≡ step (asks e (on_value (λ w. exec code k (suc place) (single w ∷ operands))))
    → ((w : Val) → Below (go w) (exec code k (place + length (one c place)) (single w ∷ operands))) → Below (step (asks e (on_value go))) (exec code (suc k) place (pushed vs operands))
builds_at code place c h k vs operands e go is below =
    asks_at code place c [] h k (pushed vs operands) operands e go is (λ w. moved code k (place + length (one c place)) (suc place) (single w ∷ operands) (go w) (sym (behind_single place c)) (below w))

-- the parts of a container, and its instruction
pub performs_built : (piece : Coded) (walk : (List Val → Process) → Process) (count : ℕ) (c : Code) (e : List Val → Ask)
    → ((code : List Code) (place : ℕ) → StandsAt code place (piece place) → GivesAll code walk count place (place + length (piece place)))
    → ((next : ℕ → List Operand → Process) (before : Counts) (place : ℕ) (vs : List Val) (operands : List Operand) → length vs ≡ count
    → act next before (Some c) place (pushed vs operands) ≡ step (asks (e vs) (on_value (λ w. next (suc place) (single w ∷ operands)))))
    → Performs (then_code piece (one c)) (λ go. walk (λ vs. step (asks (e vs) (on_value go))))
performs_built piece walk count c e f is code place h =
    let mid = place + length (piece place) in
    gives_to code (λ go. walk (λ vs. step (asks (e vs) (on_value go)))) place (mid + length (one c mid)) (place + length (then_code piece (one c) place)) (sym (behind_then piece (one c) place))
    (λ k.
    let earlier = f code place (stands_first code place piece (one c) h) (suc k) in (
      earlier.0,
      λ operands go below. earlier.1 operands (λ vs. step (asks (e vs) (on_value go)))
          (λ vs many. builds_at code mid c (stands_second code place piece (one c) h) k vs operands (e vs) go (is (exec code k) (counts_before code mid) mid vs operands many) below),
    ))

pub built_list : (n : ℕ) (next : ℕ → List Operand → Process) (before : Counts) (place : ℕ) (vs : List Val) (operands : List Operand) → length vs ≡ n
    → act next before (Some (build_list (Some n))) place (pushed vs operands) ≡ step (asks (events.build_list vs) (on_value (λ w. next (suc place) (single w ∷ operands))))
built_list n next before place vs operands many = ap (λ o. step (on_taken o (λ us rest. asks (events.build_list us) (on_value (λ w. next (suc place) (single w ∷ rest)))))) (taken_all vs n operands many)

pub built_tuple : (n : ℕ) (next : ℕ → List Operand → Process) (before : Counts) (place : ℕ) (vs : List Val) (operands : List Operand) → length vs ≡ n
    → act next before (Some (build_tuple (Some n))) place (pushed vs operands) ≡ step (asks (events.build_tuple vs) (on_value (λ w. next (suc place) (single w ∷ operands))))
built_tuple n next before place vs operands many = ap (λ o. step (on_taken o (λ us rest. asks (events.build_tuple us) (on_value (λ w. next (suc place) (single w ∷ rest)))))) (taken_all vs n operands many)

pub built_merged : (n : ℕ) (next : ℕ → List Operand → Process) (before : Counts) (place : ℕ) (vs : List Val) (operands : List Operand) → length vs ≡ n
    → act next before (Some (merge_kwargs n)) place (pushed vs operands) ≡ step (asks (events.merge_kwargs vs) (on_value (λ w. next (suc place) (single w ∷ operands))))
built_merged n next before place vs operands many = ap (λ o. step (on_taken o (λ us rest. asks (events.merge_kwargs us) (on_value (λ w. next (suc place) (single w ∷ rest)))))) (taken_all vs n operands many)

-- keys and values in turn, as they stand on the operands
abbrev pub laid : List (Val × Val) → List Val
laid [] = []
laid (entry ∷ entries) = entry.0 ∷ entry.1 ∷ laid entries

pub laid_twice : (es ds : List (Val × Val)) → laid (es ++ ds) ≡ laid es ++ laid ds
laid_twice [] ds = refl
laid_twice (e ∷ es) ds = ap (λ vs. e.0 ∷ e.1 ∷ vs) (laid_twice es ds)

paired_laid : (entries : List (Val × Val)) → paired (laid entries) ≡ entries
paired_laid [] = refl
paired_laid (entry ∷ entries) = ap (λ es. entry ∷ es) (paired_laid entries)

laid_length : (entries : List (Val × Val)) → length (laid entries) ≡ length entries * 2
laid_length [] = omega arith
laid_length (entry ∷ entries) = omega (arith, laid_length entries)

pub built_map : (n : ℕ) (next : ℕ → List Operand → Process) (before : Counts) (place : ℕ) (entries : List (Val × Val)) (operands : List Operand) → length entries ≡ n
    → act next before (Some (build_map n)) place (pushed (laid entries) operands) ≡ step (asks (events.build_map entries) (on_value (λ w. next (suc place) (single w ∷ operands))))
built_map n next before place entries operands many =
    ap (λ o. step (on_taken o (λ us rest. asks (events.build_map (paired us)) (on_value (λ w. next (suc place) (single w ∷ rest)))))) (taken_all (laid entries) (n * 2) operands (laid_length entries ∙ ap (λ m. m * 2) many))
    ∙ ap (λ es. step (asks (events.build_map es) (on_value (λ w. next (suc place) (single w ∷ operands))))) (paired_laid entries)

pub built_kwargs : (n : ℕ) (next : ℕ → List Operand → Process) (before : Counts) (place : ℕ) (entries : List (Val × Val)) (operands : List Operand) → length entries ≡ n
    → act next before (Some (build_kwargs n)) place (pushed (laid entries) operands) ≡ step (asks (events.build_kwargs entries) (on_value (λ w. next (suc place) (single w ∷ operands))))
built_kwargs n next before place entries operands many =
    ap (λ o. step (on_taken o (λ us rest. asks (events.build_kwargs (paired us)) (on_value (λ w. next (suc place) (single w ∷ rest)))))) (taken_all (laid entries) (n * 2) operands (laid_length entries ∙ ap (λ m. m * 2) many))
    ∙ ap (λ es. step (asks (events.build_kwargs es) (on_value (λ w. next (suc place) (single w ∷ operands))))) (paired_laid entries)
