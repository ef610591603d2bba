-- What code that stands alone comes to under a bound on its instructions is what it means.
use Rattle.std.proofs.Common.{◌≡◌, ℕ, ◌+◌, ◌≤◌, List, [], None, sym, subst, ◌∙◌, arith}
use Rattle.template_compiler_process.specs.Drive.{IsUncut}
use Rattle.template_compiler_process.specs.Trace.{Item, Run, run, behind}
use Rattle.template_compiler_process.proofs.Driving.{run_alike}
use Rattle.template_compiler_code.specs.Code.{Code}
use Rattle.template_compiler_code.specs.Steps.{exec}
use Rattle.template_compiler_code.proofs.Rising.{exec_more}
use Rattle.template_machine_going.proofs.Staying.{beginnings_stay}
use Rattle.template_machine_meaning.specs.World.{World}
use Rattle.template_machine_meaning.specs.Surroundings.{answer}
use Rattle.template_machine_meaning.specs.Meaning.{Setting}
use Rattle.template_machine_codes.specs.Codes.{code_evaluation, codes_of}
use Rattle.template_machine_going.specs.Spots.{Spot, run_at}

-- the code means a run, under every bound that is great enough
abbrev pub Means : Setting → List Code → World → Run World → Type 0
Means setting code w meant = (least : ℕ) × ((m : ℕ) → least ≤ m → code_evaluation setting m code w ≡ meant)

-- where the code is at its end, or lost
pub ended_means : (setting : Setting) (code : List Code) (meant : Run World) (x : Spot World) (least bound : ℕ) (r : Run World) → x.place ≡ 0
    → x.operands ≡ [] → Means setting code x.world meant → IsUncut r.end
    → ((m : ℕ) → least ≤ m → run_at (answer (codes_of setting None)) code m bound x ≡ r) → meant ≡ r
ended_means setting code meant x least bound r first none means uncut is =
    let w = x.world in
    let m = means.0 + (least + bound) in
    let here : run (answer (codes_of setting None) m) (exec code bound 0 []) w ≡ r =
    (λ i. run (answer (codes_of setting None) m) (exec code bound (sym first i) (sym none i)) w) ∙ is m (omega arith) in
    sym (means.1 m (omega arith))
    ∙ run_alike World (answer (codes_of setting None) m) (exec code bound 0 []) (exec code m 0 []) w (exec_more code bound m (omega arith) 0 [])
    (subst (λ (q : Run World). IsUncut q.end) (sym here) uncut)
    ∙ here

-- where it has left items
pub begun_means : (setting : Setting) (code : List Code) (meant : Run World) (x : Spot World) (least bound : ℕ) (items : List Item) (rest : ℕ → Run World)
    → x.place ≡ 0 → x.operands ≡ [] → Means setting code x.world meant
    → ((m : ℕ) → least ≤ m → run_at (answer (codes_of setting None)) code m bound x ≡ behind items (rest m))
    → (q : Run World) × (meant ≡ behind items q)
begun_means setting code meant x least bound items rest first none means is =
    let w = x.world in
    let m = means.0 + (least + bound) in
    let stays = beginnings_stay World (answer (codes_of setting None)) code m bound m x items (rest m) (omega arith) (is m (omega arith)) in
    (stays.0, sym (means.1 m (omega arith)) ∙ (λ i. run (answer (codes_of setting None) m) (exec code m (sym first i) (sym none i)) w) ∙ stays.1)
