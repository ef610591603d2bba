-- What a call of a filter gives.
use Rattle.std.proofs.Common.{◌≡◌, ◌∙◌, sym, ap, subst, ℕ, ◌-◌, List, [], ◌∷◌, Option, None, Some, Result, Ok, Err, IfOk}
use Rattle.template_values_errors.specs.declared.ErrorKind.{ErrorKind}
use Rattle.template_machine.specs.Val as values
use Rattle.template_machine.specs.Val.{Val}
use Rattle.template_machine.specs.Callables.{Says, Stated, finishes}
use Rattle.template_machine.specs.Calls.{answered_by, beyond, call_plan, stated_plan, view_of}
use Rattle.template_machine.specs.Functions.{filter_named, invokes}
use Rattle.template_machine.specs.Keys.{Around}
use Rattle.template_machine.specs.Plans.{Plan, Runners, settled}
use Rattle.template_machine.specs.BlockPlans.{end_of, run_of}
use Rattle.template_machine.specs.Process.{Told, tells, value}
use Rattle.template_machine.specs.Approximants.{IsFinished}
use Rattle.template_machine.specs.Trace.{Reply}
use Rattle.template_machine.specs.States.{GivesTold}
use Rattle.template_machine.specs.World.{World, depth_of}

-- the value that is told
abbrev value_in : Told → Val
value_in (tells (value v)) = v
value_in _ = values.undefined

-- the filter that stands under a name finishes with a value: then the call tells this value, whatever runs
pub call_tells : (a : Around) (w : World) (runners : Runners) (says : Says) (name : List ℕ) (vs : List Val) (v : Val) → a.callables.filters name ≡ Some says
    → says (view_of a w) vs ≡ finishes [] v → (settled runners w (call_plan a w (invokes (filter_named name) vs))).told ≡ tells (value v)
call_tells a w runners says name vs v stands finished =
    let go = beyond a 0 (a.limit - depth_of w) in
    ap (λ (o : Option Says). (settled runners w (answered_by a go w (filter_named name) vs o)).told) stands
    ∙ ap (λ (s : Stated). (settled runners w (stated_plan go w s)).told) finished

-- what is told is given, unless it is refused
pub call_gives : (called : ℕ → Reply World) (fuel : Option ℕ) (v : Val) (result : Result Val (List ErrorKind)) → (called 0).told ≡ tells (value v)
    → ((n : ℕ) → IsFinished (run_of (called n)).end → GivesTold value fuel result (called n)) → IfOk result (λ x. x ≡ v)
call_gives called fuel v (Ok x) is told =
    let finished : IsFinished (end_of (called 0).told) = subst (λ (t : Told). IsFinished (end_of t)) (sym is) tt in
    ap value_in (sym (told 0 finished).1 ∙ is)
call_gives called fuel v (Err kinds) is told = tt
