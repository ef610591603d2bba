-- Whole code, from its first place on.
use Rattle.std.proofs.Common.{◌≡◌, ℕ, ◌+◌, List, [], ◌∷◌, length, refl, sym, ap, subst, append-nil, arith}
use Rattle.std.proofs.lemmas.Option.{slice_get_past}
use Rattle.template_compiler_process.specs.Process.{no_counts, Process, over, Below}
use Rattle.template_compiler_process.proofs.Below.{below-cut_short, below-over}
use Rattle.template_compiler_walk.specs.Statements.{outside}
use Rattle.template_compiler_code.specs.Code.{Operand, single, Code}
use Rattle.template_compiler_code.specs.Counting.{counts_before}
use Rattle.template_compiler_code.specs.Steps.{values_in, act, exec}
use Rattle.template_compiler_codegen.specs.Statements.{no_ways, template_code, standalone_code}
use Rattle.template_compiler_codegen.specs.Laws.{TemplatesPerform, ExpressionsPerform}
use Rattle.template_compiler_codegen.proofs.Standing.{StandsAt}
use Rattle.template_compiler_codegen.proofs.Behind.{none_before}
use Rattle.template_compiler_codegen.proofs.Performing.{performs}
use Rattle.template_compiler_codegen.proofs.Statements.{performs_statements}

pub stands_whole : (code : List Code) → StandsAt code 0 code
stands_whole code = record { front = []; back = []; is = sym (append-nil code); at = refl }

pub at_beginning : (code : List Code) → counts_before code 0 ≡ no_counts
unfolding stands_whole
at_beginning code = none_before code (stands_whole code) refl

-- behind the last instruction
over_at_end : (code : List Code) (place : ℕ) (operands : List Operand) → place ≡ length code → Below (over (values_in operands)) (exec code 1 place operands)
over_at_end code place operands e =
    let P : Process → Type 0 = λ q. Below (over (values_in operands)) q in
    subst P (sym (ap (λ o. act (exec code 0) (counts_before code place) o place operands) (slice_get_past code place (omega arith)))) (below-over (values_in operands))

pub templates_perform : TemplatesPerform
templates_perform tree n =
    let code = template_code tree in
    let done = performs_statements n tree no_ways refl code 0 no_counts (at_beginning code) (stands_whole code) 1 in
    (done.0, done.1 [] outside (over []) (over_at_end code (0 + length code) [] (omega arith)) (record { on_break = λ place h. below-cut_short _; on_continue = λ place h. below-cut_short _ }))

pub expressions_perform : ExpressionsPerform
expressions_perform e =
    let code = standalone_code e in
    let done = performs e code 0 (stands_whole code) 1 in
    (done.0, done.1 [] (λ v. over (v ∷ [])) (λ v. over_at_end code (0 + length code) (single v ∷ []) (omega arith)))
