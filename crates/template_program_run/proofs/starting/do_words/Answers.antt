use Rattle.std.proofs.Common.{◌≡◌, subst, sym}
use Rattle.template_program_words.specs.declared.words.Words.{Words}
use Rattle.template_program_run.specs.Starts.{DoesWords, RunsWords}
use Rattle.template_program_run.specs.Told.{told_by}
use Rattle.template_program_run.proofs.starting.do_words.Goals as goal

-- what holds of words holds of what they are
turned : {A : Type 0} (P Q : A → Type 0) (x y : A) → x ≡ y → (P y → Q y) → P x → Q x
turned P Q x y is step holds = subst Q (sym is) (step (subst P is holds))

pub returns-in-Render : goal.returns-in-Render
returns-in-Render g c =
    let told = told_by (g.R.Folders.entries c.args.rt.now) (g.R.FileSystem.content c.args.rt.now) (g.I.Reader.may_fail c.args.input.now)
    (g.I.Reader.remaining c.args.input.now) in
    let fresh = g.R.Placing.fresh c.args.rt.now in
    let placed = g.R.Placing.placed c.args.rt.now in
    let out = g.O.Output.shown c.args.out in
    let out_after = g.O.Output.shown c.run_words.result.1 in
    let fault = g.F.Output.shown c.args.fault.now in
    let fault_after = g.F.Output.shown c.run_words.new.fault in
    turned (λ (w : Words). RunsWords w told fresh placed out out_after fault fault_after c.run_words.result.0)
    (λ (w : Words). DoesWords w told fresh placed out out_after fault fault_after c.run_words.result.0) _ _ c.in-Render.is (λ runs. runs)
    c.run_words.ensures

pub returns-in-Names : goal.returns-in-Names
returns-in-Names g c =
    let told = told_by (g.R.Folders.entries c.args.rt.now) (g.R.FileSystem.content c.args.rt.now) (g.I.Reader.may_fail c.args.input.now)
    (g.I.Reader.remaining c.args.input.now) in
    let fresh = g.R.Placing.fresh c.args.rt.now in
    let placed = g.R.Placing.placed c.args.rt.now in
    let out = g.O.Output.shown c.args.out in
    let out_after = g.O.Output.shown c.run_words-in-Names.result.1 in
    let fault = g.F.Output.shown c.args.fault.now in
    let fault_after = g.F.Output.shown c.run_words-in-Names.new.fault in
    turned (λ (w : Words). RunsWords w told fresh placed out out_after fault fault_after c.run_words-in-Names.result.0)
    (λ (w : Words). DoesWords w told fresh placed out out_after fault fault_after c.run_words-in-Names.result.0) _ _ c.in-Names.is (λ runs. runs)
    c.run_words-in-Names.ensures
