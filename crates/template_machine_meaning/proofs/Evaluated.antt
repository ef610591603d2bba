-- Over contexts that agree on the names that stand in an expression its evaluation leaves the same, and the same is handed out.
use Rattle.std.proofs.Common.{◌≡◌, ℕ, inl, List, [], ◌∷◌, Option, None, Some, option_map, refl, sym, ap, ◌∙◌}
use Rattle.template_compiler_names.specs.Among.{Among, nothing}
use Rattle.template_compiler_walk.specs.Counting.{MacroBody}
use Rattle.std.specs.Prelude.{IsTrue}
use Rattle.template_values_model.specs.Val.{Val}
use Rattle.template_values_forms.specs.Known as forms
use Rattle.template_values_forms.specs.Frozen.{frozen}
use Rattle.template_compiler_tree.specs.Tree.{Expression}
use Rattle.template_compiler_names.specs.Names.{stands_in}
use Rattle.template_compiler_process.specs.Process.{Process, over}
use Rattle.template_compiler_process.specs.Drive.{End, ends, breaks}
use Rattle.template_compiler_process.specs.Trace.{Run, ended}
use Rattle.template_compiler_process.specs.Fuel.{IsSameRun}
use Rattle.template_compiler_process.proofs.Fuels.{cut_alike}
use Rattle.template_compiler_walk.specs.Statements.{standalone_walk}
use Rattle.template_machine_meaning.specs.World.{World, first_world}
use Rattle.template_machine_meaning.specs.Replies.{kinded}
use Rattle.template_machine_meaning.specs.Keys as keys
use Rattle.template_machine_meaning.specs.Keys.{Stream, own, Key}
use Rattle.template_machine_meaning.specs.Surroundings.{runners}
use Rattle.template_machine_meaning.specs.Meaning.{Setting, no_head, around_of, walks_of, evaluation, alone, handed, evaluated}
use Rattle.template_machine_meaning.specs.Isolation.{AgreesAt, AskNoNames, IsolatesExpressions}
use Rattle.template_machine_meaning.proofs.Known.{base, unmade}
use Rattle.template_machine_meaning.proofs.Turned.{over_context, grown_itself, Fits, same_known}
use Rattle.template_machine_meaning.proofs.Walks.{used_of, in_expression}
use Rattle.template_machine_meaning.proofs.Replies.{begun_at, RunsSo, runs_so}

module _ (names : List ℕ → Type 0) (d : Val) (setting : Setting) (ask : AskNoNames setting.callables) where
  -- there are no macros
  abbrev no_body : ℕ → Option MacroBody
  no_body number = None

  abbrev uses : Stream → ℕ → Among
  uses stream number = used_of (no_body number)

  -- no key runs
  none_so : (key : Key) (o : Option Process) → RunsSo names uses d key (option_map (λ (p : Process) (w : World). ended breaks w) o)
  none_so key None = tt
  none_so key (Some p) = λ since under k w fits. record { same = refl; fits = λ h. absurd h }

  runners_so : (key : Key) → RunsSo names uses d key (runners (walks_of setting None) 0 key)
  runners_so key = none_so key ((walks_of setting None).process 0 key)

  -- what is handed out is the same, as what is known of records is
  same_handed : (w : World) (e : End) → handed (over_context d w) e ≡ handed w e
  same_handed w (ends (v ∷ [])) = ap (λ (known : forms.Known). alone (kinded (frozen known v))) (same_known names uses d w)
  same_handed w _ = refl

  same_evaluation : (id : ℕ) (e : Expression) → ((name : List ℕ) → IsTrue (stands_in name e) → names name) → (c : Val) → ((name : List ℕ) → names name → AgreesAt d c name)
      → IsSameRun (evaluated setting id e c) (evaluated setting id e d)
  same_evaluation id e listed c agrees =
      let w = first_world id setting.globals no_head c in
      let r = evaluation setting e w in
      let begins : Fits names uses d (begun_at (own keys.rendered) [] []) (base nothing) w =
      record { framed = (λ name i. absurd (cc), refl, agrees); count = refl; held = tt; grown = grown_itself []; there = refl } in
      let at = runs_so names uses d (begun_at (own keys.rendered) [] []) (around_of setting None) ask (runners (walks_of setting None) 0) runners_so (base nothing) (standalone_walk e)
      (base nothing) unmade w begins tt
      (in_expression names no_body (base nothing) (base nothing) e (λ name i. inl (listed name i)) (λ v. over (v ∷ [])) (λ v name i. i)) in
      (sym (ap (λ (q : Run World). q.items) at.same), sym (ap (λ (q : Run World). handed q.after q.end) at.same ∙ same_handed r.after r.end))

pub isolates_expressions : IsolatesExpressions
isolates_expressions setting ask id e c d agrees fuel =
    cut_alike World World fuel (evaluated setting id e c) (evaluated setting id e d)
    (same_evaluation (λ name. IsTrue (stands_in name e)) d setting ask id e (λ name h. h) c (λ name h. sym (agrees name h)))
