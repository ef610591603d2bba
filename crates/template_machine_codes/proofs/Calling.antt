-- What a call comes to: a value, or a fault, in a world of which the same is to be said.
use Rattle.std.proofs.Common.{◌≡◌, ℕ, inl, inr, zero, suc, ◌-◌, Bool, true, false, List, [], ◌∷◌, ◌++◌, Option, None, Some, Result, Ok, Err, if◌then◌else◌, refl, sym, ap, subst, ◌∙◌}
use Rattle.template_values_errors.specs.declared.ErrorKind.{ErrorKind}
use Rattle.template_values_model.specs.Val as values
use Rattle.template_values_model.specs.Val.{Val}
use Rattle.template_values_forms.specs.Known.{Known}
use Rattle.template_values_forms.specs.Truth as truths
use Rattle.template_values_forms.specs.Printed.{printed}
use Rattle.template_values_errors.specs.declared.modes.AutoEscape.{AutoEscape}
use Rattle.template_callables.specs.Callables.{Asked, call, filter, test, lookup, call_macro, block, Stated, finishes, refuses, goes_on, Says}
use Rattle.template_compiler_process.specs.Process.{Ask, Answer, Told, tells, fails, value, asks, on_value}
use Rattle.template_compiler_process.specs.Trace.{Reply}
use Rattle.template_machine_meaning.specs.World.{World, looked_up, given_at, put_given, depth_of}
use Rattle.template_machine_meaning.specs.Records.{known_of, macro_of, loop_of}
use Rattle.template_machine_meaning.specs.Replies.{told, changed, kinded, replied_with}
use Rattle.template_machine_meaning.specs.Keys.{Around}
use Rattle.template_machine_meaning.specs.Turnings.{Turning, to_truth, to_text, decided, worded, turned_value, turned_by, turned}
use Rattle.template_machine_meaning.specs.Plans.{Caller, Within, caller_of, after_by, given, Plan, replies, enters, with_turning, settled}
use Rattle.template_machine_meaning.specs.Blocks.{text_plan}
use Rattle.template_machine_meaning.specs.Macros.{macro_plan}
use Rattle.template_machine_meaning.specs.Rounds.{again_plan}
use Rattle.template_machine_meaning.specs.Functions.{Invoked, filter_named, test_named, Called, gives, makes, compares, invokes, calls, runs_again, value_called, found_called}
use Rattle.template_machine_meaning.specs.Calls.{are_as_before, view_of, with_temps, said, stated_plan, tested, answered_by, called_plan, further_plan, beyond, call_plan}
use Rattle.template_machine_meaning.specs.Surroundings.{Programs, plan, runners, answer}
use Rattle.template_machine_meaning.proofs.Settling.{answered}
use Rattle.template_machine_meaning.proofs.Entering.{Reads}
use Rattle.template_machine_meaning.proofs.Calling.{Stands}
use Rattle.template_machine_codes.specs.Streams.{Codes}
use Rattle.template_machine_codes.proofs.Sound.{Sound}
use Rattle.template_machine_codes.proofs.Settling.{Settles, settles_given, KeyComes, settles_entered}

-- a value is told, or a fault, in such a world
abbrev pub Tells : (World → Type 0) → World → Told → Type 0
Tells holds after (tells (value v)) = holds after
Tells holds after (fails kinds) = holds after
Tells holds after _ = ⊥

pub record Comes (holds : World → Type 0) (r : Reply World) : Type 0 where
  pub items : r.items ≡ []
  pub told : Tells holds r.after r.told

-- what a plan comes to: a reply, or a run within
abbrev pub PlanComes : (World → Type 0) → (Within → Type 0) → Plan → Type 0
PlanComes holds Enters (replies r) = Comes holds r
PlanComes holds Enters (enters x) = Enters x

-- an event that is answered so settles
module _ (codes : Codes) (s : Programs) (holds : World → Type 0) (so : (y : World) → holds y → Sound codes y) where
  told_settles : (w after : World) (e : Ask) (t : Told) → Tells holds after t
      → ((n : ℕ) → answer s n w e ≡ record { told = t; items = []; after = after }) → Settles codes {O = Val} s w (λ v y. holds y) (λ m go. asks e (on_value go))
  told_settles w after e (tells (value v)) kept is = settles_given codes s w after (λ u y. holds y) e v kept is
  told_settles w after e (fails kinds) kept is = inr (record {
    items = [];
    least = 0;
    kinds = kinds;
    after = after;
    kept = so after kept;
    is = λ n m le ge go. answered s w e (told after (fails kinds)) on_value is n go;
  })
  told_settles w after e _ kept is = absurd kept

  settles_come : (w : World) (e : Ask) (r : Reply World) → Comes holds r → ((n : ℕ) → answer s n w e ≡ r)
      → Settles codes {O = Val} s w (λ v y. holds y) (λ m go. asks e (on_value go))
  settles_come w e r comes is =
      told_settles w r.after e r.told comes.told (λ n. is n ∙ (λ i. record { told = r.told; items = comes.items i; after = r.after }))

module _ (holds : World → Type 0) where
  -- a test's value, and a text
  decides : (after : World) → holds after → (r : Result Bool ErrorKind) → Tells holds after (decided r)
  decides after kept (Ok b) = kept
  decides after kept (Err kind) = kept

  words : (after : World) → holds after → (rule : AutoEscape) (r : Result (List ℕ) ErrorKind) → Tells holds after (worded rule r)
  words after kept rule (Ok text) = kept
  words after kept rule (Err kind) = kept

  turns_value : (after : World) → holds after → (known : Known) (rule : AutoEscape) (t : Turning) (v : Val) → Tells holds after (turned_value known rule t v)
  turns_value after kept known rule to_truth v = decides after kept (kinded (truths.truth_of known v))
  turns_value after kept known rule to_text v = words after kept rule (kinded (printed known v))

  turns : (after : World) (t : Turning) (told : Told) → Tells holds after told → Tells holds after (turned_by after t told)
  turns after t (tells (value v)) kept = turns_value after kept (known_of after) after.escape t v
  turns after t (fails kinds) kept = kept
  turns after t _ kept = absurd kept

  pub turns_all : (after : World) (ts : List Turning) (told : Told) → Tells holds after told → Tells holds after (turned after ts told)
  turns_all after [] told kept = kept
  turns_all after (t ∷ ts) told kept = turns_all after ts (turned_by after t told) (turns after t told kept)

-- A run within that gives a value, and behind which the world is as is said.
pub record Entered (codes : Codes) (s : Programs) (c : Caller) (shape : World → Type 0) (x : Within) : Type 0 where
  pub comes : KeyComes codes s x.key x.begins (λ v. shape (after_by x.purpose c v) × Sound codes v)
  pub text : (v : World) → (u : Val) × (given x.purpose c v ≡ value u)

tells_read : (s : Programs) (w : World) (e : Ask) (holds : World → Type 0) (after : World) (t : Told) → Tells holds after t
    → Reads Val s w e (λ v y. holds y) on_value after t
tells_read s w e holds after (tells (value v)) kept = (v, kept, λ go. refl)
tells_read s w e holds after (fails kinds) kept = tt
tells_read s w e holds after _ kept = absurd kept

pub settles_plan : (codes : Codes) (s : Programs) (holds shape : World → Type 0) → ((y : World) → holds y → shape y) → ((y : World) → holds y → Sound codes y) → (w : World) → Sound codes w → (e : Ask) (p : Plan)
    → plan s.around w e ≡ p → PlanComes holds (Entered codes s (caller_of w) shape) p → Settles codes {O = Val} s w (λ v y. shape y) (λ m go. asks e (on_value go))
settles_plan codes s holds shape less so w sound e (replies r) planned comes =
    weaker (settles_come codes s holds so w e r comes (λ n. ap (settled (runners s n) w) planned))
  where
    weaker : Settles codes {O = Val} s w (λ v y. holds y) (λ m go. asks e (on_value go)) → Settles codes {O = Val} s w (λ v y. shape y) (λ m go. asks e (on_value go))
    weaker (inl p) = inl (record { items = p.items; least = p.least; out = p.out; after = p.after; shaped = less p.after p.shaped; is = p.is })
    weaker (inr p) = inr p
settles_plan codes s holds shape less so w sound e (enters x) planned entered =
    settles_entered codes Val s w sound e (λ v y. shape y) on_value x planned (λ v. shape (after_by x.purpose (caller_of w) v) × Sound codes v) (λ v k. k.1) entered.comes
    (λ v k.
    let after : World = after_by x.purpose (caller_of w) v in
    let u = entered.text v in
    tells_read s w e shape after (turned after x.behind (tells (given x.purpose (caller_of w) v)))
    (turns_all shape after x.behind (tells (given x.purpose (caller_of w) v)) (subst (λ (a : Answer). Tells shape after (tells a)) (sym u.1) k.0)))

-- What calls enter, where worlds are as is said: macros, rounds of loops, and blocks for their texts.
pub record Entries (holds : World → Type 0) (Enters : Within → Type 0) (a : Around) : Type 0 where
  pub turns : (x : Within) (t : Turning) → Enters x → Enters (record x { behind = x.behind ++ t ∷ [] })
  pub macros : (pending : ℕ) (w : World) → holds w → (vs : List Val) (id number : ℕ) → PlanComes holds Enters (macro_plan a.limit pending w vs (macro_of w id number))
  pub rounds : (w : World) → holds w → (vs : List Val) (id number : ℕ) → PlanComes holds Enters (again_plan a w vs (loop_of w id number))
  pub texts : (pending : ℕ) (w : World) → holds w → (name : List ℕ) → PlanComes holds Enters (text_plan a pending w name)

module _ (holds : World → Type 0) (stands : Stands holds) (Enters : Within → Type 0) (a : Around) (entries : Entries holds Enters a) where
  abbrev PlanSo : Plan → Type 0
  PlanSo p = PlanComes holds Enters p

  gave : (w : World) → holds w → (r : Result Val ErrorKind) → Comes holds (replied_with w value r)
  gave w kept (Ok v) = record { items = refl; told = kept }
  gave w kept (Err kind) = record { items = refl; told = kept }

  compared : (w : World) → holds w → (number : ℕ) (vs : List Val) (b : Bool)
      → Comes holds (if b then told w (tells (value (values.truth false)))
      else changed (record w { given = put_given number vs w.given }) (value (values.truth true)))
  compared w kept number vs true = record { items = refl; told = kept }
  compared w kept number vs false = record { items = refl; told = stands.compares w (put_given number vs w.given) kept }

  turning_comes : (t : Turning) (p : Plan) → PlanSo p → PlanSo (with_turning t p)
  turning_comes t (replies r) comes = record { items = comes.items; told = turns holds r.after t r.told comes.told }
  turning_comes t (enters x) entered = entries.turns x t entered

  tested_comes : (what : Invoked) (p : Plan) → PlanSo p → PlanSo (tested what p)
  tested_comes (test_named name) p comes = turning_comes to_truth p comes
  tested_comes _ p comes = comes

  -- where all that is asked further comes to that
  module _ (pending : ℕ) (go : World → Asked → Plan) (more : (w : World) → holds w → (asked : Asked) → PlanSo (go w asked)) where
    stated_comes : (w : World) → holds w → (answer : Stated) → PlanSo (stated_plan go w answer)
    stated_comes w kept (finishes temps v) = record { items = refl; told = stands.temps w temps kept }
    stated_comes w kept (refuses kinds) = record { items = refl; told = kept }
    stated_comes w kept (goes_on temps asked) = more (with_temps temps w) (stands.temps w temps kept) asked

    answered_comes : (w : World) → holds w → (what : Invoked) (vs : List Val) (o : Option Says) → PlanSo (answered_by a go w what vs o)
    answered_comes w kept what vs None = record { items = refl; told = kept }
    answered_comes w kept what vs (Some says) = tested_comes what (stated_plan go w (says (view_of a w) vs)) (stated_comes w kept (says (view_of a w) vs))

    called_comes : (w : World) → holds w → (c : Called) → PlanSo (called_plan a pending go w c)
    called_comes w kept (gives r) = gave w kept r
    called_comes w kept (makes held) = record { items = refl; told = stands.makes w held kept }
    called_comes w kept (compares number vs) = compared w kept number vs (are_as_before vs (given_at number w.given))
    called_comes w kept (invokes what vs) = answered_comes w kept what vs (said a.callables what)
    called_comes w kept (calls id number vs) = entries.macros pending w kept vs id number
    called_comes w kept (runs_again id number vs) = entries.rounds w kept vs id number

    further_comes : (w : World) → holds w → (asked : Asked) → PlanSo (further_plan a pending go w asked)
    further_comes w kept (call v vs) = called_comes w kept (value_called w.globals v vs)
    further_comes w kept (filter name vs) = answered_comes w kept (filter_named name) vs (said a.callables (filter_named name))
    further_comes w kept (test name vs) = answered_comes w kept (test_named name) vs (said a.callables (test_named name))
    further_comes w kept (lookup name) = record { items = refl; told = kept }
    further_comes w kept (call_macro name vs) =
        turning_comes to_text (called_plan a pending go w (found_called w.globals (looked_up name w) vs)) (called_comes w kept (found_called w.globals (looked_up name w) vs))
    further_comes w kept (block name) = entries.texts pending w kept name

  beyond_comes : (pending left : ℕ) (w : World) → holds w → (asked : Asked) → PlanSo (beyond a pending left w asked)
  beyond_comes pending zero w kept asked = record { items = refl; told = kept }
  beyond_comes pending (suc left) w kept asked = further_comes (suc pending) (beyond a (suc pending) left) (beyond_comes (suc pending) left) w kept asked

  pub call_comes : (w : World) → holds w → (c : Called) → PlanSo (call_plan a w c)
  call_comes w kept c = called_comes 0 (beyond a 0 (a.limit - depth_of w)) (beyond_comes 0 (a.limit - depth_of w)) w kept c
