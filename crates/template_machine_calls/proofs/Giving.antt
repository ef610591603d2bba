-- Instructions that call give the value of the call, or fail as it does.
use Rattle.std.proofs.Common.{◌≡◌, ℕ, suc, false, if◌then◌else◌, inl, List, [], ◌∷◌, Option, None, Some, Result, Ok, Err, IsErrAnd, refl, sym, ap, ◌∙◌, subst}
use Rattle.std.specs.Global.{Vec}
use Rattle.std.proofs.KnownBytes.{Appends-nil}
use Rattle.template_values_errors.specs.declared.ErrorKind.{ErrorKind}
use Rattle.template_values_errors.specs.declared.ErrorKind.TheVariants.{OutOfMemory}
use Rattle.template_values_errors.specs.Memory.{NoMemory}
use Rattle.template_values_model.specs.Val.{Val}
use Rattle.template_compiler_process.specs.Process.{Counts, Ask, Told, tells, fails, breaks_off, leaves, call_function, value, on_value, asks, over}
use Rattle.template_compiler_process.specs.Trace.{Reply, run, replied}
use Rattle.template_compiler_code.specs.Code.{Operand, single, Code}
use Rattle.template_compiler_code.specs.Steps.{deed, giving, handed}
use Rattle.template_compiler_walk.specs.Statements.{is_super_name}
use Rattle.template_machine_meaning.specs.Blocks.{super_called}
use Rattle.template_machine_meaning.specs.Calls.{call_plan}
use Rattle.template_machine_meaning.specs.Functions.{name_called}
use Rattle.template_machine_meaning.specs.Keeps.{KeepsWorld}
use Rattle.template_machine_meaning.specs.Plans.{Plan, replies, settled, with_turning}
use Rattle.template_machine_meaning.specs.Replies.{told, changed}
use Rattle.template_machine_meaning.specs.Turnings as meanings
use Rattle.template_machine_meaning.specs.Turnings.{turned_by}
use Rattle.template_machine_meaning.specs.Surroundings.{Programs, plan, answer, runners}
use Rattle.template_machine_meaning.specs.World.{World, looked_up}
use Rattle.template_machine_meaning.proofs.RunsKept.{runs_keep}
use Rattle.template_machine_going.specs.Acts.{Next, Acts}
use Rattle.template_machine_going.specs.Outcomes.{FaultsWith, faulting}
use Rattle.template_machine_going.specs.Told.{FaultsSo, stop_of}
use Rattle.template_machine_going.specs.declared.stop.Stop.{Stop}
use Rattle.template_machine_going.specs.declared.stop.Stop.TheVariants.{Fault, Want}
use Rattle.template_machine_going.proofs.Paths.{paid_nothing}
use Rattle.template_machine_going.proofs.Telling.{told_so}
use Rattle.template_machine_operands.specs.Operands.{RefusesHanded}
use Rattle.template_machine_state.specs.Changes.{OnlyTemps}
use Rattle.template_machine_acts.proofs.Acting.{events_act, events_fault}
use Rattle.template_machine_steps.specs.Performs.{spot, StepsHeard, Performs}
use Rattle.template_machine_steps.proofs.Hearing.{steps_heard}
use Rattle.template_machine_steps.proofs.Stepping.{pushed_out, want_out}
use Rattle.template_machine_calls.specs.Left.{entry_plan, reached_by, turnings_in, value_left, with_turnings, Planned, KeptUnlessValue}
use Rattle.template_machine_calls.specs.Calls.{Enters, Calls, Puts}
use Rattle.template_machine_calls.specs.declared.reached.Turning.{Turning}
use Rattle.template_machine_calls.specs.declared.reached.Entry.{Entry}
use Rattle.template_machine_calls.specs.declared.reached.Reached.{Reached}
use Rattle.template_machine_calls.specs.declared.reached.Reached.TheVariants as reached
use Rattle.template_machine_calls.proofs.Chaining.{planned_as}

-- no memory is left
want_heard : (s : Programs) (c : Code) (operands : List Operand) (w : World) (later : List Operand) (after : World) (kinds : List ErrorKind)
    → KeepsWorld w after → NoMemory kinds → StepsHeard {X = Unit {0}} s c operands w (Err (Want kinds)) suc later after
want_heard s c operands w later after kinds kept why =
    subst (λ ks. StepsHeard {X = Unit {0}} s c operands w (Err (Want ks)) suc later after) (sym why)
    (steps_heard {X = Unit {0}} s c operands w (Err (OutOfMemory ∷ [])) suc later after
    (want_out {X = Unit {0}} s c operands w (Err (OutOfMemory ∷ [])) suc later after (OutOfMemory ∷ []) kept refl refl))

-- every run keeps the world, so a reply leaves one that keeps it, whatever it tells
run_keeps : (s : Programs) (e : Ask) (w : World) (r : Reply World) → answer s 0 w e ≡ r → KeepsWorld w (replied (λ a t. run (answer s 0) (over []) t) r).after
run_keeps s e w r is =
    subst (λ (q : Reply World). KeepsWorld w (replied (λ a t. run (answer s 0) (over []) t) q).after) is (runs_keep s 0 (asks e (λ a. over [])) w).world

pub reply_keeps : (s : Programs) (e : Ask) (w : World) (t : Told) (after : World) → answer s 0 w e ≡ told after t → KeepsWorld w after
reply_keeps s e w (tells a) after is = run_keeps s e w (told after (tells a)) is
reply_keeps s e w (fails kinds) after is = run_keeps s e w (told after (fails kinds)) is
reply_keeps s e w breaks_off after is = run_keeps s e w (told after breaks_off) is
reply_keeps s e w leaves after is = run_keeps s e w (told after leaves) is

-- what is made of a value leaves the world as the value does
turned_told : (ts : List meanings.Turning) (v : Val) (after : World) → (t : Told) × (with_turnings ts (value_left v after) ≡ replies (told after t))
turned_told [] v after = (tells (value v), refl)
turned_told (turning ∷ ts) v after =
    let inner = turned_told ts v after in
    (turned_by after turning inner.0, ap (with_turning turning) inner.1)

module _ (s : Programs) (c : Code) (e : Ask) (operands : List Operand) (w : World) (below : List Operand)
    (asking : (next : Next) (before : Counts) (place : ℕ) → deed next before c place operands ≡ giving next place below e)
    (call : Plan) (planned : plan s.around w e ≡ call) where
  replies_so : (r : Reply World) → call ≡ replies r → (n : ℕ) → answer s n w e ≡ r
  replies_so r is n = ap (settled (runners s n) w) (planned ∙ is)

  value_keeps : (v : Val) (turnings : Vec Turning) (after : World) → call ≡ reached_by s.around (reached.Value v turnings) after → KeepsWorld w after
  value_keeps v turnings after is =
      let turned = turned_told (turnings_in turnings.items) v after in
      reply_keeps s e w turned.0 after (replies_so (told after turned.0) (is ∙ turned.1) 0)

  gives : (v : Val) (after : World) → call ≡ replies (changed after (value v)) → (before : Counts) (place : ℕ) (left : Option ℕ) (taken : Option (List ℕ))
      → Acts (answer s) before c (spot place operands w left taken) (spot (suc place) (single v ∷ below) after left taken)
  gives v after is before place left taken =
      events_act World (answer s) before c e (λ next. on_value (λ u. next (suc place) (single u ∷ below))) (value v) [] 0
      (spot place operands w left taken) (spot (suc place) (single v ∷ below) after left taken)
      (λ next. asking next before place) (λ n le. replies_so (changed after (value v)) is n) (λ next. refl) (paid_nothing left) (Appends-nil taken)

  failing : (kinds : List ErrorKind) (after : World) → call ≡ replies (told after (fails kinds)) → (before : Counts) (place : ℕ) (left : Option ℕ) (taken : Option (List ℕ))
      → FaultsWith (answer s) before c (spot place operands w left taken) kinds after left taken
  failing kinds after is before place left taken =
      events_fault World (answer s) before c e (λ next. on_value (λ u. next (suc place) (single u ∷ below))) kinds [] 0 after left taken
      (spot place operands w left taken) (λ next. asking next before place) (λ n le. replies_so (told after (fails kinds)) is n) (paid_nothing left) (Appends-nil taken)

  -- the value of the call goes on top
  pub given : (later : List Operand) (v : Val) (after : World) → call ≡ replies (changed after (value v)) → later ≡ single v ∷ below
      → StepsHeard {X = Unit {0}} s c operands w (Ok tt) suc later after
  given later v after is put =
      steps_heard {X = Unit {0}} s c operands w (Ok tt) suc later after
      (pushed_out {X = Unit {0}} s c operands w (Ok tt) suc later after below v (gives v after is) put tt)

  -- or the call failed, or no memory is left
  pub failed : (later : List Operand) (after : World) (stop : Stop) → KeepsWorld w after → FaultsSo (λ kinds. call ≡ replies (told after (fails kinds))) stop
      → StepsHeard {X = Unit {0}} s c operands w (Err stop) suc later after
  failed later after (Fault kinds) kept fault = record {
    out = λ before place left taken. faulting (failing kinds after fault before place left taken);
    spares = λ is. cc;
    keeps = kept;
  }
  failed later after (Want kinds) kept why = want_heard s c operands w later after kinds kept why

  -- or it enters
  pub entered : (entry : Entry) (later : List Operand) (after : World) → call ≡ entry_plan s.around entry after → OnlyTemps w after → later ≡ below
      → Enters s c operands w entry later after
  entered entry later after is only same = record {
    ask = e;
    asks = λ next before place. asking next before place ∙ ap (λ rest. giving next place rest e) (sym same);
    planned = planned ∙ is;
    kept = only;
  }

  -- whatever it came to
  pub put_out : (came : Reached) (result : Result (Option Entry) Stop) (later : List Operand) (after : World)
      → call ≡ reached_by s.around came after → KeptUnlessValue (Ok came) w after → Puts came after below result later → Calls s c operands w result later after
  put_out (reached.Value v turnings) (Ok None) later after is kept put = given later put.0 after (is ∙ put.1) put.2
  put_out (reached.Value v turnings) (Err stop) later after is kept put =
      failed later after stop (value_keeps v turnings after is)
      (planned_as {X = Val} value_left call (with_turnings (turnings_in turnings.items) (value_left v after)) (Err stop) after is put)
  put_out (reached.Value v turnings) (Ok (Some entry)) later after is kept none = absurd none
  put_out (reached.Enters entry) (Ok (Some same)) later after is kept put =
      subst (λ (x : Entry). Enters s c operands w x later after) (sym put.0) (entered entry later after is kept put.1)
  put_out (reached.Enters entry) (Ok None) later after is kept none = absurd none
  put_out (reached.Enters entry) (Err stop) later after is kept none = absurd none

-- a value that could not be turned, or be put there
pub puts_stop : (v : Val) (turnings : Vec Turning) (w : World) (operands : List Operand) (result : Result (Option Entry) Stop) (stop : Stop) (later : List Operand)
    → Planned value_left (with_turnings (turnings_in turnings.items) (value_left v w)) (Err stop) w → IsErrAnd result (λ other. other ≡ stop)
    → Puts (reached.Value v turnings) w operands result later
puts_stop v turnings w operands (Ok x) stop later why is = absurd is
puts_stop v turnings w operands (Err other) stop later why is =
    subst (λ (x : Stop). Planned value_left (with_turnings (turnings_in turnings.items) (value_left v w)) (Err x) w) (sym is) why

pub puts_want : (v : Val) (turnings : Vec Turning) (w : World) (operands : List Operand) (result : Result (Option Entry) Stop) (kinds : List ErrorKind) (later : List Operand)
    → NoMemory kinds → IsErrAnd result (λ stop. stop ≡ stop_of kinds) → Puts (reached.Value v turnings) w operands result later
puts_want v turnings w operands result kinds later why is =
    puts_stop v turnings w operands result (stop_of kinds) later
    (told_so (λ ks. with_turnings (turnings_in turnings.items) (value_left v w) ≡ replies (told w (fails ks))) kinds (inl why)) is

-- why a call stopped, which is handed on
pub stop_out : (s : Programs) (c : Code) (operands : List Operand) (w : World) (result : Result (Option Entry) Stop) (later : List Operand) (after : World)
    (stop : Stop) → StepsHeard {X = Unit {0}} s c operands w (Err stop) suc later after → IsErrAnd result (λ other. other ≡ stop) → Calls s c operands w result later after
stop_out s c operands w (Ok x) later after stop performs is = absurd is
stop_out s c operands w (Err other) later after stop performs is =
    subst (λ (x : Stop). StepsHeard {X = Unit {0}} s c operands w (Err x) suc later after) (sym is) performs

-- the error of one that hears nobody
pub err_out : (s : Programs) (c : Code) (operands : List Operand) (w : World) (result : Result (Option Entry) Stop) (later : List Operand) (after : World)
    (kinds : List ErrorKind) → Performs {X = Unit {0}} s c operands w (Err kinds) later after → IsErrAnd result (λ stop. stop ≡ stop_of kinds)
    → Calls s c operands w result later after
err_out s c operands w result later after kinds performs is =
    stop_out s c operands w result later after (stop_of kinds) (steps_heard {X = Unit {0}} s c operands w (Err kinds) suc later after performs) is

-- operands that were taken by another name of the count
pub handed_as : (count same : Option ℕ) (operands : List Operand) (given : Option (List Val × List Operand)) → count ≡ same
    → handed count operands ≡ given → handed same operands ≡ given
handed_as count same operands given is at = subst (λ n. handed n operands ≡ given) is at

pub handed_with : (count : Option ℕ) (operands below : List Operand) (vs us : List Val) → handed count operands ≡ Some (vs, below) → us ≡ vs
    → handed count operands ≡ Some (us, below)
handed_with count operands below vs us at is = at ∙ ap (λ xs. Some (xs, below)) (sym is)

pub refused_as : (count same : Option ℕ) (operands : List Operand) (kinds : List ErrorKind) → count ≡ same
    → RefusesHanded count operands kinds → RefusesHanded same operands kinds
refused_as count same operands kinds is why = subst (λ n. RefusesHanded n operands kinds) is why

-- a name that is not `super` is called
pub called : (s : Programs) (name : List ℕ) (w : World) (vs : List Val) → is_super_name name ≡ false
    → plan s.around w (call_function name vs) ≡ call_plan s.around w (name_called w.globals (looked_up name w) vs)
called s name w vs other =
    ap (λ b. if b then super_called s.around w vs else call_plan s.around w (name_called w.globals (looked_up name w) vs)) other
