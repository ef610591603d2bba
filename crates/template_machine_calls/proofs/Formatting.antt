-- What values are printed as is what a run writes that prints them.
use Rattle.std.proofs.Common.{◌≡◌, ◌⊎◌, inl, inr, Bool, true, false, ℕ, List, [], ◌∷◌, Option, None, Some, Result, Ok, Err, IsErrAnd, refl, sym, ap, ◌∙◌, subst, if◌then◌else◌}
use Rattle.std.specs.Prelude.{String, string_bytes}
use Rattle.std.specs.Global.{Global}
use Rattle.template_values_errors.specs.declared.ErrorKind.{ErrorKind}
use Rattle.template_values_errors.specs.declared.ErrorKind.TheVariants.{OutOfMemory, UndefinedError}
use Rattle.template_values_errors.specs.Memory.{NoMemory}
use Rattle.template_values_errors.specs.declared.modes.AutoEscape.{AutoEscape}
use Rattle.template_values_model.specs.Fault.{Fault}
use Rattle.template_values_model.specs.Val.{Val}
use Rattle.template_values_forms.specs.Answers.{AppendsOrRefuses}
use Rattle.template_values_forms.specs.Escaped.{escaped}
use Rattle.template_callables.specs.Callables as callables
use Rattle.template_callables.specs.Callables.{View, Formatted, writes, forbids}
use Rattle.template_callables.specs.Callbacks.{FormatsUnder}
use Rattle.template_callables.specs.Formats.{Formats}
use Rattle.template_callables.specs.declared.format.FormatAnswer.{FormatAnswer}
use Rattle.template_callables.specs.declared.format.FormatAnswer.TheVariants as answers
use Rattle.template_compiler_process.specs.Process.{fails}
use Rattle.template_compiler_process.specs.Trace.{Reply}
use Rattle.template_machine_meaning.specs.Calls.{view_of}
use Rattle.template_machine_meaning.specs.Keys.{Around}
use Rattle.template_machine_meaning.specs.Records.{known_of}
use Rattle.template_machine_meaning.specs.Replies.{told, refused, kinded}
use Rattle.template_machine_meaning.specs.Surroundings.{text_reply, printed_reply, formatted_reply, format_reply, written_reply}
use Rattle.template_machine_meaning.specs.Undefined.{forbids_printing}
use Rattle.template_machine_meaning.specs.World.{World}
use Rattle.template_machine_operations.specs.Answers.{answered}
use Rattle.template_machine_going.specs.Told.{FaultsSo, stop_of, told_by}
use Rattle.template_machine_going.specs.declared.stop.Stop.{Stop}
use Rattle.template_machine_going.specs.declared.stop.Stop.TheVariants as stops
use Rattle.template_machine_going.proofs.Telling.{told_so}
use Rattle.template_machine_calls.specs.Formatted.{Printed, escaped_in, formatted_in, formatted_by, printed_as, IsMade}

-- what is replied where a value is printed as this
abbrev pub printed_told : World → Printed → Reply World
printed_told w (Ok text) = text_reply w text
printed_told w (Err kinds) = told w (fails kinds)

escaped_told : (w : World) (r : Result (List ℕ) ErrorKind) → printed_reply w r ≡ printed_told w (answered r)
escaped_told w (Ok text) = refl
escaped_told w (Err kind) = refl

formatted_told : (w : World) (v : Val) (stated : Formatted) → formatted_reply w v stated ≡ printed_told w (formatted_in w stated)
formatted_told w v (writes text) = refl
formatted_told w v (callables.escapes other) = escaped_told w (kinded (escaped w.escape (known_of w) other))
formatted_told w v (forbids kinds) = refl

answer_told : (a : Around) (w : World) (v : Val) (formats : Option (View → Val → Formatted))
    → format_reply a w v formats ≡ printed_told w (formatted_by w (view_of a w) v formats)
answer_told a w v None = escaped_told w (kinded (escaped w.escape (known_of w) v))
answer_told a w v (Some formats) = formatted_told w v (formats (view_of a w) v)

guarded_told : (a : Around) (w : World) (v : Val) (forbidden : Bool)
    → (if forbidden then refused w UndefinedError else format_reply a w v a.callables.formats)
    ≡ printed_told w (if forbidden then Err (UndefinedError ∷ []) else formatted_by w (view_of a w) v a.callables.formats)
guarded_told a w v true = refl
guarded_told a w v false = answer_told a w v a.callables.formats

written_told : (a : Around) (w : World) (v : Val) → written_reply a w v ≡ printed_told w (printed_as a w v)
written_told a w v = guarded_told a w v (forbids_printing a.undefined v)

-- a text is written
pub written_so : (a : Around) (w : World) (v : Val) (text : List ℕ) → printed_as a w v ≡ Ok text → written_reply a w v ≡ text_reply w text
written_so a w v text is = written_told a w v ∙ ap (printed_told w) is

-- or what refuses it is told
pub refused_so : (a : Around) (w : World) (v : Val) (stop : Stop) → FaultsSo (λ kinds. printed_as a w v ≡ Err kinds) stop
    → FaultsSo (λ kinds. written_reply a w v ≡ told w (fails kinds)) stop
refused_so a w v (stops.Fault kinds) is = written_told a w v ∙ ap (printed_told w) is
refused_so a w v (stops.Want kinds) why = why

-- the text of a value is made under an escape
not_made : (printed : Printed) (kinds : List ErrorKind) (text : List ℕ) → NoMemory kinds ⊎ (printed ≡ Err kinds)
    → IsMade {X = Unit {0}} printed (Err (stop_of kinds)) text
not_made printed kinds text why = told_so (λ ks. printed ≡ Err ks) kinds why

pub made_so : (reply : Result (List ℕ) Fault) (result : Result (Unit {0}) (List ErrorKind)) (text : List ℕ)
    → AppendsOrRefuses [] reply result text → IsMade (answered (kinded reply)) (told_by result) text
made_so (Ok s) (Ok u) text made = ap Ok (sym made)
made_so (Ok s) (Err kinds) text made = not_made (Ok s) kinds text (inl made.0)
made_so (Err fault) (Ok u) text made = absurd made
made_so (Err fault) (Err kinds) text (inl is, kept) = not_made (answered (kinded (Err fault))) kinds text (inr (ap Err (sym is)))
made_so (Err fault) (Err kinds) text (inr why, kept) = not_made (answered (kinded (Err fault))) kinds text (inl why)

-- by another name of the escape
pub made_as : (w : World) (v : Val) (rule : AutoEscape) (result : Result (Unit {0}) (List ErrorKind)) (text : List ℕ) → rule ≡ w.escape
    → AppendsOrRefuses [] (escaped rule (known_of w) v) result text → IsMade (escaped_in w v) (told_by result) text
made_as w v rule result text is made =
    made_so (escaped w.escape (known_of w) v) result text (subst (λ e. AppendsOrRefuses [] (escaped e (known_of w) v) result text) is made)

-- or that call failed
pub err_made : {X : Type 0} (w : World) (v : Val) (rule : AutoEscape) (result : Result X Stop) (kinds : List ErrorKind) (text : List ℕ) → rule ≡ w.escape
    → AppendsOrRefuses [] (escaped rule (known_of w) v) (Err kinds) text → IsErrAnd result (λ stop. stop ≡ stop_of kinds) → IsMade (escaped_in w v) result text
err_made w v rule (Ok x) kinds text same why is = absurd is
err_made w v rule (Err stop) kinds text same why is =
    subst (FaultsSo (λ ks. escaped_in w v ≡ Err ks)) (sym is) (made_as w v rule (Err kinds) text same why)

-- an undefined value that may not be printed
pub forbidden_so : (a : Around) (w : World) (v : Val) (forbidden : Bool) (kinds : List ErrorKind)
    → forbidden ≡ forbids_printing a.undefined v → forbidden ≡ true → kinds ≡ UndefinedError ∷ [] → printed_as a w v ≡ Err kinds
forbidden_so a w v forbidden kinds is holds refused =
    ap (λ b. if b then Err (UndefinedError ∷ []) else formatted_by w (view_of a w) v a.callables.formats) (sym is ∙ holds) ∙ ap Err (sym refused)

-- any other
pub let_through : {X : Type 0} (a : Around) (w : World) (v : Val) (forbidden : Bool) (result : Result X Stop) (text : List ℕ)
    → forbidden ≡ forbids_printing a.undefined v → forbidden ≡ false → IsMade (formatted_by w (view_of a w) v a.callables.formats) result text
    → IsMade (printed_as a w v) result text
let_through a w v forbidden result text is holds made =
    subst (λ (p : Printed). IsMade p result text)
    (sym (ap (λ b. if b then Err (UndefinedError ∷ []) else formatted_by w (view_of a w) v a.callables.formats) (sym is ∙ holds))) made

-- a view by another name
pub states_as : (formats : Option (View → Val → Formatted)) (seen same : View) (v : Val) (answer : Option FormatAnswer) → seen ≡ same
    → FormatsUnder formats seen v answer → FormatsUnder formats same v answer
states_as formats seen same v answer is states = subst (λ view. FormatsUnder formats view v answer) is states

-- a formatter's answer is what it states
module _ (w : World) where
  pub given_raw : (stated : Formatted) (raw : String Global) (text : List ℕ) → Formats stated (answers.Raw raw) → text ≡ string_bytes raw
      → formatted_in w stated ≡ Ok text
  given_raw stated raw text (inl is) same = ap (formatted_in w) (sym is) ∙ ap Ok (sym same)
  given_raw stated raw text (inr is) same = cc

  pub given_escaped : (stated : Formatted) (v : Val) (result : Result (Unit {0}) Stop) (text : List ℕ) → Formats stated (answers.Escaped v)
      → IsMade (escaped_in w v) result text → IsMade (formatted_in w stated) result text
  given_escaped stated v result text (inl is) made = subst (λ f. IsMade (formatted_in w f) result text) is made
  given_escaped stated v result text (inr is) made = cc

  fault_so : (stated : Formatted) (kinds : List ErrorKind) → Formats stated (answers.Fault kinds) → NoMemory kinds ⊎ (formatted_in w stated ≡ Err kinds)
  fault_so stated kinds (inl is) = inr (ap (formatted_in w) (sym is))
  fault_so stated kinds (inr is) = let why : kinds ≡ OutOfMemory ∷ [] = cc in inl why

  pub given_fault : (stated : Formatted) (kinds : List ErrorKind) (stop : Stop) → Formats stated (answers.Fault kinds) → stop ≡ stop_of kinds
      → FaultsSo (λ ks. formatted_in w stated ≡ Err ks) stop
  given_fault stated kinds stop states is =
      subst (FaultsSo (λ ks. formatted_in w stated ≡ Err ks)) (sym is) (told_so (λ ks. formatted_in w stated ≡ Err ks) kinds (fault_so stated kinds states))

  module _ (view : View) (v : Val) where
    -- where one answers
    pub answered_some : (formats : Option (View → Val → Formatted)) (answer : FormatAnswer) (result : Result (Unit {0}) Stop) (text : List ℕ)
        → FormatsUnder formats view v (Some answer) → ((stated : Formatted) → Formats stated answer → IsMade (formatted_in w stated) result text)
        → IsMade (formatted_by w view v formats) result text
    answered_some None answer result text none made = absurd (cc)
    answered_some (Some formats) answer result text states made = made (formats view v) states

    -- and where none does
    pub answered_none : (formats : Option (View → Val → Formatted)) (result : Result (Unit {0}) Stop) (text : List ℕ)
        → FormatsUnder formats view v None → IsMade (escaped_in w v) result text → IsMade (formatted_by w view v formats) result text
    answered_none None result text none made = made
    answered_none (Some formats) result text states made = absurd states
