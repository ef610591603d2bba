-- What is made of values, and in which order.
use Rattle.std.proofs.Common.{length, arith, ◌≡◌, ◌⊎◌, inl, inr, ℕ, Bool, List, [], ◌∷◌, ◌++◌, Option, None, Some, Result, Ok, Err, refl, sym, ap, ◌∙◌, subst, append-nil}
use Rattle.template_values_errors.specs.declared.ErrorKind.{ErrorKind}
use Rattle.template_values_errors.specs.declared.modes.AutoEscape.{AutoEscape}
use Rattle.template_values_errors.specs.Memory.{NoMemory}
use Rattle.template_values_model.specs.Fault.{Fault, kind_of}
use Rattle.template_values_model.specs.Gives.{alone}
use Rattle.template_values_model.specs.Val.{Val, truth}
use Rattle.template_values_forms.specs.Answers.{AppendsOrRefuses}
use Rattle.template_values_forms.specs.Printed.{printed}
use Rattle.template_values_forms.specs.Truth.{truth_of}
use Rattle.template_callables.specs.Callables.{Asked}
use Rattle.template_compiler_process.specs.Process.{fails}
use Rattle.template_machine_meaning.specs.Captures.{captured}
use Rattle.template_machine_meaning.specs.Plans.{Plan, replies, with_turning}
use Rattle.template_machine_meaning.specs.Records.{known_of}
use Rattle.template_machine_meaning.specs.Replies.{told, kinded}
use Rattle.template_machine_meaning.specs.Turnings.{to_truth, to_text, decided, worded}
use Rattle.template_machine_meaning.specs.World.{World, keeps}
use Rattle.template_machine_going.specs.Told.{FaultsSo}
use Rattle.template_machine_going.specs.declared.stop.Stop.{Stop}
use Rattle.template_machine_going.specs.declared.stop.Stop.TheVariants as stops
use Rattle.template_machine_calls.specs.Left.{turning_in, turnings_for, turnings_in, value_left, with_turnings}
use Rattle.template_machine_calls.specs.Noted.{turnings_or_none}
use Rattle.template_machine_calls.specs.declared.reached.Turning.{Turning}
use Rattle.template_machine_calls.proofs.Chaining.{turned_fails, turned_on}

-- one more behind the others
turned_append : (ts : List Turning) (t : Turning) → turnings_in (ts ++ t ∷ []) ≡ turnings_in ts ++ turning_in t ∷ []
turned_append [] t = refl
turned_append (x ∷ ts) t = ap (λ us. turning_in x ∷ us) (turned_append ts t)

pub one_noted : (old new : List Turning) (t : Turning) (found : Option Turning) (asked : Asked) → new ≡ old ++ t ∷ [] → turnings_or_none found ≡ turnings_for asked
    → found ≡ Some t → turnings_in new ≡ turnings_in old ++ turnings_for asked
one_noted old new t found asked is meant stands =
    ap turnings_in is ∙ turned_append old t ∙ ap (λ us. turnings_in old ++ us) (sym (ap turnings_or_none stands) ∙ meant)

pub none_noted : (old : List Turning) (found : Option Turning) (asked : Asked) → turnings_or_none found ≡ turnings_for asked → found ≡ None
    → turnings_in old ≡ turnings_in old ++ turnings_for asked
none_noted old found asked meant lacks = sym (ap (λ us. turnings_in old ++ us) (sym meant ∙ ap turnings_or_none lacks) ∙ append-nil (turnings_in old))

-- the last one is made first
last_first : (all left : List Turning) (t : Turning) (p : Plan) → all ≡ left ++ t ∷ []
    → with_turnings (turnings_in all) p ≡ with_turnings (turnings_in left) (with_turning (turning_in t) p)
last_first all left t p is =
    ap (λ (ts : List Turning). with_turnings (turnings_in ts) p) is ∙ ap (λ us. with_turnings us p) (turned_append left t)
    ∙ sym (turned_on (turnings_in left) (turning_in t ∷ []) p)

pub next_turned : (all left : List Turning) (t : Turning) (plan : Plan) (v u : Val) (w : World) → plan ≡ with_turnings (turnings_in all) (value_left v w)
    → all ≡ left ++ t ∷ [] → with_turning (turning_in t) (value_left v w) ≡ value_left u w → plan ≡ with_turnings (turnings_in left) (value_left u w)
next_turned all left t plan v u w before is comes = before ∙ last_first all left t (value_left v w) is ∙ ap (with_turnings (turnings_in left)) comes

pub turning_failed : (all left : List Turning) (t : Turning) (plan : Plan) (v : Val) (w : World) (stop : Stop)
    → plan ≡ with_turnings (turnings_in all) (value_left v w) → all ≡ left ++ t ∷ []
    → FaultsSo (λ kinds. with_turning (turning_in t) (value_left v w) ≡ replies (told w (fails kinds))) stop
    → FaultsSo (λ kinds. plan ≡ replies (told w (fails kinds))) stop
turning_failed all left t plan v w (stops.Fault kinds) before is fault =
    before ∙ last_first all left t (value_left v w) is ∙ ap (with_turnings (turnings_in left)) fault ∙ turned_fails (turnings_in left) w kinds
turning_failed all left t plan v w (stops.Want kinds) before is why = why

pub all_turned : (all : List Turning) (plan : Plan) (v : Val) (w : World) → plan ≡ with_turnings (turnings_in all) (value_left v w) → length all ≡ 0 → plan ≡ value_left v w
all_turned [] plan v w before none = before
all_turned (t ∷ ts) plan v w before none = absurd (omega (arith, none))

-- a value is taken for true or false
decided_fault : (w : World) (r : Result Bool Fault) (kinds : List ErrorKind) → Err kinds ≡ alone r
    → replies (told w (decided (kinded r))) ≡ replies (told w (fails kinds))
decided_fault w (Ok b) kinds is = absurd (cc)
decided_fault w (Err fault) kinds is = let same : kinds ≡ kind_of fault ∷ [] = cc in ap (λ ks. replies (told w (fails ks))) (sym same)

decided_value : (w : World) (r : Result Bool Fault) (b : Bool) → Ok b ≡ alone r → replies (told w (decided (kinded r))) ≡ value_left (truth b) w
decided_value w (Ok c) b is = let same : b ≡ c = cc in ap (λ (x : Bool). value_left (truth x) w) (sym same)
decided_value w (Err fault) b is = absurd (cc)

pub truth_refused : (w : World) (v : Val) (kinds : List ErrorKind) → Err kinds ≡ alone (truth_of (known_of w) v)
    → NoMemory kinds ⊎ (with_turning to_truth (value_left v w) ≡ replies (told w (fails kinds)))
truth_refused w v kinds is = inr (decided_fault w (truth_of (known_of w) v) kinds is)

pub truth_turned : (w : World) (v : Val) (b : Bool) (u : Val) → Ok b ≡ alone (truth_of (known_of w) v) → u ≡ truth b
    → with_turning to_truth (value_left v w) ≡ value_left u w
truth_turned w v b u is made = decided_value w (truth_of (known_of w) v) b is ∙ ap (λ x. value_left x w) (sym made)

-- or is printed
either_fault : (w : World) (fault : Fault) (kinds : List ErrorKind) → (kinds ≡ kind_of fault ∷ []) ⊎ NoMemory kinds
    → NoMemory kinds ⊎ (replies (told w (fails (kind_of fault ∷ []))) ≡ replies (told w (fails kinds)))
either_fault w fault kinds (inl same) = inr (ap (λ ks. replies (told w (fails ks))) (sym same))
either_fault w fault kinds (inr why) = inl why

worded_fault : (w : World) (r : Result (List ℕ) Fault) (kinds : List ErrorKind) (after : List ℕ) → AppendsOrRefuses [] r (Err kinds) after
    → NoMemory kinds ⊎ (replies (told w (worded w.escape (kinded r))) ≡ replies (told w (fails kinds)))
worded_fault w (Ok text) kinds after is = inl is.0
worded_fault w (Err fault) kinds after is = either_fault w fault kinds is.0

worded_value : (w : World) (r : Result (List ℕ) Fault) (after : List ℕ) → AppendsOrRefuses [] r (Ok tt) after
    → replies (told w (worded w.escape (kinded r))) ≡ value_left (captured w.escape (keeps after)) w
worded_value w (Ok text) after is = ap (λ (x : List ℕ). value_left (captured w.escape (keeps x)) w) (sym is)
worded_value w (Err fault) after is = absurd is

pub text_refused : (w : World) (v : Val) (kinds : List ErrorKind) (before after : List ℕ) → before ≡ [] → AppendsOrRefuses before (printed (known_of w) v) (Err kinds) after
    → NoMemory kinds ⊎ (with_turning to_text (value_left v w) ≡ replies (told w (fails kinds)))
text_refused w v kinds before after none is =
    worded_fault w (printed (known_of w) v) kinds after (subst (λ (b : List ℕ). AppendsOrRefuses b (printed (known_of w) v) (Err kinds) after) none is)

pub text_turned : (w : World) (v u : Val) (before after : List ℕ) → before ≡ [] → AppendsOrRefuses before (printed (known_of w) v) (Ok tt) after
    → u ≡ captured w.escape (keeps after) → with_turning to_text (value_left v w) ≡ value_left u w
text_turned w v u before after none is made =
    worded_value w (printed (known_of w) v) after (subst (λ (b : List ℕ). AppendsOrRefuses b (printed (known_of w) v) (Ok tt) after) none is)
    ∙ ap (λ x. value_left x w) (sym made)

-- by another name of the escape
pub text_worded : (w : World) (v u : Val) (before after : List ℕ) (rule : AutoEscape) → before ≡ []
    → AppendsOrRefuses before (printed (known_of w) v) (Ok tt) after → rule ≡ w.escape → u ≡ captured rule (keeps after)
    → with_turning to_text (value_left v w) ≡ value_left u w
text_worded w v u before after rule none is same made =
    text_turned w v u before after none is (made ∙ ap (λ (r : AutoEscape). captured r (keeps after)) same)
