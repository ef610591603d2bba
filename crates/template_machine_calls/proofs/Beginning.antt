-- Calls as they begin.
use Rattle.std.proofs.Common.{◌≡◌, ◌⊎◌, inl, inr, ℕ, List, [], ◌∷◌, Option, Some, Result, Ok, Err, ap, subst}
use Rattle.template_values_errors.specs.declared.ErrorKind.{ErrorKind}
use Rattle.template_values_errors.specs.Memory.{NoMemory}
use Rattle.template_values_model.specs.Val.{Val}
use Rattle.template_values_forms.specs.Known.{Known}
use Rattle.template_callables.specs.Callables.{View, Says}
use Rattle.template_callables.specs.Callbacks.{AnswersUnder}
use Rattle.template_callables.specs.declared.answer.Answer.{Answer}
use Rattle.template_compiler_process.specs.Process.{fails}
use Rattle.template_machine_meaning.specs.Calls.{called_plan}
use Rattle.template_machine_meaning.specs.Functions as functions
use Rattle.template_machine_meaning.specs.Functions.{gives, makes, compares, invokes, calls, runs_again, method_of, found_called, name_called, value_called, method_called}
use Rattle.template_machine_meaning.specs.Keys.{Around}
use Rattle.template_machine_meaning.specs.Plans.{replies}
use Rattle.template_machine_meaning.specs.Replies.{told}
use Rattle.template_machine_meaning.specs.World.{Globals, World}
use Rattle.template_machine_operations.specs.Called.{Comes, ComesOr, refusal_of}
use Rattle.template_machine_operations.specs.declared.called.Called.{Called}
use Rattle.template_machine_calls.specs.Left.{Going}

-- a call that is refused, or no memory is left
pub refused_planned : (a : Around) (pending : ℕ) (go : Going) (w : World) (call : functions.Called) (kinds : List ErrorKind) → NoMemory kinds ⊎ (refusal_of call ≡ Some kinds)
    → NoMemory kinds ⊎ (called_plan a pending go w call ≡ replies (told w (fails kinds)))
refused_planned a pending go w call kinds (inl why) = inl why
refused_planned a pending go w (gives (Ok v)) kinds (inr is) = absurd (cc)
refused_planned a pending go w (gives (Err kind)) kinds (inr is) = let same : kind ∷ [] ≡ kinds = cc in inr (ap (λ ks. replies (told w (fails ks))) same)
refused_planned a pending go w (makes entries) kinds (inr is) = absurd (cc)
refused_planned a pending go w (compares number vs) kinds (inr is) = absurd (cc)
refused_planned a pending go w (invokes what vs) kinds (inr is) = absurd (cc)
refused_planned a pending go w (calls id number vs) kinds (inr is) = absurd (cc)
refused_planned a pending go w (runs_again id number vs) kinds (inr is) = absurd (cc)

-- what a call comes to, by other names of what it was made with
pub value_as : (result : Result Called (List ErrorKind)) (g h : Globals) (callee : Val) (args vs : List Val) → g ≡ h → args ≡ vs
    → Comes result args (value_called g callee args) → Comes result vs (value_called h callee vs)
value_as result g h callee args vs is taken comes =
    subst (λ us. Comes result us (value_called h callee us)) taken (subst (λ x. Comes result args (value_called x callee args)) is comes)

pub named_as : (result : Result Called (List ErrorKind)) (g h : Globals) (found named : Option Val) (args vs : List Val) → g ≡ h → found ≡ named → args ≡ vs
    → Comes result args (name_called g found args) → Comes result vs (name_called h named vs)
named_as result g h found named args vs is stands taken comes =
    subst (λ us. Comes result us (name_called h named us)) taken
    (subst (λ x. Comes result args (name_called x named args)) is (subst (λ o. Comes result args (name_called g o args)) stands comes))

pub found_as : (result : Result Called (List ErrorKind)) (g h : Globals) (found named : Option Val) (args vs : List Val) → g ≡ h → found ≡ named → args ≡ vs
    → Comes result args (found_called g found args) → Comes result vs (found_called h named vs)
found_as result g h found named args vs is stands taken comes =
    subst (λ us. Comes result us (found_called h named us)) taken
    (subst (λ x. Comes result args (found_called x named args)) is (subst (λ o. Comes result args (found_called g o args)) stands comes))

pub method_as : (result : Result (Option Called) (List ErrorKind)) (g h : Globals) (known : Known) (name : List ℕ) (v : Val) (args vs : List Val) → g ≡ h → args ≡ vs
    → ComesOr (invokes (method_of v name) args) result args (method_called g known name v args)
    → ComesOr (invokes (method_of v name) vs) result vs (method_called h known name v vs)
method_as result g h known name v args vs is taken comes =
    subst (λ us. ComesOr (invokes (method_of v name) us) result us (method_called h known name v us)) taken
    (subst (λ x. ComesOr (invokes (method_of v name) args) result args (method_called x known name v args)) is comes)

-- a view by another name
pub answers_as : (says : Option Says) (seen same : View) (args : List Val) (answer : Option Answer) → seen ≡ same → AnswersUnder says seen args answer
    → AnswersUnder says same args answer
answers_as says seen same args answer is answers = subst (λ view. AnswersUnder says view args answer) is answers
