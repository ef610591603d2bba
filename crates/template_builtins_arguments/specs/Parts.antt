-- What a builtin needs of a value under a behaviour of undefined values: its printed form, its items, its truth. Records are not
-- seen by it.
use Rattle.std.specs.Prelude.{ℕ, Bool, true, false, List, if◌then◌else◌, Result, Err}
use Rattle.template_values_errors.specs.declared.ErrorKind.{ErrorKind}
use Rattle.template_values_errors.specs.declared.ErrorKind.TheVariants.{UndefinedError}
use Rattle.template_values_errors.specs.declared.modes.UndefinedBehavior.{UndefinedBehavior}
use Rattle.template_values_errors.specs.declared.modes.UndefinedBehavior.TheVariants.{Lenient, Chainable, SemiStrict, Strict}
use Rattle.template_values_model.specs.Val.{Val, undefined, loop_record, macro_record}
use Rattle.template_values_forms.specs.Known.{nothing_known}
use Rattle.template_values_forms.specs.Printed.{printed}
use Rattle.template_values_forms.specs.Truth as truth
use Rattle.template_values_operators.specs.Iterated.{iterated}
use Rattle.template_callables.specs.Callables.{View}
use Rattle.template_builtins_arguments.specs.Answers.{refused, told}

-- undefined, but not the silent one
abbrev pub is_loud : Val → Bool
is_loud undefined = true
is_loud _ = false

-- an undefined value may neither be printed nor gone over
abbrev pub is_half_strict : UndefinedBehavior → Bool
is_half_strict Lenient = false
is_half_strict Chainable = false
is_half_strict SemiStrict = true
is_half_strict Strict = true

-- nor may it be asked for its truth, or compared
abbrev pub is_strict : UndefinedBehavior → Bool
is_strict Lenient = false
is_strict Chainable = false
is_strict SemiStrict = false
is_strict Strict = true

-- what is found, unless the value is an undefined one whose use is forbidden
abbrev pub unless_forbidden : {T : Type 0} → Bool → Val → Result T ErrorKind → Result T ErrorKind
unless_forbidden forbids v found = if forbids then (if is_loud v then Err UndefinedError else found) else found

-- the printed form
abbrev pub text_of : View → Val → Result (List ℕ) ErrorKind
text_of view v = unless_forbidden (is_half_strict view.undefined) v (told (printed nothing_known v))

-- the items of a loop over the value
abbrev pub items_of : View → Val → Result (List Val) ErrorKind
items_of view v = unless_forbidden (is_half_strict view.undefined) v (told (iterated nothing_known v))

-- a loop and a macro, which are not seen, as a namespace is not
abbrev pub is_unseen : Val → Bool
is_unseen (loop_record id number) = true
is_unseen (macro_record id number) = true
is_unseen _ = false

-- whether it counts as true
abbrev pub truth_of : View → Val → Result Bool ErrorKind
truth_of view v =
    unless_forbidden (is_strict view.undefined) v (if is_unseen v then refused else told (truth.truth_of nothing_known v))
