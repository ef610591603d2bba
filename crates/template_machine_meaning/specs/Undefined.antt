-- What may be done with an undefined value under each behaviour.
use Rattle.std.specs.Prelude.{Bool, true, false, ◌&&◌, ◌||◌}
use Rattle.template_values_errors.specs.declared.modes.UndefinedBehavior.{UndefinedBehavior}
use Rattle.template_values_errors.specs.declared.modes.UndefinedBehavior.TheVariants.{Chainable, SemiStrict, Strict}
use Rattle.template_values_model.specs.Val.{Val, undefined}
use Rattle.template_values_operators.specs.Kinds.{is_undefined}
use Rattle.template_compiler_tree.specs.declared.operators.BinOpKind.{BinOpKind}
use Rattle.template_compiler_tree.specs.declared.operators.BinOpKind.TheVariants.{Eq, Ne, Lt, Lte, Gt, Gte, Concat, In}
use Rattle.template_compiler_tree.specs.declared.operators.CompareOpKind.{CompareOpKind}
use Rattle.template_compiler_tree.specs.declared.operators.CompareOpKind.TheVariants as compares

-- undefined, and not the silent one that an if-expression without an else part gives
abbrev pub is_loud : Val → Bool
is_loud undefined = true
is_loud _ = false

abbrev pub is_strict : UndefinedBehavior → Bool
is_strict Strict = true
is_strict _ = false

-- undefined may not be printed or gone over
abbrev pub is_half_strict : UndefinedBehavior → Bool
is_half_strict SemiStrict = true
is_half_strict Strict = true
is_half_strict _ = false

abbrev pub forbids_printing : UndefinedBehavior → Val → Bool
forbids_printing mode v = is_half_strict mode && is_loud v

abbrev pub forbids_iterating : UndefinedBehavior → Val → Bool
forbids_iterating mode v = is_half_strict mode && is_loud v

abbrev pub forbids_truth : UndefinedBehavior → Val → Bool
forbids_truth mode v = is_strict mode && is_loud v

-- of either form, also of the silent one
abbrev pub forbids_slicing : UndefinedBehavior → Val → Bool
forbids_slicing mode v = is_strict mode && is_undefined v

abbrev pub forbids_comparing : UndefinedBehavior → Val → Val → Bool
forbids_comparing mode left right = is_strict mode && (is_loud left || is_loud right)

-- what is sought must be defined under the strict behaviour, where it is sought may be gone over
abbrev pub forbids_membership : UndefinedBehavior → Val → Val → Bool
forbids_membership mode left right = (is_strict mode && is_loud left) || forbids_iterating mode right

-- the other operators refuse undefined by themselves
abbrev pub forbids_operator : UndefinedBehavior → BinOpKind → Val → Val → Bool
forbids_operator mode Eq left right = forbids_comparing mode left right
forbids_operator mode Ne left right = forbids_comparing mode left right
forbids_operator mode Lt left right = forbids_comparing mode left right
forbids_operator mode Lte left right = forbids_comparing mode left right
forbids_operator mode Gt left right = forbids_comparing mode left right
forbids_operator mode Gte left right = forbids_comparing mode left right
forbids_operator mode Concat left right = forbids_comparing mode left right
forbids_operator mode In left right = forbids_membership mode left right
forbids_operator mode _ left right = false

abbrev pub forbids_link : UndefinedBehavior → CompareOpKind → Val → Val → Bool
forbids_link mode compares.In left right = forbids_membership mode left right
forbids_link mode compares.NotIn left right = forbids_membership mode left right
forbids_link mode _ left right = forbids_comparing mode left right

-- attributes and items of undefined are undefined under one behaviour alone
abbrev pub is_chainable : UndefinedBehavior → Bool
is_chainable Chainable = true
is_chainable _ = false
