-- How texts are put together.
use Rattle.std.specs.Prelude.{ℕ, ◌&&◌, ◌||◌, Bool, false, not, List, Option, None, Some, if◌then◌else◌}
use Rattle.template_values_model.specs.Val.{Val}
use Rattle.template_values_forms.specs.Escapes.{html}
use Rattle.template_callables.specs.Callables.{View}
use Rattle.template_builtins_arguments.specs.Texts.{is_html, is_safe}

abbrev pub is_safe_argument : Option Val → Bool
is_safe_argument None = false
is_safe_argument (Some v) = is_safe v

-- a value and an argument are put together to a safe text
abbrev pub makes_both_safe : View → Val → Option Val → Bool
makes_both_safe view v given = is_html view.escape && (is_safe v || is_safe_argument given)

-- a text is put in under HTML's escape where the whole is to be safe and it is not
abbrev pub put_in : Bool → Bool → List ℕ → List ℕ
put_in whole_safe safe s = if whole_safe && not safe then html s else s
