-- The shape that an outline stands for.
use Rattle.std.specs.Prelude.{ℕ, ◌+◌, Bool, true, false, suc, if◌then◌else◌, List, [], ◌∷◌, ◌++◌, replicate, reverse, Option, None}
use Rattle.template_compiler_code_shapes.specs.Shapes.{Form, single_form, counted_form, counting_form, closure_form, Shape, lowered}
use Rattle.template_compiler_code_shapes.specs.declared.outline.Other.{Other}
use Rattle.template_compiler_code_shapes.specs.declared.outline.Other.TheVariants.{Counted, Counting, Closure}
use Rattle.template_compiler_code_shapes.specs.declared.outline.Under.{Under}
use Rattle.template_compiler_code_shapes.specs.declared.outline.Outline.{Outline}

abbrev pub form_in : Other → Form
form_in Counted = counted_form
form_in Counting = counting_form
form_in Closure = closure_form

-- so many values over the others, of which the first is the top one
abbrev pub forms_over : List Under → ℕ → List Form
forms_over [] values = replicate values single_form
forms_over (u ∷ us) values = replicate values single_form ++ form_in u.other ∷ forms_over us u.below

abbrev pub shape_of : Outline → Shape
shape_of o = record {
  operands = forms_over (reverse o.others.items) o.values;
  frames = reverse o.frames.items;
  escapes = o.escapes;
  captures = o.captures;
  in_macro = o.in_macro;
}

-- how many values lie on top
abbrev pub values_in : Outline → ℕ
values_in o = o.values

-- how many operands the others are, with the values below them
abbrev pub count_under : List Under → ℕ
count_under [] = 0
count_under (u ∷ us) = suc (u.below + count_under us)

-- a value lies on top, and under it an operand of a form
abbrev pub has_under : Form → List Form → Bool
has_under counted_form (single_form ∷ counted_form ∷ forms) = true
has_under counting_form (single_form ∷ counting_form ∷ forms) = true
has_under closure_form (single_form ∷ closure_form ∷ forms) = true
has_under _ _ = false

abbrev pub below_two : List Form → List Form
below_two (one ∷ two ∷ forms) = forms
below_two _ = []

-- the two are taken
abbrev pub pair_taken : Form → Shape → Option Shape
pair_taken form s = if has_under form s.operands then lowered s (below_two s.operands) else None
