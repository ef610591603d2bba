-- The view of the representation, kind by kind.
use Rattle.std.proofs.Common.{◌∙◌, sym, ap}
use Rattle.template_values_core.specs.Shape.{repr_view}
use Rattle.template_values_core.proofs.value.Value.content.Goals as goal

pub returns-in-Undefined : goal.returns-in-Undefined
returns-in-Undefined c = sym c.self.view_is ∙ ap repr_view c.in-Undefined.is

pub returns-in-SilentUndefined : goal.returns-in-SilentUndefined
returns-in-SilentUndefined c = sym c.self.view_is ∙ ap repr_view c.in-SilentUndefined.is

pub returns-in-None : goal.returns-in-None
returns-in-None c = sym c.self.view_is ∙ ap repr_view c.in-None.is

pub returns-in-Truth : goal.returns-in-Truth
returns-in-Truth c = sym c.self.view_is ∙ ap repr_view c.in-Truth.is

pub returns-in-Function : goal.returns-in-Function
returns-in-Function c = sym c.self.view_is ∙ ap repr_view c.in-Function.is

pub returns-in-Namespace : goal.returns-in-Namespace
returns-in-Namespace c = sym c.self.view_is ∙ ap repr_view c.in-Namespace.is

pub returns-in-Loop : goal.returns-in-Loop
returns-in-Loop c = sym c.self.view_is ∙ ap repr_view c.in-Loop.is

pub returns-in-Macro : goal.returns-in-Macro
returns-in-Macro c = sym c.self.view_is ∙ ap repr_view c.in-Macro.is

pub returns-in-Text : goal.returns-in-Text
returns-in-Text c = rw c.as_str.ensures.value (rw c.as_ref.ensures (sym c.self.view_is ∙ ap repr_view c.in-Text.is))

pub returns-in-SafeText : goal.returns-in-SafeText
returns-in-SafeText c = rw c.as_str-in-SafeText.ensures.value (rw c.as_ref-in-SafeText.ensures (sym c.self.view_is ∙ ap repr_view c.in-SafeText.is))

pub returns-in-Bytes : goal.returns-in-Bytes
returns-in-Bytes c = rw (c.as_slice.ensures.value, c.as_ref-in-Bytes.ensures) (sym c.self.view_is ∙ ap repr_view c.in-Bytes.is)

pub returns-in-List : goal.returns-in-List
returns-in-List c = rw (c.as_slice-in-List.ensures.value, c.as_ref-in-List.ensures) (sym c.self.view_is ∙ ap repr_view c.in-List.is)

pub returns-in-Tuple : goal.returns-in-Tuple
returns-in-Tuple c = rw (c.as_slice-in-Tuple.ensures.value, c.as_ref-in-Tuple.ensures) (sym c.self.view_is ∙ ap repr_view c.in-Tuple.is)

pub returns-in-Map : goal.returns-in-Map
returns-in-Map c = rw (c.as_slice-in-Map.ensures.value, c.as_ref-in-Map.ensures) (sym c.self.view_is ∙ ap repr_view c.in-Map.is)

pub returns-in-KeywordMap : goal.returns-in-KeywordMap
returns-in-KeywordMap c = rw (c.as_slice-in-KeywordMap.ensures.value, c.as_ref-in-KeywordMap.ensures) (sym c.self.view_is ∙ ap repr_view c.in-KeywordMap.is)

pub returns-in-Module : goal.returns-in-Module
returns-in-Module c =
    rw (c.as_slice-in-Module.ensures.value, c.as_ref-in-Module.ensures, c.as_str-in-Module.ensures.value) (sym c.self.view_is ∙ ap repr_view c.in-Module.is)
