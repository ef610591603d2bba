-- What the filters that make texts for the web make of a value and the arguments after it.
use Rattle.std.specs.Prelude.{ℕ, true, List, [], ◌∷◌, Option, Result, Ok, codes}
use Rattle.serde_json.specs.Data.{Data}
use Rattle.template_values_errors.specs.declared.ErrorKind.{ErrorKind}
use Rattle.template_values_model.specs.Val.{Val, text, safe_text}
use Rattle.template_callables.specs.Callables.{View}
use Rattle.template_builtins_arguments.specs.Answers.{Made, then}
use Rattle.template_builtins_arguments.specs.Arguments.{arguments, flag_from, optional_number}
use Rattle.template_builtins_web.specs.Attributes.{spaced}
use Rattle.template_builtins_web.specs.Elements.{attributes_of}
use Rattle.template_builtins_web.specs.Json.{data_of, layout_of, text_by}
use Rattle.template_builtins_web.specs.Markup.{unmarked}
use Rattle.template_builtins_web.specs.Queries.{url_text}
use Rattle.template_builtins_web.specs.declared.filter.WebFilter.{WebFilter}
use Rattle.template_builtins_web.specs.declared.filter.WebFilter.TheVariants.{ToJson, UrlEncode, XmlAttr}

-- on one line or laid out, by an argument
abbrev pub layout_from : Option Val → Result (Option ℕ) ErrorKind
layout_from indent = then (optional_number indent) layout_of

-- the JSON text as a safe text, where it means nothing to HTML
abbrev pub json_value : Option ℕ → Data → Val
json_value layout d = safe_text (unmarked (text_by layout d))

-- a value without JSON is refused before a wrong argument
abbrev pub json_given : View → Val → Option Val → Made
json_given view v indent =
    then (data_of view v) (λ d.
    then (layout_from indent) (λ layout.
    Ok (json_value layout d)))

abbrev pub to_json : View → Val → List Val → Made
to_json view v vs = then (arguments (codes "indent" ∷ []) 0 vs) (λ given. json_given view v (given 0))

abbrev pub url_encode : View → Val → List Val → Made
url_encode view v vs = then (arguments [] 0 vs) (λ given. then (url_text view v) (λ s. Ok (text s)))

abbrev pub xml_spaced : View → Option Val → List ℕ → Made
xml_spaced view autospace s = then (flag_from view autospace true) (λ wanted. Ok (safe_text (spaced wanted s)))

abbrev pub xml_given : View → Val → Option Val → Made
xml_given view v autospace = then (attributes_of view v) (λ s. xml_spaced view autospace s)

abbrev pub xml_attributes : View → Val → List Val → Made
xml_attributes view v vs = then (arguments (codes "autospace" ∷ []) 0 vs) (λ given. xml_given view v (given 0))

abbrev pub web_filtered : WebFilter → View → Val → List Val → Made
web_filtered ToJson view v vs = to_json view v vs
web_filtered UrlEncode view v vs = url_encode view v vs
web_filtered XmlAttr view v vs = xml_attributes view v vs
