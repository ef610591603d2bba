-- The text that a value prints.
use Rattle.std.specs.Prelude.{ℕ, zero, suc, true, false, List, [], Option, None, Some, Result, Ok, Err, if◌then◌else◌, codes, length, decimal, unwrap_or}
use Rattle.std.specs.Fmt.{signed_decimal}
use Rattle.std.specs.List.{flat_map}
use Rattle.std.specs.Str.{is_utf8}
use Rattle.template_values_model.specs.Fault.{Fault, invalid_operation}
use Rattle.template_values_model.specs.declared.TheConstants.{DEPTH_LIMIT}
use Rattle.template_values_model.specs.Val.{Val, Vals, Pairs, undefined, silent_undefined, none, truth, int, text, safe_text, bytes, list, tuple, map, keyword_map, «module», function, namespace, loop_record, macro_record, no_vals, vals_more, no_pairs, pairs_more}
use Rattle.template_values_core.specs.Maps.{pairs_of}
use Rattle.template_values_forms.specs.Answers.{joined}
use Rattle.template_values_forms.specs.Escapes.{quoted, replaced_byte}
use Rattle.template_values_forms.specs.Known.{Known, LoopSeen, MacroSeen}

-- between a first and a last text
abbrev pub enclosed : List ℕ → Result (List ℕ) Fault → List ℕ → Result (List ℕ) Fault
enclosed first inner last = joined (Ok first) (joined inner (Ok last))

-- values one behind the other: `before` stands before the first, a comma and a space before the others
abbrev pub vals_text : List ℕ → (Val → Result (List ℕ) Fault) → Vals → Result (List ℕ) Fault
vals_text before f no_vals = Ok []
vals_text before f (vals_more v vs) = joined (joined (Ok before) (f v)) (vals_text (codes ", ") f vs)

abbrev pub pair_text : (Val → Result (List ℕ) Fault) → Val → Val → Result (List ℕ) Fault
pair_text f k v = joined (f k) (joined (Ok (codes ": ")) (f v))

abbrev pub pairs_text : List ℕ → (Val → Result (List ℕ) Fault) → Pairs → Result (List ℕ) Fault
pairs_text before f no_pairs = Ok []
pairs_text before f (pairs_more k v ps) = joined (joined (Ok before) (pair_text f k v)) (pairs_text (codes ", ") f ps)

-- a tuple of one value has a comma behind it
abbrev pub tuple_end : Vals → List ℕ
tuple_end (vals_more v no_vals) = codes ",)"
tuple_end _ = codes ")"

abbrev pub bytes_text : List ℕ → List ℕ
bytes_text s = if is_utf8 s then s else flat_map replaced_byte s

abbrev pub map_text : (Val → Result (List ℕ) Fault) → Pairs → Result (List ℕ) Fault
map_text f ps = enclosed (codes "{") (pairs_text [] f ps) (codes "}")

abbrev pub namespace_text : (Val → Result (List ℕ) Fault) → Option (List (Val × Val)) → Result (List ℕ) Fault
namespace_text f None = Err invalid_operation
namespace_text f (Some ps) = map_text f (pairs_of ps)

-- where a loop is among its items
abbrev pub place_text : ℕ → ℕ → Result (List ℕ) Fault
place_text place count = joined (Ok (codes "<loop "))
    (joined (Ok (decimal place)) (joined (Ok (codes "/")) (joined (Ok (decimal count)) (Ok (codes ">")))))

abbrev pub loop_text : Option LoopSeen → Result (List ℕ) Fault
loop_text None = Err invalid_operation
loop_text (Some l) = place_text (unwrap_or l.place 0) (length l.items)

abbrev pub macro_text : Option MacroSeen → Result (List ℕ) Fault
macro_text None = Err invalid_operation
macro_text (Some m) = enclosed (codes "<macro ") (Ok m.name) (codes ">")

-- inside of a container, where no value may nest further
abbrev pub flat_text : Known → Val → Result (List ℕ) Fault
flat_text known undefined = Ok (codes "undefined")
flat_text known silent_undefined = Ok (codes "undefined")
flat_text known none = Ok (codes "none")
flat_text known (truth true) = Ok (codes "true")
flat_text known (truth false) = Ok (codes "false")
flat_text known (int n) = Ok (signed_decimal n)
flat_text known (text s) = Ok (quoted s)
flat_text known (safe_text s) = Ok (quoted s)
flat_text known (bytes s) = Ok (bytes_text s)
flat_text known (function id number) = Ok (codes "<function>")
flat_text known (loop_record id number) = loop_text (known.loops id number)
flat_text known (macro_record id number) = macro_text (known.macros id number)
flat_text known _ = Err invalid_operation

-- inside of a container, where `f` gives the text of what nests in it
abbrev pub nested_text : Known → (Val → Result (List ℕ) Fault) → Val → Result (List ℕ) Fault
nested_text known f (list vs) = enclosed (codes "[") (vals_text [] f vs) (codes "]")
nested_text known f (tuple vs) = enclosed (codes "(") (vals_text [] f vs) (tuple_end vs)
nested_text known f (map ps) = map_text f ps
nested_text known f (keyword_map ps) = map_text f ps
nested_text known f («module» ps s) = Ok s
nested_text known f (namespace id number) = namespace_text f (known.namespaces id number)
nested_text known f v = flat_text known v

-- inside of a container, where values may nest so many levels deep; namespaces are followed
abbrev pub inner_text : Known → ℕ → Val → Result (List ℕ) Fault
inner_text known zero v = flat_text known v
inner_text known (suc n) v = nested_text known (inner_text known n) v

-- how deep the values may nest that are printed
unfoldable pub level_limit : ℕ
level_limit = DEPTH_LIMIT

abbrev pub printed : Known → Val → Result (List ℕ) Fault
printed known undefined = Ok []
printed known silent_undefined = Ok []
printed known (text s) = Ok s
printed known (safe_text s) = Ok s
printed known v = inner_text known level_limit v
