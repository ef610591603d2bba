-- The methods that values have beside their own attributes, by kind of value and by name.
use Rattle.std.specs.Prelude.{ℕ, List, [], ◌∷◌, map, Option, None, Some, option_map, bytes_eq, if◌then◌else◌, Err}
use Rattle.std.specs.Borrow.{Bor}
use Rattle.std.specs.Option.{option_or}
use Rattle.template_values_errors.specs.declared.ErrorKind.TheVariants.{UnknownMethod}
use Rattle.template_values_model.specs.Val as value
use Rattle.template_values_model.specs.Val.{Val}
use Rattle.template_callables.specs.Callables.{Stated, View}
use Rattle.template_builtins_arguments.specs.Answers.{Made, answered}
use Rattle.template_builtins_fields.specs.Answers.{field_made}
use Rattle.template_builtins_fields.specs.declared.method.FieldMethod.{FieldMethod}
use Rattle.template_builtins_pieces.specs.Answers.{piece_made}
use Rattle.template_builtins_pieces.specs.declared.method.PieceMethod.{PieceMethod}
use Rattle.template_builtins_methods.specs.Maps.{map_called}
use Rattle.template_builtins_methods.specs.Lists.{list_called}
use Rattle.template_builtins_methods.specs.Texts.{text_called}
use Rattle.template_builtins_methods.specs.declared.maps.MapMethod.{MapMethod}
use Rattle.template_builtins_methods.specs.declared.lists.ListMethod.{ListMethod}
use Rattle.template_builtins_methods.specs.declared.texts.TextMethod.{TextMethod}
use Rattle.template_builtins_methods.specs.declared.names.TheConstants.{TEXT_METHODS, PIECE_METHODS, FIELD_METHODS, MAP_METHODS, LIST_METHODS}
use Rattle.template_builtins_methods.specs.declared.method.PythonMethod.{PythonMethod}
use Rattle.template_builtins_methods.specs.declared.method.PythonMethod.TheVariants as methods
use Rattle.template_builtins_methods.specs.declared.method.PythonMethods.{PythonMethods}

-- names with what stands under them
abbrev pub rows_of : {K : Type 0} → List (Bor (List ℕ) × K) → List (List ℕ × K)
rows_of = map (λ row. (row.0.now, row.1))

-- what stands first under the name
abbrev pub named : {K : Type 0} → List (List ℕ × K) → List ℕ → Option K
named [] name = None
named (row ∷ rows) name = if bytes_eq row.0 name then Some row.1 else named rows name

unfoldable pub text_method : List ℕ → Option TextMethod
text_method = named (map (λ row. (row.0.now, row.1)) TEXT_METHODS)

unfoldable pub piece_method : List ℕ → Option PieceMethod
piece_method = named (map (λ row. (row.0.now, row.1)) PIECE_METHODS)

unfoldable pub field_method : List ℕ → Option FieldMethod
field_method = named (map (λ row. (row.0.now, row.1)) FIELD_METHODS)

unfoldable pub map_method : List ℕ → Option MapMethod
map_method = named (map (λ row. (row.0.now, row.1)) MAP_METHODS)

unfoldable pub list_method : List ℕ → Option ListMethod
list_method = named (map (λ row. (row.0.now, row.1)) LIST_METHODS)

-- of texts there are three tables
abbrev pub method_of_format : List ℕ → Option PythonMethod
method_of_format name = option_or (option_map methods.Piece (piece_method name)) (option_map methods.Field (field_method name))

abbrev pub method_of_text : List ℕ → Option PythonMethod
method_of_text name = option_or (option_map methods.Text (text_method name)) (method_of_format name)

-- the method of a name that a value of its kind has
unfoldable pub method_of : Val → List ℕ → Option PythonMethod
method_of (value.text s) name = method_of_text name
method_of (value.safe_text s) name = method_of_text name
method_of (value.map ps) name = option_map methods.Map (map_method name)
method_of (value.keyword_map ps) name = option_map methods.Map (map_method name)
method_of (value.list vs) name = option_map methods.List (list_method name)
method_of (value.tuple vs) name = option_map methods.List (list_method name)
method_of _ name = None

-- what a method makes of a value and the arguments
abbrev pub called : PythonMethod → View → Val → List Val → Made
called (methods.Text method) view v vs = text_called method view v vs
called (methods.Piece method) view v vs = piece_made method view v vs
called (methods.Field method) view v vs = field_made method view v vs
called (methods.Map method) view v vs = map_called method view v vs
called (methods.List method) view v vs = list_called method view v vs

abbrev pub called_by : Option PythonMethod → View → Val → List Val → Made
called_by None view v vs = Err UnknownMethod
called_by (Some method) view v vs = called method view v vs

-- what is answered for a method that a value does not have itself
abbrev pub methods_say : PythonMethods → View → Val → List ℕ → List Val → Stated
methods_say methods view v name vs = answered (called_by (method_of v name) view v vs)
