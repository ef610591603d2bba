-- The words of a fault line.
use Rattle.std.specs.Prelude.{ℕ, List, [], ◌∷◌, ◌++◌, codes}
use Rattle.std.specs.List.{flat_map}
use Rattle.template_values_errors.specs.declared.ErrorKind.{ErrorKind}
use Rattle.template_values_errors.specs.declared.ErrorKind.TheVariants.{SyntaxError, InvalidDelimiter, TooLarge, OutOfMemory, TemplateNotFound, InvalidOperation, UndefinedError, UnknownFilter, UnknownTest, UnknownFunction, UnknownMethod, UnknownBlock, TooManyArguments, MissingArgument, CannotUnpack, BadSerialization, BadEscape, BadInclude, EvalBlock, WriteFailure, OutOfFuel, BadStream, NoFloats}

-- the word that stands for a kind
abbrev pub kind_name : ErrorKind → List ℕ
kind_name SyntaxError = codes "SyntaxError"
kind_name InvalidDelimiter = codes "InvalidDelimiter"
kind_name TooLarge = codes "TooLarge"
kind_name OutOfMemory = codes "OutOfMemory"
kind_name TemplateNotFound = codes "TemplateNotFound"
kind_name InvalidOperation = codes "InvalidOperation"
kind_name UndefinedError = codes "UndefinedError"
kind_name UnknownFilter = codes "UnknownFilter"
kind_name UnknownTest = codes "UnknownTest"
kind_name UnknownFunction = codes "UnknownFunction"
kind_name UnknownMethod = codes "UnknownMethod"
kind_name UnknownBlock = codes "UnknownBlock"
kind_name TooManyArguments = codes "TooManyArguments"
kind_name MissingArgument = codes "MissingArgument"
kind_name CannotUnpack = codes "CannotUnpack"
kind_name BadSerialization = codes "BadSerialization"
kind_name BadEscape = codes "BadEscape"
kind_name BadInclude = codes "BadInclude"
kind_name EvalBlock = codes "EvalBlock"
kind_name WriteFailure = codes "WriteFailure"
kind_name OutOfFuel = codes "OutOfFuel"
kind_name BadStream = codes "BadStream"
kind_name NoFloats = codes "NoFloats"

-- the words of the causes, each behind a colon and a space
abbrev pub causes_text : List ErrorKind → List ℕ
causes_text = flat_map (λ kind. codes ": " ++ kind_name kind)

-- the words of an error, outermost first
abbrev pub kinds_text : List ErrorKind → List ℕ
kinds_text [] = []
kinds_text (kind ∷ causes) = kind_name kind ++ causes_text causes
