-- What single members of a request say, by the request's JSON.
use Rattle.std.specs.Prelude.{◌≡◌, ◌<◌, ◌^◌, ℕ, Bool, false, List, codes, Option, None, Some, IfSome, IsSomeAnd, option_map, option_and_then, if◌then◌else◌}
use Rattle.std.specs.Str.Parse.{IsNumeral, digits_value, without_leading_plus}
use Rattle.json.specs.Json.{Json}
use Rattle.json.specs.Find.{as_bool, as_number, as_str, get, is_null}
use Rattle.template_requests.specs.declared.member.Member.{Member}
use Rattle.template_requests.specs.declared.member.Member.TheVariants as member
use Rattle.template_requests.specs.declared.faults.MessageFault.{MessageFault}
use Rattle.template_requests.specs.declared.faults.MessageFault.TheVariants.{Malformed}

-- the name of a member in its object
abbrev pub member_name : Member → List ℕ
member_name member.Whole = codes "request"
member_name member.Templates = codes "templates"
member_name member.Main = codes "main"
member_name member.Fuel = codes "fuel"
member_name member.Limit = codes "limit"
member_name member.Undefined = codes "undefined"
member_name member.Builtins = codes "builtins"
member_name member.Floats = codes "floats"
member_name member.Autoescape = codes "autoescape"
member_name member.Syntax = codes "syntax"
member_name member.TrimBlocks = codes "trim_blocks"
member_name member.LstripBlocks = codes "lstrip_blocks"
member_name member.KeepTrailingNewline = codes "keep_trailing_newline"
member_name member.ScopedBlocks = codes "scoped_blocks"
member_name member.LineStatementPrefix = codes "line_statement_prefix"
member_name member.LineCommentPrefix = codes "line_comment_prefix"
member_name member.BlockStart = codes "block_start"
member_name member.BlockEnd = codes "block_end"
member_name member.VariableStart = codes "variable_start"
member_name member.VariableEnd = codes "variable_end"
member_name member.CommentStart = codes "comment_start"
member_name member.CommentEnd = codes "comment_end"

-- null stands for nothing
abbrev pub unless_null : Json → Option Json
unless_null j = if is_null j then None else Some j

-- the last member of the name, if it stands and is not null
abbrev pub given : List ℕ → Json → Option Json
given name j = option_and_then unless_null (get name j)

-- whether a flag is set: not, where it is not given
abbrev pub flag_of : Option Json → Option Bool
flag_of None = Some false
flag_of (Some j) = as_bool j

-- the text, if one is given
abbrev pub text_of : Option Json → Option (Option (List ℕ))
text_of None = Some None
text_of (Some j) = option_map Some (as_str j)

-- a number of 64 bits in decimal digits
abbrev pub IsWhole : List ℕ → Type 0
IsWhole text = IsNumeral 10 (without_leading_plus text) × (digits_value 10 (without_leading_plus text) < 2 ^ 64)

-- the whole number, if one is given
abbrev pub SaysNumber : Option Json → Option ℕ → Type 0
SaysNumber None number = number ≡ None
SaysNumber (Some j) number =
    IsSomeAnd (as_number j) (λ text. IsWhole text × (number ≡ Some (digits_value 10 (without_leading_plus text))))

-- what is given is no such number
abbrev pub LacksNumber : Option Json → Type 0
LacksNumber None = ⊥
LacksNumber (Some j) = IfSome (as_number j) (λ text. ¬ IsWhole text)

-- the fault is that of the member, of which this holds
abbrev pub IsMalformed : MessageFault → Member → Type 0 → Type 0
IsMalformed fault of Wrong = (fault ≡ Malformed of) × Wrong
