-- The token that a scanned one is: how its text was stored, and how wide its number is, is left out.
use Rattle.std.specs.Prelude.{string_bytes}
use Rattle.template_compiler_tokens.specs.Token as token
use Rattle.template_compiler_tokens.specs.declared.token.Token.{Token}
use Rattle.template_compiler_tokens.specs.declared.token.Token.TheVariants.{TemplateData, VariableStart, VariableEnd, BlockStart, BlockEnd, Ident, Str, String, Int, Int128, Plus, Minus, Mul, Div, FloorDiv, Pow, Mod, Dot, Comma, Colon, Tilde, Assign, Pipe, Eq, Ne, Gt, Gte, Lt, Lte, BracketOpen, BracketClose, ParenOpen, ParenClose, BraceOpen, BraceClose}

abbrev pub token_of : Token → token.Token
token_of (TemplateData text) = token.template_data text.now
token_of VariableStart = token.variable_start
token_of VariableEnd = token.variable_end
token_of BlockStart = token.block_start
token_of BlockEnd = token.block_end
token_of (Ident name) = token.identifier name.now
token_of (Str text) = token.string text.now
token_of (String text) = token.string (string_bytes text)
token_of (Int n) = token.number n
token_of (Int128 n) = token.number n
token_of Plus = token.symbol token.plus
token_of Minus = token.symbol token.minus
token_of Mul = token.symbol token.mul
token_of Div = token.symbol token.div
token_of FloorDiv = token.symbol token.floor_div
token_of Pow = token.symbol token.pow
token_of Mod = token.symbol token.modulo
token_of Dot = token.symbol token.dot
token_of Comma = token.symbol token.comma
token_of Colon = token.symbol token.colon
token_of Tilde = token.symbol token.tilde
token_of Assign = token.symbol token.assign
token_of Pipe = token.symbol token.pipe
token_of Eq = token.symbol token.eq
token_of Ne = token.symbol token.ne
token_of Gt = token.symbol token.gt
token_of Gte = token.symbol token.gte
token_of Lt = token.symbol token.lt
token_of Lte = token.symbol token.lte
token_of BracketOpen = token.symbol token.bracket_open
token_of BracketClose = token.symbol token.bracket_close
token_of ParenOpen = token.symbol token.paren_open
token_of ParenClose = token.symbol token.paren_close
token_of BraceOpen = token.symbol token.brace_open
token_of BraceClose = token.symbol token.brace_close
