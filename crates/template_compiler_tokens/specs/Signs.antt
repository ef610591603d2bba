-- The symbols that signs are, and what tells them apart.
use Rattle.std.specs.Prelude.{ℕ, Option, None, Some}
use Rattle.template_compiler_tokens.specs.Token as token
use Rattle.template_compiler_tokens.specs.Token.{Symbol, symbol}
use Rattle.template_compiler_tokens.specs.declared.sign.Sign.{Sign}
use Rattle.template_compiler_tokens.specs.declared.sign.Sign.TheVariants.{Plus, Minus, Mul, Div, FloorDiv, Pow, Mod, Dot, Comma, Colon, Tilde, Assign, Pipe, Eq, Ne, Gt, Gte, Lt, Lte, BracketOpen, BracketClose, ParenOpen, ParenClose, BraceOpen, BraceClose}

abbrev pub symbol_of : Sign → Symbol
symbol_of Plus = token.plus
symbol_of Minus = token.minus
symbol_of Mul = token.mul
symbol_of Div = token.div
symbol_of FloorDiv = token.floor_div
symbol_of Pow = token.pow
symbol_of Mod = token.modulo
symbol_of Dot = token.dot
symbol_of Comma = token.comma
symbol_of Colon = token.colon
symbol_of Tilde = token.tilde
symbol_of Assign = token.assign
symbol_of Pipe = token.pipe
symbol_of Eq = token.eq
symbol_of Ne = token.ne
symbol_of Gt = token.gt
symbol_of Gte = token.gte
symbol_of Lt = token.lt
symbol_of Lte = token.lte
symbol_of BracketOpen = token.bracket_open
symbol_of BracketClose = token.bracket_close
symbol_of ParenOpen = token.paren_open
symbol_of ParenClose = token.paren_close
symbol_of BraceOpen = token.brace_open
symbol_of BraceClose = token.brace_close

-- the symbol that a token is
abbrev pub symbol_in : token.Token → Option Symbol
symbol_in (symbol s) = Some s
symbol_in _ = None

-- the place of a symbol among all of them, by which two are told apart
abbrev pub number_of : Symbol → ℕ
number_of token.plus = 0
number_of token.minus = 1
number_of token.mul = 2
number_of token.div = 3
number_of token.floor_div = 4
number_of token.pow = 5
number_of token.modulo = 6
number_of token.dot = 7
number_of token.comma = 8
number_of token.colon = 9
number_of token.tilde = 10
number_of token.assign = 11
number_of token.pipe = 12
number_of token.eq = 13
number_of token.ne = 14
number_of token.gt = 15
number_of token.gte = 16
number_of token.lt = 17
number_of token.lte = 18
number_of token.bracket_open = 19
number_of token.bracket_close = 20
number_of token.paren_open = 21
number_of token.paren_close = 22
number_of token.brace_open = 23
number_of token.brace_close = 24
