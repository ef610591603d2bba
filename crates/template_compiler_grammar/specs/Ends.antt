-- Which tokens an expression goes on with.
use Rattle.std.specs.Prelude.{ℕ, ◌<◌, if◌then◌else◌, List, [], ◌∷◌, codes, bytes_eq}
use Rattle.template_compiler_tokens.specs.Token.{Symbol, plus, minus, mul, div, floor_div, pow, modulo, dot, tilde, pipe, eq, ne, gt, gte, lt, lte, bracket_open, paren_open, Token, identifier, string, symbol}

abbrev pub symbol_rank : Symbol → ℕ
symbol_rank dot = 1
symbol_rank bracket_open = 1
symbol_rank paren_open = 1
symbol_rank pipe = 2
symbol_rank pow = 3
symbol_rank mul = 4
symbol_rank div = 4
symbol_rank floor_div = 4
symbol_rank modulo = 4
symbol_rank tilde = 5
symbol_rank plus = 6
symbol_rank minus = 6
symbol_rank eq = 7
symbol_rank ne = 7
symbol_rank gt = 7
symbol_rank gte = 7
symbol_rank lt = 7
symbol_rank lte = 7
symbol_rank _ = 11

abbrev pub word_rank : List ℕ → ℕ
word_rank name =
    if bytes_eq (codes "is") name then 2
    else if bytes_eq (codes "in") name then 7
    else if bytes_eq (codes "not") name then 7
    else if bytes_eq (codes "and") name then 8
    else if bytes_eq (codes "or") name then 9
    else if bytes_eq (codes "if") name then 10
    else if bytes_eq (codes "else") name then 10
    else 11

-- the tightest production that goes on with the token: 0 texts, 1 parts, 2 filters, 3 powers, 4 factors, 5 texts put
-- together, 6 terms, 7 comparisons, 8 `and`, 9 `or`, 10 if-expressions, 11 none
abbrev pub rank : Token → ℕ
rank (string s) = 0
rank (identifier name) = word_rank name
rank (symbol s) = symbol_rank s
rank _ = 11

-- no production up to the rank goes on with the next token
abbrev pub Behind : ℕ → List Token → Type 0
Behind k [] = Unit {0}
Behind k (t ∷ ts) = k < rank t

-- the expression ends here, whatever stood before
abbrev pub Ends : List Token → Type 0
Ends = Behind 10
