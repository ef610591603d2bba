-- Signs and their symbols are told apart by their numbers.
use Rattle.std.proofs.Common.{◌≡◌, ℕ, true, false, ◌==◌, if◌then◌else◌, List, [], ◌∷◌, None, Some, option_map, refl, sym, ◌∙◌, ap, arith}
use Rattle.std.proofs.lemmas.Bool.{eqb-true}
use Rattle.std.proofs.lemmas.Bool.Decides.{nat_tests}
use Rattle.template_compiler_stream.specs.Left.{passed}
use Rattle.template_compiler_tokens.specs.Token as token
use Rattle.template_compiler_tokens.specs.Token.{Symbol, symbol}
use Rattle.template_compiler_tokens.specs.declared.sign.Sign.{Sign}
use Rattle.template_compiler_tokens.specs.declared.sign.Sign.TheVariants.{Plus, Minus, Mul, Div, FloorDiv, Pow, Mod, Dot, Comma, Colon, Tilde, Assign, Pipe, Eq, Ne, Gt, Gte, Lt, Lte, BracketOpen, BracketClose, ParenOpen, ParenClose, BraceOpen, BraceClose}
use Rattle.template_compiler_tokens.specs.Signs.{symbol_of, number_of}
use Rattle.template_compiler_stream.specs.Signs.{next_symbol, begins_symbol}

sign_from : Symbol → Sign
sign_from token.plus = Plus
sign_from token.minus = Minus
sign_from token.mul = Mul
sign_from token.div = Div
sign_from token.floor_div = FloorDiv
sign_from token.pow = Pow
sign_from token.modulo = Mod
sign_from token.dot = Dot
sign_from token.comma = Comma
sign_from token.colon = Colon
sign_from token.tilde = Tilde
sign_from token.assign = Assign
sign_from token.pipe = Pipe
sign_from token.eq = Eq
sign_from token.ne = Ne
sign_from token.gt = Gt
sign_from token.gte = Gte
sign_from token.lt = Lt
sign_from token.lte = Lte
sign_from token.bracket_open = BracketOpen
sign_from token.bracket_close = BracketClose
sign_from token.paren_open = ParenOpen
sign_from token.paren_close = ParenClose
sign_from token.brace_open = BraceOpen
sign_from token.brace_close = BraceClose

sign_back : (s : Sign) → sign_from (symbol_of s) ≡ s
unfolding sign_from
sign_back Plus = refl
sign_back Minus = refl
sign_back Mul = refl
sign_back Div = refl
sign_back FloorDiv = refl
sign_back Pow = refl
sign_back Mod = refl
sign_back Dot = refl
sign_back Comma = refl
sign_back Colon = refl
sign_back Tilde = refl
sign_back Assign = refl
sign_back Pipe = refl
sign_back Eq = refl
sign_back Ne = refl
sign_back Gt = refl
sign_back Gte = refl
sign_back Lt = refl
sign_back Lte = refl
sign_back BracketOpen = refl
sign_back BracketClose = refl
sign_back ParenOpen = refl
sign_back ParenClose = refl
sign_back BraceOpen = refl
sign_back BraceClose = refl

symbol_from : ℕ → Symbol
symbol_from n = if n == 0 then token.plus else if n == 1 then token.minus else if n == 2 then token.mul else if n == 3 then token.div else if n == 4 then token.floor_div else if n == 5 then token.pow else if n == 6 then token.modulo else if n == 7 then token.dot else if n == 8 then token.comma else if n == 9 then token.colon else if n == 10 then token.tilde else if n == 11 then token.assign else if n == 12 then token.pipe else if n == 13 then token.eq else if n == 14 then token.ne else if n == 15 then token.gt else if n == 16 then token.gte else if n == 17 then token.lt else if n == 18 then token.lte else if n == 19 then token.bracket_open else if n == 20 then token.bracket_close else if n == 21 then token.paren_open else if n == 22 then token.paren_close else if n == 23 then token.brace_open else token.brace_close

symbol_back : (s : Symbol) → symbol_from (number_of s) ≡ s
unfolding symbol_from
symbol_back token.plus = refl
symbol_back token.minus = refl
symbol_back token.mul = refl
symbol_back token.div = refl
symbol_back token.floor_div = refl
symbol_back token.pow = refl
symbol_back token.modulo = refl
symbol_back token.dot = refl
symbol_back token.comma = refl
symbol_back token.colon = refl
symbol_back token.tilde = refl
symbol_back token.assign = refl
symbol_back token.pipe = refl
symbol_back token.eq = refl
symbol_back token.ne = refl
symbol_back token.gt = refl
symbol_back token.gte = refl
symbol_back token.lt = refl
symbol_back token.lte = refl
symbol_back token.bracket_open = refl
symbol_back token.bracket_close = refl
symbol_back token.paren_open = refl
symbol_back token.paren_close = refl
symbol_back token.brace_open = refl
symbol_back token.brace_close = refl

pub same_sign : (s t : Sign) → number_of (symbol_of s) == number_of (symbol_of t) ≡ true → s ≡ t
same_sign s t e =
    let numbers : number_of (symbol_of s) ≡ number_of (symbol_of t) = eqb-true _ _ e in
    sym (sign_back s) ∙ ap sign_from (sym (symbol_back (symbol_of s)) ∙ ap symbol_from numbers ∙ symbol_back (symbol_of t)) ∙ sign_back t

eqb_swap : (m n : ℕ) → n == m ≡ false → m == n ≡ false
eqb_swap m n e = grind (arith, nat_tests)

pub no_sign : (s : Sign) (ts : List token.Token) → option_map symbol_of None ≡ next_symbol ts → begins_symbol (symbol_of s) ts ≡ false
no_sign s [] e = refl
no_sign s (symbol t ∷ ts) e = cc
no_sign s (t ∷ ts) e = refl

pub other_sign : (s u : Sign) (ts : List token.Token) → Some (symbol_of u) ≡ next_symbol ts →
    number_of (symbol_of u) == number_of (symbol_of s) ≡ false → begins_symbol (symbol_of s) ts ≡ false
other_sign s u [] e h = refl
other_sign s u (symbol t ∷ ts) e h =
    let same : symbol_of u ≡ t = cc in
    eqb_swap (number_of (symbol_of s)) (number_of t) (ap (λ t. number_of t == number_of (symbol_of s)) (sym same) ∙ h)
other_sign s u (t ∷ ts) e h = refl

pub this_sign : (s u : Sign) (ts : List token.Token) → Some (symbol_of u) ≡ next_symbol ts →
    number_of (symbol_of u) == number_of (symbol_of s) ≡ true → ts ≡ symbol (symbol_of s) ∷ passed ts
this_sign s u [] e h = cc
this_sign s u (symbol t ∷ ts) e h =
    let same : symbol_of u ≡ t = cc in
    let signs : u ≡ s = same_sign u s h in
    ap (λ t. symbol t ∷ ts) (sym same ∙ ap symbol_of signs)
this_sign s u _ e h = cc

pub begins_as : (s u : Symbol) (ts : List token.Token) → Some u ≡ next_symbol ts → (number_of s == number_of u) ≡ begins_symbol s ts
begins_as s u [] e = cc
begins_as s u (symbol t ∷ ts) e = let same : u ≡ t = cc in ap (λ u. number_of s == number_of u) same
begins_as s u (t ∷ ts) e = cc
