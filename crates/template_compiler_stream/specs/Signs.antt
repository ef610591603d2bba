-- What stands next, as parsers ask for it.
use Rattle.std.specs.Prelude.{ℕ, ◌^◌, Bool, true, false, ◌==◌, ◌&&◌, not, nat_lt, if◌then◌else◌, codes, bytes_eq, List, [], ◌∷◌, Option, None, Some}
use Rattle.template_compiler_tokens.specs.Token as token
use Rattle.template_compiler_tokens.specs.Token.{Symbol, symbol, identifier, number, variable_end, block_end}
use Rattle.template_compiler_tokens.specs.Signs.{symbol_in, number_of}
use Rattle.template_compiler_tree.specs.declared.operators.BinOpKind.{BinOpKind}
use Rattle.template_compiler_tree.specs.declared.operators.CompareOpKind.{CompareOpKind}
use Rattle.template_compiler_grammar.specs.Words as words
use Rattle.template_compiler_stream.specs.declared.sign.Level.{Level}
use Rattle.template_compiler_stream.specs.declared.sign.Level.TheVariants.{Factors, Texts, Terms, Conjunction, Disjunction}

-- the symbol that stands next
abbrev pub next_symbol : List token.Token → Option Symbol
next_symbol [] = None
next_symbol (t ∷ ts) = symbol_in t

abbrev pub is_symbol : Symbol → token.Token → Bool
is_symbol s (symbol t) = number_of s == number_of t
is_symbol s _ = false

-- the symbol stands next
abbrev pub begins_symbol : Symbol → List token.Token → Bool
begins_symbol s [] = false
begins_symbol s (t ∷ ts) = is_symbol s t

-- the word that a token is
abbrev pub word_in : token.Token → Option (List ℕ)
word_in (identifier n) = Some n
word_in _ = None

abbrev pub next_word : List token.Token → Option (List ℕ)
next_word [] = None
next_word (t ∷ ts) = word_in t

-- the number that a token is, where it is below 2^64
abbrev pub number_in : token.Token → Option ℕ
number_in (number n) = if nat_lt n (2 ^ 64) then Some n else None
number_in _ = None

abbrev pub next_number : List token.Token → Option ℕ
next_number [] = None
next_number (t ∷ ts) = number_in t

-- the word behind the next token
abbrev pub second_word : List token.Token → Option (List ℕ)
second_word [] = None
second_word (t ∷ ts) = next_word ts

-- a `=` stands behind the next token
abbrev pub assigned_behind : List token.Token → Bool
assigned_behind [] = false
assigned_behind (t ∷ ts) = begins_symbol token.assign ts

abbrev pub level_of : Level → words.Level
level_of Factors = words.factors
level_of Texts = words.texts
level_of Terms = words.terms
level_of Conjunction = words.conjunction
level_of Disjunction = words.disjunction

-- the operator of a level that stands next
abbrev pub next_operator : words.Level → List token.Token → Option BinOpKind
next_operator k [] = None
next_operator k (t ∷ ts) = words.operator k t

abbrev pub next_comparison : List token.Token → Option CompareOpKind
next_comparison [] = None
next_comparison (t ∷ ts) = words.comparison_operator t

-- a name or a number, which is an operand by itself
abbrev pub is_plain : token.Token → Bool
is_plain (identifier n) = not (bytes_eq (codes "not") n)
is_plain (number n) = true
is_plain _ = false

-- what no operand goes on with, nor what is made of it
abbrev pub is_end : token.Token → Bool
is_end variable_end = true
is_end block_end = true
is_end (symbol token.comma) = true
is_end (symbol token.colon) = true
is_end (symbol token.paren_close) = true
is_end (symbol token.bracket_close) = true
is_end (symbol token.brace_close) = true
is_end _ = false

abbrev pub begins_end : List token.Token → Bool
begins_end [] = false
begins_end (t ∷ ts) = is_end t

-- an operand that is alone stands next
abbrev pub begins_alone : List token.Token → Bool
begins_alone [] = false
begins_alone (t ∷ ts) = begins_end ts && is_plain t
