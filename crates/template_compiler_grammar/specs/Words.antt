-- What the grammar asks of tokens: words, operators and their levels, and what the next tokens begin.
use Rattle.std.specs.Prelude.{ℕ, Bool, true, false, ◌||◌, not, List, [], ◌∷◌, Option, None, Some, if◌then◌else◌, codes, bytes_eq}
use Rattle.std.specs.List.{list_any}
use Rattle.template_values_model.specs.Val.{Val, none, truth}
use Rattle.template_compiler_tree.specs.declared.operators.BinOpKind.{BinOpKind}
use Rattle.template_compiler_tree.specs.declared.operators.BinOpKind.TheVariants as operators
use Rattle.template_compiler_tree.specs.declared.operators.CompareOpKind.{CompareOpKind}
use Rattle.template_compiler_tree.specs.declared.operators.CompareOpKind.TheVariants as comparisons
use Rattle.template_compiler_tokens.specs.Token.{plus, minus, mul, div, floor_div, modulo, dot, tilde, eq, ne, gt, gte, lt, lte, bracket_open, paren_open, brace_open, Token, identifier, string, number, symbol}

-- the words with a meaning of their own
abbrev pub word_if : Token
word_if = identifier (codes "if")

abbrev pub word_else : Token
word_else = identifier (codes "else")

abbrev pub word_not : Token
word_not = identifier (codes "not")

abbrev pub word_in : Token
word_in = identifier (codes "in")

abbrev pub word_is : Token
word_is = identifier (codes "is")

abbrev pub is_word : List ℕ → Token → Bool
is_word word (identifier name) = bytes_eq word name
is_word word _ = false

-- the next token is the word
abbrev pub begins_word : List ℕ → List Token → Bool
begins_word word [] = false
begins_word word (t ∷ ts) = is_word word t

abbrev pub is_paren_open : Token → Bool
is_paren_open (symbol paren_open) = true
is_paren_open _ = false

abbrev pub begins_paren : List Token → Bool
begins_paren [] = false
begins_paren (t ∷ ts) = is_paren_open t

-- the next two tokens are a dot and an identifier
abbrev pub begins_dotted : List Token → Bool
begins_dotted (symbol dot ∷ identifier name ∷ ts) = true
begins_dotted _ = false

-- the words that begin no bare argument
abbrev pub is_no_argument : List ℕ → Bool
is_no_argument name =
    list_any (λ word. bytes_eq word name)
    (codes "and" ∷ codes "or" ∷ codes "not" ∷ codes "in" ∷ codes "is" ∷ codes "else" ∷ codes "if" ∷ [])

abbrev pub is_bare : Token → Bool
is_bare (identifier name) = not (is_no_argument name)
is_bare (string s) = true
is_bare (number n) = true
is_bare (symbol minus) = true
is_bare (symbol bracket_open) = true
is_bare (symbol brace_open) = true
is_bare _ = false

-- the next token begins the bare argument of a test: `-`, a text, a number, `[`, `{`, or another word
abbrev pub begins_bare : List Token → Bool
begins_bare [] = false
begins_bare (t ∷ ts) = is_bare t

-- the words that are literals
abbrev pub literal_word : List ℕ → Option Val
literal_word name =
    if bytes_eq (codes "true") name || bytes_eq (codes "True") name then Some (truth true)
    else if bytes_eq (codes "false") name || bytes_eq (codes "False") name then Some (truth false)
    else if bytes_eq (codes "none") name || bytes_eq (codes "None") name then Some none
    else None

-- the levels of the left associative operators, from the tightest on
pub data Level : Type 0 where
  factors : Level  -- * / // %
  texts : Level  -- ~
  terms : Level  -- + -
  conjunction : Level  -- and
  disjunction : Level  -- or

-- the operator of a level
abbrev pub operator : Level → Token → Option BinOpKind
operator factors (symbol mul) = Some operators.Mul
operator factors (symbol div) = Some operators.Div
operator factors (symbol floor_div) = Some operators.FloorDiv
operator factors (symbol modulo) = Some operators.Rem
operator texts (symbol tilde) = Some operators.Concat
operator terms (symbol plus) = Some operators.Add
operator terms (symbol minus) = Some operators.Sub
operator conjunction (identifier name) = if bytes_eq (codes "and") name then Some operators.ScAnd else None
operator disjunction (identifier name) = if bytes_eq (codes "or") name then Some operators.ScOr else None
operator _ _ = None

-- the comparison of one token
abbrev pub comparison_operator : Token → Option CompareOpKind
comparison_operator (symbol eq) = Some comparisons.Eq
comparison_operator (symbol ne) = Some comparisons.Ne
comparison_operator (symbol lt) = Some comparisons.Lt
comparison_operator (symbol lte) = Some comparisons.Lte
comparison_operator (symbol gt) = Some comparisons.Gt
comparison_operator (symbol gte) = Some comparisons.Gte
comparison_operator (identifier name) = if bytes_eq (codes "in") name then Some comparisons.In else None
comparison_operator _ = None
