-- The grammar of expressions: which tokens are which tree. Each relation has the nesting levels that are left,
-- the tokens, the tree, and the tokens behind it. A repetition has what it has put together so far before the tokens.
use Rattle.std.specs.Prelude.{◌≡◌, ℕ, suc, ◌≤◌, pos, Bool, true, false, codes, List, ◌∷◌, ◌++◌, None, Some}
use Rattle.template_values_model.specs.Val.{Val, int, text}
use Rattle.template_compiler_tree.specs.Tree.{Expression, variable, constant, slice, unary, binary, conditional, filtered, attribute, item, call, list_literal, tuple_literal, map_literal, Optional, absent, given, Expressions, no_expressions, expressions_more, Links, no_links, Arguments, no_arguments, arguments_more, Argument, positional, keyword, positional_spread, keyword_spread}
use Rattle.template_compiler_tree.specs.declared.operators.UnaryOpKind.TheVariants as unaries
use Rattle.template_compiler_tree.specs.declared.operators.BinOpKind.{BinOpKind}
use Rattle.template_compiler_tree.specs.declared.operators.BinOpKind.TheVariants as operators
use Rattle.template_compiler_tree.specs.declared.operators.CompareOpKind.{CompareOpKind}
use Rattle.template_compiler_tree.specs.declared.operators.CompareOpKind.TheVariants as comparisons
use Rattle.template_compiler_tokens.specs.Token.{Token, identifier, string, number, symbol, minus, mul, pow, dot, comma, colon, assign, pipe, bracket_open, bracket_close, paren_open, paren_close, brace_open, brace_close}
use Rattle.template_compiler_grammar.specs.Words.{word_if, word_else, word_not, word_in, word_is, begins_word, begins_paren, begins_dotted, begins_bare, literal_word, Level, factors, texts, terms, conjunction, disjunction, operator, comparison_operator}
use Rattle.template_compiler_grammar.specs.Trees.{dotted, and_expression, and_link, compared, tested_as, Paired, nothing_paired, and_pair, Written, nothing_written, and_written, in_order, argument_count}

-- { "." ident } behind a name, which takes all of them
pub data IsNameTail : List ℕ → List Token → List ℕ → List Token → Type 0 where
  name_end : {n : List ℕ} {ts : List Token} → begins_dotted ts ≡ false → IsNameTail n ts n ts
  name_more : {n part m : List ℕ} {ts us : List Token} →
      IsNameTail (dotted n part) ts m us → IsNameTail n (symbol dot ∷ identifier part ∷ ts) m us

-- name = ident { "." ident }
pub data IsName : List Token → List ℕ → List Token → Type 0 where
  name : {n m : List ℕ} {ts us : List Token} → IsNameTail n ts m us → IsName (identifier n ∷ ts) m us

-- adjacent texts are one literal
pub data IsTexts : List ℕ → List Token → List ℕ → List Token → Type 0 where
  texts_end : {s : List ℕ} {ts : List Token} → IsTexts s ts s ts
  texts_more : {s t all : List ℕ} {ts us : List Token} → IsTexts (s ++ t) ts all us → IsTexts s (string t ∷ ts) all us

mutual
  -- expr = or [ "if" or [ "else" expr ] ]: a branch is one level deeper
  pub data IsExpression : ℕ → List Token → Expression → List Token → Type 0 where
    unconditional : {d : ℕ} {ts us : List Token} {e : Expression} →
        IsBinary d disjunction ts e us → IsExpression d ts e us
    if_alone : {d : ℕ} {ts us vs : List Token} {a c : Expression} →
        IsBinary (suc d) disjunction ts a (word_if ∷ us) → IsBinary d disjunction us c vs →
        IsExpression (suc d) ts (conditional c a absent) vs
    if_else : {d : ℕ} {ts us vs ws : List Token} {a b c : Expression} →
        IsBinary (suc d) disjunction ts a (word_if ∷ us) → IsBinary d disjunction us c (word_else ∷ vs) →
        IsExpression d vs b ws → IsExpression (suc d) ts (conditional c a (given b)) ws

  -- or = and { "or" and }, and = not { "and" not }, sum = cat { ("+"|"-") cat }, cat = mul { "~" mul },
  -- mul = pow { ("*"|"/"|"//"|"%") pow }
  pub data IsBinary : ℕ → Level → List Token → Expression → List Token → Type 0 where
    operands : {d : ℕ} {k : Level} {ts us vs : List Token} {a e : Expression} →
        IsOperand d k ts a us → IsOperands d k a us e vs → IsBinary d k ts e vs

  pub data IsOperands : ℕ → Level → Expression → List Token → Expression → List Token → Type 0 where
    operands_end : {d : ℕ} {k : Level} {ts : List Token} {a : Expression} → IsOperands d k a ts a ts
    operands_more : {d : ℕ} {k : Level} {t : Token} {op : BinOpKind} {ts us vs : List Token} {a b e : Expression} →
        operator k t ≡ Some op → IsOperand d k ts b us → IsOperands d k (binary op a b) us e vs →
        IsOperands d k a (t ∷ ts) e vs

  pub data IsOperand : ℕ → Level → List Token → Expression → List Token → Type 0 where
    factor : {d : ℕ} {ts us : List Token} {e : Expression} → IsPower d ts e us → IsOperand d factors ts e us
    text_operand : {d : ℕ} {ts us : List Token} {e : Expression} → IsBinary d factors ts e us → IsOperand d texts ts e us
    term : {d : ℕ} {ts us : List Token} {e : Expression} → IsBinary d texts ts e us → IsOperand d terms ts e us
    conjunct : {d : ℕ} {ts us : List Token} {e : Expression} → IsNegation d ts e us → IsOperand d conjunction ts e us
    disjunct : {d : ℕ} {ts us : List Token} {e : Expression} → IsBinary d conjunction ts e us → IsOperand d disjunction ts e us

  -- not = "not" not | cmp: where both fit, the word is the operator
  pub data IsNegation : ℕ → List Token → Expression → List Token → Type 0 where
    negation : {d : ℕ} {ts us : List Token} {e : Expression} →
        IsNegation d ts e us → IsNegation (suc d) (word_not ∷ ts) (unary unaries.Not e) us
    no_negation : {d : ℕ} {ts us : List Token} {e : Expression} →
        begins_word (codes "not") ts ≡ false → IsComparison d ts e us → IsNegation d ts e us

  -- cmp = sum { ("=="|"!="|"<"|"<="|">"|">="|"in"|"not" "in") sum }
  pub data IsComparison : ℕ → List Token → Expression → List Token → Type 0 where
    comparison : {d : ℕ} {ts us vs : List Token} {a e : Expression} {ls : Links} →
        IsBinary d terms ts a us → IsLinks d no_links us ls vs → e ≡ compared a ls → IsComparison d ts e vs

  pub data IsLinks : ℕ → Links → List Token → Links → List Token → Type 0 where
    links_end : {d : ℕ} {ls : Links} {ts : List Token} → IsLinks d ls ts ls ts
    links_operator : {d : ℕ} {ls ms : Links} {t : Token} {op : CompareOpKind} {ts us vs : List Token} {b : Expression} →
        comparison_operator t ≡ Some op → IsBinary d terms ts b us → IsLinks d (and_link ls op b) us ms vs →
        IsLinks d ls (t ∷ ts) ms vs
    links_not_in : {d : ℕ} {ls ms : Links} {ts us vs : List Token} {b : Expression} →
        IsBinary d terms ts b us → IsLinks d (and_link ls comparisons.NotIn b) us ms vs →
        IsLinks d ls (word_not ∷ word_in ∷ ts) ms vs

  -- pow = neg [ "**" pow ]: the right side is one level deeper
  pub data IsPower : ℕ → List Token → Expression → List Token → Type 0 where
    no_power : {d : ℕ} {ts us : List Token} {e : Expression} → IsFiltered d ts e us → IsPower d ts e us
    power : {d : ℕ} {ts us vs : List Token} {a b : Expression} →
        IsFiltered (suc d) ts a (symbol pow ∷ us) → IsPower d us b vs → IsPower (suc d) ts (binary operators.Pow a b) vs

  -- neg = un { filt { part } }
  pub data IsFiltered : ℕ → List Token → Expression → List Token → Type 0 where
    filtered_value : {d : ℕ} {ts us vs : List Token} {a e : Expression} →
        IsUnary d ts a us → IsFilters d a us e vs → IsFiltered d ts e vs

  pub data IsFilters : ℕ → Expression → List Token → Expression → List Token → Type 0 where
    filters_end : {d : ℕ} {a : Expression} {ts : List Token} → IsFilters d a ts a ts
    filters_more : {d : ℕ} {a b e : Expression} {ts us vs : List Token} →
        IsFilterParts d a ts b us → IsFilters d b us e vs → IsFilters d a ts e vs

  -- filt { part }, where filt = "|" name [ "(" args ")" ] | "is" ["not"] name [ "(" args ")" | bare ]
  pub data IsFilterParts : ℕ → Expression → List Token → Expression → List Token → Type 0 where
    filter_parts : {d : ℕ} {a b e : Expression} {ts us vs : List Token} →
        IsFilter d (given a) ts b us → IsParts d b us e vs → IsFilterParts d a (symbol pipe ∷ ts) e vs
    is_test : {d : ℕ} {a e : Expression} {ts us : List Token} →
        begins_word (codes "not") ts ≡ false → IsTest d false a ts e us → IsFilterParts d a (word_is ∷ ts) e us
    is_not_test : {d : ℕ} {a e : Expression} {ts us : List Token} →
        IsTest d true a ts e us → IsFilterParts d a (word_is ∷ word_not ∷ ts) e us

  -- a filter of a value, or of none
  pub data IsFilter : ℕ → Optional → List Token → Expression → List Token → Type 0 where
    filter : {d : ℕ} {value : Optional} {n : List ℕ} {args : Arguments} {ts us vs : List Token} →
        IsName ts n us → IsOptionalArguments d us args vs → IsFilter d value ts (filtered n value args) vs

  -- a test, negated or not, and the parts behind it; a bare argument takes these
  pub data IsTest : ℕ → Bool → Expression → List Token → Expression → List Token → Type 0 where
    test : {d : ℕ} {negated : Bool} {a e : Expression} {n : List ℕ} {args : Arguments} {ts us vs ws : List Token} →
        IsName ts n us → begins_bare us ≡ false → IsOptionalArguments d us args vs →
        IsParts d (tested_as negated n a args) vs e ws → IsTest d negated a ts e ws
    bare_test : {d : ℕ} {negated : Bool} {a b e : Expression} {n : List ℕ} {ts us vs : List Token} →
        IsName ts n us → begins_bare us ≡ true → IsUnary d us b vs →
        e ≡ tested_as negated n a (arguments_more (positional b) no_arguments) → IsTest d negated a ts e vs

  -- [ "(" args ")" ]: the next `(` begins the arguments
  pub data IsOptionalArguments : ℕ → List Token → Arguments → List Token → Type 0 where
    no_list : {d : ℕ} {ts : List Token} → begins_paren ts ≡ false → IsOptionalArguments d ts no_arguments ts
    a_list : {d : ℕ} {args : Arguments} {ts us : List Token} →
        IsArgumentList d ts args us → IsOptionalArguments (suc d) (symbol paren_open ∷ ts) args us

  -- un = "-" un | prim { part }
  pub data IsUnary : ℕ → List Token → Expression → List Token → Type 0 where
    minus_sign : {d : ℕ} {ts us : List Token} {e : Expression} →
        IsUnary d ts e us → IsUnary (suc d) (symbol minus ∷ ts) (unary unaries.Neg e) us
    primary : {d : ℕ} {ts us vs : List Token} {a e : Expression} →
        IsPrimary d ts a us → IsParts d a us e vs → IsUnary d ts e vs

  pub data IsParts : ℕ → Expression → List Token → Expression → List Token → Type 0 where
    parts_end : {d : ℕ} {a : Expression} {ts : List Token} → IsParts d a ts a ts
    parts_more : {d : ℕ} {a b e : Expression} {ts us vs : List Token} →
        IsPart d a ts b us → IsParts d b us e vs → IsParts d a ts e vs

  -- part = "." ident | "." number | "[" sub "]" | "(" args ")"
  pub data IsPart : ℕ → Expression → List Token → Expression → List Token → Type 0 where
    attribute_part : {d : ℕ} {a : Expression} {n : List ℕ} {ts : List Token} →
        IsPart d a (symbol dot ∷ identifier n ∷ ts) (attribute a n) ts
    number_part : {d : ℕ} {a : Expression} {n : ℕ} {ts : List Token} →
        IsPart d a (symbol dot ∷ number n ∷ ts) (item a (constant (int (pos n)))) ts
    subscript_part : {d : ℕ} {a e : Expression} {ts us : List Token} →
        IsSubscript d a ts e us → IsPart (suc d) a (symbol bracket_open ∷ ts) e us
    call_part : {d : ℕ} {a : Expression} {args : Arguments} {ts us : List Token} →
        IsArgumentList d ts args us → IsPart (suc d) a (symbol paren_open ∷ ts) (call a args) us

  -- sub "]", where sub = expr | [expr] ":" [expr] [ ":" [expr] ]
  pub data IsSubscript : ℕ → Expression → List Token → Expression → List Token → Type 0 where
    item_subscript : {d : ℕ} {a key : Expression} {ts us : List Token} →
        IsExpression d ts key (symbol bracket_close ∷ us) → IsSubscript d a ts (item a key) us
    slice_subscript : {d : ℕ} {a : Expression} {start stop step : Optional} {ts us vs ws : List Token} →
        IsBound d ts start (symbol colon ∷ us) → IsBound d us stop vs → IsStep d vs step (symbol bracket_close ∷ ws) →
        IsSubscript d a ts (slice a start stop step) ws

  pub data IsBound : ℕ → List Token → Optional → List Token → Type 0 where
    no_bound : {d : ℕ} {ts : List Token} → IsBound d ts absent ts
    a_bound : {d : ℕ} {e : Expression} {ts us : List Token} → IsExpression d ts e us → IsBound d ts (given e) us

  pub data IsStep : ℕ → List Token → Optional → List Token → Type 0 where
    no_step : {d : ℕ} {ts : List Token} → IsStep d ts absent ts
    a_step : {d : ℕ} {step : Optional} {ts us : List Token} → IsBound d ts step us → IsStep d (symbol colon ∷ ts) step us

  -- prim = ident | literal | "(" paren | "[" [items] "]" | "{" [pairs] "}"
  pub data IsPrimary : ℕ → List Token → Expression → List Token → Type 0 where
    name_primary : {d : ℕ} {n : List ℕ} {ts : List Token} →
        literal_word n ≡ None → IsPrimary d (identifier n ∷ ts) (variable n) ts
    word_primary : {d : ℕ} {n : List ℕ} {v : Val} {ts : List Token} →
        literal_word n ≡ Some v → IsPrimary d (identifier n ∷ ts) (constant v) ts
    number_primary : {d n : ℕ} {ts : List Token} → IsPrimary d (number n ∷ ts) (constant (int (pos n))) ts
    text_primary : {d : ℕ} {s all : List ℕ} {ts us : List Token} →
        IsTexts s ts all us → IsPrimary d (string s ∷ ts) (constant (text all)) us
    paren_primary : {d : ℕ} {e : Expression} {ts us : List Token} →
        IsParen d ts e us → IsPrimary (suc d) (symbol paren_open ∷ ts) e us
    list_primary : {d : ℕ} {es : Expressions} {ts us : List Token} →
        IsItems d no_expressions ts es (symbol bracket_close ∷ us) →
        IsPrimary (suc d) (symbol bracket_open ∷ ts) (list_literal es) us
    map_primary : {d : ℕ} {p : Paired} {e : Expression} {ts us : List Token} →
        IsPairs d nothing_paired ts p (symbol brace_close ∷ us) → e ≡ map_literal p.0 p.1 →
        IsPrimary (suc d) (symbol brace_open ∷ ts) e us

  -- ")" | expr ")" | expr "," [items] ")"
  pub data IsParen : ℕ → List Token → Expression → List Token → Type 0 where
    empty_tuple : {d : ℕ} {ts : List Token} → IsParen d (symbol paren_close ∷ ts) (tuple_literal no_expressions) ts
    in_parens : {d : ℕ} {e : Expression} {ts us : List Token} →
        IsExpression d ts e (symbol paren_close ∷ us) → IsParen d ts e us
    tuple : {d : ℕ} {a : Expression} {es : Expressions} {ts us vs : List Token} →
        IsExpression d ts a (symbol comma ∷ us) →
        IsItems d (expressions_more a no_expressions) us es (symbol paren_close ∷ vs) →
        IsParen d ts (tuple_literal es) vs

  -- [items], parted by commas; a last comma may stand
  pub data IsItems : ℕ → Expressions → List Token → Expressions → List Token → Type 0 where
    items_end : {d : ℕ} {es : Expressions} {ts : List Token} → IsItems d es ts es ts
    items_last : {d : ℕ} {e : Expression} {es fs : Expressions} {ts us : List Token} →
        IsExpression d ts e us → fs ≡ and_expression es e → IsItems d es ts fs us
    items_more : {d : ℕ} {e : Expression} {es fs : Expressions} {ts us vs : List Token} →
        IsExpression d ts e (symbol comma ∷ us) → IsItems d (and_expression es e) us fs vs → IsItems d es ts fs vs

  -- [pairs] of expr ":" expr, parted by commas; a last comma may stand
  pub data IsPairs : ℕ → Paired → List Token → Paired → List Token → Type 0 where
    pairs_end : {d : ℕ} {p : Paired} {ts : List Token} → IsPairs d p ts p ts
    pairs_last : {d : ℕ} {k v : Expression} {p q : Paired} {ts us vs : List Token} →
        IsExpression d ts k (symbol colon ∷ us) → IsExpression d us v vs → q ≡ and_pair p k v → IsPairs d p ts q vs
    pairs_more : {d : ℕ} {k v : Expression} {p q : Paired} {ts us vs ws : List Token} →
        IsExpression d ts k (symbol colon ∷ us) → IsExpression d us v (symbol comma ∷ vs) →
        IsPairs d (and_pair p k v) vs q ws → IsPairs d p ts q ws

  -- args ")": the arguments by place come first, and there are at most 2000
  pub data IsArgumentList : ℕ → List Token → Arguments → List Token → Type 0 where
    argument_list : {d : ℕ} {w : Written} {args : Arguments} {ts us : List Token} →
        IsArguments d nothing_written ts w (symbol paren_close ∷ us) → args ≡ in_order w →
        argument_count args ≤ 2000 → IsArgumentList d ts args us

  -- [args], parted by commas; a last comma may stand
  pub data IsArguments : ℕ → Written → List Token → Written → List Token → Type 0 where
    arguments_end : {d : ℕ} {w : Written} {ts : List Token} → IsArguments d w ts w ts
    arguments_last : {d : ℕ} {a : Argument} {w x : Written} {ts us : List Token} →
        IsArgument d ts a us → x ≡ and_written w a → IsArguments d w ts x us
    arguments_next : {d : ℕ} {a : Argument} {w x : Written} {ts us vs : List Token} →
        IsArgument d ts a (symbol comma ∷ us) → IsArguments d (and_written w a) us x vs → IsArguments d w ts x vs

  -- arg = expr | ident "=" expr | "*" expr | "**" expr
  pub data IsArgument : ℕ → List Token → Argument → List Token → Type 0 where
    positional_argument : {d : ℕ} {e : Expression} {ts us : List Token} →
        IsExpression d ts e us → IsArgument d ts (positional e) us
    keyword_argument : {d : ℕ} {n : List ℕ} {e : Expression} {ts us : List Token} →
        IsExpression d ts e us → IsArgument d (identifier n ∷ symbol assign ∷ ts) (keyword n e) us
    spread_argument : {d : ℕ} {e : Expression} {ts us : List Token} →
        IsExpression d ts e us → IsArgument d (symbol mul ∷ ts) (positional_spread e) us
    keyword_spread_argument : {d : ℕ} {e : Expression} {ts us : List Token} →
        IsExpression d ts e us → IsArgument d (symbol pow ∷ ts) (keyword_spread e) us

-- { "|" filter } behind a value, or behind none: what the filters of a block make of its text
pub data IsFilterChain : ℕ → Optional → List Token → Optional → List Token → Type 0 where
  chain_end : {d : ℕ} {value : Optional} {ts : List Token} → IsFilterChain d value ts value ts
  chain_more : {d : ℕ} {value all : Optional} {e : Expression} {ts us vs : List Token} →
      IsFilter d value ts e us → IsFilterChain d (given e) us all vs →
      IsFilterChain d value (symbol pipe ∷ ts) all vs
