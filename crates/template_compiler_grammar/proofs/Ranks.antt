-- What the rank of a token rules out, and which rank the operators have.
use Rattle.std.proofs.Common.{◌≡◌, ℕ, ◌<◌, ◌≤◌, Bool, true, false, if◌then◌else◌, List, [], ◌∷◌, codes, Option, None, Some, refl, sym, ◌∙◌, ap, arith, lit<}
use Rattle.std.specs.Prelude.{bytes_eq}
use Rattle.std.specs.Cmp.Lexicographic.{same_text}
use Rattle.template_compiler_tree.specs.declared.operators.BinOpKind.{BinOpKind}
use Rattle.template_compiler_tree.specs.declared.operators.CompareOpKind.{CompareOpKind}
use Rattle.template_compiler_tokens.specs.Token.{plus, minus, mul, div, floor_div, modulo, tilde, eq, ne, gt, gte, lt, lte, Token, identifier, symbol}
use Rattle.template_compiler_grammar.specs.Words.{is_word, Level, factors, texts, terms, conjunction, disjunction, operator, comparison_operator}
use Rattle.template_compiler_grammar.specs.Ends.{word_rank, rank, Behind}

pub weaker : (j k : ℕ) (ts : List Token) → j ≤ k → Behind k ts → Behind j ts
weaker j k [] l h = tt
weaker j k (t ∷ ts) l h = omega arith

-- the rank of a level's operators, and that of its operands
abbrev pub level_rank : Level → ℕ
level_rank factors = 4
level_rank texts = 5
level_rank terms = 6
level_rank conjunction = 8
level_rank disjunction = 9

abbrev pub operand_rank : Level → ℕ
operand_rank factors = 3
operand_rank texts = 4
operand_rank terms = 5
operand_rank conjunction = 7
operand_rank disjunction = 8

pub operand-le : (k : Level) → operand_rank k < level_rank k
operand-le factors = lit< tt
operand-le texts = lit< tt
operand-le terms = lit< tt
operand-le conjunction = lit< tt
operand-le disjunction = lit< tt

-- the ranks by the words that a name is
abbrev by_words : Bool → Bool → Bool → Bool → Bool → Bool → Bool → ℕ
by_words a b c d e f g =
    if a then 2 else if b then 7 else if c then 7 else if d then 8 else if e then 9 else if f then 10 else if g then 10 else 11

words_is : (a b c d e f g : Bool) → 2 < by_words a b c d e f g → a ≡ false
words_is true b c d e f g h = absurd (omega arith)
words_is false b c d e f g h = refl

words_in : (a b c d e f g : Bool) → 7 < by_words a b c d e f g → b ≡ false
words_in true b c d e f g h = absurd (omega arith)
words_in false true c d e f g h = absurd (omega arith)
words_in false false c d e f g h = refl

words_not : (a b c d e f g : Bool) → 7 < by_words a b c d e f g → c ≡ false
words_not true b c d e f g h = absurd (omega arith)
words_not false true c d e f g h = absurd (omega arith)
words_not false false true d e f g h = absurd (omega arith)
words_not false false false d e f g h = refl

words_and : (a b c d e f g : Bool) → 8 < by_words a b c d e f g → d ≡ false
words_and true b c d e f g h = absurd (omega arith)
words_and false true c d e f g h = absurd (omega arith)
words_and false false true d e f g h = absurd (omega arith)
words_and false false false true e f g h = absurd (omega arith)
words_and false false false false e f g h = refl

words_or : (a b c d e f g : Bool) → 9 < by_words a b c d e f g → e ≡ false
words_or true b c d e f g h = absurd (omega arith)
words_or false true c d e f g h = absurd (omega arith)
words_or false false true d e f g h = absurd (omega arith)
words_or false false false true e f g h = absurd (omega arith)
words_or false false false false true f g h = absurd (omega arith)
words_or false false false false false f g h = refl

words_if : (a b c d e f g : Bool) → 10 < by_words a b c d e f g → f ≡ false
words_if true b c d e f g h = absurd (omega arith)
words_if false true c d e f g h = absurd (omega arith)
words_if false false true d e f g h = absurd (omega arith)
words_if false false false true e f g h = absurd (omega arith)
words_if false false false false true f g h = absurd (omega arith)
words_if false false false false false true g h = absurd (omega arith)
words_if false false false false false false g h = refl

words_else : (a b c d e f g : Bool) → 10 < by_words a b c d e f g → g ≡ false
words_else true b c d e f g h = absurd (omega arith)
words_else false true c d e f g h = absurd (omega arith)
words_else false false true d e f g h = absurd (omega arith)
words_else false false false true e f g h = absurd (omega arith)
words_else false false false false true f g h = absurd (omega arith)
words_else false false false false false true g h = absurd (omega arith)
words_else false false false false false false true h = absurd (omega arith)
words_else false false false false false false false h = refl

-- the name is not the word
pub no_is : (n : List ℕ) → 2 < word_rank n → bytes_eq (codes "is") n ≡ false
no_is n h =
    words_is (bytes_eq (codes "is") n) (bytes_eq (codes "in") n) (bytes_eq (codes "not") n) (bytes_eq (codes "and") n)
    (bytes_eq (codes "or") n) (bytes_eq (codes "if") n) (bytes_eq (codes "else") n) h

pub no_in : (n : List ℕ) → 7 < word_rank n → bytes_eq (codes "in") n ≡ false
no_in n h =
    words_in (bytes_eq (codes "is") n) (bytes_eq (codes "in") n) (bytes_eq (codes "not") n) (bytes_eq (codes "and") n)
    (bytes_eq (codes "or") n) (bytes_eq (codes "if") n) (bytes_eq (codes "else") n) h

pub no_not : (n : List ℕ) → 7 < word_rank n → bytes_eq (codes "not") n ≡ false
no_not n h =
    words_not (bytes_eq (codes "is") n) (bytes_eq (codes "in") n) (bytes_eq (codes "not") n) (bytes_eq (codes "and") n)
    (bytes_eq (codes "or") n) (bytes_eq (codes "if") n) (bytes_eq (codes "else") n) h

pub no_and : (n : List ℕ) → 8 < word_rank n → bytes_eq (codes "and") n ≡ false
no_and n h =
    words_and (bytes_eq (codes "is") n) (bytes_eq (codes "in") n) (bytes_eq (codes "not") n) (bytes_eq (codes "and") n)
    (bytes_eq (codes "or") n) (bytes_eq (codes "if") n) (bytes_eq (codes "else") n) h

pub no_or : (n : List ℕ) → 9 < word_rank n → bytes_eq (codes "or") n ≡ false
no_or n h =
    words_or (bytes_eq (codes "is") n) (bytes_eq (codes "in") n) (bytes_eq (codes "not") n) (bytes_eq (codes "and") n)
    (bytes_eq (codes "or") n) (bytes_eq (codes "if") n) (bytes_eq (codes "else") n) h

pub no_if : (n : List ℕ) → 10 < word_rank n → bytes_eq (codes "if") n ≡ false
no_if n h =
    words_if (bytes_eq (codes "is") n) (bytes_eq (codes "in") n) (bytes_eq (codes "not") n) (bytes_eq (codes "and") n)
    (bytes_eq (codes "or") n) (bytes_eq (codes "if") n) (bytes_eq (codes "else") n) h

pub no_else : (n : List ℕ) → 10 < word_rank n → bytes_eq (codes "else") n ≡ false
no_else n h =
    words_else (bytes_eq (codes "is") n) (bytes_eq (codes "in") n) (bytes_eq (codes "not") n) (bytes_eq (codes "and") n)
    (bytes_eq (codes "or") n) (bytes_eq (codes "if") n) (bytes_eq (codes "else") n) h

-- a test that holds: the name is the word
pub same_name : (word n : List ℕ) → bytes_eq word n ≡ true → word ≡ n
same_name word n e = same_text word n (sym e)

-- the rank of operators
word_operator_rank : {A : Type 0} (word n : List ℕ) (r : ℕ) (a op : A) (b : Bool) → word_rank word ≡ r → bytes_eq word n ≡ b →
    ◌≡◌ {A = Option A} (if b then Some a else None) (Some op) → word_rank n ≡ r
word_operator_rank word n r a op true w e f = ap word_rank (sym (same_name word n e)) ∙ w
word_operator_rank word n r a op false w e f = cc

pub operator_rank : (k : Level) (t : Token) (op : BinOpKind) → operator k t ≡ Some op → rank t ≡ level_rank k
operator_rank factors (symbol mul) op e = refl
operator_rank factors (symbol div) op e = refl
operator_rank factors (symbol floor_div) op e = refl
operator_rank factors (symbol modulo) op e = refl
operator_rank texts (symbol tilde) op e = refl
operator_rank terms (symbol plus) op e = refl
operator_rank terms (symbol minus) op e = refl
operator_rank conjunction (identifier n) op e = word_operator_rank (codes "and") n 8 _ op _ refl refl e
operator_rank disjunction (identifier n) op e = word_operator_rank (codes "or") n 9 _ op _ refl refl e
operator_rank _ _ op e = cc

pub comparison_rank : (t : Token) (op : CompareOpKind) → comparison_operator t ≡ Some op → rank t ≡ 7
comparison_rank (symbol eq) op e = refl
comparison_rank (symbol ne) op e = refl
comparison_rank (symbol lt) op e = refl
comparison_rank (symbol lte) op e = refl
comparison_rank (symbol gt) op e = refl
comparison_rank (symbol gte) op e = refl
comparison_rank (identifier n) op e = word_operator_rank (codes "in") n 7 _ op _ refl refl e
comparison_rank _ op e = cc

-- no operator has a rank that its level has not
none_by : {A : Type 0} (o : Option A) → ((a : A) → o ≡ Some a → ⊥) → o ≡ None
none_by None h = refl
none_by (Some a) h = absurd (h a refl)

pub no_operator : (k : Level) (t : Token) → level_rank k < rank t → operator k t ≡ None
no_operator k t h = none_by (operator k t) (λ op e. let same = operator_rank k t op e in omega arith)

pub no_comparison : (t : Token) → 7 < rank t → comparison_operator t ≡ None
no_comparison t h = none_by (comparison_operator t) (λ op e. let same = comparison_rank t op e in omega arith)

-- the next token is not the word
pub is_no_not : (t : Token) → 7 < rank t → is_word (codes "not") t ≡ false
is_no_not (identifier n) h = no_not n h
is_no_not _ h = refl

pub is_no_is : (t : Token) → 2 < rank t → is_word (codes "is") t ≡ false
is_no_is (identifier n) h = no_is n h
is_no_is _ h = refl

pub is_no_if : (t : Token) → 10 < rank t → is_word (codes "if") t ≡ false
is_no_if (identifier n) h = no_if n h
is_no_if _ h = refl

pub is_no_else : (t : Token) → 10 < rank t → is_word (codes "else") t ≡ false
is_no_else (identifier n) h = no_else n h
is_no_else _ h = refl
