-- What an expression begins with.
use Rattle.std.proofs.Common.{◌≡◌, ℕ, Bool, true, false, List, [], ◌∷◌, refl}
use Rattle.template_compiler_tree.specs.Tree.{Expression}
use Rattle.template_compiler_tokens.specs.Token.{Token, identifier, string, number, symbol, minus, bracket_open, paren_open, brace_open}
use Rattle.template_compiler_grammar.specs.Words.{Level}
use Rattle.template_compiler_grammar.specs.Grammar.{IsExpression, unconditional, if_alone, if_else, IsBinary, operands, IsOperand, factor, text_operand, term, conjunct, disjunct, IsNegation, negation, no_negation, IsComparison, comparison, IsPower, no_power, power, filtered_value, IsUnary, minus_sign, primary, IsPrimary, name_primary, word_primary, number_primary, text_primary, paren_primary, list_primary, map_primary}

abbrev pub is_opener : Token → Bool
is_opener (identifier name) = true
is_opener (string s) = true
is_opener (number n) = true
is_opener (symbol minus) = true
is_opener (symbol bracket_open) = true
is_opener (symbol paren_open) = true
is_opener (symbol brace_open) = true
is_opener _ = false

abbrev pub begins_opener : List Token → Bool
begins_opener [] = false
begins_opener (t ∷ ts) = is_opener t

primary_opens : {d : ℕ} {ts us : List Token} {e : Expression} → IsPrimary d ts e us → begins_opener ts ≡ true
primary_opens (name_primary e) = refl
primary_opens (word_primary e) = refl
primary_opens number_primary = refl
primary_opens (text_primary t) = refl
primary_opens (paren_primary e) = refl
primary_opens (list_primary i) = refl
primary_opens (map_primary i e) = refl

unary_opens : {d : ℕ} {ts us : List Token} {e : Expression} → IsUnary d ts e us → begins_opener ts ≡ true
unary_opens (minus_sign u) = refl
unary_opens (primary a p) = primary_opens a

power_opens : {d : ℕ} {ts us : List Token} {e : Expression} → IsPower d ts e us → begins_opener ts ≡ true
power_opens (no_power (filtered_value u f)) = unary_opens u
power_opens (power (filtered_value u f) p) = unary_opens u

mutual
  binary_opens : {d : ℕ} {k : Level} {ts us : List Token} {e : Expression} → IsBinary d k ts e us → begins_opener ts ≡ true
  binary_opens (operands o t) = operand_opens o

  operand_opens : {d : ℕ} {k : Level} {ts us : List Token} {e : Expression} → IsOperand d k ts e us → begins_opener ts ≡ true
  operand_opens (factor p) = power_opens p
  operand_opens (text_operand b) = binary_opens b
  operand_opens (term b) = binary_opens b
  operand_opens (conjunct n) = negation_opens n
  operand_opens (disjunct b) = binary_opens b

  negation_opens : {d : ℕ} {ts us : List Token} {e : Expression} → IsNegation d ts e us → begins_opener ts ≡ true
  negation_opens (negation n) = refl
  negation_opens (no_negation e c) = comparison_opens c

  comparison_opens : {d : ℕ} {ts us : List Token} {e : Expression} → IsComparison d ts e us → begins_opener ts ≡ true
  comparison_opens (comparison b t e) = binary_opens b

pub expression_opens : {d : ℕ} {ts us : List Token} {e : Expression} → IsExpression d ts e us → begins_opener ts ≡ true
expression_opens (unconditional b) = binary_opens b
expression_opens (if_alone a c) = binary_opens a
expression_opens (if_else a c b) = binary_opens a
