-- Parts of the reader that need no places: names and texts, what must stand behind something, and where lists end. The reader
-- itself stands in `template_compiler_grammar`.
use Rattle.std.specs.Prelude.{ℕ, Bool, true, false, if◌then◌else◌, List, [], ◌∷◌, ◌++◌, Option, None, Some, Ok, Err}
use Rattle.template_values_model.specs.Val.{Val}
use Rattle.template_compiler_tree.specs.Tree.{Expression, variable, constant}
use Rattle.template_compiler_tokens.specs.Token.{Token, bad_syntax, identifier, string, symbol, dot, comma, colon, bracket_close, paren_close, brace_close}
use Rattle.template_compiler_tokens.specs.Steps.{Read, fault, Step, goes, stops, fails, all}
use Rattle.template_compiler_grammar.specs.Trees.{dotted}

-- no level is left
abbrev pub too_deep : {A : Type 0} → List Token → Read A
too_deep ts = Err bad_syntax

-- names and texts
unfoldable pub dotted_step : List ℕ → List Token → Step (List ℕ)
dotted_step n (symbol dot ∷ identifier part ∷ ts) = goes (dotted n part) ts
dotted_step n _ = stops

unfoldable pub name_of : List Token → Read (List ℕ)
name_of (identifier n ∷ ts) = all dotted_step n ts
name_of ts = Err (fault ts)

unfoldable pub text_step : List ℕ → List Token → Step (List ℕ)
text_step s (string t ∷ ts) = goes (s ++ t) ts
text_step s _ = stops

-- a word is a literal or a name
abbrev pub word_tree : Option Val → List ℕ → Expression
word_tree None n = variable n
word_tree (Some v) n = constant v

-- what must stand behind something
unfoldable pub paren_end : {A : Type 0} → A → List Token → Read A
paren_end a (symbol paren_close ∷ ts) = Ok (a, ts)
paren_end a ts = Err (fault ts)

unfoldable pub bracket_end : {A : Type 0} → A → List Token → Read A
bracket_end a (symbol bracket_close ∷ ts) = Ok (a, ts)
bracket_end a ts = Err (fault ts)

unfoldable pub brace_end : {A : Type 0} → A → List Token → Read A
brace_end a (symbol brace_close ∷ ts) = Ok (a, ts)
brace_end a ts = Err (fault ts)

unfoldable pub colon_end : {A : Type 0} → A → List Token → Read A
colon_end a (symbol colon ∷ ts) = Ok (a, ts)
colon_end a ts = Err (fault ts)

abbrev pub is_closing : Token → Bool
is_closing (symbol paren_close) = true
is_closing (symbol bracket_close) = true
is_closing (symbol brace_close) = true
is_closing _ = false

abbrev pub begins_closing : List Token → Bool
begins_closing [] = false
begins_closing (t ∷ ts) = is_closing t

-- behind an item: a comma, or a closing bracket, which stays
unfoldable pub separated : {A : Type 0} → A → List Token → Step A
separated a (symbol comma ∷ ts) = goes a ts
separated a ts = if begins_closing ts then goes a ts else fails (fault ts)

-- unless a closing bracket is next
unfoldable pub unless_closing : {A : Type 0} → Step A → List Token → Step A
unless_closing step ts = if begins_closing ts then stops else step

-- a bound of a slice may be left out before `:` and before a closing bracket
abbrev pub is_bound_end : Token → Bool
is_bound_end (symbol colon) = true
is_bound_end t = is_closing t

abbrev pub begins_bound_end : List Token → Bool
begins_bound_end [] = false
begins_bound_end (t ∷ ts) = is_bound_end t
