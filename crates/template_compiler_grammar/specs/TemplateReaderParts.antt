-- Parts of the reader of statements that need no places: what must stand behind something, words that may stand, and which
-- statement a word begins. The reader itself stands in `template_compiler_grammar`.
use Rattle.std.specs.Prelude.{ℕ, Bool, true, false, if◌then◌else◌, codes, List, [], ◌∷◌, Option, None, Some, Ok, Err, bytes_eq}
use Rattle.template_compiler_tree.specs.Tree.{Expression, Optional, absent, given, Expressions, no_expressions, expressions_more, Arguments, Statement, raw, filter_block, Statements}
use Rattle.template_compiler_tokens.specs.Token.{Token, bad_syntax, variable_end, block_start, block_end, identifier, symbol, comma, assign}
use Rattle.template_compiler_tokens.specs.Steps.{Read, fault, and_then, Step, goes, stops, under}
use Rattle.template_compiler_grammar.specs.Words.{is_word}

-- what must stand behind something
unfoldable pub expect_word : {A : Type 0} → List ℕ → A → List Token → Read A
expect_word name a [] = Err bad_syntax
expect_word name a (t ∷ ts) = if is_word name t then Ok (a, ts) else Err (fault (t ∷ ts))

unfoldable pub expect_assign : {A : Type 0} → A → List Token → Read A
expect_assign a (symbol assign ∷ ts) = Ok (a, ts)
expect_assign a ts = Err (fault ts)

unfoldable pub print_end : {A : Type 0} → A → List Token → Read A
print_end a (variable_end ∷ ts) = Ok (a, ts)
print_end a ts = Err (fault ts)

unfoldable pub tag_end : {A : Type 0} → A → List Token → Read A
tag_end a (block_end ∷ ts) = Ok (a, ts)
tag_end a ts = Err (fault ts)

unfoldable pub expect_tag : {A : Type 0} → List ℕ → A → List Token → Read A
expect_tag name a (block_start ∷ ts) = and_then (expect_word name a ts) tag_end
expect_tag name a ts = Err (fault ts)

-- one item more behind each comma
unfoldable pub more_step : {A : Type 0} → (A → List Token → Read A) → A → List Token → Step A
more_step item a (symbol comma ∷ ts) = under (item a ts) goes
more_step item a ts = stops

-- words that may stand
unfoldable pub word_by : List ℕ → List Token → Read Bool
word_by name [] = Ok (false, [])
word_by name (t ∷ ts) = if is_word name t then Ok (true, ts) else Ok (false, t ∷ ts)

unfoldable pub context_by : {A : Type 0} → A → List Token → Read A
context_by a [] = Ok (a, [])
context_by a (t ∷ ts) = if is_word (codes "with") t then expect_word (codes "context") a ts else Ok (a, t ∷ ts)

unfoldable pub missing_behind : Bool → List Token → Read Bool
missing_behind false ts = Ok (false, ts)
missing_behind true ts = and_then (expect_word (codes "missing") true ts) context_by

unfoldable pub missing_by : List Token → Read Bool
missing_by ts = and_then (context_by false ts) (λ x us. and_then (word_by (codes "ignore") us) missing_behind)

-- no default stands yet
abbrev pub is_nothing : Expressions → Bool
is_nothing no_expressions = true
is_nothing (expressions_more e es) = false

-- which tag, or whether values, come next
abbrev pub begins_tag : List ℕ → List Token → Bool
begins_tag name (block_start ∷ t ∷ ts) = is_word name t
begins_tag name _ = false

abbrev pub begins_values : List Token → Bool
begins_values (symbol comma ∷ ts) = true
begins_values (symbol assign ∷ ts) = true
begins_values _ = false

-- what the filters of a block make of its body
abbrev pub filtered_body : Optional → Statements → Statement
filtered_body (given f) body = filter_block f body
filtered_body absent body = raw []

-- a block's end, with its name or without
unfoldable pub end_name_by : {A : Type 0} → List ℕ → A → List Token → Read A
end_name_by name a (identifier n ∷ ts) = if bytes_eq n name then tag_end a ts else Err bad_syntax
end_name_by name a ts = tag_end a ts

unfoldable pub block_end_by : {A : Type 0} → List ℕ → A → List Token → Read A
block_end_by name a (block_start ∷ ts) = and_then (expect_word (codes "endblock") a ts) (end_name_by name)
block_end_by name a ts = Err (fault ts)

-- a call, and nothing else
unfoldable pub only_call : {A : Type 0} → (Expression → Arguments → List Token → Read A) → Option (Expression × Arguments) →
    List Token → Read A
only_call go (Some parts) ts = go parts.0 parts.1 ts
only_call go None ts = Err bad_syntax

-- the words that begin a statement
pub data Opening : Type 0 where
  for_tag if_tag with_tag set_tag autoescape_tag filter_tag block_tag import_tag from_tag extends_tag : Opening
  include_tag macro_tag call_tag do_tag break_tag continue_tag : Opening

abbrev pub opening : List ℕ → Option Opening
opening n =
    if bytes_eq (codes "for") n then Some for_tag
    else if bytes_eq (codes "if") n then Some if_tag
    else if bytes_eq (codes "with") n then Some with_tag
    else if bytes_eq (codes "set") n then Some set_tag
    else if bytes_eq (codes "autoescape") n then Some autoescape_tag
    else if bytes_eq (codes "filter") n then Some filter_tag
    else if bytes_eq (codes "block") n then Some block_tag
    else if bytes_eq (codes "import") n then Some import_tag
    else if bytes_eq (codes "from") n then Some from_tag
    else if bytes_eq (codes "extends") n then Some extends_tag
    else if bytes_eq (codes "include") n then Some include_tag
    else if bytes_eq (codes "macro") n then Some macro_tag
    else if bytes_eq (codes "call") n then Some call_tag
    else if bytes_eq (codes "do") n then Some do_tag
    else if bytes_eq (codes "break") n then Some break_tag
    else if bytes_eq (codes "continue") n then Some continue_tag
    else None
