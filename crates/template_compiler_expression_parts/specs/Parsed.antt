-- What a function of the parser answers, against what the reader reads.
use Rattle.std.specs.Prelude.{◌≡◌, ◌∷◌, ℕ, suc, pos, Bool, true, false, List, Option, Result, Ok, Err}
use Rattle.template_compiler_tree.specs.Tree.{constant, attribute, item, positional, positional_spread, keyword_spread}
use Rattle.template_compiler_tree.specs.declared.span.Span.{Span}
use Rattle.template_compiler_tree.specs.View.{expressions_in, arguments_in}
use Rattle.template_compiler_tree.specs.ExpressionPlaces.{places_in, places_in_arguments}
use Rattle.template_compiler_tree.specs.NodePlaces.{at, no_parts, parts_more, one}
use Rattle.template_compiler_tree.specs.declared.expressions.Expr.{Expr}
use Rattle.template_compiler_tokens.specs.Token.{Token, identifier, string, number, symbol, mul, pow}
use Rattle.template_values_model.specs.Val.{int, text}
use Rattle.template_compiler_tokens.specs.Steps.{Read, fault, and_then, Step, goes, stops, fails, all}
use Rattle.template_compiler_grammar.specs.Words.{literal_word}
use Rattle.template_compiler_grammar.specs.ReaderParts.{text_step, word_tree}
use Rattle.template_compiler_grammar.specs.Nodes.{placed, Node, node, OptionalNode, PlacedPairs, PlacedArgument, PlacedWritten}
use Rattle.template_compiler_grammar.specs.Reader.{up_to}
use Rattle.template_compiler_grammar.specs.Views.{node_of, optional_node_in}
use Rattle.template_compiler_stream.specs.Refusals.{Refused, fault_of}
use Rattle.template_compiler_expression_parts.specs.declared.behind.Behind.{Behind}
use Rattle.template_compiler_expression_parts.specs.declared.behind.Behind.TheVariants.{Goes, Stops}
use Rattle.template_compiler_expression_parts.specs.declared.behind.Pairs.{Pairs}
use Rattle.template_compiler_expression_parts.specs.declared.behind.Written.{Written}
use Rattle.template_compiler_stream.specs.declared.refusal.Fault.TheVariants.{Syntax}
use Rattle.template_compiler_stream.specs.declared.refusal.Refusal.{Refusal}
use Rattle.template_compiler_stream.specs.declared.refusal.Refusal.TheVariants as refusals

-- a map's keys and values, and arguments, as far as they are read
abbrev pub paired_in : Pairs → PlacedPairs
paired_in p = placed (expressions_in p.keys.items, expressions_in p.values.items) (places_in p.keys.items, places_in p.values.items)

abbrev pub written_in : Written → PlacedWritten
written_in w =
    placed (arguments_in w.by_place.items, arguments_in w.by_keyword.items)
    (places_in_arguments w.by_place.items, places_in_arguments w.by_keyword.items)

-- one nesting level less
abbrev pub IsDeeper : ℕ → Result ℕ Refusal → Type 0
IsDeeper left (Ok n) = left ≡ suc n
IsDeeper left (Err e) = (left ≡ 0) × (e ≡ refusals.Token Syntax)

-- what the reader reads, by a view of it, and the tokens behind it
abbrev pub ParsedAs : {A B : Type 0} → (B → A) → Read A → List Token → Result B Refusal → Type 0
ParsedAs view r new (Ok b) = r ≡ Ok (view b, new)
ParsedAs view r new (Err e) = Refused r e

-- an expression
abbrev pub Parsed : Read Node → List Token → Result Expr Refusal → Type 0
Parsed r new (Ok e) = r ≡ Ok (node_of e, new)
Parsed r new (Err e) = Refused r e

-- an expression that may be left out
abbrev pub ParsedOptional : Read OptionalNode → List Token → Result (Option Expr) Refusal → Type 0
ParsedOptional r new (Ok o) = r ≡ Ok (optional_node_in o, new)
ParsedOptional r new (Err e) = Refused r e

abbrev pub RefusedStep : {A : Type 0} → Step A → Refusal → Type 0
RefusedStep s (refusals.Token f) = s ≡ fails (fault_of f)
RefusedStep s refusals.OutOfMemory = Unit {0}

-- a part that must stand behind an expression
abbrev pub WentOn : Step Node → List Token → Result Expr Refusal → Type 0
WentOn s new (Ok e) = s ≡ goes (node_of e) new
WentOn s new (Err e) = RefusedStep s e

-- a round of a repetition: it goes on, or it stops with what it began with
abbrev pub Stepped : Step Node → Node → List Token → List Token → Result Behind Refusal → Type 0
Stepped s a old new (Ok (Goes e)) = s ≡ goes (node_of e) new
Stepped s a old new (Ok (Stops e)) = (s ≡ stops) × (new ≡ old) × (node_of e ≡ a)
Stepped s a old new (Err e) = RefusedStep s e

-- the same, where what is put together is changed in its place
abbrev pub SteppedTo : {A : Type 0} → Step A → A → List Token → A → List Token → Result Bool Refusal → Type 0
SteppedTo s a old b new (Ok true) = s ≡ goes b new
SteppedTo s a old b new (Ok false) = (s ≡ stops) × (new ≡ old) × (b ≡ a)
SteppedTo s a old b new (Err e) = RefusedStep s e

-- a comma, or a closing bracket that stays
abbrev pub Separated : Step Bool → List Token → Result Unit Refusal → Type 0
Separated s new (Ok x) = s ≡ goes true new
Separated s new (Err e) = RefusedStep s e

-- an argument without a name
unfoldable pub unnamed_by : (List Token → Read Node) → List Token → Read PlacedArgument
unnamed_by read (symbol mul ∷ ts) = and_then (read ts) (λ e us. Ok (placed (positional_spread e.tree) e.places, us))
unnamed_by read (symbol pow ∷ ts) = and_then (read ts) (λ e us. Ok (placed (keyword_spread e.tree) e.places, us))
unnamed_by read ts = and_then (read ts) (λ e us. Ok (placed (positional e.tree) e.places, us))

-- a literal that begins with a token, which starts there; behind it the tokens stand
unfoldable pub literal_at : List Span → Span → Token → List Token → Read Node
literal_at spans start (identifier n) ts = Ok (node (word_tree (literal_word n) n) start no_parts, ts)
literal_at spans start (number n) ts = Ok (node (constant (int (pos n))) start no_parts, ts)
literal_at spans start (string s) ts =
    and_then (all text_step s ts) (λ t us. Ok (node (constant (text t)) (up_to spans start us) no_parts, us))
literal_at spans start t ts = Err (fault (t ∷ ts))

-- the attribute or the item by a token that stands at a place, with the span of the whole
unfoldable pub dotted_by : Span → Span → Node → Token → List Token → Step Node
dotted_by place span a (identifier n) ts = goes (node (attribute a.tree n) span (one a.places)) ts
dotted_by place span a (number n) ts =
    goes (node (item a.tree (constant (int (pos n)))) span (parts_more a.places (one (at place no_parts)))) ts
dotted_by place span a t ts = fails (fault (t ∷ ts))
