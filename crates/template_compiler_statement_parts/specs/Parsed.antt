-- What a function of the parser answers, against what the reader reads.
use Rattle.std.specs.Prelude.{◌≡◌, ℕ, Bool, true, false, List, ◌∷◌, Option, None, Some, Result, Ok, Err}
use Rattle.std.specs.Borrow.{Bor}
use Rattle.template_compiler_tree.specs.declared.expressions.Expr.{Expr}
use Rattle.template_compiler_tokens.specs.Token.{Token, symbol, dot, identifier}
use Rattle.template_compiler_tokens.specs.Steps.{Read, Step, goes, stops, fails}
use Rattle.template_compiler_stream.specs.Refusals.{Refused, fault_of}
use Rattle.template_compiler_stream.specs.declared.refusal.Refusal.{Refusal}
use Rattle.template_compiler_stream.specs.declared.refusal.Refusal.TheVariants as refusals
use Rattle.template_compiler_tree.specs.declared.span.Span.{Span}
use Rattle.template_compiler_grammar.specs.Nodes.{Node}
use Rattle.template_compiler_grammar.specs.TemplateReader.{path_step}
use Rattle.template_compiler_grammar.specs.Views.{node_of}

-- a result, by what contracts see of it
abbrev pub ParsedAs : {A B : Type 0} → (B → A) → Read A → List Token → Result B Refusal → Type 0
ParsedAs view r new (Ok b) = r ≡ Ok (view b, new)
ParsedAs view r new (Err e) = Refused r e

-- an expression, with where its nodes stand
abbrev pub ParsedNode : Read Node → List Token → Result Expr Refusal → Type 0
ParsedNode = ParsedAs node_of

-- nothing but that it was there
abbrev pub passing : {B : Type 0} → B → Unit {0}
passing b = tt

-- what is put where the others of its kind stand
abbrev pub ParsedInto : {A B : Type 0} → Read A → A → List Token → Result B Refusal → Type 0
ParsedInto r a new (Ok b) = r ≡ Ok (a, new)
ParsedInto r a new (Err e) = Refused r e

abbrev pub RefusedStep : {A : Type 0} → Step A → Refusal → Type 0
RefusedStep s (refusals.Token f) = s ≡ fails (fault_of f)
RefusedStep s refusals.OutOfMemory = Unit {0}

-- a round of a repetition: whether it goes on; it stops with what it began with
abbrev pub SteppedTo : {A : Type 0} → Step A → A → List Token → A → List Token → Result Bool Refusal → Type 0
SteppedTo s a old b new (Ok true) = s ≡ goes b new
SteppedTo s a old b new (Ok false) = (s ≡ stops) × (new ≡ old) × (b ≡ a)
SteppedTo s a old b new (Err e) = RefusedStep s e

-- a dot and a name, where both stand next
abbrev pub PassesPart : List Token → List Token → Option (Bor (List ℕ)) → Type 0
PassesPart old new (Some part) = old ≡ symbol dot ∷ identifier part.now ∷ new
PassesPart old new None = (new ≡ old) × ((spans : List Span) (start : Span) (e : Node) → path_step spans start e old ≡ stops)
