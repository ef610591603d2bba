-- Readings of a text's first tokens.
use Rattle.std.proofs.Common.{◌≡◌, ◌≤◌, ◌+◌, ◌⊎◌, ◌↔◌, inl, inr, ℕ, suc, min, Bool, false, IsTrue, List, [], ◌∷◌, ◌++◌, map, length, take, Result, Ok, Err, refl, sym, ap, ◌∙◌, zero-add, arith}
use Rattle.std.proofs.lemmas.List.{length-map, take_at}
use Rattle.template_compiler_tree.specs.declared.span.Span.{Span}
use Rattle.template_compiler_tree.specs.declared.span.Spanned.{Spanned}
use Rattle.template_compiler_tree_statements.specs.declared.statements.Template.{Template as TemplateNode}
use Rattle.template_compiler_tokens.specs.Token.{Token, TokenFault, bad, bad_escape}
use Rattle.template_compiler_tokens.specs.Places.{token_count}
use Rattle.template_compiler_tokens.specs.Steps.{all, and_then, goes_on, many}
use Rattle.template_compiler_tokens.specs.View.{token_of}
use Rattle.template_compiler_tokens.specs.declared.token.Token.{Token as Scanned}
use Rattle.template_compiler_stream.specs.Refusals.{fault_of}
use Rattle.template_compiler_stream.specs.declared.refusal.Fault.{Fault}
use Rattle.template_compiler_grammar.specs.Nodes.{bare}
use Rattle.template_compiler_grammar.specs.Reader.{binary_by, binary_of, comparison_by, expression_by, filtered_by, negation_by, operand_by, power_by, primary_by, terms_by, unary_by}
use Rattle.template_compiler_grammar.specs.Reader as reader
use Rattle.template_compiler_grammar.specs.TemplateNodes.{bare_template}
use Rattle.template_compiler_grammar.specs.TemplateReader.{statement_step, statements_at, statements_by, template_behind}
use Rattle.template_compiler_grammar.specs.TreeReader.{expression_at, template_of}
use Rattle.template_compiler_grammar.specs.TemplateReader as placed_reader
use Rattle.template_compiler_sources.specs.Ends.{ReadsTo}
use Rattle.template_compiler_sources.specs.Wholes.{ParsedTemplate, expression_alone}
use Rattle.template_compiler_sources.specs.declared.prefixes.Text.{Text}
use Rattle.template_compiler_sources.specs.declared.prefixes.Text.TheVariants as texts
use Rattle.template_compiler_grammar.proofs.TemplateLaws.{read_bare}
use Rattle.template_compiler_sources.proofs.Sources.{fails_bare}

-- whether a reader came to the mark
pub read_tree : {A : Type 0} (r : Result A TokenFault) (a : A) → r ≡ Ok a → IsTrue false ↔ (r ≡ Err bad_escape)
read_tree r a e = (λ untrue. cc, λ marked. cc)

pub read_fault : {A : Type 0} (r : Result A TokenFault) (f : TokenFault) (told : Bool) → r ≡ Err f → (IsTrue told ↔ (f ≡ bad_escape)) →
    IsTrue told ↔ (r ≡ Err bad_escape)
read_fault r f told e h = (λ y. let is : f ≡ bad_escape = h.0 y in cc, λ marked. let is : f ≡ bad_escape = cc in h.1 is)

pub read_template : (spans : List Span) (ts : List Token) (node : Spanned TemplateNode) →
    ParsedTemplate (placed_reader.template_of spans ts) (Ok node) → IsTrue false ↔ (template_of ts ≡ Err bad_escape)
read_template spans ts node (body, is, read) = read_tree (template_of ts) body.tree (read_bare spans ts body read)

pub refused_template : (spans : List Span) (ts : List Token) (f : Fault) (told : Bool) → placed_reader.template_of spans ts ≡ Err (fault_of f) →
    (IsTrue told ↔ (fault_of f ≡ bad_escape)) → IsTrue told ↔ (template_of ts ≡ Err bad_escape)
refused_template spans ts f told e h = read_fault (template_of ts) (fault_of f) told (fails_bare spans ts (fault_of f) e) h

-- the reading of no token comes to their end
no_template : template_of (bad bad_escape ∷ []) ≡ Err bad_escape
unfolding bare_template template_of placed_reader.template_of statements_at statements_by all many goes_on statement_step template_behind
no_template = refl

no_expression : expression_alone (bad bad_escape ∷ []) ≡ Err bad_escape
unfolding bare expression_at reader.expression_at expression_by binary_by binary_of operand_by negation_by comparison_by terms_by power_by filtered_by unary_by primary_by and_then
no_expression = refl

pub reads_none : (text : Text) (ts : List Token) → ReadsTo text ts 0
reads_none (texts.Template source filename syntax) ts = no_template
reads_none (texts.Expression source) ts = no_expression

-- how many tokens were taken, and which
count_token : (t : Scanned) (ts : List Token) → token_count (token_of t ∷ ts) ≡ suc (token_count ts)
count_token t ts = grind arith

count_held : (held : List (Scanned × Span)) (rest : List Token) →
    token_count (map (λ (t : Scanned × Span). token_of t.0) held ++ rest) ≡ length held + token_count rest
count_held [] rest = sym (zero-add (token_count rest))
count_held (t ∷ held) rest =
    omega (arith, count_token t.0 (map (λ (t : Scanned × Span). token_of t.0) held ++ rest), count_held held rest)

pub first_count : (every rest : List Token) (held : List (Scanned × Span)) (count : ℕ) →
    every ≡ map (λ (t : Scanned × Span). token_of t.0) held ++ rest → length held ≤ count → (count ≤ length held) ⊎ (token_count rest ≡ 0) →
    length held ≡ min count (token_count every)
first_count every rest held count h within (inl full) = omega (arith, ap token_count h, count_held held rest)
first_count every rest held count h within (inr none) = omega (arith, ap token_count h, count_held held rest)

pub first_taken : (every rest : List Token) (held : List (Scanned × Span)) (count : ℕ) →
    every ≡ map (λ (t : Scanned × Span). token_of t.0) held ++ rest → length held ≤ count → (count ≤ length held) ⊎ (token_count rest ≡ 0) →
    count ≤ token_count every → map (λ (t : Scanned × Span). token_of t.0) held ≡ take count every
first_taken every rest held count h within full enough =
    let view : Scanned × Span → Token = λ t. token_of t.0 in
    let counted = first_count every rest held count h within full in
    let long : length (map view held) ≡ count = omega (arith, counted, enough, length-map held view) in
    sym (take_at (map view held) rest count long) ∙ ap (λ ts. take count ts) (sym h)
