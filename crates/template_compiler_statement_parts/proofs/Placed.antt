-- Names, targets and imported names with their places, by what stands next.
use Rattle.std.proofs.Common.{◌≡◌, ℕ, suc, Bool, true, false, if◌then◌else◌, List, [], ◌∷◌, None, Some, Ok, Err, codes, refl, sym, ap, ◌∙◌}
use Rattle.template_compiler_tree.specs.Tree.{variable, attribute}
use Rattle.template_compiler_tree.specs.View.{expression_of}
use Rattle.template_compiler_tree.specs.ExpressionPlaces.{places_of}
use Rattle.template_compiler_tree.specs.NodePlaces.{at, no_parts, one}
use Rattle.template_compiler_tree.specs.declared.expressions.Expr.{Expr}
use Rattle.template_compiler_tree.specs.declared.span.Span.{Span}
use Rattle.template_compiler_tokens.specs.Places.{next_span}
use Rattle.template_compiler_tokens.specs.Token.{Token, bad_syntax, comma, dot, paren_open, identifier, symbol}
use Rattle.template_compiler_tokens.specs.Steps.{Read, fault, and_then, goes, stops, all}
use Rattle.template_compiler_tokens.proofs.Loops.{all_goes, all_stops}
use Rattle.template_compiler_grammar.specs.TemplateWords.{is_reserved}
use Rattle.template_compiler_grammar.specs.Words.{begins_word}
use Rattle.template_compiler_grammar.specs.TemplateReaderParts.{more_step}
use Rattle.template_compiler_grammar.specs.Nodes.{Node, first_node, given_node, no_node, node, placed}
use Rattle.template_compiler_grammar.specs.Reader.{up_to}
use Rattle.template_compiler_grammar.specs.TemplateNodes.{PlacedImports, and_placed_import, unpacked_node}
use Rattle.template_compiler_grammar.specs.TemplateReader.{alias_by, inner_targets, more_targets_by, one_target_by, path_by, path_step, stored_by, target_by, targets_by}
use Rattle.template_compiler_grammar.specs.Views.{node_of}
use Rattle.template_compiler_grammar.proofs.TemplatesSound.{paths_fall}
use Rattle.template_compiler_stream.specs.Left.{passed}
use Rattle.template_compiler_statement_parts.proofs.Standing.{no_more}
use Rattle.template_compiler_stream.specs.Signs.{begins_symbol, next_word, second_word}

module _ (spans : List Span) where
  -- names
  pub stored_word : (n : List ℕ) (ts : List Token) → Some n ≡ next_word ts →
      stored_by spans ts ≡ (if is_reserved n then Err bad_syntax else Ok (node (variable n) (next_span spans ts) no_parts, passed ts))
  unfolding stored_by
  stored_word n [] h = cc
  stored_word n (identifier m ∷ ts) h =
      let same : m ≡ n = cc in
      ap (λ m. if is_reserved m then Err bad_syntax else Ok (node (variable m) (next_span spans (identifier m ∷ ts)) no_parts, ts)) same ∙
      ap (λ m. if is_reserved n then Err bad_syntax else Ok (node (variable n) (next_span spans (identifier m ∷ ts)) no_parts, ts)) (sym same)
  stored_word n (t ∷ ts) h = cc

  pub stored_none : (ts : List Token) → None ≡ next_word ts → stored_by spans ts ≡ Err (fault ts)
  unfolding stored_by
  stored_none [] h = refl
  stored_none (identifier m ∷ ts) h = cc
  stored_none (t ∷ ts) h = refl

  pub stored_reserved : (n : List ℕ) (ts : List Token) → Some n ≡ next_word ts → is_reserved n ≡ true → stored_by spans ts ≡ Err bad_syntax
  stored_reserved n ts h e =
      stored_word n ts h ∙ ap (λ b. if b then Err bad_syntax else Ok (node (variable n) (next_span spans ts) no_parts, passed ts)) e

  pub stored_free : (n : List ℕ) (ts us : List Token) (e : Expr) (span : Span) → Some n ≡ next_word ts → is_reserved n ≡ false → us ≡ passed ts →
      span ≡ next_span spans ts → expression_of e ≡ variable n → places_of e ≡ at span no_parts → stored_by spans ts ≡ Ok (node_of e, us)
  stored_free n ts us e span h f k stands tree places =
      let made : node_of e ≡ node (variable n) (next_span spans ts) no_parts =
      ap (λ t. placed t (places_of e)) tree ∙ ap (λ p. placed (variable n) p) places ∙ ap (λ s. node (variable n) s no_parts) stands in
      stored_word n ts h ∙ ap (λ b. if b then Err bad_syntax else Ok (node (variable n) (next_span spans ts) no_parts, passed ts)) f ∙
      ap (λ e. Ok (e, passed ts)) (sym made) ∙ ap (λ us. Ok (node_of e, us)) (sym k)

  -- imported names
  pub no_alias : (is : PlacedImports) (n : Node) (ts : List Token) → begins_word (codes "as") ts ≡ false →
      alias_by spans is n ts ≡ Ok (and_placed_import is n no_node, ts)
  unfolding alias_by
  no_alias is n [] h = refl
  no_alias is n (t ∷ ts) h =
      ap (λ b. if b then and_then (stored_by spans ts) (λ a us. Ok (and_placed_import is n (given_node a), us))
      else Ok (and_placed_import is n no_node, t ∷ ts)) h

  -- targets
  pub no_paren_target : (dots : Bool) (inner : List Token → Read Node) (ts : List Token) → begins_symbol paren_open ts ≡ false →
      target_by spans dots inner ts ≡ and_then (stored_by spans ts) (path_by spans dots (next_span spans ts))
  unfolding target_by
  no_paren_target dots inner [] h = refl
  no_paren_target dots inner (symbol paren_open ∷ ts) h = cc
  no_paren_target dots inner (t ∷ ts) h = refl

  pub inner_less : (dots : Bool) (d n : ℕ) (ts : List Token) → d ≡ suc n →
      inner_targets spans dots d ts ≡ targets_by spans dots (inner_targets spans dots n) ts
  unfolding inner_targets
  inner_less dots d n ts e = ap (λ d. inner_targets spans dots d ts) e

  -- one target with no comma behind it
  pub alone : (dots : Bool) (inner : List Token → Read Node) (start : Span) (a : Node) (ts : List Token) → begins_symbol comma ts ≡ false →
      more_targets_by spans dots inner start a ts ≡ Ok (a, ts)
  unfolding and_then more_targets_by
  alone dots inner start a ts h =
      ap (λ m. and_then m (λ es us. Ok (unpacked_node es (up_to spans start us), us)))
      (all_stops (more_step (one_target_by spans dots inner)) (first_node a) ts (no_more (one_target_by spans dots inner) (first_node a) ts h))

  -- parts of a path
  pub path_on : (now : List Span) (start whole : Span) (e : Node) (f : Expr) (n : List ℕ) (ts us : List Token) →
      ts ≡ symbol dot ∷ identifier n ∷ us → now ≡ spans → whole ≡ up_to now start us → expression_of f ≡ attribute e.tree n →
      places_of f ≡ at whole (one e.places) → all (path_step spans start) e ts ≡ all (path_step spans start) (node_of f) us
  unfolding path_step
  path_on now start whole e f n ts us h table stands tree places =
      let made : node_of f ≡ node (attribute e.tree n) (up_to spans start us) (one e.places) =
      ap (λ t. placed t (places_of f)) tree ∙ ap (λ p. placed (attribute e.tree n) p) places ∙
      ap (λ s. node (attribute e.tree n) s (one e.places)) (stands ∙ ap (λ spans. up_to spans start us) table) in
      all_goes (path_step spans start) (paths_fall spans start) e (node_of f) ts us
      (ap (λ ts. path_step spans start e ts) h ∙ ap (λ f. goes f us) (sym made))

pub no_part_word : (ts : List Token) → None ≡ second_word ts → (spans : List Span) (start : Span) (e : Node) → path_step spans start e ts ≡ stops
unfolding path_step
no_part_word (symbol dot ∷ identifier n ∷ ts) h spans start e = cc
no_part_word _ h spans start e = refl

pub no_part_dot : (ts : List Token) → begins_symbol dot ts ≡ false → (spans : List Span) (start : Span) (e : Node) →
    path_step spans start e ts ≡ stops
unfolding path_step
no_part_dot (symbol dot ∷ identifier n ∷ ts) h spans start e = cc
no_part_dot _ h spans start e = refl
