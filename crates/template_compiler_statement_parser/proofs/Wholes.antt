-- A statement is its head, and what is read behind it.
use Rattle.std.proofs.Common.{◌≡◌, ℕ, Bool, true, false, if◌then◌else◌, codes, List, ◌∷◌, Option, None, Some, Ok, Err, refl, ◌∙◌}
use Rattle.template_compiler_tree.specs.Tree.{Expression, Arguments}
use Rattle.template_compiler_tree.specs.Kinds.{call_parts}
use Rattle.template_compiler_tree.specs.NodePlaces.{Places, parts_more}
use Rattle.template_compiler_tree.specs.declared.span.Span.{Span}
use Rattle.template_compiler_tokens.specs.Places.{next_span}
use Rattle.template_compiler_tokens.specs.Token.{Token, bad_syntax, block_end, identifier, symbol, paren_open}
use Rattle.template_compiler_tokens.specs.Steps.{Read, and_then}
use Rattle.template_compiler_grammar.specs.TemplateWords.{is_reserved}
use Rattle.template_compiler_grammar.specs.TemplateGrammar.{Around, macro_around}
use Rattle.template_compiler_grammar.specs.TemplateReaderParts.{expect_word, tag_end, begins_values, word_by, only_call}
use Rattle.template_compiler_grammar.specs.Nodes.{placed, Node, no_node, given_node}
use Rattle.template_compiler_grammar.specs.TemplateNodes.{PlacedParameters, PlacedStatement, with_node, set_block_node, auto_escape_node, filter_block_node, macro_node, call_block_node}
use Rattle.template_compiler_grammar.specs.TemplateReader.{Here, body_by, targets_by, target_by, loop_filter_by, for_by, for_in, for_body, assignments_by, with_by, set_by, set_behind, set_body, autoescape_by, branch_by, filter_block_by, block_by, block_body, macro_by, optional_parameters_by, call_body, call_by}
use Rattle.template_compiler_statement_heads.specs.Heads.{for_head, expression_head, filter_head, with_head, for_rest}
use Rattle.template_compiler_statement_heads.specs.DeclarationHeads.{block_head, declared_head, macro_head, call_head, set_targets, set_block_head, set_head, set_whole, set_over, block_rest, set_rest}

-- one reading behind another, however they are put together
through : {A B C : Type 0} (m : Read A) (k : A → List Token → Read C) (f : A → List Token → Read B) (g : B → List Token → Read C) →
    ((a : A) (us : List Token) → k a us ≡ and_then (f a us) g) → and_then m k ≡ and_then (and_then m f) g
unfolding and_then
through (Ok x) k f g h = h x.0 x.1
through (Err e) k f g h = refl

-- the end of a tag is read alike whatever it stands behind
tag_moved : {A B C : Type 0} (a : A) (b : B) (ts : List Token) (k : A → List Token → Read C) (g : B → List Token → Read C) →
    ((us : List Token) → k a us ≡ g b us) → and_then (tag_end a ts) k ≡ and_then (tag_end b ts) g
unfolding and_then tag_end
tag_moved a b (block_end ∷ ts) k g h = h ts
tag_moved a b _ k g h = refl

-- one reading alone, and what is told of it
told : {A B C : Type 0} (make : A → B) (m : Read A) (k : A → List Token → Read C) (g : B → List Token → Read C) →
    ((a : A) (us : List Token) → k a us ≡ g (make a) us) → and_then m k ≡ and_then (and_then m (λ a us. Ok (make a, us))) g
unfolding and_then
told make (Ok x) k g h = h x.0 x.1
told make (Err f) k g h = refl

module _ (spans : List Span) where
  pub for_whole : (r : Here) (p : Around) (start : Span) (ts : List Token) →
      for_by spans r p start ts ≡ and_then (for_head spans r ts) (for_rest spans r p start)
  unfolding for_by for_in for_body
  for_whole r p start ts =
      through (targets_by spans false (r.inner false) ts) _ _ _ (λ t us. through (expect_word (codes "in") t us) _ _ _ (λ t vs.
      through (r.condition vs) _ _ _ (λ i ws. through (loop_filter_by spans r.expression ws) _ _ _ (λ f xs.
      through (word_by (codes "recursive") xs) _ _ _ (λ b ys. tag_moved b (t, i, f, b) ys _ _ (λ zs. refl))))))

  pub with_whole : (r : Here) (p : Around) (start : Span) (ts : List Token) →
      with_by spans r p start ts ≡ and_then (with_head spans r ts) (λ gs us. body_by spans r p (codes "endwith") start (with_node gs) us)
  unfolding with_by
  with_whole r p start ts = through (assignments_by spans r ts) _ _ _ (λ gs us. refl)

  pub autoescape_whole : (r : Here) (p : Around) (start : Span) (ts : List Token) →
      autoescape_by spans r p start ts ≡
      and_then (expression_head r ts) (λ e us. body_by spans r p (codes "endautoescape") start (auto_escape_node e) us)
  unfolding autoescape_by
  autoescape_whole r p start ts = through (r.expression ts) _ _ _ (λ e us. refl)

  pub branch_whole : (r : Here) (p : Around) (ts : List Token) →
      branch_by spans r p ts ≡
      and_then (expression_head r ts) (λ c us. and_then (r.body p us)
      (λ body vs. Ok (placed (c.tree, body.tree) (parts_more c.places body.places), vs)))
  unfolding branch_by
  branch_whole r p ts = through (r.expression ts) _ _ _ (λ c us. refl)

  pub filter_whole : (r : Here) (p : Around) (start : Span) (ts : List Token) →
      filter_block_by spans r p start ts ≡ and_then (filter_head r ts) (λ f us. body_by spans r p (codes "endfilter") start (filter_block_node f) us)
  unfolding filter_block_by
  filter_whole r p start ts =
      through (r.filter no_node ts) _ _ _ (λ e us. through (r.filters (given_node e) us) _ _ _ (λ f vs. refl))

  -- blocks
  block_cases : (r : Here) (p : Around) (start : Span) (n : List ℕ) (ts : List Token) (b : Bool) →
      (if b then Err bad_syntax else and_then (word_by (codes "required") ts) (block_body spans r p start n)) ≡
      and_then (if b then Err bad_syntax else and_then (word_by (codes "required") ts) (λ b us. tag_end (n, b) us)) (block_rest spans r p start)
  unfolding and_then block_body
  block_cases r p start n ts true = refl
  block_cases r p start n ts false =
      through (word_by (codes "required") ts) (block_body spans r p start n) (λ b us. tag_end (n, b) us) (block_rest spans r p start)
      (λ b us. tag_moved b (n, b) us _ _ (λ vs. refl))

  pub block_whole : (r : Here) (p : Around) (start : Span) (ts : List Token) →
      block_by spans r p start ts ≡ and_then (block_head p.macro ts) (block_rest spans r p start)
  unfolding and_then block_by block_head
  block_whole r p start (identifier n ∷ ts) = block_cases r p start n ts p.macro
  block_whole r p start _ = refl

  -- macros and call blocks
  macro_cases : (r : Here) (start : Span) (n : List ℕ) (ts : List Token) (b : Bool) →
      (if b then Err bad_syntax else and_then (r.parameters ts) (λ q us. and_then (tag_end q us) (λ q vs.
      body_by spans r macro_around (codes "endmacro") start (macro_node n q) vs))) ≡
      and_then (if b then Err bad_syntax else declared_head r n ts)
      (λ h us. body_by spans r macro_around (codes "endmacro") start (macro_node h.1 h.0) us)
  unfolding and_then
  macro_cases r start n ts true = refl
  macro_cases r start n ts false =
      through (r.parameters ts) _ (λ q us. tag_end (q, n) us) _ (λ q us. tag_moved q (q, n) us _ _ (λ vs. refl))

  pub macro_whole : (r : Here) (start : Span) (ts : List Token) →
      macro_by spans r start ts ≡ and_then (macro_head r ts) (λ h us. body_by spans r macro_around (codes "endmacro") start (macro_node h.1 h.0) us)
  unfolding and_then macro_by macro_head
  macro_whole r start (identifier n ∷ symbol paren_open ∷ ts) = macro_cases r start n ts (is_reserved n)
  macro_whole r start (identifier n ∷ ts) = refl
  macro_whole r start _ = refl

  call_moved : (r : Here) (start : Span) (q : PlacedParameters) (call : Places) (o : Option (Expression × Arguments)) (ts : List Token) →
      only_call (call_body spans r start q call) o ts ≡
      and_then {A = PlacedParameters × Places × Expression × Arguments} (only_call (λ c args. tag_end (q, call, c, args)) o ts)
      (λ h us. body_by spans r macro_around (codes "endcall") start (call_block_node h.2 h.3 h.1 h.0) us)
  unfolding and_then only_call call_body
  call_moved r start q call (Some x) ts = tag_moved q (q, call, x.0, x.1) ts _ _ (λ us. refl)
  call_moved r start q call None ts = refl

  pub call_whole : (r : Here) (start : Span) (ts : List Token) →
      call_by spans r start ts ≡
      and_then (call_head spans r ts) (λ h us. body_by spans r macro_around (codes "endcall") start (call_block_node h.2 h.3 h.1 h.0) us)
  unfolding call_by
  call_whole r start ts =
      through (optional_parameters_by spans r ts) _ _ _ (λ q us. through (r.expression us) _ _ _
      (λ e vs. call_moved r start q e.places (call_parts e.tree) vs))

  -- sets
  set_body_whole : (r : Here) (p : Around) (start : Span) (t : Node) (ts : List Token) →
      set_body spans r p start t ts ≡ and_then (set_block_head r t ts) (λ h us. body_by spans r p (codes "endset") start (set_block_node h.0 h.1) us)
  unfolding set_body
  set_body_whole r p start t ts = through (r.filters no_node ts) _ _ _ (λ f us. tag_moved f (t, f) us _ _ (λ vs. refl))

  values_told : (r : Here) (p : Around) (start : Span) (m : Read PlacedStatement) →
      m ≡ and_then (and_then m (λ s us. Ok (set_whole s, us))) (set_rest spans r p start)
  unfolding and_then
  values_told r p start (Ok x) = refl
  values_told r p start (Err f) = refl

  set_cases : (r : Here) (p : Around) (start first : Span) (t : Node) (ts : List Token) (b : Bool) →
      (if b then set_targets spans r start first t ts else set_body spans r p start t ts) ≡
      and_then (if b then and_then (set_targets spans r start first t ts) (λ s us. Ok (set_whole s, us))
      else and_then (set_block_head r t ts) (λ h us. Ok (set_over h, us))) (set_rest spans r p start)
  set_cases r p start first t ts true = values_told r p start (set_targets spans r start first t ts)
  set_cases r p start first t ts false =
      set_body_whole r p start t ts ∙ told set_over (set_block_head r t ts) _ (set_rest spans r p start) (λ h us. refl)

  pub set_whole_by : (r : Here) (p : Around) (start : Span) (ts : List Token) →
      set_by spans r p start ts ≡ and_then (set_head spans r start ts) (set_rest spans r p start)
  unfolding set_by set_behind
  set_whole_by r p start ts =
      through (target_by spans true (r.inner true) ts) _ _ _ (λ t us. set_cases r p start (next_span spans ts) t us (begins_values us))
