-- What is read by what stands next.
use Rattle.std.proofs.Common.{◌≡◌, ℕ, ◌≤◌, true, false, if◌then◌else◌, List, [], ◌∷◌, length, None, Some, Ok, Err, codes, refl, sym, ap, ◌∙◌, arith}
use Rattle.template_compiler_tree.specs.Tree.{raw}
use Rattle.template_compiler_tree.specs.NodePlaces.{no_parts}
use Rattle.template_compiler_tree.specs.declared.span.Span.{Span}
use Rattle.template_compiler_tokens.specs.Places.{next_span, token_count}
use Rattle.template_compiler_tokens.specs.Token.{Token, template_data, variable_start, block_start, identifier}
use Rattle.template_compiler_tokens.specs.Steps.{and_then, fault, goes, stops, under}
use Rattle.template_compiler_grammar.proofs.Last.{stands_alone}
use Rattle.template_compiler_stream.specs.Left.{passed}
use Rattle.template_compiler_stream.specs.Signs.{next_word}
use Rattle.template_compiler_stream.specs.Tags.{begins_variable_start, next_text}
use Rattle.template_compiler_statement_parts.specs.Tags.{next_tag}
use Rattle.template_compiler_grammar.specs.TemplateGrammar.{Around}
use Rattle.template_compiler_grammar.specs.TemplateReaderParts.{begins_tag, expect_tag, expect_word, opening, tag_end}
use Rattle.template_compiler_grammar.specs.TemplateNodes.{PlacedBranches, and_placed_branch, PlacedStatements, and_placed_statement, no_placed_statements, statement_node}
use Rattle.template_compiler_grammar.specs.TemplateReader.{Here, branch_by, branch_step, else_by, opened_step, print_by, statement_step}

module _ (spans : List Span) (r : Here) (p : Around) where
  -- statements
  pub text_here : (ss : PlacedStatements) (s : List ℕ) (ts : List Token) → Some s ≡ next_text ts → token_count ts ≤ length spans →
      statement_step spans r p ss ts ≡ goes (and_placed_statement ss (statement_node (raw s) (next_span spans ts) no_parts)) (passed ts)
  unfolding statement_step
  text_here ss s [] h counted = cc
  text_here ss s (template_data u ∷ ts) h counted =
      let same : u ≡ s = cc in
      ap (λ span. goes (and_placed_statement ss (statement_node (raw u) span no_parts)) ts)
      (stands_alone spans (template_data u) ts refl (omega arith)) ∙
      ap (λ v. goes (and_placed_statement ss (statement_node (raw v) (next_span spans (template_data u ∷ ts)) no_parts)) ts) same
  text_here ss s (t ∷ ts) h counted = cc

  pub text_put : (ss all : PlacedStatements) (s : List ℕ) (span : Span) (ts us : List Token) → Some s ≡ next_text ts →
      token_count ts ≤ length spans → us ≡ passed ts → all ≡ and_placed_statement ss (statement_node (raw s) span no_parts) →
      span ≡ next_span spans ts → statement_step spans r p ss ts ≡ goes all us
  text_put ss all s span ts us h counted behind put stands =
      let made = put ∙ ap (λ span. and_placed_statement ss (statement_node (raw s) span no_parts)) stands in
      text_here ss s ts h counted ∙ ap (λ ss. goes ss (passed ts)) (sym made) ∙ ap (λ us. goes all us) (sym behind)

  pub print_here : (ss : PlacedStatements) (ts : List Token) → begins_variable_start ts ≡ true →
      statement_step spans r p ss ts ≡
      under (print_by spans r (next_span spans ts) (passed ts)) (λ s us. goes (and_placed_statement ss s) us)
  unfolding statement_step
  print_here ss [] h = cc
  print_here ss (variable_start ∷ ts) h = refl
  print_here ss (t ∷ ts) h = cc

  word_here : (ss : PlacedStatements) (n : List ℕ) (ts : List Token) → Some n ≡ next_word ts →
      statement_step spans r p ss (block_start ∷ ts) ≡ opened_step spans r p (next_span spans (block_start ∷ ts)) ss (opening n) (passed ts)
  unfolding statement_step
  word_here ss n [] h = cc
  word_here ss n (identifier m ∷ ts) h =
      let same : m ≡ n = cc in
      ap (λ n. opened_step spans r p (next_span spans (block_start ∷ identifier m ∷ ts)) ss (opening n) ts) same
  word_here ss n (t ∷ ts) h = cc

  pub tag_here : (ss : PlacedStatements) (n : List ℕ) (ts : List Token) → Some n ≡ next_tag ts →
      statement_step spans r p ss ts ≡ opened_step spans r p (next_span spans ts) ss (opening n) (passed (passed ts))
  tag_here ss n [] h = cc
  tag_here ss n (block_start ∷ ts) h = word_here ss n ts h
  tag_here ss n (t ∷ ts) h = cc

  no_word : (ss : PlacedStatements) (ts : List Token) → None ≡ next_word ts → statement_step spans r p ss (block_start ∷ ts) ≡ stops
  unfolding statement_step
  no_word ss [] h = refl
  no_word ss (identifier m ∷ ts) h = cc
  no_word ss (t ∷ ts) h = refl

  pub nothing_here : (ss : PlacedStatements) (ts : List Token) → None ≡ next_text ts → begins_variable_start ts ≡ false →
      None ≡ next_tag ts → statement_step spans r p ss ts ≡ stops
  unfolding statement_step
  nothing_here ss [] h k l = refl
  nothing_here ss (template_data s ∷ ts) h k l = cc
  nothing_here ss (variable_start ∷ ts) h k l = cc
  nothing_here ss (block_start ∷ ts) h k l = no_word ss ts l
  nothing_here ss (t ∷ ts) h k l = refl

  -- the other body
  else_word : (end : List ℕ) (ts : List Token) → begins_tag (codes "else") (block_start ∷ ts) ≡ true →
      else_by spans r p end (block_start ∷ ts) ≡ and_then (tag_end false (passed ts)) (λ x us. and_then (r.body p us) (expect_tag end))
  unfolding and_then else_by expect_tag expect_word
  else_word end [] h = cc
  else_word end (identifier n ∷ ts) h =
      ap (λ b. if b then and_then (and_then (if b then Ok (false, ts) else Err (fault (identifier n ∷ ts))) tag_end)
      (λ x us. and_then (r.body p us) (expect_tag end)) else expect_tag end no_placed_statements (block_start ∷ identifier n ∷ ts)) h
  else_word end (t ∷ ts) h = cc

  pub else_here : (end : List ℕ) (ts : List Token) → begins_tag (codes "else") ts ≡ true →
      else_by spans r p end ts ≡ and_then (tag_end false (passed (passed ts))) (λ x us. and_then (r.body p us) (expect_tag end))
  else_here end [] h = cc
  else_here end (block_start ∷ ts) h = else_word end ts h
  else_here end (t ∷ ts) h = cc

  pub no_else : (end : List ℕ) (ts : List Token) → begins_tag (codes "else") ts ≡ false →
      else_by spans r p end ts ≡ expect_tag end no_placed_statements ts
  unfolding else_by
  no_else end ts h =
      ap (λ b. if b then and_then (expect_tag (codes "else") false ts) (λ x us. and_then (r.body p us) (expect_tag end))
      else expect_tag end no_placed_statements ts) h

  -- branches
  branch_word : (bs : PlacedBranches) (ts : List Token) → begins_tag (codes "elif") (block_start ∷ ts) ≡ true →
      branch_step spans r p bs (block_start ∷ ts) ≡
      under (branch_by spans r p (passed ts)) (λ b us. goes (and_placed_branch bs (next_span spans (block_start ∷ ts)) b) us)
  unfolding branch_step
  branch_word bs [] h = cc
  branch_word bs (identifier n ∷ ts) h =
      ap (λ b. if b then under (branch_by spans r p ts) (λ b us. goes (and_placed_branch bs (next_span spans (block_start ∷ identifier n ∷ ts)) b) us)
      else stops) h
  branch_word bs (t ∷ ts) h = cc

  pub branch_here : (bs : PlacedBranches) (ts : List Token) → begins_tag (codes "elif") ts ≡ true →
      branch_step spans r p bs ts ≡
      under (branch_by spans r p (passed (passed ts))) (λ b us. goes (and_placed_branch bs (next_span spans ts) b) us)
  branch_here bs [] h = cc
  branch_here bs (block_start ∷ ts) h = branch_word bs ts h
  branch_here bs (t ∷ ts) h = cc

  pub no_branch : (bs : PlacedBranches) (ts : List Token) → begins_tag (codes "elif") ts ≡ false → branch_step spans r p bs ts ≡ stops
  unfolding branch_step
  no_branch bs [] h = refl
  no_branch bs (block_start ∷ []) h = refl
  no_branch bs (block_start ∷ t ∷ ts) h =
      ap (λ b. if b then under (branch_by spans r p ts) (λ b us. goes (and_placed_branch bs (next_span spans (block_start ∷ t ∷ ts)) b) us)
      else stops) h
  no_branch bs (t ∷ ts) h = refl
