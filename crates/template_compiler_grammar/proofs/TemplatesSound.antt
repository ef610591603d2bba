-- What is read has that tree, a refusal's reason stands among the tokens, and both are the same over any table of spans.
use Rattle.std.proofs.Common.{◌≡◌, ℕ, zero, suc, arith, Bool, true, false, if◌then◌else◌, List, [], ◌∷◌, length, codes, Option, None, Some, unwrap_or, Result, Ok, Err, refl, sym, ◌∙◌, ap, subst, inl, inr}
use Rattle.std.specs.Prelude.{bytes_eq}
use Rattle.std.proofs.lemmas.Slice.Eq.{bytes_eq-Decides}
use Rattle.template_compiler_tree.specs.declared.span.Span.{Span}
use Rattle.template_compiler_tree.specs.Kinds.{call_parts}
use Rattle.template_compiler_tree.specs.NodePlaces.{Places, at, Parts, no_parts}
use Rattle.template_compiler_tree.specs.Tree.{Expression, variable, call, Optional, absent, given, Expressions, no_expressions, expressions_more, Arguments, Statement, for_loop, if_condition, with_block, set_block, auto_escape, filter_block, block, macro, call_block, continue_loop, break_loop, Statements, no_statements, Assignments, no_assignments, Imports, no_imports}
use Rattle.template_compiler_tokens.specs.Places.{next_span}
use Rattle.template_compiler_tokens.specs.Token.{Token, TokenFault, bad_syntax, template_data, variable_start, variable_end, block_start, block_end, identifier, symbol, dot, comma, assign, paren_open, paren_close}
use Rattle.template_compiler_tokens.specs.Blame.{Blamed}
use Rattle.template_compiler_tokens.specs.Steps.{Read, fault, goes, stops, under, all}
use Rattle.template_compiler_tokens.proofs.Loops.{Shrinks}
use Rattle.template_compiler_tokens.proofs.Readings as alone
use Rattle.template_compiler_tokens.proofs.Readings.{Kept, fault_blamed}
use Rattle.template_compiler_grammar.specs.Words.{is_word, word_in, disjunction}
use Rattle.template_compiler_grammar.specs.ReaderParts.{paren_end}
use Rattle.template_compiler_grammar.specs.Grammar.{IsExpression, IsBinary, IsFilter, IsFilterChain, chain_end, chain_more}
use Rattle.template_compiler_grammar.specs.TemplateWords.{tag, opens, word, is_reserved}
use Rattle.template_compiler_grammar.specs.TemplateTrees.{Branches, no_branches, and_branch, branched, Parameters, no_parameters, is_block_body, blocks_among, are_distinct}
use Rattle.template_compiler_grammar.specs.TemplateGrammar.{Around, nothing_around, loop_around, block_around, macro_around, IsStored, stored, IsPath, path_end, path_more, IsMore, more_end, more_next, IsTarget, name_target, path_target, paren_target, IsTargets, targets, IsMoreTargets, targets_end, targets_next, IsValue, value, IsValues, values, IsAssignment, assignment, IsAssignments, none_assigned, some_assigned, IsLoopFilter, no_loop_filter, a_loop_filter, IsWord, no_word, a_word, IsContext, no_context, with_context, IsMissing, not_ignored, ignored, IsImport, same_name, other_name, IsParameter, plain_parameter, default_parameter, IsParameters, none_declared, some_declared, IsOptionalParameters, not_declared, declared, IsBlockEnd, plain_end, named_end, IsStatements, statements_end, statements_next, IsStatement, text_statement, print_statement, for_statement, if_statement, with_statement, set_statement, set_block_statement, autoescape_statement, filter_statement, block_statement, import_statement, from_statement, extends_statement, include_statement, macro_statement, call_statement, do_statement, break_statement, continue_statement, IsBranches, branches_end, branches_next, IsElse, no_else, an_else, IsTemplate, whole_template}
use Rattle.template_compiler_grammar.specs.TemplateReaderParts.{expect_word, expect_assign, print_end, tag_end, expect_tag, more_step, for_tag, if_tag, with_tag, set_tag, autoescape_tag, filter_tag, block_tag, import_tag, from_tag, extends_tag, include_tag, macro_tag, call_tag, do_tag, break_tag, continue_tag, word_by, context_by, missing_behind, missing_by, is_nothing, begins_tag, begins_values, filtered_body, end_name_by, block_end_by, only_call, Opening, opening}
use Rattle.template_compiler_grammar.specs.DerivedNodes.{PairedPlaces}
use Rattle.template_compiler_grammar.specs.Nodes.{Placed, placed, bare}
use Rattle.template_compiler_grammar.specs.Reader.{up_to, expression_at}
use Rattle.template_compiler_grammar.specs.TemplateNodes.{PlacedStatement, PlacedStatements, and_placed_statement, and_placed_branch, with_node, set_block_node, auto_escape_node, filter_block_node, macro_node, call_block_node, bare_template}
use Rattle.template_compiler_grammar.specs.TemplateReader.{path_step, stored_by, path_by, target_by, one_target_by, more_targets_by, targets_by, inner_targets, value_by, values_by, assignment_by, assignments_by, loop_filter_by, alias_by, import_by, default_by, parameter_by, parameters_by, optional_parameters_by, body_by, else_by, for_body, for_in, for_by, branch_by, branch_step, if_by, with_by, set_values, set_body, set_behind, set_by, autoescape_by, filter_block_by, block_body, block_by, import_statement_by, from_by, extends_by, include_by, macro_by, call_body, call_by, do_by, in_loop, opened_by, opened_step, print_by, statement_step, statements_by, deeper_parameters, here_by, deeper_body, here, statements_at, template_behind, whole, template_of}
use Rattle.template_compiler_grammar.specs.TreeReader as tree
use Rattle.template_compiler_grammar.proofs.Readings.{Reads, StepReads, reads_ok, reads_end, reads_none, reads_syntax, reads_behind, reads_as, reads_then, reads_after, reads_if, step_goes, step_stops, step_behind, step_under, step_if, reads_all, step_tree}
use Rattle.template_compiler_grammar.proofs.Sound.{Below, below, same, one, expression_both, condition_both, filter_both, filter_chain_both}

-- a word is that word
word_same : (name : List ℕ) (t : Token) → is_word name t ≡ true → t ≡ identifier name
word_same name (identifier n) e = ap (λ n. identifier n) (sym ((bytes_eq-Decides name n).0 e))
word_same name _ e = cc

-- what must stand behind something passes it on
module _ {A R : Type 0} (P : A → List Token → Type 0) where
  word_passes_by : (name : List ℕ) (a : A) (p q : R) (t : Token) (ts : List Token) (b : Bool) → is_word name t ≡ b → P a (t ∷ ts) →
      Reads (λ b us. P b (identifier name ∷ us)) (t ∷ ts)
      (if b then Ok (placed a p, ts) else Err (fault (t ∷ ts))) (if b then Ok (placed a q, ts) else Err (fault (t ∷ ts)))
  word_passes_by name a p q t ts true e x = reads_ok (subst (λ t. P a (t ∷ ts)) (word_same name t e) x) (one t ts)
  word_passes_by name a p q t ts false e x = reads_none (t ∷ ts)

  word_passes : (name : List ℕ) (a : A) (p q : R) (ts : List Token) → P a ts →
      Reads (λ b us. P b (identifier name ∷ us)) ts (expect_word name (placed a p) ts) (expect_word name (placed a q) ts)
  unfolding expect_word
  word_passes name a p q [] x = reads_syntax
  word_passes name a p q (t ∷ ts) x = word_passes_by name a p q t ts (is_word name t) refl x

  assign_passes : (a : A) (p q : R) (ts : List Token) → P a ts →
      Reads (λ b us. P b (symbol assign ∷ us)) ts (expect_assign (placed a p) ts) (expect_assign (placed a q) ts)
  unfolding expect_assign
  assign_passes a p q (symbol assign ∷ ts) x = reads_ok x (one (symbol assign) ts)
  assign_passes a p q ts x = reads_none ts

  print_passes : (a : A) (p q : R) (ts : List Token) → P a ts →
      Reads (λ b us. P b (variable_end ∷ us)) ts (print_end (placed a p) ts) (print_end (placed a q) ts)
  unfolding print_end
  print_passes a p q (variable_end ∷ ts) x = reads_ok x (one variable_end ts)
  print_passes a p q ts x = reads_none ts

  end_passes : (a : A) (p q : R) (ts : List Token) → P a ts →
      Reads (λ b us. P b (block_end ∷ us)) ts (tag_end (placed a p) ts) (tag_end (placed a q) ts)
  unfolding tag_end
  end_passes a p q (block_end ∷ ts) x = reads_ok x (one block_end ts)
  end_passes a p q ts x = reads_none ts

  paren_passes : (a : A) (p q : R) (ts : List Token) → P a ts →
      Reads (λ b us. P b (symbol paren_close ∷ us)) ts (paren_end (placed a p) ts) (paren_end (placed a q) ts)
  unfolding paren_end
  paren_passes a p q (symbol paren_close ∷ ts) x = reads_ok x (one (symbol paren_close) ts)
  paren_passes a p q ts x = reads_none ts

tag_passes : {A R : Type 0} (P : A → List Token → Type 0) (name : List ℕ) (a : A) (p q : R) (ts : List Token) → P a ts →
    Reads (λ b us. P b (tag name us)) ts (expect_tag name (placed a p) ts) (expect_tag name (placed a q) ts)
unfolding expect_tag
tag_passes P name a p q (block_start ∷ ts) x =
    reads_behind (reads_then _ _ (word_passes (λ b us. P b (block_start ∷ us)) name a p q ts x)
    (λ b p q us y. end_passes (λ b us. P b (block_start ∷ identifier name ∷ us)) b p q us y))
tag_passes P name a p q ts x = reads_none ts

-- the same where what is read has no places
module _ {A : Type 0} (P : A → List Token → Type 0) where
  word_alone_by : (name : List ℕ) (a : A) (t : Token) (ts : List Token) (b : Bool) → is_word name t ≡ b → P a (t ∷ ts) →
      alone.Reads (λ b us. P b (identifier name ∷ us)) (t ∷ ts) (if b then Ok (a, ts) else Err (fault (t ∷ ts)))
  word_alone_by name a t ts true e x = alone.reads_ok (subst (λ t. P a (t ∷ ts)) (word_same name t e) x) (one t ts)
  word_alone_by name a t ts false e x = alone.reads_none (t ∷ ts)

  word_alone : (name : List ℕ) (a : A) (ts : List Token) → P a ts → alone.Reads (λ b us. P b (identifier name ∷ us)) ts
      (expect_word name a ts)
  unfolding expect_word
  word_alone name a [] x = alone.reads_syntax
  word_alone name a (t ∷ ts) x = word_alone_by name a t ts (is_word name t) refl x

  end_alone : (a : A) (ts : List Token) → P a ts → alone.Reads (λ b us. P b (block_end ∷ us)) ts (tag_end a ts)
  unfolding tag_end
  end_alone a (block_end ∷ ts) x = alone.reads_ok x (one block_end ts)
  end_alone a ts x = alone.reads_none ts

tag_alone : {A : Type 0} (P : A → List Token → Type 0) (name : List ℕ) (a : A) (ts : List Token) → P a ts →
    alone.Reads (λ b us. P b (tag name us)) ts (expect_tag name a ts)
unfolding expect_tag
tag_alone P name a (block_start ∷ ts) x =
    alone.reads_behind (alone.reads_then _ (word_alone (λ b us. P b (block_start ∷ us)) name a ts x)
    (λ b us y. end_alone (λ b us. P b (block_start ∷ identifier name ∷ us)) b us y))
tag_alone P name a ts x = alone.reads_none ts

-- words that may stand
flag_reads_by : (name : List ℕ) (t : Token) (ts : List Token) (b : Bool) → is_word name t ≡ b →
    alone.Reads (IsWord name (t ∷ ts)) (t ∷ ts) (if b then Ok (true, ts) else Ok (false, t ∷ ts))
flag_reads_by name t ts true e = alone.reads_ok (subst (λ u. IsWord name (u ∷ ts) true ts) (sym (word_same name t e)) a_word) (one t ts)
flag_reads_by name t ts false e = alone.reads_end no_word

flag_reads : (name : List ℕ) (ts : List Token) → alone.Reads (IsWord name ts) ts (word_by name ts)
unfolding word_by
flag_reads name [] = alone.reads_end no_word
flag_reads name (t ∷ ts) = flag_reads_by name t ts (is_word name t) refl

-- what stands before the words stays
abbrev Standing : {A : Type 0} → (A → List Token → Type 0) → A → List Token → Type 0
Standing P a us = (ts : List Token) × P a ts × IsContext ts us

context_reads_by : {A R : Type 0} (P : A → List Token → Type 0) (a : A) (p q : R) (t : Token) (ts : List Token) (b : Bool) →
    is_word (codes "with") t ≡ b → P a (t ∷ ts) → Reads (Standing P) (t ∷ ts)
    (if b then expect_word (codes "context") (placed a p) ts else Ok (placed a p, t ∷ ts))
    (if b then expect_word (codes "context") (placed a q) ts else Ok (placed a q, t ∷ ts))
context_reads_by P a p q t ts true e x =
    reads_behind (reads_as (λ b us y. (word (codes "with") ∷ word (codes "context") ∷ us, y, with_context))
    (word_passes (λ b us. P b (word (codes "with") ∷ us)) (codes "context") a p q ts
    (subst (λ t. P a (t ∷ ts)) (word_same (codes "with") t e) x)))
context_reads_by P a p q t ts false e x = reads_end (t ∷ ts, x, no_context)

context_reads : {A R : Type 0} (P : A → List Token → Type 0) (a : A) (p q : R) (ts : List Token) → P a ts →
    Reads (Standing P) ts (context_by (placed a p) ts) (context_by (placed a q) ts)
unfolding context_by
context_reads P a p q [] x = reads_end ([], x, no_context)
context_reads P a p q (t ∷ ts) x = context_reads_by P a p q t ts (is_word (codes "with") t) refl x

context_alone_by : {A : Type 0} (P : A → List Token → Type 0) (a : A) (t : Token) (ts : List Token) (b : Bool) →
    is_word (codes "with") t ≡ b →
    P a (t ∷ ts) → alone.Reads (Standing P) (t ∷ ts) (if b then expect_word (codes "context") a ts else Ok (a, t ∷ ts))
context_alone_by P a t ts true e x =
    alone.reads_behind (alone.reads_as (λ b us y. (word (codes "with") ∷ word (codes "context") ∷ us, y, with_context))
    (word_alone (λ b us. P b (word (codes "with") ∷ us)) (codes "context") a ts
    (subst (λ t. P a (t ∷ ts)) (word_same (codes "with") t e) x)))
context_alone_by P a t ts false e x = alone.reads_end (t ∷ ts, x, no_context)

context_alone : {A : Type 0} (P : A → List Token → Type 0) (a : A) (ts : List Token) → P a ts →
    alone.Reads (Standing P) ts (context_by a ts)
unfolding context_by
context_alone P a [] x = alone.reads_end ([], x, no_context)
context_alone P a (t ∷ ts) x = context_alone_by P a t ts (is_word (codes "with") t) refl x

missing_behind_reads : {b : Bool} {ts us vs : List Token} → IsContext ts us → IsWord (codes "ignore") us b vs →
    alone.Reads (IsMissing ts) vs (missing_behind b vs)
unfolding missing_behind
missing_behind_reads c no_word = alone.reads_end (not_ignored c)
missing_behind_reads {ts = ts} {vs = vs} c a_word =
    alone.reads_then _
    (word_alone (λ b ws. (b ≡ true) × IsContext ts (word (codes "ignore") ∷ ws)) (codes "missing") true vs (refl, c))
    (λ b ws x. alone.reads_as (λ y xs z. subst (λ y. IsMissing ts y xs) (sym z.1.0) (ignored z.1.1 z.2))
    (context_alone (λ b us. (b ≡ true) × IsContext ts (word (codes "ignore") ∷ word (codes "missing") ∷ us)) b ws x))

missing_reads : (ts : List Token) → alone.Reads (IsMissing ts) ts (missing_by ts)
unfolding missing_by
missing_reads ts =
    alone.reads_then _ (context_alone (λ b us. us ≡ ts) false ts refl) (λ x us c. alone.reads_then _ (flag_reads (codes "ignore") us)
    (λ b vs w. missing_behind_reads (subst (λ ts. IsContext ts us) c.1 c.2) w))

-- lists
module _ {A R : Type 0} (item : A → List Token → A → List Token → Type 0) (read on : Placed A R → List Token → Read (Placed A R))
    (items : (a : A) (p q : R) (ts : List Token) → Reads (item a ts) ts (read (placed a p) ts) (on (placed a q) ts)) where
  next_reads : (a : A) (p q : R) (ts : List Token) →
      StepReads (λ b us. (c : A) (vs : List Token) → IsMore item b us c vs → IsMore item a ts c vs) ts
      (more_step read (placed a p) ts) (more_step on (placed a q) ts)
  unfolding more_step
  next_reads a p q (symbol comma ∷ ts) =
      step_behind (step_under _ _ (items a p q ts) (λ b _ _ us i. step_goes (λ c vs m. more_next i m) (same us)))
  next_reads a p q ts = step_stops

  more_reads : (a : A) (p q : R) (ts : List Token) → Reads (IsMore item a ts) ts (all (more_step read) (placed a p) ts)
      (all (more_step on) (placed a q) ts)
  more_reads a p q ts = reads_all (more_step read) (more_step on) (IsMore item) (λ a ts. more_end) next_reads a p q ts

nothing_same : (es : Expressions) → is_nothing es ≡ true → es ≡ no_expressions
nothing_same no_expressions e = refl
nothing_same (expressions_more a es) e = cc

module _ (spans others : List Span) where
  -- targets
  stored_reads_by : (n : List ℕ) (p q : Places) (ts : List Token) (b : Bool) → is_reserved n ≡ b →
      Reads (IsStored (identifier n ∷ ts)) (identifier n ∷ ts)
      (if b then Err bad_syntax else Ok (placed (variable n) p, ts)) (if b then Err bad_syntax else Ok (placed (variable n) q, ts))
  stored_reads_by n p q ts true e = reads_syntax
  stored_reads_by n p q ts false e = reads_ok (stored e) (one (identifier n) ts)

  stored_reads : (ts : List Token) → Reads (IsStored ts) ts (stored_by spans ts) (stored_by others ts)
  unfolding stored_by
  stored_reads (identifier n ∷ ts) = stored_reads_by n _ _ ts (is_reserved n) refl
  stored_reads ts = reads_none ts

  path_step_reads : (s t : Span) (e : Expression) (p q : Places) (ts : List Token) →
      StepReads (λ f us. (g : Expression) (vs : List Token) → IsPath f us g vs → IsPath e ts g vs) ts
      (path_step spans s (placed e p) ts) (path_step others t (placed e q) ts)
  unfolding path_step
  path_step_reads s t e p q (symbol dot ∷ identifier n ∷ ts) = step_goes (λ g vs x. path_more x) ((λ f k. inr (inr k)), omega arith)
  path_step_reads s t e p q ts = step_stops

  path_reads : (dots : Bool) (s t : Span) (e : Expression) (p q : Places) (ts us : List Token) (d : ℕ) → IsStored ts e us →
      Reads (IsTarget dots d ts) us (path_by spans dots s (placed e p) us) (path_by others dots t (placed e q) us)
  unfolding path_by
  path_reads false s t e p q ts us d x = reads_end (name_target refl x)
  path_reads true s t e p q ts us d x =
      reads_as (λ f vs y. path_target refl x y)
      (reads_all (path_step spans s) (path_step others t) IsPath (λ e ts. path_end) (path_step_reads s t) e p q us)

  module _ (dots : Bool) (d : ℕ) (inner : (ts : List Token) →
      Reads (λ e us. Below d (λ n. IsTargets dots n ts e us)) ts (inner_targets spans dots d ts) (inner_targets others dots d ts)) where
    target_reads : (ts : List Token) → Reads (IsTarget dots d ts) ts
        (target_by spans dots (inner_targets spans dots d) ts) (target_by others dots (inner_targets others dots d) ts)
    unfolding target_by
    target_reads (symbol paren_open ∷ ts) =
        reads_behind (reads_as
        (λ e us x. below d (λ n. IsTargets dots n ts e (symbol paren_close ∷ us)) (λ n. IsTarget dots n (symbol paren_open ∷ ts) e us)
        (λ n y. paren_target y) x)
        (reads_then _ _ (inner ts) (λ e p q us x. paren_passes (λ e us. Below d (λ n. IsTargets dots n ts e us)) e p q us x)))
    target_reads ts = reads_then _ _ (stored_reads ts) (λ e p q us x. path_reads dots _ _ e p q ts us d x)

    one_target_reads : (es : Expressions) (p q : Parts) (ts : List Token) →
        StepReads (λ fs us. (gs : Expressions) (vs : List Token) → IsMoreTargets dots d fs us gs vs → IsMoreTargets dots d es ts gs vs) ts
        (more_step (one_target_by spans dots (inner_targets spans dots d)) (placed es p) ts)
        (more_step (one_target_by others dots (inner_targets others dots d)) (placed es q) ts)
    unfolding more_step one_target_by
    one_target_reads es p q (symbol comma ∷ ts) =
        step_behind (step_under {Q = λ fs us. (gs : Expressions) (vs : List Token) → IsMoreTargets dots d fs us gs vs →
        IsMoreTargets dots d es (symbol comma ∷ ts) gs vs} _ _
        (reads_then _ _ (target_reads ts) (λ e _ _ us t. reads_end (λ gs vs m. targets_next t m)))
        (λ fs _ _ us f. step_goes f (same us)))
    one_target_reads es p q ts = step_stops

    more_targets_reads : (s t : Span) (a : Expression) (p q : Places) (ts us : List Token) → IsTarget dots d ts a us →
        Reads (IsTargets dots d ts) us
        (more_targets_by spans dots (inner_targets spans dots d) s (placed a p) us)
        (more_targets_by others dots (inner_targets others dots d) t (placed a q) us)
    unfolding more_targets_by
    more_targets_reads s t a p q ts us x =
        reads_then _ _ (reads_all (more_step (one_target_by spans dots (inner_targets spans dots d)))
        (more_step (one_target_by others dots (inner_targets others dots d)))
        (IsMoreTargets dots d) (λ es ts. targets_end) one_target_reads (expressions_more a no_expressions) _ _ us)
        (λ es _ _ vs m. reads_end (targets x m refl))

    targets_reads : (ts : List Token) → Reads (IsTargets dots d ts) ts
        (targets_by spans dots (inner_targets spans dots d) ts) (targets_by others dots (inner_targets others dots d) ts)
    unfolding targets_by
    targets_reads ts = reads_then _ _ (target_reads ts) (λ a p q us x. more_targets_reads _ _ a p q ts us x)

  inner_reads : (dots : Bool) (d : ℕ) (ts : List Token) →
      Reads (λ e us. Below d (λ n. IsTargets dots n ts e us)) ts (inner_targets spans dots d ts) (inner_targets others dots d ts)
  unfolding inner_targets Below
  inner_reads dots zero ts = reads_syntax
  inner_reads dots (suc d) ts = targets_reads dots d (inner_reads dots d) ts

  -- values and assignments
  value_reads : (d : ℕ) (es : Expressions) (p q : Parts) (ts : List Token) → Reads (IsValue d es ts) ts
      (value_by spans (expression_at spans d) (placed es p) ts) (value_by others (expression_at others d) (placed es q) ts)
  unfolding value_by
  value_reads d es p q ts = reads_then _ _ (expression_both spans others d ts) (λ e _ _ us x. reads_end (value x refl))

  values_reads : (d : ℕ) (ts : List Token) →
      Reads (IsValues d ts) ts (values_by spans (expression_at spans d) ts) (values_by others (expression_at others d) ts)
  unfolding values_by
  values_reads d ts =
      reads_then _ _ (value_reads d no_expressions _ _ ts) (λ es p q us v.
      reads_then _ _ (more_reads (IsValue d) (value_by spans (expression_at spans d)) (value_by others (expression_at others d))
      (value_reads d) es p q us)
      (λ fs _ _ vs m. reads_end (values v m refl)))

  assignment_reads : (d : ℕ) (gs : Assignments) (p q : Parts) (ts : List Token) → Reads (IsAssignment d gs ts) ts
      (assignment_by spans (here spans d) (placed gs p) ts) (assignment_by others (here others d) (placed gs q) ts)
  unfolding assignment_by here here_by
  assignment_reads d gs p q ts =
      reads_then _ _ (target_reads false d (inner_reads false d) ts) (λ t p q us x.
      reads_then _ _ (assign_passes (IsTarget false d ts) t p q us x) (λ t _ _ vs x.
      reads_then _ _ (expression_both spans others d vs) (λ e _ _ ws y. reads_end (assignment x y refl))))

  assignments_reads : (d : ℕ) (ts : List Token) →
      Reads (IsAssignments d ts) ts (assignments_by spans (here spans d) ts) (assignments_by others (here others d) ts)
  unfolding assignments_by
  assignments_reads d (block_end ∷ ts) = reads_end none_assigned
  assignments_reads d ts =
      reads_then _ _ (assignment_reads d no_assignments _ _ ts) (λ gs p q us a.
      reads_as (λ hs vs m. some_assigned a m)
      (more_reads (IsAssignment d) (assignment_by spans (here spans d)) (assignment_by others (here others d))
      (assignment_reads d) gs p q us))

  -- conditions of loops
  loop_filter_reads : (d : ℕ) (ts : List Token) →
      Reads (IsLoopFilter d ts) ts (loop_filter_by spans (expression_at spans d) ts) (loop_filter_by others (expression_at others d) ts)
  unfolding loop_filter_by
  loop_filter_reads d [] = reads_end no_loop_filter
  loop_filter_reads d (t ∷ ts) = reads_if (is_word (codes "if") t)
      (λ f. reads_behind (reads_then _ _ (expression_both spans others d ts) (λ e _ _ us x.
      reads_end (subst (λ u. IsLoopFilter d (u ∷ ts) (given e) us) (sym (word_same (codes "if") t f)) (a_loop_filter x)))))
      (λ f. reads_end no_loop_filter)

  -- imported names
  alias_reads : (is : Imports) (m w : Parts) (n : Expression) (p q : Places) (ts us : List Token) → IsStored ts n us →
      Reads (IsImport is ts) us
      (alias_by spans (placed is m) (placed n p) us) (alias_by others (placed is w) (placed n q) us)
  unfolding alias_by
  alias_reads is m w n p q ts [] x = reads_end (same_name x refl)
  alias_reads is m w n p q ts (t ∷ us) x = reads_if (is_word (codes "as") t)
      (λ e. reads_behind (reads_then _ _ (stored_reads us) (λ a _ _ vs y.
      reads_end (other_name (subst (λ u. IsStored ts n (u ∷ us)) (word_same (codes "as") t e) x) y refl))))
      (λ e. reads_end (same_name x refl))

  import_reads : (is : Imports) (m w : Parts) (ts : List Token) → Reads (IsImport is ts) ts (import_by spans (placed is m) ts)
      (import_by others (placed is w) ts)
  unfolding import_by
  import_reads is m w ts = reads_then _ _ (stored_reads ts) (λ n p q us x. alias_reads is m w n p q ts us x)

  -- parameters
  default_reads : (d : ℕ) (ps : Parameters) (m w : PairedPlaces) (a : Expression) (p q : Places) (ts us : List Token) → IsStored ts a us →
      Reads (IsParameter d ps ts) us
      (default_by spans (expression_at spans d) (placed ps m) (placed a p) us)
      (default_by others (expression_at others d) (placed ps w) (placed a q) us)
  unfolding default_by
  default_reads d ps m w a p q ts (symbol assign ∷ us) x =
      reads_behind (reads_then _ _ (expression_both spans others d us) (λ e _ _ vs y. reads_end (default_parameter x y refl)))
  default_reads d ps m w a p q ts us x =
      reads_if (is_nothing ps.1) (λ e. reads_end (plain_parameter x (nothing_same ps.1 e) refl)) (λ e. reads_syntax)

  parameter_reads : (d : ℕ) (ps : Parameters) (m w : PairedPlaces) (ts : List Token) → Reads (IsParameter d ps ts) ts
      (parameter_by spans (expression_at spans d) (placed ps m) ts) (parameter_by others (expression_at others d) (placed ps w) ts)
  unfolding parameter_by
  parameter_reads d ps m w ts = reads_then _ _ (stored_reads ts) (λ a p q us x. default_reads d ps m w a p q ts us x)

  parameters_reads : (d : ℕ) (ts : List Token) →
      Reads (IsParameters d ts) ts (parameters_by spans (expression_at spans d) ts) (parameters_by others (expression_at others d) ts)
  unfolding parameters_by
  parameters_reads d (symbol paren_close ∷ ts) = reads_ok (none_declared refl) (one (symbol paren_close) ts)
  parameters_reads d ts =
      reads_then _ _ (parameter_reads d no_parameters _ _ ts) (λ ps m w us a.
      reads_then _ _ (more_reads (IsParameter d) (parameter_by spans (expression_at spans d)) (parameter_by others (expression_at others d))
      (parameter_reads d) ps m w us) (λ qs m w vs x.
      reads_as (λ b ws y. some_declared a y) (paren_passes (IsMore (IsParameter d) ps us) qs m w vs x)))

  deeper_parameters_reads : (d : ℕ) (ts : List Token) →
      Reads (λ q us. Below d (λ n. IsParameters n ts q us)) ts (deeper_parameters spans d ts) (deeper_parameters others d ts)
  unfolding deeper_parameters Below
  deeper_parameters_reads zero ts = reads_syntax
  deeper_parameters_reads (suc d) ts = parameters_reads d ts

  optional_parameters_reads : (d : ℕ) (ts : List Token) →
      Reads (IsOptionalParameters d ts) ts (optional_parameters_by spans (here spans d) ts)
      (optional_parameters_by others (here others d) ts)
  unfolding optional_parameters_by here here_by
  optional_parameters_reads d (symbol paren_open ∷ ts) =
      reads_behind (reads_as (λ q us b.
      below d (λ n. IsParameters n ts q us) (λ n. IsOptionalParameters n (symbol paren_open ∷ ts) q us) (λ n x. declared x) b)
      (deeper_parameters_reads d ts))
  optional_parameters_reads d ts = reads_end (not_declared refl refl)

-- what holds one level deeper
level_of : (d : ℕ) (P : ℕ → Type 0) → Below d P → Below d (λ n. Unit {0})
unfolding Below
level_of zero P h = h
level_of (suc d) P h = tt

from_level : (d : ℕ) (P : ℕ → Type 0) → ((n : ℕ) → P n) → Below d (λ n. Unit {0}) → Below d P
unfolding Below
from_level zero P f h = h
from_level (suc d) P f h = f d

below_with : (d : ℕ) (P Q : ℕ → Type 0) → ((n : ℕ) → P n → Q n) → Below d P → Below d Q
unfolding Below
below_with zero P Q f h = h
below_with (suc d) P Q f h = f d h

abbrev Body : ℕ → Around → List Token → Statements → List Token → Type 0
Body d p ts body us = Below d (λ n. IsStatements n p no_statements ts body us)

for_at : (d : ℕ) (p : Around) (xs ys : List Token) (body other : Statements) {t i : Expression} {f : Optional} {r : Bool}
    {ts us vs ws zs : List Token} →
    IsTargets false d ts t (word_in ∷ us) → IsBinary d disjunction us i vs → IsLoopFilter d vs f ws →
    IsWord (codes "recursive") ws r (block_end ∷ xs) →
    Body d (loop_around p) xs body ys → Below d (λ n. IsElse n p (codes "endfor") ys other zs) →
    IsStatement d p (opens (codes "for") ts) (for_loop t i f r body other) zs
unfolding Below
for_at zero p xs ys body other x y z w b e = absurd b
for_at (suc d) p xs ys body other x y z w b e = for_statement x y z w b e

if_at : (d : ℕ) (p : Around) (us vs ws : List Token) (body other : Statements) (bs : Branches) {c : Expression} {ts xs : List Token} →
    IsExpression d ts c (block_end ∷ us) → Body d p us body vs → Below d (λ n. IsBranches n p no_branches vs bs ws) →
    Below d (λ n. IsElse n p (codes "endif") ws other xs) → IsStatement d p (opens (codes "if") ts)
    (if_condition c body (branched bs other)) xs
unfolding Below
if_at zero p us vs ws body other bs x b y e = absurd b
if_at (suc d) p us vs ws body other bs x b y e = if_statement x b y e refl

branch_at : (d : ℕ) (p : Around) (us vs ws : List Token) (body : Statements) (bs all : Branches) {c : Expression} {ts : List Token} →
    IsExpression d ts c (block_end ∷ us) → Body d p us body vs → Below d (λ n. IsBranches n p (and_branch bs c body) vs all ws) →
    Below d (λ n. IsBranches n p bs (opens (codes "elif") ts) all ws)
unfolding Below
branch_at zero p us vs ws body bs all x b m = b
branch_at (suc d) p us vs ws body bs all x b m = branches_next x b m

with_at : (d : ℕ) (p : Around) (us : List Token) (body : Statements) {gs : Assignments} {ts vs : List Token} →
    IsAssignments d ts gs (block_end ∷ us) → Body d p us body (tag (codes "endwith") vs) →
    IsStatement d p (opens (codes "with") ts) (with_block gs body) vs
unfolding Below
with_at zero p us body x b = absurd b
with_at (suc d) p us body x b = with_statement x b

set_block_at : (d : ℕ) (p : Around) (vs : List Token) (body : Statements) {t : Expression} {f : Optional} {ts us ws : List Token} →
    IsTarget true d ts t us → IsFilterChain d absent us f (block_end ∷ vs) → Body d p vs body (tag (codes "endset") ws) →
    IsStatement d p (opens (codes "set") ts) (set_block t f body) ws
unfolding Below
set_block_at zero p vs body x y b = absurd b
set_block_at (suc d) p vs body x y b = set_block_statement x y b

autoescape_at : (d : ℕ) (p : Around) (us : List Token) (body : Statements) {e : Expression} {ts vs : List Token} →
    IsExpression d ts e (block_end ∷ us) → Body d p us body (tag (codes "endautoescape") vs) →
    IsStatement d p (opens (codes "autoescape") ts) (auto_escape e body) vs
unfolding Below
autoescape_at zero p us body x b = absurd b
autoescape_at (suc d) p us body x b = autoescape_statement x b

filter_at_level : (d : ℕ) (p : Around) (vs : List Token) (body : Statements) {e f : Expression} {ts us ws : List Token} →
    IsFilter d absent ts e us → IsFilterChain d (given e) us (given f) (block_end ∷ vs) → Body d p vs body (tag (codes "endfilter") ws) →
    IsStatement d p (opens (codes "filter") ts) (filter_block f body) ws
unfolding Below
filter_at_level zero p vs body x y b = absurd b
filter_at_level (suc d) p vs body x y b = filter_statement x y b

block_at : (d : ℕ) (p : Around) (n : List ℕ) (us vs : List Token) (body : Statements) {r : Bool} {ts ws : List Token} →
    p.macro ≡ false → IsWord (codes "required") ts r (block_end ∷ us) → Body d (block_around p) us body vs →
    is_block_body r body ≡ true → IsBlockEnd n vs ws → IsStatement d p (opens (codes "block") (identifier n ∷ ts)) (block n r body) ws
unfolding Below
block_at zero p n us vs body e w b f g = absurd b
block_at (suc d) p n us vs body e w b f g = block_statement e w b f g

macro_at : (d : ℕ) (p : Around) (n : List ℕ) (us : List Token) (body : Statements) (q : Parameters) (ts vs : List Token) →
    is_reserved n ≡ false → Below d (λ m. IsParameters m ts q (block_end ∷ us)) → Body d macro_around us body (tag (codes "endmacro") vs) →
    IsStatement d p (opens (codes "macro") (identifier n ∷ symbol paren_open ∷ ts)) (macro n q.0 q.1 body) vs
unfolding Below
macro_at zero p n us body q ts vs e x b = absurd b
macro_at (suc d) p n us body q ts vs e x b = macro_statement e x b refl

call_at : (d : ℕ) (p : Around) (vs : List Token) (body : Statements) {q : Parameters} {c : Expression} {args : Arguments}
    {ts us ws : List Token} →
    IsOptionalParameters d ts q us → IsExpression d us (call c args) (block_end ∷ vs) →
    Body d macro_around vs body (tag (codes "endcall") ws) →
    IsStatement d p (opens (codes "call") ts) (call_block c args q.0 q.1 body) ws
unfolding Below
call_at zero p vs body x y b = absurd b
call_at (suc d) p vs body x y b = call_statement x y b refl

-- a chain of filters behind a filter is given
filtered_given : {d : ℕ} {v f : Optional} {ts us : List Token} → IsFilterChain d v ts f us → (e : Expression) → v ≡ given e →
    (g : Expression) × (f ≡ given g)
filtered_given (chain_end {value = v}) e h = (e, h)
filtered_given (chain_more {e = x} y m) e h = filtered_given m x refl

parts_same : (e c : Expression) (args : Arguments) → call_parts e ≡ Some (c, args) → e ≡ call c args
parts_same (call c' args') c args h =
    let l = ap (λ (o : Option (Expression × Arguments)). (unwrap_or {T = Expression × Arguments} o (c, args)).0) h in let r = ap
    (λ (o : Option (Expression × Arguments)). (unwrap_or {T = Expression × Arguments} o (c, args)).1) h in ap (λ x. call x args') l ∙ ap
    (λ y. call c y) r
parts_same _ c args h = cc

-- statements, by the reading of bodies one level deeper
module _ (spans others : List Span) (d : ℕ) (bodies : (p : Around) (ts : List Token) →
    Reads (λ body us. Below d (λ n. IsStatements n p no_statements ts body us)) ts (deeper_body spans d p ts)
    (deeper_body others d p ts)) where
  abbrev Statement_at : Around → List ℕ → List Token → Statement → List Token → Type 0
  Statement_at p name ts s us = IsStatement d p (opens name ts) s us

  body_reads : (P : Statement → List Token → Type 0) (p : Around) (end : List ℕ) (s t : Span)
      (make other : PlacedStatements → Span → PlacedStatement)
      (ts : List Token) →
      ((body : Statements) (m w : Parts) (k l : Span) (us : List Token) → Body d p ts body (tag end us) →
      Reads P us (Ok (make (placed body m) k, us)) (Ok (other (placed body w) l, us))) →
      Reads P ts (body_by spans (here spans d) p end s make ts) (body_by others (here others d) p end t other ts)
  unfolding body_by here here_by
  body_reads P p end s t make other ts f =
      reads_then _ _ (bodies p ts) (λ body m w us b.
      reads_then _ _ (tag_passes (Body d p ts) end body m w us b) (λ body m w vs b. f body m w _ _ vs b))

  else_reads : (p : Around) (end : List ℕ) (ts : List Token) → Below d (λ n. Unit {0}) →
      Reads (λ other us. Below d (λ n. IsElse n p end ts other us)) ts
      (else_by spans (here spans d) p end ts) (else_by others (here others d) p end ts)
  unfolding else_by here here_by
  else_reads p end ts l = reads_if (begins_tag (codes "else") ts)
      (λ e. reads_after _ _ (tag_alone (λ x us. us ≡ ts) (codes "else") false ts refl) (λ x us e.
      reads_then _ _ (bodies p us) (λ body m w vs b.
      reads_as (λ body ws b. below_with d (λ n. IsStatements n p no_statements us body (tag end ws)) (λ n. IsElse n p end ts body ws)
      (λ n y. subst (λ ts. IsElse n p end ts body ws) e (an_else y)) b)
      (tag_passes (Body d p us) end body m w vs b))))
      (λ e. reads_as (λ body us x. from_level d (λ n. IsElse n p end ts body us)
      (λ n. subst (λ ts. IsElse n p end ts body us) x.1 (subst (λ body. IsElse n p end (tag end us) body us) (sym x.0) no_else)) l)
      (tag_passes (λ body us. (body ≡ no_statements) × (us ≡ ts)) end no_statements no_parts no_parts ts (refl, refl)))

  for_body_reads : (p : Around) (ts us vs ws xs : List Token) (s s' : Span) (t i : Expression) (f : Optional) (b : Bool)
      (tp tq ip iq : Places) (fp fq : Parts) →
      IsTargets false d ts t (word_in ∷ us) → IsBinary d disjunction us i vs → IsLoopFilter d vs f ws → IsWord (codes "recursive") ws b xs →
      Reads (Statement_at p (codes "for") ts) xs
      (for_body spans (here spans d) p s (placed t tp) (placed i ip) (placed f fp) b xs)
      (for_body others (here others d) p s' (placed t tq) (placed i iq) (placed f fq) b xs)
  unfolding for_body here here_by
  for_body_reads p ts us vs ws xs s s' t i f b tp tq ip iq fp fq x y z w =
      reads_after _ _ (end_alone (IsWord (codes "recursive") ws) b xs w) (λ c ys w.
      reads_then _ _ (bodies (loop_around p) ys) (λ body _ _ zs m.
      reads_then _ _ (else_reads p (codes "endfor") zs (level_of d (λ n. IsStatements n (loop_around p) no_statements ys body zs) m))
      (λ other _ _ as' o.
      reads_end (for_at d p ys zs body other x y z w m o))))

  for_reads : (p : Around) (s t : Span) (ts : List Token) → Reads (Statement_at p (codes "for") ts) ts
      (for_by spans (here spans d) p s ts) (for_by others (here others d) p t ts)
  unfolding for_by for_in here here_by
  for_reads p s s' ts =
      reads_then _ _ (targets_reads spans others false d (inner_reads spans others false d) ts) (λ t tp tq us x.
      reads_then _ _ (word_passes (IsTargets false d ts) (codes "in") t tp tq us x) (λ t tp tq vs x.
      reads_then _ _ (condition_both spans others d vs) (λ i ip iq ws y.
      reads_then _ _ (loop_filter_reads spans others d ws) (λ f fp fq xs z.
      reads_after _ _ (flag_reads (codes "recursive") xs) (λ b ys w.
      for_body_reads p ts vs ws xs ys s s' t i f b tp tq ip iq fp fq x y z w)))))

  branch_reads : (p : Around) (ts : List Token) →
      Reads (λ b us. (vs : List Token) × IsExpression d ts b.0 (block_end ∷ vs) × Body d p vs b.1 us) ts
      (branch_by spans (here spans d) p ts) (branch_by others (here others d) p ts)
  unfolding branch_by here here_by
  branch_reads p ts =
      reads_then _ _ (expression_both spans others d ts) (λ c m w us x.
      reads_then _ _ (end_passes (IsExpression d ts) c m w us x) (λ c _ _ vs x.
      reads_then _ _ (bodies p vs) (λ body _ _ ws m. reads_end (vs, x, m))))

  -- what follows a tag's start, for the branches that are read so far
  abbrev Branching : Around → Branches → List Token → Branches → List Token → Type 0
  Branching p bs ts cs us =
      (es : Branches) (vs : List Token) → (Below d (λ n. Unit {0}) → Below d (λ n. IsBranches n p cs us es vs)) →
      Below d (λ n. Unit {0}) → Below d (λ n. IsBranches n p bs ts es vs)

  branch_test_reads : (p : Around) (bs : Branches) (m w : List (Span × Parts)) (t : Token) (ts : List Token) →
      StepReads (Branching p bs (block_start ∷ t ∷ ts)) ts
      (if is_word (codes "elif") t
      then under (branch_by spans (here spans d) p ts)
      (λ b us. goes (and_placed_branch (placed bs m) (next_span spans (block_start ∷ t ∷ ts)) b) us)
      else stops)
      (if is_word (codes "elif") t
      then under (branch_by others (here others d) p ts)
      (λ b us. goes (and_placed_branch (placed bs w) (next_span others (block_start ∷ t ∷ ts)) b) us)
      else stops)
  branch_test_reads p bs m w t ts = step_if (is_word (codes "elif") t)
      (λ e. step_under _ _ (branch_reads p ts) (λ b _ _ us h. step_goes
      (λ es vs m l. subst (λ t. Below d (λ n. IsBranches n p bs (block_start ∷ t ∷ ts) es vs)) (sym (word_same (codes "elif") t e))
      (branch_at d p h.0 us vs b.1 bs es h.1 h.2 (m l)))
      (same us)))
      (λ e. step_stops)

  branch_step_reads : (p : Around) (bs : Branches) (m w : List (Span × Parts)) (ts : List Token) → StepReads (Branching p bs ts) ts
      (branch_step spans (here spans d) p (placed bs m) ts) (branch_step others (here others d) p (placed bs w) ts)
  unfolding branch_step
  branch_step_reads p bs m w (block_start ∷ t ∷ ts) = step_behind (step_behind (branch_test_reads p bs m w t ts))
  branch_step_reads p bs m w ts = step_stops

  branches_reads : (p : Around) (bs : Branches) (m w : List (Span × Parts)) (ts : List Token) →
      Reads (λ cs us. Below d (λ n. Unit {0}) → Below d (λ n. IsBranches n p bs ts cs us)) ts
      (all (branch_step spans (here spans d) p) (placed bs m) ts) (all (branch_step others (here others d) p) (placed bs w) ts)
  branches_reads p bs m w ts =
      reads_all (branch_step spans (here spans d) p) (branch_step others (here others d) p)
      (λ bs ts cs us. Below d (λ n. Unit {0}) → Below d (λ n. IsBranches n p bs ts cs us))
      (λ bs ts l. from_level d (λ n. IsBranches n p bs ts bs ts) (λ n. branches_end) l) (branch_step_reads p) bs m w ts

  if_reads : (p : Around) (s t : Span) (ts : List Token) → Reads (Statement_at p (codes "if") ts) ts
      (if_by spans (here spans d) p s ts) (if_by others (here others d) p t ts)
  unfolding if_by
  if_reads p s t ts =
      reads_then _ _ (branch_reads p ts) (λ b _ _ us h.
      let l = level_of d (λ n. IsStatements n p no_statements h.0 b.1 us) h.2 in
      reads_then _ _ (branches_reads p no_branches _ _ us) (λ bs _ _ vs m.
      reads_then _ _ (else_reads p (codes "endif") vs l) (λ other _ _ ws o. reads_end (if_at d p h.0 us vs b.1 other bs h.1 h.2 (m l) o))))

  with_reads : (p : Around) (s t : Span) (ts : List Token) → Reads (Statement_at p (codes "with") ts) ts
      (with_by spans (here spans d) p s ts) (with_by others (here others d) p t ts)
  unfolding with_by
  with_reads p s t ts =
      reads_then _ _ (assignments_reads spans others d ts) (λ gs m w us x.
      reads_then _ _ (end_passes (IsAssignments d ts) gs m w us x) (λ gs m w vs x.
      body_reads (Statement_at p (codes "with") ts) p (codes "endwith") s t (with_node (placed gs m)) (with_node (placed gs w)) vs
      (λ body _ _ _ _ ws b.
      reads_end (with_at d p vs body x b))))

  set_reads : (p : Around) (s t : Span) (ts : List Token) → Reads (Statement_at p (codes "set") ts) ts
      (set_by spans (here spans d) p s ts) (set_by others (here others d) p t ts)
  unfolding set_by set_behind set_values set_body here here_by
  set_reads p s t ts =
      reads_then _ _ (target_reads spans others true d (inner_reads spans others true d) ts) (λ a m w us x.
      reads_if (begins_values us)
      (λ e. reads_then _ _ (more_targets_reads spans others true d (inner_reads spans others true d) _ _ a m w ts us x) (λ u m w vs y.
      reads_then _ _ (assign_passes (IsTargets true d ts) u m w vs y) (λ u _ _ ws y.
      reads_then _ _ (values_reads spans others d ws) (λ v m w xs z.
      reads_then _ _ (end_passes (IsValues d ws) v m w xs z) (λ v _ _ ys z. reads_end (set_statement y z))))))
      (λ e. reads_then _ _ (filter_chain_both spans others d absent no_parts no_parts us) (λ f k l vs y.
      reads_then _ _ (end_passes (IsFilterChain d absent us) f k l vs y) (λ f k l ws y.
      body_reads (Statement_at p (codes "set") ts) p (codes "endset") s t (set_block_node (placed a m) (placed f k))
      (set_block_node (placed a w) (placed f l)) ws
      (λ body _ _ _ _ xs b. reads_end (set_block_at d p ws body x y b))))))

  autoescape_reads : (p : Around) (s t : Span) (ts : List Token) → Reads (Statement_at p (codes "autoescape") ts) ts
      (autoescape_by spans (here spans d) p s ts) (autoescape_by others (here others d) p t ts)
  unfolding autoescape_by here here_by
  autoescape_reads p s t ts =
      reads_then _ _ (expression_both spans others d ts) (λ e m w us x.
      reads_then _ _ (end_passes (IsExpression d ts) e m w us x) (λ e m w vs x.
      body_reads (Statement_at p (codes "autoescape") ts) p (codes "endautoescape") s t (auto_escape_node (placed e m))
      (auto_escape_node (placed e w)) vs
      (λ body _ _ _ _ ws b. reads_end (autoescape_at d p vs body x b))))

  filter_reads : (p : Around) (s t : Span) (ts : List Token) → Reads (Statement_at p (codes "filter") ts) ts
      (filter_block_by spans (here spans d) p s ts) (filter_block_by others (here others d) p t ts)
  unfolding filter_block_by here here_by
  filter_reads p s t ts =
      reads_then _ _ (filter_both spans others d absent no_parts no_parts ts) (λ e m w us x.
      reads_then _ _ (filter_chain_both spans others d (given e) _ _ us) (λ f m w vs y.
      reads_then _ _ (end_passes (IsFilterChain d (given e) us) f m w vs y) (λ f m w ws y.
      let h = filtered_given y e refl in
      body_reads (Statement_at p (codes "filter") ts) p (codes "endfilter") s t (filter_block_node (placed f m))
      (filter_block_node (placed f w)) ws
      (λ body _ _ _ _ xs b. reads_end (subst (λ g. Statement_at p (codes "filter") ts (filtered_body g body) xs) (sym h.1)
      (filter_at_level d p ws body x (subst (λ g. IsFilterChain d (given e) us g (block_end ∷ ws)) h.1 y) b))))))

  end_name_reads : {R : Type 0} (P : Statements → List Token → Type 0) (n : List ℕ) (body : Statements) (k l : R) (ts us : List Token) →
      ((vs : List Token) → IsBlockEnd n (block_start ∷ ts) vs → P body vs) → ts ≡ word (codes "endblock") ∷ us →
      Reads P us (end_name_by n (placed body k) us) (end_name_by n (placed body l) us)
  unfolding end_name_by
  end_name_reads P n body k l ts (identifier m ∷ us) f q = reads_if (bytes_eq m n)
      (λ e. let is : m ≡ n = (bytes_eq-Decides m n).0 e in
      reads_behind (reads_as (λ b vs x. subst (λ b. P b vs) (sym x.0) (f vs (rw (q, x.1, is) named_end)))
      (end_passes (λ b vs. (b ≡ body) × (us ≡ vs)) body k l us (refl, refl))))
      (λ e. reads_syntax)
  end_name_reads P n body k l ts us f q =
      reads_as (λ b vs x. subst (λ b. P b vs) (sym x.0) (f vs (rw (q, x.1) plain_end)))
      (end_passes (λ b vs. (b ≡ body) × (us ≡ vs)) body k l us (refl, refl))

  block_end_reads : {R : Type 0} (P : Statements → List Token → Type 0) (n : List ℕ) (body : Statements) (k l : R) (ts : List Token) →
      ((vs : List Token) → IsBlockEnd n ts vs → P body vs) → Reads P ts (block_end_by n (placed body k) ts)
      (block_end_by n (placed body l) ts)
  unfolding block_end_by
  block_end_reads P n body k l (block_start ∷ ts) f =
      reads_behind (reads_then _ _ (word_passes (λ b us. (b ≡ body) × (ts ≡ us)) (codes "endblock") body k l ts (refl, refl))
      (λ b k l us x. end_name_reads P n b k l ts us (λ vs y. subst (λ b. P b vs) (sym x.0) (f vs y)) x.1))
  block_end_reads P n body k l ts f = reads_none ts

  block_reads : (p : Around) (s t : Span) (ts : List Token) → Reads (Statement_at p (codes "block") ts) ts
      (block_by spans (here spans d) p s ts) (block_by others (here others d) p t ts)
  unfolding block_by block_body here here_by
  block_reads p s t (identifier n ∷ ts) =
      reads_if p.macro (λ e. reads_syntax) (λ e.
      reads_behind (reads_after _ _ (flag_reads (codes "required") ts) (λ b us w.
      reads_after _ _ (end_alone (IsWord (codes "required") ts) b us w) (λ c vs w.
      reads_then _ _ (bodies (block_around p) vs) (λ body k l ws m.
      reads_if (is_block_body c body)
      (λ f. reads_then _ _ (block_end_reads
      (λ body xs. Statement_at p (codes "block") (identifier n ∷ ts) (block n c body) xs) n body k l ws
      (λ xs g. block_at d p n vs ws body e w m f g)) (λ body _ _ xs x. reads_end x))
      (λ f. reads_syntax))))))
  block_reads p s t ts = reads_none ts

  import_statement_reads : (p : Around) (s t : Span) (ts : List Token) → Reads (Statement_at p (codes "import") ts) ts
      (import_statement_by spans (here spans d) s ts) (import_statement_by others (here others d) t ts)
  unfolding import_statement_by here here_by
  import_statement_reads p s t ts =
      reads_then _ _ (expression_both spans others d ts) (λ e m w us x.
      reads_then _ _ (word_passes (IsExpression d ts) (codes "as") e m w us x) (λ e _ _ vs x.
      reads_then _ _ (stored_reads spans others vs) (λ a m w ws y.
      reads_then _ _ (context_reads (IsStored vs) a m w ws y) (λ a m w xs c.
      reads_then _ _ (end_passes (Standing (IsStored vs)) a m w xs c) (λ a _ _ ys c. reads_end (import_statement x c.1 c.2))))))

  from_reads : (p : Around) (s t : Span) (ts : List Token) → Reads (Statement_at p (codes "from") ts) ts
      (from_by spans (here spans d) s ts) (from_by others (here others d) t ts)
  unfolding from_by here here_by
  from_reads p s t ts =
      reads_then _ _ (expression_both spans others d ts) (λ e m w us x.
      reads_then _ _ (word_passes (IsExpression d ts) (codes "import") e m w us x) (λ e _ _ vs x.
      reads_then _ _ (import_reads spans others no_imports _ _ vs) (λ is m w ws y.
      reads_then _ _ (more_reads IsImport (import_by spans) (import_by others) (import_reads spans others) is m w ws) (λ js m w xs z.
      reads_then _ _ (context_reads (IsMore IsImport is ws) js m w xs z) (λ js m w ys c.
      reads_then _ _ (end_passes (Standing (IsMore IsImport is ws)) js m w ys c)
      (λ js _ _ zs c. reads_end (from_statement x y c.1 c.2)))))))

  extends_reads : (p : Around) (s t : Span) (ts : List Token) → Reads (Statement_at p (codes "extends") ts) ts
      (extends_by spans (here spans d) s ts) (extends_by others (here others d) t ts)
  unfolding extends_by here here_by
  extends_reads p s t ts =
      reads_then _ _ (expression_both spans others d ts) (λ e m w us x.
      reads_then _ _ (end_passes (IsExpression d ts) e m w us x) (λ e _ _ vs x. reads_end (extends_statement x)))

  include_reads : (p : Around) (s t : Span) (ts : List Token) → Reads (Statement_at p (codes "include") ts) ts
      (include_by spans (here spans d) s ts) (include_by others (here others d) t ts)
  unfolding include_by here here_by
  include_reads p s t ts =
      reads_then _ _ (expression_both spans others d ts) (λ e _ _ us x.
      reads_after _ _ (missing_reads us) (λ i vs y.
      reads_after _ _ (end_alone (IsMissing us) i vs y) (λ i ws y. reads_end (include_statement x y))))

  macro_reads : (p : Around) (s t : Span) (ts : List Token) → Reads (Statement_at p (codes "macro") ts) ts
      (macro_by spans (here spans d) s ts) (macro_by others (here others d) t ts)
  unfolding macro_by here here_by
  macro_reads p s t (identifier n ∷ symbol paren_open ∷ ts) =
      reads_if (is_reserved n) (λ e. reads_syntax) (λ e.
      reads_behind (reads_behind (reads_then _ _ (deeper_parameters_reads spans others d ts) (λ ps m w us x.
      reads_then _ _ (end_passes (λ ps us. Below d (λ m. IsParameters m ts ps us)) ps m w us x) (λ ps m w vs x.
      body_reads (Statement_at p (codes "macro") (identifier n ∷ symbol paren_open ∷ ts)) macro_around (codes "endmacro") s t
      (macro_node n (placed ps m)) (macro_node n (placed ps w)) vs
      (λ body _ _ _ _ ws b. reads_end (macro_at d p n vs body ps ts ws e x b)))))))
  macro_reads p s t (identifier n ∷ ts) = reads_behind (reads_none ts)
  macro_reads p s t ts = reads_none ts

  only_call_reads : {A R : Type 0} {P : A → List Token → Type 0} (go on : Expression → Arguments → List Token → Read (Placed A R))
      (o : Option (Expression × Arguments)) (us : List Token) →
      ((c : Expression) (args : Arguments) → o ≡ Some (c, args) → Reads P us (go c args us) (on c args us)) →
      Reads P us (only_call go o us) (only_call on o us)
  unfolding only_call
  only_call_reads go on (Some parts) us f = f parts.0 parts.1 refl
  only_call_reads go on None us f = reads_syntax

  call_reads : (p : Around) (s t : Span) (ts : List Token) → Reads (Statement_at p (codes "call") ts) ts
      (call_by spans (here spans d) s ts) (call_by others (here others d) t ts)
  unfolding call_by call_body here here_by
  call_reads p s t ts =
      reads_then _ _ (optional_parameters_reads spans others d ts) (λ ps m w us x.
      reads_then _ _ (expression_both spans others d us) (λ e k l vs y.
      only_call_reads _ _ (call_parts e) vs (λ c args h.
      reads_then _ _ (end_passes (λ ps vs. IsOptionalParameters d ts ps us × IsExpression d us e vs) ps m w vs (x, y)) (λ ps m w ws z.
      body_reads (Statement_at p (codes "call") ts) macro_around (codes "endcall") s t
      (call_block_node c args k (placed ps m)) (call_block_node c args l (placed ps w)) ws (λ body _ _ _ _ xs b.
      reads_end (call_at d p ws body z.0 (subst (λ e. IsExpression d us e (block_end ∷ ws)) (parts_same e c args h) z.1) b))))))

  do_reads : (p : Around) (s t : Span) (ts : List Token) → Reads (Statement_at p (codes "do") ts) ts
      (do_by spans (here spans d) s ts) (do_by others (here others d) t ts)
  unfolding do_by here here_by
  do_reads p s t ts =
      reads_then _ _ (expression_both spans others d ts) (λ e m w us y.
      only_call_reads _ _ (call_parts e) us (λ c args h.
      reads_then _ _ (end_passes (λ f vs. IsExpression d ts e vs) e m w us y) (λ f _ _ vs y.
      reads_end (do_statement (subst (λ e. IsExpression d ts e (block_end ∷ vs)) (parts_same e c args h) y)))))

  loop_reads : (P : Statement → List Token → Type 0) (p : Around) (a : Statement) (s t : Span) (ts : List Token) →
      (p.loop ≡ true → (us : List Token) → ts ≡ block_end ∷ us → P a us) → Reads P ts (in_loop spans p a s ts) (in_loop others p a t ts)
  unfolding in_loop
  loop_reads P p a s t ts f = reads_if p.loop
      (λ e. reads_after _ _ (end_alone (λ b us. (b ≡ a) × (ts ≡ us)) a ts (refl, refl)) (λ b us x.
      reads_end (subst (λ b. P b us) (sym x.0) (f e us x.1))))
      (λ e. reads_syntax)

  -- statements behind one another
  abbrev Next : Around → Statements → List Token → Statements → List Token → Type 0
  Next p ss ts all us = (cs : Statements) (vs : List Token) → IsStatements d p all us cs vs → IsStatements d p ss ts cs vs

  opened_reads : (p : Around) (s t : Span) (ss : Statements) (m w : Parts) (n : List ℕ) (ts : List Token) (o : Opening) (name : List ℕ) →
      bytes_eq name n ≡ true →
      Reads (Statement_at p name ts) ts (opened_by spans (here spans d) p o s ts) (opened_by others (here others d) p o t ts) →
      StepReads (Next p ss (opens n ts)) ts
      (opened_step spans (here spans d) p s (placed ss m) (Some o) ts) (opened_step others (here others d) p t (placed ss w) (Some o) ts)
  unfolding opened_step
  opened_reads p s t ss m w n ts o name e r =
      step_under _ _ r (λ a _ _ us x. step_goes
      (λ cs vs y. statements_next (subst (λ n. IsStatement d p (opens n ts) a us) ((bytes_eq-Decides name n).0 e) x) y) (same us))

  module _ (p : Around) (s t : Span) (ss : Statements) (m w : Parts) (n : List ℕ) (ts : List Token) where
    -- what follows the tag's word
    abbrev Tagged : Option Opening → Type 0
    Tagged o = StepReads (Next p ss (opens n ts)) ts
        (opened_step spans (here spans d) p s (placed ss m) o ts) (opened_step others (here others d) p t (placed ss w) o ts)

    opened_if : (b : Bool) (x y : Option Opening) → (b ≡ true → Tagged x) → Tagged y → Tagged (if b then x else y)
    opened_if true x y f g = f refl
    opened_if false x y f g = g

    opened : (o : Opening) (name : List ℕ) → bytes_eq name n ≡ true →
        Reads (Statement_at p name ts) ts (opened_by spans (here spans d) p o s ts) (opened_by others (here others d) p o t ts) →
        Tagged (Some o)
    opened o name e r = opened_reads p s t ss m w n ts o name e r

    tagged_reads : Tagged (opening n)
    unfolding opened_step opened_by
    tagged_reads =
        opened_if (bytes_eq (codes "for") n) _ _ (λ e. opened for_tag (codes "for") e (for_reads p s t ts))
        (opened_if (bytes_eq (codes "if") n) _ _ (λ e. opened if_tag (codes "if") e (if_reads p s t ts))
        (opened_if (bytes_eq (codes "with") n) _ _ (λ e. opened with_tag (codes "with") e (with_reads p s t ts))
        (opened_if (bytes_eq (codes "set") n) _ _ (λ e. opened set_tag (codes "set") e (set_reads p s t ts))
        (opened_if (bytes_eq (codes "autoescape") n) _ _ (λ e. opened autoescape_tag (codes "autoescape") e (autoescape_reads p s t ts))
        (opened_if (bytes_eq (codes "filter") n) _ _ (λ e. opened filter_tag (codes "filter") e (filter_reads p s t ts))
        (opened_if (bytes_eq (codes "block") n) _ _ (λ e. opened block_tag (codes "block") e (block_reads p s t ts))
        (opened_if (bytes_eq (codes "import") n) _ _ (λ e. opened import_tag (codes "import") e (import_statement_reads p s t ts))
        (opened_if (bytes_eq (codes "from") n) _ _ (λ e. opened from_tag (codes "from") e (from_reads p s t ts))
        (opened_if (bytes_eq (codes "extends") n) _ _ (λ e. opened extends_tag (codes "extends") e (extends_reads p s t ts))
        (opened_if (bytes_eq (codes "include") n) _ _ (λ e. opened include_tag (codes "include") e (include_reads p s t ts))
        (opened_if (bytes_eq (codes "macro") n) _ _ (λ e. opened macro_tag (codes "macro") e (macro_reads p s t ts))
        (opened_if (bytes_eq (codes "call") n) _ _ (λ e. opened call_tag (codes "call") e (call_reads p s t ts))
        (opened_if (bytes_eq (codes "do") n) _ _ (λ e. opened do_tag (codes "do") e (do_reads p s t ts))
        (opened_if (bytes_eq (codes "break") n) _ _ (λ e. opened break_tag (codes "break") e
        (loop_reads (Statement_at p (codes "break") ts) p break_loop s t ts
        (λ l us f. subst (λ ts. Statement_at p (codes "break") ts break_loop us) (sym f) (break_statement l))))
        (opened_if (bytes_eq (codes "continue") n) _ _ (λ e. opened continue_tag (codes "continue") e
        (loop_reads (Statement_at p (codes "continue") ts) p continue_loop s t ts
        (λ l us f. subst (λ ts. Statement_at p (codes "continue") ts continue_loop us) (sym f) (continue_statement l))))
        step_stops)))))))))))))))

  print_reads : (p : Around) (s t : Span) (ts : List Token) →
      Reads (IsStatement d p (variable_start ∷ ts)) ts (print_by spans (here spans d) s ts) (print_by others (here others d) t ts)
  unfolding print_by here here_by
  print_reads p s t ts =
      reads_then _ _ (expression_both spans others d ts) (λ e m w us x.
      reads_then _ _ (print_passes (IsExpression d ts) e m w us x) (λ e _ _ vs x. reads_end (print_statement x)))

  printed_reads : (p : Around) (s t : Span) (ss : Statements) (m w : Parts) (ts : List Token) →
      StepReads (Next p ss (variable_start ∷ ts)) ts
      (under (print_by spans (here spans d) s ts) (λ a us. goes (and_placed_statement (placed ss m) a) us))
      (under (print_by others (here others d) t ts) (λ a us. goes (and_placed_statement (placed ss w) a) us))
  printed_reads p s t ss m w ts = step_under _ _ (print_reads p s t ts) (λ a _ _ us x. step_goes (λ cs vs y. statements_next x y) (same us))

  statement_reads : (p : Around) (ss : Statements) (m w : Parts) (ts : List Token) → StepReads (Next p ss ts) ts
      (statement_step spans (here spans d) p (placed ss m) ts) (statement_step others (here others d) p (placed ss w) ts)
  unfolding statement_step
  statement_reads p ss m w (template_data s ∷ ts) = step_goes (λ cs vs y. statements_next text_statement y) (one (template_data s) ts)
  statement_reads p ss m w (variable_start ∷ ts) = step_behind (printed_reads p _ _ ss m w ts)
  statement_reads p ss m w (block_start ∷ identifier n ∷ ts) = step_behind (step_behind (tagged_reads p _ _ ss m w n ts))
  statement_reads p ss m w ts = step_stops

  statements_reads : (p : Around) (ts : List Token) → Reads (λ all us. IsStatements d p no_statements ts all us) ts
      (statements_by spans (here spans d) p ts) (statements_by others (here others d) p ts)
  unfolding statements_by
  statements_reads p ts =
      reads_all (statement_step spans (here spans d) p) (statement_step others (here others d) p) (IsStatements d p)
      (λ ss ts. statements_end)
      (statement_reads p) no_statements _ _ ts

bodies_read : (spans others : List Span) (d : ℕ) (p : Around) (ts : List Token) →
    Reads (λ body us. Below d (λ n. IsStatements n p no_statements ts body us)) ts (deeper_body spans d p ts) (deeper_body others d p ts)
unfolding deeper_body Below here
bodies_read spans others zero p ts = reads_syntax
bodies_read spans others (suc d) p ts = statements_reads spans others d (bodies_read spans others d) p ts

-- a template's statements
pub statements_both : (spans others : List Span) (d : ℕ) (p : Around) (ts : List Token) →
    Reads (λ all us. IsStatements d p no_statements ts all us) ts (statements_at spans d p ts) (statements_at others d p ts)
unfolding statements_at
statements_both spans others d p ts = statements_reads spans others d (bodies_read spans others d) p ts

-- what is read of a whole source, by its statements
abbrev ended : Statements → List Token → Result Statements TokenFault
ended ss [] = if are_distinct (blocks_among ss) then Ok ss else Err bad_syntax
ended ss (t ∷ ts) = Err (fault (t ∷ ts))

abbrev ended_by : Read Statements → Result Statements TokenFault
ended_by (Ok x) = ended x.0 x.1
ended_by (Err f) = Err f

module _ (spans : List Span) (start : Span) where
  distinct_bare : (ss : PlacedStatements) (b : Bool) →
      bare_template (if b then Ok (placed ss.tree (at (up_to spans start []) ss.places)) else Err bad_syntax) ≡
      (if b then Ok ss.tree else Err bad_syntax)
  unfolding bare_template
  distinct_bare ss true = refl
  distinct_bare ss false = refl

  behind_bare : (ss : PlacedStatements) (ts : List Token) → bare_template (template_behind spans start ss ts) ≡ ended ss.tree ts
  unfolding bare_template template_behind
  behind_bare ss [] = distinct_bare ss (are_distinct (blocks_among ss.tree))
  behind_bare ss (t ∷ ts) = refl

  whole_bare : (m : Read PlacedStatements) → bare_template (whole spans start m) ≡ ended_by (bare m)
  unfolding bare bare_template
  whole_bare (Ok x) = behind_bare x.0 x.1
  whole_bare (Err f) = refl

template_bare : (spans : List Span) (ts : List Token) → bare_template (template_of spans ts) ≡ ended_by
    (bare (statements_at spans 150 nothing_around ts))
unfolding template_of
template_bare spans ts = whole_bare spans (next_span spans ts) (statements_at spans 150 nothing_around ts)

-- without its places, the reading is the one over no table
pub template_erased : (spans : List Span) (ts : List Token) → bare_template (template_of spans ts) ≡ tree.template_of ts
unfolding tree.template_of
template_erased spans ts =
    template_bare spans ts ∙ ap ended_by (statements_both spans [] 150 nothing_around ts).same ∙ sym (template_bare [] ts)

-- it is the source's template
whole_tree : (ts : List Token) (ss : Statements) (ts' : List Token) → IsStatements 150 nothing_around no_statements ts ss ts' →
    (us : Statements) →
    (b : Bool) → are_distinct (blocks_among ss) ≡ b → ended ss ts' ≡ Ok us → IsTemplate ts us
whole_tree ts ss [] x us true e h =
    let taken : (if are_distinct (blocks_among ss) then Ok ss else Err bad_syntax) ≡ Ok us = h in
    let is : ss ≡ us = cc (rw e at taken) in subst (λ us. IsTemplate ts us) is (whole_template x e)
whole_tree ts ss [] x us false e h =
    let taken : (if are_distinct (blocks_among ss) then Ok ss else Err bad_syntax) ≡ Ok us = h in cc (rw e at taken)
whole_tree ts ss (t ∷ ts') x us b e h = cc

kept_blame : (us ts : List Token) (f : TokenFault) → Kept us ts → Blamed f us → Blamed f ts
kept_blame us ts f k (inl e) = inl e
kept_blame us ts f k (inr s) = inr (k.0 f s)

whole_blame : (ts : List Token) (ss : Statements) (ts' : List Token) → Kept ts' ts → (f : TokenFault) →
    (b : Bool) → are_distinct (blocks_among ss) ≡ b → ended ss ts' ≡ Err f → Blamed f ts
whole_blame ts ss [] k f true e h =
    let taken : (if are_distinct (blocks_among ss) then Ok ss else Err bad_syntax) ≡ Err f = h in cc (rw e at taken)
whole_blame ts ss [] k f false e h =
    let taken : (if are_distinct (blocks_among ss) then Ok ss else Err bad_syntax) ≡ Err f = h in inl (cc (rw e at taken))
whole_blame ts ss (t ∷ ts') k f b e h =
    let is : fault (t ∷ ts') ≡ f = cc in kept_blame (t ∷ ts') ts f k (subst (λ f. Blamed f (t ∷ ts')) is (fault_blamed (t ∷ ts')))

template_by : (ts : List Token) (r : Read Statements) → alone.Reads
    (λ all us. IsStatements 150 nothing_around no_statements ts all us) ts r →
    ((ss : Statements) → ended_by r ≡ Ok ss → IsTemplate ts ss) × ((f : TokenFault) → ended_by r ≡ Err f → Blamed f ts)
template_by ts (Ok x) r =
    let y = r.tree x.0 x.1 refl in (
      λ ss h. whole_tree ts x.0 x.1 y.0 ss (are_distinct (blocks_among x.0)) refl h,
      λ f h. whole_blame ts x.0 x.1 y.1 f
          (are_distinct (blocks_among x.0)) refl h,
    )
template_by ts (Err g) r = (λ ss h. cc, λ f h. let is : g ≡ f = cc in r.blames f (ap (λ g. Err g) is))

template_read : (ts : List Token) →
    ((ss : Statements) → tree.template_of ts ≡ Ok ss → IsTemplate ts ss) × ((f : TokenFault) → tree.template_of ts ≡ Err f → Blamed f ts)
unfolding tree.template_of
template_read ts =
    let x = template_by ts _ (statements_both [] [] 150 nothing_around ts).reads in
    (λ ss h. x.0 ss (sym (template_bare [] ts) ∙ h), λ f h. x.1 f (sym (template_bare [] ts) ∙ h))

pub template_sound : (ts : List Token) (ss : Statements) → tree.template_of ts ≡ Ok ss → IsTemplate ts ss
template_sound ts ss h = (template_read ts).0 ss h

pub template_blamed : (ts : List Token) (f : TokenFault) → tree.template_of ts ≡ Err f → Blamed f ts
template_blamed ts f h = (template_read ts).1 f h

-- each round of a repetition takes a token at least
more_falls : {A R : Type 0} (item : A → List Token → A → List Token → Type 0) (read : Placed A R → List Token → Read (Placed A R)) →
    ((a : A) (p q : R) (ts : List Token) → Reads (item a ts) ts (read (placed a p) ts) (read (placed a q) ts)) → Shrinks (more_step read)
unfolding more_step
more_falls item read items a b (symbol comma ∷ ts) us e =
    let l = (step_tree (step_under goes goes (items a.tree a.places a.places ts)
    (λ b p q us i. step_goes {p = p} {q = q} i (same us))) e).1.1 in
    omega arith
more_falls item read items a b _ us e = cc

module _ (spans : List Span) where
  pub paths_fall : (start : Span) → Shrinks (path_step spans start)
  unfolding path_step
  paths_fall start e f (symbol dot ∷ identifier n ∷ ts) us h = let same : ts ≡ us = cc in let l = ap length same in omega arith
  paths_fall start e f _ us h = cc

  pub targets_fall : (dots : Bool) (d : ℕ) → Shrinks (more_step (one_target_by spans dots (inner_targets spans dots d)))
  unfolding one_target_by
  targets_fall dots d =
      more_falls (λ a ts b us. Unit {0}) (one_target_by spans dots (inner_targets spans dots d))
      (λ a p q ts. reads_then _ _ (target_reads spans spans dots d (inner_reads spans spans dots d) ts) (λ e _ _ us t. reads_end tt))

  pub values_fall : (d : ℕ) → Shrinks (more_step (value_by spans (expression_at spans d)))
  values_fall d = more_falls (IsValue d) (value_by spans (expression_at spans d)) (value_reads spans spans d)

  pub assignments_fall : (d : ℕ) → Shrinks (more_step (assignment_by spans (here spans d)))
  assignments_fall d = more_falls (IsAssignment d) (assignment_by spans (here spans d)) (assignment_reads spans spans d)

  pub imports_fall : Shrinks (more_step (import_by spans))
  imports_fall = more_falls IsImport (import_by spans) (import_reads spans spans)

  pub parameters_fall : (d : ℕ) → Shrinks (more_step (parameter_by spans (expression_at spans d)))
  parameters_fall d = more_falls (IsParameter d) (parameter_by spans (expression_at spans d)) (parameter_reads spans spans d)

  pub statements_fall : (d : ℕ) (p : Around) → Shrinks (statement_step spans (here spans d) p)
  unfolding statement_step
  statements_fall d p ss all (template_data s ∷ ts) us e = let same : ts ≡ us = cc in let l = ap length same in omega arith
  statements_fall d p ss all (variable_start ∷ ts) us e =
      let start = next_span spans (variable_start ∷ ts) in
      let l = (step_tree (printed_reads spans spans d
      (bodies_read spans spans d) p start start ss.tree ss.places ss.places ts) e).1.1 in omega arith
  statements_fall d p ss all (block_start ∷ identifier n ∷ ts) us e =
      let start = next_span spans (block_start ∷ identifier n ∷ ts) in
      let l = (step_tree (tagged_reads spans spans d
      (bodies_read spans spans d) p start start ss.tree ss.places ss.places n ts) e).1.1 in omega arith
  statements_fall d p ss all _ us e = cc

  pub branches_fall : (d : ℕ) (p : Around) → Shrinks (branch_step spans (here spans d) p)
  unfolding branch_step
  branches_fall d p bs all (block_start ∷ t ∷ ts) us e =
      let l = (step_tree (branch_test_reads spans spans d
      (bodies_read spans spans d) p bs.tree bs.places bs.places t ts) e).1.1 in omega arith
  branches_fall d p bs all _ us e = cc
