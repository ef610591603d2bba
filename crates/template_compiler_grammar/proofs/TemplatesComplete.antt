-- What the grammar reads is read with the places that the grammar has for it.
use Rattle.std.proofs.Common.{◌≡◌, ℕ, suc, ◌<◌, Bool, true, false, if◌then◌else◌, List, [], ◌∷◌, ◌++◌, codes, None, Ok, Err, refl, sym, ◌∙◌, ap, arith, lit<, length}
use Rattle.std.specs.Prelude.{bytes_eq}
use Rattle.std.proofs.lemmas.Slice.Eq.{bytes_eq-Decides}
use Rattle.template_compiler_tree.specs.declared.span.Span.{Span}
use Rattle.template_compiler_tree.specs.Tree.{Expression, Optional, absent, given, Expressions, no_expressions, Statement, macro, call_block, Statements, call, Assignments, Imports, no_imports, if_condition}
use Rattle.template_compiler_tree.specs.NodePlaces.{Places, at, Parts, no_parts, parts_more, one, and_parts}
use Rattle.template_compiler_tokens.specs.Places.{next_span, stretch}
use Rattle.template_compiler_tokens.specs.Token.{Token, bad_syntax, variable_end, block_end, identifier, symbol, dot, comma, assign, paren_open}
use Rattle.template_compiler_tokens.specs.Steps.{Read, goes, stops, and_then, all}
use Rattle.template_compiler_tokens.proofs.Loops.{then_goes, under_goes, Loops, loop_stops, loop_goes, all_of}
use Rattle.template_compiler_grammar.specs.Words.{is_word, begins_paren}
use Rattle.template_compiler_grammar.specs.Ends.{Behind}
use Rattle.template_compiler_grammar.specs.ReaderParts.{paren_end}
use Rattle.template_compiler_grammar.specs.Grammar.{IsFilterChain, chain_end, chain_more}
use Rattle.template_compiler_grammar.proofs.Shrinks.{expression_shrinks}
use Rattle.template_compiler_grammar.specs.DerivedNodes.{and_place, PairedPlaces}
use Rattle.template_compiler_grammar.specs.DerivedExpressions.{expression_places, filter_places}
use Rattle.template_compiler_grammar.specs.DerivedParts.{alone_or, stored_places, path_places, more_places, target_places, targets_places, more_targets_places, value_places, values_places, assignment_places, assignments_places, loop_filter_places, import_places, parameter_places, parameters_places, optional_parameters_places}
use Rattle.template_compiler_grammar.specs.DerivedStatements.{BranchPlaces, branched_places, statements_places, statement_places, branches_places, else_places, template_places}
use Rattle.template_compiler_grammar.specs.Nodes.{Placed, placed, Node, no_node}
use Rattle.template_compiler_grammar.specs.Reader.{expression_at}
use Rattle.template_compiler_grammar.proofs.Complete.{expression_complete, condition_complete, filter_complete, filter_chain_complete}
use Rattle.template_compiler_grammar.specs.TemplateWords.{tag, opens, word}
use Rattle.template_compiler_grammar.specs.TemplateTrees.{Branches, and_branch, branched, Parameters, no_parameters}
use Rattle.template_compiler_grammar.specs.TemplateGrammar.{Around, IsStored, stored, IsPath, path_end, path_more, IsMore, more_end, more_next, IsTarget, name_target, path_target, paren_target, IsTargets, targets, IsMoreTargets, targets_end, targets_next, IsValue, value, IsValues, values, IsAssignment, assignment, IsAssignments, none_assigned, some_assigned, IsLoopFilter, no_loop_filter, a_loop_filter, IsWord, no_word, a_word, IsContext, no_context, with_context, IsMissing, not_ignored, ignored, IsImport, same_name, other_name, IsParameter, plain_parameter, default_parameter, IsParameters, none_declared, some_declared, IsOptionalParameters, not_declared, declared, IsBlockEnd, plain_end, named_end, IsStatements, statements_end, statements_next, IsStatement, text_statement, print_statement, for_statement, if_statement, with_statement, set_statement, set_block_statement, autoescape_statement, filter_statement, block_statement, import_statement, from_statement, extends_statement, include_statement, macro_statement, call_statement, do_statement, break_statement, continue_statement, IsBranches, branches_end, branches_next, IsElse, no_else, an_else, IsTemplate, whole_template}
use Rattle.template_compiler_grammar.specs.TemplateReaderParts.{expect_word, expect_assign, print_end, tag_end, expect_tag, more_step, word_by, context_by, missing_behind, missing_by, begins_values, end_name_by, block_end_by, only_call, opening}
use Rattle.template_compiler_grammar.proofs.TemplateShrinks.{target_shrinks, value_shrinks, assignment_shrinks, import_shrinks, parameter_shrinks, statement_shrinks, statements_within}
use Rattle.template_compiler_grammar.specs.TemplateNodes.{no_placed_assignments, PlacedImports, and_placed_import, PlacedParameters, no_placed_parameters, and_placed_plain, PlacedStatements, no_placed_statements, and_placed_statement, PlacedBranches, branched_at}
use Rattle.template_compiler_grammar.specs.TemplateReader.{Here, path_step, stored_by, path_by, target_by, one_target_by, more_targets_by, targets_by, inner_targets, value_by, values_by, assignment_by, assignments_by, loop_filter_by, alias_by, import_by, default_by, parameter_by, parameters_by, optional_parameters_by, body_by, else_by, for_body, for_in, for_by, branch_by, branch_step, if_by, with_by, set_values, set_body, set_behind, set_by, autoescape_by, filter_block_by, block_body, block_by, import_statement_by, from_by, extends_by, include_by, macro_by, call_body, call_by, do_by, in_loop, opened_by, opened_step, print_by, statement_step, statements_by, deeper_parameters, here_by, deeper_body, here, statements_at, template_behind, whole, template_of}

-- no comma is next
abbrev begins_comma : List Token → Bool
begins_comma (symbol comma ∷ ts) = true
begins_comma _ = false

more_stops : {A : Type 0} (read : A → List Token → Read A) (a : A) (ts : List Token) → begins_comma ts ≡ false → more_step read a ts ≡ stops
unfolding more_step
more_stops read a (symbol comma ∷ ts) h = cc
more_stops read a _ h = refl

-- lists whose items are read one by one, where what stands behind an item is fine
module _ (A P : Type 0) (item : A → List Token → A → List Token → Type 0)
    (put : (a b : A) (ts us : List Token) → P → item a ts b us → P) (read : Placed A P → List Token → Read (Placed A P))
    (Fine : List Token → Type 0) (comma_fine : (ts : List Token) → Fine (symbol comma ∷ ts))
    (item_read : (a b : A) (ts us : List Token) (places : P) (i : item a ts b us) → Fine us →
    read (placed a places) ts ≡ Ok (placed b (put a b ts us places i), us))
    (item_shrinks : (a b : A) (ts us : List Token) → item a ts b us → length us < length ts) where
  more_front : {a b : A} {ts us : List Token} → IsMore item a ts b us → Fine us → Fine ts
  more_front more_end h = h
  more_front (more_next i m) h = comma_fine _

  more_loop : {a b : A} {ts us : List Token} (places : P) → (m : IsMore item a ts b us) → Fine us → begins_comma us ≡ false →
      Loops (more_step read) (placed a places) ts (Ok (placed b (more_places put places m), us))
  unfolding more_step
  more_loop places (more_end {ts = ts}) h c = loop_stops (more_stops read _ ts c)
  more_loop places (more_next i m) h c =
      let l = item_shrinks _ _ _ _ i in
      loop_goes (under_goes _ (item_read _ _ _ _ places i (more_front m h)) refl) (omega arith) (more_loop _ m h c)

-- a target does not begin where a path goes on
abbrev begins_dot : List Token → Bool
begins_dot (symbol dot ∷ ts) = true
begins_dot _ = false

more_targets_front : {dots : Bool} {d : ℕ} {es fs : Expressions} {ts us : List Token} → IsMoreTargets dots d es ts fs us →
    begins_dot us ≡ false → begins_dot ts ≡ false
more_targets_front targets_end h = h
more_targets_front (targets_next t m) h = refl

-- words that may stand
word_front : {b : Bool} {ts us : List Token} → IsWord (codes "recursive") ts b (block_end ∷ us) → Behind 10 ts
word_front no_word = lit< tt
word_front a_word = lit< tt

recursive_read : {b : Bool} {ts us : List Token} → IsWord (codes "recursive") ts b (block_end ∷ us) →
    word_by (codes "recursive") ts ≡ Ok (b, block_end ∷ us)
unfolding word_by
recursive_read no_word = refl
recursive_read a_word = refl

required_read : {b : Bool} {ts us : List Token} → IsWord (codes "required") ts b (block_end ∷ us) →
    word_by (codes "required") ts ≡ Ok (b, block_end ∷ us)
unfolding word_by
required_read no_word = refl
required_read a_word = refl

loop_filter_front : {d : ℕ} {f : Optional} {b : Bool} {ts us vs : List Token} → IsLoopFilter d ts f us →
    IsWord (codes "recursive") us b (block_end ∷ vs) → Behind 9 ts
loop_filter_front no_loop_filter no_word = lit< tt
loop_filter_front no_loop_filter a_word = lit< tt
loop_filter_front (a_loop_filter e) w = lit< tt

context_read : {A : Type 0} (a : A) {ts us : List Token} → IsContext ts (block_end ∷ us) → context_by a ts ≡ Ok (a, block_end ∷ us)
unfolding context_by expect_word
context_read a no_context = refl
context_read a with_context = refl

missing_front : {b : Bool} {ts us : List Token} → IsMissing ts b (block_end ∷ us) → Behind 10 ts
missing_front (not_ignored no_context) = lit< tt
missing_front (not_ignored with_context) = lit< tt
missing_front (ignored no_context e) = lit< tt
missing_front (ignored with_context e) = lit< tt

missing_read : {b : Bool} {ts us : List Token} → IsMissing ts b (block_end ∷ us) → missing_by ts ≡ Ok (b, block_end ∷ us)
unfolding missing_by missing_behind word_by context_by expect_word and_then
missing_read (not_ignored no_context) = refl
missing_read (not_ignored with_context) = refl
missing_read (ignored no_context e) = context_read true e
missing_read (ignored with_context e) = context_read true e

-- imported names
abbrev begins_as : List Token → Bool
begins_as [] = false
begins_as (t ∷ ts) = is_word (codes "as") t

context_no_alias : {ts us : List Token} → IsContext ts (block_end ∷ us) → begins_as ts ≡ false
context_no_alias no_context = refl
context_no_alias with_context = refl

context_no_comma : {ts us : List Token} → IsContext ts (block_end ∷ us) → begins_comma ts ≡ false
context_no_comma no_context = refl
context_no_comma with_context = refl

-- parameters: neither a default nor more of one is next
abbrev begins_assign : List Token → Bool
begins_assign (symbol assign ∷ ts) = true
begins_assign _ = false

abbrev EndsParameter : List Token → Type 0
EndsParameter ts = (begins_assign ts ≡ false) × Behind 10 ts

block_end_read : {A : Type 0} {n : List ℕ} {ts us : List Token} (a : A) → bytes_eq n n ≡ true → IsBlockEnd n ts us →
    block_end_by n a ts ≡ Ok (a, us)
unfolding block_end_by expect_word end_name_by tag_end and_then
block_end_read a e plain_end = refl
block_end_read a e named_end = rw e refl

-- the word ends a part of a statement
record IsEnd (end : List ℕ) : Type 0 where
  is_same : bytes_eq end end ≡ true
  no_opening : opening end ≡ None
  not_elif : bytes_eq (codes "elif") end ≡ false
  not_else : bytes_eq (codes "else") end ≡ false

end_for : IsEnd (codes "endfor")
end_for = record { is_same = refl; no_opening = refl; not_elif = refl; not_else = refl }

end_if : IsEnd (codes "endif")
end_if = record { is_same = refl; no_opening = refl; not_elif = refl; not_else = refl }

tag_read : {A : Type 0} (end : List ℕ) (a : A) (ts : List Token) → bytes_eq end end ≡ true → expect_tag end a (tag end ts) ≡ Ok (a, ts)
unfolding expect_tag expect_word tag_end and_then
tag_read end a ts e = rw e refl

set_values_next : {dots : Bool} {d : ℕ} {es fs : Expressions} {ts us : List Token} → IsMoreTargets dots d es ts fs (symbol assign ∷ us) →
    begins_values ts ≡ true
set_values_next targets_end = refl
set_values_next (targets_next t m) = refl

chain_next : {d : ℕ} {v all : Optional} {ts us : List Token} → IsFilterChain d v ts all (block_end ∷ us) →
    (begins_values ts ≡ false) × (begins_dot ts ≡ false)
chain_next chain_end = (refl, refl)
chain_next (chain_more f c) = (refl, refl)

abbrev unless : {A : Type 0} → Bool → Read A → Read A
unless b m = if b then Err bad_syntax else m

bytes_same : (n : List ℕ) → bytes_eq n n ≡ true
bytes_same n = (bytes_eq-Decides n n).1 refl

module _ (spans : List Span) where
  -- targets
  stored_read : {e : Expression} {ts us : List Token} → (read : IsStored ts e us) →
      stored_by spans ts ≡ Ok (placed e (stored_places spans read), us)
  unfolding stored_by
  stored_read (stored {n = n} {ts = ts} e) = rw e refl

  path_stops : (start : Span) (e : Node) (ts : List Token) → begins_dot ts ≡ false → path_step spans start e ts ≡ stops
  unfolding path_step
  path_stops start e (symbol dot ∷ ts) h = cc
  path_stops start e _ h = refl

  path_read : {e f : Expression} {ts us : List Token} (from : List Token) (places : Places) → (read : IsPath e ts f us) →
      begins_dot us ≡ false →
      Loops (path_step spans (next_span spans from)) (placed e places) ts (Ok (placed f (path_places spans from places read), us))
  unfolding path_step
  path_read from places (path_end {ts = ts}) h = loop_stops (path_stops (next_span spans from) _ ts h)
  path_read from places (path_more p) h = loop_goes refl (omega arith) (path_read from _ p h)

  stored_target : (dots : Bool) (inner : List Token → Read Node) {e : Expression} {ts us : List Token} → IsStored ts e us →
      target_by spans dots inner ts ≡ and_then (stored_by spans ts) (path_by spans dots (next_span spans ts))
  unfolding target_by
  stored_target dots inner (stored e) = refl

  mutual
    unfolding target_by path_by paren_end one_target_by more_targets_by targets_by inner_targets more_step

    target_read : {dots : Bool} {d : ℕ} {e : Expression} {ts us : List Token} → (read : IsTarget dots d ts e us) → begins_dot us ≡ false →
        target_by spans dots (inner_targets spans dots d) ts ≡ Ok (placed e (target_places spans read), us)
    target_read (name_target {d = d} e s) h =
        stored_target _ (inner_targets spans _ d) s ∙ then_goes _ (stored_read s) (rw e refl)
    target_read (path_target {d = d} {ts = ts} e s p) h =
        stored_target _ (inner_targets spans _ d) s ∙ then_goes _ (stored_read s) (rw e (all_of (path_read ts (stored_places spans s) p h)))
    target_read (paren_target t) h = then_goes _ (targets_read t refl refl) refl

    targets_read : {dots : Bool} {d : ℕ} {e : Expression} {ts us : List Token} → (read : IsTargets dots d ts e us) →
        begins_dot us ≡ false → begins_comma us ≡ false →
        targets_by spans dots (inner_targets spans dots d) ts ≡ Ok (placed e (targets_places spans read), us)
    targets_read (targets {ts = ts} {vs = vs} t m e) h c =
        then_goes _ (target_read t (more_targets_front m h))
        (then_goes _ (all_of (more_targets_read (one (target_places spans t)) m h c))
        (ap (λ x. Ok (placed x (alone_or (stretch spans ts vs) (more_targets_places spans (one (target_places spans t)) m)), vs)) (sym e)))

    more_targets_read : {dots : Bool} {d : ℕ} {es fs : Expressions} {ts us : List Token} (places : Parts) →
        (read : IsMoreTargets dots d es ts fs us) → begins_dot us ≡ false → begins_comma us ≡ false →
        Loops (more_step (one_target_by spans dots (inner_targets spans dots d))) (placed es places) ts
        (Ok (placed fs (more_targets_places spans places read), us))
    more_targets_read {dots = dots} places (targets_end {d = d} {ts = ts}) h c =
        loop_stops (more_stops (one_target_by spans dots (inner_targets spans dots d)) _ ts c)
    more_targets_read places (targets_next t m) h c =
        let l = target_shrinks t in
        loop_goes (under_goes _ (then_goes _ (target_read t (more_targets_front m h)) refl) refl) (omega arith) (more_targets_read _ m h c)

  -- values
  value_read : (d : ℕ) (es fs : Expressions) (ts us : List Token) (places : Parts) → (read : IsValue d es ts fs us) → Behind 10 us →
      value_by spans (expression_at spans d) (placed es places) ts ≡ Ok (placed fs (value_places spans places read), us)
  unfolding value_by
  value_read d es fs ts us places (value {e = e} x f) h =
      then_goes _ (expression_complete spans d ts us e x h)
      (ap (λ y. Ok (placed y (and_place places (expression_places spans x)), us)) (sym f))

  values_read : {d : ℕ} {e : Expression} {ts us : List Token} → (read : IsValues d ts e us) → Behind 10 us → begins_comma us ≡ false →
      values_by spans (expression_at spans d) ts ≡ Ok (placed e (values_places spans read), us)
  unfolding values_by
  values_read (values {d = d} {es = es} {ts = ts} {us = us} {vs = vs} v m e) h c =
      then_goes _ (value_read d _ es ts us no_parts v
      (more_front Expressions Parts (IsValue d) (λ a b ts us ps x. value_places spans ps x) (value_by spans (expression_at spans d))
      (Behind 10) (λ x. lit< tt) (value_read d) (λ a b ts us i. value_shrinks i) m h))
      (then_goes _ (all_of (more_loop Expressions Parts (IsValue d) (λ a b ts us ps x. value_places spans ps x)
      (value_by spans (expression_at spans d)) (Behind 10) (λ x. lit< tt) (value_read d) (λ a b ts us i. value_shrinks i)
      (value_places spans no_parts v) m h c))
      (ap (λ x. Ok (placed x (values_places spans (values v m e)), vs)) (sym e)))

  -- assignments
  assignment_read : (d : ℕ) (gs hs : Assignments) (ts us : List Token) (places : Parts) → (read : IsAssignment d gs ts hs us) →
      Behind 10 us →
      assignment_by spans (here spans d) (placed gs places) ts ≡ Ok (placed hs (assignment_places spans places read), us)
  unfolding assignment_by here here_by expect_assign
  assignment_read d gs hs ts us places (assignment {e = e} {us = ws} t x f) h =
      then_goes _ (target_read t refl) (then_goes _ refl (then_goes _ (expression_complete spans d ws us e x h)
      (ap (λ y. Ok (placed y (and_parts places (parts_more (target_places spans t) (one (expression_places spans x)))), us)) (sym f))))

  assignments_open : (r : Here) {d : ℕ} {gs hs : Assignments} {ts us : List Token} → IsAssignment d gs ts hs us →
      assignments_by spans r ts ≡ and_then (assignment_by spans r no_placed_assignments ts) (all (more_step (assignment_by spans r)))
  unfolding assignments_by
  assignments_open r (assignment (name_target e (stored f)) x g) = refl
  assignments_open r (assignment (path_target e (stored f) p) x g) = refl
  assignments_open r (assignment (paren_target t) x g) = refl

  assignments_read : {d : ℕ} {gs : Assignments} {ts us : List Token} → (read : IsAssignments d ts gs (block_end ∷ us)) →
      assignments_by spans (here spans d) ts ≡ Ok (placed gs (assignments_places spans read), block_end ∷ us)
  unfolding assignments_by
  assignments_read none_assigned = refl
  assignments_read (some_assigned {d = d} {gs = gs} {ts = ts} {us = us} a m) =
      assignments_open (here spans d) a ∙
      then_goes _ (assignment_read d _ gs ts us no_parts a
      (more_front Assignments Parts (IsAssignment d) (λ a b ts us ps x. assignment_places spans ps x)
      (assignment_by spans (here spans d)) (Behind 10) (λ x. lit< tt) (assignment_read d) (λ a b ts us i. assignment_shrinks i) m
      (lit< tt)))
      (all_of (more_loop Assignments Parts (IsAssignment d) (λ a b ts us ps x. assignment_places spans ps x)
      (assignment_by spans (here spans d)) (Behind 10) (λ x. lit< tt) (assignment_read d) (λ a b ts us i. assignment_shrinks i)
      (assignment_places spans no_parts a) m (lit< tt) refl))

  loop_filter_read : {d : ℕ} {f : Optional} {b : Bool} {ts us vs : List Token} → (read : IsLoopFilter d ts f us) →
      IsWord (codes "recursive") us b (block_end ∷ vs) →
      loop_filter_by spans (expression_at spans d) ts ≡ Ok (placed f (loop_filter_places spans read), us)
  unfolding loop_filter_by
  loop_filter_read no_loop_filter no_word = refl
  loop_filter_read no_loop_filter a_word = refl
  loop_filter_read (a_loop_filter {d = d} {e = e} {ts = ts} {us = us} x) w =
      then_goes _ (expression_complete spans d ts us e x (word_front w)) refl

  -- imported names
  alias_left_out : (is : PlacedImports) (n : Node) (ts : List Token) → begins_as ts ≡ false →
      alias_by spans is n ts ≡ Ok (and_placed_import is n no_node, ts)
  unfolding alias_by
  alias_left_out is n [] h = refl
  alias_left_out is n (t ∷ ts) h = rw h refl

  import_read : (is js : Imports) (ts us : List Token) (places : Parts) → (read : IsImport is ts js us) → begins_as us ≡ false →
      import_by spans (placed is places) ts ≡ Ok (placed js (import_places spans places read), us)
  unfolding import_by alias_by
  import_read is js ts us places (same_name s e) h =
      then_goes _ (stored_read s) (alias_left_out _ _ us h ∙ ap (λ x. Ok (placed x (and_place places (stored_places spans s)), us)) (sym e))
  import_read is js ts us places (other_name s a e) h =
      then_goes _ (stored_read s) (then_goes _ (stored_read a)
      (ap (λ x. Ok (placed x (and_parts places (parts_more (stored_places spans s) (one (stored_places spans a)))), us)) (sym e)))

  imports_read : {is js : Imports} {ts us vs : List Token} (places : Parts) → (m : IsMore IsImport is ts js us) →
      IsContext us (block_end ∷ vs) →
      Loops (more_step (import_by spans)) (placed is places) ts
      (Ok (placed js (more_places (λ a b ts us ps x. import_places spans ps x) places m), us))
  imports_read places m c =
      more_loop Imports Parts IsImport (λ a b ts us ps x. import_places spans ps x) (import_by spans) (λ ts. begins_as ts ≡ false)
      (λ x. refl) import_read (λ a b ts us i. import_shrinks i) places m
      (context_no_alias c) (context_no_comma c)

  imports_front : {is js : Imports} {ts us vs : List Token} → IsMore IsImport is ts js us → IsContext us (block_end ∷ vs) →
      begins_as ts ≡ false
  imports_front m c =
      more_front Imports Parts IsImport (λ a b ts us ps x. import_places spans ps x) (import_by spans) (λ ts. begins_as ts ≡ false)
      (λ x. refl) import_read (λ a b ts us i. import_shrinks i) m (context_no_alias c)

  -- parameters
  plain_left : (read : List Token → Read Node) (p : PlacedParameters) (a : Node) (ts : List Token) → begins_assign ts ≡ false →
      p.tree.1 ≡ no_expressions → default_by spans read p a ts ≡ Ok (and_placed_plain p a, ts)
  unfolding default_by
  plain_left read p a (symbol assign ∷ ts) h e = cc
  plain_left read p a _ h e = rw e refl

  parameter_read : (d : ℕ) (p q : Parameters) (ts us : List Token) (places : PairedPlaces) → (read : IsParameter d p ts q us) →
      EndsParameter us →
      parameter_by spans (expression_at spans d) (placed p places) ts ≡ Ok (placed q (parameter_places spans places read), us)
  unfolding parameter_by default_by
  parameter_read d p q ts us places (plain_parameter s e f) h =
      then_goes _ (stored_read s) (plain_left (expression_at spans d) _ _ us h.0 e ∙
      ap (λ x. Ok (placed x (and_place places.0 (stored_places spans s), places.1), us)) (sym f))
  parameter_read d p q ts us places (default_parameter {e = e} {us = ws} s x f) h =
      then_goes _ (stored_read s) (then_goes _ (expression_complete spans d ws us e x h.1)
      (ap (λ y. Ok (placed y (and_place places.0 (stored_places spans s), and_place places.1 (expression_places spans x)), us)) (sym f)))

  parameters_open : (read : List Token → Read Node) {d : ℕ} {p q : Parameters} {ts us : List Token} → IsParameter d p ts q us →
      parameters_by spans read ts ≡
      and_then (parameter_by spans read no_placed_parameters ts)
      (λ p us. and_then (all (more_step (parameter_by spans read)) p us) paren_end)
  unfolding parameters_by
  parameters_open read (plain_parameter (stored f) e g) = refl
  parameters_open read (default_parameter (stored f) x g) = refl

  -- the arguments' places, and those of the defaults
  abbrev declared_places : {d : ℕ} {ts us : List Token} {p : Parameters} → IsParameters d ts p us → PairedPlaces
  declared_places (none_declared is) = (no_parts, no_parts)
  declared_places (some_declared first more) =
      more_places (λ a b ts us ps x. parameter_places spans ps x) (parameter_places spans (no_parts, no_parts) first) more

  abbrev optional_declared_places : {d : ℕ} {ts us : List Token} {p : Parameters} → IsOptionalParameters d ts p us → PairedPlaces
  optional_declared_places (not_declared none is) = (no_parts, no_parts)
  optional_declared_places (declared parameters) = declared_places parameters

  declared_in_row : {d : ℕ} {ts us : List Token} {p : Parameters} → (read : IsParameters d ts p us) →
      and_parts (declared_places read).0 (declared_places read).1 ≡ parameters_places spans read
  declared_in_row (none_declared is) = refl
  declared_in_row (some_declared first more) = refl

  optional_in_row : {d : ℕ} {ts us : List Token} {p : Parameters} → (read : IsOptionalParameters d ts p us) →
      and_parts (optional_declared_places read).0 (optional_declared_places read).1 ≡ optional_parameters_places spans read
  optional_in_row (not_declared none is) = refl
  optional_in_row (declared parameters) = declared_in_row parameters

  parameters_read : {d : ℕ} {p : Parameters} {ts us : List Token} → (read : IsParameters d ts p us) →
      parameters_by spans (expression_at spans d) ts ≡ Ok (placed p (declared_places read), us)
  unfolding parameters_by paren_end
  parameters_read (none_declared {ts = ts} e) = ap (λ x. Ok (placed x (no_parts, no_parts), ts)) (sym e)
  parameters_read (some_declared {d = d} {p = p} {ts = ts} {us = us} a m) =
      parameters_open (expression_at spans d) a ∙
      then_goes _ (parameter_read d no_parameters p ts us (no_parts, no_parts) a
      (more_front Parameters PairedPlaces (IsParameter d) (λ a b ts us ps x. parameter_places spans ps x)
      (parameter_by spans (expression_at spans d)) EndsParameter (λ x. (refl, lit< tt)) (parameter_read d)
      (λ a b ts us i. parameter_shrinks i) m (refl, lit< tt)))
      (then_goes _
      (all_of (more_loop Parameters PairedPlaces (IsParameter d) (λ a b ts us ps x. parameter_places spans ps x)
      (parameter_by spans (expression_at spans d)) EndsParameter (λ x. (refl, lit< tt)) (parameter_read d)
      (λ a b ts us i. parameter_shrinks i) (parameter_places spans (no_parts, no_parts) a) m (refl, lit< tt) refl))
      refl)

  no_parameters_by : (r : Here) (ts : List Token) → begins_paren ts ≡ false →
      optional_parameters_by spans r ts ≡ Ok (no_placed_parameters, ts)
  unfolding optional_parameters_by
  no_parameters_by r (symbol paren_open ∷ ts) h = cc
  no_parameters_by r _ h = refl

  optional_parameters_read : {d : ℕ} {p : Parameters} {ts us : List Token} → (read : IsOptionalParameters d ts p us) →
      optional_parameters_by spans (here spans d) ts ≡ Ok (placed p (optional_declared_places read), us)
  unfolding optional_parameters_by here here_by deeper_parameters
  optional_parameters_read (not_declared {d = d} {ts = ts} e f) =
      no_parameters_by (here spans d) ts e ∙ ap (λ x. Ok (placed x (no_parts, no_parts), ts)) (sym f)
  optional_parameters_read (declared p) = parameters_read p

  -- no statement begins here
  abbrev Stopped : List Token → Type 0
  Stopped ts = (r : Here) (p : Around) (ss : PlacedStatements) → statement_step spans r p ss ts ≡ stops

  tag_stopped : (end : List ℕ) (ts : List Token) → opening end ≡ None → Stopped (tag end ts)
  unfolding statement_step opened_step
  tag_stopped end ts e r p ss = ap (λ o. opened_step spans r p (next_span spans (tag end ts)) ss o (block_end ∷ ts)) e

  else_stopped : (ts : List Token) → Stopped (tag (codes "else") ts)
  unfolding statement_step opened_step
  else_stopped ts r p ss = refl

  elif_stopped : (ts : List Token) → Stopped (opens (codes "elif") ts)
  unfolding statement_step opened_step
  elif_stopped ts r p ss = refl

  block_end_stopped : {n : List ℕ} {ts us : List Token} → IsBlockEnd n ts us → Stopped ts
  unfolding statement_step opened_step
  block_end_stopped plain_end r p ss = refl
  block_end_stopped named_end r p ss = refl

  nothing_stopped : Stopped []
  unfolding statement_step
  nothing_stopped r p ss = refl

  else_front : {d : ℕ} {p : Around} {end : List ℕ} {body : Statements} {ts us : List Token} → IsEnd end → IsElse d p end ts body us →
      Stopped ts
  else_front {end = end} k (no_else {ts = ts}) = tag_stopped end ts k.no_opening
  else_front k (an_else {ts = ts} b) = else_stopped ts

  branches_front : {d : ℕ} {p : Around} {bs cs : Branches} {ts us : List Token} → IsBranches d p bs ts cs us → Stopped us → Stopped ts
  branches_front branches_end h = h
  branches_front (branches_next {ts = ts} e b bs) h = elif_stopped ts

  -- no `elif` is next
  no_branch : {d : ℕ} {p : Around} {end : List ℕ} {body : Statements} {ts us : List Token} (r : Here) (q : Around) (bs : PlacedBranches) →
      IsEnd end → IsElse d p end ts body us → branch_step spans r q bs ts ≡ stops
  unfolding branch_step
  no_branch r q bs k (no_else {ts = ts}) = rw k.not_elif refl
  no_branch r q bs k (an_else b) = refl

  no_else_read : (r : Here) (p : Around) (end : List ℕ) (ts : List Token) → IsEnd end →
      else_by spans r p end (tag end ts) ≡ Ok (no_placed_statements, ts)
  unfolding else_by
  no_else_read r p end ts k = rw k.not_else (tag_read end no_placed_statements ts k.is_same)

  set_behind_values : (r : Here) (p : Around) (start first : Span) (t : Node) (ts : List Token) → begins_values ts ≡ true →
      set_behind spans r p start first t ts ≡
      and_then (more_targets_by spans true (r.inner true) first t ts) (λ u us. and_then (expect_assign u us) (set_values spans r start))
  unfolding set_behind
  set_behind_values r p start first t ts e = rw e refl

  set_behind_body : (r : Here) (p : Around) (start first : Span) (t : Node) (ts : List Token) → begins_values ts ≡ false →
      set_behind spans r p start first t ts ≡ set_body spans r p start t ts
  unfolding set_behind
  set_behind_body r p start first t ts e = rw e refl

  block_opens : (r : Here) (p : Around) (start : Span) (n : List ℕ) (ts : List Token) → p.macro ≡ false →
      block_by spans r p start (identifier n ∷ ts) ≡ and_then (word_by (codes "required") ts) (block_body spans r p start n)
  unfolding block_by
  block_opens r p start n ts e = ap (λ b. unless b (and_then (word_by (codes "required") ts) (block_body spans r p start n))) e

  -- where branches start
  abbrev starts : BranchPlaces → List (Span × Parts)
  starts [] = []
  starts (b ∷ bs) = (next_span spans b.0, b.1) ∷ starts bs

  starts_more : (bs : BranchPlaces) (ts : List Token) (parts : Parts) →
      starts bs ++ (next_span spans ts, parts) ∷ [] ≡ starts (bs ++ (ts, parts) ∷ [])
  starts_more [] ts parts = refl
  starts_more (b ∷ bs) ts parts = ap (λ cs. (next_span spans b.0, b.1) ∷ cs) (starts_more bs ts parts)

  branched_same : (from behind : List Token) (bs : BranchPlaces) (last : Parts) →
      branched_at (stretch spans from behind) (starts bs) last ≡ branched_places spans behind bs last
  branched_same from behind [] last = refl
  branched_same from behind (b ∷ bs) last =
      ap (λ ps. one (at (stretch spans b.0 behind) (and_parts b.1 ps))) (branched_same from behind bs last)

  mutual
    unfolding here here_by deeper_body statements_by statement_step opened_step opened_by print_by tag_end print_end expect_word expect_assign for_by for_in for_body if_by branch_by branch_step with_by body_by set_by set_values set_body more_targets_by autoescape_by filter_block_by block_body import_statement_by from_by extends_by include_by macro_by deeper_parameters call_by call_body only_call do_by in_loop else_by expect_tag

    statements_read : {d : ℕ} {p : Around} {ss all : Statements} {ts us : List Token} (places : Parts) →
        (read : IsStatements d p ss ts all us) → Stopped us →
        Loops (statement_step spans (here spans d) p) (placed ss places) ts (Ok (placed all (statements_places spans places read), us))
    statements_read places (statements_end {d = d} {p = p}) h = loop_stops (h (here spans d) p _)
    statements_read places (statements_next s b) h =
        let l = statement_shrinks s in loop_goes (statement_read s _) (omega arith) (statements_read _ b h)

    else_read : {d : ℕ} {p : Around} {end : List ℕ} {body : Statements} {ts us : List Token} → IsEnd end →
        (read : IsElse d p end ts body us) →
        else_by spans (here spans (suc d)) p end ts ≡ Ok (placed body (else_places spans read), us)
    else_read {end = end} k (no_else {d = d} {p = p} {ts = ts}) = no_else_read (here spans (suc d)) p end ts k
    else_read {end = end} k (an_else {ts = ts} {us = us} b) =
        then_goes _ (tag_read (codes "else") false ts refl)
        (then_goes _ (all_of (statements_read no_parts b (tag_stopped end us k.no_opening))) (tag_read end _ us k.is_same))

    branches_read : {d : ℕ} {p q : Around} {bs cs : Branches} {end : List ℕ} {other : Statements} {ts us vs : List Token}
        (places : BranchPlaces) →
        (read : IsBranches d p bs ts cs us) → IsEnd end → IsElse d q end us other vs →
        Loops (branch_step spans (here spans (suc d)) p) (placed bs (starts places)) ts
        (Ok (placed cs (starts (branches_places spans places read)), us))
    branches_read places (branches_end {d = d} {p = p}) k o = loop_stops (no_branch (here spans (suc d)) p _ k o)
    branches_read places (branches_next {d = d} {p = p} {c = c} {body = body} {bs = ds} {ts = ts} {us = us} {vs = vs} e b bs) k o =
        let l = statements_within b in let m = expression_shrinks e in
        loop_goes
        (under_goes _ (then_goes _ (expression_complete spans (suc d) ts (block_end ∷ us) c e (lit< tt))
        (then_goes _ refl (then_goes _ (all_of (statements_read no_parts b (branches_front bs (else_front k o)))) refl)))
        (ap (λ ps. goes (placed (and_branch ds c body) ps) vs)
        (starts_more places (opens (codes "elif") ts) (parts_more (expression_places spans e) (statements_places spans no_parts b)))))
        (omega arith) (branches_read _ bs k o)

    statement_read : {d : ℕ} {p : Around} {s : Statement} {ts us : List Token} → (read : IsStatement d p ts s us) →
        (ss : PlacedStatements) →
        statement_step spans (here spans d) p ss ts ≡ goes (and_placed_statement ss (placed s (statement_places spans read))) us
    statement_read text_statement ss = refl
    statement_read (print_statement {d = d} {e = e} {ts = ts} {us = us} x) ss =
        under_goes _ (then_goes _ (expression_complete spans d ts (variable_end ∷ us) e x (lit< tt)) (then_goes _ refl refl)) refl
    statement_read (for_statement {d = d} {i = i} {us = us} {vs = vs} t x f w b e) ss =
        under_goes _
        (then_goes _ (targets_read t refl refl)
        (then_goes _ refl
        (then_goes _ (condition_complete spans (suc d) us vs i x (loop_filter_front f w))
        (then_goes _ (loop_filter_read f w)
        (then_goes _ (recursive_read w)
        (then_goes _ refl
        (then_goes _ (all_of (statements_read no_parts b (else_front end_for e)))
        (then_goes _ (else_read end_for e) refl)))))))) refl
    statement_read (if_statement {d = d} {c = c} {bs = cs} {body = body} {other = other} {ts = ts} {us = us} {xs = xs} e b bs o f) ss =
        under_goes _
        (then_goes _ (then_goes _ (expression_complete spans (suc d) ts (block_end ∷ us) c e (lit< tt))
        (then_goes _ refl (then_goes _ (all_of (statements_read no_parts b (branches_front bs (else_front end_if o)))) refl)))
        (then_goes _ (all_of (branches_read [] bs end_if o))
        (then_goes _ (else_read end_if o)
        (ap (λ ps. Ok (
          placed (if_condition c body (branched cs other)) (at (stretch spans (opens (codes "if") ts) xs)
              (parts_more (expression_places spans e) (and_parts (statements_places spans no_parts b) ps))),
          xs,
        ))
        (branched_same (opens (codes "if") ts) xs (branches_places spans [] bs) (else_places spans o)) ∙
        ap (λ x. Ok (placed x (statement_places spans (if_statement e b bs o f)), xs)) (sym f))))) refl
    statement_read (with_statement {vs = vs} a b) ss =
        under_goes _
        (then_goes _ (assignments_read a) (then_goes _ refl
        (then_goes _ (all_of (statements_read no_parts b (tag_stopped (codes "endwith") vs refl)))
        (then_goes _ (tag_read (codes "endwith") _ vs refl) refl)))) refl
    statement_read (set_statement {d = d} {p = p} {ts = ts} {us = xs} (targets {us = us} t m e) v) ss =
        under_goes _
        (then_goes _ (target_read t (more_targets_front m refl))
        (set_behind_values (here spans d) p _ _ _ us (set_values_next m) ∙
        then_goes _ (then_goes _ (all_of (more_targets_read (one (target_places spans t)) m refl refl))
        (ap (λ x. Ok (placed x (targets_places spans (targets t m e)), symbol assign ∷ xs)) (sym e)))
        (then_goes _ refl (then_goes _ (values_read v (lit< tt) refl) (then_goes _ refl refl))))) refl
    statement_read (set_block_statement {d = d} {p = p} {f = f} {us = us} {vs = vs} {ws = ws} x y b) ss =
        under_goes _
        (then_goes _ (target_read x (chain_next y).1)
        (set_behind_body (here spans (suc d)) p _ _ _ us (chain_next y).0 ∙
        then_goes _ (filter_chain_complete spans (suc d) absent f no_parts us (block_end ∷ vs) y (lit< tt))
        (then_goes _ refl (then_goes _ (all_of (statements_read no_parts b (tag_stopped (codes "endset") ws refl)))
        (then_goes _ (tag_read (codes "endset") _ ws refl) refl))))) refl
    statement_read (autoescape_statement {d = d} {e = e} {ts = ts} {us = us} {vs = vs} x b) ss =
        under_goes _
        (then_goes _ (expression_complete spans (suc d) ts (block_end ∷ us) e x (lit< tt))
        (then_goes _ refl (then_goes _ (all_of (statements_read no_parts b (tag_stopped (codes "endautoescape") vs refl)))
        (then_goes _ (tag_read (codes "endautoescape") _ vs refl) refl)))) refl
    statement_read (filter_statement {d = d} {e = e} {f = f} {ts = ts} {us = us} {vs = vs} {ws = ws} x y b) ss =
        under_goes _
        (then_goes _ (filter_complete spans (suc d) absent no_parts ts us e x)
        (then_goes _ (filter_chain_complete spans (suc d) (given e) (given f) (one (filter_places spans ts no_parts x)) us
        (block_end ∷ vs) y (lit< tt))
        (then_goes _ refl (then_goes _ (all_of (statements_read no_parts b (tag_stopped (codes "endfilter") ws refl)))
        (then_goes _ (tag_read (codes "endfilter") _ ws refl) refl))))) refl
    statement_read (block_statement {d = d} {p = p} {n = n} {ts = ts} e w b f g) ss =
        under_goes _
        (block_opens (here spans (suc d)) p _ n ts e ∙
        (then_goes _ (required_read w) (then_goes _ refl
        (then_goes _ (all_of (statements_read no_parts b (block_end_stopped g)))
        (rw f (then_goes _ (block_end_read _ (bytes_same n) g) refl)))))) refl
    statement_read (import_statement {d = d} {e = e} {ts = ts} {us = us} x a c) ss =
        under_goes _
        (then_goes _ (expression_complete spans d ts (word (codes "as") ∷ us) e x (lit< tt))
        (then_goes _ refl (then_goes _ (stored_read a) (then_goes _ (context_read _ c) (then_goes _ refl refl))))) refl
    statement_read (from_statement {d = d} {e = e} {is = is} {ts = ts} {us = us} {vs = vs} x i m c) ss =
        under_goes _
        (then_goes _ (expression_complete spans d ts (word (codes "import") ∷ us) e x (lit< tt))
        (then_goes _ refl (then_goes _ (import_read no_imports is us vs no_parts i (imports_front m c))
        (then_goes _ (all_of (imports_read (import_places spans no_parts i) m c))
        (then_goes _ (context_read _ c) (then_goes _ refl refl)))))) refl
    statement_read (extends_statement {d = d} {e = e} {ts = ts} {us = us} x) ss =
        under_goes _ (then_goes _ (expression_complete spans d ts (block_end ∷ us) e x (lit< tt)) (then_goes _ refl refl)) refl
    statement_read (include_statement {d = d} {e = e} {ts = ts} {us = us} x m) ss =
        under_goes _ (then_goes _ (expression_complete spans d ts us e x (missing_front m))
        (then_goes _ (missing_read m) (then_goes _ refl refl))) refl
    statement_read (macro_statement {p = p} {n = n} {q = w} {body = body} {ts = ts} {us = us} {vs = vs} e q b f) ss =
        under_goes _
        (rw e
        (then_goes _ (parameters_read q) (then_goes _ refl
        (then_goes _ (all_of (statements_read no_parts b (tag_stopped (codes "endmacro") vs refl)))
        (then_goes _ (tag_read (codes "endmacro") _ vs refl)
        (ap (λ ps. Ok (
          placed (macro n w.0 w.1 body) (at (stretch spans (opens (codes "macro") (identifier n ∷ symbol paren_open ∷ ts)) vs)
              (and_parts ps (statements_places spans no_parts b))),
          vs,
        )) (declared_in_row q) ∙
        ap (λ x. Ok (placed x (statement_places {p = p} spans (macro_statement e q b f)), vs)) (sym f))))))) refl
    statement_read (call_statement {d = d} {p = p} {q = w} {c = c} {args = args} {body = body} {ts = ts} {us = us} {vs = vs} {ws =
        ws} q x b f) ss =
        under_goes _
        (then_goes _ (optional_parameters_read q)
        (then_goes _ (expression_complete spans (suc d) us (block_end ∷ vs) (call c args) x (lit< tt))
        (then_goes _ refl
        (then_goes _ (all_of (statements_read no_parts b (tag_stopped (codes "endcall") ws refl)))
        (then_goes _ (tag_read (codes "endcall") _ ws refl)
        (ap (λ ps. Ok (
          placed (call_block c args w.0 w.1 body) (at (stretch spans (opens (codes "call") ts) ws) (parts_more (expression_places spans x)
              (one (at (stretch spans (opens (codes "call") ts) ws) (and_parts ps (statements_places spans no_parts b)))))),
          ws,
        )) (optional_in_row q) ∙
        ap (λ y. Ok (placed y (statement_places {p = p} spans (call_statement q x b f)), ws)) (sym f))))))) refl
    statement_read (do_statement {d = d} {c = c} {args = args} {ts = ts} {us = us} x) ss =
        under_goes _ (then_goes _ (expression_complete spans d ts (block_end ∷ us) (call c args) x (lit< tt)) (then_goes _ refl refl)) refl
    statement_read (break_statement e) ss = under_goes _ (rw e (then_goes _ refl refl)) refl
    statement_read (continue_statement e) ss = under_goes _ (rw e (then_goes _ refl refl)) refl

  pub template_complete : (ts : List Token) (ss : Statements) → (read : IsTemplate ts ss) →
      template_of spans ts ≡ Ok (placed ss (template_places spans read))
  unfolding template_of statements_at statements_by template_behind
  template_complete ts ss (whole_template b e) =
      ap (whole spans (next_span spans ts)) (all_of (statements_read no_parts b nothing_stopped)) ∙ rw e refl
