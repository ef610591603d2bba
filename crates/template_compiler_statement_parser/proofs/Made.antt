-- What is made of a head and of what is read behind it, and when that is refused.
use Rattle.std.proofs.Common.{◌≡◌, ℕ, Bool, true, false, codes, List, [], Result, Ok, Err, refl, sym, ap, ◌∙◌}
use Rattle.template_compiler_tree.specs.NodePlaces.{parts_more}
use Rattle.template_compiler_tree.specs.declared.span.Span.{Span}
use Rattle.template_compiler_tokens.specs.Token.{Token}
use Rattle.template_compiler_tokens.specs.Steps.{Read, and_then, all}
use Rattle.template_compiler_tokens.proofs.Loops.{all_stops, then_goes, then_fails}
use Rattle.template_compiler_stream.specs.declared.refusal.Refusal.{Refusal}
use Rattle.template_compiler_stream.specs.declared.refusal.Refusal.TheVariants as refusals
use Rattle.template_compiler_stream.specs.Refusals.{Refused}
use Rattle.template_compiler_grammar.specs.TemplateGrammar.{Around, loop_around}
use Rattle.template_compiler_grammar.specs.TemplateReaderParts.{begins_tag, expect_tag, tag_end}
use Rattle.template_compiler_grammar.specs.Nodes.{Node, OptionalNode, placed}
use Rattle.template_compiler_grammar.specs.Reader.{up_to}
use Rattle.template_compiler_grammar.specs.TemplateNodes.{PlacedBranch, PlacedBranches, PlacedStatement, PlacedStatements, branched_node, condition_node, for_node, no_placed_branches, no_placed_statements, set_block_node}
use Rattle.template_compiler_grammar.specs.TemplateReader.{Here, body_by, branch_by, branch_step, else_by, for_by, if_by, set_by}
use Rattle.template_compiler_statement_heads.specs.DeclarationHeads.{set_head, set_over, set_rest, set_whole}
use Rattle.template_compiler_statement_heads.specs.Heads.{expression_head, for_head, for_rest}
use Rattle.template_compiler_tree_statements.specs.declared.statements.Stmt.{Stmt}
use Rattle.template_compiler_stream.specs.Left.{passed}
use Rattle.template_compiler_statement_makers.specs.Listed.{statement_nodes_in}
use Rattle.template_compiler_statement_parts.specs.Parsed.{ParsedAs, ParsedInto, passing}
use Rattle.template_compiler_statement_parts.proofs.Again.{no_again, ok_again, tag_again, tag_end_again, unit}
use Rattle.template_compiler_statement_parser.specs.Bodies.{if_rest}
use Rattle.template_compiler_statement_parser.proofs.Next.{else_here, no_branch, no_else}
use Rattle.template_compiler_statement_parser.proofs.Wholes.{branch_whole, for_whole, set_whole_by}

-- what is behind a head
pub behind : {A H : Type 0} {w r : Read A} {m : Read H} (go : H → List Token → Read A) → w ≡ and_then m go →
    (h : H) (us : List Token) → m ≡ Ok (h, us) → go h us ≡ r → w ≡ r
behind go whole h us a b = whole ∙ then_goes go a b

pub head_fails : {A H : Type 0} {w : Read A} (m : Read H) (go : H → List Token → Read A) → w ≡ and_then m go →
    (e : Refusal) → Refused m e → Refused w e
head_fails m go whole refusals.OutOfMemory h = tt
head_fails m go whole (refusals.Token f) h = whole ∙ then_fails go h

pub behind_fails : {A H : Type 0} {w : Read A} {m : Read H} (go : H → List Token → Read A) → w ≡ and_then m go →
    (h : H) (us : List Token) → m ≡ Ok (h, us) → (e : Refusal) → Refused (go h us) e → Refused w e
behind_fails go whole h us a refusals.OutOfMemory b = tt
behind_fails go whole h us a (refusals.Token f) b = whole ∙ then_goes go a b

-- a body with its end, and what is made of it
then_then : {A B C : Type 0} (m : Read A) (f : A → List Token → Read B) (g : B → List Token → Read C) →
    and_then m (λ a us. and_then (f a us) g) ≡ and_then (and_then m f) g
unfolding and_then
then_then (Ok x) f g = refl
then_then (Err e) f g = refl

-- what stands from a start to where the reading is
stands_so : {A : Type 0} (make : Span → A) (spans now : List Span) (start stands : Span) (a : A) (new : List Token) → now ≡ spans →
    stands ≡ up_to now start new → a ≡ make stands → ◌≡◌ {A = Read A} (Ok (make (up_to spans start new), new)) (Ok (a, new))
stands_so make spans now start stands a new same e made =
    ap (λ a. Ok (a, new)) (sym (made ∙ ap make (e ∙ ap (λ spans. up_to spans start new) same)))

module _ (spans : List Span) (r : Here) (p : Around) (end : List ℕ) (start : Span) where
  body_is : (make : PlacedStatements → Span → PlacedStatement) (ts : List Token) →
      body_by spans r p end start make ts ≡
      and_then (and_then (r.body p ts) (expect_tag end)) (λ body us. Ok (make body (up_to spans start us), us))
  unfolding body_by
  body_is make ts = then_then (r.body p ts) (expect_tag end) (λ body us. Ok (make body (up_to spans start us), us))

  pub ended_made : (make : PlacedStatements → Span → PlacedStatement) (b : PlacedStatements) (ts new : List Token) (now : List Span)
      (stands : Span) (s : PlacedStatement) → and_then (r.body p ts) (expect_tag end) ≡ Ok (b, new) → now ≡ spans →
      stands ≡ up_to now start new → s ≡ make b stands → body_by spans r p end start make ts ≡ Ok (s, new)
  ended_made make b ts new now stands s body same e made =
      body_is make ts ∙ then_goes _ body (stands_so (make b) spans now start stands s new same e made)

  pub ended_fails : (make : PlacedStatements → Span → PlacedStatement) (ts : List Token) (e : Refusal) →
      Refused (and_then (r.body p ts) (expect_tag end)) e → Refused (body_by spans r p end start make ts) e
  ended_fails make ts e h = head_fails _ _ (body_is make ts) e h

  module _ {H : Type 0} {w : Read PlacedStatement} {m : Read H} (make : H → PlacedStatements → Span → PlacedStatement)
      (whole : w ≡ and_then m (λ h us. body_by spans r p end start (make h) us)) (h : H) (mid : List Token) (head : m ≡ Ok (h, mid)) where
    pub body_made : (b : PlacedStatements) (new : List Token) (now : List Span) (stands : Span) (s : PlacedStatement) →
        and_then (r.body p mid) (expect_tag end) ≡ Ok (b, new) → now ≡ spans → stands ≡ up_to now start new → s ≡ make h b stands →
        w ≡ Ok (s, new)
    body_made b new now stands s body same e made =
        behind _ whole h mid head (ended_made (make h) b mid new now stands s body same e made)

    pub body_fails : (e : Refusal) → Refused (and_then (r.body p mid) (expect_tag end)) e → Refused w e
    body_fails e g = behind_fails _ whole h mid head e (ended_fails (make h) mid e g)

-- the other body, and the end of the statement
module _ (spans : List Span) (r : Here) (p : Around) (end : List ℕ) (ts : List Token) where
  pub else_ended : (other : List Stmt) (new : List Token) (result : Result (Unit {0}) Refusal) → begins_tag (codes "else") ts ≡ false →
      other ≡ [] → ParsedAs passing (expect_tag end unit ts) new result → ParsedInto (else_by spans r p end ts) (statement_nodes_in other) new result
  else_ended other new (Ok b) h e g =
      no_else spans r p end ts h ∙ ok_again (tag_again end no_placed_statements ts) g ∙ ap (λ ss. Ok (ss, new)) (sym (ap statement_nodes_in e))
  else_ended other new (Err x) h e g =
      no_again (expect_tag end unit ts) no_placed_statements x (no_else spans r p end ts h ∙ tag_again end no_placed_statements ts) g

  module _ (h : begins_tag (codes "else") ts ≡ true) where
    pub else_tag_fails : (e : Refusal) → Refused (tag_end unit (passed (passed ts))) e → Refused (else_by spans r p end ts) e
    else_tag_fails e g =
        head_fails _ _ (else_here spans r p end ts h) e (no_again (tag_end unit (passed (passed ts))) false e (tag_end_again false (passed (passed ts))) g)

    module _ (us : List Token) (tagged : tag_end unit (passed (passed ts)) ≡ Ok (unit, us)) where
      pub else_body_fails : (e : Refusal) → Refused (r.body p us) e → Refused (else_by spans r p end ts) e
      else_body_fails e g =
          behind_fails _ (else_here spans r p end ts h) false us (ok_again (tag_end_again false (passed (passed ts))) tagged) e (head_fails _ _ refl e g)

      pub else_read : (body : PlacedStatements) (vs new : List Token) (result : Result (Unit {0}) Refusal) → r.body p us ≡ Ok (body, vs) →
          ParsedAs passing (expect_tag end unit vs) new result → ParsedInto (else_by spans r p end ts) body new result
      else_read body vs new (Ok b) e g =
          behind _ (else_here spans r p end ts h) false us (ok_again (tag_end_again false (passed (passed ts))) tagged)
          (then_goes _ e (ok_again (tag_again end body vs) g))
      else_read body vs new (Err x) e g =
          behind_fails _ (else_here spans r p end ts h) false us (ok_again (tag_end_again false (passed (passed ts))) tagged) x
          (behind_fails _ refl body vs e x (no_again (expect_tag end unit vs) body x (tag_again end body vs) g))

module _ (spans : List Span) (r : Here) (p : Around) (start : Span) where
  -- a loop's bodies
  pub for_made : (h : Node × Node × OptionalNode × Bool) (body other : PlacedStatements) (ts us vs new : List Token) (now : List Span)
      (stands : Span) (s : PlacedStatement) → for_head spans r ts ≡ Ok (h, us) → r.body (loop_around p) us ≡ Ok (body, vs) →
      else_by spans r p (codes "endfor") vs ≡ Ok (other, new) → now ≡ spans → stands ≡ up_to now start new →
      s ≡ for_node h.0 h.1 h.2 h.3 body other stands → for_by spans r p start ts ≡ Ok (s, new)
  for_made h body other ts us vs new now stands s a b c same e made =
      behind (for_rest spans r p start) (for_whole spans r p start ts) h us a
      (then_goes _ b (then_goes _ c (stands_so (for_node h.0 h.1 h.2 h.3 body other) spans now start stands s new same e made)))

  pub for_body_fails : (h : Node × Node × OptionalNode × Bool) (ts us : List Token) → for_head spans r ts ≡ Ok (h, us) →
      (e : Refusal) → Refused (r.body (loop_around p) us) e → Refused (for_by spans r p start ts) e
  for_body_fails h ts us a e b =
      behind_fails (for_rest spans r p start) (for_whole spans r p start ts) h us a e (head_fails _ _ refl e b)

  pub for_else_fails : (h : Node × Node × OptionalNode × Bool) (body : PlacedStatements) (ts us vs : List Token) →
      for_head spans r ts ≡ Ok (h, us) → r.body (loop_around p) us ≡ Ok (body, vs) →
      (e : Refusal) → Refused (else_by spans r p (codes "endfor") vs) e → Refused (for_by spans r p start ts) e
  for_else_fails h body ts us vs a b e c =
      behind_fails (for_rest spans r p start) (for_whole spans r p start ts) h us a e
      (behind_fails _ refl body vs b e (head_fails _ _ refl e c))

  -- a condition, the branches behind it, and what stands for the case that none holds
  pub if_whole : (ts : List Token) → if_by spans r p start ts ≡ and_then (branch_by spans r p ts) (if_rest spans r p start)
  unfolding if_by
  if_whole ts = refl

  pub rest_made : (b : PlacedBranch) (bs : PlacedBranches) (other body : PlacedStatements) (us vs new : List Token) (now : List Span)
      (stands : Span) (s : PlacedStatement) → all (branch_step spans r p) no_placed_branches us ≡ Ok (bs, vs) →
      else_by spans r p (codes "endif") vs ≡ Ok (other, new) → now ≡ spans → stands ≡ up_to now start new →
      body ≡ branched_node bs other stands → s ≡ condition_node b body stands → if_rest spans r p start b us ≡ Ok (s, new)
  rest_made b bs other body us vs new now stands s others last same e branched made =
      then_goes _ others (then_goes _ last (stands_so (λ stands. condition_node b (branched_node bs other stands) stands) spans now start stands s new
      same e (made ∙ ap (λ body. condition_node b body stands) branched)))

  pub branches_fail : (b : PlacedBranch) (us : List Token) (e : Refusal) → Refused (all (branch_step spans r p) no_placed_branches us) e →
      Refused (if_rest spans r p start b us) e
  branches_fail b us e h = head_fails _ _ refl e h

  pub else_fails : (b : PlacedBranch) (bs : PlacedBranches) (us vs : List Token) → all (branch_step spans r p) no_placed_branches us ≡ Ok (bs, vs) →
      (e : Refusal) → Refused (else_by spans r p (codes "endif") vs) e → Refused (if_rest spans r p start b us) e
  else_fails b bs us vs others e h = behind_fails _ refl bs vs others e (head_fails _ _ refl e h)

  -- where no branch stands behind the first one
  no_others : (us : List Token) → begins_tag (codes "elif") us ≡ false → all (branch_step spans r p) no_placed_branches us ≡ Ok (no_placed_branches, us)
  no_others us h = all_stops (branch_step spans r p) no_placed_branches us (no_branch spans r p no_placed_branches us h)

  pub alone_made : (b : PlacedBranch) (other : PlacedStatements) (us new : List Token) (now : List Span) (stands : Span) (s : PlacedStatement) →
      begins_tag (codes "elif") us ≡ false → else_by spans r p (codes "endif") us ≡ Ok (other, new) → now ≡ spans → stands ≡ up_to now start new →
      s ≡ condition_node b other stands → if_rest spans r p start b us ≡ Ok (s, new)
  alone_made b other us new now stands s h last same e made =
      rest_made b no_placed_branches other other us us new now stands s (no_others us h) last same e refl made

  pub alone_fails : (b : PlacedBranch) (us : List Token) → begins_tag (codes "elif") us ≡ false →
      (e : Refusal) → Refused (else_by spans r p (codes "endif") us) e → Refused (if_rest spans r p start b us) e
  alone_fails b us h e g = else_fails b no_placed_branches us us (no_others us h) e g

  pub if_behind : (b : PlacedBranch) (ts us : List Token) → branch_by spans r p ts ≡ Ok (b, us) →
      if_by spans r p start ts ≡ if_rest spans r p start b us
  if_behind b ts us first = behind (if_rest spans r p start) (if_whole ts) b us first refl

  pub if_made : (b : PlacedBranch) (other : PlacedStatements) (ts us new : List Token) (now : List Span) (stands : Span) (s : PlacedStatement) →
      branch_by spans r p ts ≡ Ok (b, us) → begins_tag (codes "elif") us ≡ false → else_by spans r p (codes "endif") us ≡ Ok (other, new) →
      now ≡ spans → stands ≡ up_to now start new → s ≡ condition_node b other stands → if_by spans r p start ts ≡ Ok (s, new)
  if_made b other ts us new now stands s first h last same e made =
      if_behind b ts us first ∙ alone_made b other us new now stands s h last same e made

  -- a condition with its body
  pub branch_made : (h : Node) (body : PlacedStatements) (ts us new : List Token) → expression_head r ts ≡ Ok (h, us) →
      r.body p us ≡ Ok (body, new) → branch_by spans r p ts ≡ Ok (placed (h.tree, body.tree) (parts_more h.places body.places), new)
  branch_made h body ts us new first second = behind _ (branch_whole spans r p ts) h us first (then_goes _ second refl)

  -- a `set`, behind its head
  pub set_read : (s : PlacedStatement) (ts us : List Token) → set_head spans r start ts ≡ Ok (set_whole s, us) → set_by spans r p start ts ≡ Ok (s, us)
  set_read s ts us h = behind (set_rest spans r p start) (set_whole_by spans r p start ts) (set_whole s) us h refl

  pub set_opened : (h : Node × OptionalNode) (ts us : List Token) → set_head spans r start ts ≡ Ok (set_over h, us) →
      set_by spans r p start ts ≡ set_rest spans r p start (set_over h) us
  set_opened h ts us head = behind (set_rest spans r p start) (set_whole_by spans r p start ts) (set_over h) us head refl

  -- a set block, behind its head
  pub set_body_made : (h : Node × OptionalNode) (b : PlacedStatements) (ts new : List Token) (now : List Span) (stands : Span)
      (s : PlacedStatement) → and_then (r.body p ts) (expect_tag (codes "endset")) ≡ Ok (b, new) → now ≡ spans →
      stands ≡ up_to now start new → s ≡ set_block_node h.0 h.1 b stands → set_rest spans r p start (set_over h) ts ≡ Ok (s, new)
  set_body_made h b ts new now stands s body same e made =
      ended_made spans r p (codes "endset") start (set_block_node h.0 h.1) b ts new now stands s body same e made

  pub set_body_fails : (h : Node × OptionalNode) (ts : List Token) (e : Refusal) →
      Refused (and_then (r.body p ts) (expect_tag (codes "endset"))) e → Refused (set_rest spans r p start (set_over h) ts) e
  set_body_fails h ts e g = ended_fails spans r p (codes "endset") start (set_block_node h.0 h.1) ts e g
