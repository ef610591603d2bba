-- The recursive loops in statements, as their units tell them.
use Rattle.std.proofs.Common.{◌≡◌, ℕ, ◌+◌, ◌<◌, ◌≤◌, length, get_or, drop, Bool, true, false, ◌&&◌, ◌||◌, List, [], ◌∷◌, ◌++◌, refl, sym, ap, ap₂, ◌∙◌}
use Rattle.template_compiler_tree.specs.Tree.{Expression, Statement, Statements, template, for_loop, if_condition, with_block, set_block, auto_escape, filter_block, block, macro, call_block, no_statements, statements_more}
use Rattle.template_machine_meaning.specs.Isolation.{is_used_by_rounds, is_used_by_rounds_of, used_of_rounds}
use Rattle.template_compiler_names.specs.Names.{Places, anywhere, is_used_in}
use Rattle.template_compiler_names.proofs.Laws.{drop_at, drop_none, or_assoc, or_false}
use Rattle.template_compiler_names_closures.specs.Units.{Part, part_of, parts_in, place_in_rounds, rounds, rounds_of, units_among, units_of}
use Rattle.template_compiler_names_closures.specs.declared.parts.Unit.{Unit}
use Rattle.template_compiler_names_needed.specs.Needed.{has_whole, is_whole, place_in_loops}

abbrev place_among : Places → List Part → Bool
place_among q [] = false
place_among q (part ∷ parts) = place_in_rounds q part || place_among q parts

loops_among : (q : Places) (units : List Unit) → place_in_loops q units ≡ place_among q (parts_in units)
loops_among q [] = refl
loops_among q (u ∷ units) = ap (λ b. place_in_rounds q (part_of u) || b) (loops_among q units)

both_among : (q : Places) (xs ys : List Part) → place_among q (xs ++ ys) ≡ (place_among q xs || place_among q ys)
both_among q [] ys = refl
both_among q (x ∷ xs) ys =
    ap (λ b. place_in_rounds q x || b) (both_among q xs ys) ∙ or_assoc (place_in_rounds q x) (place_among q xs) (place_among q ys)

rounds_among : (q : List ℕ) (recursive : Bool) (target : Expression) (body : Statements) →
    place_among (anywhere q) (rounds_of recursive target body) ≡ (recursive && used_of_rounds q target (is_used_in q body))
rounds_among q true target body = or_false (place_in_rounds (anywhere q) (rounds target body))
rounds_among q false target body = refl

-- where no template is among parts, none is among some of them
whole_none : (a b : Bool) → (a || b) ≡ false → (a ≡ false) × (b ≡ false)
whole_none true b h = cc
whole_none false b h = (refl, h)

whole_both : (xs ys : List Part) → has_whole (xs ++ ys) ≡ false → (has_whole xs ≡ false) × (has_whole ys ≡ false)
whole_both [] ys h = (refl, h)
whole_both (x ∷ xs) ys h =
    let first = whole_none (is_whole x) (has_whole (xs ++ ys)) h in
    let rest = whole_both xs ys first.1 in
    (ap₂ (λ a b. a || b) first.0 rest.0, rest.1)

mutual
  units_use : (q : List ℕ) (s : Statement) → has_whole (units_of s) ≡ false → place_among (anywhere q) (units_of s) ≡ is_used_by_rounds_of q s
  units_use q (template body) h = cc
  units_use q (for_loop target e condition recursive body otherwise) h =
      let bodies = (whole_both (rounds_of recursive target body) (units_among body ++ units_among otherwise) h).1 in
      let none = whole_both (units_among body) (units_among otherwise) bodies in
      both_among (anywhere q) (rounds_of recursive target body) (units_among body ++ units_among otherwise) ∙
      ap₂ (λ a b. a || b) (rounds_among q recursive target body)
      (both_among (anywhere q) (units_among body) (units_among otherwise) ∙
      ap₂ (λ a b. a || b) (all_use q body none.0) (all_use q otherwise none.1)) ∙
      or_assoc (recursive && used_of_rounds q target (is_used_in q body)) (is_used_by_rounds q body) (is_used_by_rounds q otherwise)
  units_use q (if_condition e body otherwise) h =
      let none = whole_both (units_among body) (units_among otherwise) h in
      both_among (anywhere q) (units_among body) (units_among otherwise) ∙
      ap₂ (λ a b. a || b) (all_use q body none.0) (all_use q otherwise none.1)
  units_use q (with_block _ body) h = all_use q body h
  units_use q (set_block target filters body) h = all_use q body h
  units_use q (auto_escape e body) h = all_use q body h
  units_use q (filter_block e body) h = all_use q body h
  units_use q (block id required body) h = all_use q body h
  units_use q (macro id arguments defaults body) h = all_use q body h
  units_use q (call_block callee passed arguments defaults body) h = all_use q body h
  units_use q _ h = refl

  all_use : (q : List ℕ) (ss : Statements) → has_whole (units_among ss) ≡ false → place_among (anywhere q) (units_among ss) ≡ is_used_by_rounds q ss
  all_use q no_statements h = refl
  all_use q (statements_more s ss) h =
      let none = whole_both (units_of s) (units_among ss) h in
      both_among (anywhere q) (units_of s) (units_among ss) ∙ ap₂ (λ a b. a || b) (units_use q s none.0) (all_use q ss none.1)

pub loops_use : (tree : Statements) (units : List Unit) → parts_in units ≡ units_among tree → has_whole (parts_in units) ≡ false →
    (q : List ℕ) → place_in_loops (anywhere q) units ≡ is_used_by_rounds q tree
loops_use tree units listed none q =
    loops_among (anywhere q) units ∙ ap (λ (ps : List Part). place_among (anywhere q) ps) listed ∙
    all_use q tree (ap (λ (ps : List Part). has_whole ps) (sym listed) ∙ none)

-- units, one behind the other
pub whole_item : (units : List Unit) (i : ℕ) (u : Unit) → i < length units → u ≡ get_or units i u →
    has_whole (parts_in (drop i units)) ≡ (is_whole (part_of u) || has_whole (parts_in (drop (i + 1) units)))
whole_item units i u within read = ap (λ (us : List Unit). has_whole (parts_in us)) (drop_at units i u within read)

pub whole_end : (units : List Unit) (i : ℕ) → length units ≤ i → has_whole (parts_in (drop i units)) ≡ false
whole_end units i past = ap (λ (us : List Unit). has_whole (parts_in us)) (drop_none units i past)
