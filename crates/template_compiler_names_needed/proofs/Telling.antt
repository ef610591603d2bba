-- The names that a whole template needs.
use Rattle.std.proofs.Common.{Result, Ok, Err, IfOk, OnErr, OnOk, ◌≡◌, ℕ, Bool, true, false, not, ◌&&◌, ◌||◌, List, [], ◌∷◌, String, Global, Bor, codes, bytes_eq, IsTrue, inl, inr, ◌↔◌, refl, sym, ap, subst, ◌∙◌}
use Rattle.std.specs.BTreeSet.{BTreeSet, contains_text}
use Rattle.template_compiler_tree.specs.Tree.{Statements}
use Rattle.template_compiler_tree_statements.specs.declared.statements.Block.{Block as BlockNode}
use Rattle.template_compiler_tree_parts.specs.Listed.{statements_in}
use Rattle.template_compiler_walk.specs.Blocks.{Block, blocks_in}
use Rattle.template_compiler_walk.specs.Imported.{is_imported}
use Rattle.template_machine_meaning.specs.Isolation.{is_needed, is_used_by_block, is_used_by_rounds}
use Rattle.template_compiler_names_needed.specs.Seen.{trees_in}
use Rattle.template_compiler_names.specs.Among.{Adds, Among, is_among, just, nothing}
use Rattle.template_compiler_names.specs.Goes.{Goes, knows, no_place, tells}
use Rattle.template_compiler_names.specs.Names.{IsToldFor, Places, anywhere, is_stored_everywhere, is_used, place_within}
use Rattle.template_compiler_names.specs.declared.state.Names.{Names}
use Rattle.template_compiler_names.proofs.Laws.{and_false, goes_then, turned, uses_then}
use Rattle.template_compiler_names_closures.specs.declared.parts.Unit.{Unit}
use Rattle.template_compiler_names_statements.specs.Found.{AddsSome}
use Rattle.template_compiler_names_needed.specs.Needed.{is_used_by_one, needed_by, place_in_blocks, place_in_loops}

-- nothing was found or known before
from_nothing : (k s e u : Bool) → k ≡ false → IsTrue (not k && ((false || (not s && false)) || (not e && u))) ↔ IsTrue (not e && u)
from_nothing true s e u known = cc
from_nothing false true e u known = (λ h. h, λ h. h)
from_nothing false false e u known = (λ h. h, λ h. h)

same_truth : (a b : Bool) → IsTrue a ↔ IsTrue b → a ≡ b
same_truth true b h = sym (h.0 refl)
same_truth false true h = h.1 refl
same_truth false false h = refl

-- what is told where names alone are
told : (u : Places → Bool) (a b c d : Names) → a.nested ≡ false → ((q : List ℕ) → tells a q ≡ false) → ((q : List ℕ) → knows a q ≡ false) →
    Goes no_place (just (codes "self")) a b → Goes no_place (just (codes "super")) b c → Goes u nothing c d →
    (q : List ℕ) → tells d q ≡ (not (is_stored_everywhere q) && u (anywhere q))
told u a b c d mode fresh unknown self super goes q =
    let all = (goes_then a c d (goes_then a b c self super) goes).found q in
    let s = λ (p : Places). just (codes "self") p.name in
    let e = λ (p : Places). just (codes "self") p.name || just (codes "super") p.name in
    let named : (p : Places) → (not (e p) && u p) ≡ (not (is_stored_everywhere p.name) && u p) = λ p.
    ap (λ b. not (b || just (codes "super") p.name) && u p) (turned (codes "self") p.name) ∙
    ap (λ b. not (bytes_eq p.name (codes "self") || b) && u p) (turned (codes "super") p.name) in
    same_truth (tells d q) (not (is_stored_everywhere q) && u (anywhere q)) (
      λ h. elim (all.0 h) [
        | inl o ↦ let none : false ≡ true = sym (fresh q) ∙ o in cc
        | inr f ↦ subst (λ (p : Places). IsTrue (not (is_stored_everywhere p.name) && u p)) (subst (λ n. IsToldFor n q f.0) mode f.1)
            (sym (named f.0) ∙ (from_nothing (knows a f.0.name) (s f.0) (e f.0) (u f.0) (unknown f.0.name)).0 f.2)
      ],
      λ h. all.1 (inr (
        anywhere q,
        subst (λ n. IsToldFor n q (anywhere q)) (sym mode) refl,
        (from_nothing (knows a q) (s (anywhere q)) (e (anywhere q)) (u (anywhere q)) (unknown q)).1 (named (anywhere q) ∙ h),
      )),
    )

and_over : (n a b : Bool) → (n && (a || b)) ≡ ((n && a) || (n && b))
and_over true a b = refl
and_over false a b = refl

blocks_use : (q : List ℕ) (nodes : List (Bor BlockNode)) → (not (is_stored_everywhere q) && place_in_blocks (anywhere q) nodes) ≡ is_used_by_block q (trees_in nodes)
blocks_use q [] = and_false (not (is_stored_everywhere q))
blocks_use q (b ∷ nodes) =
    let within = place_within (anywhere q) (statements_in b.now.body.items) in
    and_over (not (is_stored_everywhere q)) within (place_in_blocks (anywhere q) nodes) ∙
    ap (λ x. (not (is_stored_everywhere q) && within) || x) (blocks_use q nodes)

-- so of a template, its blocks and its recursive loops
pub told_needed : (tree : Statements) (nodes : List (Bor BlockNode)) (units : List Unit) (a b c d e f : Names) → trees_in nodes ≡ blocks_in tree →
    ((q : List ℕ) → place_in_loops (anywhere q) units ≡ is_used_by_rounds q tree) →
    a.nested ≡ false → ((q : List ℕ) → tells a q ≡ false) → ((q : List ℕ) → knows a q ≡ false) →
    Goes no_place (just (codes "self")) a b → Goes no_place (just (codes "super")) b c →
    Goes (λ p. place_within p tree) nothing c d → Goes (λ p. place_in_blocks p nodes) nothing d e →
    Goes (λ p. place_in_loops p units) nothing e f →
    (q : List ℕ) → tells f q ≡ is_used_by_one q tree
told_needed tree nodes units a b c d e f blocks loops mode fresh unknown self super goes more rest q =
    let stored = not (is_stored_everywhere q) in
    let within = place_within (anywhere q) tree in
    let inside = place_in_blocks (anywhere q) nodes in
    let again = place_in_loops (anywhere q) units in
    told (λ p. (place_within p tree || place_in_blocks p nodes) || place_in_loops p units) a b c f mode fresh unknown self super
    (uses_then c e f (uses_then c d e goes more) rest) q ∙
    and_over stored (within || inside) again ∙
    ap (λ x. x || (stored && again)) (and_over stored within inside ∙ ap (λ x. (stored && within) || x) (blocks_use q nodes) ∙
    ap (λ (bs : List Block). is_used q tree || is_used_by_block q bs) blocks) ∙
    ap (λ x. (is_used q tree || is_used_by_block q (blocks_in tree)) || (stored && x)) (loops q)

-- what is told is what is found
pub found_as : {E : Type 0} (among : Among) (d : Names) (r : Result (BTreeSet (String Global)) E) → ((q : List ℕ) → tells d q ≡ among q) →
    IfOk r (λ found. (q : List ℕ) → contains_text found q ≡ tells d q) → IfOk r (λ found. (q : List ℕ) → contains_text found q ≡ among q)
found_as among d (Ok found) same is = λ q. is q ∙ same q
found_as among d (Err error) same is = tt

-- with the names that are imported
pub all_needed : (tree : Statements) (found new : BTreeSet (String Global)) (imported : List (Bor (List ℕ))) →
    ((q : List ℕ) → contains_text found q ≡ is_used_by_one q tree) →
    ((q : List ℕ) → is_among imported q ≡ is_imported q tree) → Adds (is_among imported) found new →
    (q : List ℕ) → contains_text new q ≡ is_needed q tree
all_needed tree found new imported used named adds q =
    adds q ∙ ap (λ b. b || is_among imported q) (used q) ∙ ap (λ b. is_used_by_one q tree || b) (named q)

-- what is added to a set
pub added : {T E : Type 0} (tree : Statements) (needed old new : BTreeSet (String Global)) (r : Result T E) →
    ((q : List ℕ) → contains_text needed q ≡ is_needed q tree) → OnOk r (Adds (contains_text needed) old new) → OnOk r (Adds (needed_by tree) old new)
added tree needed old new (Ok value) same adds = λ q. adds q ∙ ap (λ b. contains_text old q || b) (same q)
added tree needed old new (Err error) same adds = tt

pub partly_added : {T E : Type 0} (tree : Statements) (needed old new : BTreeSet (String Global)) (r : Result T E) →
    ((q : List ℕ) → contains_text needed q ≡ is_needed q tree) → OnErr r (AddsSome (contains_text needed) old new) → OnErr r (AddsSome (needed_by tree) old new)
partly_added tree needed old new (Ok value) same adds = tt
partly_added tree needed old new (Err error) same adds = record {
  kept = adds.kept;
  others = λ q h. sym (ap (λ b. contains_text old q || b) (same q)) ∙ adds.others q h;
}

kept_on : (a b : Bool) → IsTrue a → IsTrue (a || b)
kept_on true b h = refl
kept_on false b h = let never : false ≡ true = h in absurd cc

-- nothing was added
pub none_added : {T E : Type 0} (tree : Statements) (names : BTreeSet (String Global)) (r : Result T E) → OnErr r (AddsSome (needed_by tree) names names)
none_added tree names (Ok value) = tt
none_added tree names (Err error) = record {
  kept = λ q h. h;
  others = λ q h. kept_on (contains_text names q) (is_needed q tree) h;
}
