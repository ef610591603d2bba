-- The names that a whole tree uses.
use Rattle.std.proofs.Common.{Global, Result, Ok, Err, ◌≡◌, ℕ, Bool, true, false, not, ◌&&◌, ◌||◌, List, String, codes, bytes_eq, IsTrue, inl, inr, ◌↔◌, refl, sym, ap, subst, ◌∙◌}
use Rattle.std.specs.Prelude.{IfOk}
use Rattle.std.specs.BTreeSet.{BTreeSet, contains_text}
use Rattle.template_compiler_tree.specs.Tree.{Statement, template, raw, print, for_loop, if_condition, with_block, set, set_block, auto_escape, filter_block, block, import, from_import, extends, include, macro, call_block, continue_loop, break_loop, do_call}
use Rattle.template_compiler_names.specs.Names.{IsToldFor, Places, anywhere, is_stored_by, is_stored_everywhere, place_by}
use Rattle.template_compiler_names.specs.declared.state.Names.{Names}
use Rattle.template_compiler_names_statements.specs.Found.{HasJust, has_place, uses}
use Rattle.template_compiler_names.specs.Among.{just}
use Rattle.template_compiler_names.specs.Goes.{Goes, knows, no_place, tells}
use Rattle.template_compiler_names.proofs.Laws.{goes_then, turned}

-- nothing was found or known before
from_nothing : (k s e u : Bool) → k ≡ false → IsTrue (not k && ((false || (not s && false)) || (not e && u))) ↔ IsTrue (not e && u)
from_nothing true s e u known = cc
from_nothing false true e u known = (λ h. h, λ h. h)
from_nothing false false e u known = (λ h. h, λ h. h)

has_place_is : (t : Statement) (p : Places) → has_place t p ≡ (not (is_stored_everywhere p.name) && place_by p t)
has_place_is (template body) p = refl
has_place_is (raw text) p = refl
has_place_is (print e) p = refl
has_place_is (for_loop target e filter recursive body otherwise) p = refl
has_place_is (if_condition e body otherwise) p = refl
has_place_is (with_block values body) p = refl
has_place_is (set target e) p = refl
has_place_is (set_block target filters body) p = refl
has_place_is (auto_escape e body) p = refl
has_place_is (filter_block e body) p = refl
has_place_is (block id required body) p = refl
has_place_is (import e target) p = refl
has_place_is (from_import e names) p = refl
has_place_is (extends e) p = refl
has_place_is (include e ignored) p = refl
has_place_is (macro id args defaults body) p = refl
has_place_is (call_block callee passed args defaults body) p = refl
has_place_is continue_loop p = refl
has_place_is break_loop p = refl
has_place_is (do_call callee passed) p = refl

pub whole_names : (t : Statement) (nested : Bool) (a b c d : Names) → a.nested ≡ nested → ((q : List ℕ) → tells a q ≡ false) →
    ((q : List ℕ) → knows a q ≡ false) → Goes no_place (just (codes "self")) a b → Goes no_place (just (codes "super")) b c →
    Goes (λ p. place_by p t) (λ q. is_stored_by q t) c d →
    (q : List ℕ) → IsTrue (tells d q) ↔ ((p : Places) × IsToldFor nested q p × IsTrue (has_place t p))
whole_names t nested a b c d mode fresh unknown self super goes q =
    let all = (goes_then a c d (goes_then a b c self super) goes).found q in
    let s = λ (p : Places). just (codes "self") p.name in
    let e = λ (p : Places). just (codes "self") p.name || just (codes "super") p.name in
    let named : (p : Places) → (not (e p) && place_by p t) ≡ has_place t p = λ p.
    ap (λ b. not (b || just (codes "super") p.name) && place_by p t) (turned (codes "self") p.name) ∙
    ap (λ b. not (bytes_eq p.name (codes "self") || b) && place_by p t) (turned (codes "super") p.name) ∙ sym (has_place_is t p) in (
      λ h. elim (all.0 h) [
        | inl o ↦ let none : false ≡ true = sym (fresh q) ∙ o in cc
        | inr f ↦ (
          f.0,
          subst (λ n. IsToldFor n q f.0) mode f.1,
          sym (named f.0) ∙ (from_nothing (knows a f.0.name) (s f.0) (e f.0) (place_by f.0 t) (unknown f.0.name)).0 f.2,
        )
      ],
      λ f. all.1 (inr (
        f.0,
        subst (λ n. IsToldFor n q f.0) (sym mode) f.1,
        (from_nothing (knows a f.0.name) (s f.0) (e f.0) (place_by f.0 t) (unknown f.0.name)).1 (named f.0 ∙ f.2),
      )),
    )

-- the texts that are found, in a set
pub in_set : {E : Type 0} (t : Statement) (nested : Bool) (d : Names) (r : Result (BTreeSet (String Global)) E) →
    ((q : List ℕ) → IsTrue (tells d q) ↔ ((p : Places) × IsToldFor nested q p × IsTrue (has_place t p))) →
    IfOk r (λ names. (q : List ℕ) → contains_text names q ≡ tells d q) → IfOk r (HasJust nested t)
in_set t nested d (Ok names) whole same = λ q. (λ h. (whole q).0 (sym (same q) ∙ h), λ f. same q ∙ (whole q).1 f)
in_set t nested d (Err error) whole same = tt

-- of names alone
told_plain : (t : Statement) (q : List ℕ) (f : (p : Places) × IsToldFor false q p × IsTrue (has_place t p)) → IsTrue (uses t q)
told_plain t q f = subst (λ (p : Places). IsTrue (has_place t p)) f.1 f.2

same_truth : (a b : Bool) → IsTrue a ↔ IsTrue b → a ≡ b
same_truth true b h = sym (h.0 refl)
same_truth false true h = h.1 refl
same_truth false false h = refl

pub plain_names : {A : Type 0} (t : Statement) (names : BTreeSet (String A)) → HasJust false t names → (q : List ℕ) → contains_text names q ≡ uses t q
plain_names t names just q =
    same_truth (contains_text names q) (uses t q) (λ h. told_plain t q ((just q).0 h), λ h. (just q).1 (anywhere q, refl, h))
