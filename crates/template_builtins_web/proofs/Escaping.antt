-- Which bytes stay as they are in a URL.
use Rattle.std.proofs.Common.{◌≡◌, ℕ, ◌<◌, ◌≤◌, ◌==◌, Bool, true, false, not, ◌||◌, nat_le, List, [], ◌∷◌, ◌++◌, refl, sym, ap, ◌∙◌, arith, inl, inr, if◌then◌else◌}
use Rattle.std.specs.Int.{is_in_range}
use Rattle.std.proofs.lemmas.Bool.{agree_below, agree_below_at, and_right, cases_lt, le-ltb, lt-leb, lt-ltb, ne_eqb, or_from}
use Rattle.percent_encoding.specs.declared.ascii_set.AsciiSet.{AsciiSet}
use Rattle.percent_encoding.specs.AsciiSet.{contains, should_percent_encode}
use Rattle.percent_encoding.specs.Percent.{encode_byte, percent_encode, percent_encode_byte}
use Rattle.template_builtins_web.specs.Urls.{escaped, escaped_byte, is_kept}
use Rattle.template_builtins_web.specs.declared.urls.TheConstants.{ESCAPED_IN_PATH, ESCAPED_IN_QUERY}

past_range : (lo hi b : ℕ) → hi < b → is_in_range lo hi b ≡ false
past_range lo hi b h = and_right (nat_le lo b) (nat_le b hi) (lt-leb b hi h)

-- what is kept is ASCII
is_ascii_alone : (in_path : Bool) (b : ℕ) → 128 ≤ b → is_kept in_path b ≡ false
is_ascii_alone in_path b h =
    let letter = or_from _ _ (or_from _ _ (past_range 48 57 b (omega (arith, h))) (past_range 65 90 b (omega (arith, h)))) (past_range 97 122 b (omega (arith, h))) in
    let other : (m : ℕ) → m < 128 → (m == b) ≡ false = λ m small. ne_eqb m b (λ e. absurd (omega (arith, h, small, e))) in
    let marks = or_from _ _ (other 95 (omega arith)) (or_from _ _ (other 46 (omega arith)) (or_from _ _ (other 45 (omega arith)) (or_from _ _ (other 126 (omega arith)) refl))) in
    or_from _ _ letter (or_from _ _ marks (and_right in_path (b == 47) (ne_eqb b 47 (λ e. absurd (omega (arith, h, e))))))

set_is : (set : AsciiSet) (in_path : Bool) → agree_below (contains set) (λ b. not (is_kept in_path b)) 128 ≡ true
    → (b : ℕ) → should_percent_encode set b ≡ not (is_kept in_path b)
unfolding should_percent_encode
set_is set in_path below b =
    elim (cases_lt b 128) [
      | inl lt ↦ ap (λ t. not t || contains set b) (lt-ltb b 128 lt) ∙ agree_below_at (contains set) (λ x. not (is_kept in_path x)) 128 b below lt
      | inr ge ↦ ap (λ t. not t || contains set b) (le-ltb b 128 ge) ∙ ap not (sym (is_ascii_alone in_path b ge))
    ]

pub path_set : (b : ℕ) → should_percent_encode ESCAPED_IN_PATH b ≡ not (is_kept true b)
path_set = set_is ESCAPED_IN_PATH true refl

pub query_set : (b : ℕ) → should_percent_encode ESCAPED_IN_QUERY b ≡ not (is_kept false b)
query_set = set_is ESCAPED_IN_QUERY false refl

turned : (t : Bool) (x y : List ℕ) → (if not t then x else y) ≡ (if t then y else x)
turned true x y = refl
turned false x y = refl

byte_by : (set : AsciiSet) (in_path : Bool) (b : ℕ) → should_percent_encode set b ≡ not (is_kept in_path b) → encode_byte set b ≡ escaped_byte in_path b
byte_by set in_path b same =
    ap (λ t. if t then percent_encode_byte b else b ∷ []) same ∙ turned (is_kept in_path b) (percent_encode_byte b) (b ∷ [])

-- a text escaped by such a set
pub escaped_by : (set : AsciiSet) (in_path : Bool) → ((b : ℕ) → should_percent_encode set b ≡ not (is_kept in_path b)) → (s : List ℕ)
    → percent_encode set s ≡ escaped in_path s
unfolding percent_encode escaped
escaped_by set in_path same [] = refl
escaped_by set in_path same (b ∷ s) =
    ap (λ (x : List ℕ). x ++ percent_encode set s) (byte_by set in_path b (same b))
    ∙ ap (λ (x : List ℕ). escaped_byte in_path b ++ x) (escaped_by set in_path same s)
