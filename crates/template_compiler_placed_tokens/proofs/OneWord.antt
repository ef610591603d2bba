-- Which block has one word alone.
use Rattle.std.proofs.Common.{◌≡◌, ℕ, ◌+◌, ◌⊎◌, inl, inr, Bool, true, false, if◌then◌else◌, suc, List, [], ◌∷◌, length, take, drop, take_while, slice_get, slice_index, Option, None, Some, refl, sym, ◌∙◌, ap, subst, arith}
use Rattle.std.specs.Prelude.{codes}
use Rattle.std.specs.List.{prefix_len}
use Rattle.std.proofs.lemmas.Bool.{false≢true}
use Rattle.std.specs.Char.{is_ascii_whitespace}
use Rattle.template_compiler_syntax.specs.declared.StartMarker.{StartMarker}
use Rattle.template_compiler_syntax.specs.declared.StartMarker.TheVariants.{Block}
use Rattle.template_compiler_syntax.specs.Syntax.{Syntax}
use Rattle.template_compiler_tokens.specs.Token as spec
use Rattle.template_compiler_tokens.specs.Token.{identifier, bad}
use Rattle.template_compiler_tokens.specs.Texts.{IsText}
use Rattle.template_compiler_tokens.specs.Token.{TokenFault, number}
use Rattle.template_compiler_tokens.specs.Numbers.{number_at}
use Rattle.template_compiler_tokens.specs.Lexical.{is_name_start, is_name_part, BeginsAs, Begins, IsToken, token_at, class_of, Class, name_class, number_class, text_class, sign_class}
use Rattle.template_compiler_tokens.proofs.Ends.{number_or_none}
use Rattle.template_compiler_tokens.proofs.OneToken.{one_token, some_token}
use Rattle.template_compiler_syntax.specs.declared.edges.Trim.{Trim}
use Rattle.template_compiler_syntax.specs.Segments.{Ending, HasInside, ended, blank, token, only, open_brackets}
use Rattle.template_compiler_syntax.proofs.One.{one_inside}
use Rattle.template_compiler_syntax.proofs.Pieces.{some_inside}
use Rattle.template_compiler_syntax.proofs.Bytes.{takes_bytes}
use Rattle.template_compiler_placed_tokens.specs.Finds.{IsTokenPlace, IsName, FindsEndBehind, FindsWord}
use Rattle.template_compiler_placed_tokens.proofs.Delimiters.{Lifts}
use Rattle.template_compiler_placed_tokens.proofs.Cuts.{stands_cut}
use Rattle.std.specs.Str.{IsUtf8, IsCharBoundary}
use Rattle.std.proofs.lemmas.List.Folds.{length-prefix_len}

text_is_no_word : {q : ℕ} {s word : List ℕ} {n : ℕ} → IsText q s (identifier word) n → ⊥
text_is_no_word h = elim h [ ]

-- a word is the longest beginning that may stand in a name, whose first byte is the text's
word_by : (c : Class) (s word : List ℕ) (n : ℕ) → BeginsAs c s (identifier word) n → word ≡ take_while is_name_part s
word_by name_class s word n h = (let same = h.0 in cc)
word_by number_class s word n h = go (number_or_none s)
  where
    go : ((fault : TokenFault) × (number_at s ≡ bad fault)) ⊎ ((m : ℕ) × (number_at s ≡ number m)) → word ≡ take_while is_name_part s
    go (inl (fault, none)) = (let both = h.0 ∙ none in cc)
    go (inr (m, some)) = (let both = h.0 ∙ some in cc)
word_by text_class s word n h = absurd (text_is_no_word h)
word_by sign_class s word n h = elim h [ ]

first_of : (s word : List ℕ) (a b : ℕ) → word ≡ take_while is_name_part s → slice_get s 0 ≡ Some a → slice_get word 0 ≡ Some b → a ≡ b
first_of [] word a b e f g = cc
first_of (x ∷ xs) [] a b e f g = cc
first_of (x ∷ xs) (y ∷ ys) a b e f g = go (is_name_part x) e
  where
    go : (p : Bool) → y ∷ ys ≡ take (if p then 1 + prefix_len is_name_part xs else 0) (x ∷ xs) → a ≡ b
    go true same =
        (let one : 1 + prefix_len is_name_part xs ≡ suc (prefix_len is_name_part xs) = omega arith in
        let whole : y ∷ ys ≡ x ∷ take (prefix_len is_name_part xs) xs = same ∙ ap (λ k. take k (x ∷ xs)) one in cc)
    go false same = cc

pub same_first : (s word : List ℕ) (n a b : ℕ) → Begins s (identifier word) n → slice_get s 0 ≡ Some a → slice_get word 0 ≡ Some b → a ≡ b
same_first s word n a b begins f g = first_of s word a b (word_by (class_of (slice_index s 0)) s word n begins) f g

-- a text begins with a name where that is the longest beginning that may stand in one
named : (s word : List ℕ) → word ≡ take_while is_name_part s → IsName word → is_name_start (slice_index s 0) ≡ true
unfolding is_name_start
named [] word e h = subst (λ w. IsName w) e h
named (x ∷ xs) word e h = go (is_name_part x) e
  where
    go : (p : Bool) → word ≡ take (if p then 1 + prefix_len is_name_part xs else 0) (x ∷ xs) → is_name_start x ≡ true
    go true same =
        (let one : 1 + prefix_len is_name_part xs ≡ suc (prefix_len is_name_part xs) = omega arith in
        subst (λ w. IsName w) (same ∙ ap (λ k. take k (x ∷ xs)) one) h)
    go false same = absurd (false≢true (subst (λ w. IsName w) same h))

class_named : (b : ℕ) → is_name_start b ≡ true → class_of b ≡ name_class
unfolding class_of
class_named b h = rw h refl

pub begins_name : (s word : List ℕ) → take_while is_name_part s ≡ word → IsName word → Begins s (identifier word) (length word)
begins_name s word e h =
    subst (λ c. BeginsAs c s (identifier word) (length word)) (sym (class_named (slice_index s 0) (named s word (sym e) h)))
    (ap (λ w. identifier w) (sym e), ap length (sym e))

pub name_begun : (s word : List ℕ) (n : ℕ) → Begins s (identifier word) n → take_while is_name_part s ≡ word
name_begun s word n begins = sym (word_by (class_of (slice_index s 0)) s word n begins)

-- behind a name the text may be cut
pub name_cut : (s rest word : List ℕ) (i : ℕ) → IsUtf8 s → IsUtf8 word → rest ≡ drop i s → IsName word → Begins rest (identifier word) (length word) →
    IsCharBoundary s (i + length word)
unfolding is_name_start
name_cut s rest word i source utf8 e h begins =
    let same = word_by (class_of (slice_index rest 0)) rest word (length word) begins in
    let whole : take (length word) rest ≡ word =
    ap (λ w. take (length w) rest) same ∙ (ap (λ n. take n rest) (length-prefix_len is_name_part rest) ∙ sym same) in
    stands_cut s word i source utf8 (λ none. false≢true (subst (λ w. IsName w) none h)) (subst (λ r. take (length word) r ≡ word) e whole)

-- what stands inside behind white space
lowered : (x : Syntax) (s : List ℕ) (k : StartMarker) (d i from : ℕ) (tokens : List spec.Token) (ending : Ending) → Lifts x s k d i from →
    HasInside x s k d from tokens ending → HasInside x s k d i tokens ending
lowered x s k d i from tokens ending lifts h =
    let here = some_inside one_token some_token takes_bytes x s k d i in
    let same = one_inside one_token (lifts (here.0) (here.1) (here.2)) h in
    subst (λ ts. HasInside x s k d i ts ending) (same.0) (subst (λ e. HasInside x s k d i (here.0) e) (same.1) (here.2))

first_word : {x : Syntax} {s : List ℕ} {k : StartMarker} {d i : ℕ} {t : spec.Token} {p : Trim × ℕ} → is_ascii_whitespace (slice_index s i) ≡ false →
    HasInside x s k d i (t ∷ []) (Some p) → (n : ℕ) × IsToken s i t n × HasInside x s k (open_brackets t d) n [] (Some p)
first_word black (blank none white rest) = absurd (false≢true (sym black ∙ white))
first_word black (token {n = n} none white t good rest) = (n, t, rest)

no_end_here : {x : Syntax} {s : List ℕ} {k : StartMarker} {i : ℕ} {p : Trim × ℕ} → IsTokenPlace x s k 0 i → HasInside x s k 0 i [] (Some p) → ⊥
no_end_here place (ended {next = next} {last = last} over) = place.none refl (last, next, over)
no_end_here place (blank none white rest) = false≢true (sym (place.black) ∙ white)

pub ends_at_once : (x : Syntax) (s : List ℕ) (from next : ℕ) (last : Trim) (word : List ℕ) → HasInside x s Block 0 from [] (Some (last, next)) →
    FindsWord x s from word None
ends_at_once x s from next last word h = λ other after has. (let same = (one_inside one_token h has).0 in cc)

pub goes_on : (x : Syntax) (s : List ℕ) (from i : ℕ) → IsTokenPlace x s Block 0 i → Lifts x s Block 0 i from → FindsEndBehind x s from None
goes_on x s from i place lifts = λ last next h. no_end_here place (lowered x s Block 0 i from [] (Some (last, next)) lifts h)

begun_at : {s : List ℕ} {i n : ℕ} {t : spec.Token} → IsToken s i t n → (width : ℕ) × Begins (drop i s) t width × (n ≡ i + width)
begun_at (token_at width begins e) = (width, begins, e)

pub no_name_here : (x : Syntax) (s rest : List ℕ) (from i : ℕ) (word : List ℕ) → rest ≡ drop i s → IsTokenPlace x s Block 0 i → Lifts x s Block 0 i from →
    IsName word → (Begins rest (identifier word) (length word) → ⊥) → FindsWord x s from word None
no_name_here x s rest from i word e place lifts name none = λ last next h.
    let first = first_word (place.black) (lowered x s Block 0 i from (only word) (Some (last, next)) lifts h) in
    let begins = begun_at (first.1) in
    none (begins_name rest word (name_begun rest word (begins.0) (subst (λ r. Begins r (identifier word) (begins.0)) (sym e) (begins.1))) name)

-- a block does not begin with the word where no white space stands
pub no_only_word : (x : Syntax) (s rest : List ℕ) (from i : ℕ) (word : List ℕ) (b : Bool) → rest ≡ drop i s → is_ascii_whitespace (slice_index s i) ≡ false →
    Lifts x s Block 0 i from → b ≡ false → ((n : ℕ) → Begins rest (identifier word) n → b ≡ true) → FindsWord x s from word None
no_only_word x s rest from i word b e black lifts h may = λ last next has.
    let first = first_word black (lowered x s Block 0 i from (only word) (Some (last, next)) lifts has) in
    let begins = begun_at (first.1) in
    false≢true (sym h ∙ may (begins.0) (subst (λ r. Begins r (identifier word) (begins.0)) (sym e) (begins.1)))

pub word_here : (x : Syntax) (s rest : List ℕ) (from i width : ℕ) (word : List ℕ) (r : Option (Trim × ℕ)) → rest ≡ drop i s → IsTokenPlace x s Block 0 i →
    Lifts x s Block 0 i from → Begins rest (identifier word) width → FindsEndBehind x s (i + width) r → FindsWord x s from word r
word_here x s rest from i width word None e place lifts named none = λ last next h.
    let first = first_word (place.black) (lowered x s Block 0 i from (only word) (Some (last, next)) lifts h) in
    let same =
    (one_token s i (identifier word) (identifier word) (i + width) (first.0)
    (token_at width (subst (λ r. Begins r (identifier word) width) e named) refl) (first.1)).1 in
    none last next (subst (λ n. HasInside x s Block 0 n [] (Some (last, next))) (sym same) (first.2))
word_here x s rest from i width word (Some p) e place lifts named end =
    lifts (only word) (Some (p.0, p.1))
    (token (place.none) (place.black) (token_at width (subst (λ r. Begins r (identifier word) width) e named) refl) refl end)

pub raw_is_name : IsName (codes "raw")
unfolding is_name_start
raw_is_name = refl

pub endraw_is_name : IsName (codes "endraw")
unfolding is_name_start
endraw_is_name = refl
