-- The tokens of a text, from its front on.
use Rattle.std.proofs.Common.{◌≡◌, ℕ, zero, suc, ◌+◌, ◌<◌, ◌≤◌, Bool, inl, inr, true, false, List, [], ◌∷◌, ◌++◌, map, Ok, Err, length, take, drop, slice_index, refl, sym, ap, ◌∙◌, subst, arith, append-nil, append_assoc}
use Rattle.std.proofs.lemmas.List.{get_or-drop, length-drop, map-append}
use Rattle.std.specs.Char.{is_ascii_whitespace}
use Rattle.std.specs.Str.{IsAsciiWhitespaceBelow, IsTrimAsciiStart}
use Rattle.template_compiler_tree.specs.declared.span.Span.{Span}
use Rattle.template_values_errors.specs.declared.ErrorKind.{ErrorKind}
use Rattle.template_compiler_tokens.specs.Token as spec
use Rattle.template_compiler_tokens.specs.Token.{TokenFault, bad}
use Rattle.template_compiler_tokens.specs.Left.{kind_of}
use Rattle.template_compiler_tokens.specs.Lexical.{no_sign, Class, name_class, number_class, text_class, sign_class, class_of, BeginsAs, Begins, IsToken, token_at}
use Rattle.template_compiler_tokens.specs.Texts.{bad_text, open_text}
use Rattle.template_compiler_tokens.specs.SourcePlaces.{span_between}
use Rattle.template_compiler_tokens.proofs.OneToken.{one_token, some_token}
use Rattle.template_compiler_syntax.specs.Segments.{is_bad}
use Rattle.template_compiler_syntax.proofs.Bytes.{takes_bytes}
use Rattle.template_compiler_tokens.specs.View.{token_of}
use Rattle.template_compiler_tokens.specs.declared.token.Token.{Token}
use Rattle.template_compiler_scanner.specs.Scans.{Scans}
use Rattle.template_compiler_stream.specs.Spans.{PlacedTokens}
use Rattle.template_compiler_placed_tokens.proofs.Scanned.{not_bad}
use Rattle.template_compiler_sources.proofs.TokenFaults.{one_fault, wanted}
use Rattle.template_compiler_sources.specs.Spelled.{IsSpelled, spelled_end, spelled_blank, spelled_token, spelled_bad, spelled_spans, HoldsSpelled}

-- a text behind the bytes before it is spelled so, and its tokens stand there
abbrev pub SpelledAt : List ℕ → List ℕ → List spec.Token → List Span → Type 0
SpelledAt before s ts spans = (tokens : IsSpelled s ts) × (spans ≡ spelled_spans before tokens)

-- with the tokens of what is left, those that were taken are the text's, and all stand there
abbrev pub GoesOn : List ℕ → List (Token × Span) → List ℕ → List ℕ → Type 0
GoesOn text taken before rest =
    (ts : List spec.Token) (spans : List Span) → SpelledAt before rest ts spans →
    SpelledAt [] text (map (λ t. token_of t.0) taken ++ ts) (map (λ t. t.1) taken ++ spans)

blank_front : (n : ℕ) (before s : List ℕ) (ts : List spec.Token) (spans : List Span) → IsAsciiWhitespaceBelow s n →
    SpelledAt (before ++ take n s) (drop n s) ts spans → SpelledAt before s ts spans
blank_front zero before s ts spans w h = subst (λ l. SpelledAt l s ts spans) (append-nil before) h
blank_front (suc n) before [] ts spans w h = subst (λ l. SpelledAt l [] ts spans) (append-nil before) h
blank_front (suc n) before (b ∷ s) ts spans w h =
    let behind = subst (λ l. SpelledAt l (drop n s) ts spans) (sym (append_assoc before (b ∷ []) (take n s))) h in
    let rest = blank_front n (before ++ b ∷ []) s ts spans (λ i lt. w (suc i) (omega arith)) behind in
    (spelled_blank (w 0 (omega arith)) rest.0, rest.1)

-- the bytes before a text with the white space in front of it
abbrev pub behind_blanks : (before s r : List ℕ) → IsTrimAsciiStart s r → List ℕ
behind_blanks before s r trimmed = before ++ take trimmed.0 s

-- behind the white space in front stand the same tokens
same_behind : (before s r : List ℕ) (ts : List spec.Token) (spans : List Span) (trimmed : IsTrimAsciiStart s r) →
    SpelledAt (behind_blanks before s r trimmed) r ts spans → SpelledAt before s ts spans
same_behind before s r ts spans trimmed h =
    blank_front trimmed.0 before s ts spans trimmed.3 (subst (λ r. SpelledAt (before ++ take trimmed.0 s) r ts spans) trimmed.1 h)

black_front : (s r : List ℕ) → IsTrimAsciiStart s r → 0 < length r → is_ascii_whitespace (slice_index r 0) ≡ false
black_front s r (n, e, len, w, black) some =
    let same : n + 0 ≡ n = omega arith in
    rw e (ap (λ b. is_ascii_whitespace b) (get_or-drop n s 0 0 ∙ ap (λ i. slice_index s i) same) ∙ black (omega arith))

pushed : {A B : Type 0} (f : A → B) (taken held : List A) (t : A) (ts : List B) → held ≡ taken ++ t ∷ [] → map f taken ++ f t ∷ ts ≡ map f held ++ ts
pushed f taken held t ts more =
    sym (ap (λ l. map f l ++ ts) more ∙ ap (λ l. l ++ ts) (map-append f taken (t ∷ [])) ∙ append_assoc (map f taken) (f t ∷ []) ts)

-- a token in front, and what it leaves
pub token_front : (text before rest black behind : List ℕ) (taken held : List (Token × Span)) (t : Token) (span : Span) (n : ℕ) →
    held ≡ taken ++ (t, span) ∷ [] → GoesOn text taken before rest → (trimmed : IsTrimAsciiStart rest black) → 0 < length black →
    Scans black (Ok (t, n)) → behind ≡ drop n black →
    (from upto : List ℕ) → from ≡ behind_blanks before rest black trimmed → upto ≡ from ++ take n black → span ≡ span_between from upto →
    GoesOn text held upto behind
token_front text before rest black behind taken held t span n more all trimmed some begins cut from upto starts ends place ts spans h =
    let left : SpelledAt (from ++ take n black) (drop n black) ts spans =
    subst (λ r. SpelledAt (from ++ take n black) r ts spans) cut (subst (λ l. SpelledAt l behind ts spans) ends h) in
    let there = place ∙ ap (span_between from) ends in
    let here : SpelledAt from black (token_of t ∷ ts) (span ∷ spans) = (
      spelled_token n some (black_front rest black trimmed some) begins (not_bad t) left.0,
      ap (λ p. p ∷ spans) there ∙ ap (λ ps. span_between from (from ++ take n black) ∷ ps) left.1,
    ) in
    let whole = all (token_of t ∷ ts) (span ∷ spans) (same_behind before rest black (token_of t ∷ ts) (span ∷ spans) trimmed
    (subst (λ l. SpelledAt l black (token_of t ∷ ts) (span ∷ spans)) starts here)) in
    let words = pushed (λ (u : Token × Span). token_of u.0) taken held (t, span) ts more in
    let places = pushed (λ (u : Token × Span). u.1) taken held (t, span) spans more in
    subst (λ l. SpelledAt [] text l (map (λ u. u.1) held ++ spans)) words
    (subst (λ l. SpelledAt [] text (map (λ u. token_of u.0) taken ++ token_of t ∷ ts) l) places whole)

-- a stream of the tokens that were taken, and of what stands behind them where that is none
holds_spelled : (text : List ℕ) (taken : List (Token × Span)) (last : List spec.Token) (stream : PlacedTokens) →
    SpelledAt [] text (map (λ t. token_of t.0) taken ++ last) (map (λ t. t.1) taken ++ []) →
    stream.left ≡ map (λ t. token_of t.0) taken ++ last → stream.spans ≡ map (λ t. t.1) taken → HoldsSpelled text stream
holds_spelled text taken last stream h left spans =
    let whole = subst (λ l. SpelledAt [] text l (map (λ t. t.1) taken ++ [])) (sym left) h in
    record { tokens = whole.0; spans = spans ∙ sym (append-nil (map (λ t. t.1) taken)) ∙ whole.1 }

-- nothing is left but white space
pub end_front : (text before rest black : List ℕ) (taken : List (Token × Span)) (stream : PlacedTokens) →
    GoesOn text taken before rest → IsTrimAsciiStart rest black → length black ≡ 0 →
    stream.left ≡ map (λ t. token_of t.0) taken ++ [] → stream.spans ≡ map (λ t. t.1) taken → HoldsSpelled text stream
end_front text before rest [] taken stream all trimmed e left spans =
    holds_spelled text taken [] stream (all [] [] (same_behind before rest [] [] [] trimmed (spelled_end, refl))) left spans
end_front text before rest (b ∷ black) taken stream all trimmed e left spans = cc

-- what stands in front is no token
pub bad_front : (text before rest black : List ℕ) (taken : List (Token × Span)) (stream : PlacedTokens) (kind : ErrorKind) (f : TokenFault) →
    GoesOn text taken before rest → IsTrimAsciiStart rest black → 0 < length black → Scans black (Err kind) → kind ≡ kind_of f →
    stream.left ≡ map (λ t. token_of t.0) taken ++ bad f ∷ [] → stream.spans ≡ map (λ t. t.1) taken → HoldsSpelled text stream
bad_front text before rest black taken stream kind f all trimmed some (inl (g, e, begins)) h left spans =
    let same : g ≡ f = one_fault g f (sym e ∙ h) in
    let here : SpelledAt (behind_blanks before rest black trimmed) black (bad f ∷ []) [] =
    (spelled_bad some (black_front rest black trimmed some) (subst (λ g. Begins black (bad g) 0) same begins), refl) in
    holds_spelled text taken (bad f ∷ []) stream (all (bad f ∷ []) [] (same_behind before rest black (bad f ∷ []) [] trimmed here)) left spans
bad_front text before rest black taken stream kind f all trimmed some (inr (e, k)) h left spans =
    absurd (wanted f kind (ap (λ k. k ∷ []) e) h)

-- a text is spelled in one way
one_front : (s : List ℕ) (t u : spec.Token) (n m : ℕ) → Begins s t n → Begins s u m → (t ≡ u) × (n ≡ m)
one_front s t u n m h k =
    let same = one_token s 0 t u (0 + n) (0 + m) (token_at n h refl) (token_at m k refl) in
    let width : 0 + n ≡ 0 + m = same.1 in (same.0, omega arith)

pub one_spelled : (s : List ℕ) (ts us : List spec.Token) → IsSpelled s ts → IsSpelled s us → ts ≡ us
one_spelled [] ts us spelled_end spelled_end = refl
one_spelled [] ts us spelled_end (spelled_token n some w h g k) = absurd (omega arith)
one_spelled [] ts us spelled_end (spelled_bad some w h) = absurd (omega arith)
one_spelled [] ts us (spelled_token n some w h g k) other = absurd (omega arith)
one_spelled [] ts us (spelled_bad some w h) other = absurd (omega arith)
one_spelled (b ∷ s) ts us (spelled_blank w h) (spelled_blank w' h') = one_spelled s ts us h h'
one_spelled (b ∷ s) ts us (spelled_blank w h) (spelled_token n some w' h' g k) = let both = sym w ∙ w' in cc
one_spelled (b ∷ s) ts us (spelled_blank w h) (spelled_bad some w' h') = let both = sym w ∙ w' in cc
one_spelled (b ∷ s) ts us (spelled_token n some w h g k) (spelled_blank w' h') = let both = sym w' ∙ w in cc
one_spelled (b ∷ s) (t ∷ ts) (u ∷ us) (spelled_token n some w h g k) (spelled_token m some' w' h' g' k') =
    let same = one_front (b ∷ s) t u n m h h' in
    ap (λ t. t ∷ ts) same.0 ∙ ap (λ ts. u ∷ ts) (one_spelled (drop n (b ∷ s)) ts us k (subst (λ n. IsSpelled (drop n (b ∷ s)) us) (sym same.1) k'))
one_spelled (b ∷ s) (t ∷ ts) us (spelled_token n some w h g k) (spelled_bad {fault = f} some' w' h') =
    let same = one_front (b ∷ s) t (bad f) n 0 h h' in let bad_one = sym g ∙ ap is_bad same.0 in cc
one_spelled (b ∷ s) ts us (spelled_bad some w h) (spelled_blank w' h') = let both = sym w' ∙ w in cc
one_spelled (b ∷ s) ts (u ∷ us) (spelled_bad {fault = f} some w h) (spelled_token n some' w' h' g k) =
    let same = one_front (b ∷ s) u (bad f) n 0 h' h in let bad_one = sym g ∙ ap is_bad same.0 in cc
one_spelled (b ∷ s) ts us (spelled_bad {fault = f} some w h) (spelled_bad {fault = g} some' w' h') =
    ap (λ t. t ∷ []) ((one_front (b ∷ s) (bad f) (bad g) 0 0 h h').0)

-- and its tokens stand at one place each
pub one_spelling : (before s : List ℕ) (ts : List spec.Token) (x y : IsSpelled s ts) → spelled_spans before x ≡ spelled_spans before y
one_spelling before [] ts spelled_end spelled_end = refl
one_spelling before [] ts (spelled_token n some w h g k) other = absurd (omega arith)
one_spelling before [] ts (spelled_bad some w h) other = absurd (omega arith)
one_spelling before (b ∷ s) ts (spelled_blank w h) (spelled_blank w' h') = one_spelling (before ++ b ∷ []) s ts h h'
one_spelling before (b ∷ s) ts (spelled_blank w h) (spelled_token n some w' h' g k) = let both = sym w ∙ w' in cc
one_spelling before (b ∷ s) ts (spelled_blank w h) (spelled_bad some w' h') = let both = sym w ∙ w' in cc
one_spelling before (b ∷ s) ts (spelled_token n some w h g k) (spelled_blank w' h') = let both = sym w' ∙ w in cc
one_spelling before (b ∷ s) (t ∷ ts) (spelled_token n some w h g k) (spelled_token m some' w' h' g' k') =
    let text = b ∷ s in
    let same = one_front text t t n m h h' in
    subst (λ m. (k' : IsSpelled (drop m text) ts) → span_between before (before ++ take n text) ∷ spelled_spans (before ++ take n text) k ≡
    span_between before (before ++ take m text) ∷ spelled_spans (before ++ take m text) k') same.1
    (λ k'. ap (λ ps. span_between before (before ++ take n text) ∷ ps) (one_spelling (before ++ take n text) (drop n text) ts k k')) k'
one_spelling before (b ∷ s) ts (spelled_token n some w h g k) (spelled_bad {fault = f} some' w' h') = cc
one_spelling before (b ∷ s) ts (spelled_bad some w h) (spelled_blank w' h') = let both = sym w' ∙ w in cc
one_spelling before (b ∷ s) ts (spelled_bad {fault = f} some w h) (spelled_token n some' w' h' g k) = cc
one_spelling before (b ∷ s) ts (spelled_bad some w h) (spelled_bad some' w' h') = refl

-- every text is spelled in some way
none_taken : (k : Class) (s : List ℕ) (f : TokenFault) (n : ℕ) → BeginsAs k s (bad f) n → n ≡ 0
none_taken name_class s f n (e, w) = cc
none_taken number_class s f n (e, w) = w
none_taken text_class s f n (bad_text h none) = refl
none_taken text_class s f n (open_text none) = refl
none_taken sign_class s f n (no_sign e h) = refl

fault_in : (t : spec.Token) → is_bad t ≡ true → (f : TokenFault) × (t ≡ bad f)
fault_in (bad f) e = (f, refl)
fault_in _ e = cc

begins_there : (s : List ℕ) → (t : spec.Token) × (n : ℕ) × Begins s t n
begins_there s = at_front (some_token s 0)
  where
    at_front : ((t : spec.Token) × (n : ℕ) × IsToken s 0 t n) → (t : spec.Token) × (n : ℕ) × Begins s t n
    at_front (t, n, token_at width begins e) = (t, width, begins)

-- all that is shorter is spelled
abbrev IsSpelledBelow : List ℕ → Type 0
IsSpelledBelow s = (r : List ℕ) → length r < length s → (ts : List spec.Token) × IsSpelled r ts

spelled_by_token : (b : ℕ) (s : List ℕ) → IsSpelledBelow (b ∷ s) → is_ascii_whitespace b ≡ false → (t : spec.Token) (n : ℕ) → Begins (b ∷ s) t n
    → (none : Bool) → is_bad t ≡ none → (ts : List spec.Token) × IsSpelled (b ∷ s) ts
spelled_by_token b s shorter black t n begins true none =
    let fault = fault_in t none in
    let here : Begins (b ∷ s) (bad fault.0) n = subst (λ u. Begins (b ∷ s) u n) fault.1 begins in
    let nothing : n ≡ 0 = none_taken (class_of b) (b ∷ s) fault.0 n here in
    (bad fault.0 ∷ [], spelled_bad (omega arith) black (subst (Begins (b ∷ s) (bad fault.0)) nothing here))
spelled_by_token b s shorter black t n begins false good =
    let long = takes_bytes (b ∷ s) 0 (0 + n) t (token_at n begins refl) good in
    let rest = shorter (drop n (b ∷ s)) (omega (arith, long.0, length-drop n (b ∷ s))) in
    (t ∷ rest.0, spelled_token n (omega arith) black begins good rest.1)

spelled_by_byte : (b : ℕ) (s : List ℕ) → IsSpelledBelow (b ∷ s) → (blank : Bool) → is_ascii_whitespace b ≡ blank → (ts : List spec.Token) × IsSpelled (b ∷ s) ts
spelled_by_byte b s shorter true blank = let rest = shorter s (omega arith) in (rest.0, spelled_blank blank rest.1)
spelled_by_byte b s shorter false black =
    let there = begins_there (b ∷ s) in spelled_by_token b s shorter black there.0 there.1 there.2 (is_bad there.0) refl

spelled_within : (room : ℕ) (s : List ℕ) → length s ≤ room → (ts : List spec.Token) × IsSpelled s ts
spelled_within room [] fits = ([], spelled_end)
spelled_within zero (b ∷ s) fits = absurd (omega arith)
spelled_within (suc room) (b ∷ s) fits = spelled_by_byte b s (λ r less. spelled_within room r (omega arith)) (is_ascii_whitespace b) refl

pub some_spelled : (s : List ℕ) → (ts : List spec.Token) × IsSpelled s ts
some_spelled s = spelled_within (length s) s (omega arith)
