-- How much tokens weigh: a name as many bytes as it has, each other token one. Each takes as many bytes at least, and what is
-- read takes tokens.
use Rattle.std.proofs.Common.{◌≡◌, ◌<◌, ◌≤◌, ℕ, suc, ◌+◌, ◌-◌, Bool, true, false, List, [], ◌∷◌, ◌++◌, length, drop, refl, ap, arith, length-drop, length-take}
use Rattle.std.specs.Prelude.{nat_lt, ◌^◌, if◌then◌else◌, slice_index, take_while}
use Rattle.std.specs.List.{prefix_len}
use Rattle.template_compiler_tokens.specs.Token.{Token, TokenFault, identifier, number, bad, bad_syntax, float_literal}
use Rattle.template_compiler_tokens.specs.Numbers.{is_float, value_of, base_of, digits_at, number_at}
use Rattle.template_compiler_tokens.specs.Texts.{IsText, closed_text, bad_text, open_text}
use Rattle.template_compiler_tokens.specs.Lexical.{is_name_part, IsSign, long, short, no_sign, Class, name_class, number_class, text_class, sign_class, class_of, BeginsAs, IsToken, token_at}
use Rattle.template_compiler_syntax.specs.Segments.{is_bad}
use Rattle.template_compiler_syntax.proofs.Bytes.{takes_bytes}
use Rattle.template_compiler_grammar.specs.Grammar.{IsNameTail, name_end, name_more, IsName, name, IsTexts, texts_end, texts_more}
use Rattle.template_compiler_grammar.specs.TemplateGrammar.{IsWord, no_word, a_word, IsContext, no_context, with_context, IsMissing, not_ignored, ignored, IsBlockEnd, plain_end, named_end}

-- how many bytes a token has but for one, as far as they count
abbrev pub letters : Token → ℕ
letters (identifier n) = length n - 1
letters _ = 0

abbrev pub weight : List Token → ℕ
weight [] = 0
weight (t ∷ ts) = suc (letters t + weight ts)

pub weight-append : (ts us : List Token) → weight (ts ++ us) ≡ weight ts + weight us
weight-append [] us = omega arith
weight-append (t ∷ ts) us = omega (arith, weight-append ts us)

-- a token has no more letters than bytes behind its first
chosen_letters : (p q : Bool) (n : ℕ) (a c : TokenFault) → letters (if p then bad a else if q then number n else bad c) ≡ 0
chosen_letters true q n a c = refl
chosen_letters false true n a c = refl
chosen_letters false false n a c = refl

number_letters : (s : List ℕ) → letters (number_at s) ≡ 0
unfolding number_at
number_letters s =
    let n = value_of (base_of s) (digits_at s) in
    chosen_letters (is_float s) (nat_lt n (2 ^ 127)) n float_literal bad_syntax

text_letters : {q : ℕ} {s : List ℕ} {t : Token} {width : ℕ} → IsText q s t width → letters t ≡ 0
text_letters (closed_text close inside e) = refl
text_letters (bad_text close none) = refl
text_letters (open_text none) = refl

sign_letters : {s : List ℕ} {t : Token} {width : ℕ} → IsSign s t width → letters t ≡ 0
sign_letters (long e) = refl
sign_letters (short none e) = refl
sign_letters (no_sign none nothing) = refl

letters_as : (c : Class) (s : List ℕ) (t : Token) (width : ℕ) → BeginsAs c s t width → letters t ≤ width - 1
letters_as name_class s t width begins = omega (arith, ap letters begins.0, begins.1)
letters_as number_class s t width begins = omega (arith, ap letters begins.0, number_letters s)
letters_as text_class s t width begins = omega (arith, text_letters begins)
letters_as sign_class s t width begins = omega (arith, sign_letters begins)

-- nor more than are left
name_within : (s : List ℕ) → length (take_while is_name_part s) ≤ length s
name_within s = omega (arith, length-take (prefix_len is_name_part s) s)

letters_within : (c : Class) (s : List ℕ) (t : Token) (width : ℕ) → BeginsAs c s t width → letters t ≤ length s - 1
letters_within name_class s t width begins = omega (arith, ap letters begins.0, name_within s)
letters_within number_class s t width begins = omega (arith, ap letters begins.0, number_letters s)
letters_within text_class s t width begins = omega (arith, text_letters begins)
letters_within sign_class s t width begins = omega (arith, sign_letters begins)

pub takes_weight : (s : List ℕ) (i n : ℕ) (t : Token) → IsToken s i t n → is_bad t ≡ false → (i + suc (letters t) ≤ n) × (i + suc (letters t) ≤ length s)
takes_weight s i n t (token_at width begins e) good =
    let takes = takes_bytes s i n t (token_at width begins e) good in
    let c = class_of (slice_index (drop i s) 0) in (
      omega (arith, takes.0, letters_as c (drop i s) t width begins, e),
      omega (arith, takes.1, letters_within c (drop i s) t width begins, length-drop i s),
    )

-- what is read and has no code
name_tail_weighs : {n m : List ℕ} {ts us : List Token} → IsNameTail n ts m us → weight us ≤ weight ts
name_tail_weighs (name_end e) = omega arith
name_tail_weighs (name_more t) = let p = name_tail_weighs t in omega arith

pub name_weighs : {n : List ℕ} {ts us : List Token} → IsName ts n us → weight us < weight ts
name_weighs (name t) = let p = name_tail_weighs t in omega arith

pub texts_weigh : {s all : List ℕ} {ts us : List Token} → IsTexts s ts all us → weight us ≤ weight ts
texts_weigh texts_end = omega arith
texts_weigh (texts_more t) = let p = texts_weigh t in omega arith

pub word_weighs : {w : List ℕ} {b : Bool} {ts us : List Token} → IsWord w ts b us → weight us ≤ weight ts
word_weighs no_word = omega arith
word_weighs a_word = omega arith

pub context_weighs : {ts us : List Token} → IsContext ts us → weight us ≤ weight ts
context_weighs no_context = omega arith
context_weighs with_context = omega arith

pub missing_weighs : {b : Bool} {ts us : List Token} → IsMissing ts b us → weight us ≤ weight ts
missing_weighs (not_ignored c) = context_weighs c
missing_weighs (ignored c e) = let k = context_weighs c in let l = context_weighs e in omega arith

pub block_end_weighs : {w : List ℕ} {ts us : List Token} → IsBlockEnd w ts us → weight us ≤ weight ts
block_end_weighs plain_end = omega arith
block_end_weighs named_end = omega arith
