-- Two tokens that stand next, and texts.
use Rattle.std.proofs.Common.{◌≡◌, ℕ, true, false, List, [], ◌∷◌, None, Some, Ok, refl, ap, sym}
use Rattle.template_compiler_tokens.specs.Token.{Token, symbol, identifier, string, dot, assign}
use Rattle.template_compiler_grammar.specs.Words.{begins_dotted}
use Rattle.template_compiler_grammar.specs.ReaderParts.{text_step}
use Rattle.template_compiler_tokens.specs.Steps.{goes, stops}
use Rattle.template_compiler_stream.specs.Left.{passed}
use Rattle.template_compiler_stream.specs.Signs.{begins_symbol, next_word, second_word, assigned_behind}
use Rattle.template_compiler_stream.specs.Skips.{begins_keyword, PutsText}

-- a dot and a name
pub dotted_here : (part : List ℕ) (ts : List Token) → Some part ≡ second_word ts → begins_symbol dot ts ≡ true →
    ts ≡ symbol dot ∷ identifier part ∷ passed (passed ts)
dotted_here part [] e h = cc
dotted_here part (symbol dot ∷ []) e h = cc
dotted_here part (symbol dot ∷ identifier q ∷ ts) e h = let same : part ≡ q = cc in ap (λ q. symbol dot ∷ identifier q ∷ ts) (sym same)
dotted_here part (symbol dot ∷ t ∷ ts) e h = cc
dotted_here part (t ∷ ts) e h = cc

pub no_dot : (ts : List Token) → begins_symbol dot ts ≡ false → begins_dotted ts ≡ false
no_dot [] h = refl
no_dot (symbol dot ∷ ts) h = cc
no_dot (t ∷ ts) h = refl

pub no_dotted_word : (ts : List Token) → None ≡ second_word ts → begins_dotted ts ≡ false
no_dotted_word [] e = refl
no_dotted_word (symbol dot ∷ []) e = refl
no_dotted_word (symbol dot ∷ identifier q ∷ ts) e = cc
no_dotted_word (symbol dot ∷ t ∷ ts) e = refl
no_dotted_word (t ∷ ts) e = refl

-- a name and a `=`
pub keyword_here : (name : List ℕ) (ts : List Token) → Some name ≡ next_word ts → assigned_behind ts ≡ true →
    ts ≡ identifier name ∷ symbol assign ∷ passed (passed ts)
keyword_here name [] e h = cc
keyword_here name (identifier n ∷ []) e h = cc
keyword_here name (identifier n ∷ symbol assign ∷ ts) e h = let same : name ≡ n = cc in ap (λ n. identifier n ∷ symbol assign ∷ ts) (sym same)
keyword_here name (identifier n ∷ t ∷ ts) e h = cc
keyword_here name (t ∷ ts) e h = cc

pub not_assigned : (ts : List Token) → assigned_behind ts ≡ false → begins_keyword ts ≡ false
not_assigned [] h = refl
not_assigned (identifier n ∷ []) h = refl
not_assigned (identifier n ∷ symbol assign ∷ ts) h = cc
not_assigned (identifier n ∷ t ∷ ts) h = refl
not_assigned (t ∷ ts) h = refl

pub no_keyword_word : (ts : List Token) → None ≡ next_word ts → begins_keyword ts ≡ false
no_keyword_word [] e = refl
no_keyword_word (identifier n ∷ ts) e = cc
no_keyword_word (t ∷ ts) e = refl

-- texts
pub text_put : (E : Type 0) (k : Token) (s t : List ℕ) (ts : List Token) → PutsText {E = E} k s t (Ok true) → text_step s (k ∷ ts) ≡ goes t (passed (k ∷ ts))
unfolding text_step
text_put E (string part) s t ts h = ap (λ t. goes t ts) (sym h)
text_put E k s t ts h = absurd h

pub no_text : (E : Type 0) (k : Token) (s t : List ℕ) (ts : List Token) → PutsText {E = E} k s t (Ok false) → (text_step s (k ∷ ts) ≡ stops) × (t ≡ s)
unfolding text_step
no_text E (string part) s t ts h = absurd h
no_text E k s t ts h = (refl, h)
