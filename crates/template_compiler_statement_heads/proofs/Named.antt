-- What is read by the name that stands next.
use Rattle.std.proofs.Common.{◌≡◌, ℕ, Bool, true, false, if◌then◌else◌, List, [], ◌∷◌, None, Some, Ok, Err, codes, refl, sym, ap, ◌∙◌}
use Rattle.template_compiler_tokens.specs.Token.{Token, Symbol, bad_syntax, identifier, symbol, paren_open}
use Rattle.template_compiler_tokens.specs.Steps.{fault, and_then}
use Rattle.template_compiler_stream.specs.Left.{passed}
use Rattle.template_compiler_stream.specs.Signs.{begins_symbol, next_word}
use Rattle.template_compiler_stream.specs.Skips.{SkipsSign}
use Rattle.template_compiler_grammar.specs.TemplateWords.{is_reserved}
use Rattle.template_compiler_grammar.specs.TemplateReaderParts.{tag_end, word_by}
use Rattle.template_compiler_grammar.specs.TemplateReader.{Here}
use Rattle.template_compiler_statement_heads.specs.DeclarationHeads.{block_head, declared_head, macro_head}

pub block_here : (in_macro : Bool) (n : List ℕ) (ts : List Token) → Some n ≡ next_word ts →
    block_head in_macro ts ≡ (if in_macro then Err bad_syntax else and_then (word_by (codes "required") (passed ts)) (λ b us. tag_end (n, b) us))
unfolding block_head
block_here m n [] h = cc
block_here m n (identifier k ∷ ts) h =
    let same : k ≡ n = cc in
    ap (λ k. if m then Err bad_syntax else and_then (word_by (codes "required") ts) (λ b us. tag_end (k, b) us)) same
block_here m n (t ∷ ts) h = cc

pub no_block : (in_macro : Bool) (ts : List Token) → None ≡ next_word ts → block_head in_macro ts ≡ Err (fault ts)
unfolding block_head
no_block m [] h = refl
no_block m (identifier k ∷ ts) h = cc
no_block m (t ∷ ts) h = refl

pub block_in_macro : (in_macro : Bool) (n : List ℕ) (ts : List Token) → Some n ≡ next_word ts → in_macro ≡ true → block_head in_macro ts ≡ Err bad_syntax
block_in_macro m n ts h e =
    block_here m n ts h ∙
    ap (λ m. if m then Err bad_syntax else and_then (word_by (codes "required") (passed ts)) (λ b us. tag_end (n, b) us)) e

pub block_outside : (in_macro : Bool) (n : List ℕ) (b : Bool) (ts us vs : List Token) → Some n ≡ next_word ts → in_macro ≡ false →
    us ≡ passed ts → word_by (codes "required") us ≡ Ok (b, vs) → block_head in_macro ts ≡ tag_end (n, b) vs
unfolding and_then
block_outside m n b ts us vs h e k l =
    block_here m n ts h ∙
    ap (λ m. if m then Err bad_syntax else and_then (word_by (codes "required") (passed ts)) (λ b us. tag_end (n, b) us)) e ∙
    ap (λ us. and_then (word_by (codes "required") us) (λ b us. tag_end (n, b) us)) (sym k) ∙
    ap (λ m. and_then m (λ b us. tag_end (n, b) us)) l

macro_word : (r : Here) (n : List ℕ) (ts us : List Token) → ts ≡ symbol paren_open ∷ us →
    macro_head r (identifier n ∷ ts) ≡ (if is_reserved n then Err bad_syntax else declared_head r n us)
unfolding macro_head
macro_word r n ts us e = ap (λ ts. macro_head r (identifier n ∷ ts)) e

pub macro_here : (r : Here) (n : List ℕ) (ts us : List Token) → Some n ≡ next_word ts → passed ts ≡ symbol paren_open ∷ us →
    macro_head r ts ≡ (if is_reserved n then Err bad_syntax else declared_head r n us)
macro_here r n [] us h e = cc
macro_here r n (identifier m ∷ ts) us h e =
    let same : m ≡ n = cc in macro_word r m ts us e ∙ ap (λ m. if is_reserved m then Err bad_syntax else declared_head r m us) same
macro_here r n (t ∷ ts) us h e = cc

pub macro_reserved : (r : Here) (n : List ℕ) (ts us vs : List Token) → Some n ≡ next_word ts → vs ≡ passed ts → vs ≡ symbol paren_open ∷ us →
    is_reserved n ≡ true → macro_head r ts ≡ Err bad_syntax
macro_reserved r n ts us vs h k e f =
    macro_here r n ts us h (sym k ∙ e) ∙ ap (λ b. if b then Err bad_syntax else declared_head r n us) f

pub macro_free : (r : Here) (n : List ℕ) (ts us vs : List Token) → Some n ≡ next_word ts → vs ≡ passed ts → vs ≡ symbol paren_open ∷ us →
    is_reserved n ≡ false → macro_head r ts ≡ declared_head r n us
macro_free r n ts us vs h k e f =
    macro_here r n ts us h (sym k ∙ e) ∙ ap (λ b. if b then Err bad_syntax else declared_head r n us) f

macro_no_paren : (r : Here) (n : List ℕ) (ts : List Token) → begins_symbol paren_open ts ≡ false → macro_head r (identifier n ∷ ts) ≡ Err (fault ts)
unfolding macro_head
macro_no_paren r n [] h = refl
macro_no_paren r n (symbol paren_open ∷ ts) h = cc
macro_no_paren r n (t ∷ ts) h = refl

pub no_paren : (r : Here) (n : List ℕ) (ts : List Token) → Some n ≡ next_word ts → begins_symbol paren_open (passed ts) ≡ false →
    macro_head r ts ≡ Err (fault (passed ts))
no_paren r n [] h k = cc
no_paren r n (identifier m ∷ ts) h k = macro_no_paren r m ts k
no_paren r n (t ∷ ts) h k = cc

pub no_macro : (r : Here) (ts : List Token) → None ≡ next_word ts → macro_head r ts ≡ Err (fault ts)
unfolding macro_head
no_macro r [] h = refl
no_macro r (identifier m ∷ ts) h = cc
no_macro r (t ∷ ts) h = refl

-- a sign that stood next
pub skipped : (s : Symbol) (old new : List Token) (b : Bool) → b ≡ true → SkipsSign s old new b → old ≡ symbol s ∷ new
skipped s old new true e h = h
skipped s old new false e h = cc
