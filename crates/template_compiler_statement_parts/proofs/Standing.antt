-- What is read where a token stands next, and where it does not.
use Rattle.std.proofs.Common.{◌≡◌, ℕ, true, false, if◌then◌else◌, List, [], ◌∷◌, None, Some, Ok, Err, codes, bytes_eq, refl, sym, ap, ◌∙◌}
use Rattle.template_compiler_tokens.specs.Token.{Token, Symbol, bad_syntax, comma, variable_end, block_start, block_end, identifier, symbol, assign, paren_close}
use Rattle.template_compiler_tokens.specs.Steps.{Read, fault, stops}
use Rattle.template_compiler_grammar.specs.Words.{begins_word}
use Rattle.template_compiler_grammar.specs.ReaderParts.{paren_end}
use Rattle.template_compiler_stream.specs.Left.{passed}
use Rattle.template_compiler_stream.specs.Signs.{begins_symbol, next_symbol, next_word, second_word}
use Rattle.template_compiler_stream.specs.Tags.{begins_variable_end, begins_block_end, begins_block_start}
use Rattle.template_compiler_grammar.specs.TemplateReaderParts.{print_end, tag_end, expect_word, expect_assign, expect_tag, more_step, begins_tag, begins_values, word_by, context_by, block_end_by, end_name_by}
use Rattle.template_compiler_statement_parts.specs.Tags.{next_tag}

pub print_end_here : {A : Type 0} (a : A) (ts : List Token) → begins_variable_end ts ≡ true → print_end a ts ≡ Ok (a, passed ts)
unfolding print_end
print_end_here a [] h = cc
print_end_here a (variable_end ∷ ts) h = refl
print_end_here a (t ∷ ts) h = cc

pub print_end_none : {A : Type 0} (a : A) (ts : List Token) → begins_variable_end ts ≡ false → print_end a ts ≡ Err (fault ts)
unfolding print_end
print_end_none a [] h = refl
print_end_none a (variable_end ∷ ts) h = cc
print_end_none a (t ∷ ts) h = refl

pub tag_end_here : {A : Type 0} (a : A) (ts : List Token) → begins_block_end ts ≡ true → tag_end a ts ≡ Ok (a, passed ts)
unfolding tag_end
tag_end_here a [] h = cc
tag_end_here a (block_end ∷ ts) h = refl
tag_end_here a (t ∷ ts) h = cc

pub tag_end_none : {A : Type 0} (a : A) (ts : List Token) → begins_block_end ts ≡ false → tag_end a ts ≡ Err (fault ts)
unfolding tag_end
tag_end_none a [] h = refl
tag_end_none a (block_end ∷ ts) h = cc
tag_end_none a (t ∷ ts) h = refl

pub word_none : {A : Type 0} (w : List ℕ) (a : A) (ts : List Token) → begins_word w ts ≡ false → expect_word w a ts ≡ Err (fault ts)
unfolding expect_word
word_none w a [] h = refl
word_none w a (t ∷ ts) h = ap (λ b. if b then Ok (a, ts) else Err (fault (t ∷ ts))) h

pub assign_none : {A : Type 0} (a : A) (ts : List Token) → begins_symbol assign ts ≡ false → expect_assign a ts ≡ Err (fault ts)
unfolding expect_assign
assign_none a [] h = refl
assign_none a (symbol assign ∷ ts) h = cc
assign_none a (t ∷ ts) h = refl

pub paren_none : {A : Type 0} (a : A) (ts : List Token) → begins_symbol paren_close ts ≡ false → paren_end a ts ≡ Err (fault ts)
unfolding paren_end
paren_none a [] h = refl
paren_none a (symbol paren_close ∷ ts) h = cc
paren_none a (t ∷ ts) h = refl

pub tag_here : {A : Type 0} (w : List ℕ) (a : A) (ts : List Token) → begins_block_start ts ≡ true →
    ts ≡ block_start ∷ passed ts
tag_here w a [] h = cc
tag_here w a (block_start ∷ ts) h = refl
tag_here w a (t ∷ ts) h = cc

pub tag_none : {A : Type 0} (w : List ℕ) (a : A) (ts : List Token) → begins_block_start ts ≡ false → expect_tag w a ts ≡ Err (fault ts)
unfolding expect_tag
tag_none w a [] h = refl
tag_none w a (block_start ∷ ts) h = cc
tag_none w a (t ∷ ts) h = refl

-- tags
pub next_tag_here : (ts : List Token) → begins_block_start ts ≡ true → next_tag ts ≡ second_word ts
next_tag_here [] h = cc
next_tag_here (block_start ∷ ts) h = refl
next_tag_here (t ∷ ts) h = cc

pub next_tag_none : (ts : List Token) → begins_block_start ts ≡ false → next_tag ts ≡ None
next_tag_none [] h = refl
next_tag_none (block_start ∷ ts) h = cc
next_tag_none (t ∷ ts) h = refl

begins_word_tag : (w n : List ℕ) (ts : List Token) → Some n ≡ next_word ts → begins_tag w (block_start ∷ ts) ≡ bytes_eq w n
begins_word_tag w n [] h = cc
begins_word_tag w n (identifier m ∷ ts) h = let same : m ≡ n = cc in ap (λ m. bytes_eq w m) same
begins_word_tag w n (t ∷ ts) h = cc

pub begins_tag_here : (w n : List ℕ) (ts : List Token) → Some n ≡ next_tag ts → begins_tag w ts ≡ bytes_eq w n
begins_tag_here w n [] h = cc
begins_tag_here w n (block_start ∷ ts) h = begins_word_tag w n ts h
begins_tag_here w n (t ∷ ts) h = cc

no_word_tag : (w : List ℕ) (ts : List Token) → None ≡ next_word ts → begins_tag w (block_start ∷ ts) ≡ false
no_word_tag w [] h = refl
no_word_tag w (identifier m ∷ ts) h = cc
no_word_tag w (t ∷ ts) h = refl

pub begins_tag_none : (w : List ℕ) (ts : List Token) → None ≡ next_tag ts → begins_tag w ts ≡ false
begins_tag_none w [] h = refl
begins_tag_none w (block_start ∷ ts) h = no_word_tag w ts h
begins_tag_none w (t ∷ ts) h = refl

pub values_here : (s : Symbol) (ts : List Token) → Some s ≡ next_symbol ts → begins_values ts ≡ begins_values (symbol s ∷ [])
values_here s [] h = cc
values_here s (symbol comma ∷ ts) h = let same : comma ≡ s = cc in ap (λ s. begins_values (symbol s ∷ [])) same
values_here s (symbol assign ∷ ts) h = let same : assign ≡ s = cc in ap (λ s. begins_values (symbol s ∷ [])) same
values_here s (symbol t ∷ ts) h = let same : t ≡ s = cc in ap (λ s. begins_values (symbol s ∷ [])) same
values_here s (t ∷ ts) h = cc

pub values_none : (ts : List Token) → None ≡ next_symbol ts → begins_values ts ≡ false
values_none [] h = refl
values_none (symbol comma ∷ ts) h = cc
values_none (symbol assign ∷ ts) h = cc
values_none (symbol t ∷ ts) h = cc
values_none (t ∷ ts) h = refl

pub comma_here : (s : Symbol) (ts : List Token) → Some s ≡ next_symbol ts → begins_symbol comma ts ≡ begins_symbol comma (symbol s ∷ [])
comma_here s [] h = cc
comma_here s (symbol t ∷ ts) h = let same : t ≡ s = cc in ap (λ s. begins_symbol comma (symbol s ∷ [])) same
comma_here s (t ∷ ts) h = cc

pub comma_none : (ts : List Token) → None ≡ next_symbol ts → begins_symbol comma ts ≡ false
comma_none [] h = refl
comma_none (symbol t ∷ ts) h = cc
comma_none (t ∷ ts) h = refl

-- words that do not stand next
pub flag_none : (w : List ℕ) (ts : List Token) → begins_word w ts ≡ false → word_by w ts ≡ Ok (false, ts)
unfolding word_by
flag_none w [] h = refl
flag_none w (t ∷ ts) h = ap (λ b. if b then Ok (true, ts) else Ok (false, t ∷ ts)) h

pub context_none : {A : Type 0} (a : A) (ts : List Token) → begins_word (codes "with") ts ≡ false → context_by a ts ≡ Ok (a, ts)
unfolding context_by
context_none a [] h = refl
context_none a (t ∷ ts) h = ap (λ b. if b then expect_word (codes "context") a ts else Ok (a, t ∷ ts)) h

-- signs that do not stand next
pub no_more : {A : Type 0} (item : A → List Token → Read A) (a : A) (ts : List Token) → begins_symbol comma ts ≡ false → more_step item a ts ≡ stops
unfolding more_step
no_more item a [] h = refl
no_more item a (symbol comma ∷ ts) h = cc
no_more item a (t ∷ ts) h = refl

-- the end of a block
pub block_end_none : {A : Type 0} (n : List ℕ) (a : A) (ts : List Token) → begins_block_start ts ≡ false → block_end_by n a ts ≡ Err (fault ts)
unfolding block_end_by
block_end_none n a [] h = refl
block_end_none n a (block_start ∷ ts) h = cc
block_end_none n a (t ∷ ts) h = refl

pub end_name_here : {A : Type 0} (n m : List ℕ) (a : A) (ts : List Token) → Some m ≡ next_word ts →
    end_name_by n a ts ≡ (if bytes_eq m n then tag_end a (passed ts) else Err bad_syntax)
unfolding end_name_by
end_name_here n m a [] h = cc
end_name_here n m a (identifier k ∷ ts) h = let same : k ≡ m = cc in ap (λ k. if bytes_eq k n then tag_end a ts else Err bad_syntax) same
end_name_here n m a (t ∷ ts) h = cc

pub end_name_none : {A : Type 0} (n : List ℕ) (a : A) (ts : List Token) → None ≡ next_word ts → end_name_by n a ts ≡ tag_end a ts
unfolding end_name_by
end_name_none n a [] h = refl
end_name_none n a (identifier k ∷ ts) h = cc
end_name_none n a (t ∷ ts) h = refl

-- parts of a path
pub part_word : (n : List ℕ) (t : Token) (ts us : List Token) → Some n ≡ second_word ts → ts ≡ t ∷ us → us ≡ identifier n ∷ passed us
part_word n t [] us h e = cc
part_word n t (u ∷ []) us h e = cc
part_word n t (u ∷ identifier m ∷ ts) us h e = let same : m ≡ n = cc in let rest : identifier m ∷ ts ≡ us = cc in sym rest ∙ ap (λ m. identifier m ∷ ts) same ∙ ap (λ vs. identifier n ∷ passed vs) rest
part_word n t (u ∷ v ∷ ts) us h e = cc

-- names
-- a tag, the end of a block and the name behind it
pub ruleset tag_next = (tag_here, tag_none)

pub ruleset block_end_next = (tag_here, block_end_none)

pub ruleset end_name_next = (end_name_here, end_name_none)
