-- What must stand behind something is read alike whatever it stands behind.
use Rattle.std.proofs.Common.{◌≡◌, ℕ, Bool, true, false, if◌then◌else◌, List, [], ◌∷◌, Ok, Err, codes, refl, ap, ◌∙◌}
use Rattle.template_compiler_tokens.specs.Token.{Token, variable_end, block_start, block_end, symbol, assign, paren_close}
use Rattle.template_compiler_tokens.specs.Steps.{Read, and_then, fault}
use Rattle.template_compiler_grammar.specs.Words.{is_word}
use Rattle.template_compiler_grammar.specs.ReaderParts.{paren_end}
use Rattle.template_compiler_grammar.specs.TemplateReaderParts.{print_end, tag_end, expect_word, expect_assign, expect_tag, context_by}
use Rattle.template_compiler_stream.specs.declared.refusal.Refusal.{Refusal}
use Rattle.template_compiler_stream.specs.declared.refusal.Refusal.TheVariants as refusals
use Rattle.template_compiler_stream.specs.Refusals.{Refused}

abbrev pub unit : Unit {0}
unit = tt

abbrev pub again : {A B : Type 0} → A → Read B → Read A
again a (Ok x) = Ok (a, x.1)
again a (Err f) = Err f

pub ok_again : {A B : Type 0} {r : Read A} {m : Read B} {a : A} {b : B} {us : List Token} → r ≡ again a m → m ≡ Ok (b, us) → r ≡ Ok (a, us)
ok_again {a = a} h k = h ∙ ap (again a) k

pub no_again : {A B : Type 0} {r : Read A} (m : Read B) (a : A) (e : Refusal) → r ≡ again a m → Refused m e → Refused r e
no_again m a (refusals.Token f) h k = h ∙ ap (again a) k
no_again m a refusals.OutOfMemory h k = tt

pub print_end_again : {A : Type 0} (a : A) (ts : List Token) → print_end a ts ≡ again a (print_end unit ts)
unfolding print_end
print_end_again a (variable_end ∷ ts) = refl
print_end_again a _ = refl

pub tag_end_again : {A : Type 0} (a : A) (ts : List Token) → tag_end a ts ≡ again a (tag_end unit ts)
unfolding tag_end
tag_end_again a (block_end ∷ ts) = refl
tag_end_again a _ = refl

pub paren_end_again : {A : Type 0} (a : A) (ts : List Token) → paren_end a ts ≡ again a (paren_end unit ts)
unfolding paren_end
paren_end_again a (symbol paren_close ∷ ts) = refl
paren_end_again a _ = refl

pub assign_again : {A : Type 0} (a : A) (ts : List Token) → expect_assign a ts ≡ again a (expect_assign unit ts)
unfolding expect_assign
assign_again a (symbol assign ∷ ts) = refl
assign_again a _ = refl

if_again : {A : Type 0} (a : A) (t : Token) (ts : List Token) (b : Bool) →
    (if b then Ok (a, ts) else Err (fault (t ∷ ts))) ≡ again a (if b then Ok (unit, ts) else Err (fault (t ∷ ts)))
if_again a t ts true = refl
if_again a t ts false = refl

pub word_again : {A : Type 0} (w : List ℕ) (a : A) (ts : List Token) → expect_word w a ts ≡ again a (expect_word w unit ts)
unfolding expect_word
word_again w a [] = refl
word_again w a (t ∷ ts) = if_again a t ts (is_word w t)

tag_again_by : {A : Type 0} (a : A) (r : Read (Unit {0})) → and_then (again a r) tag_end ≡ again a (and_then r tag_end)
unfolding and_then
tag_again_by a (Ok x) = tag_end_again a x.1
tag_again_by a (Err f) = refl

pub tag_again : {A : Type 0} (w : List ℕ) (a : A) (ts : List Token) → expect_tag w a ts ≡ again a (expect_tag w unit ts)
unfolding expect_tag
tag_again w a (block_start ∷ ts) = ap (λ m. and_then m tag_end) (word_again w a ts) ∙ tag_again_by a (expect_word w unit ts)
tag_again w a _ = refl

context_again_by : {A : Type 0} (a : A) (t : Token) (ts : List Token) (b : Bool) →
    (if b then expect_word (codes "context") a ts else Ok (a, t ∷ ts)) ≡ again a (if b then expect_word (codes "context") unit ts else Ok (unit, t ∷ ts))
context_again_by a t ts true = word_again (codes "context") a ts
context_again_by a t ts false = refl

pub context_again : {A : Type 0} (a : A) (ts : List Token) → context_by a ts ≡ again a (context_by unit ts)
unfolding context_by
context_again a [] = refl
context_again a (t ∷ ts) = context_again_by a t ts (is_word (codes "with") t)
