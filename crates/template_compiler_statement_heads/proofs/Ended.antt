-- The end of a block is read alike whatever it stands behind.
use Rattle.std.proofs.Common.{◌≡◌, ℕ, Bool, true, false, if◌then◌else◌, List, [], ◌∷◌, Ok, Err, codes, bytes_eq, refl, ap, ◌∙◌}
use Rattle.template_compiler_tokens.specs.Token.{Token, bad_syntax, block_start, identifier}
use Rattle.template_compiler_tokens.specs.Steps.{Read, and_then}
use Rattle.template_compiler_grammar.specs.TemplateReaderParts.{tag_end, expect_word, end_name_by, block_end_by}
use Rattle.template_compiler_statement_parts.proofs.Again.{unit, again, tag_end_again, word_again}

name_again : {A : Type 0} (a : A) (ts : List Token) (b : Bool) →
    (if b then tag_end a ts else Err bad_syntax) ≡ again a (if b then tag_end unit ts else Err bad_syntax)
name_again a ts true = tag_end_again a ts
name_again a ts false = refl

end_name_again : {A : Type 0} (name : List ℕ) (a : A) (ts : List Token) → end_name_by name a ts ≡ again a (end_name_by name unit ts)
unfolding end_name_by
end_name_again name a [] = tag_end_again a []
end_name_again name a (identifier n ∷ ts) = name_again a ts (bytes_eq n name)
end_name_again name a (t ∷ ts) = tag_end_again a (t ∷ ts)

block_end_under : {A : Type 0} (name : List ℕ) (a : A) (r : Read (Unit {0})) →
    and_then (again a r) (end_name_by name) ≡ again a (and_then r (end_name_by name))
unfolding and_then
block_end_under name a (Ok x) = end_name_again name a x.1
block_end_under name a (Err f) = refl

pub block_end_again : {A : Type 0} (name : List ℕ) (a : A) (ts : List Token) → block_end_by name a ts ≡ again a (block_end_by name unit ts)
unfolding block_end_by
block_end_again name a (block_start ∷ ts) =
    ap (λ m. and_then m (end_name_by name)) (word_again (codes "endblock") a ts) ∙ block_end_under name a (expect_word (codes "endblock") unit ts)
block_end_again name a _ = refl
