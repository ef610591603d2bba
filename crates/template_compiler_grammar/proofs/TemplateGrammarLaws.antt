-- What follows from the laws on the reader.
use Rattle.std.proofs.Common.{◌≡◌, ◌⊎◌, inl, inr, List, Result, Ok, Err, refl, sym, ◌∙◌}
use Rattle.template_compiler_tree.specs.Tree.{Statements}
use Rattle.template_compiler_tokens.specs.Token.{Token, TokenFault}
use Rattle.template_compiler_grammar.specs.TemplateGrammar.{IsTemplate}
use Rattle.template_compiler_grammar.specs.TreeReader.{template_of}
use Rattle.template_compiler_grammar.proofs.TemplateLaws.{tree_complete}
use Rattle.template_compiler_grammar.proofs.TemplatesSound.{template_sound}

pub one_template : (ts : List Token) (ss us : Statements) → IsTemplate ts ss → IsTemplate ts us → ss ≡ us
one_template ts ss us x y = let same = sym (tree_complete ts ss x) ∙ tree_complete ts us y in cc

decided_by : (ts : List Token) (r : Result Statements TokenFault) → template_of ts ≡ r →
    ((ss : Statements) × IsTemplate ts ss) ⊎ ((ss : Statements) → IsTemplate ts ss → ⊥)
decided_by ts (Ok ss) h = inl (ss, template_sound ts ss h)
decided_by ts (Err f) h = inr (λ ss x. let read = tree_complete ts ss x in cc)

pub is_decided : (ts : List Token) → ((ss : Statements) × IsTemplate ts ss) ⊎ ((ss : Statements) → IsTemplate ts ss → ⊥)
is_decided ts = decided_by ts (template_of ts) refl
