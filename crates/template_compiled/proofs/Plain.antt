-- A source in which no marker starts is one data, and stands for itself.
use Rattle.std.proofs.Common.{◌≡◌, ℕ, Bool, true, false, List, [], ◌∷◌, inl, inr, refl, subst}
use Rattle.template_values_errors.specs.declared.ErrorKind.{ErrorKind}
use Rattle.template_compiler_tree.specs.Tree.{template}
use Rattle.template_compiler_syntax.specs.Flat.{plain_tokens}
use Rattle.template_compiler_syntax.proofs.Theorems.{plain_text}
use Rattle.template_compiler_grammar.specs.TemplateGrammar.{IsTemplate, whole_template, statements_end, statements_next, text_statement}
use Rattle.template_compiler_syntax.specs.Syntax.{Syntax, IsUsable}
use Rattle.template_compiler_sources.specs.Scoped.{taken_words}
use Rattle.template_compiler_sources.specs.Source.{IsSource, RefusesSource, source_of}
use Rattle.template_compiled.specs.Plain.{IsPlain, StandsForItself, text_kept, text_tree}
use Rattle.template_compiled.specs.Sources.{Source, HasNoRoom, IsRefusedWith}
use Rattle.template_compiled.proofs.Trees.{one_tree}

text_grammar : (scoped : Bool) (text : List ℕ) → IsTemplate (taken_words scoped (plain_tokens text)) (text_tree text)
text_grammar true [] = whole_template statements_end refl
text_grammar false [] = whole_template statements_end refl
text_grammar true (byte ∷ bytes) = whole_template (statements_next text_statement statements_end) refl
text_grammar false (byte ∷ bytes) = whole_template (statements_next text_statement statements_end) refl

plain_source : (source : Source) → IsPlain source → IsSource source.syntax source.text (template (text_tree (text_kept source)))
plain_source source plain = source_of (plain_text source.syntax source.text plain) (text_grammar source.syntax.scoped_blocks (text_kept source))

plain_refused : (source : Source) → IsPlain source → (kinds : List ErrorKind) → IsUsable source.syntax → IsRefusedWith source kinds → HasNoRoom source.text kinds
plain_refused source plain kinds usable (inl (inl want)) = inr want
plain_refused source plain kinds usable (inl (inr (inl large))) = inl large
plain_refused source plain kinds usable (inl (inr (inr (fault, alone, faulty)))) = absurd (faulty.treeless _ (plain_source source plain))
plain_refused source plain kinds usable (inr room) = room

pub plain_stands : (source : Source) → IsUsable source.syntax → IsPlain source → StandsForItself source
plain_stands source usable plain = record {
  has_tree = plain_source source plain;
  tree = one_tree source (text_tree (text_kept source)) usable (plain_source source plain);
  refused = λ kinds. plain_refused source plain kinds usable;
}

-- a refusal of it, read under its syntax
pub plain_room : {kinds : List ErrorKind} (source : Source) (y : Syntax) → y ≡ source.syntax → IsUsable source.syntax → IsPlain source
    → RefusesSource y source.text kinds → HasNoRoom source.text kinds
plain_room {kinds} source y same usable plain refused =
    (plain_stands source usable plain).refused kinds (inl (subst (λ (z : Syntax). RefusesSource z source.text kinds) same refused))
