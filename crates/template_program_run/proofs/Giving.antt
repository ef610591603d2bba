-- What the context is made of, as it was read.
use Rattle.std.proofs.Common.{◌≡◌, ◌∙◌, ℕ, List, [], ◌∷◌, MatchOption, None, Option, Some, map, subst, sym}
use Rattle.std.specs.Prelude.{option_to_list}
use Rattle.template_values_json.specs.declared.contexts.Floats.{Floats}
use Rattle.template_program_contexts.specs.declared.documents.Document.{Document}
use Rattle.template_program_contexts.specs.declared.documents.Form.{Form}
use Rattle.template_program_words.specs.declared.words.Words.{Words}
use Rattle.template_program_run.specs.Given.{AreJson, Given}
use Rattle.template_program_run.specs.Inputs.{IsGiven}
use Rattle.template_program_run.specs.Origins.{AreFrom, origins_of, shown_as}
use Rattle.template_program_run.specs.Told.{Told}

pub given_as_read : (told : Told) (words : Words) (given : Given) (documents : List (Form × List ℕ)) (values : List (List ℕ × List ℕ)) (floats : Floats)
    → IsGiven told words documents values floats → map shown_as given.documents ≡ documents → given.values ≡ values → given.floats ≡ floats
    → IsGiven told words (map shown_as given.documents) given.values given.floats
given_as_read told words given documents values floats read same_documents same_values same_floats = record {
  documents_read = subst (AreFrom told.content told.input (origins_of words)) (sym same_documents) read.documents_read;
  values_read = same_values ∙ read.values_read;
  floats_read = same_floats ∙ read.floats_read;
}

-- the bytes, as the slice of an optional document
pub alone_as_slice : (json : Option (List ℕ)) (document : Option Document) (documents : List Document) → AreJson json (option_to_list document)
    → MatchOption document (documents ≡ []) (λ d. documents ≡ d ∷ []) → AreJson json documents
alone_as_slice json None documents are is = subst (AreJson json) (sym is) are
alone_as_slice json (Some d) documents are is = subst (AreJson json) (sym is) are
