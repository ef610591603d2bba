-- One more document.
use Rattle.std.proofs.Common.{◌≡◌, ◌+◌, ◌<◌, ◌≤◌, ℕ, List, ◌++◌, None, sym, ap, ◌∙◌, drop, length, get_or}
use Rattle.std.proofs.lemmas.List.{at_drop_more, at_drop_all}
use Rattle.std.specs.Option.{option_or}
use Rattle.template_values_errors.specs.declared.ErrorKind.{ErrorKind}
use Rattle.template_values_json.specs.Json.{IsRefusal}
use Rattle.template_values_json.specs.declared.contexts.Floats.{Floats}
use Rattle.template_values_core.specs.Maps.{last_at}
use Rattle.template_values_core.specs.Shape.{pairs_in}
use Rattle.template_values_core.specs.declared.value.Entry.{Entry}
use Rattle.template_program_contexts.specs.Documents.{member_of, fault_of_document, documents_under, fault_of_documents}
use Rattle.template_program_contexts.specs.Entries.{Say}
use Rattle.template_program_contexts.specs.declared.documents.Document.{Document}
use Rattle.template_program_contexts.proofs.Refusals.{or_faultless, refusal_first}
use Rattle.template_program_contexts.proofs.Saying.{LeftSay, left_append}

-- the document at an index
module _ (floats : Floats) (ds : List Document) (k : ℕ) (other : Document) (below : k < length ds) where
  left_fault : fault_of_documents floats (drop k ds) ≡ option_or (fault_of_document floats (get_or ds k other)) (fault_of_documents floats (drop (k + 1) ds))
  left_fault = at_drop_more (fault_of_documents floats) ds k other below

  left_under : (name : List ℕ) → documents_under floats (drop k ds) name ≡ option_or (documents_under floats (drop (k + 1) ds) name) (member_of floats (get_or ds k other) name)
  left_under name = at_drop_more (λ xs. documents_under floats xs name) ds k other below

  -- it is not refused
  pub document_passes : fault_of_document floats (get_or ds k other) ≡ None → fault_of_documents floats (drop k ds) ≡ fault_of_documents floats ds
      → fault_of_documents floats (drop (k + 1) ds) ≡ fault_of_documents floats ds
  document_passes none h = sym (or_faultless (fault_of_document floats (get_or ds k other)) (fault_of_documents floats (drop (k + 1) ds)) none) ∙ sym left_fault ∙ h

  -- it is refused
  pub document_refused : (kinds : List ErrorKind) → IsRefusal (fault_of_document floats (get_or ds k other)) kinds → fault_of_documents floats (drop k ds) ≡ fault_of_documents floats ds
      → IsRefusal (fault_of_documents floats ds) kinds
  document_refused kinds refused h = rw (sym h, left_fault) (refusal_first _ _ kinds refused)

  -- its entries are put behind those so far
  pub document_said : (es ms : List Entry) → Say (member_of floats (get_or ds k other)) ms → LeftSay (documents_under floats (drop k ds)) es (documents_under floats ds)
      → LeftSay (documents_under floats (drop (k + 1) ds)) (es ++ ms) (documents_under floats ds)
  document_said es ms says h =
      left_append (documents_under floats (drop (k + 1) ds)) (member_of floats (get_or ds k other)) (documents_under floats ds) es ms says
      (λ name. ap (λ found. option_or found (last_at name (pairs_in es))) (sym (left_under name)) ∙ h name)

-- none is left
pub documents_end : (floats : Floats) (ds : List Document) (k : ℕ) (es : List Entry) → length ds ≤ k → LeftSay (documents_under floats (drop k ds)) es (documents_under floats ds)
    → Say (documents_under floats ds) es
documents_end floats ds k es above h =
    λ name. ap (λ found. option_or found (last_at name (pairs_in es))) (sym (at_drop_all (λ xs. documents_under floats xs name) ds k above)) ∙ h name

pub documents_pass : (floats : Floats) (ds : List Document) (k : ℕ) → length ds ≤ k → fault_of_documents floats (drop k ds) ≡ fault_of_documents floats ds → fault_of_documents floats ds ≡ None
documents_pass floats ds k above h = sym h ∙ at_drop_all (fault_of_documents floats) ds k above
