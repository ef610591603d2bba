use Rattle.std.proofs.Common.{◌≡◌, drop}
use Rattle.template_values_json.specs.Entries.{ArePlain}
use Rattle.template_program_contexts.specs.Documents.{documents_under, fault_of_documents}
use Rattle.template_program_contexts.proofs.Saying.{LeftSay}
use Rattle.template_program_contexts.proofs.documents.document_entries.Given as goal

-- the documents that are left, and else the entries so far, say what all documents do; and they are refused as all are
abbrev pub invariant-loop-document : goal.invariant-loop-document
invariant-loop-document l = record {
  fault : fault_of_documents l.floats (drop l.document-index l.documents) ≡ fault_of_documents l.floats l.documents;
  say : LeftSay (documents_under l.floats (drop l.document-index l.documents)) l.entries.items (documents_under l.floats l.documents);
  plain : ArePlain l.entries.items;
}
