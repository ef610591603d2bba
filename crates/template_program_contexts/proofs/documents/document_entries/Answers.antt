use Rattle.template_program_contexts.proofs.EachDocument.{document_passes, document_said}
use Rattle.template_program_contexts.proofs.Saying.{plain_append}
use Rattle.template_program_contexts.proofs.documents.document_entries.Goals as goal

pub loop-document-preserved : goal.loop-document-preserved
loop-document-preserved c =
    let floats = c.args.floats in
    let ds = c.args.documents.now in
    let k = c.loop-document.document-index in
    let es = c.loop-document.entries.items in
    let ms = c.in_ok-members.members.items in
    rw c.in_ok-append.ensures.items (record {
      fault = document_passes floats ds k _ c.loop-document-test.true c.in_ok-members.ensures.faultless c.loop-document.invariant.fault;
      say = document_said floats ds k _ c.loop-document-test.true es ms c.in_ok-members.ensures.says c.loop-document.invariant.say;
      plain = plain_append es ms c.loop-document.invariant.plain c.in_ok-members.ensures.plain;
    })
