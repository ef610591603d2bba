-- What the first call took, and a beginning of what it left, is a beginning of the text.
use Rattle.std.proofs.Common.{take, drop, Result, Ok, Err, OnErr, sym, ◌∙◌, subst}
use Rattle.std.proofs.lemmas.List.{take-append-drop}
use Rattle.template_machine_surroundings.specs.Writes.{AppendsBeginning}
use Rattle.template_machine_surroundings.proofs.Beginnings.{beginning_of_rest}
use Rattle.template_machine_surroundings.proofs.output.write_text.Goals as goal

on_error : {X E : Type 0} (result : Result X E) (P Q : Type 0) → (P → Q) → OnErr result P → OnErr result Q
on_error (Ok x) P Q f p = tt
on_error (Err e) P Q f p = f p

pub returns-clause-beginning : goal.returns-clause-beginning
returns-clause-beginning g c =
    let bytes = c.as_bytes-bytes.result.now in
    let count = c.in_ok-count.count in
    on_error c.write_bytes.result _ _
    (λ begun. beginning_of_rest _ _ _ c.args.text.now (take count bytes) (drop count bytes)
    (sym (take-append-drop count bytes ∙ c.as_bytes-bytes.ensures.value)) c.in_ok-count.ensures.bytes
    (subst (AppendsBeginning (g.S.Sink.taken c.put.new.self) (g.S.Sink.taken c.write_bytes.new.sink)) c.rest_after.ensures begun))
    c.write_bytes.ensures.beginning
