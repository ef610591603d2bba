use Rattle.std.proofs.Common.{◌≡◌, ◌∙◌, ap, sym, subst, ◌∷◌, ◌++◌, append_assoc, string_bytes}
use Rattle.std.proofs.KnownBytes.{Appends-trans}
use Rattle.std.proofs.lemmas.Result.{err_from_is_err_and}
use Rattle.std.specs.Io.KnownBytes.{Appends}
use Rattle.template_machine_surroundings.specs.Writes.{AppendsBeginning}
use Rattle.template_machine_surroundings.proofs.Beginnings.{beginning_longer, beginning_of_rest}
use Rattle.template_program_run.specs.Lines.{line_of, lines_of}
use Rattle.template_program_run.proofs.names.write_lines.Goals as goal

pub loop-name-preserved : goal.loop-name-preserved
loop-name-preserved g c =
    let whole = c.loop-name.invariant.whole in
    let line = line_of (string_bytes c.in-Some.name.now) in
    let next : c.loop-name.name-iterator ≡ c.in-Some.name.now ∷ c.next.new.self = c.in-Some.ensures.steps in
    let wrote : Appends (g.S.Sink.taken c.loop-name.sink) (g.S.Sink.taken c.write_line.new.sink) line =
    subst (λ text. Appends (g.S.Sink.taken c.loop-name.sink) (g.S.Sink.taken c.write_line.new.sink) (line_of text)) c.as_str.ensures.value c.in_ok-write_line.ensures.written in
    record {
      whole = (
        whole.0 ++ line,
        whole.1 ∙ ap (λ names. whole.0 ++ lines_of names) next ∙ sym (append_assoc whole.0 line (lines_of c.next.new.self)),
        Appends-trans _ _ _ whole.0 line whole.2 wrote,
      );
      quiet = c.in_ok-write_line.ensures.failures ∙ c.loop-name.invariant.quiet;
    }

pub returns-in_err-write_line-clause-beginning : goal.returns-in_err-write_line-clause-beginning
returns-in_err-write_line-clause-beginning g c =
    let p = err_from_is_err_and c.from_residual.result c.from_residual.ensures.1 in
    let whole = c.loop-name.invariant.whole in
    let line = line_of (string_bytes c.in-Some.name.now) in
    let next : c.loop-name.name-iterator ≡ c.in-Some.name.now ∷ c.next.new.self = c.in-Some.ensures.steps in
    let begun : AppendsBeginning (g.S.Sink.taken c.loop-name.sink) (g.S.Sink.taken c.write_line.new.sink) line =
    subst (λ text. AppendsBeginning (g.S.Sink.taken c.loop-name.sink) (g.S.Sink.taken c.write_line.new.sink) (line_of text)) c.as_str.ensures.value c.in_err-write_line.ensures.beginning in
    rw p.1
    (beginning_of_rest _ _ _ (lines_of c.args.names.now.keys) whole.0 (line ++ lines_of c.next.new.self)
    (whole.1 ∙ ap (λ names. whole.0 ++ lines_of names) next) whole.2 (beginning_longer _ _ line (lines_of c.next.new.self) begun))
