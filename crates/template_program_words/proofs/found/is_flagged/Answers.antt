use Rattle.std.proofs.Common.{◌∙◌}
use Rattle.clap.proofs.WalkLemmas.{one_text-rows}
use Rattle.clap.specs.Words.{found_of, one_of, rows_of}
use Rattle.template_program_words.proofs.Matches.{is_set-read}
use Rattle.template_program_words.proofs.found.is_flagged.Goals as goal

pub returns : goal.returns
returns c =
    let found = found_of c.args.matches.now in
    let id = c.args.id.now in
    c.unwrap_or.ensures ∙ is_set-read _ (one_of id (rows_of found)) c.get_one.result
    (λ none. c.get_one.ensures.none (one_text-rows found id ∙ none))
    (λ text some. c.get_one.ensures.value text (one_text-rows found id ∙ some))
