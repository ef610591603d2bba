use Rattle.std.proofs.Common.{◌≡◌, ◌∙◌, IfOk, ℕ, List, Option, codes, refl, subst, sym, Some}
use Rattle.std.proofs.lemmas.Result.{IfErr-weaker}
use Rattle.clap.specs.Words.{Row, found_of, rows_of, subcommand_rows_of}
use Rattle.template_program_words.specs.Reading.{ReadsWords}
use Rattle.template_program_words.proofs.Matches.{RefusesWords-render, is_pair, name_of_rows}
use Rattle.template_program_words.proofs.found.words_in.Goals as goal

pub returns-in-Some-clause-reads : goal.returns-in-Some-clause-reads
returns-in-Some-clause-reads c =
    let matches = c.args.matches.now in
    let found : subcommand_rows_of matches ≡ Some (codes "render", rows_of (found_of c.in-Some.render.now)) =
    is_pair (subcommand_rows_of matches) (codes "render") _ (name_of_rows matches ∙ c.in-Some.ensures.found.0 refl) c.in-Some.ensures.rows in
    subst (λ (f : Option (List ℕ × List Row)). IfOk c.render_words.result (ReadsWords f)) (sym found) c.render_words.ensures.reads

pub returns-in-Some-clause-refuses : goal.returns-in-Some-clause-refuses
returns-in-Some-clause-refuses c =
    let matches = c.args.matches.now in
    let rows = rows_of (found_of c.in-Some.render.now) in
    let found : subcommand_rows_of matches ≡ Some (codes "render", rows) =
    is_pair (subcommand_rows_of matches) (codes "render") rows (name_of_rows matches ∙ c.in-Some.ensures.found.0 refl) c.in-Some.ensures.rows in
    IfErr-weaker c.render_words.result _ _ (λ fault. RefusesWords-render (subcommand_rows_of matches) rows fault found) c.render_words.ensures.refuses
