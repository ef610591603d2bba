use Rattle.std.proofs.Common.{inr}
use Rattle.template_program_run.proofs.starting.start.Goals as goal

pub returns-in-Ok : goal.returns-in-Ok
returns-in-Ok g c =
    let words = c.in-Ok.ensures in
    inr (c.in-Ok.words, words.reads, words.taken, c.follow_words.ensures)
