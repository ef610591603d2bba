use Rattle.std.proofs.Common.{◌≡◌, ◌∙◌, ℕ, List, [], Option, IfErr, IfOk, ap, map, refl, subst, sym, true}
use Rattle.clap.specs.Words.{App, Kinds, Row, app_of, fault_of, is_simple, is_simple_and_free, subcommand_of, subcommand_rows_of}
use Rattle.template_program_words.specs.CommandLine.{program}
use Rattle.template_program_words.specs.Reading.{ReadsWords}
use Rattle.template_program_words.specs.Refusals.{RefusesWords}
use Rattle.template_program_words.proofs.Matches.{OnOk-always, RefusesWords-kind}
use Rattle.template_program_words.proofs.reading.read_words.Goals as goal

is_plain : is_simple program ≡ true
is_plain = refl

is_free : is_simple_and_free program ≡ true
is_free = refl

pub returns-in-Ok-clause-reads : goal.returns-in-Ok-clause-reads
returns-in-Ok-clause-reads c =
    let texts = map (λ word. word.now) c.args.words.now in
    let shape = c.in_ok-program.ensures in
    let found : subcommand_rows_of c.in-Ok.matches ≡ subcommand_of program texts =
    (c.in-Ok.ensures.matches (ap is_simple shape ∙ is_plain)).1 ∙ ap (λ (a : App). subcommand_of a texts) shape in
    subst (λ (f : Option (List ℕ × List Row)). IfOk c.words_in.result (ReadsWords f)) found c.words_in.ensures.reads

pub returns-in-Ok-clause-taken : goal.returns-in-Ok-clause-taken
returns-in-Ok-clause-taken c =
    let texts = map (λ word. word.now) c.args.words.now in
    let shape = c.in_ok-program.ensures in
    let none : fault_of program texts ≡ [] =
    ap (λ (a : App). fault_of a texts) (sym shape) ∙ c.in-Ok.ensures.kinds (ap is_simple_and_free shape ∙ is_free) in
    OnOk-always c.words_in.result _ none

pub returns-in-Ok-clause-refuses : goal.returns-in-Ok-clause-refuses
returns-in-Ok-clause-refuses c =
    let texts = map (λ word. word.now) c.args.words.now in
    let shape = c.in_ok-program.ensures in
    let found : subcommand_rows_of c.in-Ok.matches ≡ subcommand_of program texts =
    (c.in-Ok.ensures.matches (ap is_simple shape ∙ is_plain)).1 ∙ ap (λ (a : App). subcommand_of a texts) shape in
    let none : fault_of program texts ≡ [] =
    ap (λ (a : App). fault_of a texts) (sym shape) ∙ c.in-Ok.ensures.kinds (ap is_simple_and_free shape ∙ is_free) in
    subst (λ (k : Kinds). IfErr c.words_in.result (RefusesWords k (subcommand_of program texts))) (sym none)
    (subst (λ (f : Option (List ℕ × List Row)). IfErr c.words_in.result (RefusesWords [] f)) found c.words_in.ensures.refuses)

pub returns-in-Err-clause-refuses : goal.returns-in-Err-clause-refuses
returns-in-Err-clause-refuses c =
    let texts = map (λ word. word.now) c.args.words.now in
    let shape = c.in_ok-program.ensures in
    let among = c.in-Err.ensures.kinds (ap is_simple_and_free shape ∙ is_free) in
    let refuses : RefusesWords (fault_of (app_of c.in_ok-program.field-0) texts) (subcommand_of program texts) c.fault_from.result =
    RefusesWords-kind _ _ _ _ among c.fault_from.ensures in
    subst (λ (a : App). RefusesWords (fault_of a texts) (subcommand_of program texts) c.fault_from.result) shape refuses
