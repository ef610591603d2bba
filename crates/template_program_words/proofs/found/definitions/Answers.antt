use Rattle.std.proofs.Common.{◌≡◌, ◌∙◌, IfErr, IfOk, ℕ, List, ap, map, subst}
use Rattle.clap.specs.Words.{found_of, rows_of}
use Rattle.template_program_words.specs.Reading.{Defines, values_of}
use Rattle.template_program_words.specs.Refusals.{RefusesDefinitions}
use Rattle.template_program_words.proofs.found.definitions.Goals as goal

pub returns-clause-defines : goal.returns-clause-defines
returns-clause-defines c =
    let texts : map (λ v. v.now) c.as_slice.result.now ≡ values_of c.args.id.now (rows_of (found_of c.args.matches.now)) =
    ap (map (λ v. v.now)) c.as_slice.ensures.value ∙ c.in_ok-words.ensures in
    subst (λ (words : List (List ℕ)). IfOk c.definitions_in.result (λ d. Defines words d.items)) texts c.definitions_in.ensures.defines

pub returns-clause-refuses : goal.returns-clause-refuses
returns-clause-refuses c =
    let texts : map (λ v. v.now) c.as_slice.result.now ≡ values_of c.args.id.now (rows_of (found_of c.args.matches.now)) =
    ap (map (λ v. v.now)) c.as_slice.ensures.value ∙ c.in_ok-words.ensures in
    subst (λ (words : List (List ℕ)). IfErr c.definitions_in.result (RefusesDefinitions words)) texts c.definitions_in.ensures.refuses
