use Rattle.std.proofs.Common.{◌∙◌, ap, map, refl}
use Rattle.std.proofs.lemmas.Result.{IfOk-weaker}
use Rattle.clap.proofs.WalkLemmas.{raw_values-rows}
use Rattle.clap.specs.Words.{all_of, found_of, rows_of}
use Rattle.template_program_words.proofs.Matches.{values_read}
use Rattle.template_program_words.proofs.found.values.Goals as goal

pub returns : goal.returns
returns c =
    let found = found_of c.args.matches.now in
    IfOk-weaker c.from_slice.result _ _ (λ values items. ap (map (λ v. v.now)) items
    ∙ (ap (λ s. map (λ v. v.now) s.now) c.unwrap_or.ensures
    ∙ values_read c.get_strs.result _ (all_of c.args.id.now (rows_of found)) refl
    (c.get_strs.ensures ∙ raw_values-rows found c.args.id.now))) c.from_slice.ensures.items
