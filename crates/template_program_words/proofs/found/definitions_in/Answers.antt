use Rattle.std.proofs.Common.{◌≡◌, ◌<◌, ℕ, List, [], Bor, false, true, arith, length, refl, slice_index_or}
use Rattle.std.proofs.lemmas.List.{map_more}
use Rattle.template_program_words.proofs.Defined.{Defines-more, LacksSign-at}
use Rattle.template_program_words.proofs.found.definitions_in.Goals as goal

pub returns-in_default-clause-refuses : goal.returns-in_default-clause-refuses
returns-in_default-clause-refuses c =
    let none : Bor (List ℕ) = record { ref_ptr = (0, 0); now = [] } in
    let within : c.loop-text.text-index < length c.args.words.now = omega arith in
    LacksSign-at c.args.words.now c.loop-text.text-index none within (λ has.
    let bad : false ≡ true = c.in_default.ensures.found.1 has in
    cc)

pub loop-text-preserved : goal.loop-text-preserved
loop-text-preserved c =
    let none : Bor (List ℕ) = record { ref_ptr = (0, 0); now = [] } in
    let within : c.loop-text.text-index < length c.args.words.now = omega arith in
    let text = slice_index_or c.args.words.now c.loop-text.text-index none in
    let more = Defines-more _ c.loop-text.definitions.items text.now c.in-Some.definition c.loop-text.invariant
    (c.in-Some.ensures.found.0 refl) c.in-Some.ensures.name c.in-Some.ensures.text in
    rw (map_more (λ t. t.now) c.args.words.now c.loop-text.text-index none within, c.in_ok-push.ensures.items) more
