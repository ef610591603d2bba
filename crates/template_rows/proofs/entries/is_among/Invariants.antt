use Rattle.std.proofs.Common.{◌≡◌, drop, map}
use Rattle.template_rows.specs.Entries.{is_among}
use Rattle.template_rows.proofs.entries.is_among.Given as goal

abbrev pub invariant-loop-word : goal.invariant-loop-word
invariant-loop-word l =
    is_among (map (λ word. word.now) l.known) l.name ≡ is_among (map (λ word. word.now) (drop l.word-index l.known)) l.name
