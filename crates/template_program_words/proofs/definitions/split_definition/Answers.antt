-- Where the first `=` is sought in vain, there is none.
use Rattle.std.proofs.Common.{◌≡◌, ◌<◌, ℕ, List, Contains, length, nat_eq, slice_index_or, false, ap, arith, rules}
use Rattle.std.specs.List.{position_or_len}
use Rattle.std.proofs.lemmas.List.Sums.{fails_before_first}
use Rattle.template_program_words.specs.Definitions.{equals_sign}
use Rattle.template_program_words.proofs.definitions.split_definition.Goals as goal

lacks_sign : (words : List ℕ) → position_or_len (λ byte. nat_eq byte equals_sign) words ≡ length words → Contains words equals_sign → ⊥
lacks_sign words none place =
    let before : place.0 < position_or_len (λ byte. nat_eq byte equals_sign) words = omega (arith, place.1) in
    let other : nat_eq (slice_index_or words place.0 equals_sign) equals_sign ≡ false =
    fails_before_first (λ byte. nat_eq byte equals_sign) words place.0 equals_sign before in
    let same : nat_eq (slice_index_or words place.0 equals_sign) equals_sign ≡ nat_eq equals_sign equals_sign =
    ap (λ byte. nat_eq byte equals_sign) place.2 in
    cc

pub returns-in_err-name-clause-found : goal.returns-in_err-name-clause-found
returns-in_err-name-clause-found c =
    (search rules, λ found. absurd (lacks_sign _ (c.in_err-name.ensures.byte (omega arith) (λ w o h. h)) found))
