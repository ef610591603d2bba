use Rattle.std.proofs.Common.{rules, refl}
use Rattle.std.specs.Char.{is_whitespace}
use Rattle.std.specs.Str.Pattern.{FindsBy}
use Rattle.std.proofs.lemmas.Fn.{always_returns_same}
use Rattle.template_builtins_pieces.proofs.Wording.{by_white, first_parts, first_whole}
use Rattle.template_builtins_pieces.proofs.words.split_first_word.Goals as goal

pub returns-in-Some : goal.returns-in-Some
returns-in-Some c =
    let cut = by_white _ FindsBy _ _ _ c.in-Some.ensures.cases (always_returns_same _ _ _ (λ a r q k. search rules)) in
    let parts = first_parts _ _ _ c.utf8.text cut in
    record { word = parts.word; rest = parts.others; front = parts.front_text; back = parts.back_text }

pub returns-in-None : goal.returns-in-None
returns-in-None c =
    let parts = first_whole _ _ c.utf8.text (c.in-None.ensures.cases is_whitespace (always_returns_same _ _ _ (λ a r q k. search rules))) refl in
    record { word = parts.word; rest = parts.others; front = parts.front_text; back = parts.back_text }
