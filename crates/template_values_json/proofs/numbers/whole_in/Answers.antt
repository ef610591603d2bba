use Rattle.std.proofs.Common.{◌≡◌, drop, get_or, true, false, ◌==◌, option_and_then, sym, ap, ◌∙◌, arith}
use Rattle.std.proofs.lemmas.List.{take_all, length-drop}
use Rattle.fast_float.specs.Text.{Parts, scan}
use Rattle.serde_json.specs.Find.{as_integer}
use Rattle.serde_json.specs.Read.{number_of, number_from}
use Rattle.template_values_json.proofs.numbers.whole_in.Goals as goal

pub returns-then-has_minus : goal.returns-then-has_minus
unfolding number_of
returns-then-has_minus c =
    let s = c.args.bytes.now in
    let signed : (get_or s 0 0 == 45) ≡ true = sym c.if-has_minus.ensures.value in
    let parts : c.scan.result ≡ scan (drop 1 s) = c.scan.ensures.parts ∙ ap scan (take_all _ (drop 1 s) (omega (arith, length-drop 1 s))) in
    let read : number_from true (scan (drop 1 s)) ≡ number_of s = rw signed in
    c.whole_below_zero.ensures ∙ ap (λ (p : Parts). option_and_then as_integer (number_from true p)) parts ∙ ap (option_and_then as_integer) read

pub returns-else-has_minus : goal.returns-else-has_minus
unfolding number_of
returns-else-has_minus c =
    let s = c.args.bytes.now in
    let unsigned : (get_or s 0 0 == 45) ≡ false = sym c.if-has_minus.ensures.value in
    let read : number_from false (scan s) ≡ number_of s = rw unsigned in
    c.whole_from_zero.ensures ∙ ap (λ (p : Parts). option_and_then as_integer (number_from false p)) c.scan-else-has_minus.ensures.parts ∙ ap (option_and_then as_integer) read
