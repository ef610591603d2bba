use Rattle.std.proofs.Common.{arith, ℕ, ◌/◌, ◌%◌, List, [], ◌∷◌, ◌++◌, sym, ap, ◌∙◌, append_assoc, string_bytes}
use Rattle.std.proofs.lemmas.Result.{on_ok_weaker}
use Rattle.std.specs.Fmt.{digit_glyph}
use Rattle.template_builtins_formats.specs.Digits.{is_upper, some_digits}
use Rattle.template_builtins_formats.proofs.Figures.{digits_more}
use Rattle.template_builtins_formats.proofs.digits.+push_digits.Goals as goal

pub returns : goal.returns
returns t c =
    let more = digits_more c.args.base c.radix_of-radix.result c.args.number c.radix_of-radix.ensures.radix c.radix_of-radix.ensures.least (omega arith) in
    let last : List ℕ = digit_glyph (is_upper c.args.base) (c.args.number % c.radix_of-radix.result) ∷ [] in
    on_ok_weaker c.push_digit.result
    (λ w. w
    ∙ ap (λ (x : List ℕ). x ++ last) c.in_ok-push_digits.ensures
    ∙ append_assoc (string_bytes c.args.text.now) (some_digits c.args.base (c.args.number / c.radix_of-radix.result)) last
    ∙ ap (λ (x : List ℕ). string_bytes c.args.text.now ++ x) (sym more))
    c.push_digit.ensures
