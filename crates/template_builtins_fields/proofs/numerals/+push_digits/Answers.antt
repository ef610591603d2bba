use Rattle.std.proofs.Common.{◌≡◌, ◌++◌, ◌/◌, ◌%◌, List, ℕ, [], ◌∷◌, map, string_bytes, sym, ap, ◌∙◌, append_assoc}
use Rattle.std.specs.Fmt.{digit_glyph}
use Rattle.std.specs.Int.Digits.{digits_of}
use Rattle.template_builtins_fields.proofs.Numbers.{digit_alone, digit_more}
use Rattle.template_builtins_fields.proofs.numerals.+push_digits.Goals as goal

pub returns-then-number-base : goal.returns-then-number-base
returns-then-number-base t c =
    rw (digit_alone c.args.base c.args.number c.args.upper c.requires.least c.requires.some c.if-number-base.true) c.push_digit.ensures

pub returns : goal.returns
returns t c =
    let last : List ℕ = map (digit_glyph c.args.upper) (c.args.number % c.args.base ∷ []) in
    let e : string_bytes c.args.out.now ++ map (digit_glyph c.args.upper) (digits_of c.args.base c.args.number) ≡ string_bytes c.push_digits.new.out ++ last =
    ap (λ (x : List ℕ). string_bytes c.args.out.now ++ x) (digit_more c.args.base c.args.number c.args.upper c.requires.least c.requires.some)
    ∙ sym (append_assoc (string_bytes c.args.out.now) (map (digit_glyph c.args.upper) (digits_of c.args.base (c.args.number / c.args.base))) last)
    ∙ ap (λ (x : List ℕ). x ++ last) (sym c.in_ok-push_digits.ensures) in
    rw e c.push_digit-2.ensures
