use Rattle.std.proofs.Common.{ℕ, length, string_bytes, ap, ◌∙◌, take}
use Rattle.std.specs.Str.{IsCharBoundary}
use Rattle.std.proofs.lemmas.Str.{IsUtf8-string_bytes}
use Rattle.template_values_forms.specs.Escaped.{escaped}
use Rattle.template_values_print.specs.declared.pieces.Markup.TheVariants.{Plain}
use Rattle.template_values_print.proofs.PieceLemmas.{AppendsOrRefuses-cut, AppendsOrRefuses-whole, Begins-boundary, Writes-begins}
use Rattle.template_values_print.proofs.escape.escape_to.Goals as goal

pub truncate-requires : goal.truncate-requires
truncate-requires g c =
    let place : IsCharBoundary (string_bytes c.escape_outer.new.out) (length (string_bytes c.args.out.now)) =
    Begins-boundary (string_bytes c.args.out.now) (string_bytes c.escape_outer.new.out) (IsUtf8-string_bytes c.args.out.now) (IsUtf8-string_bytes c.escape_outer.new.out)
    (Writes-begins Plain (string_bytes c.args.out.now) (string_bytes c.escape_outer.new.out) (escaped c.args.rule (g.R.Records.known c.args.records.now) c.args.value.now) c.in-Err.error c.in-Err.ensures) in
    λ _. rw (ap length c.as_str-length.ensures.value) (place.0, λ _. place.1)

pub returns-in-Ok : goal.returns-in-Ok
returns-in-Ok g c = AppendsOrRefuses-whole (string_bytes c.args.out.now) (string_bytes c.escape_outer.new.out) (escaped c.args.rule (g.R.Records.known c.args.records.now) c.args.value.now) tt c.in-Ok.ensures

pub returns-in-Err : goal.returns-in-Err
returns-in-Err g c = AppendsOrRefuses-cut (string_bytes c.args.out.now) (string_bytes c.escape_outer.new.out) (string_bytes c.truncate.new.self) (escaped c.args.rule (g.R.Records.known c.args.records.now) c.args.value.now) c.in-Err.error c.in-Err.ensures (c.truncate.ensures.bytes ∙ ap (λ (n : ℕ). take n (string_bytes c.escape_outer.new.out)) (ap length c.as_str-length.ensures.value))
