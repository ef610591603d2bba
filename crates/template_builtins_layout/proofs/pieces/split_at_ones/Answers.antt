use Rattle.std.proofs.Common.{◌-◌, ◌∙◌, chars, encode_utf8_all, length, refl}
use Rattle.template_builtins_layout.specs.Pieces.{first_ones}
use Rattle.template_builtins_layout.proofs.Cutting.{front_is}
use Rattle.template_builtins_layout.proofs.Blanks.{chars_spelled, cut_boundary, cut_size, rest_le}
use Rattle.template_builtins_layout.proofs.pieces.split_at_ones.Goals as goal

pub overflow_sub-size : goal.overflow_sub-size
overflow_sub-size c =
    rest_le c.args.text.now (encode_utf8_all (first_ones c.args.blank (chars c.args.text.now))) c.behind_ones-rest.result.now c.behind_ones-rest.ensures.parts

pub range-requires-clause-end_boundary : goal.range-requires-clause-end_boundary
range-requires-clause-end_boundary c =
    cut_boundary c.args.text.now (encode_utf8_all (first_ones c.args.blank (chars c.args.text.now))) c.behind_ones-rest.result.now
    (length c.args.text.now - length c.behind_ones-rest.result.now) c.behind_ones-rest.ensures.parts c.behind_ones-rest.utf8 refl

pub returns : goal.returns
returns c =
    let s = c.args.text.now in
    let first = first_ones c.args.blank (chars s) in
    let rest = c.behind_ones-rest.result.now in
    let parts = c.behind_ones-rest.ensures.parts in
    let spelled = c.range.ensures.value
    ∙ front_is s (encode_utf8_all first) rest (length s - length rest) parts (cut_size s (encode_utf8_all first) rest parts) in
    record {
      front = chars_spelled c.range.result.now first c.range.utf8 spelled;
      spelled = spelled;
      rest = c.behind_ones-rest.ensures.rest;
      text = c.behind_ones-rest.utf8;
    }
