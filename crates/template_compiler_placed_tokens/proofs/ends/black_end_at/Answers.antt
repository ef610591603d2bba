use Rattle.std.proofs.Common.{◌≡◌, slice_index, refl, sym, ◌∙◌}
use Rattle.template_compiler_placed_tokens.proofs.EndBytes.{ends_not}
use Rattle.template_compiler_placed_tokens.proofs.ends.black_end_at.Goals as goal

pub returns-in-Some-clause-found : goal.returns-in-Some-clause-found
returns-in-Some-clause-found c = λ _.
    let s = c.args.bytes.now in
    let i = c.args.place in
    let text = c.args.end.delimiter.now in
    let other = c.if-not-may_begin_with.ensures refl in
    let found = c.in-Some.ensures.lookup.3 in
    let byte : c.in-Some.byte.now ≡ slice_index s i = found.1 0 in
    ends_not c.args.end.syntax.now s text c.args.end.kind i c.requires.end.text c.requires.black found.0 (record {
      first = λ e. other.0 (byte ∙ (e ∙ sym c.requires.end.first));
      minus = λ e. other.1 (byte ∙ e);
      plus = λ e. other.2 (byte ∙ e);
    })
