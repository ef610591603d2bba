use Rattle.std.proofs.Common.{◌≡◌, ◌+◌, ◌-◌, ◌≤◌, length, take, drop, ◌∙◌, ap, subst, arith, take-take, length-take, length-drop}
use Rattle.template_compiler_tokens.specs.Bytes.{ArePlain}
use Rattle.template_compiler_tokens.specs.SourcePlaces.{IsBehind}
use Rattle.template_compiler_tokens.proofs.Stretches.{parted}
use Rattle.template_compiler_tokens.proofs.stretch.Stretch.begun.Goals as goal

pub returns-clause-stretch : goal.returns-clause-stretch
returns-clause-stretch c =
    let s = c.args.bytes.now in
    let at = c.args.at in
    let end = c.args.self.end in
    let n = c.plain_len.result in
    let m = c.min-2.result in
    let least = c.min.ensures in
    let limit = c.min-2.ensures in
    let near = c.beginning-near.ensures.bytes ∙ ap (λ t. take m t) c.split_at.ensures.back in
    let len = ap length near ∙ length-take m (drop at s) in
    let rest = length-drop at s in
    let count = c.plain_len.ensures.within in
    let low : n ≤ m = omega arith in
    let same : take n c.beginning-near.result.now ≡ take (at + n - at) (drop at s) =
    ap (λ t. take n t) near ∙ take-take n m (drop at s) low ∙ ap (λ k. take k (drop at s)) (let e : n ≡ at + n - at = omega arith in e) in
    let within = c.requires.within in
    record {
      first = subst (λ t. IsBehind t c.after_bytes-first.result) (parted s end at c.requires.behind)
          (c.after_bytes-first.ensures (take end s) (c.place.ensures s c.requires.stretch));
      ordered = omega arith;
      within = omega arith;
      plain = subst ArePlain same c.plain_len.ensures.plain;
      narrow = record { columns = omega arith; offsets = omega arith };
    }
