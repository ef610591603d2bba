use Rattle.std.proofs.Common.{◌≡◌, ℕ, ◌+◌, min, length, take, slice_get, sym, ap, ◌∙◌, add-one, arith}
use Rattle.std.specs.List.{sum_by}
use Rattle.std.specs.Option.{option_map_or}
use Rattle.template_compiler_code.specs.Listing.{code_in}
use Rattle.template_compiler_code.specs.Texts.{raw_length}
use Rattle.template_compiler_code.proofs.Sums.{sum_by-next, take-all, bounded-next, bounded-twice}
use Rattle.template_compiler_code.proofs.texts.buffer_size_hint.Goals as goal

pub loop-place-preserved : goal.loop-place-preserved
loop-place-preserved c =
    let code = code_in c.args.code.now in
    let k = c.loop-place.place in
    let more = option_map_or raw_length (slice_get code k) 0 in
    let bound : ℕ = 18446744073709551615 in
    let next = c.saturating_add-raw.ensures ∙ ap (λ n. min (c.loop-place.raw + n) bound) c.raw_length.ensures in
    let sum = sym (sum_by-next raw_length code k) ∙ ap (λ n. sum_by raw_length (take n code)) (sym (add-one k)) in
    bounded-next bound (sum_by raw_length (take k code)) more c.loop-place.raw c.saturating_add-raw.result c.loop-place.invariant next ∙
    ap (λ n. min n bound) sum

pub returns : goal.returns
returns c =
    let code = code_in c.args.code.now in
    let all : c.loop-place.place ≡ length code =
    omega (arith, c.loop-place-test.false, c.loop-place.auto.place-end, c.len-count.ensures) in
    let bound : ℕ = 18446744073709551615 in
    let raw = c.loop-place.invariant ∙
    ap (λ n. min (sum_by raw_length (take n code)) bound) all ∙ ap (λ cs. min (sum_by raw_length cs) bound) (take-all code) in
    bounded-twice bound (sum_by raw_length code) c.loop-place.raw c.saturating_mul.result raw c.saturating_mul.ensures
