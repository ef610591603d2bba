use Rattle.std.proofs.Common.{◌≡◌, ℕ, ◌-◌, ◌≤◌, List, length, take, drop, Option, None, Some, Bor, ◌∙◌, ap, subst, arith}
use Rattle.std.proofs.lemmas.List.{length-drop}
use Rattle.std.proofs.lemmas.Str.{IsCharBoundary-start, IsCharBoundary-from_drop}
use Rattle.std.specs.Option.{unwrap_or}
use Rattle.std.specs.Str.{IsUtf8}
use Rattle.std.specs.Str.Pattern.{GetsRange}
use Rattle.template_compiler_sources.proofs.expression_tokens.blanks_before.Goals as goal

-- what stands before the text behind, where that may be cut off
front : (text behind : List ℕ) (found : Option (Bor (List ℕ))) (none : Bor (List ℕ)) (n cut : ℕ) → IsUtf8 text → IsUtf8 behind → GetsRange text 0 cut found →
    n ≤ length text → behind ≡ drop n text → cut ≡ n → (unwrap_or found none).now ≡ take n text
front text behind (Some x) none n cut text_utf8 behind_utf8 got within e same =
    let width : cut - 0 ≡ n = omega arith in got.0 ∙ ap (λ n. take n text) width
front text behind None none n cut text_utf8 behind_utf8 got within e same =
    absurd (got (omega arith) (IsCharBoundary-start text text_utf8)
    (rw same (IsCharBoundary-from_drop text n within (subst IsUtf8 e behind_utf8))))

pub returns : goal.returns
returns c = λ n within e.
    let same : length c.args.text.now - length c.args.behind.now ≡ n = omega (arith, ap length e, length-drop n c.args.text.now) in
    ap (λ (x : Bor (List ℕ)). x.now) c.unwrap_or.ensures ∙
    front c.args.text.now c.args.behind.now c.get.result _ n c.saturating_sub.result c.utf8.text c.utf8.behind c.get.ensures.cases within e
    (c.saturating_sub.ensures ∙ same)
