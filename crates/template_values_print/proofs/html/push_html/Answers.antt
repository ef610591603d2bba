use Rattle.std.proofs.Common.{◌≡◌, ℕ, List, ◌++◌, ◌-◌, arith, take, ◌∙◌, ap, subst, string_bytes, Ok, take-append-drop}
use Rattle.template_values_print.specs.Pieces.{Writes}
use Rattle.template_values_print.specs.declared.pieces.Markup.TheVariants.{Html}
use Rattle.template_values_print.proofs.PieceLemmas.{Writes-then}
use Rattle.template_values_print.proofs.html.push_html.Goals as goal

pub returns : goal.returns
returns c =
    let first : List ℕ = c.range.result.now in
    let rest : List ℕ = c.range_from.result.now in
    let old : List ℕ = string_bytes c.args.out.now in
    let all : c.plain_length-plain.result - 0 ≡ c.plain_length-plain.result = omega arith in
    let whole : first ++ rest ≡ c.args.piece.now =
    ap (λ (x : List ℕ). x ++ rest) (c.range.ensures.value ∙ ap (λ (n : ℕ). take n c.args.piece.now) all)
    ∙ ap (λ (x : List ℕ). take c.plain_length-plain.result c.args.piece.now ++ x) c.range_from.ensures.value
    ∙ take-append-drop c.plain_length-plain.result c.args.piece.now in
    let P : List ℕ → Type 0 = λ x. Writes Html old (Ok x) c.push_marked.result (string_bytes c.push_marked.new.out) in
    subst P whole (Writes-then Html old (string_bytes c.push_unmarked.new.out) (string_bytes c.push_marked.new.out) (Ok first) (Ok rest) c.push_marked.result c.in_ok-push_unmarked.ensures c.push_marked.ensures)
