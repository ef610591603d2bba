use Rattle.std.proofs.Common.{◌≡◌, ℕ, Bool, true, false, cond, ◌||◌, List, Bor, refl, ap, ◌∙◌}
use Rattle.std.specs.Ordering.{is_eq, nat_cmp}
use Rattle.std.specs.Cmp.Lexicographic.{slice_cmp}
use Rattle.std.proofs.lemmas.Map.Text.{is_eq-slice_cmp}
use Rattle.template_compiler_sources.specs.Seen.{has_seen}
use Rattle.template_compiler_sources.proofs.Seeing.{turned}
use Rattle.template_compiler_sources.proofs.distinct.see.Goals as goal

cond_or : (test before : Bool) → cond test true before ≡ (test || before)
cond_or true before = refl
cond_or false before = refl

pub returns-clause-seen : goal.returns-clause-seen
returns-clause-seen c = λ q.
    let w : Bor (List ℕ) = record { ref_ptr = (0, 0); now = q } in
    let updated : has_seen c.insert.new.self q ≡ cond (is_eq (slice_cmp nat_cmp c.args.name.now q)) true (has_seen c.args.seen.now q) =
    c.in_ok-insert.ensures.updates.0 w in
    let same = is_eq-slice_cmp c.args.name.now q ∙ turned c.args.name.now q in
    updated ∙ cond_or (is_eq (slice_cmp nat_cmp c.args.name.now q)) (has_seen c.args.seen.now q) ∙
    ap (λ b. b || has_seen c.args.seen.now q) same
