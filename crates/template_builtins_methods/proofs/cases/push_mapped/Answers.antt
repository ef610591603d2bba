use Rattle.std.proofs.Common.{◌≡◌, ℕ, Option, None, Some, ◌++◌, option_to_list, sym, ◌∙◌, append_assoc}
use Rattle.std.specs.Char.Iter.{case_mapping_first, case_mapping_second, case_mapping_third, case_mapping_chars}
use Rattle.std.proofs.lemmas.Result.{on_ok_weaker}
use Rattle.std.proofs.lemmas.Str.{encodes-append}
use Rattle.template_builtins_methods.proofs.cases.push_mapped.Goals as goal

listed : (s : _) (a b c : Option ℕ) → case_mapping_first s ≡ a → case_mapping_second s ≡ b → case_mapping_third s ≡ c
    → case_mapping_chars s ≡ option_to_list a ++ (option_to_list b ++ option_to_list c)
listed s None None None p q r = rw (p, q, r)
listed s None None (Some z) p q r = rw (p, q, r)
listed s None (Some y) None p q r = rw (p, q, r)
listed s None (Some y) (Some z) p q r = rw (p, q, r)
listed s (Some x) None None p q r = rw (p, q, r)
listed s (Some x) None (Some z) p q r = rw (p, q, r)
listed s (Some x) (Some y) None p q r = rw (p, q, r)
listed s (Some x) (Some y) (Some z) p q r = rw (p, q, r)

pub returns : goal.returns
returns c =
    let one = c.next.ensures.steps in
    let two = c.next-2.ensures.steps in
    let three = c.next-3.ensures.steps in
    let all = listed c.args.mapped c.next.result c.next-2.result c.next-3.result (sym one.0) (sym (two.0 ∙ one.1)) (sym (three.0 ∙ two.1 ∙ one.2)) in
    on_ok_weaker c.push_some-3.result
    (λ last. last ∙ rw (c.in_ok-push_some-2.ensures, c.in_ok-push_some.ensures, all) (simp (encodes-append, append_assoc)))
    c.push_some-3.ensures
