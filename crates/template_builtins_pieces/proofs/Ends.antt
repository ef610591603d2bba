-- Texts that stand at an end of another.
use Rattle.std.proofs.Common.{◌≡◌, ℕ, ◌-◌, Bool, true, false, cond, List, length, take, drop, None, sym, ap, subst, ◌∙◌, arith}
use Rattle.std.specs.Str.{IsCharBoundary}
use Rattle.std.specs.Str.Pattern.{FindsTextPrefix, FindsTextSuffix, StripsPrefix, StripsSuffix}
use Rattle.std.proofs.lemmas.Str.Pattern.{starts_text, ends_text}
use Rattle.template_builtins_pieces.specs.Affixes.{without_prefix, without_suffix}

pub prefix_cut : (p s x : List ℕ) → StripsPrefix (FindsTextPrefix p) s x → x ≡ without_prefix p s
prefix_cut p s x (n, (len, split, edge), rest, count) =
    rest
    ∙ ap (λ (k : ℕ). drop k s) len
    ∙ ap (λ (b : Bool). cond b (drop (length p) s) s) (starts_text true p s (n, (len, split, edge), subst (IsCharBoundary s) (sym len) edge))

pub prefix_kept : (p s : List ℕ) → FindsTextPrefix p s None → s ≡ without_prefix p s
prefix_kept p s lacks = ap (λ (b : Bool). cond b (drop (length p) s) s) (starts_text false p s lacks)

pub suffix_cut : (p s x : List ℕ) → StripsSuffix (FindsTextSuffix p) s x → x ≡ without_suffix p s
suffix_cut p s x (n, (len, split, edge), rest, count) =
    rest
    ∙ ap (λ (k : ℕ). take (length s - k) s) len
    ∙ ap (λ (b : Bool). cond b (take (length s - length p) s) s)
    (ends_text true p s (n, (len, split, edge), omega (arith, count), subst (λ (k : ℕ). IsCharBoundary s (length s - k)) (sym len) edge))

pub suffix_kept : (p s : List ℕ) → FindsTextSuffix p s None → s ≡ without_suffix p s
suffix_kept p s lacks = ap (λ (b : Bool). cond b (take (length s - length p) s) s) (ends_text false p s lacks)
