-- What it tells of five starts that they are apart.
use Rattle.std.proofs.Common.{◌≡◌, ℕ, List, refl, sym, ◌∙◌}
use Rattle.template_compiler_tokens.specs.Starts.{AreApart, Differ}
use Rattle.template_compiler_syntax.specs.declared.StartMarker.TheVariants.{Variable, Block, Comment, LineStatement, LineComment}
use Rattle.template_compiler_syntax.specs.Syntax.{Syntax, start_text, IsApart}

turned : {a b : List ℕ} → Differ a b → Differ b a
turned differ set e = differ (λ none. set (e ∙ none)) (sym e)

same_differ : {a b a' b' : List ℕ} → a ≡ a' → b ≡ b' → Differ a b → Differ a' b'
same_differ p q differ set e = differ (λ none. set (sym p ∙ none)) (p ∙ (e ∙ sym q))

-- the same starts
pub same_apart : {v b c s d v' b' c' s' d' : List ℕ} → v ≡ v' → b ≡ b' → c ≡ c' → s ≡ s' → d ≡ d' → AreApart v b c s d → AreApart v' b' c' s' d'
same_apart is_v is_b is_c is_s is_d h = record {
  vb = same_differ is_v is_b h.vb;
  vc = same_differ is_v is_c h.vc;
  vs = same_differ is_v is_s h.vs;
  vd = same_differ is_v is_d h.vd;
  bc = same_differ is_b is_c h.bc;
  bs = same_differ is_b is_s h.bs;
  bd = same_differ is_b is_d h.bd;
  cs = same_differ is_c is_s h.cs;
  cd = same_differ is_c is_d h.cd;
  sd = same_differ is_s is_d h.sd;
}

-- the starts of a syntax
abbrev pub StartsApart : Syntax → Type 0
StartsApart x = AreApart (start_text x Variable) (start_text x Block) (start_text x Comment) (start_text x LineStatement) (start_text x LineComment)

pub all_apart : (x : Syntax) → StartsApart x → IsApart x
all_apart x h Variable Variable set e = refl
all_apart x h Variable Block set e = absurd (h.vb set e)
all_apart x h Variable Comment set e = absurd (h.vc set e)
all_apart x h Variable LineStatement set e = absurd (h.vs set e)
all_apart x h Variable LineComment set e = absurd (h.vd set e)
all_apart x h Block Variable set e = absurd (turned h.vb set e)
all_apart x h Block Block set e = refl
all_apart x h Block Comment set e = absurd (h.bc set e)
all_apart x h Block LineStatement set e = absurd (h.bs set e)
all_apart x h Block LineComment set e = absurd (h.bd set e)
all_apart x h Comment Variable set e = absurd (turned h.vc set e)
all_apart x h Comment Block set e = absurd (turned h.bc set e)
all_apart x h Comment Comment set e = refl
all_apart x h Comment LineStatement set e = absurd (h.cs set e)
all_apart x h Comment LineComment set e = absurd (h.cd set e)
all_apart x h LineStatement Variable set e = absurd (turned h.vs set e)
all_apart x h LineStatement Block set e = absurd (turned h.bs set e)
all_apart x h LineStatement Comment set e = absurd (turned h.cs set e)
all_apart x h LineStatement LineStatement set e = refl
all_apart x h LineStatement LineComment set e = absurd (h.sd set e)
all_apart x h LineComment Variable set e = absurd (turned h.vd set e)
all_apart x h LineComment Block set e = absurd (turned h.bd set e)
all_apart x h LineComment Comment set e = absurd (turned h.cd set e)
all_apart x h LineComment LineStatement set e = absurd (turned h.sd set e)
all_apart x h LineComment LineComment set e = refl

pub apart_all : (x : Syntax) → IsApart x → StartsApart x
apart_all x h = record {
  vb = λ set e. (let same = h Variable Block set e in cc);
  vc = λ set e. (let same = h Variable Comment set e in cc);
  vs = λ set e. (let same = h Variable LineStatement set e in cc);
  vd = λ set e. (let same = h Variable LineComment set e in cc);
  bc = λ set e. (let same = h Block Comment set e in cc);
  bs = λ set e. (let same = h Block LineStatement set e in cc);
  bd = λ set e. (let same = h Block LineComment set e in cc);
  cs = λ set e. (let same = h Comment LineStatement set e in cc);
  cd = λ set e. (let same = h Comment LineComment set e in cc);
  sd = λ set e. (let same = h LineStatement LineComment set e in cc);
}
