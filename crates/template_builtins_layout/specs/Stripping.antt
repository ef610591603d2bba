-- Texts without tags.
use Rattle.std.specs.Prelude.{ℕ, List, codes}
use Rattle.template_builtins_layout.specs.Tags.{without}
use Rattle.template_builtins_layout.specs.Spacing.{single_spaced}
use Rattle.template_builtins_layout.specs.References.{unescaped}

-- without comments, then without tags
abbrev pub without_tags : List ℕ → List ℕ
without_tags s = without (codes "<") (codes ">") (without (codes "<!--") (codes "-->") s)

-- and with single spaces, and with characters for their references
abbrev pub stripped : List ℕ → List ℕ
stripped s = unescaped (single_spaced (without_tags s))
