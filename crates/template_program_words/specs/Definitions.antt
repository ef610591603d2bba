-- What `NAME=TEXT` is.
use Rattle.std.specs.Prelude.{ℕ, List, nat_eq}
use Rattle.std.specs.List.{before_first, after_first}

-- `=`
abbrev pub equals_sign : ℕ
equals_sign = 61

-- what stands before the first `=`
abbrev pub definition_name : List ℕ → List ℕ
definition_name words = before_first (λ byte. nat_eq byte equals_sign) words

-- what stands behind the first `=`
abbrev pub definition_text : List ℕ → List ℕ
definition_text words = after_first (λ byte. nat_eq byte equals_sign) words
