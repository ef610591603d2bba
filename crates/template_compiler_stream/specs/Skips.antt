-- What is passed where it stands next.
use Rattle.std.specs.Prelude.{◌≡◌, ℕ, Bool, true, false, List, ◌∷◌, ◌++◌, Option, None, Some, Result, Ok, Err}
use Rattle.std.specs.Borrow.{Bor}
use Rattle.template_compiler_tokens.specs.Token.{Token, Symbol, symbol, identifier, string, dot, assign}
use Rattle.template_compiler_grammar.specs.Words.{begins_word, begins_dotted}
use Rattle.template_compiler_tokens.specs.Steps.{goes, stops}
use Rattle.template_compiler_grammar.specs.ReaderParts.{text_step}
use Rattle.template_compiler_stream.specs.Signs.{begins_symbol}

abbrev pub SkipsSign : Symbol → List Token → List Token → Bool → Type 0
SkipsSign s old new true = old ≡ symbol s ∷ new
SkipsSign s old new false = (new ≡ old) × (begins_symbol s old ≡ false)

abbrev pub SkipsWord : List ℕ → List Token → List Token → Bool → Type 0
SkipsWord w old new true = old ≡ identifier w ∷ new
SkipsWord w old new false = (new ≡ old) × (begins_word w old ≡ false)

-- a dot and a name
abbrev pub SkipsDotted : List Token → List Token → Option (Bor (List ℕ)) → Type 0
SkipsDotted old new (Some part) = old ≡ symbol dot ∷ identifier part.now ∷ new
SkipsDotted old new None = (new ≡ old) × (begins_dotted old ≡ false)

-- a name and a `=` stand next
abbrev pub begins_keyword : List Token → Bool
begins_keyword (identifier n ∷ symbol assign ∷ ts) = true
begins_keyword _ = false

abbrev pub SkipsKeyword : List Token → List Token → Option (Bor (List ℕ)) → Type 0
SkipsKeyword old new (Some name) = old ≡ identifier name.now ∷ symbol assign ∷ new
SkipsKeyword old new None = (new ≡ old) × (begins_keyword old ≡ false)

-- a text literal, which is put behind a text
abbrev pub SkipsText : {E : Type 0} → List ℕ → List Token → List ℕ → List Token → Result Bool E → Type 0
SkipsText s old t new (Ok true) = text_step s old ≡ goes t new
SkipsText s old t new (Ok false) = (text_step s old ≡ stops) × (new ≡ old) × (t ≡ s)
SkipsText s old t new (Err e) = Unit {0}

-- the text that a token is, put behind a text
abbrev pub PutsText : {E : Type 0} → Token → List ℕ → List ℕ → Result Bool E → Type 0
PutsText (string part) s t (Ok true) = t ≡ s ++ part
PutsText token s t (Ok true) = ⊥
PutsText (string part) s t (Ok false) = ⊥
PutsText token s t (Ok false) = t ≡ s
PutsText token s t (Err e) = Unit {0}
