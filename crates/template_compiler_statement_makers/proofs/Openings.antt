-- What a word begins that is none of some words.
use Rattle.std.proofs.Common.{◌≡◌, ℕ, false, if◌then◌else◌, List, Some, None, codes, bytes_eq, refl, sym, ap, ◌∙◌}
use Rattle.std.proofs.lemmas.Bool.{false_from_ne_true}
use Rattle.std.proofs.lemmas.Slice.Eq.{bytes_eq-Decides}
use Rattle.template_compiler_grammar.specs.TemplateReaderParts.{opening, from_tag, extends_tag, include_tag, macro_tag, call_tag, do_tag, break_tag, continue_tag, for_tag, if_tag, with_tag, set_tag, autoescape_tag, filter_tag, block_tag, import_tag}
use Rattle.template_compiler_statement_makers.specs.Surroundings.{other_opening}

not_named : (w n : List ℕ) → (n ≡ w → ⊥) → bytes_eq w n ≡ false
not_named w n h = false_from_ne_true (bytes_eq w n) (λ e. h (sym ((bytes_eq-Decides w n).0 e)))

else_of : {A : Type 0} (x : A) {y z : A} (w n : List ℕ) → (n ≡ w → ⊥) → y ≡ z → (if bytes_eq w n then x else y) ≡ z
else_of x {y = y} w n h k = ap (λ b. if b then x else y) (not_named w n h) ∙ k

pub no_opening : (n : List ℕ) → (n ≡ codes "from" → ⊥) → (n ≡ codes "extends" → ⊥) → (n ≡ codes "include" → ⊥) → (n ≡ codes "macro" → ⊥) →
    (n ≡ codes "call" → ⊥) → (n ≡ codes "do" → ⊥) → (n ≡ codes "break" → ⊥) → (n ≡ codes "continue" → ⊥) → other_opening n ≡ None
no_opening n a b c d e f g h =
    else_of (Some from_tag) (codes "from") n a (else_of (Some extends_tag) (codes "extends") n b (else_of (Some include_tag) (codes "include") n c
    (else_of (Some macro_tag) (codes "macro") n d
    (else_of (Some call_tag) (codes "call") n e (else_of (Some do_tag) (codes "do") n f
    (else_of (Some break_tag) (codes "break") n g (else_of (Some continue_tag) (codes "continue") n h refl)))))))

pub later_opening : (n : List ℕ) → (n ≡ codes "for" → ⊥) → (n ≡ codes "if" → ⊥) → (n ≡ codes "with" → ⊥) → (n ≡ codes "set" → ⊥) →
    (n ≡ codes "autoescape" → ⊥) → (n ≡ codes "filter" → ⊥) → (n ≡ codes "block" → ⊥) → (n ≡ codes "import" → ⊥) → opening n ≡ other_opening n
later_opening n a b c d e f g h =
    else_of (Some for_tag) (codes "for") n a (else_of (Some if_tag) (codes "if") n b (else_of (Some with_tag) (codes "with") n c
    (else_of (Some set_tag) (codes "set") n d
    (else_of (Some autoescape_tag) (codes "autoescape") n e (else_of (Some filter_tag) (codes "filter") n f
    (else_of (Some block_tag) (codes "block") n g (else_of (Some import_tag) (codes "import") n h refl)))))))
