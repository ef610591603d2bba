-- Texts, written one after another.
use Rattle.std.proofs.Common.{◌≡◌, ◌∙◌, ℕ, List, [], ◌∷◌, ◌++◌, Option, Result, Ok, Err, codes, refl, sym, ap, subst, append_assoc}
use Rattle.std.proofs.KnownBytes.{Appends-kept, Appends-nil, Appends-trans}
use Rattle.std.specs.Io.KnownBytes.{Appends, Keeps}
use Rattle.std.specs.declared.io.Error.{Error}
use Rattle.template_values_errors.specs.Causes.{IsHead}
use Rattle.template_values_errors.specs.Names.{kind_name}
use Rattle.template_values_errors.specs.declared.ErrorKind.{ErrorKind}
use Rattle.template_machine_surroundings.proofs.Beginnings.{beginning_longer, beginning_after, beginning_whole}
use Rattle.template_program_output.specs.Lines.{causes_behind, error_line}
use Rattle.template_program_output.specs.Shown.{GrowsBy, Shown, TellsAnswer, Writes}
use Rattle.template_program_output.specs.Answer.{to_flush}
use Rattle.template_program_output.proofs.Told.{tells_flush, tells_more, tells_none}

grows_then : (a b c : Option (List ℕ)) (first rest : List ℕ) (r : Result (Unit {0}) Error)
    → GrowsBy a b first (Ok tt) → GrowsBy b c rest r → GrowsBy a c (first ++ rest) r
grows_then a b c first rest (Ok u) whole more = Appends-trans a b c first rest whole more
grows_then a b c first rest (Err e) whole more = beginning_after a b c first rest whole more

-- nothing
pub writes_none : (a : Shown) → Writes a a [] (Ok tt)
writes_none a = (Appends-nil a.bytes, tells_none a.answers)

-- a text whole, and then what comes behind it
pub writes_then : (a b c : Shown) (first rest : List ℕ) (r : Result (Unit {0}) Error)
    → Writes a b first (Ok tt) → Writes b c rest r → Writes a c (first ++ rest) r
writes_then a b c first rest r whole more =
    (grows_then a.bytes b.bytes c.bytes first rest r whole.0 more.0, tells_more a.answers b.answers c.answers r whole.1 more.1)

-- a text that could not be written, and so nothing behind it
pub writes_begun : (a b : Shown) (first rest : List ℕ) (e : Error) (r : Result (Unit {0}) Error)
    → r ≡ Err e → Writes a b first (Err e) → Writes a b (first ++ rest) r
writes_begun a b first rest e r is begun =
    subst (Writes a b (first ++ rest)) (sym is) (beginning_longer a.bytes b.bytes first rest begun.0, begun.1)

-- a text that could not be written
pub writes_refused : (a b : Shown) (text : List ℕ) (e : Error) (r : Result (Unit {0}) Error) → r ≡ Err e → Writes a b text (Err e) → Writes a b text r
writes_refused a b text e r is begun = subst (Writes a b text) (sym is) begun

grows_kept : (a b c : Option (List ℕ)) (text : List ℕ) (r : Result (Unit {0}) Error) → Appends a b text → Keeps b c → GrowsBy a c text r
grows_kept a b c text (Ok u) whole kept = Appends-kept a b c text whole kept
grows_kept a b c text (Err e) whole kept = beginning_whole a c text (Appends-kept a b c text whole kept)

-- a text whole, and then a flush
pub writes_flushed : (a b c : Shown) (text : List ℕ) (r : Result (Unit {0}) Error)
    → Writes a b text (Ok tt) → Keeps b.bytes c.bytes → TellsAnswer b.answers c.answers (to_flush r) → Writes a c text r
writes_flushed a b c text r whole kept told =
    (grows_kept a.bytes b.bytes c.bytes text r whole.0 kept, tells_more a.answers b.answers c.answers r whole.1 (tells_flush b.answers c.answers r told))

-- the same text, told otherwise
pub writes_same : (a b : Shown) (text other : List ℕ) (r : Result (Unit {0}) Error) → text ≡ other → Writes a b other r → Writes a b text r
writes_same a b text other r same writes = subst (λ t. Writes a b t r) (sym same) writes

-- a piece moves from what is left of a text to what was written of it
pub left-moved : (all written left first rest : List ℕ) → all ≡ written ++ left → left ≡ first ++ rest → all ≡ (written ++ first) ++ rest
left-moved all written left first rest whole parts = whole ∙ ap (λ l. written ++ l) parts ∙ sym (append_assoc written first rest)

-- the first piece of what is left could not be written
pub left-begun : (a b c : Shown) (all written left first rest : List ℕ) (e : Error) (r : Result (Unit {0}) Error)
    → all ≡ written ++ left → left ≡ first ++ rest → r ≡ Err e → Writes a b written (Ok tt) → Writes b c first (Err e) → Writes a c all r
left-begun a b c all written left first rest e r whole parts is before begun =
    writes_same a c all (written ++ (first ++ rest)) r (whole ∙ ap (λ l. written ++ l) parts)
    (writes_then a b c written (first ++ rest) r before (writes_begun b c first rest e r is begun))

-- the line of an error begins with its kind
pub line_parts : (kinds : List ErrorKind) (kind : ErrorKind) → IsHead kinds kind
    → error_line kinds ≡ codes "fault: " ++ (kind_name kind ++ (causes_behind kinds ++ 10 ∷ []))
line_parts kinds kind (causes, is) =
    ap error_line is ∙ ap (λ l. codes "fault: " ++ l) (append_assoc (kind_name kind) (causes_behind (kind ∷ causes)) (10 ∷ []))
    ∙ ap (λ k. codes "fault: " ++ (kind_name kind ++ (causes_behind k ++ 10 ∷ []))) (sym is)

-- a cause, and what caused it
pub causes_parts : (kinds cause : List ErrorKind) (outer kind : ErrorKind) → kinds ≡ outer ∷ cause → IsHead cause kind
    → causes_behind kinds ≡ codes ": " ++ (kind_name kind ++ causes_behind cause)
causes_parts kinds cause outer kind is (causes, head) =
    ap causes_behind is ∙ ap (λ c. causes_behind (outer ∷ c)) head
    ∙ append_assoc (codes ": ") (kind_name kind) (causes_behind (kind ∷ causes))
    ∙ ap (λ c. codes ": " ++ (kind_name kind ++ causes_behind c)) (sym head)
