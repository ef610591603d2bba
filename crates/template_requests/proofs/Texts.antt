-- The texts of members.
use Rattle.std.proofs.Common.{arith, ◌≡◌, ◌∙◌, ℕ, suc, zero, ◌<◌, List, [], ◌∷◌, length, map, Option, None, Some, Result, Ok, Err, IfErr, IfOk, String, Vec, Contains, get_or, refl, sym, ap, subst}
use Rattle.std.specs.Borrow.{Bor}
use Rattle.std.specs.Prelude.{IsErrAnd}
use Rattle.std.specs.declared.alloc.Global.{Global}
use Rattle.json.specs.Find.{as_str}
use Rattle.json.specs.Json.{Json, object}
use Rattle.json.specs.Value.{members_view, value_view}
use Rattle.json.specs.declared.value.Value.{Value}
use Rattle.template_requests.specs.Faults.{IsFaultOf}
use Rattle.template_requests.specs.Templates.{LacksText, LacksTexts, SaysTexts, named_texts, texts_in}
use Rattle.template_requests.specs.Views.{text_member, texts_of}
use Rattle.template_requests.specs.declared.faults.MessageFault.{MessageFault}
use Rattle.template_requests.specs.declared.faults.MessageFault.TheVariants.{Malformed, Memory}
use Rattle.template_requests.specs.declared.member.Member.{Member}
use Rattle.template_requests.specs.declared.member.Member.TheVariants.{Templates}

pub texts_seen : {A : Type 0} (ms : List (Bor (List ℕ) × Value A)) → texts_in (members_view ms) ≡ texts_of ms
texts_seen [] = refl
texts_seen (m ∷ ms) = ap (λ texts. text_member m ∷ texts) (texts_seen ms)

contains_map : {X Y : Type 0} (f : X → Y) (xs : List X) (k : ℕ) (x d : X) → k < length xs → x ≡ get_or xs k d → Contains (map f xs) (f x)
contains_map f [] k x d h e = absurd (omega (arith, h))
contains_map f (y ∷ ys) zero x d h e = (zero, omega arith, ap f (sym e))
contains_map f (y ∷ ys) (suc k) x d h e = let found = contains_map f ys k x d (omega (arith, h)) e in (suc found.0, omega (arith, found.1), found.2)

-- a member that is no text is one of them
pub lacks_at : {A : Type 0} (ms : List (Bor (List ℕ) × Value A)) (k : ℕ) (m : Bor (List ℕ) × Value A) → k < length ms → m ≡ get_or ms k m
    → as_str (value_view m.1) ≡ None → LacksText (texts_of ms)
lacks_at ms k m h e none = (
  m.0.now,
  subst (λ text. Contains (texts_of ms) (m.0.now, text)) none (contains_map text_member ms k m m h e),
)

-- a fault of the same member
pub fault_still : (fault : MessageFault) (of : Member) {P Q : Type 0} → (P → Q) → IsFaultOf fault of P → IsFaultOf fault of Q
fault_still (Malformed m) of f h = (h.0, f h.1)
fault_still Memory of f h = h

-- the fault that is handed on
pub err_still : {T : Type 0} (r : Result T MessageFault) (fault : MessageFault) (of : Member) (Q : Type 0) → IsErrAnd r (λ told. told ≡ fault)
    → IsFaultOf fault of Q → IfErr r (λ told. IsFaultOf told of Q)
err_still (Ok x) fault of Q h is = tt
err_still (Err told) fault of Q h is = subst (λ (f : MessageFault). IsFaultOf f of Q) (sym h) is

-- the members of the object that is given, as templates
pub templates_said : {A : Type 0} (r : Result (Vec (String Global × String Global) Global) MessageFault) (found : Option Json)
    (seen ms : List (Bor (List ℕ) × Value A)) → seen ≡ ms → Some (object (members_view ms)) ≡ found
    → IfOk r (λ templates. named_texts templates.items ≡ texts_of seen) → IfOk r (λ templates. SaysTexts found templates.items)
templates_said (Ok templates) found seen ms s e h =
    subst (λ (o : Option Json). SaysTexts o templates.items) e (h ∙ (ap texts_of s ∙ sym (texts_seen ms)))
templates_said (Err fault) found seen ms s e h = tt

-- one of them is no text
pub templates_refused : {A T : Type 0} (r : Result T MessageFault) (found : Option Json)
    (seen ms : List (Bor (List ℕ) × Value A)) → seen ≡ ms → Some (object (members_view ms)) ≡ found
    → IfErr r (λ fault. IsFaultOf fault Templates (LacksText (texts_of seen))) → IfErr r (λ fault. IsFaultOf fault Templates (LacksTexts found))
templates_refused (Ok x) found seen ms s e h = tt
templates_refused (Err fault) found seen ms s e h =
    fault_still fault Templates (λ lacks. subst LacksTexts e (subst LacksText (ap texts_of s ∙ sym (texts_seen ms)) lacks)) h
