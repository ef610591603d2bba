-- What is open is closed from the innermost on.
use Rattle.std.proofs.Common.{◌≡◌, ℕ, ◌+◌, ◌<◌, List, [], ◌∷◌, ◌++◌, length, get_or, take, refl, sym, ap, subst, ◌∙◌, append-nil, append_assoc}
use Rattle.std.proofs.lemmas.List.{take_at, take_more}
use Rattle.template_compiler_tree.specs.Tree.{Statements}
use Rattle.template_compiler_code.specs.Code.{Code, end_capture}
use Rattle.template_compiler_code.specs.Listing.{code_in}
use Rattle.template_compiler_code.specs.declared.listing.Instructions.{Instructions}
use Rattle.template_compiler_codegen.specs.Expressions.{one}
use Rattle.template_compiler_codegen.specs.Statements.{Ways, closing_with, statements_code}
use Rattle.template_compiler_emission.specs.Puts.{Puts}
use Rattle.template_compiler_statement_codegen.specs.Breaks.{breaks_in}
use Rattle.template_compiler_statement_codegen.specs.Rounds.{Lowers, LowersBody, capturing, closed_by, closed_code, closed_places, closing_code, ways_of}
use Rattle.template_compiler_statement_codegen.specs.declared.rounds.Closing.{Closing}
use Rattle.template_compiler_statement_codegen.specs.declared.rounds.Closing.TheVariants.{Capture, Text}
use Rattle.template_compiler_statement_codegen.specs.declared.rounds.Round.{Round}
use Rattle.template_compiler_statement_codegen.proofs.Lowering.{lowers_before, ways_at, ways_with}

pub closed_push : (cs : List Closing) (c : Closing) → closed_by (cs ++ c ∷ []) ≡ closing_code c ∷ closed_by cs
closed_push [] c = refl
closed_push (x ∷ cs) c = ap (λ (l : List Code). l ++ closing_code x ∷ []) (closed_push cs c)

-- one is closed, and those outside of it are left
pub closes_one : (cs : List Closing) (i : ℕ) (d : Closing) (xs ys : List Code) → i < length cs → ys ≡ xs ++ closing_code (get_or cs i d) ∷ []
    → ys ++ closed_by (take i cs) ≡ xs ++ closed_by (take (i + 1) cs)
closes_one cs i d xs ys within put =
    ap (λ (l : List Code). l ++ closed_by (take i cs)) put ∙ append_assoc xs (closing_code (get_or cs i d) ∷ []) (closed_by (take i cs)) ∙
    ap (λ (l : List Code). xs ++ l)
    (sym (closed_push (take i cs) (get_or cs i d)) ∙ ap (λ (l : List Closing). closed_by l) (sym (take_more cs i d within)))

-- nothing is open any more
pub all_closed : (cs : List Closing) (xs : List Code) → xs ++ closed_by (take 0 cs) ≡ xs
all_closed cs xs = append-nil xs

-- a body inside of what is opened before it and closed behind it
pub lowers_closed : (c : Closing) (ss : Statements) {a b d : Instructions} (r s t u : Round) (depth : ℕ) → s.closings.items ≡ r.closings.items ++ c ∷ [] → s.asks ≡ r.asks
    → s.breaks.items ≡ r.breaks.items → LowersBody ss a b s t → depth ≡ length r.closings.items → u.closings.items ≡ take depth t.closings.items
    → u.asks ≡ t.asks → u.breaks.items ≡ t.breaks.items → Puts (one (closing_code c)) b d
    → Lowers (closed_code (closing_code c) (ways_of r) ss) (closed_places (closing_code c) (ways_of r) ss) a d r u
lowers_closed c ss {a} {b} {d} r s t u depth opened asks breaks body long closed asks_then breaks_then put =
    let inside : ways_of s ≡ closing_with (closing_code c) (ways_of r) =
    ap (λ (cs : List Closing). ways_with cs s.asks) opened ∙ ap (λ (n : ℕ). ways_with (r.closings.items ++ c ∷ []) n) asks ∙
    ap (λ (l : List Code). ways_at l r.asks) (closed_push r.closings.items c) in
    let within : Lowers (statements_code (closing_with (closing_code c) (ways_of r)) ss) (breaks_in (closing_with (closing_code c) (ways_of r)) ss) a b s t =
    subst (λ (w : Ways). Lowers (statements_code w ss) (breaks_in w ss) a b s t) inside body in
    let whole = lowers_before within put in
    record {
      put = whole.put;
      breaks = breaks_then ∙ whole.breaks ∙
          ap (λ (l : List ℕ). l ++ closed_places (closing_code c) (ways_of r) ss (length (code_in a))) breaks;
      asks = asks_then ∙ body.asks ∙ asks;
      closings = closed ∙ ap (λ (n : ℕ). take n t.closings.items) long ∙
          ap (λ (cs : List Closing). take (length r.closings.items) cs) (body.closings ∙ opened) ∙
          take_at r.closings.items (c ∷ []) (length r.closings.items) refl;
    }

-- a body whose text is captured
pub lowers_captured : (ss : Statements) {a b : Instructions} (r s t u : Round) (depth : ℕ) → s.closings.items ≡ (r.closings.items ++ Text ∷ []) ++ Capture ∷ []
    → s.asks ≡ r.asks → s.breaks.items ≡ r.breaks.items → LowersBody ss a b s t → depth ≡ length r.closings.items
    → u.closings.items ≡ take depth t.closings.items → u.asks ≡ t.asks → u.breaks.items ≡ t.breaks.items
    → Lowers (statements_code (capturing (ways_of r)) ss) (breaks_in (capturing (ways_of r)) ss) a b r u
lowers_captured ss {a} {b} r s t u depth opened asks breaks body long closed asks_then breaks_then =
    let outer = r.closings.items in
    let both = (outer ++ Text ∷ []) ++ Capture ∷ [] in
    let inside : ways_of s ≡ capturing (ways_of r) =
    ap (λ (cs : List Closing). ways_with cs s.asks) opened ∙ ap (λ (n : ℕ). ways_with both n) asks ∙
    ap (λ (l : List Code). ways_at l r.asks)
    (closed_push (outer ++ Text ∷ []) Capture ∙ ap (λ (l : List Code). end_capture ∷ l) (closed_push outer Text)) in
    let within : Lowers (statements_code (capturing (ways_of r)) ss) (breaks_in (capturing (ways_of r)) ss) a b s t =
    subst (λ (w : Ways). Lowers (statements_code w ss) (breaks_in w ss) a b s t) inside body in
    record {
      put = within.put;
      breaks = breaks_then ∙ within.breaks ∙ ap (λ (l : List ℕ). l ++ breaks_in (capturing (ways_of r)) ss (length (code_in a))) breaks;
      asks = asks_then ∙ body.asks ∙ asks;
      closings = closed ∙ ap (λ (n : ℕ). take n t.closings.items) long ∙
          ap (λ (cs : List Closing). take (length outer) cs) (body.closings ∙ opened ∙ append_assoc outer (Text ∷ []) (Capture ∷ [])) ∙
          take_at outer (Text ∷ Capture ∷ []) (length outer) refl;
    }
