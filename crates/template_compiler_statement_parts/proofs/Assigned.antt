-- A target, a sign and a value are an assignment.
use Rattle.std.proofs.Common.{◌≡◌, ◌∙◌, sym, subst, ℕ, false, List, Result, Ok, Err, OnOk, IfErr, ap}
use Rattle.template_compiler_tree.specs.declared.span.Span.{Span}
use Rattle.template_compiler_tokens.specs.Token.{Token}
use Rattle.template_compiler_tokens.specs.Steps.{Read, and_then}
use Rattle.template_compiler_stream.specs.Refusals.{Refused}
use Rattle.template_compiler_stream.specs.declared.refusal.Refusal.{Refusal}
use Rattle.template_compiler_stream.specs.declared.refusal.Refusal.TheVariants as refusals
use Rattle.template_compiler_statement_parts.specs.Parsed.{ParsedInto}
use Rattle.template_compiler_grammar.specs.TemplateReaderParts.{expect_assign}
use Rattle.template_compiler_grammar.specs.Nodes.{Node}
use Rattle.template_compiler_grammar.specs.Reader.{expression_at}
use Rattle.template_compiler_grammar.specs.TemplateNodes.{PlacedAssignments, and_placed_assignment}
use Rattle.template_compiler_grammar.specs.TemplateReader.{assignment_by, here, here_by, inner_targets, target_by}
use Rattle.template_compiler_statement_parts.proofs.Again.{again, assign_again, unit}

pub assignment_is : (spans : List Span) (left : ℕ) (gs : PlacedAssignments) (ts us vs ws : List Token) (t e : Node) →
    target_by spans false (inner_targets spans false left) ts ≡ Ok (t, us) → expect_assign unit us ≡ Ok (unit, vs) →
    expression_at spans left vs ≡ Ok (e, ws) → assignment_by spans (here spans left) gs ts ≡ Ok (and_placed_assignment gs t e, ws)
unfolding and_then here here_by assignment_by
assignment_is spans left gs ts us vs ws t e a b c =
    ap (λ r. and_then r (λ t us. and_then (expect_assign t us) (λ t vs. and_then (expression_at spans left vs)
    (λ e ws. Ok (and_placed_assignment gs t e, ws))))) a
    ∙ ap (λ r. and_then r (λ t vs. and_then (expression_at spans left vs) (λ e ws. Ok (and_placed_assignment gs t e, ws)))) (assign_again t us ∙ ap (again t) b)
    ∙ ap (λ r. and_then r (λ e ws. Ok (and_placed_assignment gs t e, ws))) c

-- what is put behind the others: nothing but want of memory is refused
pub put_into : {A B T : Type 0} {r : Read A} {a : A} {new : List Token} {xs ys : List T} (res : Result B Refusal) → OnOk res (xs ≡ ys) →
    IfErr res (λ refusal. refusal ≡ refusals.OutOfMemory) → (xs ≡ ys → r ≡ Ok (a, new)) → ParsedInto r a new res
put_into (Ok b) put refused read = read put
put_into {r = r} (Err e) put refused read = subst (λ x. Refused r x) (sym refused) tt
