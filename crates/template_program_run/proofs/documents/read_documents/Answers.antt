use Rattle.std.proofs.Common.{◌≡◌, ◌∙◌, IfSome, List, Some, ℕ, map, subst, sym}
use Rattle.template_program_run.specs.Held.{held_as, origin_in}
use Rattle.template_program_run.proofs.Piping.{from_other}
use Rattle.template_program_run.proofs.documents.read_documents.Goals as goal

pub returns-clause-read : goal.returns-clause-read
returns-clause-read g c =
    let piped = c.in_ok-piped.piped.items in
    let given = g.I.Reader.remaining c.args.input.now in
    from_other (g.R.FileSystem.content c.args.rt.now) (Some piped) given (map origin_in c.args.origins.now)
    (map (held_as piped) c.in_ok-documents.documents.items)
    (λ has bytes is. subst (λ (b : List ℕ). IfSome given (λ all. b ≡ all)) (sym is) (c.in_ok-piped.ensures.read (c.holds_input.ensures ∙ has)))
    (c.in_ok-documents.ensures.read piped)
