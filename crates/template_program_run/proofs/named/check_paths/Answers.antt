use Rattle.std.proofs.Common.{All, List, ℕ, subst, Bor}
use Rattle.std.proofs.lemmas.List.{take_all}
use Rattle.std.proofs.lemmas.List.Elements.{All-map, All-more}
use Rattle.template_program_run.specs.Folders.{IsPathIn}
use Rattle.template_program_run.proofs.named.check_paths.Goals as goal

pub loop-path-preserved : goal.loop-path-preserved
loop-path-preserved c =
    All-more (λ (path : Bor (List ℕ)). IsPathIn c.args.files.now path.now) c.args.paths.now c.loop-path.path-index _ c.loop-path-test.true
    c.loop-path.invariant c.in_ok-check_path.ensures.named

pub returns-clause-named : goal.returns-clause-named
returns-clause-named c = All-map (IsPathIn c.args.files.now) (λ (path : Bor (List ℕ)). path.now) c.args.paths.now
    (subst (λ (paths : List (Bor (List ℕ))). All (λ path. IsPathIn c.args.files.now path.now) paths)
    (take_all c.loop-path.path-index c.args.paths.now c.loop-path-test.false) c.loop-path.invariant)
