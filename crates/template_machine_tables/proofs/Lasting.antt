-- What comes of blocks behind which bodies are put in turn.
use Rattle.std.proofs.Common.{◌≡◌, ◌∙◌, ℕ, suc, ◌+◌, ◌<◌, false, List, [], ◌∷◌, length, drop, get_or, sym, ap, subst, arith}
use Rattle.std.specs.Cow.{cow_str_bytes}
use Rattle.std.proofs.Math.Seq.{drop-cons}
use Rattle.template_compiler_code.specs.declared.blocks.CompiledBlock.{CompiledBlock}
use Rattle.template_compiler_code.specs.Streams.{heads_of, streams_in}
use Rattle.template_machine_meaning.specs.Keys.{Home}
use Rattle.template_machine_meaning.specs.Bodies.{Bodies, with_bodies, with_body}
use Rattle.template_machine_meaning.specs.Keeps.{KeepsBodies}
use Rattle.template_machine_meaning.proofs.Placed.{bodies_last, bodies_on}

-- behind blocks that last
pub lasts_more : (home : Home) (name : List ℕ) (first blocks later : List (List ℕ × Bodies)) → KeepsBodies first blocks → later ≡ with_body home name blocks
    → KeepsBodies first later
lasts_more home name first blocks later kept is =
    bodies_on first blocks later kept (subst (KeepsBodies blocks) (sym is) (bodies_last home ((name, false) ∷ []) blocks))

-- with the next one, those that are left come to the same
pub body_next : (home : Home) (bs : List CompiledBlock) (k : ℕ) (b : CompiledBlock) (blocks later last : List (List ℕ × Bodies)) → k < length bs → b ≡ get_or bs k b
    → with_bodies home (heads_of (streams_in (drop k bs))) blocks ≡ last → later ≡ with_body home (cow_str_bytes b.name) blocks
    → with_bodies home (heads_of (streams_in (drop (k + 1) bs))) later ≡ last
body_next home bs k b blocks later last within is before added =
    let next : suc k ≡ k + 1 = omega arith in
    let left : drop k bs ≡ b ∷ drop (k + 1) bs =
    drop-cons bs k b within ∙ ap (λ (x : CompiledBlock). x ∷ drop (suc k) bs) (sym is) ∙ ap (λ n. b ∷ drop n bs) next in
    ap (with_bodies home (heads_of (streams_in (drop (k + 1) bs)))) added
    ∙ sym (ap (λ (xs : List CompiledBlock). with_bodies home (heads_of (streams_in xs)) blocks) left) ∙ before
