-- What the steps around pieces of code make.
use Rattle.std.proofs.Common.{◌≡◌, ℕ, ◌+◌, suc, Bool, true, false, [], ◌∷◌, ◌++◌, length, drop, refl, sym, subst, ap, ap₂, ◌∙◌, append_assoc, length-append, arith}
use Rattle.template_compiler_code.specs.Code.{Code, jump, jump_if_false, iterate, pop_loop_frame, push_did_not_iterate, push_loop}
use Rattle.template_compiler_codegen.specs.Expressions.{Coded, either_code, one, skipped, then_code}
use Rattle.template_compiler_codegen.specs.Statements.{rounds_code}
use Rattle.template_compiler_emission.specs.declared.leaps.Leap.TheVariants.{Always, IfFalse, Iterate}
use Rattle.template_compiler_emission.specs.Leaps.{leap_code}
use Rattle.template_compiler_emission.proofs.Pieces.{either_one, leapt_over, two_pieces}
use Rattle.template_compiler_generator.specs.Drafts.{Draft, Generates, branch_closed, loop_closed, jumps_of, leap_of, loop_flags, next_jump, rounds_told, with_all_told, with_block, with_blocks, with_choice, with_choice_end, with_chosen, with_code, with_else, with_end, with_if, with_jump, with_loop, with_loop_end, with_rounds, with_told, with_truth}
use Rattle.template_compiler_generator.specs.Drafts as drafts
use Rattle.template_compiler_generator.specs.Laws.{IfGenerates, ElseGenerates, ChoiceGenerates, LoopGenerates, loop_end}

pub if-generates : IfGenerates
if-generates body d e g =
    let closed = with_told (next_jump IfFalse d) (with_blocks d.blocks e) in
    let closes : with_end e ≡ closed = ap (λ blocks. branch_closed blocks e) g.blocks in
    let P : Draft → Type 0 = λ x. Generates (skipped jump_if_false body) d x in
    subst P (sym closes) (record {
      name = g.name;
      source = g.source;
      code = leapt_over jump_if_false body d.code (with_if d).code e.code closed.code refl g.code refl;
      blocks = refl;
      line = g.line;
      spans = g.spans;
    })

pub else-generates : ElseGenerates
else-generates body otherwise d e f g h =
    let leapt = with_jump Always e in
    let middle = with_told (next_jump IfFalse d) (with_blocks d.blocks leapt) in
    let opened = with_block (drafts.branch (next_jump Always e)) middle in
    let opens : with_else e ≡ opened =
    ap (λ blocks. with_block (drafts.branch (next_jump Always e)) (branch_closed blocks leapt)) g.blocks in
    let Q : Draft → Type 0 = λ x. Generates otherwise x f in
    let k = subst Q opens h in
    let closed = with_told (next_jump Always e) (with_blocks d.blocks f) in
    let closes : with_end f ≡ closed = ap (λ blocks. branch_closed blocks f) k.blocks in
    let P : Draft → Type 0 = λ x. Generates (either_code body otherwise) d x in
    subst P (sym closes) (record {
      name = k.name ∙ g.name;
      source = k.source ∙ g.source;
      code = either_one body otherwise d.code (with_if d).code e.code leapt.code middle.code f.code closed.code
          refl g.code refl refl k.code refl;
      blocks = refl;
      line = k.line ∙ g.line;
      spans = k.spans ∙ g.spans;
    })

pub choice-generates : ChoiceGenerates
choice-generates and left right d e f g h =
    let leap = leap_of and in
    let leapt = with_jump leap e in
    let opened = with_block (drafts.choice (next_jump leap e ∷ [])) (with_blocks d.blocks leapt) in
    let opens : with_chosen and e ≡ opened =
    ap (λ blocks. with_block (drafts.choice (next_jump leap e ∷ jumps_of blocks)) (with_blocks (drop 1 blocks) leapt)) g.blocks in
    let Q : Draft → Type 0 = λ x. Generates right x f in
    let k = subst Q opens h in
    let closed = with_told (next_jump leap e) (with_blocks d.blocks f) in
    let closes : with_choice_end f ≡ closed = ap (λ blocks. with_all_told (jumps_of blocks) (with_blocks (drop 1 blocks) f)) k.blocks in
    let P : Draft → Type 0 = λ x. Generates (then_code left (skipped (leap_code leap) right)) d x in
    subst P (sym closes) (record {
      name = k.name ∙ g.name;
      source = k.source ∙ g.source;
      code = two_pieces left (skipped (leap_code leap) right) d.code e.code closed.code g.code
          (leapt_over (leap_code leap) right e.code leapt.code f.code closed.code refl k.code refl);
      blocks = refl;
      line = k.line ∙ g.line;
      spans = k.spans ∙ g.spans;
    })

generates-then : (f g : Coded) (a b c : Draft) → Generates f a b → Generates g b c → Generates (then_code f g) a c
generates-then f g a b c p q = record {
  name = q.name ∙ p.name;
  source = q.source ∙ p.source;
  code = two_pieces f g a.code b.code c.code p.code q.code;
  blocks = q.blocks ∙ p.blocks;
  line = q.line ∙ p.line;
  spans = q.spans ∙ p.spans;
}

generates-code : (c : Code) (d : Draft) → Generates (one c) d (with_code c d)
generates-code c d = record { name = refl; source = refl; code = refl; blocks = refl; line = refl; spans = refl }

generates-end : (did_not_iterate : Bool) (d : Draft)
    → Generates (loop_end did_not_iterate) d (with_code pop_loop_frame (with_truth did_not_iterate d))
generates-end true d =
    let tested = with_code push_did_not_iterate d in
    generates-then (one push_did_not_iterate) (one pop_loop_frame) d tested (with_code pop_loop_frame tested)
    (generates-code push_did_not_iterate d) (generates-code pop_loop_frame tested)
generates-end false d = generates-code pop_loop_frame d

-- the body and the way back, behind the asking
rounds-skipped : (target body : Coded) (place : ℕ)
    → skipped iterate (then_code (then_code target body) (one (jump place))) place ≡ rounds_code target (λ break_to continue_to. body) place
rounds-skipped target body place =
    let stored = target (suc place) in
    let inner = body (suc place + length stored) in
    ap₂ (λ to code. iterate to ∷ code) (omega (arith, length-append (stored ++ inner) (jump place ∷ []), length-append stored inner))
    (append_assoc stored inner (jump place ∷ []))

-- the rounds of a loop, told where they end
generates-rounds : (target body : Coded) (d opened e : Draft) → opened ≡ with_rounds d → Generates (then_code target body) opened e
    → Generates (rounds_code target (λ break_to continue_to. body)) d (rounds_told (length d.code) (with_blocks d.blocks e))
generates-rounds target body d opened e opens p =
    let place = length d.code in
    let Q : Draft → Type 0 = λ x. Generates (then_code target body) x e in
    let g = subst Q opens p in
    let asked = with_jump Iterate d in
    let back = with_code (jump place) (with_blocks d.blocks e) in
    let inner = then_code (then_code target body) (one (jump place)) in
    let told = rounds_told place (with_blocks d.blocks e) in
    let told_is : told.code ≡ d.code ++ skipped iterate inner place =
    leapt_over iterate inner d.code asked.code back.code told.code refl
    (two_pieces (then_code target body) (one (jump place)) asked.code e.code back.code g.code refl) refl in
    record {
      name = g.name;
      source = g.source;
      code = told_is ∙ ap (λ code. d.code ++ code) (rounds-skipped target body place);
      blocks = refl;
      line = g.line;
      spans = g.spans;
    }

pub loop-generates : LoopGenerates
loop-generates with_loop_var recursive did_not_iterate target body d e g =
    let push = push_loop (loop_flags with_loop_var recursive) in
    let pushed = with_code push d in
    let told = rounds_told (length pushed.code) (with_blocks d.blocks e) in
    let closed = with_code pop_loop_frame (with_truth did_not_iterate told) in
    let closes : with_loop_end did_not_iterate e ≡ closed =
    ap (λ blocks. with_code pop_loop_frame (with_truth did_not_iterate (loop_closed blocks e))) g.blocks in
    let looped = rounds_code target (λ break_to continue_to. body) in
    let ended = loop_end did_not_iterate in
    let P : Draft → Type 0 = λ x. Generates (then_code (one push) (then_code looped ended)) d x in
    subst P (sym closes) (generates-then (one push) (then_code looped ended) d pushed closed (generates-code push d)
    (generates-then looped ended pushed told closed (generates-rounds target body pushed (with_loop with_loop_var recursive d) e refl g)
    (generates-end did_not_iterate told)))
