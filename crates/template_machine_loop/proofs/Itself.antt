-- A world that is put back itself: nothing goes.
use Rattle.std.proofs.Common.{◌≡◌, ◌-◌, List, [], ◌++◌, length, take, Option, refl, sym, ap, ◌∙◌, append-nil, arith}
use Rattle.template_machine_meaning.specs.World.{Loop, World}
use Rattle.template_machine_meaning.specs.Leaving.{loops_behind, held_among, given_behind}
use Rattle.template_machine_meaning.specs.Plans.{caller_of, put_back}
use Rattle.template_machine_meaning.specs.Records.{loops_of}
use Rattle.template_machine_meaning.proofs.Outermost.{outermost_all}

-- where no frames go, no loops do
none_behind : (w : World) → loops_behind (length w.frames) w ≡ []
none_behind w =
    let all_stay : length w.frames - length w.frames ≡ 0 = omega arith in
    ap (λ n. take n (loops_of w.frames)) all_stay

pub put_back_itself : (w : World) → w ≡ put_back (caller_of w) w
put_back_itself w =
    let open_frames = sym (outermost_all (length w.frames) w.frames refl) in
    let open_captures = sym (outermost_all (length w.captures) w.captures refl) in
    let gone : [] ≡ loops_behind (length w.frames) w = sym (none_behind w) in
    let changed_with = ap (λ (loops : List (Option Loop)). given_behind w.held loops w.given) gone in
    let known = sym (append-nil w.closed) ∙ ap (λ (loops : List (Option Loop)). w.closed ++ held_among w.held loops) gone in
    λ i. record w { frames = open_frames i; captures = open_captures i; given = changed_with i; closed = known i }
