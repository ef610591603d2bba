use Rattle.std.proofs.Common.{rules, ◌≡◌, ℕ, List, None, sym, subst, arith}
use Rattle.std.specs.Prelude.{option_map}
use Rattle.template_compiler_code.specs.Listing.{code_in}
use Rattle.template_compiler_code_shapes.specs.Outlines.{shape_of}
use Rattle.template_compiler_code_shapes.specs.Passes.{Marks, Works}
use Rattle.template_compiler_code_shapes.specs.Desks.{noted_in, flag_in}
use Rattle.template_compiler_code_shapes.proofs.Working.{begun}
use Rattle.template_compiler_code_shapes.proofs.Visiting.{flag_blank}
use Rattle.template_compiler_code_shapes.proofs.pass.shape_at_end.Goals as goal

pub run_all-requires-clause-works : goal.run_all-requires-clause-works
run_all-requires-clause-works c =
    let code = code_in c.args.code.now in
    let mark = flag_in c.as_slice.result.now in
    let desk = c.in-Ok-begin.desk in
    let marks : Marks code mark = search rules in
    let P : List ℕ → Type 0 = λ ps. Works code mark (noted_in desk) (flag_in c.in-Ok-blank.seen.items) ps 0 None in
    subst P (sym c.in-Ok-begin.ensures.waiting) (begun code mark (noted_in desk) (flag_in c.in-Ok-blank.seen.items) 0 marks c.in-Ok-begin.ensures.first c.in-Ok-begin.ensures.only
    (λ q. flag_blank c.in-Ok-blank.seen.items c.len-len.result q c.in-Ok-blank.ensures.blank))

pub noted-requires : goal.noted-requires
noted-requires c = let a = c.in_ok-run_all.ensures.room in let b = c.in-Ok-begin.ensures.room in omega arith

pub returns-clause-ends : goal.returns-clause-ends
returns-clause-ends c =
    let desk = c.run_all.new.desk in
    let P : ℕ → Type 0 = λ n. noted_in desk n ≡ option_map shape_of c.in_ok-end.end in
    record {
      mark = flag_in c.as_slice.result.now;
      notes = noted_in desk;
      seen = flag_in c.run_all.new.seen.items;
      place = 0;
      marks = search rules;
      works = c.in_ok-run_all.ensures.works;
      end = subst P c.len-len.ensures.len (sym c.in_ok-end.ensures.noted);
    }
