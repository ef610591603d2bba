-- Whole code has certificates.
use Rattle.std.proofs.Common.{◌≡◌, ℕ, ◌+◌, false, cond, List, [], length, Option, Some, refl, sym, ap, ◌∙◌, append-nil, arith}
use Rattle.std.specs.Prelude.{nat_lt}
use Rattle.std.proofs.lemmas.Bool.{lt-ltb, le-ltb}
use Rattle.std.proofs.lemmas.Option.{slice_get_within}
use Rattle.template_compiler_code.specs.Code.{Code}
use Rattle.template_compiler_code_shapes.specs.declared.StreamKind.{StreamKind}
use Rattle.template_compiler_code_shapes.specs.declared.StreamKind.TheVariants.{Template, Expression as ExpressionStream}
use Rattle.template_compiler_code_shapes.specs.Shapes.{Shape, start, given}
use Rattle.template_compiler_code_shapes.specs.Streams.{end_of, IsCertificate}
use Rattle.template_compiler_codegen.specs.Statements.{no_ways, template_code, standalone_code}
use Rattle.template_compiler_codegen.proofs.Standing.{StandsAt}
use Rattle.template_compiler_generator.specs.Certificates.{TemplatesAreCertified, ExpressionsAreCertified}
use Rattle.template_compiler_generator.proofs.Aims.{template_calm, expression_calm_whole}
use Rattle.template_compiler_generator.proofs.Segments.{Agrees, Flows, Free, Goes, goes_to, gate, gate_is}
use Rattle.template_compiler_generator.proofs.Plain.{Sits}
use Rattle.template_compiler_generator.proofs.Moving.{expression_moves}
use Rattle.template_compiler_generator.proofs.Running.{Outs, statements_run}

stands_whole : (code : List Code) → StandsAt code 0 code
stands_whole code = record { front = []; back = []; is = sym (append-nil code); at = refl }

-- where a run begins nothing is open
begins_plain : Sits start
begins_plain = (omega arith, omega arith, omega arith)

-- a segment's own shapes, and behind it its exit
abbrev table_of : ℕ → (ℕ → Option Shape) → Option Shape → ℕ → Option Shape
table_of end own exit q = cond (nat_lt q end) (own q) exit

-- code that goes through whole, from the start to its end
certified : (kind : StreamKind) (code : List Code) (exit : Option Shape) → Goes code 0 (length code) start exit Free → ((s : Shape) → exit ≡ Some s → s ≡ end_of kind) → (table : ℕ → Option Shape) × IsCertificate kind code table
certified kind code exit g ends =
    let table = table_of (length code) g.own exit in
    let agrees : Agrees table g.own 0 (length code) = λ q low high. ap (λ b. cond b (g.own q) exit) (lt-ltb q (length code) high) in
    let at_end : table (length code) ≡ exit = ap (λ b. cond b (g.own (length code)) exit) (le-ltb (length code) (length code) (omega arith)) in
    let flows : Flows table exit (length code) = λ t e. at_end ∙ e in (
      table,
      record {
        begins = g.enters table agrees flows;
        fine = λ place s c stands there. g.fine table agrees flows tt place (omega arith) (slice_get_within code place c there) s c stands there;
        over = λ s h. ends s (sym at_end ∙ h);
      },
    )

pub templates_certified : TemplatesAreCertified
templates_certified tree r =
    let code = template_code tree in
    let same : 0 + length code ≡ length code = omega arith in
    let g = statements_run false tree r no_ways code 0 start start (begins_plain, template_calm tree) (stands_whole code) (λ t. absurd cc) in
    certified Template code (gate g.0 start) (free code (gate g.0 start) (goes_to code 0 (0 + length code) (length code) start (gate g.0 start) (Outs false no_ways start) same g.1)) (λ s e. sym (gate_is g.0 start s e))
  where
    free : (code : List Code) (exit : Option Shape) → Goes code 0 (length code) start exit (Outs false no_ways start) → Goes code 0 (length code) start exit Free
    free code exit g = record {
      ordered = g.ordered;
      own = g.own;
      enters = g.enters;
      fine = λ table agrees flows needs. g.fine table agrees flows (λ t. absurd cc);
    }

pub expressions_certified : ExpressionsAreCertified
expressions_certified e r =
    let code = standalone_code e in
    let same : 0 + length code ≡ length code = omega arith in
    let g = expression_moves e r code 0 start (begins_plain, expression_calm_whole e) (stands_whole code) in
    certified ExpressionStream code (Some (given 1 start)) (goes_to code 0 (0 + length code) (length code) start (Some (given 1 start)) Free same g) (λ s h. some_is s h)
  where
    some_is : (s : Shape) → Some (given 1 start) ≡ Some s → s ≡ given 1 start
    some_is s h = cc
