-- A source is one expression at most: the one that it is read to. What is compiled is faithful to it.
use Rattle.std.proofs.Common.{◌≡◌, ℕ, ◌≤◌, List, [], ◌∷◌, length, inl, inr, Result, Ok, Err, IfOk, IfErr, arith, refl, sym, ap, subst, ◌∙◌}
use Rattle.std.specs.Prelude.{◌^◌}
use Rattle.template_values_errors.specs.declared.ErrorKind.{ErrorKind}
use Rattle.template_values_errors.specs.declared.ErrorKind.TheVariants.{OutOfMemory}
use Rattle.template_values_errors.specs.Memory.{NoMemory}
use Rattle.template_compiler_tree.specs.Tree.{Expression}
use Rattle.template_compiler_tree.specs.View.{expression_of}
use Rattle.template_compiler_tree.specs.declared.expressions.Expr.{Expr}
use Rattle.template_compiler_walk.specs.Runnable.{IsRunnable}
use Rattle.template_compiler_code.specs.Code.{Code}
use Rattle.template_compiler_codegen.specs.Statements.{standalone_code}
use Rattle.template_compiler_generator.specs.Numbers.{numbered_in}
use Rattle.template_compiler_tokens.specs.Token.{Token}
use Rattle.template_compiler_sources.proofs.Spelling.{one_spelled, some_spelled}
use Rattle.template_compiler_grammar.specs.TreeReader.{expression_at}
use Rattle.template_compiler_grammar.proofs.ReaderLaws.{tree_complete}
use Rattle.template_compiler_grammar.proofs.Sound.{expression_sound}
use Rattle.template_compiler_laws.proofs.RunnableExpressions.{expression_runs}
use Rattle.template_compiler_tokens.specs.Steps.{Read}
use Rattle.template_compiler_sources.specs.Source.{IsExpressionSource, RefusesExpression, expression_source}
use Rattle.template_compiled.specs.Expressions.{HasExpression, IsFaithfulExpression, code_alone, expression_in, read_alone}

pub one_expression : (source : List ℕ) (e : Expression) → IsExpressionSource source e → expression_in source ≡ e
unfolding expression_in
one_expression source e (expression_source {tokens = ts} spelled is) =
    let some = some_spelled source in
    ap (λ (l : List Token). read_alone (expression_at 150 l)) (one_spelled source some.0 ts some.1 spelled)
    ∙ ap read_alone (tree_complete 150 ts [] e is tt)

read_runs : (tokens : List Token) (r : Read Expression) → expression_at 150 tokens ≡ r → IsRunnable (read_alone r)
read_runs tokens (Ok (e, [])) is = expression_runs ((expression_sound 150 tokens).tree e [] is).0
read_runs tokens (Ok (e, token ∷ rest)) is = tt
read_runs tokens (Err fault) is = tt

pub expression_in_runs : (source : List ℕ) → IsRunnable (expression_in source)
unfolding expression_in
expression_in_runs source = let tokens = (some_spelled source).0 in read_runs tokens (expression_at 150 tokens) refl

pub source_runs : {source : List ℕ} {e : Expression} → IsExpressionSource source e → IsRunnable e
source_runs (expression_source spelled is) = expression_runs is

pub faithful_alone : (source : List ℕ) (e : Expression) → (2 ^ 32 ≤ length source → ⊥) → IsExpressionSource source e → IsFaithfulExpression source
faithful_alone source e fits is = record {
  fits = omega (arith, fits);
  has_expression = subst (HasExpression source) (sym (one_expression source e is)) is;
}

-- what is kept of it
pub kept_alone : (source copied : List ℕ) (code : List Code) (e : Expression) → copied ≡ source → (2 ^ 32 ≤ length source → ⊥) → IsExpressionSource source e
    → code ≡ numbered_in (standalone_code e) → IsFaithfulExpression copied × (code ≡ code_alone copied)
kept_alone source copied code e same fits is is_code =
    subst (λ (s : List ℕ). IsFaithfulExpression s × (code ≡ code_alone s)) (sym same)
    (faithful_alone source e fits is, is_code ∙ ap (λ (x : Expression). numbered_in (standalone_code x)) (sym (one_expression source e is)))

-- a source that was accepted is refused for want of memory alone
wants_alone : (source : List ℕ) (kinds : List ErrorKind) → IsFaithfulExpression source → RefusesExpression source kinds → kinds ≡ OutOfMemory ∷ []
wants_alone source kinds is (inl want) = want
wants_alone source kinds is (inr (inl (large, long))) = let fits = is.fits in absurd (omega (arith, long, fits))
wants_alone source kinds is (inr (inr (fault, alone, faulty))) = absurd (faulty.treeless (expression_in source) is.has_expression)

-- its tree, as it is read once more
pub read_again : (r : Result Expr (List ErrorKind)) (source text : List ℕ) → text ≡ source → IfOk r (λ tree. IsExpressionSource text (expression_of tree))
    → IfOk r (λ tree. expression_of tree ≡ expression_in source)
read_again (Ok tree) source text same found =
    sym (one_expression source (expression_of tree) (subst (λ (t : List ℕ). IsExpressionSource t (expression_of tree)) same found))
read_again (Err kinds) source text same found = tt

pub refused_again : (r : Result Expr (List ErrorKind)) (source text : List ℕ) → text ≡ source → IsFaithfulExpression source → IfErr r (RefusesExpression text)
    → IfErr r NoMemory
refused_again (Ok tree) source text same is refused = tt
refused_again (Err kinds) source text same is refused = wants_alone source kinds is (subst (λ (t : List ℕ). RefusesExpression t kinds) same refused)
