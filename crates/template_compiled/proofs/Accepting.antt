-- What is compiled is faithful to its source.
use Rattle.std.proofs.Common.{◌≡◌, ◌≤◌, ℕ, List, [], ◌∷◌, length, inl, inr, Result, Ok, Err, IfOk, IfErr, arith, refl, sym, ap, subst, ◌∙◌}
use Rattle.std.specs.Prelude.{◌^◌}
use Rattle.template_values_errors.specs.declared.ErrorKind.{ErrorKind}
use Rattle.template_values_errors.specs.declared.ErrorKind.TheVariants.{OutOfMemory}
use Rattle.template_values_errors.specs.declared.modes.AutoEscape.{AutoEscape}
use Rattle.template_compiler_tree.specs.Tree.{Statement, Statements, template}
use Rattle.template_compiler_tree_statements.specs.View.{statement_of}
use Rattle.template_compiler_tree_statements.specs.declared.statements.Stmt.{Stmt}
use Rattle.template_values_errors.specs.Memory.{NoMemory}
use Rattle.template_compiler_code.specs.Code.{Code}
use Rattle.template_compiler_codegen.specs.Statements.{template_code}
use Rattle.template_compiler_generator.specs.Numbers.{numbered_in}
use Rattle.template_compiler_statement_codegen.specs.Listed.{body_in}
use Rattle.template_compiler_syntax.specs.Syntax.{Syntax, IsUsable}
use Rattle.template_compiler_sources.specs.Source.{IsSource, RefusesSource, source_of}
use Rattle.template_machine_surroundings.specs.Rule.{IsEscapeOf}
use Rattle.template_compiled.specs.Compiled.{Compiled, IsFaithful, code_for}
use Rattle.template_compiled.specs.Sources.{Source, HasTree, read_by, tree_in}
use Rattle.template_compiler_code.specs.Streams.{BlockStream}
use Rattle.template_compiled.specs.Streams.{streams_of}
use Rattle.template_compiled.specs.declared.config.TemplateConfig.{TemplateConfig}
use Rattle.template_compiled.proofs.Trees.{one_tree}

-- a source's tree is a whole template
pub source_body : (source : Source) (s : Statement) → IsSource source.syntax source.text s → s ≡ template (body_in s)
source_body source s (source_of spelled is) = refl

pub tree_is : (source : Source) (s : Statement) → IsUsable source.syntax → IsSource source.syntax source.text s → tree_in source ≡ body_in s
tree_is source s usable (source_of {body = body} spelled is) = one_tree source body usable (source_of spelled is)

pub faithful : (name : List ℕ) (source : Source) (escape : AutoEscape) (s : Statement) → IsUsable source.syntax → (2 ^ 32 ≤ length source.text → ⊥)
    → IsSource source.syntax source.text s → IsEscapeOf source.escapes name escape → IsFaithful (record { name = name; source = source; escape = escape })
faithful name source escape s usable fits is rule = record {
  usable = usable;
  fits = omega (arith, fits);
  has_tree = subst (HasTree source) (sym (tree_is source s usable is))
      (subst (IsSource source.syntax source.text) (source_body source s is) is);
  is_escape = rule;
}

-- what is kept of it
pub kept : (name own : List ℕ) (text copied : List ℕ) (x y : TemplateConfig) (escape : AutoEscape) (code : List Code) (streams : List BlockStream) (s : Statement) → own ≡ name → copied ≡ text
    → y ≡ x → IsUsable x.syntax_config → (2 ^ 32 ≤ length text → ⊥) → IsSource x.syntax_config text s
    → IsEscapeOf x.default_auto_escape name escape → code ≡ numbered_in (template_code (body_in s)) → streams ≡ streams_of (body_in s)
    → IsFaithful (record { name = own; source = read_by y copied; escape = escape })
    × (code ≡ code_for (record { name = own; source = read_by y copied; escape = escape }))
    × (streams ≡ streams_of (tree_in (read_by y copied)))
kept name own text copied x y escape code streams s named same shared usable fits is rule is_code are_streams =
    let source : Source = read_by x text in
    let path : record { name = name; source = source; escape = escape } ≡ record { name = own; source = read_by y copied; escape = escape } =
    λ i. record { name = sym named i; source = read_by (sym shared i) (sym same i); escape = escape } in
    let tree = sym (tree_is source s usable is) in
    subst (λ (c : Compiled). IsFaithful c × (code ≡ code_for c) × (streams ≡ streams_of (tree_in c.source))) path
    (faithful name source escape s usable fits is rule, is_code ∙ ap (λ (t : Statements). numbered_in (template_code t)) tree, are_streams ∙ ap streams_of tree)

-- a source that was accepted is refused for want of memory alone
only_want : (c : Compiled) (kinds : List ErrorKind) → IsFaithful c → RefusesSource c.source.syntax c.source.text kinds → kinds ≡ OutOfMemory ∷ []
only_want c kinds is (inl want) = want
only_want c kinds is (inr (inl (large, long))) = let fits = is.fits in absurd (omega (arith, long, fits))
only_want c kinds is (inr (inr (fault, alone, faulty))) = absurd (faulty.treeless (template (tree_in c.source)) is.has_tree)

-- its tree, as it is read once more
whole_tree : (source : Source) (s : Statement) → IsUsable source.syntax → IsSource source.syntax source.text s → s ≡ template (tree_in source)
whole_tree source s usable is = source_body source s is ∙ ap template (sym (tree_is source s usable is))

pub read_whole : (r : Result Stmt (List ErrorKind)) (c : Compiled) (x : Syntax) (text : List ℕ) → x ≡ c.source.syntax → text ≡ c.source.text → IsFaithful c
    → IfOk r (λ tree. IsSource x text (statement_of tree)) → IfOk r (λ tree. statement_of tree ≡ template (tree_in c.source))
read_whole (Ok tree) c x text shared same is found =
    whole_tree c.source (statement_of tree) is.usable
    (subst (λ (y : Syntax). IsSource y c.source.text (statement_of tree)) shared (subst (λ (t : List ℕ). IsSource x t (statement_of tree)) same found))
read_whole (Err kinds) c x text shared same is found = tt

pub read_wants : (r : Result Stmt (List ErrorKind)) (c : Compiled) (x : Syntax) (text : List ℕ) → x ≡ c.source.syntax → text ≡ c.source.text → IsFaithful c
    → IfErr r (RefusesSource x text) → IfErr r NoMemory
read_wants (Ok tree) c x text shared same is refused = tt
read_wants (Err kinds) c x text shared same is refused =
    only_want c kinds is (subst (λ (y : Syntax). RefusesSource y c.source.text kinds) shared (subst (λ (t : List ℕ). RefusesSource x t kinds) same refused))
