-- The grammar of templates: which tokens are which statements. Each relation has the nesting levels that are left,
-- the tokens, the tree, and the tokens behind it. A repetition has what it has put together so far before the tokens.
use Rattle.std.specs.Prelude.{◌≡◌, ℕ, suc, Bool, true, false, codes, List, [], ◌∷◌}
use Rattle.template_compiler_tree.specs.Tree.{Expression, variable, attribute, call, Optional, absent, given, Expressions, no_expressions, expressions_more, Arguments, Statement, raw, print, for_loop, if_condition, with_block, set, set_block, auto_escape, filter_block, block, import, from_import, extends, include, macro, call_block, continue_loop, break_loop, do_call, Statements, no_statements, Assignments, no_assignments, Imports, no_imports}
use Rattle.template_compiler_tokens.specs.Token.{Token, template_data, variable_start, variable_end, block_end, identifier, symbol, dot, comma, assign, paren_open, paren_close}
use Rattle.template_compiler_grammar.specs.Words.{word_if, word_in, begins_paren, disjunction}
use Rattle.template_compiler_grammar.specs.Trees.{and_expression}
use Rattle.template_compiler_grammar.specs.Grammar.{IsExpression, IsBinary, IsFilter, IsFilterChain}
use Rattle.template_compiler_grammar.specs.TemplateWords.{word, opens, tag, is_reserved}
use Rattle.template_compiler_grammar.specs.TemplateTrees.{and_statement, and_assignment, and_import, Branches, no_branches, and_branch, branched, Parameters, no_parameters, and_plain, and_default, is_block_body, blocks_among, are_distinct, unpacked, together}

-- what stands around a statement: a loop of the same body, a macro
pub record Around : Type 0 where
  pub loop : Bool
  pub macro : Bool

abbrev pub nothing_around : Around
nothing_around = record { loop = false; macro = false }

abbrev pub loop_around : Around → Around
loop_around p = record p { loop = true }

abbrev pub block_around : Around → Around
block_around p = record p { loop = false }

abbrev pub macro_around : Around
macro_around = record { loop = false; macro = true }

-- a name that may be stored
pub data IsStored : List Token → Expression → List Token → Type 0 where
  stored : {n : List ℕ} {ts : List Token} → is_reserved n ≡ false → IsStored (identifier n ∷ ts) (variable n) ts

-- { "." ident } behind a target
pub data IsPath : Expression → List Token → Expression → List Token → Type 0 where
  path_end : {e : Expression} {ts : List Token} → IsPath e ts e ts
  path_more : {e f : Expression} {n : List ℕ} {ts us : List Token} →
      IsPath (attribute e n) ts f us → IsPath e (symbol dot ∷ identifier n ∷ ts) f us

-- { "," item }, where the relation puts one item more behind an accumulator
pub data IsMore {A : Type 0} (item : A → List Token → A → List Token → Type 0) : A → List Token → A → List Token → Type 0 where
  more_end : {a : A} {ts : List Token} → IsMore item a ts a ts
  more_next : {a b c : A} {ts us vs : List Token} →
      item a ts b us → IsMore item b us c vs → IsMore item a (symbol comma ∷ ts) c vs

mutual
  -- target = ident | "(" targets ")", and with dots ident { "." ident }
  pub data IsTarget (dots : Bool) : ℕ → List Token → Expression → List Token → Type 0 where
    name_target : {d : ℕ} {e : Expression} {ts us : List Token} → dots ≡ false → IsStored ts e us → IsTarget dots d ts e us
    path_target : {d : ℕ} {a e : Expression} {ts us vs : List Token} →
        dots ≡ true → IsStored ts a us → IsPath a us e vs → IsTarget dots d ts e vs
    paren_target : {d : ℕ} {e : Expression} {ts us : List Token} →
        IsTargets dots d ts e (symbol paren_close ∷ us) → IsTarget dots (suc d) (symbol paren_open ∷ ts) e us

  -- targets = target { "," target }: one is itself, several are unpacked
  pub data IsTargets (dots : Bool) : ℕ → List Token → Expression → List Token → Type 0 where
    targets : {d : ℕ} {a e : Expression} {es : Expressions} {ts us vs : List Token} →
        IsTarget dots d ts a us → IsMoreTargets dots d (expressions_more a no_expressions) us es vs → e ≡ unpacked es →
        IsTargets dots d ts e vs

  pub data IsMoreTargets (dots : Bool) : ℕ → Expressions → List Token → Expressions → List Token → Type 0 where
    targets_end : {d : ℕ} {es : Expressions} {ts : List Token} → IsMoreTargets dots d es ts es ts
    targets_next : {d : ℕ} {e : Expression} {es fs : Expressions} {ts us vs : List Token} →
        IsTarget dots d ts e us → IsMoreTargets dots d (and_expression es e) us fs vs →
        IsMoreTargets dots d es (symbol comma ∷ ts) fs vs

-- expr { "," expr }: several are a tuple
pub data IsValue (d : ℕ) : Expressions → List Token → Expressions → List Token → Type 0 where
  value : {e : Expression} {es fs : Expressions} {ts us : List Token} →
      IsExpression d ts e us → fs ≡ and_expression es e → IsValue d es ts fs us

pub data IsValues : ℕ → List Token → Expression → List Token → Type 0 where
  values : {d : ℕ} {e : Expression} {es fs : Expressions} {ts us vs : List Token} →
      IsValue d no_expressions ts es us → IsMore (IsValue d) es us fs vs → e ≡ together fs → IsValues d ts e vs

-- [target "=" expr {"," target "=" expr}]
pub data IsAssignment (d : ℕ) : Assignments → List Token → Assignments → List Token → Type 0 where
  assignment : {t e : Expression} {gs hs : Assignments} {ts us vs : List Token} →
      IsTarget false d ts t (symbol assign ∷ us) → IsExpression d us e vs → hs ≡ and_assignment gs t e →
      IsAssignment d gs ts hs vs

pub data IsAssignments : ℕ → List Token → Assignments → List Token → Type 0 where
  none_assigned : {d : ℕ} {ts : List Token} → IsAssignments d ts no_assignments ts
  some_assigned : {d : ℕ} {gs hs : Assignments} {ts us vs : List Token} →
      IsAssignment d no_assignments ts gs us → IsMore (IsAssignment d) gs us hs vs → IsAssignments d ts hs vs

-- ["if" expr], whose branch is no level deeper
pub data IsLoopFilter : ℕ → List Token → Optional → List Token → Type 0 where
  no_loop_filter : {d : ℕ} {ts : List Token} → IsLoopFilter d ts absent ts
  a_loop_filter : {d : ℕ} {e : Expression} {ts us : List Token} →
      IsExpression d ts e us → IsLoopFilter d (word_if ∷ ts) (given e) us

-- [name]: whether the word stands there
pub data IsWord (name : List ℕ) : List Token → Bool → List Token → Type 0 where
  no_word : {ts : List Token} → IsWord name ts false ts
  a_word : {ts : List Token} → IsWord name (identifier name ∷ ts) true ts

-- ["with" "context"], which changes nothing
pub data IsContext : List Token → List Token → Type 0 where
  no_context : {ts : List Token} → IsContext ts ts
  with_context : {ts : List Token} → IsContext (word (codes "with") ∷ word (codes "context") ∷ ts) ts

-- ["with" "context"] ["ignore" "missing" ["with" "context"]]
pub data IsMissing : List Token → Bool → List Token → Type 0 where
  not_ignored : {ts us : List Token} → IsContext ts us → IsMissing ts false us
  ignored : {ts us vs : List Token} →
      IsContext ts (word (codes "ignore") ∷ word (codes "missing") ∷ us) → IsContext us vs → IsMissing ts true vs

-- ident ["as" ident]
pub data IsImport : Imports → List Token → Imports → List Token → Type 0 where
  same_name : {n : Expression} {is js : Imports} {ts us : List Token} →
      IsStored ts n us → js ≡ and_import is n absent → IsImport is ts js us
  other_name : {n a : Expression} {is js : Imports} {ts us vs : List Token} →
      IsStored ts n (word (codes "as") ∷ us) → IsStored us a vs → js ≡ and_import is n (given a) → IsImport is ts js vs

-- ident ["=" expr]: behind a default, each argument has one
pub data IsParameter (d : ℕ) : Parameters → List Token → Parameters → List Token → Type 0 where
  plain_parameter : {a : Expression} {p q : Parameters} {ts us : List Token} →
      IsStored ts a us → p.1 ≡ no_expressions → q ≡ and_plain p a → IsParameter d p ts q us
  default_parameter : {a e : Expression} {p q : Parameters} {ts us vs : List Token} →
      IsStored ts a (symbol assign ∷ us) → IsExpression d us e vs → q ≡ and_default p a e → IsParameter d p ts q vs

-- [parameter {"," parameter}] ")"
pub data IsParameters : ℕ → List Token → Parameters → List Token → Type 0 where
  none_declared : {d : ℕ} {p : Parameters} {ts : List Token} →
      p ≡ no_parameters → IsParameters d (symbol paren_close ∷ ts) p ts
  some_declared : {d : ℕ} {p q : Parameters} {ts us vs : List Token} →
      IsParameter d no_parameters ts p us → IsMore (IsParameter d) p us q (symbol paren_close ∷ vs) → IsParameters d ts q vs

-- ["(" parameters ")"]: the next `(` begins them
pub data IsOptionalParameters : ℕ → List Token → Parameters → List Token → Type 0 where
  not_declared : {d : ℕ} {p : Parameters} {ts : List Token} →
      begins_paren ts ≡ false → p ≡ no_parameters → IsOptionalParameters d ts p ts
  declared : {d : ℕ} {p : Parameters} {ts us : List Token} →
      IsParameters d ts p us → IsOptionalParameters (suc d) (symbol paren_open ∷ ts) p us

-- "endblock" [ident]: the name is the block's
pub data IsBlockEnd (name : List ℕ) : List Token → List Token → Type 0 where
  plain_end : {ts : List Token} → IsBlockEnd name (tag (codes "endblock") ts) ts
  named_end : {ts : List Token} → IsBlockEnd name (opens (codes "endblock") (identifier name ∷ block_end ∷ ts)) ts

mutual
  -- { statement }
  pub data IsStatements : ℕ → Around → Statements → List Token → Statements → List Token → Type 0 where
    statements_end : {d : ℕ} {p : Around} {ss : Statements} {ts : List Token} → IsStatements d p ss ts ss ts
    statements_next : {d : ℕ} {p : Around} {s : Statement} {ss all : Statements} {ts us vs : List Token} →
        IsStatement d p ts s us → IsStatements d p (and_statement ss s) us all vs → IsStatements d p ss ts all vs

  -- the body of a statement is one level deeper
  pub data IsStatement : ℕ → Around → List Token → Statement → List Token → Type 0 where
    text_statement : {d : ℕ} {p : Around} {s : List ℕ} {ts : List Token} →
        IsStatement d p (template_data s ∷ ts) (raw s) ts
    print_statement : {d : ℕ} {p : Around} {e : Expression} {ts us : List Token} →
        IsExpression d ts e (variable_end ∷ us) → IsStatement d p (variable_start ∷ ts) (print e) us
    -- for targets in or [if expr] [recursive], body, [else body], endfor
    for_statement : {d : ℕ} {p : Around} {t i : Expression} {f : Optional} {r : Bool} {body other : Statements}
        {ts us vs ws xs ys zs : List Token} →
        IsTargets false (suc d) ts t (word_in ∷ us) → IsBinary (suc d) disjunction us i vs → IsLoopFilter (suc d) vs f ws →
        IsWord (codes "recursive") ws r (block_end ∷ xs) →
        IsStatements d (loop_around p) no_statements xs body ys → IsElse d p (codes "endfor") ys other zs →
        IsStatement (suc d) p (opens (codes "for") ts) (for_loop t i f r body other) zs
    -- if expr, body, {elif expr body}, [else body], endif
    if_statement : {d : ℕ} {p : Around} {c : Expression} {s : Statement} {bs : Branches} {body other : Statements}
        {ts us vs ws xs : List Token} →
        IsExpression (suc d) ts c (block_end ∷ us) → IsStatements d p no_statements us body vs →
        IsBranches d p no_branches vs bs ws → IsElse d p (codes "endif") ws other xs →
        s ≡ if_condition c body (branched bs other) → IsStatement (suc d) p (opens (codes "if") ts) s xs
    -- with [target = expr {, target = expr}], body, endwith
    with_statement : {d : ℕ} {p : Around} {gs : Assignments} {body : Statements} {ts us vs : List Token} →
        IsAssignments (suc d) ts gs (block_end ∷ us) → IsStatements d p no_statements us body (tag (codes "endwith") vs) →
        IsStatement (suc d) p (opens (codes "with") ts) (with_block gs body) vs
    -- set targets = expr {, expr}
    set_statement : {d : ℕ} {p : Around} {t e : Expression} {ts us vs : List Token} →
        IsTargets true d ts t (symbol assign ∷ us) → IsValues d us e (block_end ∷ vs) →
        IsStatement d p (opens (codes "set") ts) (set t e) vs
    -- set target {filter}, body, endset
    set_block_statement : {d : ℕ} {p : Around} {t : Expression} {f : Optional} {body : Statements} {ts us vs ws : List Token} →
        IsTarget true (suc d) ts t us → IsFilterChain (suc d) absent us f (block_end ∷ vs) →
        IsStatements d p no_statements vs body (tag (codes "endset") ws) →
        IsStatement (suc d) p (opens (codes "set") ts) (set_block t f body) ws
    -- autoescape expr, body, endautoescape
    autoescape_statement : {d : ℕ} {p : Around} {e : Expression} {body : Statements} {ts us vs : List Token} →
        IsExpression (suc d) ts e (block_end ∷ us) →
        IsStatements d p no_statements us body (tag (codes "endautoescape") vs) →
        IsStatement (suc d) p (opens (codes "autoescape") ts) (auto_escape e body) vs
    -- filter name [(args)] {filter}, body, endfilter
    filter_statement : {d : ℕ} {p : Around} {e f : Expression} {body : Statements} {ts us vs ws : List Token} →
        IsFilter (suc d) absent ts e us → IsFilterChain (suc d) (given e) us (given f) (block_end ∷ vs) →
        IsStatements d p no_statements vs body (tag (codes "endfilter") ws) →
        IsStatement (suc d) p (opens (codes "filter") ts) (filter_block f body) ws
    -- block ident [required], body, endblock [ident]: not in a macro
    block_statement : {d : ℕ} {p : Around} {n : List ℕ} {r : Bool} {body : Statements} {ts us vs ws : List Token} →
        p.macro ≡ false → IsWord (codes "required") ts r (block_end ∷ us) →
        IsStatements d (block_around p) no_statements us body vs → is_block_body r body ≡ true → IsBlockEnd n vs ws →
        IsStatement (suc d) p (opens (codes "block") (identifier n ∷ ts)) (block n r body) ws
    -- import expr as ident
    import_statement : {d : ℕ} {p : Around} {e a : Expression} {ts us vs ws : List Token} →
        IsExpression d ts e (word (codes "as") ∷ us) → IsStored us a vs → IsContext vs (block_end ∷ ws) →
        IsStatement d p (opens (codes "import") ts) (import e a) ws
    -- from expr import ident [as ident] {, ident [as ident]}
    from_statement : {d : ℕ} {p : Around} {e : Expression} {is js : Imports} {ts us vs ws xs : List Token} →
        IsExpression d ts e (word (codes "import") ∷ us) → IsImport no_imports us is vs → IsMore IsImport is vs js ws →
        IsContext ws (block_end ∷ xs) → IsStatement d p (opens (codes "from") ts) (from_import e js) xs
    extends_statement : {d : ℕ} {p : Around} {e : Expression} {ts us : List Token} →
        IsExpression d ts e (block_end ∷ us) → IsStatement d p (opens (codes "extends") ts) (extends e) us
    -- include expr [ignore missing]
    include_statement : {d : ℕ} {p : Around} {e : Expression} {i : Bool} {ts us vs : List Token} →
        IsExpression d ts e us → IsMissing us i (block_end ∷ vs) →
        IsStatement d p (opens (codes "include") ts) (include e i) vs
    -- macro ident(parameters), body, endmacro
    macro_statement : {d : ℕ} {p : Around} {n : List ℕ} {q : Parameters} {s : Statement} {body : Statements}
        {ts us vs : List Token} →
        is_reserved n ≡ false → IsParameters d ts q (block_end ∷ us) →
        IsStatements d macro_around no_statements us body (tag (codes "endmacro") vs) → s ≡ macro n q.0 q.1 body →
        IsStatement (suc d) p (opens (codes "macro") (identifier n ∷ symbol paren_open ∷ ts)) s vs
    -- call [(parameters)] call, body, endcall
    call_statement : {d : ℕ} {p : Around} {q : Parameters} {c : Expression} {args : Arguments} {s : Statement}
        {body : Statements} {ts us vs ws : List Token} →
        IsOptionalParameters (suc d) ts q us → IsExpression (suc d) us (call c args) (block_end ∷ vs) →
        IsStatements d macro_around no_statements vs body (tag (codes "endcall") ws) →
        s ≡ call_block c args q.0 q.1 body → IsStatement (suc d) p (opens (codes "call") ts) s ws
    do_statement : {d : ℕ} {p : Around} {c : Expression} {args : Arguments} {ts us : List Token} →
        IsExpression d ts (call c args) (block_end ∷ us) → IsStatement d p (opens (codes "do") ts) (do_call c args) us
    -- inside a loop of the same body
    break_statement : {d : ℕ} {p : Around} {ts : List Token} →
        p.loop ≡ true → IsStatement d p (tag (codes "break") ts) break_loop ts
    continue_statement : {d : ℕ} {p : Around} {ts : List Token} →
        p.loop ≡ true → IsStatement d p (tag (codes "continue") ts) continue_loop ts

  -- {elif expr body}, no level deeper
  pub data IsBranches : ℕ → Around → Branches → List Token → Branches → List Token → Type 0 where
    branches_end : {d : ℕ} {p : Around} {bs : Branches} {ts : List Token} → IsBranches d p bs ts bs ts
    branches_next : {d : ℕ} {p : Around} {c : Expression} {body : Statements} {bs all : Branches} {ts us vs ws : List Token} →
        IsExpression (suc d) ts c (block_end ∷ us) → IsStatements d p no_statements us body vs →
        IsBranches d p (and_branch bs c body) vs all ws → IsBranches d p bs (opens (codes "elif") ts) all ws

  -- [else body], and the end
  pub data IsElse : ℕ → Around → List ℕ → List Token → Statements → List Token → Type 0 where
    no_else : {d : ℕ} {p : Around} {end : List ℕ} {ts : List Token} → IsElse d p end (tag end ts) no_statements ts
    an_else : {d : ℕ} {p : Around} {end : List ℕ} {body : Statements} {ts us : List Token} →
        IsStatements d p no_statements ts body (tag end us) → IsElse d p end (tag (codes "else") ts) body us

-- the tokens of a whole source: statements nest at most 150 deep, and a block's name stands once
pub data IsTemplate : List Token → Statements → Type 0 where
  whole_template : {ss : Statements} {ts : List Token} →
      IsStatements 150 nothing_around no_statements ts ss [] → are_distinct (blocks_among ss) ≡ true → IsTemplate ts ss
