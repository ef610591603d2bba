-- Over contexts that agree on the used names a render leaves the same.
use Rattle.std.proofs.Common.{◌≡◌, ℕ, zero, suc, ◌==◌, inl, inr, Bool, true, false, List, [], ◌∷◌, ◌++◌, length, Option, None, Some, option_map, codes, refl, sym, ap, subst}
use Rattle.std.specs.Prelude.{IsTrue, not, ◌&&◌, ◌||◌, if◌then◌else◌}
use Rattle.std.specs.Option.{option_and_then}
use Rattle.std.specs.Str.{bytes_eq}
use Rattle.std.proofs.lemmas.Bool.{or_left, or_right}
use Rattle.template_values_model.specs.Val.{Val}
use Rattle.template_callables.specs.Callables.{no_callables}
use Rattle.template_compiler_tree.specs.Tree.{Statement, Statements, for_loop, if_condition, with_block, set_block, auto_escape, filter_block, block, no_statements, statements_more}
use Rattle.template_compiler_names.specs.Among.{Among, nothing}
use Rattle.template_compiler_names.specs.Names.{is_used_in, is_used, is_stored_everywhere}
use Rattle.template_compiler_process.specs.Process.{Process}
use Rattle.template_compiler_process.specs.Drive.{breaks}
use Rattle.template_compiler_process.specs.Trace.{Run, run, ended}
use Rattle.template_compiler_process.specs.Fuel.{IsSameRun}
use Rattle.template_compiler_process.proofs.Fuels.{cut_alike}
use Rattle.template_compiler_walk.specs.Statements.{number_of, template_walk, macro_walk, rounds_walk}
use Rattle.template_compiler_walk.specs.Counting.{MacroBody, LoopRounds, macro_numbered, rounds_numbered}
use Rattle.template_compiler_walk.specs.Blocks.{Block, blocks_by, blocks_in, block_among, block_named}
use Rattle.template_compiler_walk.specs.Imported.{is_imported_by, is_imported}
use Rattle.template_machine_meaning.specs.World.{Bindings, Frame, World, first_world}
use Rattle.template_machine_meaning.specs.Keys as keys
use Rattle.template_machine_meaning.specs.Keys.{Home, standing, Stream, own, block_of, Part, whole, body_of, rounds_of, Key, whole_of}
use Rattle.template_machine_meaning.specs.Functions.{filter_named, test_named, function_numbered, method_of}
use Rattle.template_machine_meaning.specs.Plans.{ran, followed}
use Rattle.template_machine_meaning.specs.Surroundings.{Programs, respond, runners}
use Rattle.template_machine_meaning.specs.Meaning as meanings
use Rattle.template_machine_meaning.specs.Meaning.{Standing, Setting, template_at, tree_in, tree_of, body_walk, part_walk, head_of, walks_of, top, rendered}
use Rattle.template_machine_meaning.specs.Isolation.{is_given, is_used_by_block, used_of_rounds, is_used_by_rounds_of, is_used_by_rounds, is_needed, IsContextName, AgreesAt, AskNoNames, ImportsNamesAt, ImportsNames, IsolatesNames}
use Rattle.template_machine_meaning.proofs.Known.{Known, base, inner, unmade, Within}
use Rattle.template_machine_meaning.proofs.Turned.{over_context, grown_itself, Fits}
use Rattle.template_machine_meaning.proofs.Walks.{used_of, template_within, macro_within, rounds_within}
use Rattle.template_machine_meaning.proofs.Replies.{begun_at, from_key, Runs, RunsSo, runs_so, followed_so}

module _ (names : List ℕ → Type 0) (given : (name : List ℕ) → IsTrue (is_given name) → names name) (d : Val) where
  -- what a region uses, the template uses, or the engine gives
  shown : (name : List ℕ) (b c : Bool) → (b ≡ true → names name) → (IsTrue (not b && c) → names name) → IsTrue c → names name
  shown name true c kept listed used = kept refl
  shown name false c kept listed used = listed used

  is_loop : (name : List ℕ) → IsTrue (bytes_eq name (codes "loop")) → names name
  is_loop name e =
      given name (or_left (is_stored_everywhere name || bytes_eq name (codes "loop")) (bytes_eq name (codes "caller")) (or_right (is_stored_everywhere name) (bytes_eq name (codes "loop")) e))

  is_everywhere : (name : List ℕ) → IsTrue (is_stored_everywhere name) → names name
  is_everywhere name e =
      given name (or_left (is_stored_everywhere name || bytes_eq name (codes "loop")) (bytes_eq name (codes "caller")) (or_left (is_stored_everywhere name) (bytes_eq name (codes "loop")) e))

  is_caller : (name : List ℕ) → IsTrue (bytes_eq name (codes "caller")) → names name
  is_caller name e = given name (or_right (is_stored_everywhere name || bytes_eq name (codes "loop")) (bytes_eq name (codes "caller")) e)

  used_in : (tree : Statements) → ((name : List ℕ) → IsTrue (is_used name tree) → names name) → (name : List ℕ) → IsTrue (is_used_in name tree) → names name
  used_in tree listed name used = shown name (is_stored_everywhere name) (is_used_in name tree) (is_everywhere name) (listed name) used

  abbrev Listed : (List ℕ → Bool) → Type 0
  Listed f = (name : List ℕ) → IsTrue (f name) → names name

  listed_left : (f g : List ℕ → Bool) → Listed (λ name. f name || g name) → Listed f
  listed_left f g listed name i = listed name (or_left (f name) (g name) i)

  listed_right : (f g : List ℕ → Bool) → Listed (λ name. f name || g name) → Listed g
  listed_right f g listed name i = listed name (or_right (f name) (g name) i)

  -- A tree runs by itself, and so do the rounds of its loops: what they use is listed, and what is imported, which are names.
  record Alone (tree : Statements) : Type 0 where
    used : (name : List ℕ) → IsTrue (is_used_in name tree) → names name
    again : Listed (λ name. is_used_by_rounds name tree)
    imported : Listed (λ name. is_imported name tree)
    are : ImportsNames tree

  -- so do its blocks
  abbrev Takes : Statements → Type 0
  Takes tree = Listed (λ name. is_used_by_rounds name tree) × Listed (λ name. is_imported name tree) × ImportsNames tree

  abbrev AllTake : List Block → Type 0
  AllTake [] = Unit {0}
  AllTake (b ∷ blocks) = Takes b.body × AllTake blocks

  both_take : (blocks more : List Block) → AllTake blocks → AllTake more → AllTake (blocks ++ more)
  both_take [] more first second = second
  both_take (b ∷ blocks) more first second = (first.0, both_take blocks more first.1 second)

  abbrev TakesOne : Statement → Type 0
  TakesOne st = Listed (λ name. is_used_by_rounds_of name st) × Listed (λ name. is_imported_by name st) × ImportsNamesAt st

  mutual
    one_takes : (st : Statement) → TakesOne st → AllTake (blocks_by st)
    one_takes (for_loop target e condition recursive body otherwise) takes =
        let own : List ℕ → Bool = λ name. recursive && used_of_rounds name target (is_used_in name body) in
        let within : List ℕ → Bool = λ name. is_used_by_rounds name body in
        let later : List ℕ → Bool = λ name. is_used_by_rounds name otherwise in
        let most = listed_left (λ name. own name || within name) later takes.0 in
        both_take (blocks_in body) (blocks_in otherwise)
        (all_take body (listed_right own within most, listed_left (λ name. is_imported name body) (λ name. is_imported name otherwise) takes.1, takes.2.0))
        (all_take otherwise (listed_right (λ name. own name || within name) later takes.0, listed_right (λ name. is_imported name body) (λ name. is_imported name otherwise) takes.1, takes.2.1))
    one_takes (if_condition e body otherwise) takes =
        both_take (blocks_in body) (blocks_in otherwise)
        (all_take body (listed_left (λ name. is_used_by_rounds name body) (λ name. is_used_by_rounds name otherwise) takes.0, listed_left (λ name. is_imported name body) (λ name. is_imported name otherwise) takes.1, takes.2.0))
        (all_take otherwise (listed_right (λ name. is_used_by_rounds name body) (λ name. is_used_by_rounds name otherwise) takes.0, listed_right (λ name. is_imported name body) (λ name. is_imported name otherwise) takes.1, takes.2.1))
    one_takes (with_block _ body) takes = all_take body takes
    one_takes (set_block target filters body) takes = all_take body takes
    one_takes (auto_escape e body) takes = all_take body takes
    one_takes (filter_block filters body) takes = all_take body takes
    one_takes (block name required body) takes = (takes, all_take body takes)
    one_takes _ takes = tt

    all_take : (ss : Statements) → Takes ss → AllTake (blocks_in ss)
    all_take no_statements takes = tt
    all_take (statements_more st ss) takes =
        both_take (blocks_by st) (blocks_in ss)
        (one_takes st (listed_left (λ name. is_used_by_rounds_of name st) (λ name. is_used_by_rounds name ss) takes.0, listed_left (λ name. is_imported_by name st) (λ name. is_imported name ss) takes.1, takes.2.0))
        (all_take ss (listed_right (λ name. is_used_by_rounds_of name st) (λ name. is_used_by_rounds name ss) takes.0, listed_right (λ name. is_imported_by name st) (λ name. is_imported name ss) takes.1, takes.2.1))

  abbrev body_in : Option Block → Option Statements
  body_in o = option_map (λ (b : Block). b.body) o

  abbrev IsBodyAlone : Option Block → Type 0
  IsBodyAlone o = (t : Statements) → body_in o ≡ Some t → Alone t

  first_alone : (b : Block) (o : Option Block) → Alone b.body → IsBodyAlone o → (is : Bool) → IsBodyAlone (if is then Some b else o)
  first_alone b o alone later true t e = let same : b.body ≡ t = cc in subst Alone same alone
  first_alone b o alone later false t e = later t e

  body_alone_by : (b : Block) → Listed (λ name. is_used name b.body) → Takes b.body → Alone b.body
  body_alone_by b listed takes = record { used = used_in b.body listed; again = takes.0; imported = takes.1; are = takes.2 }

  among_alone : (id : List ℕ) (blocks : List Block) → Listed (λ name. is_used_by_block name blocks) → AllTake blocks → IsBodyAlone (block_among id blocks)
  among_alone id [] listed takes t e = absurd (cc)
  among_alone id (b ∷ blocks) listed takes t e =
      first_alone b (block_among id blocks) (body_alone_by b (listed_left (λ name. is_used name b.body) (λ name. is_used_by_block name blocks) listed) takes.0)
      (among_alone id blocks (listed_right (λ name. is_used name b.body) (λ name. is_used_by_block name blocks) listed) takes.1) (bytes_eq b.name id) t e

  -- a template whose needed names are listed
  abbrev Needs : Statements → Type 0
  Needs tree = Listed (λ name. is_needed name tree) × ImportsNames tree

  module _ (tree : Statements) (needs : Needs tree) where
    abbrev by_itself : List ℕ → Bool
    by_itself name = is_used name tree || is_used_by_block name (blocks_in tree)

    abbrev of_loops : List ℕ → Bool
    of_loops name = not (is_stored_everywhere name) && is_used_by_rounds name tree

    abbrev by_rounds : List ℕ → Bool
    by_rounds name = by_itself name || of_loops name

    of_rounds : Listed by_rounds
    of_rounds = listed_left by_rounds (λ name. is_imported name tree) needs.0

    of_parts : Listed by_itself
    of_parts = listed_left by_itself of_loops of_rounds

    in_rounds : Listed (λ name. is_used_by_rounds name tree)
    in_rounds name used = shown name (is_stored_everywhere name) (is_used_by_rounds name tree) (is_everywhere name) (listed_right by_itself of_loops of_rounds name) used

    takes : Takes tree
    takes = (in_rounds, listed_right by_rounds (λ name. is_imported name tree) needs.0, needs.1)

    whole_alone : Alone tree
    whole_alone = record {
      used = used_in tree (listed_left (λ name. is_used name tree) (λ name. is_used_by_block name (blocks_in tree)) of_parts);
      again = takes.0;
      imported = takes.1;
      are = takes.2;
    }

    block_alone : (id : List ℕ) (t : Statements) → body_in (block_named id tree) ≡ Some t → Alone t
    block_alone id t e =
        among_alone id (blocks_in tree) (listed_right (λ name. is_used name tree) (λ name. is_used_by_block name (blocks_in tree)) of_parts)
        (all_take tree takes) t e

  module _ (setting : Setting) (ask : AskNoNames setting.callables) (root : Standing) (first : Needs root.tree)
      (all : (name : List ℕ) (t : Standing) → setting.templates name ≡ Some t → Needs t.tree) where
    -- each tree that a key runs
    home_needs : (home : Home) (x : Standing) → template_at setting (Some root) home ≡ Some x → Needs x.tree
    home_needs keys.rendered x e = let same : root ≡ x = cc in subst (λ (y : Standing). Needs y.tree) same first
    home_needs (keys.standing name) x e = all name x e
    home_needs (keys.kept number) x e = absurd (cc)

    own_alone : (home : Home) (o : Option Standing) → template_at setting (Some root) home ≡ o → (t : Statements) → option_map (λ (x : Standing). x.tree) o ≡ Some t → Alone t
    own_alone home None e t is = absurd (cc)
    own_alone home (Some x) e t is = let same : x.tree ≡ t = cc in subst Alone same (whole_alone x.tree (home_needs home x e))

    body_alone : (home : Home) (id : List ℕ) (o : Option Standing) → template_at setting (Some root) home ≡ o → (t : Statements) → option_and_then (meanings.body_of id) o ≡ Some t → Alone t
    body_alone home id None e t is = absurd (cc)
    body_alone home id (Some x) e t is = block_alone x.tree (home_needs home x e) id t is

    stream_alone : (stream : Stream) (t : Statements) → tree_of setting (Some root) stream ≡ Some t → Alone t
    stream_alone (own home) t e = own_alone home (template_at setting (Some root) home) refl t e
    stream_alone (block_of home id) t e = body_alone home id (template_at setting (Some root) home) refl t e

    abbrev s : Programs
    s = walks_of setting (Some root)

    -- what the macro of a number in a stream uses
    abbrev used_by_macro : Option Statements → ℕ → Among
    used_by_macro o number = used_of (option_and_then (macro_numbered number) o)

    abbrev uses : Stream → ℕ → Among
    uses stream = used_by_macro (tree_of setting (Some root) stream)

    -- what a part of a stream keeps to
    abbrev Kept : Stream → Part → (ℕ → Among) → Process → Type 0
    Kept stream whole among p = (k : Known) → Within names among k k unmade p
    Kept stream (body_of number vs) among p = Within names among (base (among number)) (base (among number)) unmade p
    Kept stream (rounds_of number) among p = (k : Known) → Within names among (inner true nothing k) (inner true nothing k) unmade p

    macro_kept : (stream : Stream) (t : Statements) → Alone t → (n number : ℕ) (vs : List Val) (o : Option MacroBody) → macro_numbered number t ≡ o → (p : Process)
        → option_and_then (body_walk n vs) o ≡ Some p → Kept stream (body_of number vs) (used_by_macro (Some t)) p
    macro_kept stream t alone n number vs None found p e = absurd (cc)
    macro_kept stream t alone n number vs (Some m) found p e = given_all (number_of m.arguments == length vs) refl e
      where
        given_all : (b : Bool) → (number_of m.arguments == length vs) ≡ b → (if b then Some (macro_walk n m vs) else None) ≡ Some p → Kept stream (body_of number vs) (used_by_macro (Some t)) p
        given_all true many is =
            let same : macro_walk n m vs ≡ p = cc in
            subst (Kept stream (body_of number vs) (used_by_macro (Some t))) same
            (macro_within names is_loop t alone.imported alone.are is_everywhere is_caller n number m found vs many)
        given_all false many is = absurd (cc)

    rounds_kept : (stream : Stream) (t : Statements) → Alone t → (n number : ℕ) (o : Option LoopRounds) → rounds_numbered number t ≡ o → (p : Process)
        → option_map (rounds_walk n) o ≡ Some p → Kept stream (rounds_of number) (used_by_macro (Some t)) p
    rounds_kept stream t alone n number None found p e = absurd (cc)
    rounds_kept stream t alone n number (Some r) found p e =
        let same : rounds_walk n r ≡ p = cc in
        subst (Kept stream (rounds_of number) (used_by_macro (Some t))) same (rounds_within names is_loop t alone.imported alone.are alone.again n number r found)

    part_kept : (n : ℕ) (stream : Stream) (part : Part) (t : Statements) → Alone t → (p : Process) → part_walk n part t ≡ Some p → Kept stream part (used_by_macro (Some t)) p
    part_kept n stream whole t alone p e =
        let same : template_walk n t ≡ p = cc in
        subst (Kept stream whole (used_by_macro (Some t))) same (λ k. template_within names is_loop t alone.imported alone.are n alone.used k)
    part_kept n stream (body_of number vs) t alone p e = macro_kept stream t alone n number vs (macro_numbered number t) refl p e
    part_kept n stream (rounds_of number) t alone p e = rounds_kept stream t alone n number (rounds_numbered number t) refl p e

    tree_kept : (n : ℕ) (stream : Stream) (part : Part) (o : Option Statements) → tree_of setting (Some root) stream ≡ o → (p : Process) → option_and_then (part_walk n part) o ≡ Some p
        → Kept stream part (used_by_macro o) p
    tree_kept n stream part None e p is = absurd (cc)
    tree_kept n stream part (Some t) e p is = part_kept n stream part t (stream_alone stream t e) p is

    -- from where a key begins on
    begins_kept : (stream : Stream) (part : Part) (p : Process) → Kept stream part (uses stream) p → (k : Known)
        → Within names (uses stream) (from_key names uses d (record { stream = stream; part = part }) k) (from_key names uses d (record { stream = stream; part = part }) k) unmade p
    begins_kept stream whole p kept k = kept k
    begins_kept stream (body_of number vs) p kept k = kept
    begins_kept stream (rounds_of number) p kept k = kept k

    abbrev SoAt : Key → (Process → World → Run World) → Option Process → Type 0
    SoAt key f o = RunsSo names uses d key (option_map f o)

    found_so : (key : Key) (f : Process → World → Run World) (o : Option Process) → ((p : Process) → o ≡ Some p → RunsSo names uses d key (Some (f p))) → SoAt key f o
    found_so key f None so = tt
    found_so key f (Some p) so = so p refl

    -- a part's end is followed by a template that it extends, which only a whole stream does
    follows_so : (n : ℕ) → ((key : Key) → RunsSo names uses d key (runners s n key)) → (key : Key) (since : List Bindings) (under : List Frame) (k : Known) (r q : Run World)
        → Runs names uses d since under (from_key names uses d key k) r q → Runs names uses d since under (from_key names uses d key k) (followed (runners s n) key.part r) (followed (runners s n) key.part q)
    follows_so n so key since under k r q runs = followed_so names uses d (runners s n) so since under (from_key names uses d key k) key.part r q runs

    -- the keys, under each bound
    runners_so : (n : ℕ) (key : Key) → RunsSo names uses d key (runners s n key)
    runners_so zero key = found_so key (λ p w. ended breaks w) (s.process 0 key) (λ p e since under k w fits. record { same = refl; fits = λ h. absurd h })
    runners_so (suc n) key =
        found_so key (λ p w. followed (runners s n) key.part (run (respond s.around (runners s n)) p w)) (s.process n key)
        (λ p e since under k w fits.
        follows_so n (runners_so n) key since under k (run (respond s.around (runners s n)) p w) (run (respond s.around (runners s n)) p (over_context d w))
        (runs_so names uses d (begun_at key.stream since under) s.around ask (runners s n) (runners_so n) (from_key names uses d key k) p (from_key names uses d key k) unmade w fits tt
        (begins_kept key.stream key.part p (tree_kept n key.stream key.part (tree_of setting (Some root) key.stream) refl p e) k)))

    -- a render begins with its context alone
    first_fits : (id : ℕ) (c : Val) → ((name : List ℕ) → names name → AgreesAt d c name)
        → Fits names uses d (begun_at (own keys.rendered) [] []) (base nothing) (first_world id setting.globals (head_of root) c)
    first_fits id c agrees = record {
      framed = (λ name i. absurd (cc), refl, agrees);
      count = refl;
      held = tt;
      grown = grown_itself [];
      there = refl;
    }

    top_so : (o : Option (World → Run World)) → RunsSo names uses d top o → (w : World) → Fits names uses d (begun_at (own keys.rendered) [] []) (base nothing) w
        → Runs names uses d [] [] (base nothing) (ran o w) (ran o (over_context d w))
    top_so None so w fits = record { same = refl; fits = λ t. absurd t }
    top_so (Some r) so w fits = so [] [] (base nothing) w fits

    same_render : (id : ℕ) (c : Val) → ((name : List ℕ) → names name → AgreesAt d c name) → (n : ℕ) → IsSameRun (rendered setting id n root c) (rendered setting id n root d)
    same_render id c agrees n =
        let at = top_so (runners s (suc n) top) (runners_so (suc n) top) (first_world id setting.globals (head_of root) c) (first_fits id c agrees) in
        (sym (ap (λ (r : Run World). r.items) at.same), sym (ap (λ (r : Run World). r.end) at.same))

-- where a user brought nothing, nothing asks
pub no_callables_ask : AskNoNames no_callables
no_callables_ask (filter_named name) = tt
no_callables_ask (test_named name) = tt
no_callables_ask (function_numbered number) = tt
no_callables_ask (method_of v name) = tt

pub isolates_names : IsolatesNames
isolates_names setting ask imports id t own_imports c d agrees n fuel =
    cut_alike World World fuel (rendered setting id n t c) (rendered setting id n t d)
    (same_render (IsContextName setting t.tree) (λ name h. inl h) d setting ask t (λ name h. inr (inl h), own_imports) (λ other u e. (λ name h. inr (inr (other, u, e, h)), imports other u e)) id c
    (λ name h. sym (agrees name h)) n)
