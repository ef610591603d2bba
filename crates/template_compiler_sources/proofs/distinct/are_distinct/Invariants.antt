use Rattle.std.proofs.Common.{◌≡◌, ◌&&◌, not, drop}
use Rattle.std.specs.List.{list_any}
use Rattle.template_compiler_grammar.specs.TemplateTrees.{are_distinct}
use Rattle.template_compiler_sources.specs.Seen.{has_seen}
use Rattle.template_compiler_sources.specs.Waiting.{texts_in}
use Rattle.template_compiler_sources.proofs.distinct.are_distinct.Given as goal

-- whether those that are left differ from one another and from those that were seen
abbrev pub invariant-loop-name : goal.invariant-loop-name
invariant-loop-name l =
    (are_distinct (texts_in (drop l.name-index l.names)) && not (list_any (λ n. has_seen l.seen n.now) (drop l.name-index l.names))) ≡
    are_distinct (texts_in l.names)
