-- A part of the syntax that is malformed.
use Rattle.std.proofs.Common.{◌≡◌, Option, Some, IsSomeAnd, codes, sym, subst}
use Rattle.json.specs.Json.{Json}
use Rattle.template_requests.specs.Members.{given}
use Rattle.template_requests.specs.Faults.{IsFlaw, IsSyntaxFault, Lacks, LacksInSyntax}
use Rattle.template_requests.specs.declared.member.Member.{Member}
use Rattle.template_requests.specs.declared.member.Member.TheVariants as member
use Rattle.template_requests.specs.declared.faults.MessageFault.{MessageFault}
use Rattle.template_requests.specs.declared.faults.MessageFault.TheVariants.{Malformed, Memory}

there : (part : Member) (j s : Json) → given (codes "syntax") j ≡ Some s → LacksInSyntax part s → IsSomeAnd (given (codes "syntax") j) (LacksInSyntax part)
there part j s e h = subst (λ (found : Option Json). IsSomeAnd found (LacksInSyntax part)) (sym e) h

lacks_in : (part : Member) (j s : Json) → given (codes "syntax") j ≡ Some s → LacksInSyntax part s → Lacks part j
lacks_in member.Whole j s e h = absurd h
lacks_in member.Templates j s e h = absurd h
lacks_in member.Main j s e h = absurd h
lacks_in member.Fuel j s e h = absurd h
lacks_in member.Limit j s e h = absurd h
lacks_in member.Undefined j s e h = absurd h
lacks_in member.Builtins j s e h = absurd h
lacks_in member.Floats j s e h = absurd h
lacks_in member.Autoescape j s e h = absurd h
lacks_in member.Syntax j s e h = there member.Syntax j s e h
lacks_in member.TrimBlocks j s e h = there member.TrimBlocks j s e h
lacks_in member.LstripBlocks j s e h = there member.LstripBlocks j s e h
lacks_in member.KeepTrailingNewline j s e h = there member.KeepTrailingNewline j s e h
lacks_in member.ScopedBlocks j s e h = there member.ScopedBlocks j s e h
lacks_in member.LineStatementPrefix j s e h = there member.LineStatementPrefix j s e h
lacks_in member.LineCommentPrefix j s e h = there member.LineCommentPrefix j s e h
lacks_in member.BlockStart j s e h = there member.BlockStart j s e h
lacks_in member.BlockEnd j s e h = there member.BlockEnd j s e h
lacks_in member.VariableStart j s e h = there member.VariableStart j s e h
lacks_in member.VariableEnd j s e h = there member.VariableEnd j s e h
lacks_in member.CommentStart j s e h = there member.CommentStart j s e h
lacks_in member.CommentEnd j s e h = there member.CommentEnd j s e h

-- a fault of the syntax that is given is one of the request
pub syntax_flaw : (j s : Json) → given (codes "syntax") j ≡ Some s → (fault : MessageFault) → IsSyntaxFault s fault → IsFlaw j fault
syntax_flaw j s e (Malformed part) h = lacks_in part j s e h
syntax_flaw j s e Memory h = h
