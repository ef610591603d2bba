-- Which member of a request is refused.
use Rattle.std.specs.Prelude.{◌≡◌, codes, None, IsSomeAnd, option_and_then}
use Rattle.json.specs.Json.{Json}
use Rattle.json.specs.Find.{as_object, as_str}
use Rattle.template_requests.specs.Words.{escape_of, floats_of, mode_of}
use Rattle.template_requests.specs.Members.{LacksNumber, flag_of, given, member_name, text_of}
use Rattle.template_requests.specs.Templates.{LacksTexts}
use Rattle.template_requests.specs.declared.member.Member.{Member}
use Rattle.template_requests.specs.declared.member.Member.TheVariants as member
use Rattle.template_requests.specs.declared.faults.MessageFault.{MessageFault}
use Rattle.template_requests.specs.declared.faults.MessageFault.TheVariants.{Malformed, Memory}

-- the syntax has a part of this name that is no flag
abbrev pub LacksFlag : Member → Json → Type 0
LacksFlag part syntax = flag_of (given (member_name part) syntax) ≡ None

-- the syntax has a part of this name that is no text
abbrev pub LacksPart : Member → Json → Type 0
LacksPart part syntax = text_of (given (member_name part) syntax) ≡ None

-- a part of the syntax is malformed
abbrev pub LacksInSyntax : Member → Json → Type 0
LacksInSyntax member.Syntax syntax = as_object syntax ≡ None
LacksInSyntax member.TrimBlocks syntax = LacksFlag member.TrimBlocks syntax
LacksInSyntax member.LstripBlocks syntax = LacksFlag member.LstripBlocks syntax
LacksInSyntax member.KeepTrailingNewline syntax = LacksFlag member.KeepTrailingNewline syntax
LacksInSyntax member.ScopedBlocks syntax = LacksFlag member.ScopedBlocks syntax
LacksInSyntax member.LineStatementPrefix syntax = LacksPart member.LineStatementPrefix syntax
LacksInSyntax member.LineCommentPrefix syntax = LacksPart member.LineCommentPrefix syntax
LacksInSyntax member.BlockStart syntax = LacksPart member.BlockStart syntax
LacksInSyntax member.BlockEnd syntax = LacksPart member.BlockEnd syntax
LacksInSyntax member.VariableStart syntax = LacksPart member.VariableStart syntax
LacksInSyntax member.VariableEnd syntax = LacksPart member.VariableEnd syntax
LacksInSyntax member.CommentStart syntax = LacksPart member.CommentStart syntax
LacksInSyntax member.CommentEnd syntax = LacksPart member.CommentEnd syntax
LacksInSyntax _ syntax = ⊥

-- the member lacks, or says nothing that it can say
abbrev pub Lacks : Member → Json → Type 0
Lacks member.Whole j = as_object j ≡ None
Lacks member.Templates j = LacksTexts (given (codes "templates") j)
Lacks member.Main j = option_and_then as_str (given (codes "main") j) ≡ None
Lacks member.Fuel j = LacksNumber (given (codes "fuel") j)
Lacks member.Limit j = LacksNumber (given (codes "limit") j)
Lacks member.Undefined j = option_and_then mode_of (text_of (given (codes "undefined") j)) ≡ None
Lacks member.Builtins j = flag_of (given (codes "builtins") j) ≡ None
Lacks member.Floats j = option_and_then floats_of (text_of (given (codes "floats") j)) ≡ None
Lacks member.Autoescape j = option_and_then escape_of (text_of (given (codes "autoescape") j)) ≡ None
Lacks part j = IsSomeAnd (given (codes "syntax") j) (LacksInSyntax part)

-- a part of the syntax is malformed, or memory is wanting
abbrev pub IsSyntaxFault : Json → MessageFault → Type 0
IsSyntaxFault syntax (Malformed part) = LacksInSyntax part syntax
IsSyntaxFault syntax Memory = ⊥

-- a member is malformed, or memory is wanting
abbrev pub IsFault : Json → MessageFault → Type 0
IsFault j (Malformed of) = Lacks of j
IsFault j Memory = Unit {0}

-- the same without want of memory
abbrev pub IsFlaw : Json → MessageFault → Type 0
IsFlaw j (Malformed of) = Lacks of j
IsFlaw j Memory = ⊥

-- the member is malformed so, or memory is wanting
abbrev pub IsFaultOf : MessageFault → Member → Type 0 → Type 0
IsFaultOf (Malformed of) member Wrong = (of ≡ member) × Wrong
IsFaultOf Memory member Wrong = Unit {0}
