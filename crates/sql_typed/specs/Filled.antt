-- When a template with operands is what it is to be.
use Rattle.std.specs.Prelude.{◌≡◌, ℕ, ◌==◌, ◌&&◌, ◌++◌, Bool, IsTrue, List, [], ◌∷◌, Option, None, Some, codes, map}
use Rattle.std.specs.List.{list_all}
use Rattle.sql_parts.specs.Error as builder
use Rattle.sql_parts.specs.Holes.{cut, filled, hole_count, holes_apart}
use Rattle.sql_parts.specs.Violations.{meets, violation_text}
use Rattle.sql_parts.specs.Readers.{Part, Constant, Reader, IsInsideAtEach, emptied, has_plain_text, marks, outer_states, parts_bytes}
use Rattle.sql_parts.specs.StringTexts.{outline}
use Rattle.sql_parts.specs.Tokens.{closed}
use Rattle.sql_parts.specs.declared.violations.Requirement.{Requirement}
use Rattle.sql_parts.specs.declared.violations.Violation as violations
use Rattle.sql_typed.specs.declared.template.TemplateError.{TemplateError}
use Rattle.sql_typed.specs.declared.template.TemplateError.TheVariants.{HolesTouch, OperandCount, Violation, Builder}

-- it meets what is asked, and has a hole for each of so many operands
abbrev pub takes : Requirement → List ℕ → ℕ → Bool
takes requirement template count = meets requirement template && hole_count template == count

-- why it doesn't fit, where it doesn't, and else that the counts differ
abbrev pub fault : Option violations.Violation → TemplateError
fault None = OperandCount
fault (Some reason) = Violation reason

-- the message of an error
abbrev pub message_text : TemplateError → List ℕ
message_text HolesTouch = codes "A ? is in a literal, a name or a comment, or has no separator beside it"
message_text OperandCount = codes "Not one operand for each ?"
message_text (Violation reason) = violation_text reason
message_text (Builder error) = builder.message_text error

-- the segments behind holes, with operands of these parts in them
abbrev pub parts_in_holes : List (List Part) → List (List ℕ) → List Part
parts_in_holes operands [] = []
parts_in_holes [] (segment ∷ segments) = Constant (codes "?" ++ segment) ∷ parts_in_holes [] segments
parts_in_holes (parts ∷ operands) (segment ∷ segments) = parts ++ Constant segment ∷ parts_in_holes operands segments

-- the parts of a template with such operands in its holes
abbrev pub filled_parts : List (List Part) → List ℕ → List Part
filled_parts operands template = Constant (cut template).0 ∷ parts_in_holes operands (cut template).1

-- Where operands are cut into parts, and others differ from them only in texts of plain bytes whose delimiters are doubled, any reader
-- that is inside of a literal at each of these is so in the others, and goes through the same states outside of them.
abbrev pub ReadersIgnoreOperandTexts : List (List ℕ) → List ℕ → Type 0
ReadersIgnoreOperandTexts operands template = (next : Reader) (plain : ℕ → Bool) (state : ℕ) (one other : List (List Part))
    → map parts_bytes one ≡ operands → map (map emptied) one ≡ map (map emptied) other
    → IsTrue (list_all (has_plain_text plain) (filled_parts one template)) → IsTrue (list_all (has_plain_text plain) (filled_parts other template))
    → IsInsideAtEach next plain state (filled_parts one template) → IsInsideAtEach next plain state (filled_parts other template)
    × (outer_states next state (marks (filled_parts one template)) (filled operands template)
    ≡ outer_states next state (marks (filled_parts other template)) (filled (map parts_bytes other) template))

-- Operands that are closed, and others that differ from them in texts of strings alone, fill a template to texts that have the same tokens,
-- but for these.
abbrev pub TemplatesFollowTheirOperands : Type 0
TemplatesFollowTheirOperands = (template : List ℕ) (one other : List (List ℕ)) → IsTrue (holes_apart template) → map outline one ≡ map outline other
    → IsTrue (list_all closed one) → outline (filled one template) ≡ outline (filled other template)
