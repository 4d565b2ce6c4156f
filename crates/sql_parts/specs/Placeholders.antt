-- What the code says of a template, in the words of its definition.
use Rattle.std.specs.Prelude.{◌≡◌, ℕ, ◌≤◌, ◌^◌, List, Option, MatchOption, drop}
use Rattle.std.specs.Borrow.{Bor}
use Rattle.sql_parts.specs.Templates as templates
use Rattle.sql_parts.specs.declared.placeholders.Marks.{Marks}
use Rattle.sql_parts.specs.declared.placeholders.Marks.TheVariants as marks
use Rattle.sql_parts.specs.declared.placeholders.Content.{Content}
use Rattle.sql_parts.specs.declared.placeholders.Content.TheVariants as contents
use Rattle.sql_parts.specs.declared.placeholders.Replacement.{Replacement}
use Rattle.sql_parts.specs.declared.placeholders.Replacement.TheVariants as values

-- the marks that are meant
abbrev pub marks_of : Marks → templates.Marks
marks_of marks.First = templates.First
marks_of (marks.Cycle count) = templates.Cycle count
marks_of (marks.Num number) = templates.Num number
marks_of (marks.Nums count) = templates.Nums count
marks_of (marks.Name name) = templates.Name name.now
marks_of marks.Names = templates.Names

-- the value that is meant
abbrev pub value_of : Replacement → templates.Replacement
value_of (values.Argument at) = templates.Argument at
value_of (values.Named name) = templates.Named name.now

-- the content that is meant, where the marks have this prefix
abbrev pub content_of : List ℕ → Content → templates.Content
content_of prefix contents.Prefix = templates.Writes prefix
content_of prefix (contents.Writes text) = templates.Writes text.now
content_of prefix (contents.Holds value) = templates.Holds (value_of value)

-- the number, or none where it is past the numbers of the code
abbrev pub IsNumber : Option ℕ → ℕ → Type 0
IsNumber found number = MatchOption found (2 ^ 64 ≤ number) (λ n. n ≡ number)

-- what is read behind this prefix, and the text behind it, are as defined
abbrev pub RepresentsContent : List ℕ → List ℕ → Content × Bor (List ℕ) → templates.Content × ℕ → Type 0
RepresentsContent prefix text found defined = (content_of prefix found.0 ≡ defined.0) × (found.1.now ≡ drop defined.1 text)
