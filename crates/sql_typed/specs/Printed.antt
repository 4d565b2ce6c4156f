-- What a text is that a finish prints of a statement whose texts all fit.
use Rattle.std.specs.Prelude.{◌≡◌, ◌++◌, ℕ, Bool, true, false, IsTrue, List, Option, None, Some, Result, Ok, Err, map}
use Rattle.std.specs.List.{list_all}
use Rattle.sql_parts.specs.Error.{FailsOnlyByMemory}
use Rattle.sql_parts.specs.Operands.{is_fragment}
use Rattle.sql_parts.specs.Readers.{Part, Reader, IsInsideAtEach, emptied, has_plain_text, marks, outer_states, parts_bytes}
use Rattle.sql_parts.specs.StringTexts.{outline}
use Rattle.sql_parts.specs.Tokens.{closed, tokens}
use Rattle.sql_parts.specs.declared.error.SqlBuilderError.{SqlBuilderError}
use Rattle.sql_builder.specs.Calls.{FinishText, Query, Sql}
use Rattle.sql_builder.specs.Clauses.{Clauses, map_clauses}
use Rattle.sql_builder.specs.Interference.{answer_of, outlines}
use Rattle.sql_builder.specs.Meaning.{HasTruthOf, condition_groups, is_nested, is_unenclosed}
use Rattle.sql_builder.specs.Reading.{clause_list, read}
use Rattle.sql_builder.specs.Shape.{EndsInOneSemicolon, shape}
use Rattle.sql_builder.specs.Statement.{statement}
use Rattle.sql_builder.specs.StatementLaws.{made_by}
use Rattle.sql_builder.specs.StatementReaders.{parts_at, text_of_parts}
use Rattle.sql_builder.specs.Subqueries.{makes_table}
use Rattle.sql_typed.specs.Fits.{Made}

-- two statements whose pieces have the same tokens, one by one, but for the texts of strings, or that fail alike
abbrev pub DifferInStrings : FinishText → Made → Made → Type 0
DifferInStrings finish one other = outlines one.start one.calls finish ≡ outlines other.start other.calls finish

-- Where the texts of the clauses are cut into parts, and others differ from them only in texts of plain bytes whose delimiters are doubled,
-- any reader that is inside of a literal at each of these is so in the others, and goes through the same states outside of them.
abbrev pub ReadersIgnoreTexts : Made → FinishText → List ℕ → Type 0
ReadersIgnoreTexts made finish text = (next : Reader) (plain : ℕ → Bool) (state : ℕ) (one other : Clauses (List Part))
    → map_clauses parts_bytes one ≡ made_by made.start made.calls → map_clauses (map emptied) one ≡ map_clauses (map emptied) other
    → IsTrue (list_all (has_plain_text plain) (parts_at finish one)) → IsTrue (list_all (has_plain_text plain) (parts_at finish other))
    → IsInsideAtEach next plain state (parts_at finish one) → IsInsideAtEach next plain state (parts_at finish other)
    × (outer_states next state (marks (parts_at finish one)) text ≡ outer_states next state (marks (parts_at finish other)) (text_of_parts finish other))

-- the finishes whose WHERE is at the top level of what they print
abbrev pub shows_where : FinishText → Bool
shows_where Sql = true
shows_where Query = true
shows_where _ = false

-- What is known of a text that is printed, whatever texts it was made of.
pub record IsPrinted (made : Made) (finish : FinishText) (text : List ℕ) : Type 0 where
  -- it is the statement of the calls
  pub is_statement : statement made.start made.calls finish ≡ Ok text
  -- its tokens are those of its pieces, one after another
  pub has_tokens : shape made.start made.calls finish ≡ Ok (tokens text)
  -- every quote and comment in it is closed
  pub is_closed : IsTrue (closed text)
  -- what `sql` prints ends in its only `;`
  pub ends_in_one : finish ≡ Sql → EndsInOneSemicolon (tokens text)
  -- it parses back as the clauses of the calls
  pub reads_back : IsTrue (is_unenclosed finish) → clause_list made.start made.calls finish ≡ Ok (read (tokens text))
  -- its WHERE is the AND of the groups, each the OR of its conditions
  pub has_truth : IsTrue (shows_where finish) → HasTruthOf (condition_groups made.calls) text
  -- a query is balanced, and an operand between brackets
  pub nests : IsTrue (is_nested finish text)
  -- a query between brackets, or one with a name, is a table
  pub nests_as_table : IsTrue (makes_table finish) → IsTrue (is_fragment text)
  -- a statement that differs from it in texts of strings alone has the same tokens, but for these
  pub no_interference : (other : Made) → DifferInStrings finish made other → answer_of outline other.start other.calls finish ≡ Ok (outline text)
  -- nor does any reader, as a database's lexer, read it otherwise
  pub readers_ignore_texts : ReadersIgnoreTexts made finish text

-- how a call of the builder fails: with this error where there is one, and else only if memory runs out
abbrev pub FailsWith : {T : Type 0} → Option SqlBuilderError → Result T SqlBuilderError → Type 0
FailsWith None result = FailsOnlyByMemory result
FailsWith (Some error) result = result ≡ Err error

-- a text with what `sql` prints behind it
abbrev pub PrintsBehind : Made → List ℕ → List ℕ → Type 0
PrintsBehind made before after = (text : List ℕ) × (after ≡ before ++ text) × IsPrinted made Sql text
