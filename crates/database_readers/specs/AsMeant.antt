-- Whether a database reads a text that is printed with empty values as meant, and the premises of laws that this gives.
use Prim.Native.Char.{code}
use Rattle.std.specs.Prelude.{◌≡◌, ℕ, ◌==◌, ◌&&◌, Bool, true, false, not, List, Some, Ok, map}
use Rattle.sql_parts.specs.Literal.{LiteralValue}
use Rattle.sql_parts.specs.ReaderLaws.{bound_parts}
use Rattle.sql_parts.specs.Readers.{Reader, IsInsideAtEach}
use Rattle.sql_parts.specs.StringTexts.{blank_literal}
use Rattle.sql_parts.specs.Templates.{Marks, Replacement, bound}
use Rattle.sql_builder.specs.Calls.{CallText, FinishText, StartText}
use Rattle.sql_builder.specs.Interference.{blank_call}
use Rattle.sql_builder.specs.Statement.{statement}
use Rattle.sql_builder.specs.StatementReaders.{OpensStrings}
use Rattle.database_readers.specs.MysqlReader.{mysql}
use Rattle.database_readers.specs.PostgresReader as postgresql
use Rattle.database_readers.specs.SqliteReader as sqlite
use Rattle.database_readers.specs.declared.Database.TheVariants.{Sqlite, Postgres, Mysql, MysqlNoBackslashEscapes}
use Rattle.database_readers.specs.declared.Database.{Database}

-- how a database reads
abbrev pub reader_of : Database → Reader
reader_of Sqlite = sqlite.sqlite
reader_of Postgres = postgresql.postgres
reader_of Mysql = mysql true
reader_of MysqlNoBackslashEscapes = mysql false

-- its state in a string between single quotes
abbrev pub in_string : Database → ℕ
in_string Sqlite = sqlite.text
in_string Postgres = postgresql.string postgresql.plain postgresql.inside
in_string Mysql = code "'"
in_string MysqlNoBackslashEscapes = code "'"

-- a byte is plain to it: each but zero is, and but a backslash where it escapes
abbrev pub is_plain : Database → ℕ → Bool
is_plain Mysql byte = not (byte == 0) && not (byte == code "\\")
is_plain _ byte = not (byte == 0)

-- a database opens a string at each quoted text of every statement without texts that is printed so
abbrev pub OpensStringsOfStatements : Database → List ℕ → Type 0
OpensStringsOfStatements database text = (start : StartText) (calls : List CallText) (finish : FinishText)
    → statement start (map blank_call calls) finish ≡ Ok text
    → OpensStrings (reader_of database) (is_plain database) 0 start (map blank_call calls) finish

-- and at each bound text of every template that is so with no texts bound to it
abbrev pub OpensStringsOfTemplates : Database → List ℕ → Type 0
OpensStringsOfTemplates database text = (template : List ℕ) (placeholders : Marks) (literals : Replacement → LiteralValue)
    → let blanks : Replacement → LiteralValue = λ value. blank_literal (literals value) in
    bound template placeholders blanks ≡ Some text
    → IsInsideAtEach (reader_of database) (is_plain database) 0 (bound_parts template placeholders blanks)
