-- A text that is read as meant gives the premises of the laws of readers.
use Rattle.sql_builder.proofs.Imports.{◌≡◌, refl, sym, ◌∙◌, ap, subst, ℕ, Bool, true, List, [], ◌∷◌, ◌++◌, Option, None, Some, Result, Ok, Err, map, not}
use Rattle.sql_builder.proofs.Imports.{◌==◌, IfOk, flat_map, option_map, list_all, option_or, length, arith, append-nil, and_from, and_parts}
use Rattle.sql_builder.proofs.Imports.{eqb-true, flat_map-append, LiteralValue, literal_text, null, truth, whole, words, doubled, quoted, Replacement, Single}
use Rattle.sql_builder.proofs.Imports.{SqlBuilderError, Pieces}
use Rattle.std.specs.Prelude.{find, unwrap_or}
use Rattle.std.proofs.lemmas.List.Folds.{find-append}
use Rattle.sql_parts.specs.ReaderLaws.{literal_parts, resolved_parts}
use Rattle.sql_parts.specs.StringTexts.{blank_literal}
use Rattle.sql_parts.specs.Templates.{Resolved, resolve, written}
use Rattle.sql_parts.specs.Readers.{Part, Constant, Reader, IsInside, IsInsideAtEach, after, between_parts, part_bytes, parts_bytes, has_plain_text}
use Rattle.sql_parts.proofs.tokens.ReaderLemmas.{inside-append}
use Rattle.sql_builder.specs.Interference.{blank_call, call_quoted_texts}
use Rattle.sql_builder.specs.Statement.{pieces, text_unless_error}
use Rattle.sql_builder.specs.StatementReaders.{parts_in, quotes_plain_texts}
use Rattle.sql_builder.specs.Calls as call
use Rattle.sql_builder.specs.declared.condition.Condition.TheVariants as condition
use Rattle.sql_builder.specs.Pieces.{Fixed, Quoted, Raw, pieces_text}
use Rattle.sql_builder.specs.declared.condition.Percent.TheVariants as sign
use Rattle.sql_builder.proofs.interference.StatementReaderLemmas.{plain-printed}
use Rattle.database_readers.specs.AsMeant.{OpensStringsOfStatements, OpensStringsOfTemplates, in_string, is_plain, reader_of}
use Rattle.database_readers.specs.EmptyValues.{IsBeforeQuote, IsInsideAtEmptyValues}
use Rattle.database_readers.specs.declared.Database.{Database}
use Rattle.database_readers.specs.declared.Database.TheVariants.{Sqlite, Postgres, Mysql, MysqlNoBackslashEscapes}
use Rattle.database_readers.proofs.ReaderRows.{mysql-inside, mysql_plain-inside, postgres-inside, sqlite-inside}

abbrev is_percent : ℕ → Bool
is_percent byte = byte == 37

-- behind a mask of percent signs
mask-found : (mask : List ℕ) → list_all is_percent mask ≡ true → IsBeforeQuote (doubled 39 mask ++ 39 ∷ [])
mask-found [] all = refl
mask-found (byte ∷ mask) all =
    let both = and_parts (is_percent byte) (list_all is_percent mask) all in
    subst (λ (b : ℕ). IsBeforeQuote (doubled 39 (b ∷ mask) ++ 39 ∷ [])) (sym (eqb-true byte 37 both.0)) (mask-found mask both.1)

module _ (next : Reader) (inside : ℕ) where
  abbrev At : ℕ → List ℕ → Type 0
  At state text = IsInsideAtEmptyValues next inside state text

  pub at-end : (state : ℕ) (text : List ℕ) → length text ≡ 0 → At state text
  at-end state [] none = tt
  at-end state (byte ∷ text) none = absurd (omega arith)

  at-behind : (state : ℕ) (front text : List ℕ) → At state (front ++ text) → At (after next state front) text
  at-behind state [] text all = all
  at-behind state (byte ∷ front) text all = at-behind (next state byte) front text all.1

  at-front : (state : ℕ) (text more : List ℕ) → At state (text ++ more) → At state text
  at-front state [] more all = tt
  at-front state (byte ∷ text) more all = (
    λ begins. all.0 (begins.0, find-append (λ byte. not (byte == 37)) text more ∙ ap (λ o. option_or o (find (λ byte. not (byte == 37)) more)) begins.1),
    at-front (next state byte) text more all.1,
  )

  -- ---- parts

  module _ (plain : ℕ → Bool) (opens : IsInside next plain 39 inside) where
    -- these parts make this text, and where the reader is inside at empty values it is so at each untrusted text
    record AreRead (parts : List Part) (text : List ℕ) : Type 0 where
      is : parts_bytes parts ≡ text
      read : (state : ℕ) → At state text → IsInsideAtEach next plain state parts

    read-append : {one other : List Part} {first second : List ℕ} → AreRead one first → AreRead other second → AreRead (one ++ other) (first ++ second)
    read-append {one = one} {other = other} {first = first} {second = second} reads later = record {
      is = flat_map-append part_bytes one other ∙ (λ i. reads.is i ++ later.is i);
      read = λ state all. inside-append next plain state one other (reads.read state (at-front state first second all))
          (subst (λ (bytes : List ℕ). IsInsideAtEach next plain (after next state bytes) other) (sym reads.is)
          (later.read (after next state first) (at-behind state first second all)));
    }

    read-none : AreRead [] []
    read-none = record { is = refl; read = λ state all. tt }

    read-constant : (text : List ℕ) → AreRead (Constant text ∷ []) text
    read-constant text = record { is = append-nil text; read = λ state all. (tt, tt) }

    read-value : (mask : List ℕ) → list_all is_percent mask ≡ true → AreRead (between_parts Single mask) (quoted mask)
    read-value mask masks = record {
      is = refl;
      read = λ state all. (tt, (subst (IsInside next plain 39) (sym (all.0 (refl, mask-found mask masks))) opens, (tt, tt)));
    }

    pieces-read : (printed : Pieces) → list_all (has_plain_text is_percent) (parts_in printed) ≡ true → AreRead (parts_in printed) (pieces_text printed)
    pieces-read [] masks = read-none
    pieces-read (Fixed text ∷ printed) masks = read-append (read-constant text) (pieces-read printed masks)
    pieces-read (Raw text ∷ printed) masks = read-append (read-constant text) (pieces-read printed masks)
    pieces-read (Quoted mask ∷ printed) masks =
        let both = and_parts (list_all is_percent mask) (list_all (has_plain_text is_percent) (parts_in printed)) masks in
        read-append (read-value mask both.0) (pieces-read printed both.1)

    printed-read : (printed : Result Pieces SqlBuilderError) (text : List ℕ) → At 0 text → text_unless_error printed ≡ Ok text
        → IfOk printed (λ pieces. list_all (has_plain_text is_percent) (parts_in pieces) ≡ true)
        → IfOk printed (λ pieces. IsInsideAtEach next plain 0 (parts_in pieces))
    printed-read (Ok printed) text all is masks = (pieces-read printed masks).read 0 (subst (At 0) (sym (cc is)) all)
    printed-read (Err error) text all is masks = tt

    module _ (literals : Replacement → LiteralValue) where
      abbrev blanks : Replacement → LiteralValue
      blanks value = blank_literal (literals value)

      literal-read : (literal : LiteralValue) → AreRead (literal_parts (blank_literal literal)) (literal_text (blank_literal literal))
      literal-read (words text) = read-value [] refl
      literal-read null = read-constant (literal_text null)
      literal-read (truth value) = read-constant (literal_text (truth value))
      literal-read (whole number) = read-constant (literal_text (whole number))

      segments-read : (segments : List (Replacement × List ℕ))
          → AreRead (flat_map (λ part. literal_parts (blanks part.0) ++ Constant part.1 ∷ []) segments)
          (flat_map (λ part. literal_text (blanks part.0) ++ part.1) segments)
      segments-read [] = read-none
      segments-read (segment ∷ segments) =
          read-append (read-append (literal-read (literals segment.0)) (read-constant segment.1)) (segments-read segments)

      bound-read : (resolved : Option Resolved) (text : List ℕ) → At 0 text → option_map (written blanks) resolved ≡ Some text
          → IsInsideAtEach next plain 0 (unwrap_or (option_map (resolved_parts blanks) resolved) [])
      bound-read None text all is = cc
      bound-read (Some resolved) text all is =
          (read-append (read-constant resolved.0) (segments-read resolved.1)).read 0 (subst (At 0) (sym (cc is)) all)

-- ---- the texts that calls without texts quote

blanks-percent : (values : List (List ℕ)) → list_all (list_all is_percent) (map (λ value. []) values) ≡ true
blanks-percent [] = refl
blanks-percent (value ∷ values) = blanks-percent values

call-percent : (c : call.CallText) → list_all (list_all is_percent) (call_quoted_texts (blank_call c)) ≡ true
call-percent (call.Cond family (condition.Like negated sign.Plain field mask)) = refl
call-percent (call.Cond family (condition.Like negated sign.Left field mask)) = refl
call-percent (call.Cond family (condition.Like negated sign.Right field mask)) = refl
call-percent (call.Cond family (condition.Like negated sign.Any field mask)) = refl
call-percent (call.Cond family (condition.InQuoted negated field values)) = blanks-percent values
call-percent _ = refl

calls-percent : (calls : List call.CallText) → quotes_plain_texts is_percent (map blank_call calls) ≡ true
calls-percent [] = refl
calls-percent (c ∷ calls) = and_from _ _ (call-percent c) (calls-percent calls)

-- ---- the databases

string-inside : (database : Database) → IsInside (reader_of database) (is_plain database) 39 (in_string database)
string-inside Sqlite = sqlite-inside
string-inside Postgres = postgres-inside
string-inside Mysql = mysql-inside
string-inside MysqlNoBackslashEscapes = mysql_plain-inside

module _ (database : Database) (text : List ℕ) (all : IsInsideAtEmptyValues (reader_of database) (in_string database) 0 text) where
  pub statements-opened : OpensStringsOfStatements database text
  statements-opened start calls finish is =
      printed-read (reader_of database) (in_string database) (is_plain database) (string-inside database) (pieces start (map blank_call calls) finish) text all is
      (plain-printed is_percent start (map blank_call calls) finish (calls-percent calls))

  pub templates-opened : OpensStringsOfTemplates database text
  templates-opened template placeholders literals is =
      bound-read (reader_of database) (in_string database) (is_plain database) (string-inside database) literals (resolve template placeholders) text all is
