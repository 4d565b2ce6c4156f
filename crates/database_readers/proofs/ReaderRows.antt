-- Where a quote opens a string in SQLite, PostgreSQL and MySQL, as the laws of readers ask, and where it doesn't.
use Rattle.std.specs.Prelude.{◌≡◌, ◌==◌, ℕ, Bool, true, false, not, List, [], ◌∷◌, codes, refl}
use Rattle.std.specs.List.{list_all}
use Rattle.std.proofs.Common.{ne_eqb, subst, sym}
use Rattle.std.proofs.lemmas.Bool.{and_parts, eqb-false, not-true}
use Rattle.sql_parts.specs.Readers.{IsInside, OpensLiteral, after}
use Rattle.sql_parts.specs.declared.delimiters.Quotes.TheVariants.{Back, Double, Single, Square}
use Rattle.database_readers.specs.AsMeant.{is_plain}
use Rattle.database_readers.specs.MysqlReader.{mysql}
use Rattle.database_readers.specs.PostgresReader.{postgres}
use Rattle.database_readers.specs.SqliteReader.{sqlite}
use Rattle.database_readers.specs.declared.Database.TheVariants.{Mysql}

-- each byte but zero, which ends a text, is plain
abbrev but_zero : ℕ → Bool
but_zero byte = not (byte == 0)

-- ---- SQLite: wherever a quote leads into a string, it opens one

pub sqlite-inside : IsInside sqlite but_zero 39 11
sqlite-inside = record { stays = λ byte plain isnt. rw (ne_eqb byte 39 isnt) refl; goes_on = refl }

sqlite-opens : (state : ℕ) → sqlite state 39 ≡ 11 → OpensLiteral sqlite but_zero Single state
sqlite-opens state into = subst (λ inside. IsInside sqlite but_zero 39 inside) (sym into) sqlite-inside

abbrev OpensInSqlite : List ℕ → Type 0
OpensInSqlite text = OpensLiteral sqlite but_zero Single (after sqlite 0 text)

-- so it does outside of everything: in words and numbers, behind signs and quotes
sqlite-outside : list_all (λ state. sqlite state 39 == 11) (0 ∷ 1 ∷ 2 ∷ 3 ∷ 6 ∷ 8 ∷ 12 ∷ 14 ∷ 16 ∷ 18 ∷ 19 ∷ 20 ∷ 21 ∷ 23 ∷ 24 ∷ 25 ∷ []) ≡ true
sqlite-outside = refl

sqlite-where : OpensInSqlite (codes "SELECT * FROM t WHERE a = ")
sqlite-where = sqlite-opens (after sqlite 0 (codes "SELECT * FROM t WHERE a = ")) refl

sqlite-flat_comment : OpensInSqlite (codes "/* /* ' */ a = ")
sqlite-flat_comment = sqlite-opens (after sqlite 0 (codes "/* /* ' */ a = ")) refl

sqlite-blob : OpensInSqlite (codes "a = x") → ⊥
sqlite-blob opens = eqb-false 11 5 refl opens.goes_on

sqlite-string : OpensInSqlite (codes "a = 'b") → ⊥
sqlite-string opens = eqb-false 1 12 refl (opens.stays 97 refl (eqb-false 97 39 refl))

sqlite-name : OpensInSqlite (codes "a = \"b") → ⊥
sqlite-name opens = eqb-false 14 13 refl (opens.stays 34 refl (eqb-false 34 39 refl))

sqlite-brackets : OpensInSqlite (codes "a = [b") → ⊥
sqlite-brackets opens = eqb-false 0 17 refl (opens.stays 93 refl (eqb-false 93 39 refl))

sqlite-comment : OpensInSqlite (codes "a = /* b ") → ⊥
sqlite-comment opens = eqb-false 10 9 refl (opens.stays 42 refl (eqb-false 42 39 refl))

sqlite-line_comment : OpensInSqlite (codes "a = -- b ") → ⊥
sqlite-line_comment opens = eqb-false 0 7 refl (opens.stays 10 refl (eqb-false 10 39 refl))

-- names between double quotes and backquotes are opened too; in brackets the closing one isn't doubled
sqlite-names : OpensLiteral sqlite but_zero Double 0
sqlite-names = record { stays = λ byte plain isnt. rw (ne_eqb byte 34 isnt) refl; goes_on = refl }

sqlite-backquotes : OpensLiteral sqlite but_zero Back 0
sqlite-backquotes = record { stays = λ byte plain isnt. rw (ne_eqb byte 96 isnt) refl; goes_on = refl }

sqlite-square : OpensLiteral sqlite but_zero Square 0 → ⊥
sqlite-square opens = eqb-false 0 17 refl opens.goes_on

-- ---- PostgreSQL, likewise

pub postgres-inside : IsInside postgres but_zero 39 16
postgres-inside = record { stays = λ byte plain isnt. rw (ne_eqb byte 39 isnt) refl; goes_on = refl }

postgres-opens : (state : ℕ) → postgres state 39 ≡ 16 → OpensLiteral postgres but_zero Single state
postgres-opens state into = subst (λ inside. IsInside postgres but_zero 39 inside) (sym into) postgres-inside

abbrev OpensInPostgres : List ℕ → Type 0
OpensInPostgres text = OpensLiteral postgres but_zero Single (after postgres 0 text)

postgres-outside : list_all (λ state. postgres state 39 == 16) (0 ∷ 1 ∷ 2 ∷ 3 ∷ 4 ∷ 7 ∷ 8 ∷ 10 ∷ 18 ∷ 19 ∷ 20 ∷ 21 ∷ []) ≡ true
postgres-outside = refl

postgres-where : OpensInPostgres (codes "SELECT * FROM t WHERE a = ")
postgres-where = postgres-opens (after postgres 0 (codes "SELECT * FROM t WHERE a = ")) refl

postgres-whole_comment : OpensInPostgres (codes "/* /* ' */ ' */ a = ")
postgres-whole_comment = postgres-opens (after postgres 0 (codes "/* /* ' */ ' */ a = ")) refl

postgres-whole_dollars : OpensInPostgres (codes "$a$ ' $b$ $$ $a$ = ")
postgres-whole_dollars = postgres-opens (after postgres 0 (codes "$a$ ' $b$ $$ $a$ = ")) refl

-- backslashes escape
postgres-escapes : OpensInPostgres (codes "a = E") → ⊥
postgres-escapes opens = eqb-false 25 24 refl (opens.stays 92 refl (eqb-false 92 39 refl))

-- a quote on a later line goes on with such a string
postgres-later_line : OpensInPostgres (codes "a = E'b' \n ") → ⊥
postgres-later_line opens = eqb-false 25 24 refl (opens.stays 92 refl (eqb-false 92 39 refl))

postgres-unicode : OpensInPostgres (codes "a = U&") → ⊥
postgres-unicode opens = eqb-false 33 32 refl (opens.stays 92 refl (eqb-false 92 39 refl))

-- a quote isn't doubled
postgres-bits : OpensInPostgres (codes "a = x") → ⊥
postgres-bits opens = eqb-false 16 40 refl opens.goes_on

postgres-dollars : OpensInPostgres (codes "a = $$") → ⊥
postgres-dollars opens = eqb-false 53 52 refl (opens.stays 36 refl (eqb-false 36 39 refl))

postgres-tag : OpensInPostgres (codes "a = $t$ $$ ") → ⊥
postgres-tag opens = eqb-false 981 980 refl (opens.stays 36 refl (eqb-false 36 39 refl))

postgres-string : OpensInPostgres (codes "a = 'b") → ⊥
postgres-string opens = eqb-false 1 18 refl (opens.stays 97 refl (eqb-false 97 39 refl))

postgres-name : OpensInPostgres (codes "a = \"b") → ⊥
postgres-name opens = eqb-false 7 6 refl (opens.stays 34 refl (eqb-false 34 39 refl))

postgres-comment : OpensInPostgres (codes "a = /* /* b */ ") → ⊥
postgres-comment opens = eqb-false 50 48 refl (opens.stays 42 refl (eqb-false 42 39 refl))

postgres-line_comment : OpensInPostgres (codes "a = -- b ") → ⊥
postgres-line_comment opens = eqb-false 0 5 refl (opens.stays 10 refl (eqb-false 10 39 refl))

-- a name between double quotes is opened too, and none between backquotes
postgres-names : OpensLiteral postgres but_zero Double 0
postgres-names = record { stays = λ byte plain isnt. rw (ne_eqb byte 34 isnt) refl; goes_on = refl }

postgres-backquotes : OpensLiteral postgres but_zero Back 0 → ⊥
postgres-backquotes opens = eqb-false 1 0 refl (opens.stays 97 refl (eqb-false 97 96 refl))

-- ---- MySQL, likewise: where a backslash escapes it isn't plain

abbrev plain_in_mysql : ℕ → Bool
plain_in_mysql byte = is_plain Mysql byte

pub mysql-inside : IsInside (mysql true) plain_in_mysql 39 39
mysql-inside = record {
  stays = λ byte plain isnt. rw (ne_eqb byte 39 isnt) (rw (not-true (byte == 92) (and_parts (not (byte == 0)) (not (byte == 92)) plain).1) refl);
  goes_on = refl;
}

pub mysql_plain-inside : IsInside (mysql false) but_zero 39 39
mysql_plain-inside = record { stays = λ byte plain isnt. rw (ne_eqb byte 39 isnt) refl; goes_on = refl }

-- A quote opens a string in words and numbers, and behind signs, N and a character set. It does behind two dashes without a blank, a comment,
-- and what ends a literal. A backslash escapes in both kinds of strings, and not in a name.
mysql-opens : list_all (λ text. after (mysql true) 0 text == 39)
    (codes "SELECT * FROM t WHERE a = '" ∷ codes "a1'" ∷ codes "a.x'" ∷ codes "@x'" ∷ codes "a /'" ∷ codes "a -'" ∷ codes "N'" ∷ codes "_utf8mb4'"
    ∷ codes "1--1 = '" ∷ codes "/* /* ' */ a = '" ∷ codes "-- '\n'" ∷ codes "# '\n'" ∷ codes "x'' = '" ∷ codes "'\\'' = \"\\\"\" = `\\` = '" ∷ [])
    ≡ true
mysql-opens = refl

-- and where not: in a comment, in bits, in a string or a name, and where the reader is lost
mysql-opens_none : list_all (λ text. not (after (mysql true) 0 text == 39))
    (codes "a = -- b '" ∷ codes "a = --\t'" ∷ codes "a = # b '" ∷ codes "a = /* b '" ∷ codes "a = x'" ∷ codes "a = B'" ∷ codes "a = 'b'" ∷ codes "a = \"b'"
    ∷ codes "a = `b'" ∷ codes "/*!50000 a = '" ∷ codes "/*M! a = '" ∷ codes "/*+ a */ '" ∷ codes "a = $$'" ∷ [])
    ≡ true
mysql-opens_none = refl

-- by NO_BACKSLASH_ESCAPES a backslash is plain
mysql_plain-opens : after (mysql false) 0 (codes "'\\' = '") ≡ 39
mysql_plain-opens = refl
