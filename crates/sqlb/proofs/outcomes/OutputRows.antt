-- Worked rows: what the definitions give, by computing.
use Rattle.sqlb.proofs.Imports.{◌≡◌, ℕ, List, [], ◌∷◌, Some, None, Ok, Err, codes, is_err, refl, map, Bool, true, false, ◌&&◌, nat_lt, list_all, IsAscii, ap}
use Rattle.sqlb.proofs.Imports.{ap₂, arith, lit<, decimal_digit, IsUtf8-from_ascii, IsAscii-nil, IsAscii-cons, until, NoTableName, Output, At, Memory, Read}
use Rattle.sqlb.proofs.Imports.{Write, Reason, UnknownCall, NoEnd, NotUtf8, Builder}
use Rattle.std.proofs.lemmas.Bool.Decides.{nat_tests}
use Rattle.sqlb.specs.{fault_text, lines, command_of, command_in, comparisons, condition_kind, ends, likes, lists, call_named, memberships, nullaries, tables}
use Rattle.sqlb.specs.{accepted_answers, answers, open_statement, output, output_of, status_of}
use Rattle.sqlb.proofs.outcomes.CommandFacts.{command_of-text}

abbrev is_ascii : List ℕ → Bool
is_ascii text = list_all (λ byte. nat_lt byte 128) text

both : (a b : Bool) → (a && b) ≡ true → (a ≡ true) × (b ≡ true)
both true true h = (refl, refl)
both true false h = cc
both false b h = cc

bytes_below : (text : List ℕ) → is_ascii text ≡ true → IsAscii text
bytes_below [] ascii = IsAscii-nil
bytes_below (byte ∷ text) ascii =
    let parts = both (nat_lt byte 128) (is_ascii text) ascii in
    IsAscii-cons byte text (grind (arith, nat_tests)) (bytes_below text parts.1)

command_of-ascii : (text : List ℕ) → is_ascii text ≡ true → command_of text ≡ command_in text
command_of-ascii text ascii = command_of-text text (IsUtf8-from_ascii text (bytes_below text ascii))

-- what each line of an ASCII input says
commands-ascii : (texts : List (List ℕ)) → list_all is_ascii texts ≡ true → map command_of texts ≡ map command_in texts
commands-ascii [] ascii = refl
commands-ascii (text ∷ texts) ascii =
    let parts = both (is_ascii text) (list_all is_ascii texts) ascii in
    rw (command_of-ascii text parts.0, commands-ascii texts parts.1) refl

-- what an input says to print where its lines are ASCII, which computes
abbrev computed : List ℕ → Output
computed input = output_of (map command_in (lines input))

outputs-computed : (rows : List (List ℕ × Output)) → list_all (λ row. list_all is_ascii (lines row.0)) rows ≡ true
    → map (λ row. output row.0) rows ≡ map (λ row. computed row.0) rows
unfolding output
outputs-computed [] ascii = refl
outputs-computed (row ∷ rows) ascii =
    let parts = both (list_all is_ascii (lines row.0)) (list_all (λ other. list_all is_ascii (lines other.0)) rows) ascii in
    ap₂ (λ (o : Output) (os : List Output). o ∷ os) (ap output_of (commands-ascii (lines row.0) parts.0)) (outputs-computed rows parts.1)

-- these statements, and no fault
abbrev prints : List (List ℕ) → Output
prints texts = record { statements = texts; fault = None }

-- these statements, and the fault that stops the run
abbrev stops : List (List ℕ) → ℕ → Reason → Output
stops texts line reason = record { statements = texts; fault = Some (line, reason) }

-- each input, and what it says to print; tests run many more
abbrev rows : List (List ℕ × Output)
rows = (
  codes "select_from\tcompany\nfield\tid\nfield\tname\nand_where_gt\tsalary\t25000\nsql\n",
  prints (codes "SELECT id, name FROM company WHERE salary > 25000;\n" ∷ []),
) ∷
    (codes "select_from\tt\nsql\nfrobnicate\n", stops (codes "SELECT * FROM t;\n" ∷ []) 3 UnknownCall) ∷
    (codes "select_from\tt\n", stops [] 1 NoEnd) ∷
    []

outputs : map (λ row. output row.0) rows ≡ map (λ row. row.1) rows
unfolding open_statement nullaries call_named tables lists ends condition_kind comparisons likes memberships
outputs = outputs-computed rows refl

not_utf8 : output_of (Err NotUtf8 ∷ []) ≡ stops [] 1 NotUtf8
unfolding open_statement
not_utf8 = refl

fault_line : fault_text (At 3 UnknownCall) ≡ codes "line 3: unknown call"
fault_line = rw (decimal_digit 3 (lit< tt)) refl

error_line : fault_text (At 2 (Builder NoTableName)) ≡ codes "line 2: No table name"
error_line = rw (decimal_digit 2 (lit< tt)) refl

-- the accepted answers of an ASCII input compute too
accepted : (input : List ℕ) → list_all is_ascii (lines input) ≡ true → accepted_answers input ≡ until is_err (answers (map command_in (lines input)))
unfolding accepted_answers
accepted input ascii = ap (λ commands. until is_err (answers commands)) (commands-ascii (lines input) ascii)

-- memory may run out in the first line or the second, and not in the third, which fails a check
accepted-unknown : accepted_answers (codes "select_from\tt\nsql\nfrobnicate\n") ≡ Ok None ∷ Ok (Some (codes "SELECT * FROM t;")) ∷ []
unfolding open_statement nullaries call_named tables lists ends condition_kind comparisons likes memberships
accepted-unknown = accepted _ refl

accepted-first_fails : accepted_answers (codes "sql\n") ≡ []
unfolding open_statement nullaries call_named tables lists ends condition_kind comparisons likes memberships
accepted-first_fails = accepted _ refl

-- the exit status without a fault, of a line's, and of those that name no line
statuses : (status_of {T = Unit {0}} (Ok tt) ≡ 0) × (status_of {T = Unit {0}} (Err (At 3 UnknownCall)) ≡ 1) × (status_of {T = Unit {0}} (Err Memory) ≡ 1)
    × (status_of {T = Unit {0}} (Err Read) ≡ 2) × (status_of {T = Unit {0}} (Err Write) ≡ 2)
statuses = (refl, refl, refl, refl, refl)
