-- The tokens of a name.
use Rattle.sql_parts.proofs.Imports.{◌≡◌, ℕ, true, List, [], ◌∷◌, ◌++◌, Option, Some, None, map, refl, sym, ap, ◌∙◌, inl, inr, append-nil, arith, not, codes}
use Rattle.sql_parts.proofs.Imports.{if◌then◌else◌, list_all, list_any, AllByRecursion, and_from, and_parts, cases_Bool, nat_tests, Form, Bare, Between, Back}
use Rattle.sql_parts.specs.{alias_text, fits_form, is_plain, is_plain_byte, name_parts, name_text, name_tokens, safe_form, tokens_in, word_tokens}
use Rattle.sql_parts.specs.Name.{Name}
use Rattle.sql_parts.specs.{written_in, baquoted, join_with, Word, Symbol, closed, is_open, is_word_byte, tokens}
use Rattle.sql_parts.specs.Tokens as tokens
use Rattle.sql_parts.proofs.tokens.JoinFacts.{Edged, clean-before, clean-behind, joined-closed, joined-tokens}
use Rattle.sql_parts.proofs.tokens.TokenFacts.{between-tokens, between_closed, closed-seam, seam}
use Rattle.sql_parts.proofs.tokens.LiteralFacts.{is_word, word-tokens}

plain-word_byte : (byte : ℕ) → is_plain_byte byte ≡ true → is_word_byte byte ≡ true
plain-word_byte byte is = grind (arith, nat_tests, is)

plain-word : (text : List ℕ) → is_plain text ≡ true → is_word text ≡ true
plain-word [] is = refl
plain-word (byte ∷ text) is =
    let parts = and_parts (is_plain_byte byte) (is_plain text) is in
    and_from _ _ (plain-word_byte byte parts.0) (plain-word text parts.1)

pub plain-tokens : (text : List ℕ) → is_plain text ≡ true → tokens text ≡ word_tokens text
plain-tokens [] is = refl
plain-tokens (byte ∷ text) is = word-tokens byte text (plain-word (byte ∷ text) is)

plain-closed : (text : List ℕ) → is_plain text ≡ true → closed text ≡ true
plain-closed [] is = refl
plain-closed (byte ∷ text) is = ap (λ all. not (list_any is_open all)) (plain-tokens (byte ∷ text) is)

-- what each part of a name becomes
record Written (form : Form) (parts : List (List ℕ)) : Type 0 where
  each : AllByRecursion (λ text. closed text ≡ true) (map (written_in form) parts)
  are : map tokens (map (written_in form) parts) ≡ map (tokens_in form) parts

written : (form : Form) (parts : List (List ℕ)) → fits_form form parts ≡ true → Written form parts
written form [] fits = record { each = tt; are = refl }
written Bare (part ∷ parts) fits =
    let both = and_parts (is_plain part) (list_all is_plain parts) fits in
    let more = written Bare parts both.1 in
    record { each = (plain-closed part both.0, more.each); are = (λ i. plain-tokens part both.0 i ∷ more.are i) }
written (Between quotes) (part ∷ parts) fits =
    let more = written (Between quotes) parts refl in
    record { each = (between_closed quotes part _ refl, more.each); are = (λ i. between-tokens quotes part i ∷ more.are i) }

-- a dot, and what precedes an alias
dot : Edged (codes ".")
dot = record { is_closed = refl; plain = refl; begins = refl; ends = refl }

parts-tokens : (form : Form) (name : Name) → fits_form form (name_parts name) ≡ true
    → tokens (join_with (codes ".") (map (written_in form) (name_parts name))) ≡ join_with (Symbol 46 ∷ []) (map (tokens_in form) (name_parts name))
parts-tokens form name fits =
    let parts = written form (name_parts name) fits in
    joined-tokens (codes ".") (written_in form name.first) (map (written_in form) name.rest) dot parts.each ∙ ap (join_with (Symbol 46 ∷ [])) parts.are

parts-closed : (form : Form) (name : Name) → fits_form form (name_parts name) ≡ true
    → closed (join_with (codes ".") (map (written_in form) (name_parts name))) ≡ true
parts-closed form name fits = joined-closed (codes ".") (written_in form name.first) (map (written_in form) name.rest) dot
    (written form (name_parts name) fits).each

-- an alias by itself
abbrev alias_written : List ℕ → List ℕ
alias_written alias = if is_plain alias then alias else baquoted alias

alias-tokens : (alias : List ℕ) → tokens (alias_written alias) ≡ (if is_plain alias then word_tokens alias else tokens.Name alias ∷ [])
alias-tokens alias =
    elim (cases_Bool (is_plain alias)) [
      | inl plain ↦ rw plain (plain-tokens alias plain)
      | inr isnt ↦ rw isnt (between-tokens Back alias)
    ]

alias-closed : (alias : List ℕ) → closed (alias_written alias) ≡ true
alias-closed alias =
    elim (cases_Bool (is_plain alias)) [
      | inl plain ↦ rw plain (plain-closed alias plain)
      | inr isnt ↦ rw isnt (between_closed Back alias _ refl)
    ]

name-tokens : (form : Form) (first : List ℕ) (rest : List (List ℕ)) (alias : Option (List ℕ)) → fits_form form (first ∷ rest) ≡ true
    → let name : Name = record { first = first; rest = rest; alias = alias } in tokens (name_text (written_in form) name) ≡ name_tokens (tokens_in form) name
name-tokens form first rest None fits =
    let name : Name = record { first = first; rest = rest; alias = None } in
    let text = join_with (codes ".") (map (written_in form) (name_parts name)) in
    ap tokens (append-nil text) ∙ parts-tokens form name fits ∙ sym (append-nil _)
name-tokens form first rest (Some alias) fits =
    let name : Name = record { first = first; rest = rest; alias = Some alias } in
    let text = join_with (codes ".") (map (written_in form) (name_parts name)) in
    seam text (alias_text (Some alias)) (parts-closed form name fits) (clean-before text (codes " AS ") (alias_written alias) refl)
    ∙ (λ i. parts-tokens form name fits i ++ (seam (codes " AS ") (alias_written alias) refl (clean-behind (codes " AS ") (alias_written alias) refl)
    ∙ ap (λ ts. Word (codes "AS") ∷ ts) (alias-tokens alias)) i)

name-closed : (form : Form) (first : List ℕ) (rest : List (List ℕ)) (alias : Option (List ℕ)) → fits_form form (first ∷ rest) ≡ true
    → let name : Name = record { first = first; rest = rest; alias = alias } in closed (name_text (written_in form) name) ≡ true
name-closed form first rest None fits =
    let name : Name = record { first = first; rest = rest; alias = None } in
    let text = join_with (codes ".") (map (written_in form) (name_parts name)) in
    ap closed (append-nil text) ∙ parts-closed form name fits
name-closed form first rest (Some alias) fits =
    let name : Name = record { first = first; rest = rest; alias = Some alias } in
    let text = join_with (codes ".") (map (written_in form) (name_parts name)) in
    closed-seam text (alias_text (Some alias)) (parts-closed form name fits)
    (closed-seam (codes " AS ") (alias_written alias) refl (alias-closed alias) (clean-behind (codes " AS ") (alias_written alias) refl))
    (clean-before text (codes " AS ") (alias_written alias) refl)

-- a text that is a name in a form that fits it
pub name_is : (form : Form) (name : Name) (text : List ℕ) → text ≡ name_text (written_in form) name → fits_form form (name_parts name) ≡ true
    → tokens text ≡ name_tokens (tokens_in form) name
name_is form name text is fits = ap tokens is ∙ name-tokens form name.first name.rest name.alias fits

pub name_closed : (form : Form) (name : Name) (text : List ℕ) → text ≡ name_text (written_in form) name → fits_form form (name_parts name) ≡ true
    → closed text ≡ true
name_closed form name text is fits = ap closed is ∙ name-closed form name.first name.rest name.alias fits

pub safe_fits : (name : Name) → fits_form (safe_form name) (name_parts name) ≡ true
safe_fits name = elim (cases_Bool (list_all is_plain (name_parts name))) [ inl plain ↦ rw plain plain | inr isnt ↦ rw isnt ]
