-- The upsert of a name differs from that of none in the texts of two strings alone.
use Rattle.std.proofs.Common.{◌≡◌, ◌∷◌, ◌++◌, ◌∙◌, Ok, List, [], ap, append-nil, append_assoc, codes, refl, subst, sym, ℕ, string_bytes}
use Rattle.std.proofs.lemmas.Bool.{and_from, and_parts}
use Rattle.sql_parts.specs.Quoting.{quoted}
use Rattle.sql_parts.specs.StringTexts.{outline}
use Rattle.sql_parts.specs.Tokens.{Token, closed, tokens}
use Rattle.sql_parts.specs.declared.delimiters.Quotes.TheVariants.{Single}
use Rattle.sql_parts.proofs.tokens.TokenFacts.{between_closed}
use Rattle.sql_builder.specs.Calls.{Sql}
use Rattle.sql_builder.specs.Interference.{QuotesKeepTheirOutline, answer_of}
use Rattle.sql_typed.specs.Fits.{Made}
use Rattle.sql_typed.specs.Printed.{DifferInStrings}
use Rattle.sql_typed.specs.Whole.{set_text}
use Rattle.callers.specs.TypedSearches.{asked_to_name}
use Rattle.callers.proofs.typed.named.Goals as goal

-- the INSERT, and the same of no name without its `;`
differ : QuotesKeepTheirOutline → (one other : List ℕ) → DifferInStrings Sql (asked_to_name one) (asked_to_name other)
differ quotes one other =
    ap (λ (value : List Token). Ok (tokens (codes "INSERT INTO ") ∷ tokens (codes "users") ∷ tokens (codes " (") ∷ tokens (codes "name") ∷ tokens (codes ")") ∷ tokens (codes " VALUES ")
    ∷ tokens (codes "(") ∷ value ∷ tokens (codes ")") ∷ tokens (codes ";") ∷ []))
    (quotes one other)

abbrev front : List ℕ
front = codes "INSERT INTO users (name) VALUES ('')"

-- the upsert is a template with the INSERT and the name in its holes
abbrev words : List ℕ
words = codes " ON DUPLICATE KEY UPDATE "

joined : (rows name field : List ℕ) → field ≡ codes "name"
    → (rows ++ set_text words field (quoted name)) ++ codes ";" ≡ (rows ++ set_text words (codes "name") []) ++ ((quoted name ++ codes ";") ++ [])
joined rows name field is =
    ap (λ f. (rows ++ set_text words f (quoted name)) ++ codes ";") is ∙ append_assoc rows (set_text words (codes "name") (quoted name)) (codes ";")
    ∙ sym (append_assoc rows (set_text words (codes "name") []) (quoted name ++ codes ";"))
    ∙ ap (λ text. (rows ++ set_text words (codes "name") []) ++ text) (sym (append-nil (quoted name ++ codes ";")))

pub returns : goal.returns
returns c =
    let laws = c.values_do_not_interfere.ensures in
    let name = c.args.name.now in
    let rows = string_bytes c.in_ok-rows.rows.text in
    let shut = (and_parts (closed rows) _ c.in_ok-rows.rows.whole).0 in
    let printed : answer_of outline (asked_to_name []).start (asked_to_name []).calls Sql ≡ Ok (outline (rows ++ codes ";")) =
    c.in_ok-rows.ensures.printed.no_interference (asked_to_name [])
    (subst (λ (made : Made). DifferInStrings Sql made (asked_to_name [])) (sym c.in_ok-naming.ensures.made) (differ laws.values name [])) in
    let same : outline (rows ++ codes ";") ≡ outline (front ++ codes ";") = sym (cc printed) in
    record {
      same = ap outline (c.in_ok-statement.ensures.text ∙ ap (λ t. t ++ codes ";") c.in_ok-upsert.ensures.text
          ∙ joined rows name c.of.result.text.now (ap (λ text. text.now) c.of.ensures))
          ∙ laws.templates (codes "? ON DUPLICATE KEY UPDATE name = ?;") (rows ∷ quoted name ∷ []) (front ∷ quoted [] ∷ []) refl
          (λ i. laws.fronts rows front shut refl same i ∷ laws.values name [] i ∷ [])
          (and_from _ _ shut (and_from _ _ (between_closed Single name (quoted name) refl) refl));
    }
