-- Laws of tokens.
use Rattle.sql_parts.proofs.Imports.{◌≡◌, ℕ, true, false, not, ◌||◌, List, [], ◌∷◌, ◌++◌, codes, sym, refl, ap, ◌∙◌, not-true, not_from_false, or_from}
use Rattle.sql_parts.proofs.Imports.{list_any-append, Quotes, Single, Back, Square, Double}
use Rattle.sql_parts.specs.{between, escaped, Str, clean, closed, is_open, tokens, quoted_token}
use Rattle.sql_parts.proofs.tokens.AutomatonLemmas.{tokens-read}
use Rattle.sql_parts.proofs.tokens.SeamLemmas.{has_open, read-doubled, read-seam}

pub closed-shut : (text : List ℕ) → closed text ≡ true → has_open (tokens text) ≡ false
closed-shut text is = not-true (has_open (tokens text)) is

pub seam : (one other : List ℕ) → closed one ≡ true → clean one other ≡ true → tokens (one ++ other) ≡ tokens one ++ tokens other
seam one other is joins =
    tokens-read (one ++ other) ∙ read-seam one other (sym (ap has_open (tokens-read one)) ∙ closed-shut one is) joins
    ∙ (λ i. sym (tokens-read one) i ++ sym (tokens-read other) i)

pub closed-seam : (one other : List ℕ) → closed one ≡ true → closed other ≡ true → clean one other ≡ true → closed (one ++ other) ≡ true
closed-seam one other is too joins =
    not_from_false _ (ap has_open (seam one other is joins) ∙ list_any-append is_open (tokens one) (tokens other)
    ∙ or_from _ _ (closed-shut one is) (closed-shut other too))

-- a text between quotes is one token that parses back as the text
pub between-tokens : (quotes : Quotes) (text : List ℕ) → tokens (between quotes text) ≡ quoted_token quotes text ∷ []
between-tokens Single text = tokens-read (between Single text) ∙ read-doubled Single [] text
between-tokens Back text = tokens-read (between Back text) ∙ read-doubled Back [] text
between-tokens Square text = tokens-read (between Square text) ∙ read-doubled Square [] text
between-tokens Double text = tokens-read (between Double text) ∙ read-doubled Double [] text

pub between_token : (quotes : Quotes) (text written : List ℕ) → written ≡ between quotes text → tokens written ≡ quoted_token quotes text ∷ []
between_token quotes text written is = ap tokens is ∙ between-tokens quotes text

-- the same of a text that was escaped
pub escaped_token : (text written : List ℕ) → written ≡ escaped text → tokens (codes "'" ++ (written ++ codes "'")) ≡ Str text ∷ []
escaped_token text written is = ap (λ t. tokens (codes "'" ++ (t ++ codes "'"))) is ∙ between-tokens Single text

quoted-shut : (quotes : Quotes) (text : List ℕ) → is_open (quoted_token quotes text) ≡ false
quoted-shut Single text = refl
quoted-shut Back text = refl
quoted-shut Square text = refl
quoted-shut Double text = refl

pub between_closed : (quotes : Quotes) (text written : List ℕ) → written ≡ between quotes text → closed written ≡ true
between_closed quotes text written is = ap (λ all. not (has_open all)) (between_token quotes text written is)
    ∙ ap (λ o. not (o || false)) (quoted-shut quotes text)
