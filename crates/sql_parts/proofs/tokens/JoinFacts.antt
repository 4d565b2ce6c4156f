-- The tokens of closed texts with edges between them.
use Rattle.sql_parts.proofs.Imports.{◌≡◌, false, ℕ, Bool, true, ◌||◌, List, [], ◌∷◌, ◌++◌, map, sym, ap, ◌∙◌, append_assoc, append-nil, flat_map}
use Rattle.sql_parts.proofs.Imports.{AllByRecursion, false≢true, or_left, or_right}
use Rattle.sql_parts.specs.{join_with, Token, begins_with, clean, closed, ends_with, has_semicolon, is_edge, is_empty, tokens}
use Rattle.sql_parts.proofs.tokens.TokenFacts.{closed-seam, seam}

-- a text that is closed and is between edges of its own
pub record Edged (between : List ℕ) : Type 0 where
  pub is_closed : closed between ≡ true
  pub plain : has_semicolon between ≡ false
  pub begins : begins_with is_edge between ≡ true
  pub ends : ends_with is_edge between ≡ true

pub begins-append : (test : ℕ → Bool) (one other : List ℕ) → begins_with test one ≡ true → begins_with test (one ++ other) ≡ true
begins-append test [] other is = absurd (false≢true is)
begins-append test (byte ∷ one) other is = is

-- an edge before a seam, and behind it
pub clean-behind : (one other : List ℕ) → ends_with is_edge one ≡ true → clean one other ≡ true
clean-behind one other ends = or_left _ _ (or_right (is_empty one || is_empty other) _ ends)

pub clean-before : (one other more : List ℕ) → begins_with is_edge other ≡ true → clean one (other ++ more) ≡ true
clean-before one other more begins = or_right _ _ (begins-append is_edge other more begins)

-- a text between others, the edges of which are beside it
pub enclosed-tokens : (front text behind : List ℕ) → closed front ≡ true → ends_with is_edge front ≡ true → closed text ≡ true → begins_with is_edge behind ≡ true
    → tokens (front ++ (text ++ behind)) ≡ tokens front ++ (tokens text ++ tokens behind)
enclosed-tokens front text behind shut ends also begins =
    seam front (text ++ behind) shut (clean-behind front (text ++ behind) ends) ∙ ap (λ ts. tokens front ++ ts) (seam text behind also (or_right _ _ begins))

pub joined-tokens : (between text : List ℕ) (texts : List (List ℕ)) → Edged between → AllByRecursion (λ t. closed t ≡ true) (text ∷ texts)
    → tokens (join_with between (text ∷ texts)) ≡ join_with (tokens between) (map tokens (text ∷ texts))
joined-tokens between text [] edged each = ap tokens (append-nil text) ∙ sym (append-nil (tokens text))
joined-tokens between text (next ∷ texts) edged each =
    let rest = join_with between (next ∷ texts) in
    let more = flat_map (λ (t : List ℕ). between ++ t) texts in
    let more_tokens = flat_map (λ (t : List Token). tokens between ++ t) (map tokens texts) in
    ap (λ t. tokens (text ++ t)) (append_assoc between next more)
    ∙ seam text (between ++ rest) each.0 (clean-before text between rest edged.begins)
    ∙ ap (λ ts. tokens text ++ ts)
    (seam between rest edged.is_closed (clean-behind between rest edged.ends)
    ∙ ap (λ ts. tokens between ++ ts) (joined-tokens between next texts edged each.1)
    ∙ sym (append_assoc (tokens between) (tokens next) more_tokens))

pub joined-closed : (between text : List ℕ) (texts : List (List ℕ)) → Edged between → AllByRecursion (λ t. closed t ≡ true) (text ∷ texts)
    → closed (join_with between (text ∷ texts)) ≡ true
joined-closed between text [] edged each = ap closed (append-nil text) ∙ each.0
joined-closed between text (next ∷ texts) edged each =
    let rest = join_with between (next ∷ texts) in
    let more = flat_map (λ (t : List ℕ). between ++ t) texts in
    ap (λ t. closed (text ++ t)) (append_assoc between next more)
    ∙ closed-seam text (between ++ rest) each.0
    (closed-seam between rest edged.is_closed (joined-closed between next texts edged each.1) (clean-behind between rest edged.ends))
    (clean-before text between rest edged.begins)
