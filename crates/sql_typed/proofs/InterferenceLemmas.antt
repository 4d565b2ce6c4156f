-- Templates, and statements without their `;`, are the same but for texts of strings where what they are made of is.
use Rattle.sql_typed.proofs.Imports.{◌≡◌, ◌∙◌, ◌++◌, ap, codes, map, refl, sym, true, List, [], ◌∷◌, ℕ, AllByRecursion, list_all, and_parts, or_right, append_cancel_right, map-append, cut, filled, holding, blank, blank_token, outline}
use Rattle.sql_typed.proofs.Imports.{Symbol, Token, closed, tokens, filled-tokens, seam, TemplatesFollowTheirOperands, FrontsFollowTheirStatements}
use Rattle.sql_parts.proofs.fragments.StringTextFacts.{closed-alike}
use Rattle.sql_parts.proofs.templates.ApartFacts.{part_tokens}

pub fronts_follow : FrontsFollowTheirStatements
fronts_follow one other shut also same = append_cancel_right (outline one) (outline other) (Symbol 59 ∷ []) (sym (ended one shut) ∙ same ∙ ended other also)
  where
    ended : (text : List ℕ) → closed text ≡ true → outline (text ++ codes ";") ≡ outline text ++ Symbol 59 ∷ []
    ended text shut = ap blank (seam text (codes ";") shut (or_right _ true refl)) ∙ map-append blank_token (tokens text) (Symbol 59 ∷ [])

-- ---- templates

abbrev AllClosed : List (List ℕ) → Type 0
AllClosed texts = AllByRecursion (λ text. closed text ≡ true) texts

both-closed : (one other : List (List ℕ)) → map outline one ≡ map outline other → list_all closed one ≡ true → AllClosed one × AllClosed other
both-closed [] [] same all = (tt, tt)
both-closed [] (u ∷ us) same all = cc same
both-closed (t ∷ ts) [] same all = cc same
both-closed (t ∷ ts) (u ∷ us) same all =
    let parts = and_parts (closed t) (list_all closed ts) all in
    let further : map outline ts ≡ map outline us = cc same in
    let first : outline t ≡ outline u = cc same in
    let more = both-closed ts us further parts.1 in ((parts.0, more.0), (closed-alike t u first parts.0, more.1))

abbrev tokens_in_holes : List (List ℕ) → List (List ℕ) → List Token
tokens_in_holes texts segments = part_tokens (λ (text : List ℕ). text) (holding texts segments)

holes-outline : (one other segments : List (List ℕ)) → map outline one ≡ map outline other → blank (tokens_in_holes one segments) ≡ blank (tokens_in_holes other segments)
holes-outline one other [] same = refl
holes-outline [] [] (segment ∷ segments) same = refl
holes-outline [] (u ∷ us) segments same = cc same
holes-outline (t ∷ ts) [] segments same = cc same
holes-outline (t ∷ ts) (u ∷ us) (segment ∷ segments) same =
    let first : outline t ≡ outline u = cc same in
    let further : map outline ts ≡ map outline us = cc same in
    parted t ts ∙ (λ i. (first i ++ outline segment) ++ holes-outline ts us segments further i) ∙ sym (parted u us)
  where
    parted : (text : List ℕ) (texts : List (List ℕ))
        → blank (tokens_in_holes (text ∷ texts) (segment ∷ segments)) ≡ (outline text ++ outline segment) ++ blank (tokens_in_holes texts segments)
    parted text texts = map-append blank_token (tokens text ++ tokens segment) (tokens_in_holes texts segments)
        ∙ ap (λ ts. ts ++ blank (tokens_in_holes texts segments)) (map-append blank_token (tokens text) (tokens segment))

pub templates_follow : TemplatesFollowTheirOperands
templates_follow template one other apart same all =
    let shut = both-closed one other same all in
    by one shut.0 ∙ ap (λ ts. outline (cut template).0 ++ ts) (holes-outline one other (cut template).1 same) ∙ sym (by other shut.1)
  where
    by : (texts : List (List ℕ)) → AllClosed texts → outline (filled texts template) ≡ outline (cut template).0 ++ blank (tokens_in_holes texts (cut template).1)
    by texts shut = ap blank (filled-tokens texts template apart shut) ∙ map-append blank_token (tokens (cut template).0) (tokens_in_holes texts (cut template).1)
