-- A WHERE is true as its conditions make it.
use Rattle.sql_builder.proofs.Imports.{◌≡◌, refl, sym, ◌∙◌, ap, subst, ℕ, Bool, true, false, not, ◌||◌, List, [], ◌∷◌, ◌++◌, map, pos, codes, append-nil}
use Rattle.sql_builder.proofs.Imports.{filter_map, flat_map, list_all, list_any, AllByRecursion, and_parts, and_from, false≢true, not_from_false, join_with}
use Rattle.sql_builder.proofs.Imports.{Token, tokens, is_empty, Pieces, Family, is_balanced, placed, Placed, is_clause_word, at_top_level, list_all-map}
use Rattle.sql_builder.specs.{ClauseTexts, CallText, condition_in, group_pieces, opens_group, conditions_of, groups, ConditionText, condition_pieces, Group}
use Rattle.sql_builder.specs.{cut, in_brackets, pieces_tokens, cond_tokens, Fixed, fixed_piece, raw_piece, group_tokens, joined, has_fit_conditions}
use Rattle.sql_builder.specs.{has_fit_groups, are_fit, condition_groups, text_groups, where_truths, own_placed, truth, Valuation}
use Rattle.sql_builder.specs.Pieces as text
use Rattle.sql_builder.proofs.fragments.NeutralLemmas.{condition-neutral}
use Rattle.sql_builder.proofs.fragments.PropertyLemmas.{neutral-raw}
use Rattle.sql_builder.proofs.reading.SectionLemmas.{Neutral, neutral-front, own-top_level}
use Rattle.sql_builder.proofs.reading.ClauseWordLemmas.{Flagged, fit-balanced, fit-flags, flags, shape-even, are_fit_at, is_fit_at, are_fit-is}
use Rattle.sql_builder.proofs.pieces.{pieces_tokens-append, pieces_tokens-brackets, where_bodies, where_body}
use Rattle.sql_builder.proofs.truth.WhereLemmas.{truth_where}
use Rattle.sql_builder.specs.WhereTokens as where_tokens
use Rattle.sql_builder.proofs.tokens.{are_groups, is_condition, is_group, and_word, has_clause, or_word}
use Rattle.sql_builder.proofs.lists.{cut-all, all-weaker, tested}
use Rattle.sql_builder.proofs.conditions.{begins_raw}

-- ---- one condition

any-flags : (ms : List Placed) → list_any (at_top_level is_clause_word) ms ≡ list_any (λ (m : Flagged). m.0) (flags ms)
any-flags [] = refl
any-flags (m ∷ ms) = ap (λ (b : Bool). at_top_level is_clause_word m || b) (any-flags ms)

-- fit pieces without a clause word of the builder's have no top-level clause keyword
no_clause-tokens : (ps : Pieces) → Neutral ps → are_fit_at (pos 0) ps ≡ true → has_clause (pieces_tokens ps) ≡ false
no_clause-tokens ps neutral fit =
    any-flags (placed (pieces_tokens ps))
    ∙ ap (list_any (λ (m : Flagged). m.0)) (fit-flags (pos 0) ps refl fit (neutral-front ps neutral).laid)
    ∙ sym (any-flags (flat_map own_placed ps)) ∙ own-top_level is_clause_word ps ∙ neutral.no_word

some-append : (a b : List Token) → is_balanced a ≡ true → not (is_empty (a ++ b)) ≡ true
some-append [] b h = absurd (false≢true h)
some-append (t ∷ a) b h = refl

-- a fragment first, so that there is a token
fit-condition : (first : List ℕ) (ps : Pieces) → Neutral (text.Raw first ∷ ps) → are_fit (text.Raw first ∷ ps) ≡ true
    → is_condition (pieces_tokens (text.Raw first ∷ ps)) ≡ true
fit-condition first ps neutral are =
    let all = text.Raw first ∷ ps in
    let fit = sym (are_fit-is all) ∙ are in
    let here = and_parts (is_balanced (tokens first)) _ (and_parts (is_fit_at (pos 0) (text.Raw first)) (are_fit_at (pos 0) ps) fit).0 in
    and_from _ _ (and_from _ _ (some-append (tokens first) (pieces_tokens ps) here.0) (shape-even all (fit-balanced (pos 0) all fit) neutral.even))
    (not_from_false _ (no_clause-tokens all neutral fit))

pub condition-fit : (condition : ConditionText) → are_fit (condition_pieces condition) ≡ true → is_condition (cond_tokens condition) ≡ true
condition-fit condition fit =
    let begins = begins_raw condition in
    subst (λ ps. is_condition (pieces_tokens ps) ≡ true) (sym begins.2)
    (fit-condition begins.0 begins.1 (subst Neutral begins.2 (condition-neutral condition)) (subst (λ ps. are_fit ps ≡ true) begins.2 fit))

-- ---- tokens of what is joined

pub pieces_tokens-joined : (words : List ℕ) (w : Token) → tokens words ≡ w ∷ [] → (items : List Pieces) → pieces_tokens (join_with (fixed_piece words) items)
    ≡ joined w (map pieces_tokens items)
pieces_tokens-joined words w is [] = refl
pieces_tokens-joined words w is (x ∷ []) = ap pieces_tokens (append-nil x)
pieces_tokens-joined words w is (x ∷ y ∷ items) =
    let more = join_with (fixed_piece words) (y ∷ items) in
    pieces_tokens-append x (Fixed words ∷ more)
    ∙ ap (λ ts. pieces_tokens x ++ (ts ++ pieces_tokens more)) is
    ∙ ap (λ ts. pieces_tokens x ++ w ∷ ts) (pieces_tokens-joined words w is (y ∷ items))

-- ---- groups

-- a group's pieces, and its conditions' tokens
record Grouped (group : Pieces) (conditions : List (List Token)) : Type 0 where
  is : pieces_tokens group ≡ group_tokens conditions
  is_group_of : is_group conditions ≡ true

-- items, the pieces that each makes, and the tokens of its conditions
module _ {X : Type 0} (made : X → Pieces) (conditions : X → List (List Token)) where
  abbrev AllGrouped : List X → Type 0
  AllGrouped xs = AllByRecursion (λ x. Grouped (made x) (conditions x)) xs

  brackets-are : (xs : List X) → AllGrouped xs → map pieces_tokens (map (in_brackets fixed_piece) (map made xs))
      ≡ map (λ (cs : List (List Token)). where_tokens.in_brackets (group_tokens cs)) (map conditions xs)
  brackets-are [] all = refl
  brackets-are (x ∷ xs) all = cc (pieces_tokens-brackets (made x), all.0.is, brackets-are xs all.1)

  are-groups : (xs : List X) → AllGrouped xs → list_all is_group (map conditions xs) ≡ true
  are-groups [] all = refl
  are-groups (x ∷ xs) all = and_from _ _ all.0.is_group_of (are-groups xs all.1)

  body-is : (x : X) (xs : List X) → AllGrouped (x ∷ xs)
      → pieces_tokens (where_body (made x) (map made xs)) ≡ where_tokens.where_tokens (conditions x ∷ map conditions xs)
  unfolding where_tokens.where_tokens
  body-is x [] all = all.0.is
  body-is x (y ∷ xs) all =
      pieces_tokens-joined (codes " AND ") and_word refl (map (in_brackets fixed_piece) (map made (x ∷ y ∷ xs)))
      ∙ ap (joined and_word) (brackets-are (x ∷ y ∷ xs) all)

  -- the bodies of WHERE
  bodies-true : (facts : Valuation) (xs : List X) → AllGrouped xs → map (truth facts) (where_bodies (map made xs)) ≡ where_truths facts (map conditions xs)
  unfolding are_groups
  bodies-true facts [] all = refl
  bodies-true facts (x ∷ xs) all =
      ap (λ ts. truth facts ts ∷ []) (body-is x xs all)
      ∙ ap (λ t. t ∷ []) (truth_where facts (map conditions (x ∷ xs)) (are-groups (x ∷ xs) all))

-- ---- the groups of calls

abbrev InFamily : Type 0
InFamily = Family × ConditionText

abbrev fits : ConditionText → Bool
fits condition = are_fit (condition_pieces condition)

abbrev condition_fits : InFamily → Bool
condition_fits c = fits c.1

abbrev all_fit : Group ConditionText → Bool
all_fit group = list_all fits (group.0 ∷ group.1)

are-conditions : (cs : List ConditionText) → list_all fits cs ≡ true → list_all is_condition (map cond_tokens cs) ≡ true
are-conditions cs all =
    list_all-map is_condition cond_tokens cs ∙ all-weaker fits (λ condition. is_condition (cond_tokens condition)) condition-fit cs all

tokens-of : (cs : List ConditionText) → map pieces_tokens (map condition_pieces cs) ≡ map cond_tokens cs
tokens-of [] = refl
tokens-of (c ∷ cs) = ap (λ ts. cond_tokens c ∷ ts) (tokens-of cs)

group-is : (group : Group ConditionText) → all_fit group ≡ true → Grouped (group_pieces group) (map cond_tokens (group.0 ∷ group.1))
group-is group all = record {
  is = pieces_tokens-joined (codes " OR ") or_word refl (map condition_pieces (group.0 ∷ group.1)) ∙ ap (joined or_word) (tokens-of (group.0 ∷ group.1));
  is_group_of = are-conditions (group.0 ∷ group.1) all;
}

groups-fit : (found : List (Group InFamily)) → list_all (λ group. list_all condition_fits (group.0 ∷ group.1)) found ≡ true
    → list_all all_fit (map conditions_of found) ≡ true
groups-fit found all =
    list_all-map all_fit conditions_of found
    ∙ all-weaker (λ (group : Group InFamily). list_all condition_fits (group.0 ∷ group.1)) (λ (group : Group InFamily). all_fit (conditions_of group))
    (λ group fit. list_all-map fits (λ (c : InFamily). c.1) (group.0 ∷ group.1) ∙ fit) found all

pub calls-true : (facts : Valuation) (calls : List CallText) → has_fit_conditions calls ≡ true
    → map (truth facts) (where_bodies (map group_pieces (groups calls))) ≡ where_truths facts (condition_groups calls)
calls-true facts calls fit =
    let tokens_in = λ (group : Group ConditionText). map cond_tokens (group.0 ∷ group.1) in
    bodies-true group_pieces tokens_in facts (groups calls)
    (tested (λ group. Grouped (group_pieces group) (tokens_in group)) all_fit group-is (groups calls)
    (groups-fit (cut opens_group (filter_map condition_in calls)) (cut-all condition_fits opens_group (filter_map condition_in calls) fit)))

-- ---- the groups of a builder

text-is : (group : List ℕ) → are_fit (raw_piece group) ≡ true → Grouped (raw_piece group) (tokens group ∷ [])
text-is group fit = record {
  is = append-nil (tokens group);
  is_group_of = and_from _ _ (subst (λ ts. is_condition ts ≡ true) (append-nil (tokens group)) (fit-condition group [] (neutral-raw group) fit)) refl;
}

pub texts-true : (facts : Valuation) (r : ClauseTexts) → has_fit_groups r ≡ true → map (truth facts) (where_bodies (map raw_piece r.groups))
    ≡ where_truths facts (text_groups r)
texts-true facts r fit =
    bodies-true raw_piece (λ group. tokens group ∷ []) facts r.groups
    (tested (λ group. Grouped (raw_piece group) (tokens group ∷ [])) (λ group. are_fit (raw_piece group)) text-is r.groups fit)
