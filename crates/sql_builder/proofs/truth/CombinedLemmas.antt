-- The texts of conditions are fragments, and what is true of those that are made of others.
use Rattle.sql_builder.proofs.Imports.{◌≡◌, refl, sym, ◌∙◌, ap, subst, ℕ, Bool, true, false, not, ◌&&◌, List, [], ◌∷◌, ◌++◌, map, pos, codes, append-nil}
use Rattle.sql_builder.proofs.Imports.{AllByRecursion, list_all, and_from, and_parts, not-true, not_from_false, or_from, or_right, balanced, is_clause_word}
use Rattle.sql_builder.proofs.Imports.{is_joining, operand, ServesAsOperand, is_fragment, quoted, join_with, Token, Str, Word, closed, ends_with, is_edge}
use Rattle.sql_builder.proofs.Imports.{tokens, has_top_level, has_top_level-is, is_balanced, is_balanced-is, is_even, is_operand-is, closed-alike}
use Rattle.sql_builder.proofs.Imports.{enclosed-tokens, between-tokens, seam, Single, Pieces, And, Eq, blank, blank_token, outline, map-append, list_all-map}
use Rattle.sql_parts.specs.Literal as literal
use Rattle.sql_parts.proofs.fragments.OperandFacts.{literal-serves}
use Rattle.sql_builder.specs.{Cond, SelectFrom, Sql, ConditionText, Compare, condition_bytes, condition_pieces, condition_raw_texts, has_operands, not_text}
use Rattle.sql_builder.specs.{byte_units, fixed_piece, pieces_text, raw_piece, are_fit, has_closed_fragments, is_fit, pieces_tokens, Valuation, and_all, not3}
use Rattle.sql_builder.specs.{or_all, truth, IsAtom, joined, CombinedFollowTheirParts, ConditionsFollowTheirPieces, ExistsFollowsItsQuery, IsCombined}
use Rattle.sql_builder.specs.{MasksFollowTheirField, NegationsFollowTheirPart, combined_text, constant_text, exists_text, joined_text, like_text, negation_text}
use Rattle.sql_builder.specs.{piece_outline}
use Rattle.sql_builder.specs.Phrases as phrase
use Rattle.sql_builder.specs.WhereTokens.{in_brackets}
use Rattle.sql_builder.proofs.fragments.{fit_conditions, condition-inside, Passes, are_between, inside-joins, passes-joins, whatever, within}
use Rattle.sql_builder.proofs.pieces.{condition_keeps, Inside, brackets-inside, pieces_tokens-brackets, raw-inside, shaped, text-append, joined_in_form}
use Rattle.sql_builder.proofs.reading.{are_fit-is, fit-balanced, fragments_closed}
use Rattle.sql_builder.proofs.tokens.{IsPlain, balanced_closed, balanced_even, even_closes, even_text, has_top_level-append, is_balanced-brackets}
use Rattle.sql_builder.proofs.tokens.{is_condition-append, is_condition-joined, is_even-append, is_even-brackets, no_clause-brackets, and_word, has_clause}
use Rattle.sql_builder.proofs.tokens.{is_condition, is_group, left_bracket, like_word, not_word, or_word, right_bracket}
use Rattle.sql_builder.proofs.truth.AtomLemmas.{atom_plain, operand_plain}
use Rattle.sql_builder.proofs.truth.ConditionGroupLemmas.{condition-fit, pieces_tokens-joined}
use Rattle.sql_builder.proofs.truth.ConnectiveLemmas.{none-brackets, or3-False, truth_brackets}
use Rattle.sql_builder.proofs.truth.TruthLemmas.{of_not}
use Rattle.sql_builder.proofs.truth.WhereLemmas.{bracketed_groups, condition_closes, condition_no_clause, truth_group, truth_joined}
use Rattle.sql_builder.proofs.conditions.ConditionLemmas as conditions
use Rattle.sql_builder.proofs.conditions.{condition_printed, condition_atom}
use Rattle.sql_builder.proofs.interference.{pieces-outline}
use Rattle.sql_builder.proofs.fragments.PropertyLemmas as pieces
use Rattle.sql_builder.proofs.lists.{all-weaker, map-all, tested-all}

-- a text is a fragment where its tokens are a condition
fragment-is : (text : List ℕ) → is_fragment text ≡ is_condition (tokens text)
fragment-is text i = is_balanced-is (tokens text) i && not (has_top_level-is is_clause_word (tokens text) i)

pub condition-of : (text : List ℕ) → is_fragment text ≡ true → is_condition (tokens text) ≡ true
condition-of text is = sym (fragment-is text) ∙ is

text_closed : (text : List ℕ) → is_fragment text ≡ true → closed text ≡ true
text_closed text is = balanced_closed text (and_parts (balanced text) _ is).0

pub fragment_closed : (text : List ℕ) → is_fragment text ≡ true → has_closed_fragments (raw_piece text) ≡ true
fragment_closed text is = and_from _ _ (text_closed text is) refl

-- pieces whose tokens are a condition
from-pieces : (ps : Pieces) → Inside ps → has_closed_fragments ps ≡ true → is_condition (pieces_tokens ps) ≡ true → is_fragment (pieces_text ps) ≡ true
from-pieces ps inside shut is = fragment-is (pieces_text ps) ∙ ap is_condition ((shaped ps inside).shape_is shut) ∙ is

-- ---- conditions on a field

pub condition_fragment : (condition : ConditionText) → list_all is_fit (condition_raw_texts condition) ≡ true
    → is_fragment (condition_bytes condition) ≡ true
condition_fragment condition fits =
    let fit : are_fit (condition_pieces condition) ≡ true =
    (and_parts (are_fit (condition_pieces condition)) true
    (fit_conditions (SelectFrom (codes "t")) (Cond And condition ∷ []) Sql (and_from _ _ (and_from _ _ refl (and_from _ _ fits refl)) refl))).0 in
    let shut = fragments_closed (condition_pieces condition) (fit-balanced (pos 0) (condition_pieces condition) (sym (are_fit-is (condition_pieces condition)) ∙ fit)) in
    fragment-is (condition_bytes condition) ∙ ap is_condition ((condition_keeps condition).0 shut) ∙ condition-fit condition fit

-- a text that an operand has is a fragment
pub fits_as : {text given : List ℕ} → text ≡ given → ServesAsOperand given → is_fragment text ≡ true
fits_as is serves = ap is_fragment is ∙ and_from _ _ serves.is_balanced serves.no_clause_word

pub operands_balanced : {X : Type 0} (text : X → List ℕ) → ((x : X) → ServesAsOperand (text x)) → (values : List X) → list_all balanced (map text values) ≡ true
operands_balanced text serves [] = refl
operands_balanced text serves (value ∷ values) = and_from _ _ (serves value).is_balanced (operands_balanced text serves values)

-- ---- a mask in which `!` escapes

-- what is behind a mask
abbrev ending : List Token
ending = Word (codes "ESCAPE") ∷ Str (codes "!") ∷ []

like-tokens : (negated : Bool) (field mask : List ℕ) → closed field ≡ true → closed mask ≡ true
    → tokens (like_text negated field mask) ≡ tokens field ++ (tokens (not_text negated ++ codes " LIKE ") ++ (tokens mask ++ ending))
like-tokens true field mask shut also =
    seam field (codes " NOT LIKE " ++ (mask ++ codes " ESCAPE '!'")) shut (or_right _ true refl)
    ∙ ap (λ ts. tokens field ++ ts) (enclosed-tokens (codes " NOT LIKE ") mask (codes " ESCAPE '!'") refl refl also refl)
like-tokens false field mask shut also =
    seam field (codes " LIKE " ++ (mask ++ codes " ESCAPE '!'")) shut (or_right _ true refl)
    ∙ ap (λ ts. tokens field ++ ts) (enclosed-tokens (codes " LIKE ") mask (codes " ESCAPE '!'") refl refl also refl)

-- a mask and what is behind it, between which no test finds another top-level token
masked : (test : Token → Bool) (mask : List ℕ) → is_fragment mask ≡ true → has_top_level test (tokens mask) ≡ false → has_top_level test ending ≡ false
    → has_top_level test (tokens mask ++ ending) ≡ false
masked test mask is none last = has_top_level-append test (tokens mask) ending (even_text mask (and_parts (balanced mask) _ is).0) ∙ or_from _ _ none last

like-condition : (negated : Bool) (field mask : List ℕ) → is_condition (tokens field) ≡ true → is_fragment mask ≡ true
    → is_condition (tokens field ++ (tokens (not_text negated ++ codes " LIKE ") ++ (tokens mask ++ ending))) ≡ true
like-condition negated field mask is masks = by negated
  where
    even : is_even (tokens mask ++ ending) ≡ true
    even = is_even-append (tokens mask) ending (even_text mask (and_parts (balanced mask) _ masks).0) refl

    plain : has_clause (tokens mask ++ ending) ≡ false
    plain = masked is_clause_word mask masks (not-true _ (and_parts (is_balanced (tokens mask)) _ (condition-of mask masks)).1) refl

    by : (negated : Bool) → is_condition (tokens field ++ (tokens (not_text negated ++ codes " LIKE ") ++ (tokens mask ++ ending))) ≡ true
    by true = is_condition-append (tokens field) (not_word ∷ like_word ∷ (tokens mask ++ ending)) is even plain
    by false = is_condition-append (tokens field) (like_word ∷ (tokens mask ++ ending)) is even plain

pub like_fragment : (negated : Bool) (field mask : List ℕ) → is_fragment field ≡ true → is_fragment mask ≡ true
    → is_fragment (like_text negated field mask) ≡ true
like_fragment negated field mask is masks =
    fragment-is (like_text negated field mask) ∙ ap is_condition (like-tokens negated field mask (text_closed field is) (text_closed mask masks))
    ∙ like-condition negated field mask (condition-of field is) masks

-- ---- atoms

-- a condition whose texts are operands
pub condition_is_atom : (condition : ConditionText) → has_operands condition ≡ true → IsAtom (tokens (condition_bytes condition))
condition_is_atom condition operands =
    subst IsAtom (sym ((condition_keeps condition).0 (fragments_closed (condition_pieces condition) (conditions.operands_balanced condition operands))))
    (condition_atom condition operands)

pub constant_is_atom : (holds : Bool) → IsAtom (tokens (constant_text holds))
constant_is_atom true = condition_is_atom (Compare Eq (codes "1") (codes "1")) refl
constant_is_atom false = condition_is_atom (Compare Eq (codes "1") (codes "0")) refl

like-atom : (negated : Bool) (field mask : List ℕ) → operand field ≡ true → ServesAsOperand mask
    → IsAtom (tokens field ++ (tokens (not_text negated ++ codes " LIKE ") ++ (tokens mask ++ ending)))
like-atom negated field mask is serves = by negated
  where
    plain : has_top_level is_joining (tokens mask ++ ending) ≡ false
    plain = masked is_joining mask (fits_as refl serves) (operand_plain (tokens mask) (sym (is_operand-is (tokens mask)) ∙ serves.is_operand)) refl

    by : (negated : Bool) → IsAtom (tokens field ++ (tokens (not_text negated ++ codes " LIKE ") ++ (tokens mask ++ ending)))
    by true = atom_plain (tokens field) not_word (like_word ∷ (tokens mask ++ ending)) (sym (is_operand-is (tokens field)) ∙ is) plain
    by false = atom_plain (tokens field) like_word (tokens mask ++ ending) (sym (is_operand-is (tokens field)) ∙ is) plain

pub like_is_atom : (negated : Bool) (field mask : List ℕ) → ServesAsOperand field → ServesAsOperand mask → IsAtom (tokens (like_text negated field mask))
like_is_atom negated field mask serves masks =
    subst IsAtom (sym (like-tokens negated field mask serves.is_closed masks.is_closed)) (like-atom negated field mask serves.is_operand masks)

-- ---- conditions joined by a word

bracketed : List ℕ → Pieces
bracketed text = phrase.in_brackets fixed_piece (raw_piece text)

joined-pieces : List ℕ → List (List ℕ) → Pieces
joined-pieces words texts = phrase.in_brackets fixed_piece (join_with (fixed_piece words) (map bracketed texts))

abbrev brackets : List ℕ → List ℕ
brackets text = phrase.in_brackets byte_units text

bracketed-texts : (texts : List (List ℕ)) → map pieces_text (map bracketed texts) ≡ map brackets texts
unfolding bracketed
bracketed-texts [] = refl
bracketed-texts (t ∷ texts) = ap (λ more. brackets t ∷ more) (bracketed-texts texts)

joined-text : (words : List ℕ) (texts : List (List ℕ)) → pieces_text (joined-pieces words texts) ≡ joined_text words texts
unfolding joined-pieces
joined-text words texts =
    let items = map bracketed texts in
    ap (λ text. codes "(" ++ text) (text-append (join_with (fixed_piece words) items) (fixed_piece (codes ")"))
    ∙ ap (λ text. text ++ codes ")")
    (joined_in_form fixed_piece byte_units pieces_text refl text-append append-nil words items ∙ ap (join_with words) (bracketed-texts texts)))

bracketed-inside : (texts : List (List ℕ)) → AllByRecursion Inside (map bracketed texts)
unfolding bracketed
bracketed-inside texts = map-all Inside bracketed (λ t. brackets-inside (raw_piece t) (raw-inside t)) texts

bracketed-closed : (texts : List (List ℕ)) → list_all is_fragment texts ≡ true → AllByRecursion (Passes closed whatever) (map bracketed texts)
unfolding bracketed
bracketed-closed texts all = tested-all (Passes closed whatever) bracketed is_fragment fragment_closed texts all

joined-closed : (words : List ℕ) → are_between words ≡ true → (texts : List (List ℕ)) → list_all is_fragment texts ≡ true
    → has_closed_fragments (joined-pieces words texts) ≡ true
unfolding joined-pieces
joined-closed words is texts all =
    within closed whatever (codes "(") (join_with (fixed_piece words) (map bracketed texts)) (codes ")")
    (pieces.joined (passes-joins closed whatever) words is (map bracketed texts) (bracketed-closed texts all))

abbrev in_each : List (List ℕ) → List (List Token)
in_each texts = map (λ text. in_brackets (tokens text)) texts

each-tokens : (texts : List (List ℕ)) → map pieces_tokens (map bracketed texts) ≡ in_each texts
unfolding bracketed
each-tokens [] = refl
each-tokens (t ∷ texts) = λ i. (pieces_tokens-brackets (raw_piece t) ∙ ap in_brackets (append-nil (tokens t))) i ∷ each-tokens texts i

brackets-condition : (ts : List Token) → is_condition ts ≡ true → is_condition (in_brackets ts) ≡ true
brackets-condition ts is =
    let even = balanced_even ts (and_parts (is_balanced ts) _ is).0 in
    and_from _ _ (is_balanced-brackets ts even) (not_from_false _ (no_clause-brackets ts even))

each-condition : (texts : List (List ℕ)) → list_all is_fragment texts ≡ true → list_all is_condition (in_each texts) ≡ true
each-condition texts all =
    list_all-map is_condition (λ text. in_brackets (tokens text)) texts
    ∙ all-weaker is_fragment (λ text. is_condition (in_brackets (tokens text))) (λ t is. brackets-condition (tokens t) (condition-of t is)) texts all

-- a word that joins conditions
record Joins (words : List ℕ) (w : Token) : Type 0 where
  between : are_between words ≡ true
  is : tokens words ≡ w ∷ []
  plain : IsPlain w

or_joins : Joins (codes " OR ") or_word
or_joins = record {
  between = refl;
  is = refl;
  plain = record { flat = refl; whole = refl; no_clause = refl };
}

and_joins : Joins (codes " AND ") and_word
and_joins = record {
  between = refl;
  is = refl;
  plain = record { flat = refl; whole = refl; no_clause = refl };
}

joined_inside : {words : List ℕ} {w : Token} → Joins words w → (texts : List (List ℕ)) → Inside (joined-pieces words texts)
unfolding joined-pieces
joined_inside {words} joins texts =
    brackets-inside (join_with (fixed_piece words) (map bracketed texts)) (pieces.joined inside-joins words joins.between (map bracketed texts) (bracketed-inside texts))

module _ {words : List ℕ} {w : Token} (joins : Joins words w) (t : List ℕ) (texts : List (List ℕ)) (all : list_all is_fragment (t ∷ texts) ≡ true) where
  pieces-are : pieces_tokens (joined-pieces words (t ∷ texts)) ≡ in_brackets (joined w (in_each (t ∷ texts)))
  unfolding joined-pieces
  pieces-are =
      pieces_tokens-brackets (join_with (fixed_piece words) (map bracketed (t ∷ texts)))
      ∙ ap in_brackets (pieces_tokens-joined words w joins.is (map bracketed (t ∷ texts)) ∙ ap (joined w) (each-tokens (t ∷ texts)))

  inside-all : Inside (joined-pieces words (t ∷ texts))
  inside-all = joined_inside joins (t ∷ texts)

  joined-condition : is_condition (joined w (in_each (t ∷ texts))) ≡ true
  joined-condition = is_condition-joined w (in_brackets (tokens t)) (in_each texts) joins.plain (each-condition (t ∷ texts) all)

  joined-fragment : is_fragment (joined_text words (t ∷ texts)) ≡ true
  joined-fragment =
      ap is_fragment (sym (joined-text words (t ∷ texts)))
      ∙ from-pieces (joined-pieces words (t ∷ texts)) inside-all (joined-closed words joins.between (t ∷ texts) all)
      (ap is_condition pieces-are ∙ brackets-condition (joined w (in_each (t ∷ texts))) joined-condition)

  joined-tokens : tokens (joined_text words (t ∷ texts)) ≡ in_brackets (joined w (in_each (t ∷ texts)))
  joined-tokens =
      ap tokens (sym (joined-text words (t ∷ texts)))
      ∙ (shaped (joined-pieces words (t ∷ texts)) inside-all).shape_is (joined-closed words joins.between (t ∷ texts) all) ∙ pieces-are

pub combined_fragment : (conjunction : Bool) (texts : List (List ℕ)) → list_all is_fragment texts ≡ true → is_fragment (combined_text conjunction texts) ≡ true
combined_fragment true [] all = refl
combined_fragment false [] all = refl
combined_fragment true (t ∷ texts) all = joined-fragment and_joins t texts all
combined_fragment false (t ∷ texts) all = joined-fragment or_joins t texts all

-- ---- truth

truth-in : (facts : Valuation) (ts : List Token) → is_condition ts ≡ true → truth facts (in_brackets ts) ≡ truth facts ts
truth-in facts ts is = truth_brackets facts ts (condition_closes ts is) (condition_no_clause ts is)

truths-in : (facts : Valuation) (texts : List (List ℕ)) → list_all is_fragment texts ≡ true
    → map (truth facts) (in_each texts) ≡ map (λ text. truth facts (tokens text)) texts
truths-in facts [] all = refl
truths-in facts (t ∷ texts) all =
    let both = and_parts (is_fragment t) (list_all is_fragment texts) all in
    λ i. truth-in facts (tokens t) (condition-of t both.0) i ∷ truths-in facts texts both.1 i

abbrev alone : List ℕ → List (List Token)
alone text = tokens text ∷ []

groups-are : (texts : List (List ℕ)) → bracketed_groups (map alone texts) ≡ in_each texts
groups-are [] = refl
groups-are (t ∷ texts) = ap (λ more. in_brackets (tokens t) ∷ more) (groups-are texts)

groups-fit : (texts : List (List ℕ)) → list_all is_fragment texts ≡ true → list_all is_group (map alone texts) ≡ true
groups-fit texts all =
    list_all-map is_group alone texts ∙ all-weaker is_fragment (λ text. is_group (alone text)) (λ t is. and_from _ _ (condition-of t is) refl) texts all

truths-alone : (facts : Valuation) (texts : List (List ℕ)) → map (λ group. or_all (map (truth facts) group)) (map alone texts)
    ≡ map (λ text. truth facts (tokens text)) texts
truths-alone facts [] = refl
truths-alone facts (t ∷ texts) = λ i. or3-False (truth facts (tokens t)) i ∷ truths-alone facts texts i

pub any_combined : (texts : List (List ℕ)) → list_all is_fragment texts ≡ true → IsCombined or_all texts (combined_text false texts)
any_combined [] all = tt
any_combined (t ∷ texts) all = λ facts.
    ap (truth facts) (joined-tokens or_joins t texts all)
    ∙ truth-in facts (joined or_word (in_each (t ∷ texts))) (joined-condition or_joins t texts all)
    ∙ truth_group facts (in_brackets (tokens t)) (in_each texts) (each-condition (t ∷ texts) all)
    ∙ ap or_all (truths-in facts (t ∷ texts) all)

pub all_combined : (texts : List (List ℕ)) → list_all is_fragment texts ≡ true → IsCombined and_all texts (combined_text true texts)
all_combined [] all = tt
all_combined (t ∷ texts) all = λ facts.
    ap (truth facts) (joined-tokens and_joins t texts all)
    ∙ truth-in facts (joined and_word (in_each (t ∷ texts))) (joined-condition and_joins t texts all)
    ∙ ap (λ items. truth facts (joined and_word items)) (sym (groups-are (t ∷ texts)))
    ∙ truth_joined facts (alone t) (map alone texts) (groups-fit (t ∷ texts) all)
    ∙ ap and_all (truths-alone facts (t ∷ texts))

-- ---- pieces whose tokens are the same but for the texts of strings

abbrev outlines : Pieces → List (List Token)
outlines ps = map piece_outline ps

alike : (one other : Pieces) → outlines one ≡ outlines other → Inside one → Inside other → has_closed_fragments one ≡ true
    → outline (pieces_text one) ≡ outline (pieces_text other)
alike one other same inside also shut = pieces-outline one other same (shaped one inside) (shaped other also) shut

-- ---- NOT and EXISTS

opened-alike : (words one other : List ℕ) → closed words ≡ true → ends_with is_edge words ≡ true → outline one ≡ outline other → closed one ≡ true
    → outline (words ++ (one ++ codes ")")) ≡ outline (words ++ (other ++ codes ")"))
opened-alike words one other is ends same shut =
    parted one shut ∙ ap (λ ts. outline words ++ (ts ++ right_bracket ∷ [])) same ∙ sym (parted other (closed-alike one other same shut))
  where
    parted : (text : List ℕ) → closed text ≡ true → outline (words ++ (text ++ codes ")")) ≡ outline words ++ (outline text ++ right_bracket ∷ [])
    parted text shut =
        ap blank (enclosed-tokens words text (codes ")") is ends shut refl) ∙ map-append blank_token (tokens words) (tokens text ++ right_bracket ∷ [])
        ∙ ap (λ ts. outline words ++ ts) (map-append blank_token (tokens text) (right_bracket ∷ []))

front-condition : (front ts : List Token) → is_condition front ≡ true → is_even ts ≡ true → is_condition (front ++ in_brackets ts) ≡ true
front-condition front ts is even = is_condition-append front (in_brackets ts) is (is_even-brackets ts even) (no_clause-brackets ts even)

negation-tokens : (text : List ℕ) → is_fragment text ≡ true → tokens (negation_text text) ≡ not_word ∷ in_brackets (tokens text)
unfolding in_brackets
negation-tokens text is = enclosed-tokens (codes "NOT (") text (codes ")") refl refl (text_closed text is) refl

pub negation_fragment : (text : List ℕ) → is_fragment text ≡ true → is_fragment (negation_text text) ≡ true
negation_fragment text is =
    fragment-is (negation_text text) ∙ ap is_condition (negation-tokens text is)
    ∙ front-condition (not_word ∷ []) (tokens text) refl (even_text text (and_parts (balanced text) _ is).0)

pub negation_truth : (text : List ℕ) → is_fragment text ≡ true → (facts : Valuation) → truth facts (tokens (negation_text text)) ≡ not3 (truth facts (tokens text))
negation_truth text is facts =
    let ts = tokens text in
    let here = condition-of text is in
    ap (truth facts) (negation-tokens text is)
    ∙ of_not facts (in_brackets ts) (not_from_false _ (has_top_level-is is_joining (in_brackets ts) ∙ none-brackets is_joining ts refl (condition_closes ts here)))
    ∙ ap not3 (truth-in facts ts here)

exists_word : Token
exists_word = Word (codes "EXISTS")

exists-tokens : (query : List ℕ) → balanced query ≡ true → tokens (exists_text false query) ≡ exists_word ∷ in_brackets (tokens query)
unfolding in_brackets exists_word
exists-tokens query is = enclosed-tokens (codes "EXISTS (") query (codes ")") refl refl (balanced_closed query is) refl

not-exists-tokens : (query : List ℕ) → balanced query ≡ true → tokens (exists_text true query) ≡ not_word ∷ exists_word ∷ in_brackets (tokens query)
unfolding in_brackets exists_word
not-exists-tokens query is = enclosed-tokens (codes "NOT EXISTS (") query (codes ")") refl refl (balanced_closed query is) refl

pub exists_fragment : (negated : Bool) (query : List ℕ) → balanced query ≡ true → is_fragment (exists_text negated query) ≡ true
unfolding exists_word
exists_fragment false query is =
    fragment-is (exists_text false query) ∙ ap is_condition (exists-tokens query is)
    ∙ front-condition (exists_word ∷ []) (tokens query) refl (even_text query is)
exists_fragment true query is =
    fragment-is (exists_text true query) ∙ ap is_condition (not-exists-tokens query is)
    ∙ front-condition (not_word ∷ exists_word ∷ []) (tokens query) refl (even_text query is)

joins-none : (query : List ℕ) → balanced query ≡ true → has_top_level is_joining (in_brackets (tokens query)) ≡ false
joins-none query is = none-brackets is_joining (tokens query) refl (even_closes (tokens query) (even_text query is))

pub exists_is_atom : (query : List ℕ) → balanced query ≡ true → IsAtom (tokens (exists_text false query))
unfolding in_brackets exists_word
exists_is_atom query is =
    subst IsAtom (sym (exists-tokens query is)) (atom_plain (exists_word ∷ []) left_bracket (tokens query ++ right_bracket ∷ []) refl (joins-none query is))

pub not_exists_truth : (query : List ℕ) → balanced query ≡ true → (facts : Valuation)
    → truth facts (tokens (exists_text true query)) ≡ not3 (truth facts (tokens (exists_text false query)))
unfolding exists_word
not_exists_truth query is facts =
    ap (truth facts) (not-exists-tokens query is)
    ∙ of_not facts (exists_word ∷ in_brackets (tokens query))
    (not_from_false _ (has_top_level-is is_joining (exists_word ∷ in_brackets (tokens query)) ∙ joins-none query is))
    ∙ ap (λ ts. not3 (truth facts ts)) (sym (exists-tokens query is))

-- ---- texts of strings

pub condition_outline : ConditionsFollowTheirPieces
condition_outline one other same shut =
    ap outline (sym (condition_printed one))
    ∙ alike (condition_pieces one) (condition_pieces other) same (condition-inside one) (condition-inside other) shut
    ∙ ap outline (condition_printed other)

pub mask_outline : MasksFollowTheirField
mask_outline negated one other mask other_mask same is =
    parted one mask (text_closed one is) ∙ (λ i. same i ++ (words ++ (quotes i ++ blank ending)))
    ∙ sym (parted other other_mask (closed-alike one other same (text_closed one is)))
  where
    words : List Token
    words = blank (tokens (not_text negated ++ codes " LIKE "))

    quotes : outline (quoted mask) ≡ outline (quoted other_mask)
    quotes = ap blank (between-tokens Single mask) ∙ sym (ap blank (between-tokens Single other_mask))

    parted : (field mask : List ℕ) → closed field ≡ true → outline (like_text negated field (quoted mask)) ≡ outline field ++ (words ++ (outline (quoted mask) ++ blank ending))
    parted field mask shut =
        ap blank (like-tokens negated field (quoted mask) shut (literal-serves (literal.words mask)).is_closed) ∙ map-append blank_token (tokens field) _
        ∙ ap (λ ts. outline field ++ ts) (map-append blank_token (tokens (not_text negated ++ codes " LIKE ")) _
        ∙ ap (λ ts. words ++ ts) (map-append blank_token (tokens (quoted mask)) ending))

bracketed-outlines : (one other : List (List ℕ)) → map outline one ≡ map outline other
    → map outlines (map bracketed one) ≡ map outlines (map bracketed other)
unfolding bracketed
bracketed-outlines [] [] same = refl
bracketed-outlines [] (u ∷ us) same = cc same
bracketed-outlines (t ∷ ts) [] same = cc same
bracketed-outlines (t ∷ ts) (u ∷ us) same =
    let first : outline t ≡ outline u = cc same in
    let further : map outline ts ≡ map outline us = cc same in
    let more = bracketed-outlines ts us further in
    λ i. (blank (tokens (codes "(")) ∷ first i ∷ blank (tokens (codes ")")) ∷ []) ∷ more i

joined-outlines : (words : List ℕ) (texts : List (List ℕ)) → outlines (joined-pieces words texts)
    ≡ outlines (fixed_piece (codes "(")) ++ (join_with (outlines (fixed_piece words)) (map outlines (map bracketed texts)) ++ outlines (fixed_piece (codes ")")))
unfolding joined-pieces
joined-outlines words texts =
    ap (λ more. blank (tokens (codes "(")) ∷ more)
    (map-append piece_outline (join_with (fixed_piece words) (map bracketed texts)) (fixed_piece (codes ")"))
    ∙ ap (λ items. items ++ outlines (fixed_piece (codes ")")))
    (joined_in_form fixed_piece (λ w. outlines (fixed_piece w)) outlines refl (map-append piece_outline) (λ w. refl) words (map bracketed texts)))

joined-alike : {words : List ℕ} {w : Token} → Joins words w → (t : List ℕ) (ts other : List (List ℕ)) → map outline (t ∷ ts) ≡ map outline other
    → list_all is_fragment (t ∷ ts) ≡ true → outline (joined_text words (t ∷ ts)) ≡ outline (joined_text words other)
joined-alike {words} joins t ts other same all =
    ap outline (sym (joined-text words (t ∷ ts)))
    ∙ alike (joined-pieces words (t ∷ ts)) (joined-pieces words other)
    (joined-outlines words (t ∷ ts)
    ∙ ap (λ items. outlines (fixed_piece (codes "(")) ++ (join_with (outlines (fixed_piece words)) items ++ outlines (fixed_piece (codes ")"))))
    (bracketed-outlines (t ∷ ts) other same)
    ∙ sym (joined-outlines words other))
    (joined_inside joins (t ∷ ts)) (joined_inside joins other) (joined-closed words joins.between (t ∷ ts) all)
    ∙ ap outline (joined-text words other)

pub combined_outline : CombinedFollowTheirParts
combined_outline conjunction [] [] same all = refl
combined_outline conjunction [] (u ∷ us) same all = cc same
combined_outline conjunction (t ∷ ts) [] same all = cc same
combined_outline true (t ∷ ts) (u ∷ us) same all = joined-alike and_joins t ts (u ∷ us) same all
combined_outline false (t ∷ ts) (u ∷ us) same all = joined-alike or_joins t ts (u ∷ us) same all

pub negation_outline : NegationsFollowTheirPart
negation_outline one other same is = opened-alike (codes "NOT (") one other refl refl same (text_closed one is)

pub exists_outline : ExistsFollowsItsQuery
exists_outline true one other same is =
    opened-alike (codes "NOT EXISTS (") one other refl refl same (balanced_closed one is)
exists_outline false one other same is =
    opened-alike (codes "EXISTS (") one other refl refl same (balanced_closed one is)
