-- The loop that fills the holes of a template, and what is made of it.
use Rattle.sql_typed.proofs.Imports.{◌≡◌, ◌∙◌, ◌+◌, ◌<◌, ◌++◌, add-one, ap, append_assoc, drop, drop-cons, get_or, length, suc, ◌≤◌, List, [], ◌∷◌, ℕ, sym, refl, true, false, String, string_bytes, not, AllByRecursion, list_all, and_from}
use Rattle.sql_typed.proofs.Imports.{and_parts, or_right, list_all-append, balanced, has_clause_word, filled, holes_apart, in_hole, is_dotted, is_unit, unsigned, tokens, ServesAsOperand, has_no_clause, is_bare_operand, is_fragment}
use Rattle.sql_typed.proofs.Imports.{is_typed_fragment, is_typed_operand, texts, LacksHole, bracketed, filled-fragment, filled-hole, filled-serves, in_hole-serves, byte_units, in_brackets, serves, map-append}
use Rattle.std.proofs.Math.ListN.{drop_of_length-le}
use Rattle.sql_typed.proofs.ConditionLemmas.{serves_as}

pub one_left : {Z : Type 0} (operands : List (String Z)) (i : ℕ) (operand : String Z) → i < length operands → operand ≡ get_or operands i operand
    → texts (drop i operands) ≡ string_bytes operand ∷ texts (drop (i + 1) operands)
one_left operands i operand less is = rw (add-one, drop-cons operands i operand less) (ap (λ o. string_bytes o ∷ texts (drop (suc i) operands)) (sym is))

pub none_left : {Z : Type 0} (operands : List (String Z)) (i : ℕ) → length operands ≤ i → texts (drop i operands) ≡ []
none_left operands i past = ap texts (drop_of_length-le operands past)

-- one more hole is filled
pub filled_more : {left : List (List ℕ)} {after : List ℕ} (before segment operand behind rest : List ℕ) (texts : List (List ℕ))
    → after ≡ (before ++ segment) ++ operand → left ≡ operand ∷ texts → rest ≡ segment ++ 63 ∷ behind → LacksHole segment
    → after ++ filled texts behind ≡ before ++ filled left rest
filled_more before segment operand behind rest texts is one cut lacks =
    ap (λ t. t ++ filled texts behind) is ∙ append_assoc (before ++ segment) operand (filled texts behind)
    ∙ append_assoc before segment (operand ++ filled texts behind)
    ∙ ap (λ t. before ++ t) (sym (filled-hole operand texts rest segment behind cut lacks) ∙ ap (λ ts. filled ts rest) (sym one))

-- ---- operands in holes

pub all_serve : (operands : List (List ℕ)) → list_all is_bare_operand operands ≡ true → AllByRecursion ServesAsOperand operands
all_serve [] all = tt
all_serve (operand ∷ operands) all =
    let both = and_parts (is_bare_operand operand) (list_all is_bare_operand operands) all in (serves operand both.0, all_serve operands both.1)

pub one_more : {Z : Type 0} {now : List (String Z)} {operand : List ℕ} (operands : List (String Z)) (text : String Z) → now ≡ operands ++ text ∷ []
    → string_bytes text ≡ operand → texts now ≡ texts operands ++ operand ∷ []
one_more operands text is in_its_hole =
    ap texts is ∙ map-append string_bytes operands (text ∷ []) ∙ ap (λ o. texts operands ++ o ∷ []) in_its_hole

pub all_more : {now : List (List ℕ)} (operands : List (List ℕ)) (operand : List ℕ) → now ≡ operands ++ in_hole operand ∷ []
    → list_all is_bare_operand operands ≡ true → ServesAsOperand operand → list_all is_bare_operand now ≡ true
all_more operands operand is all one =
    let one_serves = in_hole-serves operand one in
    ap (list_all is_bare_operand) is ∙ list_all-append is_bare_operand operands (in_hole operand ∷ [])
    ∙ and_from _ _ all (and_from _ _ (and_from _ _ one_serves.is_operand one_serves.no_clause_word) refl)

pub in_hole_is : (text written : List ℕ) → is_unit text ≡ false → written ≡ in_brackets byte_units text → written ≡ in_hole text
in_hole_is text written isnt is = rw isnt is

pub bracketed_in_hole : {given : List ℕ} (text : List ℕ) → given ≡ in_brackets byte_units text → balanced text ≡ true → in_hole given ≡ in_brackets byte_units text
bracketed_in_hole text given_is is = ap in_hole given_is
    ∙ rw (or_right (is_dotted (tokens (unsigned (in_brackets byte_units text)))) _ (bracketed (in_brackets byte_units text) _ text refl refl ∙ is)) refl

pub condition_balanced : (text : List ℕ) → is_fragment text ≡ true → balanced text ≡ true
condition_balanced text fits = (and_parts (balanced text) (not (has_clause_word text)) fits).0

-- with operands in its holes a template is what it is with a word in each
pub operand_filled : {text : List ℕ} (template : List ℕ) (operands : List (List ℕ)) → text ≡ filled operands template → holes_apart template ≡ true
    → list_all is_bare_operand operands ≡ true → is_typed_operand template ≡ true → ServesAsOperand text
operand_filled template operands is apart all fits =
    serves_as is (filled-serves operands template apart (all_serve operands all) (and_parts (is_bare_operand template) (has_no_clause template) fits).0)

pub fragment_filled : {text : List ℕ} (template : List ℕ) (operands : List (List ℕ)) → text ≡ filled operands template → holes_apart template ≡ true
    → list_all is_bare_operand operands ≡ true → is_typed_fragment template ≡ true → is_fragment text ≡ true
fragment_filled template operands is apart all fits =
    ap is_fragment is ∙ filled-fragment operands template apart (all_serve operands all) (and_parts (is_fragment template) (has_no_clause template) fits).0
