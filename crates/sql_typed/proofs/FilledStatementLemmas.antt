-- What is known of a statement that a template makes.
use Rattle.sql_typed.proofs.Imports.{◌≡◌, ◌∙◌, ◌++◌, ap, append_assoc, codes, List, [], ◌∷◌, map, ℕ, Bool, sym, refl, true, false, eqb-true, flat_map, list_any, false≢true, not-true, or_from, or_parts, flat_map-append, map-append, cut}
use Rattle.sql_typed.proofs.Imports.{filled, holding, holes_apart, Part, Constant, emptied, marks, outer_states, part_bytes, parts_bytes, Token, Word, Str, Name, Symbol, Open, is_semicolon, tokens, balanced_whole, filled-keeps}
use Rattle.sql_typed.proofs.Imports.{EndsInOneSemicolon, ReadersIgnoreOperandTexts, filled_parts, parts_in_holes, list_all, is_bare_operand, closed, filled-closed, if◌then◌else◌}
use Rattle.sql_parts.proofs.tokens.ReaderLemmas.{readers-alike}
use Rattle.sql_typed.proofs.FilledLemmas.{all_serve}

-- ---- its only `;` is last

abbrev none_of : List Token → Bool
none_of ts = list_all (λ (t : Token). false) ts

abbrev is_ended : List Token → Bool
is_ended [] = false
is_ended (token ∷ ts) = if is_semicolon token then none_of ts else is_ended ts

passed : (front rest : List Token) → list_any is_semicolon front ≡ false → is_ended (front ++ rest) ≡ is_ended rest
passed [] rest none = refl
passed (token ∷ front) rest none =
    let both = or_parts (is_semicolon token) (list_any is_semicolon front) none in rw both.0 (passed front rest both.1)

semicolon : (token : Token) → is_semicolon token ≡ true → token ∷ [] ≡ Symbol 59 ∷ []
semicolon (Symbol byte) is = ap (λ (b : ℕ). Symbol b ∷ []) (eqb-true byte 59 is)
semicolon (Word text) is = absurd (false≢true is)
semicolon (Str text) is = absurd (false≢true is)
semicolon (Name text) is = absurd (false≢true is)
semicolon Open is = absurd (false≢true is)

ends : (ts : List Token) → is_ended ts ≡ true → EndsInOneSemicolon ts
ends [] is = absurd (false≢true is)
ends (token ∷ ts) is = by (is_semicolon token) ts refl is (ends ts)
  where
    by : (last : Bool) (rest : List Token) → is_semicolon token ≡ last → (if last then none_of rest else is_ended rest) ≡ true
        → (is_ended rest ≡ true → EndsInOneSemicolon rest) → EndsInOneSemicolon (token ∷ rest)
    by true [] one is further = ([], semicolon token one, refl)
    by true (next ∷ rest) one is further = absurd (false≢true is)
    by false rest isnt is further = let more = further is in (token ∷ more.0, ap (λ (ts : List Token). token ∷ ts) more.1, or_from _ _ isnt more.2)

ended-filled : (front rest op : List Token) → list_any is_semicolon op ≡ false → is_ended (front ++ Symbol 63 ∷ rest) ≡ true → is_ended (front ++ (op ++ rest)) ≡ true
ended-filled [] rest op none is = passed op rest none ∙ is
ended-filled (token ∷ front) rest op none is = by (is_semicolon token) front is (ended-filled front rest op none)
  where
    by : (last : Bool) (more : List Token) → (if last then none_of (more ++ Symbol 63 ∷ rest) else is_ended (more ++ Symbol 63 ∷ rest)) ≡ true
        → (is_ended (more ++ Symbol 63 ∷ rest) ≡ true → is_ended (more ++ (op ++ rest)) ≡ true)
        → (if last then none_of (more ++ (op ++ rest)) else is_ended (more ++ (op ++ rest))) ≡ true
    by true [] is further = absurd (false≢true is)
    by true (next ∷ more) is further = absurd (false≢true is)
    by false more is further = further is

pub filled_ends : {text : List ℕ} (operands : List (List ℕ)) (template : List ℕ) → text ≡ filled operands template → holes_apart template ≡ true
    → list_all is_bare_operand operands ≡ true → EndsInOneSemicolon (tokens template) → EndsInOneSemicolon (tokens text)
filled_ends {text} operands template is apart all given = ends (tokens text) (ap (λ t. is_ended (tokens t)) is
    ∙ filled-keeps is_ended (λ front rest text serves. ended-filled front rest (tokens text) (not-true _ (balanced_whole text serves.is_balanced).1)) operands template apart
    (all_serve operands all) (ap is_ended given.1 ∙ passed given.0 (Symbol 59 ∷ []) given.2))

pub closed_filled : {text : List ℕ} (operands : List (List ℕ)) (template : List ℕ) → text ≡ filled operands template → holes_apart template ≡ true
    → list_all is_bare_operand operands ≡ true → closed text ≡ true
closed_filled operands template is apart all = ap closed is ∙ filled-closed operands template apart (all_serve operands all)

-- ---- its readers

holes-emptied : (operands : List (List Part)) (segments : List (List ℕ)) → map emptied (parts_in_holes operands segments) ≡ parts_in_holes (map (map emptied) operands) segments
holes-emptied operands [] = refl
holes-emptied [] (segment ∷ segments) = ap (λ more. Constant (codes "?" ++ segment) ∷ more) (holes-emptied [] segments)
holes-emptied (parts ∷ operands) (segment ∷ segments) = map-append emptied parts (Constant segment ∷ parts_in_holes operands segments)
    ∙ ap (λ more. map emptied parts ++ Constant segment ∷ more) (holes-emptied operands segments)

abbrev texts_in_holes : List (List ℕ) → List (List ℕ) → List ℕ
texts_in_holes texts segments = flat_map (λ (part : List ℕ × List ℕ). part.0 ++ part.1) (holding texts segments)

holes-bytes : (operands : List (List Part)) (segments : List (List ℕ)) → parts_bytes (parts_in_holes operands segments) ≡ texts_in_holes (map parts_bytes operands) segments
holes-bytes operands [] = refl
holes-bytes [] (segment ∷ segments) = ap (λ more. (codes "?" ++ segment) ++ more) (holes-bytes [] segments)
holes-bytes (parts ∷ operands) (segment ∷ segments) = flat_map-append part_bytes parts (Constant segment ∷ parts_in_holes operands segments)
    ∙ ap (λ more. parts_bytes parts ++ (segment ++ more)) (holes-bytes operands segments)
    ∙ sym (append_assoc (parts_bytes parts) segment (texts_in_holes (map parts_bytes operands) segments))

pub readers_ignore_operands : (operands : List (List ℕ)) (template : List ℕ) → ReadersIgnoreOperandTexts operands template
readers_ignore_operands operands template = λ next plain state one other is same one_plain other_plain inside.
    let segments = (cut template).1 in
    let bytes = λ (operands : List (List Part)). ap (λ (t : List ℕ). (cut template).0 ++ t) (holes-bytes operands segments) in
    let read = λ (operands : List (List Part)) (text : List ℕ). outer_states next state (marks (filled_parts operands template)) text in
    let alike = readers-alike next plain state (filled_parts one template) (filled_parts other template)
    (ap (λ (more : List Part). Constant (cut template).0 ∷ more)
    (holes-emptied one segments ∙ ap (λ operands. parts_in_holes operands segments) same ∙ sym (holes-emptied other segments)))
    one_plain other_plain inside in (
      alike.0,
      ap (read one) (sym (bytes one ∙ ap (λ o. filled o template) is)) ∙ alike.1 ∙ ap (read other) (bytes other),
    )
