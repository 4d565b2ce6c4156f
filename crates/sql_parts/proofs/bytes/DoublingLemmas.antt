-- What doubling makes of a text that is cut at its first delimiter, and that doubled texts differ where the texts do, and that what is appended to stays.
use Rattle.sql_parts.proofs.Imports.{◌≡◌, ◌≢◌, ℕ, zero, suc, ◌+◌, ◌<◌, ◌≤◌, List, [], ◌∷◌, ◌++◌, length, get_or, take, drop, refl, subst, sym, ap, ◌∙◌}
use Rattle.sql_parts.proofs.Imports.{length-take, append_assoc, arith, IsCharBoundary, IsUtf8, if◌then◌else◌, ◌==◌, take-append_seam, flat_map-append}
use Rattle.sql_parts.proofs.Imports.{nat_tests, append_cancel_right, drop_more, get_or-take, take-append-drop, IsCharBoundary-after_ascii, IsCharBoundary-start}
use Rattle.std.specs.Io.{StartsWith}
use Rattle.std.proofs.KnownBytes.{starts_with_rest}
use Rattle.sql_parts.specs.{doubled, enclosed}

-- a text without the delimiter stays as it is
pub doubled-without : (delimiter : ℕ) (text : List ℕ) → ((i : ℕ) → i < length text → get_or text i 0 ≢ delimiter) → doubled delimiter text ≡ text
doubled-without delimiter [] without = refl
doubled-without delimiter (byte ∷ text) without =
    let here : byte ≢ delimiter = without 0 (omega arith) in
    let later : doubled delimiter text ≡ text = doubled-without delimiter text (λ i h. without (suc i) (omega arith)) in
    grind (arith, nat_tests, here, later)

-- two texts in a row are doubled one after the other
pub doubled-append : (delimiter : ℕ) (front back : List ℕ) → doubled delimiter (front ++ back) ≡ doubled delimiter front ++ doubled delimiter back
doubled-append delimiter front back = flat_map-append (λ byte. if byte == delimiter then delimiter ∷ delimiter ∷ [] else byte ∷ []) front back

-- a delimiter in front of delimiters may as well be behind them
delimiter-behind : (delimiter : ℕ) (text : List ℕ) (end : ℕ) (rest : List ℕ) → end ≤ length text → ((i : ℕ) → i < end → get_or text i 0 ≡ delimiter)
    → delimiter ∷ (take end text ++ rest) ≡ take end text ++ (delimiter ∷ rest)
delimiter-behind delimiter text zero rest within delimiters = refl
delimiter-behind delimiter [] (suc end) rest within delimiters = refl
delimiter-behind delimiter (byte ∷ text) (suc end) rest within delimiters =
    let here : byte ≡ delimiter = delimiters 0 (omega arith) in
    let later : delimiter ∷ (take end text ++ rest) ≡ take end text
    ++ (delimiter ∷ rest) = delimiter-behind delimiter text end rest (omega (arith, within)) (λ i h. delimiters (suc i) (omega arith)) in
    cc

-- delimiters at the front of a text are there twice once they are doubled
pub doubled-delimiters : (delimiter : ℕ) (text : List ℕ) (end : ℕ) → end ≤ length text → ((i : ℕ) → i < end → get_or text i 0 ≡ delimiter)
    → doubled delimiter text ≡ take end text ++ (take end text ++ doubled delimiter (drop end text))
doubled-delimiters delimiter text zero within delimiters = refl
doubled-delimiters delimiter [] (suc end) within delimiters = refl
doubled-delimiters delimiter (byte ∷ text) (suc end) within delimiters =
    let here : byte ≡ delimiter = delimiters 0 (omega arith) in
    let one : doubled delimiter (byte ∷ text) ≡ delimiter ∷ delimiter ∷ doubled delimiter text = grind (arith, nat_tests, here) in
    let later = doubled-delimiters delimiter text end (omega (arith, within)) (λ i h. delimiters (suc i) (omega arith)) in
    let behind = delimiter-behind delimiter text end (take end text ++ doubled delimiter (drop end text)) (omega (arith, within))
    (λ i h. delimiters (suc i) (omega arith)) in
    cc

-- a character begins where delimiters end
pub boundary-behind_delimiters : (delimiter : ℕ) (text : List ℕ) (end : ℕ) → delimiter < 128 → IsUtf8 text → end ≤ length text
    → ((i : ℕ) → i < end → get_or text i 0 ≡ delimiter)
    → IsCharBoundary text end
boundary-behind_delimiters delimiter text zero low utf8 within delimiters = IsCharBoundary-start text utf8
boundary-behind_delimiters delimiter text (suc end) low utf8 within delimiters =
    let last : get_or text end 0 ≡ delimiter = delimiters end (omega arith) in
    let next : end + 1 ≡ suc end = omega arith in
    subst (λ (n : ℕ). IsCharBoundary text n) next (IsCharBoundary-after_ascii text end utf8 (omega (arith, within)) (omega (arith, last, low)))

-- a text that is cut around its first delimiter
pub doubled-cut : (delimiter : ℕ) (text before after : List ℕ) → text ≡ before ++ (delimiter ∷ after)
    → ((i : ℕ) → i < length before → get_or before i 0 ≢ delimiter) → doubled delimiter text ≡ before ++ (delimiter ∷ delimiter ∷ doubled delimiter after)
doubled-cut delimiter text before after cut without =
    let here : doubled delimiter (delimiter ∷ after) ≡ delimiter ∷ delimiter ∷ doubled delimiter after = grind (arith, nat_tests) in
    rw (cut, doubled-append delimiter before (delimiter ∷ after), doubled-without delimiter before without, here) refl

-- a text that is cut at a delimiter
pub cut-at : (delimiter : ℕ) (text : List ℕ) (place : ℕ) → place < length text → get_or text place 0 ≡ delimiter → text ≡ take place text
    ++ (delimiter ∷ drop (place + 1) text)
cut-at delimiter text place within here =
    sym (take-append-drop place text) ∙ ap (λ l. take place text ++ l) (drop_more text place 0 within ∙ ap (λ m. m ∷ drop (place + 1) text) here)

-- and at its first delimiter
pub doubled-at : (delimiter : ℕ) (text : List ℕ) (place : ℕ) → place < length text → get_or text place 0 ≡ delimiter
    → ((i : ℕ) → i < place → get_or text i 0 ≢ delimiter)
    → doubled delimiter text ≡ take place text ++ (delimiter ∷ delimiter ∷ doubled delimiter (drop (place + 1) text))
doubled-at delimiter text place within here without =
    let size = length-take place text in
    doubled-cut delimiter text (take place text) (drop (place + 1) text) (cut-at delimiter text place within here)
    (λ i below. let before : i < place = omega (arith, size, below) in
    subst (λ byte. byte ≢ delimiter) (sym (get_or-take place text i 0 before)) (without i before))

-- texts that are doubled alike are the same text
pub doubled-injective : (delimiter : ℕ) (one other : List ℕ) → doubled delimiter one ≡ doubled delimiter other → one ≡ other
doubled-injective delimiter [] [] same = refl
doubled-injective delimiter [] (y ∷ other) same = grind (arith, nat_tests, same)
doubled-injective delimiter (x ∷ one) [] same = grind (arith, nat_tests, same)
doubled-injective delimiter (x ∷ one) (y ∷ other) same =
    let rest = doubled-injective delimiter one other in
    grind (arith, nat_tests, same, rest)

-- texts that are enclosed alike are the same text
pub enclosed-injective : (opening closing : ℕ) (one other : List ℕ) → enclosed opening closing one ≡ enclosed opening closing other → one ≡ other
enclosed-injective opening closing one other same =
    let inner : doubled closing one ++ closing ∷ [] ≡ doubled closing other ++ closing ∷ [] = cc in
    doubled-injective closing one other (append_cancel_right (doubled closing one) (doubled closing other) (closing ∷ []) inner)

-- what a text begins with, it begins with when more is appended
pub starts_with_more : (text front more : List ℕ) → StartsWith text front → StartsWith (text ++ more) front
starts_with_more text front more h =
    let rest = drop (length front) text in
    subst (λ (whole : List ℕ). StartsWith (whole ++ more) front) (sym (starts_with_rest text front h))
    (subst (λ (whole : List ℕ). StartsWith whole front) (sym (append_assoc front rest more)) (take-append_seam front (rest ++ more)))

-- what a text begins with, it begins with the front of that
pub starts_with_front : (text front more : List ℕ) → StartsWith text (front ++ more) → StartsWith text front
starts_with_front text front more h =
    let rest = drop (length (front ++ more)) text in
    subst (λ (whole : List ℕ). StartsWith whole front) (sym (starts_with_rest text (front ++ more) h))
    (subst (λ (whole : List ℕ). StartsWith whole front) (sym (append_assoc front more rest)) (take-append_seam front (more ++ rest)))
