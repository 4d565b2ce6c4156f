-- The roles of tokens, looked up among the keywords, and which keywords and signs exclude each other.
use Rattle.sql_parts.proofs.Imports.{◌≡◌, ◌≢◌, ◌∙◌, ℕ, ◌<◌, Bool, true, false, cond, ◌&&◌, List, [], ◌∷◌, ap, refl, sym, arith, length, eqb, get_or, codes}
use Rattle.sql_parts.proofs.Imports.{drop, ne_eqb, inl, inr, map, to_ascii_lowercase, list_any, bytes_eq, str_eq_ignore_ascii_case, str_to_ascii_lowercase}
use Rattle.sql_parts.proofs.Imports.{cases_Bool, false≢true, or_cases, or_from, or_parts, bytes_eq-Decides, Role, code, eqb-true, or-false, Name, ◌||◌}
use Rattle.sql_parts.specs.{is_clause_word, is_closing, is_dialect_word, is_joining, is_opening, is_whole, is_word, lowers, needs_left, needs_right, raises}
use Rattle.sql_parts.specs.{HasRole, sample, Token, Word, Str, Symbol, Open, is_symbol}
use Rattle.sql_parts.specs.declared.roles.Role.TheVariants as role

-- all that the tests of fragments ask of a token
abbrev pub answers : Token → List Bool
answers token =
    raises token ∷ lowers token ∷ is_opening token ∷ is_closing token ∷ needs_left token ∷ needs_right token ∷ is_joining token ∷ is_word (codes "AND") token
    ∷ is_word (codes "BETWEEN") token ∷ is_word (codes "NOT") token ∷ is_clause_word token ∷ is_dialect_word token ∷ is_whole token ∷ []

abbrev nth : ℕ → List Bool → Bool
nth i found = get_or found i false

pub has-role : (role : Role) (token : Token) → answers token ≡ answers (sample role) → HasRole role token
has-role role token same = record {
  raising = ap (nth 0) same;
  lowering = ap (nth 1) same;
  opening = ap (nth 2) same;
  closing = ap (nth 3) same;
  left = ap (nth 4) same;
  right = ap (nth 5) same;
  joining = ap (nth 6) same;
  and = ap (nth 7) same;
  between = ap (nth 8) same;
  not = ap (nth 9) same;
  clause = ap (nth 10) same;
  dialect = ap (nth 11) same;
  whole = ap (nth 12) same;
}

abbrev Entry : Type 0
Entry = List ℕ × Role

-- the keywords, those with the same first letter in the order in which the code asks for them
abbrev keywords : List Entry
keywords =
    (codes "AND", role.And) ∷ (codes "BETWEEN", role.Between) ∷ (codes "CASE", role.Raises) ∷ (codes "DELETE", role.Clause)
    ∷ (codes "END", role.Lowers) ∷ (codes "ELSE", role.Parts) ∷ (codes "EXCEPT", role.Dialect) ∷ (codes "FROM", role.Clause)
    ∷ (codes "FOR", role.Dialect) ∷ (codes "FETCH", role.Dialect) ∷ (codes "GROUP", role.Clause) ∷ (codes "HAVING", role.Clause)
    ∷ (codes "INSERT", role.Clause) ∷ (codes "INTO", role.Dialect) ∷ (codes "INTERSECT", role.Dialect) ∷ (codes "LIMIT", role.Clause)
    ∷ (codes "MINUS", role.Dialect) ∷ (codes "NOT", role.Not) ∷ (codes "OR", role.Or) ∷ (codes "ORDER", role.Clause) ∷ (codes "OFFSET", role.Clause)
    ∷ (codes "RETURNING", role.Clause) ∷ (codes "SELECT", role.Clause) ∷ (codes "SET", role.Clause) ∷ (codes "THEN", role.Parts)
    ∷ (codes "TABLE", role.Dialect) ∷ (codes "UNION", role.Clause) ∷ (codes "UPDATE", role.Clause) ∷ (codes "VALUES", role.Clause)
    ∷ (codes "WHEN", role.Parts) ∷ (codes "WHERE", role.Clause) ∷ (codes "WITH", role.Dialect) ∷ (codes "WINDOW", role.Dialect) ∷ []

-- the role of the first of them that a word is
abbrev pub role_among : List ℕ → List Entry → Role
role_among word [] = role.Plain
role_among word (entry ∷ entries) = cond (str_eq_ignore_ascii_case word entry.0) entry.1 (role_among word entries)

-- each has the role that is beside it
abbrev AreRight : List Entry → Type 0
AreRight entries = map (λ (entry : Entry). answers (Word entry.0)) entries ≡ map (λ (entry : Entry). answers (sample entry.1)) entries

right : AreRight keywords
right = refl

-- a word is one of them
abbrev is_among : List ℕ → List Entry → Bool
is_among word entries = list_any (λ (entry : Entry). str_eq_ignore_ascii_case word entry.0) entries

same-word : (word keyword : List ℕ) → str_eq_ignore_ascii_case word keyword ≡ true → answers (Word word) ≡ answers (Word keyword)
same-word word keyword is =
    let same = (bytes_eq-Decides (str_to_ascii_lowercase word) (str_to_ascii_lowercase keyword)).0 is in
    rw same refl

among-from : (word : List ℕ) (entries : List Entry) → AreRight entries → (is_among word entries ≡ false → answers (Word word) ≡ answers (Str []))
    → answers (Word word) ≡ answers (sample (role_among word entries))
among-from word [] are plain = plain refl
among-from word (entry ∷ entries) are plain =
    let found : Bool → List Bool = λ b. answers (sample (cond b entry.1 (role_among word entries))) in
    elim (cases_Bool (str_eq_ignore_ascii_case word entry.0)) [
      | inl is ↦ same-word word entry.0 is ∙ ap (λ each. get_or each 0 []) are ∙ ap found (sym is)
      | inr isnt ↦ among-from word entries (ap (drop 1) are) (λ rest. plain (or_from _ _ isnt rest)) ∙ ap found (sym isnt)
    ]

-- a word that is none of them is no keyword
none-among : (word keyword : List ℕ) (entries : List Entry) → is_among word entries ≡ false
    → list_any (λ (entry : Entry). bytes_eq keyword entry.0) entries ≡ true → str_eq_ignore_ascii_case word keyword ≡ false
none-among word keyword [] none is = absurd (false≢true is)
none-among word keyword (entry ∷ entries) none is =
    let both = or_parts (str_eq_ignore_ascii_case word entry.0) (is_among word entries) none in
    elim (or_cases (bytes_eq keyword entry.0) _ is) [
      | inl here ↦ ap (str_eq_ignore_ascii_case word) ((bytes_eq-Decides keyword entry.0).0 here) ∙ both.0
      | inr later ↦ none-among word keyword entries both.1 later
    ]

none-plain : (word : List ℕ) → is_among word keywords ≡ false → answers (Word word) ≡ answers (Str [])
none-plain word none =
    let isnt = λ (keyword : List ℕ). none-among word keyword keywords none in
    rw (isnt (codes "AND") refl, isnt (codes "BETWEEN") refl, isnt (codes "CASE") refl, isnt (codes "DELETE") refl, isnt (codes "END") refl)
    (rw (isnt (codes "ELSE") refl, isnt (codes "EXCEPT") refl, isnt (codes "FROM") refl, isnt (codes "FOR") refl, isnt (codes "FETCH") refl)
    (rw (isnt (codes "GROUP") refl, isnt (codes "HAVING") refl, isnt (codes "INSERT") refl, isnt (codes "INTO") refl, isnt (codes "INTERSECT") refl)
    (rw (isnt (codes "LIMIT") refl, isnt (codes "MINUS") refl, isnt (codes "NOT") refl, isnt (codes "OR") refl, isnt (codes "ORDER") refl)
    (rw (isnt (codes "OFFSET") refl, isnt (codes "RETURNING") refl, isnt (codes "SELECT") refl, isnt (codes "SET") refl, isnt (codes "THEN") refl)
    (rw (isnt (codes "TABLE") refl, isnt (codes "UNION") refl, isnt (codes "UPDATE") refl, isnt (codes "VALUES") refl, isnt (codes "WHEN") refl)
    (rw (isnt (codes "WHERE") refl, isnt (codes "WITH") refl, isnt (codes "WINDOW") refl) refl))))))

-- the first letter of a keyword
abbrev initial : List ℕ → ℕ
initial keyword = to_ascii_lowercase (get_or keyword 0 0)

abbrev pub beginning : ℕ → List Entry → List Entry
beginning letter [] = []
beginning letter (entry ∷ entries) = cond (eqb letter (initial entry.0)) (entry ∷ beginning letter entries) (beginning letter entries)

other-letter : (byte : ℕ) (word keyword : List ℕ) → eqb (to_ascii_lowercase byte) (initial keyword) ≡ false
    → str_eq_ignore_ascii_case (byte ∷ word) keyword ≡ false
other-letter byte word [] other = refl
other-letter byte word (letter ∷ keyword) other = ap (λ same. same && bytes_eq (str_to_ascii_lowercase word) (str_to_ascii_lowercase keyword)) other

narrowed : (byte : ℕ) (word : List ℕ) (entries : List Entry)
    → role_among (byte ∷ word) (beginning (to_ascii_lowercase byte) entries) ≡ role_among (byte ∷ word) entries
narrowed byte word [] = refl
narrowed byte word (entry ∷ entries) = elim (cases_Bool (eqb (to_ascii_lowercase byte) (initial entry.0))) [
  | inl same ↦ rw same (ap (λ r. cond (str_eq_ignore_ascii_case (byte ∷ word) entry.0) entry.1 r) (narrowed byte word entries))
  | inr other ↦ rw (other, other-letter byte word entry.0 other) (narrowed byte word entries)
]

abbrev pub keywords_of : ℕ → List Entry
keywords_of letter = beginning letter keywords

-- a word has the role that it has among the keywords with its first letter
pub by-letter : (letter byte : ℕ) (text : List ℕ) (role : Role) → text ≡ byte ∷ drop 1 text → to_ascii_lowercase byte ≡ letter
    → role ≡ role_among text (keywords_of letter) → HasRole role (Word text)
by-letter letter byte text role front is found =
    let all : role_among text (keywords_of letter) ≡ role_among text keywords = (λ i. role_among (front i) (keywords_of (sym is i)))
    ∙ narrowed byte (drop 1 text) keywords ∙ ap (λ t. role_among t keywords) (sym front) in
    has-role role (Word text) (among-from text keywords right (none-plain text) ∙ ap (λ r. answers (sample r)) (sym (found ∙ all)))

-- a text by its first byte
pub front : (text bytes : List ℕ) (byte : ℕ) → bytes ≡ text → 0 < length bytes → byte ≡ get_or bytes 0 0 → text ≡ byte ∷ drop 1 text
front text [] byte same some is = absurd (omega (arith, some))
front text (first ∷ rest) byte same some is = sym same ∙ ap (λ b. b ∷ rest) (sym is) ∙ ap (λ t. byte ∷ drop 1 t) same

pub empty-plain : (text : List ℕ) → length text ≡ 0 → HasRole role.Plain (Word text)
empty-plain [] none = has-role role.Plain (Word []) refl
empty-plain (byte ∷ text) none = absurd (omega (arith, none))

pub sign-role : (sign : ℕ) (role : Role) (sure : ℕ) → sign ≡ sure → answers (Symbol sure) ≡ answers (sample role) → HasRole role (Symbol sign)
sign-role sign role sure is same = has-role role (Symbol sign) (ap (λ s. answers (Symbol s)) is ∙ same)

-- the keyword behind another one
pub behind : (word keyword : List ℕ) (is given found result : Role) → result ≡ cond (str_eq_ignore_ascii_case word keyword) is given → given ≡ found
    → result ≡ cond (str_eq_ignore_ascii_case word keyword) is found
behind word keyword is given found result one other = one ∙ ap (cond (str_eq_ignore_ascii_case word keyword) is) other

-- no entry begins with a letter
none-begins : (letter : ℕ) (entries : List Entry) → list_any (eqb letter) (map (λ (entry : Entry). initial entry.0) entries) ≡ false
    → beginning letter entries ≡ []
none-begins letter [] none = refl
none-begins letter (entry ∷ entries) none =
    let both = or_parts (eqb letter (initial entry.0)) _ none in
    ap (λ b. cond b (entry ∷ beginning letter entries) (beginning letter entries)) both.0 ∙ none-begins letter entries both.1

-- the first letters of the keywords
abbrev pub initials : List ℕ
initials =
    97 ∷ 98 ∷ 99 ∷ 100 ∷ 101 ∷ 101 ∷ 101 ∷ 102 ∷ 102 ∷ 102 ∷ 103 ∷ 104 ∷ 105 ∷ 105 ∷ 105 ∷ 108 ∷ 109 ∷ 110 ∷ 111 ∷ 111 ∷ 111 ∷ 114 ∷ 115 ∷ 115 ∷ 116
    ∷ 116 ∷ 117 ∷ 117 ∷ 118 ∷ 119 ∷ 119 ∷ 119 ∷ 119 ∷ []

-- a word with another first letter
pub other-plain : (letter byte : ℕ) (text : List ℕ) → text ≡ byte ∷ drop 1 text → to_ascii_lowercase byte ≡ letter
    → list_any (eqb letter) initials ≡ false → HasRole role.Plain (Word text)
other-plain letter byte text front is none =
    by-letter letter byte text role.Plain front is (ap (role_among text) (sym (none-begins letter keywords none)))

pub sign-plain : (sign : ℕ) → sign ≢ 40 → sign ≢ 41 → sign ≢ 44 → sign ≢ 59 → HasRole role.Plain (Symbol sign)
sign-plain sign up down comma semicolon =
    has-role role.Plain (Symbol sign) (rw (ne_eqb sign 40 up, ne_eqb sign 41 down, ne_eqb sign 44 comma, ne_eqb sign 59 semicolon) refl)

-- a token is not two keywords, nor a keyword and a sign
pub word_apart : (one other : List ℕ) (token : Token) → str_eq_ignore_ascii_case one other ≡ false → is_word one token ≡ true → is_word other token ≡ false
word_apart one other (Word text) apart is =
    ap (λ x. bytes_eq x (str_to_ascii_lowercase other)) ((bytes_eq-Decides (str_to_ascii_lowercase text) (str_to_ascii_lowercase one)).0 is) ∙ apart
word_apart one other (Str text) apart is = refl
word_apart one other (Name text) apart is = refl
word_apart one other (Symbol byte) apart is = refl
word_apart one other Open apart is = refl

-- a token that is this sign or this keyword, as each is that raises or lowers the depth
abbrev is_bracket : ℕ → List ℕ → Token → Bool
is_bracket sign keyword token = is_symbol sign token || is_word keyword token

bracket-apart : (sign : ℕ) (one other : List ℕ) (token : Token) → str_eq_ignore_ascii_case one other ≡ false → is_bracket sign one token ≡ true
    → is_word other token ≡ false
bracket-apart sign one other (Word text) apart is = word_apart one other (Word text) apart is
bracket-apart sign one other (Str text) apart is = refl
bracket-apart sign one other (Name text) apart is = refl
bracket-apart sign one other (Symbol byte) apart is = refl
bracket-apart sign one other Open apart is = refl

apart-bracket : (sign : ℕ) (one other : List ℕ) (token : Token) → str_eq_ignore_ascii_case one other ≡ false → is_word one token ≡ true
    → is_bracket sign other token ≡ false
apart-bracket sign one other (Word text) apart is = word_apart one other (Word text) apart is
apart-bracket sign one other (Str text) apart is = refl
apart-bracket sign one other (Name text) apart is = refl
apart-bracket sign one other (Symbol byte) apart is = absurd (false≢true is)
apart-bracket sign one other Open apart is = refl

pub raises-apart : (keyword : List ℕ) (token : Token) → str_eq_ignore_ascii_case (codes "CASE") keyword ≡ false → raises token ≡ true
    → is_word keyword token ≡ false
raises-apart keyword token apart is = bracket-apart (code "(") (codes "CASE") keyword token apart is

pub lowers-apart : (keyword : List ℕ) (token : Token) → str_eq_ignore_ascii_case (codes "END") keyword ≡ false → lowers token ≡ true
    → is_word keyword token ≡ false
lowers-apart keyword token apart is = bracket-apart (code ")") (codes "END") keyword token apart is

pub apart-raises : (keyword : List ℕ) (token : Token) → str_eq_ignore_ascii_case keyword (codes "CASE") ≡ false → is_word keyword token ≡ true
    → raises token ≡ false
apart-raises keyword token apart is = apart-bracket (code "(") keyword (codes "CASE") token apart is

pub apart-lowers : (keyword : List ℕ) (token : Token) → str_eq_ignore_ascii_case keyword (codes "END") ≡ false → is_word keyword token ≡ true
    → lowers token ≡ false
apart-lowers keyword token apart is = apart-bracket (code ")") keyword (codes "END") token apart is

pub raises-alone : (token : Token) → raises token ≡ true → lowers token ≡ false
raises-alone (Word text) is = word_apart (codes "CASE") (codes "END") (Word text) refl is
raises-alone (Str text) is = refl
raises-alone (Name text) is = refl
raises-alone (Symbol byte) is = ap (λ n. lowers (Symbol n)) (eqb-true byte 40 (sym (or-false (eqb byte 40)) ∙ is))
raises-alone Open is = refl
