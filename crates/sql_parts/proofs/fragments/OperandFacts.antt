-- Tokens that no test of fragments distinguishes from a text between quotes make an operand: those of literals, and of names
-- between quotes.
use Rattle.sql_parts.proofs.Imports.{◌≡◌, ◌<◌, ℕ, suc, zero, ◌+◌, ◌/◌, ◌%◌, Bool, true, false, not, ◌||◌, List, [], ◌∷◌, ◌++◌, Option, Some, None, map}
use Rattle.sql_parts.proofs.Imports.{pos, negsuc, ℤ, refl, sym, ap, ◌∙◌, subst, arith, inl, inr, codes, eqb, leb, ne_eqb, append-nil, flat_map, if◌then◌else◌}
use Rattle.sql_parts.proofs.Imports.{to_ascii_lowercase, AllBelowBase, digits_of, AllByRecursion, list_all, list_any, and_from, and_parts}
use Rattle.sql_parts.proofs.Imports.{cases_Bool, false≢true, leb-true, not-true, not_from_false, or_from, or_parts, nat_tests, all_below_base_digits_of}
use Rattle.sql_parts.proofs.Imports.{digits_of_step, Form, Bare, Between, Quotes, Single, Back, Square, Double}
use Rattle.sql_parts.specs.{literal_tokens, as_placed, is_clause_word, is_joining, at_top_level, is_whole, is_word, lowers, operand, raises, LiteralValue, null}
use Rattle.sql_parts.specs.{truth, whole, words, literal_text, alias_tokens, fits_form, is_plain, name_parts, name_text, name_tokens, safe_form}
use Rattle.sql_parts.specs.Name.{Name}
use Rattle.sql_parts.specs.{safe_text, tokens_in, word_tokens, written_in, ServesAsOperand, has_operand_parts, is_bare_operand, is_fragment, is_operand_alias}
use Rattle.sql_parts.specs.{between, HasRole, bool_text, decimal_text, join_with, Token, Word, Str, Symbol, begins_with, closed, is_empty, quoted_token, tokens}
use Rattle.sql_parts.specs.declared.roles.Role.TheVariants as role
use Rattle.sql_parts.proofs.fragments.KeywordLemmas.{answers, has-role, initials, other-plain}
use Rattle.sql_parts.proofs.tokens.{name_closed, name_is, plain-tokens, safe_fits, between-tokens, between_closed, decimal-glyphs, literal-closed, literal-is}
use Rattle.sql_parts.proofs.fragments.DepthFacts.{after, change, closes_from, has_top_level, has_top_level-is, is_at_least_0, is_balanced, is_balanced-is, is_operand}
use Rattle.sql_parts.proofs.fragments.DepthFacts.{is_operand-is, is_zero, has_top_level_from}

-- a token that is no bracket, no `;` and no word that joins, negates or begins a clause, nor a quote or a comment without an end
pub record Inert (token : Token) : Type 0 where
  pub raising : raises token ≡ false
  pub lowering : lowers token ≡ false
  pub joining : is_joining token ≡ false
  pub negating : is_word (codes "NOT") token ≡ false
  pub clause : is_clause_word token ≡ false
  pub whole : is_whole token ≡ true

abbrev pub AllInert : List Token → Type 0
AllInert ts = AllByRecursion Inert ts

after-inert : (t : Token) → Inert t → after (pos 0) t ≡ pos 0
after-inert t inert = rw (inert.raising, inert.lowering) refl

inert-closes : (ts : List Token) → AllInert ts → closes_from (pos 0) ts ≡ true
inert-closes [] all = refl
inert-closes (t ∷ ts) all =
    let here = after-inert t all.0 in
    and_from _ _ (ap is_at_least_0 here) (ap (λ l. closes_from l ts) here ∙ inert-closes ts all.1)

inert-whole : (ts : List Token) → AllInert ts → list_all is_whole ts ≡ true
inert-whole [] all = refl
inert-whole (t ∷ ts) all = and_from _ _ all.0.whole (inert-whole ts all.1)

inert-none : (test : Token → Bool) → ((t : Token) → Inert t → test t ≡ false) → (ts : List Token) → AllInert ts → list_any test ts ≡ false
inert-none test none [] all = refl
inert-none test none (t ∷ ts) all = or_from _ _ (none t all.0) (inert-none test none ts all.1)

-- what no token is, no top-level token is
top_level-none : (test : Token → Bool) (at_top : Bool) (t : Token) → test t ≡ false → at_top_level test (as_placed at_top t) ≡ false
top_level-none test true t none = none
top_level-none test false t none = refl

none-top_level : (test : Token → Bool) (l : ℤ) (ts : List Token) → list_any test ts ≡ false → has_top_level_from test l ts ≡ false
none-top_level test l [] none = refl
none-top_level test l (t ∷ ts) none =
    let both = or_parts (test t) (list_any test ts) none in
    or_from _ _ (top_level-none test (is_zero l) t both.0) (none-top_level test (after l t) ts both.1)

no_not : (ts : List Token) → AllInert ts → begins_with (is_word (codes "NOT")) ts ≡ false
no_not [] all = refl
no_not (t ∷ ts) all = all.0.negating

-- a text of such tokens, one at least
inert-balanced : (ts : List Token) → not (is_empty ts) ≡ true → AllInert ts → is_balanced ts ≡ true
inert-balanced ts some all = and_from _ _ some (and_from _ _ (inert-whole ts all) (inert-closes ts all))

inert-operand : (ts : List Token) → not (is_empty ts) ≡ true → AllInert ts → is_operand ts ≡ true
inert-operand ts some all =
    and_from _ _ (inert-balanced ts some all)
    (and_from _ _ (not_from_false _ (none-top_level is_joining (pos 0) ts (inert-none is_joining (λ t inert. inert.joining) ts all)))
    (not_from_false _ (no_not ts all)))

pub serves : (text : List ℕ) (ts : List Token) → tokens text ≡ ts → not (is_empty ts) ≡ true → AllInert ts → closed text ≡ true → ServesAsOperand text
serves text ts are some all shut = record {
  is_operand = is_operand-is (tokens text) ∙ ap is_operand are ∙ inert-operand ts some all;
  is_balanced = is_balanced-is (tokens text) ∙ ap is_balanced are ∙ inert-balanced ts some all;
  is_closed = shut;
  no_clause_word =
      not_from_false _ (has_top_level-is is_clause_word (tokens text) ∙ ap (has_top_level is_clause_word) are
      ∙ none-top_level is_clause_word (pos 0) ts (inert-none is_clause_word (λ t inert. inert.clause) ts all));
}

-- ---- literals

-- what no test of fragments distinguishes from a text between quotes
plain-inert : (t : Token) → HasRole role.Plain t → Inert t
plain-inert t plain = record {
  raising = plain.raising;
  lowering = plain.lowering;
  joining = plain.joining;
  negating = plain.not;
  clause = plain.clause;
  whole = plain.whole;
}

pub inert : (t : Token) → answers t ≡ answers (Str []) → Inert t
inert t same = plain-inert t (has-role role.Plain t same)

none-below : (n least : ℕ) (others : List ℕ) → n < least → list_all (leb least) others ≡ true → list_any (eqb n) others ≡ false
none-below n least [] less all = refl
none-below n least (other ∷ others) less all =
    let both = and_parts (leb least other) (list_all (leb least) others) all in
    let above = leb-true least other both.0 in
    or_from _ _ (ne_eqb n other (λ e. omega (arith, less, above, e))) (none-below n least others less both.1)

-- a word that begins with a digit
digit-inert : (byte : ℕ) (text : List ℕ) → byte < 58 → Inert (Word (byte ∷ text))
digit-inert byte text small =
    let low : to_ascii_lowercase byte ≡ byte = grind (arith, nat_tests, small) in
    plain-inert (Word (byte ∷ text)) (other-plain byte byte (byte ∷ text) refl low (none-below byte 97 initials (omega (arith, small)) refl))

-- a decimal text does
abbrev BeginsLow : List ℕ → Type 0
BeginsLow text = (byte : ℕ) × (rest : List ℕ) × (text ≡ byte ∷ rest) × (byte < 58)

glyphs-low : (digits : List ℕ) → AllBelowBase 10 digits → not (is_empty digits) ≡ true → BeginsLow (map (λ digit. 48 + digit) digits)
glyphs-low [] small some = absurd (false≢true some)
glyphs-low (digit ∷ digits) small some = let here = small.0 in (_, _, refl, omega (arith, here))

some-behind : (front : List ℕ) (last : ℕ) → not (is_empty (front ++ last ∷ [])) ≡ true
some-behind [] last = refl
some-behind (digit ∷ front) last = refl

decimal-low : (n : ℕ) → BeginsLow (decimal_text (suc n))
decimal-low n =
    let front = digits_of 10 (suc n / 10) in
    let last = suc n % 10 in
    let digits : digits_of 10 (suc n) ≡ front ++ last ∷ [] = digits_of_step 10 (suc n) (omega arith) (omega arith) in
    let found = glyphs-low (digits_of 10 (suc n)) (all_below_base_digits_of 10 (suc n) (omega arith))
    (ap (λ ds. not (is_empty ds)) digits ∙ some-behind front last) in
    (found.0, found.1, decimal-glyphs n ∙ found.2, found.3)

low-inert : (text : List ℕ) → BeginsLow text → Inert (Word text)
low-inert text low = subst (λ t. Inert (Word t)) (sym low.2) (digit-inert low.0 low.1 low.3)

pub decimal-inert : (n : ℕ) → Inert (Word (decimal_text n))
decimal-inert zero = digit-inert 48 [] (omega arith)
decimal-inert (suc n) = low-inert (decimal_text (suc n)) (decimal-low n)

literal-inert : (literal : LiteralValue) → AllInert (literal_tokens literal)
literal-inert null = (inert _ refl, tt)
literal-inert (truth true) = (inert _ refl, tt)
literal-inert (truth false) = (inert _ refl, tt)
literal-inert (whole (pos n)) = (decimal-inert n, tt)
literal-inert (whole (negsuc n)) = (inert _ refl, (decimal-inert (suc n), tt))
literal-inert (words text) = (inert _ refl, tt)

literal-some : (literal : LiteralValue) → not (is_empty (literal_tokens literal)) ≡ true
literal-some null = refl
literal-some (truth value) = refl
literal-some (whole (pos n)) = refl
literal-some (whole (negsuc n)) = refl
literal-some (words text) = refl

-- the text of a literal
pub literal-serves : (literal : LiteralValue) → ServesAsOperand (literal_text literal)
literal-serves literal = serves (literal_text literal) (literal_tokens literal) (literal-is literal) (literal-some literal) (literal-inert literal)
    (literal-closed literal)

-- a truth value as `ToText` writes it
pub bool-serves : (value : Bool) → ServesAsOperand (bool_text value)
bool-serves true = record { is_operand = refl; is_balanced = refl; is_closed = refl; no_clause_word = refl }
bool-serves false = record { is_operand = refl; is_balanced = refl; is_closed = refl; no_clause_word = refl }

-- an operand is a fragment
pub is-fragment : {text : List ℕ} → ServesAsOperand text → is_fragment text ≡ true
is-fragment operand = and_from _ _ operand.is_balanced operand.no_clause_word

-- ---- names

append-inert : (a b : List Token) → AllInert a → AllInert b → AllInert (a ++ b)
append-inert [] b one other = other
append-inert (t ∷ a) b one other = (one.0, append-inert a b one.1 other)

dotted-inert : (items : List (List Token)) → AllByRecursion AllInert items → AllInert (flat_map (λ item. Symbol 46 ∷ item) items)
dotted-inert [] all = tt
dotted-inert (item ∷ items) all = (inert _ refl, append-inert item (flat_map (λ i. Symbol 46 ∷ i) items) all.0 (dotted-inert items all.1))

quoted-inert : (quotes : Quotes) (text : List ℕ) → Inert (quoted_token quotes text)
quoted-inert Single text = inert _ refl
quoted-inert Back text = inert _ refl
quoted-inert Square text = inert _ refl
quoted-inert Double text = inert _ refl

-- a text between quotes
pub between-serves : (quotes : Quotes) (text : List ℕ) → ServesAsOperand (between quotes text)
between-serves quotes text =
    serves (between quotes text) (quoted_token quotes text ∷ []) (between-tokens quotes text) refl (quoted-inert quotes text, tt)
    (between_closed quotes text _ refl)

parts-between : (quotes : Quotes) (parts : List (List ℕ)) → AllByRecursion AllInert (map (tokens_in (Between quotes)) parts)
parts-between quotes [] = tt
parts-between quotes (part ∷ parts) = ((quoted-inert quotes part, tt), parts-between quotes parts)

-- a word that is an operand by itself, without a clause word
no-change : (up down : Bool) → is_zero (change up down (pos 0)) ≡ true → (up ≡ false) × (down ≡ false)
no-change true down h = absurd (false≢true h)
no-change false true h = absurd (false≢true h)
no-change false false h = (refl, refl)

token-inert : (t : Token) → is_operand (t ∷ []) ≡ true → not (has_top_level is_clause_word (t ∷ [])) ≡ true → Inert t
token-inert t operand none =
    let parts = and_parts (is_balanced (t ∷ [])) _ operand in
    let even = and_parts (list_all is_whole (t ∷ [])) (closes_from (pos 0) (t ∷ [])) parts.0 in
    let words = and_parts (not (has_top_level is_joining (t ∷ []))) _ parts.1 in
    let change = no-change (raises t) (lowers t) (and_parts (is_at_least_0 (after (pos 0) t)) (is_zero (after (pos 0) t)) even.1).1 in
    record {
      raising = change.0;
      lowering = change.1;
      joining = (or_parts (is_joining t) false (not-true _ words.0)).0;
      negating = not-true _ words.1;
      clause = (or_parts (is_clause_word t) false (not-true _ none)).0;
      whole = (and_parts (is_whole t) true even.0).0;
    }

bare-inert : (text : List ℕ) → is_plain text ≡ true → is_bare_operand text ≡ true → (AllInert (word_tokens text)) × (not (is_empty (word_tokens text)) ≡ true)
bare-inert [] plain bare = absurd (false≢true bare)
bare-inert (byte ∷ text) plain bare =
    let both = and_parts (operand (byte ∷ text)) _ bare in
    let are = plain-tokens (byte ∷ text) plain in (
      (
        token-inert (Word (byte ∷ text))
            (ap is_operand (sym are) ∙ sym (is_operand-is (tokens (byte ∷ text))) ∙ both.0)
            (ap (λ ts. not (has_top_level is_clause_word ts)) (sym are) ∙ ap not (sym (has_top_level-is is_clause_word (tokens (byte ∷ text)))) ∙ both.1),
        tt,
      ),
      refl,
    )

parts-bare : (parts : List (List ℕ)) → list_all is_plain parts ≡ true → list_all is_bare_operand parts ≡ true
    → AllByRecursion AllInert (map (tokens_in Bare) parts)
parts-bare [] plain bare = tt
parts-bare (part ∷ parts) plain bare =
    let are = and_parts (is_plain part) (list_all is_plain parts) plain in
    let both = and_parts (is_bare_operand part) (list_all is_bare_operand parts) bare in
    ((bare-inert part are.0 both.0).0, parts-bare parts are.1 both.1)

-- an alias
alias-inert : (alias : Option (List ℕ)) → is_operand_alias alias ≡ true → AllInert (alias_tokens alias)
alias-inert None fits = tt
alias-inert (Some alias) fits = (
  inert _ refl,
  elim (cases_Bool (is_plain alias)) [
    | inl plain ↦ rw plain ((bare-inert alias plain (or_so plain fits)).0)
    | inr isnt ↦ rw isnt ((inert _ refl, tt))
  ],
)
  where
    or_so : is_plain alias ≡ true → (not (is_plain alias) || is_bare_operand alias) ≡ true → is_bare_operand alias ≡ true
    or_so plain fits = ap (λ b. not b || is_bare_operand alias) (sym plain) ∙ fits

-- a name whose parts are so written
record Parts (form : Form) (name : Name) : Type 0 where
  some : not (is_empty (tokens_in form name.first)) ≡ true
  inert_parts : AllByRecursion AllInert (map (tokens_in form) (name_parts name))

some-front : (a b : List Token) → not (is_empty a) ≡ true → not (is_empty (a ++ b)) ≡ true
some-front [] b some = absurd (false≢true some)
some-front (t ∷ a) b some = refl

name-serves : (form : Form) (name : Name) → fits_form form (name_parts name) ≡ true → Parts form name → is_operand_alias name.alias ≡ true
    → ServesAsOperand (name_text (written_in form) name)
name-serves form name fits parts alias =
    let first = tokens_in form name.first in
    let rest = flat_map (λ item. Symbol 46 ∷ item) (map (tokens_in form) name.rest) in
    serves (name_text (written_in form) name) (name_tokens (tokens_in form) name) (name_is form name _ refl fits)
    (some-front (first ++ rest) (alias_tokens name.alias) (some-front first rest parts.some))
    (append-inert (first ++ rest) (alias_tokens name.alias)
    (append-inert first rest parts.inert_parts.0 (dotted-inert (map (tokens_in form) name.rest) parts.inert_parts.1)) (alias-inert name.alias alias))
    (name_closed form name _ refl fits)

-- a name whose parts are between quotes
between-parts : (quotes : Quotes) (name : Name) → Parts (Between quotes) name
between-parts quotes name = record { some = refl; inert_parts = parts-between quotes (name_parts name) }

pub quoted-name-serves : (quotes : Quotes) (name : Name) → is_operand_alias name.alias ≡ true → ServesAsOperand (name_text (between quotes) name)
quoted-name-serves quotes name alias = name-serves (Between quotes) name refl (between-parts quotes name) alias

-- the parts between quotes, without an alias
pub parts-serve : (quotes : Quotes) (name : Name) → ServesAsOperand (join_with (codes ".") (map (between quotes) (name_parts name)))
parts-serve quotes name =
    subst ServesAsOperand (append-nil (join_with (codes ".") (map (between quotes) (name_parts name))))
    (quoted-name-serves quotes (record { first = name.first; rest = name.rest; alias = None }) refl)

-- a name in its safe form
bare-parts : (name : Name) → list_all is_plain (name_parts name) ≡ true → list_all is_bare_operand (name_parts name) ≡ true → Parts Bare name
bare-parts name plain bare = record {
  some = (bare-inert name.first (and_parts (is_plain name.first) _ plain).0 (and_parts (is_bare_operand name.first) _ bare).0).1;
  inert_parts = parts-bare (name_parts name) plain bare;
}

safe-parts : (plain : Bool) (name : Name) → list_all is_plain (name_parts name) ≡ plain → (not plain || list_all is_bare_operand (name_parts name)) ≡ true
    → Parts (if plain then Bare else Between Back) name
safe-parts true name plain bare = bare-parts name plain bare
safe-parts false name isnt bare = between-parts Back name

pub safe-name-serves : (name : Name) → has_operand_parts name ≡ true → is_operand_alias name.alias ≡ true → ServesAsOperand (safe_text name)
safe-name-serves name parts alias = name-serves (safe_form name) name (safe_fits name) (safe-parts (list_all is_plain (name_parts name)) name refl parts) alias
