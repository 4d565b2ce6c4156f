-- What a token does to the BETWEENs that wait for their AND.
use Rattle.sql_parts.proofs.Imports.{◌≡◌, ◌≢◌, refl, sym, ◌∙◌, ap, ℕ, suc, ◌+◌, ◌<◌, Bool, true, false, not, cond, ◌&&◌, ◌||◌, eqb, leb, List, [], ◌∷◌, ◌++◌}
use Rattle.sql_parts.proofs.Imports.{length, reverse, Option, Some, None, unwrap_or, MatchOption, codes, inl, inr, arith, eqb-true, eq-eqb, ne_eqb, le-leb}
use Rattle.sql_parts.proofs.Imports.{lt-leb, leb-true, leb-false, cases_Bool, same_from_decides, Decides-eqb, list_any, reverse-append, option_to_list}
use Rattle.sql_parts.proofs.Imports.{and-false, and-true, beq, or-false, or-true, Role}
use Rattle.std.proofs.lemmas.List.Sorted.{IsPermutation-reverse, list_any-IsPermutation}
use Rattle.sql_parts.specs.{Token, has_ands, is_joining, is_word, lowers, raises, weight, are_answered, is_answered, HasRole}
use Rattle.sql_parts.specs.declared.roles.Role.TheVariants as role
use Rattle.sql_parts.proofs.fragments.BetweenLemmas.{has_ands-rule, is_and}
use Rattle.sql_parts.proofs.fragments.KeywordLemmas.{apart-lowers, apart-raises, lowers-apart, raises-alone, raises-apart, word_apart}

answered-by : (height : ℕ) (token : Token) (ts : List Token) (up down and joined : Bool) → raises token ≡ up → lowers token ≡ down → is_and token ≡ and
    → is_joining token ≡ joined
    → is_answered height 0 (token ∷ ts) ≡ ((and && eqb height 0)
    || ((leb 0 height && not (joined && eqb height 0)) && is_answered (height + cond up 1 0) (0 + cond down 1 0) ts))
answered-by height token ts up down and joined u d a j = λ i. (a i && eqb height 0)
    || ((leb 0 height && not (j i && eqb height 0)) && is_answered (height + cond (u i) 1 0) (0 + cond (d i) 1 0) ts)

answered-below : (up down : ℕ) (ts : List Token) → up < down → is_answered up down ts ≡ false
answered-below up down [] less = refl
answered-below up down (token ∷ ts) less =
    (λ i. (is_and token && ne_eqb up down (λ same. absurd (omega (arith, less, same))) i)
    || ((lt-leb down up less i && not (is_joining token && eqb up down)) && is_answered (up + weight raises token) (down + weight lowers token) ts))
    ∙ (λ i. and-false (is_and token) i || false)

eqb-suc : (a b : ℕ) → eqb (suc a) (suc b) ≡ eqb a b
eqb-suc a b = same_from_decides (eqb (suc a) (suc b)) (eqb a b) (Decides-eqb (suc a) (suc b))
    (λ e. ap suc (eqb-true a b e), λ same. eq-eqb a b (omega (arith, same)))

leb-suc : (a b : ℕ) → leb (suc a) (suc b) ≡ leb a b
leb-suc a b = elim (cases_Bool (leb a b)) [
  | inl e ↦ let less = leb-true a b e in le-leb (suc a) (suc b) (omega (arith, less)) ∙ sym e
  | inr e ↦ let more = leb-false a b e in lt-leb (suc a) (suc b) (omega (arith, more)) ∙ sym e
]

add-one : (n : ℕ) → n + 1 ≡ suc n
add-one n = omega arith

add-none : (n : ℕ) → n + 0 ≡ n
add-none n = omega arith

answered-suc : (up down : ℕ) (ts : List Token) → is_answered (suc up) (suc down) ts ≡ is_answered up down ts
answered-suc up down [] = refl
answered-suc up down (token ∷ ts) =
    let more : suc up + weight raises token ≡ suc (up + weight raises token) = omega arith in
    let less : suc down + weight lowers token ≡ suc (down + weight lowers token) = omega arith in
    (λ i. (is_and token && eqb-suc up down i) || ((leb-suc down up i && not (is_joining token && eqb-suc up down i)) && is_answered (more i) (less i) ts))
    ∙ (λ i. (is_and token && eqb up down) || ((leb down up && not (is_joining token && eqb up down))
    && answered-suc (up + weight raises token) (down + weight lowers token) ts i))

-- none of these keywords is CASE or END
raises-no-and : (token : Token) → raises token ≡ true → is_and token ≡ false
raises-no-and token up = raises-apart (codes "AND") token refl up

raises-no-join : (token : Token) → raises token ≡ true → is_joining token ≡ false
raises-no-join token up = λ i. raises-apart (codes "OR") token refl up i
    || (raises-apart (codes "AND") token refl up i || (raises-apart (codes "BETWEEN") token refl up i || false))

lowers-no-and : (token : Token) → lowers token ≡ true → is_and token ≡ false
lowers-no-and token down = lowers-apart (codes "AND") token refl down

lowers-no-join : (token : Token) → lowers token ≡ true → is_joining token ≡ false
lowers-no-join token down = λ i. lowers-apart (codes "OR") token refl down i
    || (lowers-apart (codes "AND") token refl down i || (lowers-apart (codes "BETWEEN") token refl down i || false))

high : (height : ℕ) → leb 0 height ≡ true
high height = le-leb 0 height (omega arith)

answered-up : (height : ℕ) (token : Token) (ts : List Token) → raises token ≡ true → is_answered height 0 (token ∷ ts) ≡ is_answered (suc height) 0 ts
answered-up height token ts up =
    answered-by height token ts true false false false up (raises-alone token up) (raises-no-and token up) (raises-no-join token up)
    ∙ (λ i. (high height i && true) && is_answered (add-one height i) 0 ts)

answered-down : (height : ℕ) (token : Token) (ts : List Token) → raises token ≡ false → lowers token ≡ true
    → is_answered (suc height) 0 (token ∷ ts) ≡ is_answered height 0 ts
answered-down height token ts up down =
    answered-by (suc height) token ts false true false false up down (lowers-no-and token down) (lowers-no-join token down)
    ∙ (λ i. (high (suc height) i && true) && is_answered (add-none (suc height) i) 1 ts)
    ∙ answered-suc height 0 ts

answered-out : (token : Token) (ts : List Token) → raises token ≡ false → lowers token ≡ true → is_answered 0 0 (token ∷ ts) ≡ false
answered-out token ts up down =
    answered-by 0 token ts false true false false up down (lowers-no-and token down) (lowers-no-join token down)
    ∙ answered-below 0 1 ts (omega arith)

flat-lemma : (and joined : Bool) (height : ℕ) (ts : List Token)
    → ((and && eqb (suc height) 0) || ((leb 0 (suc height) && not (joined && eqb (suc height) 0)) && is_answered (suc height + 0) 0 ts))
    ≡ is_answered (suc height) 0 ts
flat-lemma and joined height ts =
    let other = ne_eqb (suc height) 0 (λ same. absurd (omega (arith, same))) in
    (λ i. (and && other i) || ((high (suc height) i && not (joined && other i)) && is_answered (add-none (suc height) i) 0 ts))
    ∙ (λ i. and-false and i || (not (and-false joined i) && is_answered (suc height) 0 ts))

answered-flat : (height : ℕ) (token : Token) (ts : List Token) → raises token ≡ false → lowers token ≡ false
    → is_answered (suc height) 0 (token ∷ ts) ≡ is_answered (suc height) 0 ts
answered-flat height token ts up down =
    answered-by (suc height) token ts false false (is_and token) (is_joining token) up down refl refl
    ∙ flat-lemma (is_and token) (is_joining token) height ts

answered-here : (token : Token) (ts : List Token) (and joined : Bool) → raises token ≡ false → lowers token ≡ false → is_and token ≡ and
    → is_joining token ≡ joined
    → is_answered 0 0 (token ∷ ts) ≡ (and || (not joined && is_answered 0 0 ts))
answered-here token ts true joined up down a j = answered-by 0 token ts false false true joined up down a j
answered-here token ts false true up down a j = answered-by 0 token ts false false false true up down a j
answered-here token ts false false up down a j = answered-by 0 token ts false false false false up down a j

-- all that wait at a depth or outside it
are-up : (height : ℕ) (open_ranges : List Bool) (token : Token) (ts : List Token) → raises token ≡ true
    → are_answered height open_ranges (token ∷ ts) ≡ are_answered (suc height) open_ranges ts
are-up height [] token ts up = refl
are-up height (waits ∷ outside) token ts up = λ i. (not waits || answered-up height token ts up i) && are-up (suc height) outside token ts up i

are-down : (height : ℕ) (open_ranges : List Bool) (token : Token) (ts : List Token) → raises token ≡ false → lowers token ≡ true
    → are_answered (suc height) open_ranges (token ∷ ts) ≡ are_answered height open_ranges ts
are-down height [] token ts up down = refl
are-down height (waits ∷ outside) token ts up down = λ i. (not waits || answered-down height token ts up down i)
    && are-down (suc height) outside token ts up down i

are-flat : (height : ℕ) (open_ranges : List Bool) (token : Token) (ts : List Token) → raises token ≡ false → lowers token ≡ false
    → are_answered (suc height) open_ranges (token ∷ ts) ≡ are_answered (suc height) open_ranges ts
are-flat height [] token ts up down = refl
are-flat height (waits ∷ outside) token ts up down = λ i. (not waits || answered-flat height token ts up down i)
    && are-flat (suc height) outside token ts up down i

-- those that wait, and those of the tokens
abbrev pub all_from : List Bool → List Token → Bool
all_from open_ranges ts = are_answered 0 open_ranges ts && has_ands ts

no-between : (token : Token) (ts : List Token) → is_word (codes "BETWEEN") token ≡ false → has_ands (token ∷ ts) ≡ has_ands ts
no-between token ts none = has_ands-rule token ts ∙ (λ i. (not (none i) || is_answered 0 0 ts) && has_ands ts)

pub all-up : (open_ranges : List Bool) (token : Token) (ts : List Token) → raises token ≡ true
    → all_from open_ranges (token ∷ ts) ≡ all_from (false ∷ open_ranges) ts
all-up open_ranges token ts up = λ i. are-up 0 open_ranges token ts up i && no-between token ts (raises-apart (codes "BETWEEN") token refl up) i

none-left : (waits rest : Bool) → (((not waits || false) && true) && rest) ≡ (not waits && rest)
none-left waits rest = grind arith

out-left : (waits outside rest : Bool) → (((not waits || false) && outside) && rest) ≡ (not waits && (outside && rest))
out-left waits outside rest = grind arith

pub all-bottom : (waits : Bool) (token : Token) (ts : List Token) → raises token ≡ false → lowers token ≡ true
    → all_from (waits ∷ []) (token ∷ ts) ≡ (not waits && all_from (false ∷ []) ts)
all-bottom waits token ts up down =
    (λ i. ((not waits || answered-out token ts up down i) && true) && no-between token ts (lowers-apart (codes "BETWEEN") token refl down) i)
    ∙ none-left waits (has_ands ts)

pub all-down : (waits : Bool) (outside : List Bool) (token : Token) (ts : List Token) → raises token ≡ false → lowers token ≡ true
    → all_from (waits ∷ outside) (token ∷ ts) ≡ (not waits && all_from outside ts)
all-down waits outside token ts up down =
    (λ i. ((not waits || answered-out token ts up down i) && are-down 0 outside token ts up down i)
    && no-between token ts (lowers-apart (codes "BETWEEN") token refl down) i)
    ∙ out-left waits (are_answered 0 outside ts) (has_ands ts)

-- any other token
all-flat : (waits : Bool) (outside : List Bool) (token : Token) (ts : List Token) (and joined between : Bool) → raises token ≡ false → lowers token ≡ false
    → is_and token ≡ and → is_joining token ≡ joined → is_word (codes "BETWEEN") token ≡ between
    → all_from (waits ∷ outside) (token ∷ ts)
    ≡ (((not waits || (and || (not joined && is_answered 0 0 ts))) && are_answered 1 outside ts) && ((not between || is_answered 0 0 ts) && has_ands ts))
all-flat waits outside token ts and joined between up down a j b =
    (λ i. ((not waits || answered-here token ts and joined up down a j i) && are-flat 0 outside token ts up down i) && has_ands-rule token ts i)
    ∙ (λ i. ((not waits || (and || (not joined && is_answered 0 0 ts))) && are_answered 1 outside ts) && ((not (b i) || is_answered 0 0 ts) && has_ands ts))

pub all-and : (waits : Bool) (outside : List Bool) (token : Token) (ts : List Token) → is_and token ≡ true
    → all_from (waits ∷ outside) (token ∷ ts) ≡ all_from (false ∷ outside) ts
all-and waits outside token ts is =
    all-flat waits outside token ts true (is_joining token) false (apart-raises (codes "AND") token refl is) (apart-lowers (codes "AND") token refl is) is
    refl (word_apart (codes "AND") (codes "BETWEEN") token refl is)
    ∙ (λ i. (or-true (not waits) i && are_answered 1 outside ts) && has_ands ts)

joined-left : (waits between here outside rest : Bool)
    → (((not waits || false) && outside) && ((not between || here) && rest)) ≡ (not waits && (((not between || here) && outside) && rest))
joined-left waits between here outside rest = grind arith

-- an OR, or a BETWEEN
pub all-joined : (waits : Bool) (outside : List Bool) (token : Token) (ts : List Token) (between : Bool) → raises token ≡ false → lowers token ≡ false
    → is_and token ≡ false → is_joining token ≡ true → is_word (codes "BETWEEN") token ≡ between
    → all_from (waits ∷ outside) (token ∷ ts) ≡ (not waits && all_from (between ∷ outside) ts)
all-joined waits outside token ts between up down a j b =
    all-flat waits outside token ts false true between up down a j b
    ∙ joined-left waits between (is_answered 0 0 ts) (are_answered 1 outside ts) (has_ands ts)

pub all-other : (waits : Bool) (outside : List Bool) (token : Token) (ts : List Token) → raises token ≡ false → lowers token ≡ false → is_and token ≡ false
    → is_joining token ≡ false → is_word (codes "BETWEEN") token ≡ false
    → all_from (waits ∷ outside) (token ∷ ts) ≡ all_from (waits ∷ outside) ts
all-other waits outside token ts up down a j b = all-flat waits outside token ts false false false up down a j b

-- the depths outside, as they are stored: the innermost is last
pub pushed : (waits : Bool) (outside more : List Bool) → more ≡ outside ++ waits ∷ [] → reverse more ≡ waits ∷ reverse outside
pushed waits outside more is = ap reverse is ∙ reverse-append outside (waits ∷ [])

pub popped : (waits : Bool) (last : Option Bool) (outside left : List Bool) (long short : ℕ) (token : Token) (ts : List Token) → raises token ≡ false
    → lowers token ≡ true
    → outside ≡ left ++ option_to_list last → long ≡ length outside → MatchOption last ((long ≡ 0) × (short ≡ 0)) (λ _. short + 1 ≡ long)
    → (not waits && all_from (unwrap_or last false ∷ reverse left) ts) ≡ all_from (waits ∷ reverse outside) (token ∷ ts)
popped waits (Some last) outside left long short token ts up down is all some =
    sym (ap (λ o. all_from (waits ∷ o) (token ∷ ts)) (pushed last left outside is) ∙ all-down waits (last ∷ reverse left) token ts up down)
popped waits None outside [] long short token ts up down is all none =
    sym (ap (λ o. all_from (waits ∷ reverse o) (token ∷ ts)) is ∙ all-bottom waits token ts up down)
popped waits None outside (other ∷ left) long short token ts up down is all none =
    let some : length outside ≡ suc (length (left ++ [])) = ap length is in absurd (omega (arith, all, none.0, some))

not-or : (one other : Bool) → (not one && not other) ≡ not (one || other)
not-or one other = grind arith

are-empty : (height : ℕ) (open_ranges : List Bool) → are_answered height open_ranges [] ≡ not (list_any (λ waits. waits) open_ranges)
are-empty height [] = refl
are-empty height (waits ∷ outside) = (λ i. or-false (not waits) i && are-empty (suc height) outside i) ∙ not-or waits (list_any (λ waits. waits) outside)

is-true : (waits : Bool) → beq waits true ≡ waits
is-true true = refl
is-true false = refl

-- where no token is left, none may wait
pub none-waits : (waits : Bool) (outside : List Bool) → (not waits && not (list_any (λ other. beq other true) outside)) ≡ all_from (waits ∷ reverse outside) []
none-waits waits outside =
    (λ i. not waits && not (list_any (λ other. is-true other i) outside))
    ∙ (λ i. not waits && not (list_any-IsPermutation (λ other. other) outside (reverse outside) (IsPermutation-reverse outside) i))
    ∙ not-or waits (list_any (λ other. other) (reverse outside))
    ∙ sym (and-true (are_answered 0 (waits ∷ reverse outside) []) ∙ are-empty 0 (waits ∷ reverse outside))

-- a token with any other role changes nothing
pub unmoved : (waits : Bool) (outside : List Bool) (one : Role) (token : Token) (ts : List Token) → HasRole one token
    → one ≢ role.Raises → one ≢ role.Lowers → one ≢ role.And → one ≢ role.Or → one ≢ role.Between → all_from (waits ∷ outside) (token ∷ ts)
    ≡ all_from (waits ∷ outside) ts
unmoved waits outside role.Raises token ts has up down and or between = absurd (up refl)
unmoved waits outside role.Lowers token ts has up down and or between = absurd (down refl)
unmoved waits outside role.And token ts has up down and or between = absurd (and refl)
unmoved waits outside role.Or token ts has up down and or between = absurd (or refl)
unmoved waits outside role.Between token ts has up down and or between = absurd (between refl)
unmoved waits outside role.Parts token ts has up down and or between = all-other waits outside token ts has.raising has.lowering has.and has.joining has.between
unmoved waits outside role.Not token ts has up down and or between = all-other waits outside token ts has.raising has.lowering has.and has.joining has.between
unmoved waits outside role.Clause token ts has up down and or between =
    all-other waits outside token ts has.raising has.lowering has.and has.joining has.between
unmoved waits outside role.Dialect token ts has up down and or between =
    all-other waits outside token ts has.raising has.lowering has.and has.joining has.between
unmoved waits outside role.Breaks token ts has up down and or between =
    all-other waits outside token ts has.raising has.lowering has.and has.joining has.between
unmoved waits outside role.Plain token ts has up down and or between = all-other waits outside token ts has.raising has.lowering has.and has.joining has.between
