-- Worked rows of values by their order: what the definitions give, by computing.
use Rattle.sql_parts.proofs.Imports.{◌≡◌, ◌-◌, ◌^◌, [], ◌∷◌, Some, None, codes, map, refl, value_of, Question, Dollar}
use Rattle.sql_parts.specs.{Bare, Numbered, first_error, marks, positional_text}
use Rattle.sql_parts.specs.declared.positional.PositionalError.TheVariants.{NoNumber, NoValue}

-- the value of HAVING was bound first
text-having_first : positional_text Dollar (codes "SELECT a FROM t WHERE b = $2 GROUP BY a HAVING c > $1;")
    ≡ codes "SELECT a FROM t WHERE b = ? GROUP BY a HAVING c > ?;"
text-having_first = refl

marks-having_first : marks Dollar (codes "SELECT a FROM t WHERE b = $2 GROUP BY a HAVING c > $1;") ≡ Numbered 2 ∷ Numbered 1 ∷ []
marks-having_first = refl

values-having_first : map (value_of (codes "hw")) (marks Dollar (codes "b = $2 HAVING c > $1")) ≡ Some 119 ∷ Some 104 ∷ []
values-having_first = refl

text-string : positional_text Dollar (codes "a = '$1' AND b = $2") ≡ codes "a = '$1' AND b = ?"
text-string = refl

marks-string : marks Dollar (codes "a = 'it''s $1' AND b = $2") ≡ Numbered 2 ∷ []
marks-string = refl

marks-comment : marks Question (codes "a -- ?1\n= /* ? */ ?2 -- ?3") ≡ Numbered 2 ∷ []
marks-comment = refl

marks-name : marks Question (codes "\"?1\" = ?2 AND `?3` = [?4]") ≡ Numbered 2 ∷ []
marks-name = refl

marks-twice : marks Question (codes "a = ?1 OR b = ?1") ≡ Numbered 1 ∷ Numbered 1 ∷ []
marks-twice = refl

values-twice : map (value_of (codes "v")) (marks Question (codes "a = ?1 OR b = ?1")) ≡ Some 118 ∷ Some 118 ∷ []
values-twice = refl

marks-two_digits : marks Dollar (codes "$10,$1") ≡ Numbered 10 ∷ Numbered 1 ∷ []
marks-two_digits = refl

marks-leading_zeros : marks Question (codes "?007") ≡ Numbered 7 ∷ []
marks-leading_zeros = refl

-- a `$` behind a name, a number or a `$` is a part of it
marks-in_name : marks Dollar (codes "a$1 = 1$2 AND $$3") ≡ []
marks-in_name = refl

-- a `?` is none
marks-behind_name : marks Question (codes "a?1 1?2?3") ≡ Numbered 1 ∷ Numbered 2 ∷ Numbered 3 ∷ []
marks-behind_name = refl

text-other_style : positional_text Question (codes "a = $1 AND b = ?1") ≡ codes "a = $1 AND b = ?"
text-other_style = refl

marks-bare : marks Question (codes "a ?| '?' AND b = ?1") ≡ Bare ∷ Numbered 1 ∷ []
marks-bare = refl

marks-bare_of_other_style : marks Dollar (codes "a = ?1") ≡ Bare ∷ []
marks-bare_of_other_style = refl

marks-open_string : marks Question (codes "a = ?1 AND b = '?2") ≡ Numbered 1 ∷ []
marks-open_string = refl

error-none : first_error (codes "vw") (marks Dollar (codes "$2 $1")) ≡ None
error-none = refl

error-past_the_list : first_error (codes "vw") (marks Dollar (codes "$1 $3 ?")) ≡ Some (NoValue 3)
error-past_the_list = refl

error-zero : first_error (codes "vw") (marks Dollar (codes "$0")) ≡ Some (NoValue 0)
error-zero = refl

error-bare : first_error (codes "vw") (marks Dollar (codes "$1 ? $3")) ≡ Some NoNumber
error-bare = refl

error-great : first_error (codes "vw") (marks Question (codes "?100000000000000000000")) ≡ Some (NoValue (2 ^ 64 - 1))
error-great = refl
