use Rattle.std.proofs.Common.{rules, ◌≡◌, ◌≢◌, ◌∙◌, ℕ, codes, eqb, false, ne_eqb, refl, sym}
use Rattle.sql_parts.proofs.fragments.KeywordLemmas.{behind, by-letter, empty-plain, front, other-plain}
use Rattle.sql_parts.specs.declared.roles.Role.TheVariants as role
use Rattle.sql_parts.proofs.roles.word_role.Goals as goal

pub returns-in_default : goal.returns-in_default
returns-in_default c = empty-plain c.args.word.now (search rules)

pub returns-in-97 : goal.returns-in-97
returns-in-97 c = by-letter 97 c.in-Some.first.now c.args.word.now _ (search rules) (sym c.to_ascii_lowercase.ensures.value ∙ c.in-97.is) c.named.ensures

pub returns-in-98 : goal.returns-in-98
returns-in-98 c = by-letter 98 c.in-Some.first.now c.args.word.now _ (search rules) (sym c.to_ascii_lowercase.ensures.value ∙ c.in-98.is) c.named-in-98.ensures

pub returns-in-99 : goal.returns-in-99
returns-in-99 c = by-letter 99 c.in-Some.first.now c.args.word.now _ (search rules) (sym c.to_ascii_lowercase.ensures.value ∙ c.in-99.is) c.named-in-99.ensures

pub returns-in-100 : goal.returns-in-100
returns-in-100 c = by-letter 100 c.in-Some.first.now c.args.word.now _ (search rules) (sym c.to_ascii_lowercase.ensures.value ∙ c.in-100.is)
    c.named-in-100.ensures

pub returns-in-101 : goal.returns-in-101
returns-in-101 c = by-letter 101 c.in-Some.first.now c.args.word.now _ (search rules) (sym c.to_ascii_lowercase.ensures.value ∙ c.in-101.is)
    (behind c.args.word.now (codes "END") role.Lowers _ _ _ c.named-in-101.ensures
    (behind c.args.word.now (codes "ELSE") role.Parts _ _ _ c.named-other-in-101.ensures c.named-other.ensures))

pub returns-in-102 : goal.returns-in-102
returns-in-102 c = by-letter 102 c.in-Some.first.now c.args.word.now _ (search rules) (sym c.to_ascii_lowercase.ensures.value ∙ c.in-102.is)
    (behind c.args.word.now (codes "FROM") role.Clause _ _ _ c.named-in-102.ensures
    (behind c.args.word.now (codes "FOR") role.Dialect _ _ _ c.named-other-in-102-2.ensures c.named-other-in-102.ensures))

pub returns-in-103 : goal.returns-in-103
returns-in-103 c = by-letter 103 c.in-Some.first.now c.args.word.now _ (search rules) (sym c.to_ascii_lowercase.ensures.value ∙ c.in-103.is)
    c.named-in-103.ensures

pub returns-in-104 : goal.returns-in-104
returns-in-104 c = by-letter 104 c.in-Some.first.now c.args.word.now _ (search rules) (sym c.to_ascii_lowercase.ensures.value ∙ c.in-104.is)
    c.named-in-104.ensures

pub returns-in-105 : goal.returns-in-105
returns-in-105 c =
    let item = c.in-Some.ensures.item in
    by-letter 105 c.in-Some.first.now c.args.word.now _ (front _ _ _ c.as_bytes.ensures.value item.3.0 (item.3.1 0)) (sym c.to_ascii_lowercase.ensures.value ∙ c.in-105.is)
    (behind c.args.word.now (codes "INSERT") role.Clause _ _ _ c.named-in-105.ensures
    (behind c.args.word.now (codes "INTO") role.Dialect _ _ _ c.named-other-in-105-2.ensures c.named-other-in-105.ensures))

pub returns-in-108 : goal.returns-in-108
returns-in-108 c = by-letter 108 c.in-Some.first.now c.args.word.now _ (search rules) (sym c.to_ascii_lowercase.ensures.value ∙ c.in-108.is)
    c.named-in-108.ensures

pub returns-in-109 : goal.returns-in-109
returns-in-109 c = by-letter 109 c.in-Some.first.now c.args.word.now _ (search rules) (sym c.to_ascii_lowercase.ensures.value ∙ c.in-109.is)
    c.named-in-109.ensures

pub returns-in-110 : goal.returns-in-110
returns-in-110 c = by-letter 110 c.in-Some.first.now c.args.word.now _ (search rules) (sym c.to_ascii_lowercase.ensures.value ∙ c.in-110.is)
    c.named-in-110.ensures

pub returns-in-111 : goal.returns-in-111
returns-in-111 c = by-letter 111 c.in-Some.first.now c.args.word.now _ (search rules) (sym c.to_ascii_lowercase.ensures.value ∙ c.in-111.is)
    (behind c.args.word.now (codes "OR") role.Or _ _ _ c.named-in-111.ensures
    (behind c.args.word.now (codes "ORDER") role.Clause _ _ _ c.named-other-in-111-2.ensures c.named-other-in-111.ensures))

pub returns-in-114 : goal.returns-in-114
returns-in-114 c = by-letter 114 c.in-Some.first.now c.args.word.now _ (search rules) (sym c.to_ascii_lowercase.ensures.value ∙ c.in-114.is)
    c.named-in-114.ensures

pub returns-in-115 : goal.returns-in-115
returns-in-115 c = by-letter 115 c.in-Some.first.now c.args.word.now _ (search rules) (sym c.to_ascii_lowercase.ensures.value ∙ c.in-115.is)
    (behind c.args.word.now (codes "SELECT") role.Clause _ _ _ c.named-in-115.ensures c.named-other-in-115.ensures)

pub returns-in-116 : goal.returns-in-116
returns-in-116 c = by-letter 116 c.in-Some.first.now c.args.word.now _ (search rules) (sym c.to_ascii_lowercase.ensures.value ∙ c.in-116.is)
    (behind c.args.word.now (codes "THEN") role.Parts _ _ _ c.named-in-116.ensures c.named-other-in-116.ensures)

pub returns-in-117 : goal.returns-in-117
returns-in-117 c = by-letter 117 c.in-Some.first.now c.args.word.now _ (search rules) (sym c.to_ascii_lowercase.ensures.value ∙ c.in-117.is)
    (behind c.args.word.now (codes "UNION") role.Clause _ _ _ c.named-in-117.ensures c.named-other-in-117.ensures)

pub returns-in-118 : goal.returns-in-118
returns-in-118 c = by-letter 118 c.in-Some.first.now c.args.word.now _ (search rules) (sym c.to_ascii_lowercase.ensures.value ∙ c.in-118.is)
    c.named-in-118.ensures

pub returns-in-119 : goal.returns-in-119
returns-in-119 c =
    let item = c.in-Some.ensures.item in
    by-letter 119 c.in-Some.first.now c.args.word.now _ (front _ _ _ c.as_bytes.ensures.value item.3.0 (item.3.1 0)) (sym c.to_ascii_lowercase.ensures.value ∙ c.in-119.is)
    (behind c.args.word.now (codes "WHEN") role.Parts _ _ _ c.named-in-119.ensures
    (behind c.args.word.now (codes "WHERE") role.Clause _ _ _ c.named-other-in-119-3.ensures
    (behind c.args.word.now (codes "WITH") role.Dialect _ _ _ c.named-other-in-119-2.ensures c.named-other-in-119.ensures)))

pub returns-in_default-to_ascii_lowercase : goal.returns-in_default-to_ascii_lowercase
returns-in_default-to_ascii_lowercase c =
    let letter = c.to_ascii_lowercase.result in
    let other : (n : ℕ) → letter ≢ n → eqb letter n ≡ false = ne_eqb letter in
    other-plain letter c.in-Some.first.now c.args.word.now (search rules) (sym c.to_ascii_lowercase.ensures.value)
    (rw (other 97 (search rules), other 98 (search rules), other 99 (search rules), other 100 (search rules), other 101 (search rules))
    (rw (other 102 (search rules), other 103 (search rules), other 104 (search rules), other 105 (search rules), other 108 (search rules), other 109 (search rules))
    (rw (other 110 (search rules), other 111 (search rules), other 114 (search rules), other 115 (search rules), other 116 (search rules))
    (rw (other 117 (search rules), other 118 (search rules), other 119 (search rules)) refl))))
