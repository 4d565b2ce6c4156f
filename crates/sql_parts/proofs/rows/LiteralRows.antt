-- Worked rows: what the definitions give, by computing.
use Rattle.sql_parts.proofs.Imports.{◌≡◌, ◌^◌, ◌-◌, negsuc, Some, true, codes, refl, ◌∷◌, arith, ap, sym, ◌∙◌, decimal}
use Rattle.std.specs.Fmt.{digits}
use Rattle.sql_parts.proofs.bytes.{unsigned_text}
use Rattle.sql_parts.specs.{literal_or_null, literal_text, literal_value, null, whole, words, baquoted, brquoted, dquoted, escaped, quoted, bool_text}
use Rattle.sql_parts.specs.declared.arg.Literal.TheVariants.{Whole}

dquoted-delimiter : dquoted (codes "a\"b") ≡ codes "\"a\"\"b\""
dquoted-delimiter = refl

brquoted-awesome : brquoted (codes "Hello, [awesome] World") ≡ codes "[Hello, [awesome]] World]"
brquoted-awesome = refl

baquoted-delimiter : baquoted (codes "a`b") ≡ codes "`a``b`"
baquoted-delimiter = refl

escaped-world : escaped (codes "Hello, 'World'") ≡ codes "Hello, ''World''"
escaped-world = refl

quoted-world : quoted (codes "Hello, 'World'") ≡ codes "'Hello, ''World'''"
quoted-world = refl

bool_text-true : bool_text true ≡ codes "true"
bool_text-true = refl

least : decimal (2 ^ 127) ≡ codes "170141183460469231731687303715884105728"
unfolding digits
least = refl

literal_text-least : literal_text (whole (negsuc (2 ^ 127 - 1))) ≡ codes "-170141183460469231731687303715884105728"
literal_text-least = ap (λ text. 45 ∷ text) (sym (unsigned_text (2 ^ 127) (omega arith)) ∙ least)

literal_text-null : literal_text null ≡ codes "NULL"
literal_text-null = refl

literal_text-some : literal_text (literal_or_null words (Some (codes "foo"))) ≡ codes "'foo'"
literal_text-some = refl

literal_text-whole : literal_text (literal_value (Whole (negsuc 4))) ≡ codes "-5"
literal_text-whole = refl
