-- The constants that the chain calls pass to their steps.
use Rattle.sql_builder.proofs.Imports.{refl}
use Rattle.sql_parts.proofs.chains.LoanLemmas.{Variant}
use Rattle.sql_parts.proofs.chains.VariantLemmas.{Variants, variant}
use Rattle.sql_builder.specs.contracts.condition.Family as family_enum
use Rattle.sql_builder.proofs.condition.Family.TheLaws as family_laws
use Rattle.sql_builder.specs.declared.condition.Family.TheVariants as family_case
use Rattle.sql_builder.specs.contracts.condition.Relation as relation_enum
use Rattle.sql_builder.proofs.condition.Relation.TheLaws as relation_laws
use Rattle.sql_builder.specs.declared.condition.Relation.TheVariants as relation_case
use Rattle.sql_builder.specs.contracts.condition.Percent as percent_enum
use Rattle.sql_builder.proofs.condition.Percent.TheLaws as percent_laws
use Rattle.sql_builder.specs.declared.condition.Percent.TheVariants as percent_case
use Rattle.sql_builder.specs.contracts.where_calls.Polarity as polarity_enum
use Rattle.sql_builder.proofs.where_calls.Polarity.TheLaws as polarity_laws
use Rattle.sql_builder.specs.declared.where_calls.Polarity.TheVariants as polarity_case
use Rattle.sql_builder.specs.contracts.steps.UnaryClause as unary_enum
use Rattle.sql_builder.proofs.steps.UnaryClause.TheLaws as unary_laws
use Rattle.sql_builder.specs.contracts.steps.BinaryClause as binary_enum
use Rattle.sql_builder.proofs.steps.BinaryClause.TheLaws as binary_laws
use Rattle.sql_builder.specs.contracts.steps.VariadicClause as variadic_enum
use Rattle.sql_builder.proofs.steps.VariadicClause.TheLaws as variadic_laws

abbrev pub family : Variants family_enum.the_type family_laws.the_laws
family = variant family_enum.the_type family_laws.the_laws

abbrev pub family-and : Variant family_enum.the_type
family-and = family family_case.And 0 tt tt tt refl

abbrev pub family-or : Variant family_enum.the_type
family-or = family family_case.Or 1 tt tt tt refl

abbrev pub relation : Variants relation_enum.the_type relation_laws.the_laws
relation = variant relation_enum.the_type relation_laws.the_laws

abbrev pub relation-eq : Variant relation_enum.the_type
relation-eq = relation relation_case.Eq 0 tt tt tt refl

abbrev pub relation-ne : Variant relation_enum.the_type
relation-ne = relation relation_case.Ne 1 tt tt tt refl

abbrev pub relation-gt : Variant relation_enum.the_type
relation-gt = relation relation_case.Gt 2 tt tt tt refl

abbrev pub relation-ge : Variant relation_enum.the_type
relation-ge = relation relation_case.Ge 3 tt tt tt refl

abbrev pub relation-lt : Variant relation_enum.the_type
relation-lt = relation relation_case.Lt 4 tt tt tt refl

abbrev pub relation-le : Variant relation_enum.the_type
relation-le = relation relation_case.Le 5 tt tt tt refl

abbrev pub percent : Variants percent_enum.the_type percent_laws.the_laws
percent = variant percent_enum.the_type percent_laws.the_laws

abbrev pub percent-plain : Variant percent_enum.the_type
percent-plain = percent percent_case.Plain 0 tt tt tt refl

abbrev pub percent-right : Variant percent_enum.the_type
percent-right = percent percent_case.Right 1 tt tt tt refl

abbrev pub percent-left : Variant percent_enum.the_type
percent-left = percent percent_case.Left 2 tt tt tt refl

abbrev pub percent-any : Variant percent_enum.the_type
percent-any = percent percent_case.Any 3 tt tt tt refl

abbrev pub polarity : Variants polarity_enum.the_type polarity_laws.the_laws
polarity = variant polarity_enum.the_type polarity_laws.the_laws

abbrev pub polarity-plain : Variant polarity_enum.the_type
polarity-plain = polarity polarity_case.Plain 0 tt tt tt refl

abbrev pub polarity-negated : Variant polarity_enum.the_type
polarity-negated = polarity polarity_case.Negated 1 tt tt tt refl

abbrev pub unary_clause : Variants unary_enum.the_type unary_laws.the_laws
unary_clause = variant unary_enum.the_type unary_laws.the_laws

abbrev pub binary_clause : Variants binary_enum.the_type binary_laws.the_laws
binary_clause = variant binary_enum.the_type binary_laws.the_laws

abbrev pub variadic_clause : Variants variadic_enum.the_type variadic_laws.the_laws
variadic_clause = variant variadic_enum.the_type variadic_laws.the_laws
