use Rattle.sql_builder.proofs.chains.MethodLemmas as by
use Rattle.sql_builder.proofs.builder.SqlBuilder.set_field as its

pub set_field_spec : {M : Type 1} → its.Statement.statement M
set_field_spec 𝓤 𝓛 𝓜 𝓡 w S LS s d d' ms md =
    by.unary 𝓤 𝓛 𝓜 𝓡 S LS s d d' ms md (by.unary_clause by.unary_case.SetField 4 tt tt tt by.refl)
    (its.Code.calls-sql_builder::builder::SqlBuilder::step_unary 𝓡.env w)
    (record { code = (by.refl, by.refl); closed = its.Code.unfolded 𝓤 𝓛.H 𝓜 𝓡 w (S, tt) d d' }) (its.Code.calls-sql_parts::loan::release 𝓡.env w)
