use Rattle.sql_builder.proofs.chains.MethodLemmas as by
use Rattle.sql_builder.proofs.builder.SqlBuilder.or_where_is_not_null as its

pub or_where_is_not_null_spec : {M : Type 1} → its.Statement.statement M
or_where_is_not_null_spec 𝓤 𝓛 𝓜 𝓡 w S LS s d d' ms md =
    by.is_not_null 𝓤 𝓛 𝓜 𝓡 S LS s d d' ms md by.family-or (its.Code.calls-sql_builder::builder::SqlBuilder::step_is_not_null 𝓡.env w)
    (record { code = (by.refl, by.refl); closed = its.Code.unfolded 𝓤 𝓛.H 𝓜 𝓡 w (S, tt) d d' }) (its.Code.calls-sql_parts::loan::release 𝓡.env w)
