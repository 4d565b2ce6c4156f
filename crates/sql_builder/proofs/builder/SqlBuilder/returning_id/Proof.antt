use Rattle.sql_builder.proofs.chains.MethodLemmas as by
use Rattle.sql_builder.proofs.builder.SqlBuilder.returning_id as its

pub returning_id_spec : {M : Type 1} → its.Statement.statement M
returning_id_spec 𝓤 𝓛 𝓜 𝓡 w =
    by.returning_id 𝓤 𝓛 𝓜 𝓡 (its.Code.calls-sql_builder::builder::SqlBuilder::step_returning_id 𝓡.env w)
    (record { code = (by.refl, by.refl); closed = its.Code.unfolded 𝓤 𝓛.H 𝓜 𝓡 w }) (its.Code.calls-sql_parts::loan::release 𝓡.env w)
