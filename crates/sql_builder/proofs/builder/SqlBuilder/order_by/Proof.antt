use Rattle.sql_builder.proofs.chains.MethodLemmas as by
use Rattle.sql_builder.proofs.builder.SqlBuilder.order_by as its

pub order_by_spec : {M : Type 1} → its.Statement.statement M
order_by_spec 𝓤 𝓛 𝓜 𝓡 w S LS s d d' ms md =
    by.order 𝓤 𝓛 𝓜 𝓡 S LS s d d' ms md (its.Code.calls-sql_builder::builder::SqlBuilder::step_order 𝓡.env w)
    (record { code = (by.refl, by.refl); closed = its.Code.unfolded 𝓤 𝓛.H 𝓜 𝓡 w (S, tt) d d' }) (its.Code.calls-sql_parts::loan::release 𝓡.env w)
