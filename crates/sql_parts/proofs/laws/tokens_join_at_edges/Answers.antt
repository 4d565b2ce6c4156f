use Rattle.sql_parts.proofs.tokens.TokenFacts.{closed-seam, seam}
use Rattle.sql_parts.proofs.laws.tokens_join_at_edges.Goals as goal

pub returns : goal.returns
returns c = record { tokens = seam; closed = closed-seam }
