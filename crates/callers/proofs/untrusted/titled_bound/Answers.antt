use Rattle.std.proofs.Common.{◌≡◌, [], ◌∷◌, ◌++◌, List, Option, None, Some, Result, Ok, Err, IfOk, IsTrue, codes, string_bytes, true, refl, subst}
use Rattle.sql_parts.specs.Tokens.{Str, Token, tokens}
use Rattle.sql_builder.proofs.for_callers.ChainLemmas.{one_semicolon}
use Rattle.callers.proofs.untrusted.titled_bound.Goals as goal

abbrev given : Option (List Token) → List Token
given None = []
given (Some found) = found

-- the values stand apart, since that computes
apart : {T E : Type 0} (r : Result T E) (found : T → List Token) (wanted : List Token)
    → IfOk r (λ s. IsTrue true → Some (found s) ≡ Some wanted) → IfOk r (λ s. found s ≡ wanted)
apart (Ok s) found wanted is = subst (λ o. found s ≡ given o) (is refl) refl
apart (Err e) found wanted is = is

pub returns-clause-tokens : goal.returns-clause-tokens
returns-clause-tokens c =
    apart c.bind.result (λ s. tokens (string_bytes s)) (tokens (codes "SELECT * FROM books WHERE title =") ++ (Str c.args.title.now ∷ tokens (codes ";")))
    c.bind.ensures.tokens

pub returns-clause-semicolon : goal.returns-clause-semicolon
returns-clause-semicolon c = one_semicolon c.bind.result (returns-clause-tokens c) refl refl
