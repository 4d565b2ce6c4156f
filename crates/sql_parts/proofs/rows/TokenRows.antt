-- Worked rows of tokens: what the definitions give, by computing.
use Rattle.sql_parts.proofs.Imports.{code, ◌≡◌, true, false, [], ◌∷◌, codes, refl, Name}
use Rattle.sql_parts.specs.{apart, Word, Str, Symbol, Open, tokens, closed, has_semicolon}
use Rattle.sql_parts.specs.Templates as marks

closed-comment_without_end : closed (codes "a -- b") ≡ false
closed-comment_without_end = refl

closed-star_shared : closed (codes "/*/") ≡ false
closed-star_shared = refl

closed-quoted : closed (codes "'it''s'") ≡ true
closed-quoted = refl

has_semicolon-bare : has_semicolon (codes "a;b") ≡ true
has_semicolon-bare = refl

has_semicolon-quoted : has_semicolon (codes "';'") ≡ false
has_semicolon-quoted = refl

tokens-comment_between : tokens (codes "a/**/b") ≡ Word (codes "a") ∷ Word (codes "b") ∷ []
tokens-comment_between = refl

tokens-number : tokens (codes "0.1") ≡ Word (codes "0") ∷ Symbol (code ".") ∷ Word (codes "1") ∷ []
tokens-number = refl

tokens-at_most : tokens (codes "<=") ≡ Symbol (code "<") ∷ Symbol (code "=") ∷ []
tokens-at_most = refl

tokens-bracket : tokens (codes "[]]]") ≡ Name (codes "]") ∷ []
tokens-bracket = refl

tokens-mask : tokens (codes "t LIKE '%50%''%'") ≡ Word (codes "t") ∷ Word (codes "LIKE") ∷ Str (codes "%50%'%") ∷ []
tokens-mask = refl

tokens-open : tokens (codes "a 'b") ≡ Word (codes "a") ∷ Open ∷ []
tokens-open = refl

tokens-statement : tokens (codes "select \"a\"\"b\", 'x' from t -- c\n where `q` = [w] and w <> -1 /* ** / */;")
    ≡ Word (codes "select") ∷ Name (codes "a\"b") ∷ Symbol (code ",") ∷ Str (codes "x") ∷ Word (codes "from") ∷ Word (codes "t")
    ∷ Word (codes "where") ∷ Name (codes "q") ∷ Symbol (code "=") ∷ Name (codes "w") ∷ Word (codes "and") ∷ Word (codes "w")
    ∷ Symbol (code "<") ∷ Symbol (code ">") ∷ Symbol (code "-") ∷ Word (codes "1") ∷ Symbol (code ";") ∷ []
tokens-statement = refl

apart-cycle : apart (codes "x = ? AND y = ?") (marks.Cycle 2) ≡ true
apart-cycle = refl

apart-in_quotes : apart (codes "'?'") (marks.First) ≡ false
apart-in_quotes = refl

apart-past_the_list : apart (codes "a$1") (marks.Nums 0) ≡ true
apart-past_the_list = refl
