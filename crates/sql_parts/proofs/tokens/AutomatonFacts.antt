-- The tokens of a text, read byte by byte: what the law of seams is proved by.
use Rattle.sql_parts.proofs.Imports.{code, ℕ, List, [], ◌∷◌, ◌++◌, ◌==◌, if◌then◌else◌, Quotes, Single, Back, Square, Double}
use Rattle.sql_parts.specs.{closing, Token, Word, Symbol, Open, is_blank, is_word_byte, quoted_token}

-- Where the reader is: between two tokens, in a word, in quotes, behind what may be their closing delimiter, behind what may
-- begin a comment, in a comment, or behind what may end it. What is read of a token is stored.
pub data Mode : Type 0 where
  Between : Mode
  InWord : List ℕ → Mode
  InQuotes : Quotes → List ℕ → Mode
  AtDelimiter : Quotes → List ℕ → Mode
  AtDash : Mode
  AtSlash : Mode
  InLine : Mode
  InBlock : Mode
  AtStar : Mode

-- a byte that begins anew: the tokens that are whole with it, and where the reader is then
abbrev pub start : ℕ → List Token × Mode
start byte =
    if is_blank byte then ([], Between)
    else (if byte == code "-" then ([], AtDash)
    else (if byte == code "/" then ([], AtSlash)
    else (if byte == code "'" then ([], InQuotes Single [])
    else (if byte == code "\"" then ([], InQuotes Double [])
    else (if byte == code "`" then ([], InQuotes Back [])
    else (if byte == code "[" then ([], InQuotes Square [])
    else (if is_word_byte byte then ([], InWord (byte ∷ []))
    else (Symbol byte ∷ [], Between))))))))

abbrev pub behind_token : Token → List Token × Mode → List Token × Mode
behind_token token given = (token ∷ given.0, given.1)

-- a byte behind what was read before
abbrev pub step : Mode → ℕ → List Token × Mode
step Between byte = start byte
step (InWord word) byte = if is_word_byte byte then ([], InWord (word ++ byte ∷ [])) else behind_token (Word word) (start byte)
step (InQuotes quotes text) byte = if byte == closing quotes then ([], AtDelimiter quotes text) else ([], InQuotes quotes (text ++ byte ∷ []))
step (AtDelimiter quotes text) byte = if byte == closing quotes then ([], InQuotes quotes (text ++ closing quotes ∷ [])) else behind_token
    (quoted_token quotes text) (start byte)
step AtDash byte = if code "-" == byte then ([], InLine) else behind_token (Symbol (code "-")) (start byte)
step AtSlash byte = if code "*" == byte then ([], InBlock) else behind_token (Symbol (code "/")) (start byte)
step InLine byte = if code "\n" == byte then ([], Between) else ([], InLine)
step InBlock byte = if code "*" == byte then ([], AtStar) else ([], InBlock)
step AtStar byte = if code "/" == byte then ([], Between) else (if code "*" == byte then ([], AtStar) else ([], InBlock))

-- what the end of the text makes of it
abbrev pub finish : Mode → List Token
finish Between = []
finish (InWord word) = Word word ∷ []
finish (InQuotes quotes text) = Open ∷ []
finish (AtDelimiter quotes text) = quoted_token quotes text ∷ []
finish AtDash = Symbol (code "-") ∷ []
finish AtSlash = Symbol (code "/") ∷ []
finish InLine = Open ∷ []
finish InBlock = Open ∷ []
finish AtStar = Open ∷ []

abbrev pub read : Mode → List ℕ → List Token
read mode [] = finish mode
read mode (byte ∷ text) = let given = step mode byte in given.0 ++ read given.1 text

-- the tokens that are whole within a text, and where the reader is behind it
abbrev pub whole : Mode → List ℕ → List Token
whole mode [] = []
whole mode (byte ∷ text) = let given = step mode byte in given.0 ++ whole given.1 text

abbrev pub after : Mode → List ℕ → Mode
after mode [] = mode
after mode (byte ∷ text) = after (step mode byte).1 text
