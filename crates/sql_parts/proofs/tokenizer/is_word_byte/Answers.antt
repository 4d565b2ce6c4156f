use Rattle.sql_parts.proofs.Imports.{◌≡◌, ℕ, ◌<◌, ◌∙◌, cond, eqb, get_or, Bool, true, false, map, refl, ap, arith, range_with_len}
use Rattle.std.proofs.lemmas.List.FromFn.{get_or-map-range_with_len}
use Rattle.sql_parts.specs.{is_word_byte}
use Rattle.sql_parts.specs.declared.tokenizer.TheConstants.{WORD_BYTES}
use Rattle.sql_parts.proofs.tokenizer.is_word_byte.Goals as goal

table : WORD_BYTES ≡ map (λ byte. cond (is_word_byte byte) 1 0) (range_with_len 0 256)
table = refl

one : (b : Bool) → eqb (cond b 1 0) 1 ≡ b
one true = refl
one false = refl

in_table : (byte : ℕ) → byte < 256 → eqb (get_or WORD_BYTES byte 0) 1 ≡ is_word_byte byte
in_table byte small =
    ap (λ bytes. eqb (get_or bytes byte 0) 1) table
    ∙ ap (λ bit. eqb bit 1) (get_or-map-range_with_len (λ b. cond (is_word_byte b) 1 0) 0 256 byte byte 0 small (omega arith))
    ∙ one (is_word_byte byte)

pub returns : goal.returns
returns c = ap (λ byte. eqb (get_or WORD_BYTES byte 0) 1) c.from.ensures ∙ in_table c.args.byte c.ranges.byte.fits
