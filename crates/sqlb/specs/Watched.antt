-- What contracts see of a watched reader or writer, and the results that set its flags.
use Rattle.std.specs.Prelude.{ℕ, Bool, true, false, ◌&&◌, ◌==◌, not, List, length, Result, Ok, Err}

-- A reader or a writer, what its calls have returned so far, and whether a call was made after one had failed, or a read after
-- it had ended.
pub record Watch (T : Type 0) : Type 0 where
  pub inner : T
  pub failed : Bool
  pub ended : Bool
  pub retried : Bool

-- a call took or gave no byte, where there was room for one
abbrev pub is_none_of : ℕ → List ℕ → Bool
is_none_of n buf = (n == 0) && not (length buf == 0)

-- a read returns the end: no byte, into a slice that isn't empty
abbrev pub gives_end : {E : Type 0} → Result ℕ E → List ℕ → Bool
gives_end (Ok n) buf = is_none_of n buf
gives_end (Err error) buf = false

-- a write fails: it returns an error, or takes no byte of a slice that isn't empty
abbrev pub fails_to_write : {E : Type 0} → Result ℕ E → List ℕ → Bool
fails_to_write (Ok n) buf = is_none_of n buf
fails_to_write (Err error) buf = true
