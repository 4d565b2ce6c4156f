-- How reading and writing end.
use Rattle.std.specs.Prelude.{◌≡◌, Bool, true, false, ℕ, List, Result, Ok, Err}
use Rattle.std.specs.Io.{StartsWith}
use Rattle.sqlb.specs.declared.fault.Fault.{Fault}
use Rattle.sqlb.specs.declared.fault.Fault.TheVariants.{Memory, Read, Write}

-- The text is written, or the writer failed after a beginning of it.
abbrev pub WritesOrFails : {T : Type 0} → Result T Fault → List ℕ → List ℕ → Bool → Type 0
WritesOrFails (Ok done) written text failed = (written ≡ text) × (failed ≡ false)
WritesOrFails (Err Write) written text failed = StartsWith text written × (failed ≡ true)
WritesOrFails _ written text failed = ⊥

-- Reading to the end stops where a read failed, or where there was no memory to store what was read.
abbrev pub ReadingFails : {T : Type 0} → Result T Fault → Bool → Bool → Type 0
ReadingFails (Ok buffer) failed ended = Unit {0}
ReadingFails (Err Memory) failed ended = (failed ≡ false) × (ended ≡ false)
ReadingFails (Err Read) failed ended = (failed ≡ true) × (ended ≡ false)
ReadingFails _ failed ended = ⊥

-- the text is written, or a beginning of it where the writer has failed
abbrev pub IsWrittenUnless : Bool → List ℕ → List ℕ → Type 0
IsWrittenUnless false text written = written ≡ text
IsWrittenUnless true text written = StartsWith text written
