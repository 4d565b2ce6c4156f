-- How a run ends, by what it read and what it wrote.
use Rattle.std.specs.Prelude.{◌≡◌, ◌≢◌, ◌+◌, ℕ, Bool, true, false, List, [], ◌∷◌, ◌++◌, Option, Some, None, Result, Ok, Err, filter_map, flat_map}
use Rattle.std.specs.Io.{StartsWith}
use Rattle.std.specs.Io.KnownBytes.{Appends, Consumes, append_known}
use Rattle.sql_builder.specs.Error.{IsMemory}
use Rattle.sqlb.specs.Fault.{fault_status}
use Rattle.sqlb.specs.Output.{Answer, Output, accepted_answers, output, output_text, printed_line}
use Rattle.sqlb.specs.declared.fault.Fault.{Fault}
use Rattle.sqlb.specs.declared.fault.Fault.TheVariants.{At, Memory, Read, Write}
use Rattle.sqlb.specs.declared.fault.Reason.{Reason}
use Rattle.sqlb.specs.declared.fault.Reason.TheVariants.{Builder, NoEnd, NotUtf8}

-- whole statements from the beginning, one after another
abbrev pub AreWhole : List ℕ → List (List ℕ) → Type 0
AreWhole written statements =
    (first : List (List ℕ)) × (rest : List (List ℕ)) × (statements ≡ first ++ rest)
    × (written ≡ flat_map (λ statement. statement) first)

-- What is written agrees with the output, as far as the answer says: all of it where the answer is the output's fault or Ok,
-- whole statements where memory ran out, a beginning where a write failed, and nothing where a read failed.
abbrev pub AgreesWithOutput : {T : Type 0} → Result T Fault → List ℕ → Output → Type 0
AgreesWithOutput (Ok done) written out = (out.fault ≡ None) × (written ≡ output_text out)
AgreesWithOutput (Err (At line reason)) written out = (out.fault ≡ Some (line, reason)) × (written ≡ output_text out)
AgreesWithOutput (Err Memory) written out = AreWhole written out.statements
AgreesWithOutput (Err Write) written out = StartsWith (output_text out) written
AgreesWithOutput (Err Read) written out = written ≡ []

-- Memory ran out in a line that fails no check, as the lines before it fail none, and what those finish is written.
abbrev pub StopsIn : List ℕ → List Answer → Type 0
StopsIn written accepted =
    (before : List Answer) × (here : Answer) × (after : List Answer) × (accepted ≡ before ++ here ∷ after)
    × (written ≡ flat_map (λ statement. statement) (filter_map printed_line before))

-- Memory runs out in no line that fails a check.
abbrev pub MemoryRunsOutInLine : {T : Type 0} → Result T Fault → List ℕ → List ℕ → Type 0
MemoryRunsOutInLine (Err Memory) written input = StopsIn written (accepted_answers input)
MemoryRunsOutInLine _ written input = Unit {0}

-- The reader has ended, unless a read failed, or memory ran out with nothing written.
abbrev pub EndsUnlessStopped : {T : Type 0} → Result T Fault → List ℕ → Bool → Type 0
EndsUnlessStopped (Err Memory) written ended = written ≢ [] → ended ≡ true
EndsUnlessStopped (Err Read) written ended = ended ≡ false
EndsUnlessStopped _ written ended = ended ≡ true

-- What a run returns at the end of its text, by how many lines that has, whether a line that is not UTF-8 follows, and whether a
-- statement is open.
abbrev pub result_at_end : ℕ → Bool → Bool → Result (Unit {0}) Fault
result_at_end number true is_open = Err (At (number + 1) NotUtf8)
result_at_end number false true = Err (At number NoEnd)
result_at_end number false false = Ok tt

-- A run that reads nothing returns `Write` exactly where the writer has failed.
abbrev pub FailsOnlyToWrite : {T : Type 0} → Result T Fault → Bool → Type 0
FailsOnlyToWrite (Err Write) failed = failed ≡ true
FailsOnlyToWrite (Err Read) failed = ⊥
FailsOnlyToWrite _ failed = failed ≡ false

-- out of memory is a fault of its own, and never a line's reason
abbrev pub HoldsNoMemory : Reason → Type 0
HoldsNoMemory (Builder error) = ¬ (IsMemory error)
HoldsNoMemory _ = Unit {0}

-- the same of a fault
abbrev pub NamesNoMemory : Fault → Type 0
NamesNoMemory (At line reason) = HoldsNoMemory reason
NamesNoMemory _ = Unit {0}

-- what is promised unless a write failed
abbrev pub UnlessWriteFails : {T : Type 0} → Result T Fault → Type 0 → Type 0
UnlessWriteFails (Err Write) P = Unit {0}
UnlessWriteFails _ P = P

-- bytes that were buffered are lost only where the writer has failed
abbrev pub LosesOnlyIfFailed : Bool → List ℕ → Type 0
LosesOnlyIfFailed true lost = Unit {0}
LosesOnlyIfFailed false lost = lost ≡ []

-- A run over a buffered writer, by its answer: so many bytes were read, and what the writer below holds, with what is lost behind
-- it, is what it and its buffer held before, and what was written; this agrees with what the bytes read say to print.
abbrev pub RunsBuffered : {T : Type 0} → Result T Fault → Option (List ℕ) → Option (List ℕ) → Bool → Option (List ℕ) → Option (List ℕ) → Bool → Type 0
RunsBuffered answer unread left ended held below failed =
    (taken : List ℕ) × (written : List ℕ) × (lost : List ℕ)
    × Consumes unread left taken
    × Appends held (append_known below lost) written
    × AgreesWithOutput answer written (output taken)
    × LosesOnlyIfFailed failed lost
    × UnlessWriteFails answer (EndsUnlessStopped answer written ended × (ended ≡ true → MemoryRunsOutInLine answer written taken))

-- the exit status of an answer: 0 where there is no fault
abbrev pub status_of : {T : Type 0} → Result T Fault → ℕ
status_of (Ok done) = 0
status_of (Err fault) = fault_status fault
