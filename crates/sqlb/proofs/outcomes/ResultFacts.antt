-- A run that stops before the end of its input, and one over a buffered writer that is flushed.
use Rattle.sqlb.proofs.Imports.{◌≡◌, ℕ, Bool, List, [], refl, true, false, ◌++◌, ap, subst, sym, ◌∙◌, ◌||◌, Option, Result, Err, Ok, OnOk, flat_map, is_err}
use Rattle.sqlb.proofs.Imports.{Appends, Consumes, append_known, Appends-nil, Output, Fault, At, Memory, Read, Write, StartsWith, flat_map-append}
use Rattle.sqlb.specs.{ReadingFails, output, output_text, EndsUnlessStopped, AgreesWithOutput, LosesOnlyIfFailed, MemoryRunsOutInLine, UnlessWriteFails}
use Rattle.std.specs.declared.io.buffered.BufWriter.{BufWriter}
use Rattle.std.specs.Io.Buffered.{writer_buffer, writer_contents, writer_inner}
use Rattle.std.proofs.Transfers.{starts_with_of_append, starts_with_of_eq}

pub nothing_written : {T : Type 0} (a b old : Option (List ℕ)) (taken : List ℕ) (fault : Fault) (result : Result T Fault) (failed ended : Bool)
    → Consumes a b taken → ReadingFails {T = Unit {0}} (Err fault) failed ended → result ≡ Err fault
    → (x : List ℕ) × (y : List ℕ) × Consumes a b x × Appends old old y × AgreesWithOutput result y (output x) × EndsUnlessStopped result y ended
    × (ended ≡ true → MemoryRunsOutInLine result y x)
nothing_written a b old taken Memory result failed ended t f r =
    rw r (taken, [], t, Appends-nil old, ([], (output taken).statements, refl, refl), (λ full. absurd (full refl)), λ at_end. cc (at_end, f.1))
nothing_written a b old taken Read result failed ended t f r = rw r (taken, [], t, Appends-nil old, refl, f.1, λ at_end. tt)
nothing_written a b old taken Write result failed ended t f r = absurd f
nothing_written a b old taken (At line reason) result failed ended t f r = absurd f

-- what holds is promised of any answer
pub unless_write_fails : {T : Type 0} (result : Result T Fault) (P : Type 0) → P → UnlessWriteFails result P
unless_write_fails (Ok done) P h = h
unless_write_fails (Err (At line reason)) P h = h
unless_write_fails (Err Memory) P h = h
unless_write_fails (Err Write) P h = tt
unless_write_fails (Err Read) P h = h

-- what a buffered writer holds is what the writer below it holds, and what would be lost with its buffer
pub appends-lost : {W A : Type 0} (contents : W → Option (List ℕ)) (start : Option (List ℕ)) (buffered : BufWriter W A) (below : W) (written : List ℕ)
    → below ≡ writer_inner buffered → Appends start (writer_contents contents buffered) written
    → Appends start (append_known (contents below) (writer_buffer buffered)) written
appends-lost contents start buffered below written is appends =
    subst (λ inner. Appends start (append_known (contents inner) (writer_buffer buffered)) written) (sym is) appends

-- what a run has written is a beginning of the output, whatever it answers
pub ran-begins : {T : Type 0} (result : Result T Fault) (written : List ℕ) (out : Output) → AgreesWithOutput result written out
    → StartsWith (output_text out) written
ran-begins (Ok done) written out ran = starts_with_of_eq (output_text out) written (sym ran.1)
ran-begins (Err (At line reason)) written out ran = starts_with_of_eq (output_text out) written (sym ran.1)
ran-begins (Err Memory) written out ran =
    starts_with_of_append (output_text out) written (flat_map (λ statement. statement) ran.1)
    (ap (flat_map (λ statement. statement)) ran.2 ∙ flat_map-append (λ (statement : List ℕ). statement) ran.0 ran.1
    ∙ ap (λ (front : List ℕ). front ++ flat_map (λ statement. statement) ran.1) (sym ran.3))
ran-begins (Err Write) written out ran = ran
ran-begins (Err Read) written out ran = rw ran refl

-- nothing is lost where a flush has succeeded, which is where the writer has not failed
pub loses_none : {T E : Type 0} (flushed : Result T E) (before failed : Bool) (lost : List ℕ) → failed ≡ (before || is_err flushed) → OnOk flushed (lost ≡ [])
    → LosesOnlyIfFailed failed lost
loses_none flushed before true lost is none = tt
loses_none (Ok done) before false lost is none = none
loses_none (Err error) true false lost is none = cc is
loses_none (Err error) false false lost is none = cc is
