-- How far a run of the lines of an input has come, and how it ends.
use Rattle.sqlb.proofs.Imports.{◌≡◌, ℕ, ◌+◌, ◌-◌, Bool, true, false, List, [], ◌∷◌, ◌++◌, Option, None, Some, Result, Ok, Err, if◌then◌else◌, length, take, map}
use Rattle.sqlb.proofs.Imports.{filter_map, flat_map, refl, sym, ap, ap₂, ◌∙◌, append_assoc, arith, add-zero, codes, length-append, subst, IfErr, IsTrue}
use Rattle.sqlb.proofs.Imports.{is_err, is_some, option_map, StartsWith, Appends, enumerate_from, Appends-nil, Appends-trans, append-nil, map-append}
use Rattle.sqlb.proofs.Imports.{common_steps, flat_map-append, ClauseTexts, since, until, Fault, At, Memory, Read, Write, Reason, NoEnd}
use Rattle.std.specs.Prelude.{IsOk, IsUtf8}
use Rattle.std.proofs.lemmas.List.Elements.{filter_map-append}
use Rattle.sql_builder.specs.Calls.{StartText, CallText}
use Rattle.sql_builder.proofs.lists.PushLemmas.{any_unfollowed-push, since-push}
use Rattle.sqlb.specs.{IsNextLine, Remaining, lines, CommandResult, command_in_parts, command_of, Starts, Calls, Finishes, Answer, OpenStatement}
use Rattle.sqlb.specs.{accepted_answers, answer, answer_at, answers, call_in, end_fault, fault_at, first, is_finish, is_inside, is_start, open_statement}
use Rattle.sqlb.specs.{open_statement_in, output, output_text, printed_line, start_in, AgreesWithOutput, AreWhole, FailsOnlyToWrite, MemoryRunsOutInLine}
use Rattle.sqlb.specs.{NamesNoMemory, result_at_end, given, given_after, given_answer, WritesOrFails, EndsBeforeInvalidLine}
use Rattle.sqlb.proofs.bytes.{begins}
use Rattle.sqlb.proofs.outcomes.CommandFacts.{command_of-no_text, command_of-text}
use Rattle.sqlb.proofs.outcomes.ScriptFacts.{open_after, given-after, given-answer, given-is_some}

-- an open statement with these calls after its own
abbrev with_calls : List CallText → OpenStatement → OpenStatement
with_calls more open_statement = record { start = open_statement.start; calls = open_statement.calls ++ more }

open_statement_in-push : (xs : List CommandResult) (s : CommandResult) → filter_map start_in (s ∷ []) ≡ []
    → open_statement_in (xs ++ s ∷ []) ≡ option_map (with_calls (filter_map call_in (s ∷ []))) (open_statement_in xs)
open_statement_in-push xs s no_start =
    rw (filter_map-append start_in xs (s ∷ []), filter_map-append call_in xs (s ∷ []), no_start, append-nil (filter_map start_in xs))
    (by (first (filter_map start_in xs)) (filter_map call_in (s ∷ [])))
  where
    by : (o : Option StartText) (more : List CallText)
        → option_map {U = OpenStatement} (λ start. record { start = start; calls = filter_map call_in xs ++ more }) o
        ≡ option_map (with_calls more) (option_map {U = OpenStatement} (λ start. record { start = start; calls = filter_map call_in xs }) o)
    by None more = refl
    by (Some start) more = refl

-- a line that is no start and no finish
open_statement-goes_on : (before : List CommandResult) (s : CommandResult) → is_start s ≡ false → is_finish s ≡ false → filter_map start_in (s ∷ []) ≡ []
    → open_statement (before ++ s ∷ []) ≡ option_map (with_calls (filter_map call_in (s ∷ []))) (open_statement before)
unfolding open_statement
open_statement-goes_on before s no_start no_finish none =
    rw (any_unfollowed-push is_start is_finish before s, since-push is_start before s, no_start, no_finish) (by (is_inside before))
  where
    by : (inside : Bool) → (if inside then open_statement_in (since is_start before ++ s ∷ []) else None)
        ≡ option_map (with_calls (filter_map call_in (s ∷ []))) (if inside then open_statement_in (since is_start before) else None)
    by true = open_statement_in-push (since is_start before) s none
    by false = refl

no_more_calls : (o : Option OpenStatement) → option_map (with_calls []) o ≡ o
no_more_calls None = refl
no_more_calls (Some open_statement) = rw (append-nil open_statement.calls) refl

pub open_statement-push : (before : List CommandResult) (s : CommandResult) → open_statement (before ++ s ∷ []) ≡ open_after (open_statement before) s
unfolding open_statement
open_statement-push before (Ok (Starts start)) =
    rw (any_unfollowed-push is_start is_finish before (Ok (Starts start)), since-push is_start before (Ok (Starts start))) refl
open_statement-push before (Ok (Finishes finish)) = rw (any_unfollowed-push is_start is_finish before (Ok (Finishes finish))) refl
open_statement-push before (Ok (Calls call)) = open_statement-goes_on before (Ok (Calls call)) refl refl refl
open_statement-push before (Err reason) = open_statement-goes_on before (Err reason) refl refl refl ∙ no_more_calls (open_statement before)

-- what each line answers, by the lines before it

abbrev pub answers_from : List CommandResult → List CommandResult → List Answer
answers_from before [] = []
answers_from before (s ∷ ss) = answer (open_statement before) s ∷ answers_from (before ++ s ∷ []) ss

answers_from-is : (before commands : List CommandResult)
    → map (answer_at (before ++ commands)) (enumerate_from (length before + 1) commands) ≡ answers_from before commands
answers_from-is before [] = refl
answers_from-is before (s ∷ ss) =
    let here : take (length before + 1 - 1) (before ++ s ∷ ss) ≡ before = grind (arith, common_steps) in
    let longer : length before + 1 + 1 ≡ length (before ++ s ∷ []) + 1 = omega (arith, length-append before (s ∷ [])) in
    let numbered = enumerate_from (length (before ++ s ∷ []) + 1) ss in
    let grouped = ap (λ (all : List CommandResult). map (answer_at all) numbered) (sym (append_assoc before (s ∷ []) ss)) in
    rw (here, longer) (ap (λ (rest : List Answer). answer (open_statement before) s ∷ rest) (grouped ∙ answers_from-is (before ++ s ∷ []) ss))

-- lines that are accepted, and others after them

until-accepted : (texts : List (Option (List ℕ))) (more : List Answer) → until is_err (map Ok texts ++ more) ≡ map Ok texts ++ until is_err more
until-accepted [] more = refl
until-accepted (t ∷ ts) more = rw (until-accepted ts more) refl

faults-accepted : (n : ℕ) (texts : List (Option (List ℕ))) (more : List Answer)
    → filter_map fault_at (enumerate_from n (map Ok texts ++ more)) ≡ filter_map fault_at (enumerate_from (n + length texts) more)
faults-accepted n [] more = rw (add-zero n) refl
faults-accepted n (t ∷ ts) more = faults-accepted (n + 1) ts more ∙ ap (λ m. filter_map fault_at (enumerate_from m more)) (omega arith)

-- the texts that accepted lines finish, each with its line feed
abbrev pub finished_texts : List (Option (List ℕ)) → List (List ℕ)
finished_texts texts = filter_map printed_line (map Ok texts)

abbrev joined : List (List ℕ) → List ℕ
joined statements = flat_map (λ statement. statement) statements

abbrev pub joined_texts : List (Option (List ℕ)) → List ℕ
joined_texts texts = joined (finished_texts texts)

joined_texts-append : (xs ys : List (Option (List ℕ))) → joined_texts (xs ++ ys) ≡ joined_texts xs ++ joined_texts ys
joined_texts-append xs ys =
    ap (λ l. joined (filter_map printed_line l)) (map-append Ok xs ys) ∙ ap joined (filter_map-append printed_line (map Ok xs) (map Ok ys))
    ∙ flat_map-append (λ statement. statement) (finished_texts xs) (finished_texts ys)

-- a finished text and its line feed, as they are written
pub line_text : (t : List ℕ) → t ++ codes "\n" ≡ joined_texts (Some t ∷ [])
line_text t = sym (append-nil (t ++ codes "\n"))

-- what a line answers that fails no check
ok_value : (a : Answer) → IsOk a → (o : Option (List ℕ)) × (a ≡ Ok o)
ok_value (Ok o) accepts = (o, refl)
ok_value (Err reason) accepts = cc

-- how far a run has come: the lines before those ahead are all accepted, and the texts that they finish are written
pub record Progress (old new : Option (List ℕ)) (text : List ℕ) (number : ℕ) (script : Option ClauseTexts) (ahead : List (List ℕ)) : Type 0 where
  pub done : List CommandResult
  pub texts : List (Option (List ℕ))
  pub split : map command_of (lines text) ≡ done ++ map command_of ahead
  pub answered : answers (map command_of (lines text)) ≡ map Ok texts ++ answers_from done (map command_of ahead)
  pub counted : (number ≡ length done) × (number ≡ length texts)
  pub open_now : script ≡ option_map given (open_statement done)
  pub written : Appends old new (joined_texts texts)

pub progress-first : (old : Option (List ℕ)) (text : List ℕ) (ahead : List (List ℕ)) → lines text ≡ ahead → Progress old old text 0 None ahead
unfolding open_statement
progress-first old text ahead is = record {
  done = [];
  texts = [];
  split = ap (map command_of) is;
  answered = answers_from-is [] (map command_of (lines text)) ∙ ap (λ (ls : List (List ℕ)). answers_from [] (map command_of ls)) is;
  counted = (refl, refl);
  open_now = refl;
  written = Appends-nil old;
}

-- the lines behind those of a text: none where the text is the whole input, and else first one that is not UTF-8
abbrev pub UnreadLines : Bool → List (List ℕ) → Type 0
UnreadLines false unread = unread ≡ []
UnreadLines true unread = (line : List ℕ) × (behind : List (List ℕ)) × (unread ≡ line ∷ behind) × ¬ (IsUtf8 line)

-- a run has ended so: what is written agrees with its answer
abbrev pub Ends : {T : Type 0} → Option (List ℕ) → Option (List ℕ) → List ℕ → Result T Fault → Type 0
Ends old new text result =
    (written : List ℕ) × Appends old new written × AgreesWithOutput result written (output text) × MemoryRunsOutInLine result written text

module _ {old new : Option (List ℕ)} {text : List ℕ} {number : ℕ} {script : Option ClauseTexts} {ahead : List (List ℕ)}
    (progress : Progress old new text number script ahead) where
  abbrev commands : List CommandResult
  commands = map command_of (lines text)

  -- by what the lines ahead answer
  module _ {more : List Answer} (is : answers_from progress.done (map command_of ahead) ≡ more) where
    answered : answers commands ≡ map Ok progress.texts ++ more
    answered = progress.answered ∙ ap (λ (l : List Answer). map Ok progress.texts ++ l) is

    accepted : accepted_answers text ≡ map Ok progress.texts ++ until is_err more
    unfolding accepted_answers
    accepted = ap (until is_err) answered ∙ until-accepted progress.texts more

    statements : (output text).statements ≡ finished_texts progress.texts ++ filter_map printed_line (until is_err more)
    unfolding output
    statements =
        ap (λ (l : List Answer). filter_map printed_line (until is_err l)) answered
        ∙ ap (filter_map printed_line) (until-accepted progress.texts more)
        ∙ filter_map-append printed_line (map Ok progress.texts) (until is_err more)

    fault : (output text).fault ≡ first (filter_map fault_at (enumerate_from (1 + number) more) ++ end_fault commands)
    unfolding output
    fault =
        ap (λ (l : List Answer). first (filter_map fault_at (enumerate_from 1 l) ++ end_fault commands)) answered
        ∙ ap (λ (l : List (ℕ × Reason)). first (l ++ end_fault commands)) (faults-accepted 1 progress.texts more)
        ∙ ap (λ (n : ℕ). first (filter_map fault_at (enumerate_from (1 + n) more) ++ end_fault commands)) (sym progress.counted.1)

    all_written : filter_map printed_line (until is_err more) ≡ [] → joined_texts progress.texts ≡ output_text (output text)
    all_written none =
        ap joined (sym (statements ∙ ap (λ (l : List (List ℕ)). finished_texts progress.texts ++ l) none ∙ append-nil (finished_texts progress.texts)))

  -- the lines end
  module _ (end : ahead ≡ []) where
    none_ahead : answers_from progress.done (map command_of ahead) ≡ []
    none_ahead = ap (λ (ls : List (List ℕ)). answers_from progress.done (map command_of ls)) end

    all_done : commands ≡ progress.done
    all_done = progress.split ∙ ap (λ (ls : List (List ℕ)). progress.done ++ map command_of ls) end ∙ append-nil progress.done

    end_fault-is : (still : Bool) → is_some script ≡ still → (output text).fault ≡ first (if still then (number, NoEnd) ∷ [] else [])
    end_fault-is still is =
        let stays = ap (λ (l : List CommandResult). is_some (open_statement l)) all_done
        ∙ sym (ap is_some progress.open_now ∙ given-is_some (open_statement progress.done)) ∙ is in
        fault none_ahead
        ∙ ap₂ (λ (b : Bool) (n : ℕ). first (if b then (n, NoEnd) ∷ [] else [])) stays (ap length all_done ∙ sym progress.counted.0)

    ends-open : is_some script ≡ true → Ends {T = Unit {0}} old new text (Err (At number NoEnd))
    ends-open still = (joined_texts progress.texts, progress.written, (end_fault-is true still, all_written none_ahead refl), tt)

    ends-closed : is_some script ≡ false → Ends {T = Unit {0}} old new text (Ok tt)
    ends-closed none = (joined_texts progress.texts, progress.written, (end_fault-is false none, all_written none_ahead refl), tt)

  -- a line is next
  module _ {line : List ℕ} {command : CommandResult} {remaining : List (List ℕ)} (says : command_of line ≡ command) (next : ahead ≡ line ∷ remaining) where
    abbrev later : List Answer
    later = answers_from (progress.done ++ command ∷ []) (map command_of remaining)

    answers-next : {a : Answer} → given_answer script command ≡ a → answers_from progress.done (map command_of ahead) ≡ a ∷ later
    answers-next is =
        ap (λ (ls : List (List ℕ)). answers_from progress.done (map command_of ls)) next
        ∙ ap (λ (s : CommandResult). answers_from progress.done (s ∷ map command_of remaining)) says
        ∙ ap (λ (a : Answer). a ∷ later)
        (given-answer (open_statement progress.done) command ∙ ap (λ (o : Option ClauseTexts). given_answer o command) (sym progress.open_now) ∙ is)

    -- the line is accepted
    pub progress-next : {newer : Option (List ℕ)} {after : Option ClauseTexts} {o : Option (List ℕ)} → given_answer script command ≡ Ok o
        → after ≡ given_after script command → Appends new newer (joined_texts (o ∷ [])) → Progress old newer text (number + 1) after remaining
    progress-next {newer} {after} {o} accepts opens now = record {
      done = progress.done ++ command ∷ [];
      texts = progress.texts ++ o ∷ [];
      split = progress.split ∙ ap (λ (ls : List (List ℕ)). progress.done ++ map command_of ls) next
          ∙ ap (λ (s : CommandResult). progress.done ++ s ∷ map command_of remaining) says
          ∙ sym (append_assoc progress.done (command ∷ []) (map command_of remaining));
      answered = answered (answers-next accepts) ∙ sym (append_assoc (map Ok progress.texts) (Ok o ∷ []) later)
          ∙ ap (λ (l : List Answer). l ++ later) (sym (map-append Ok progress.texts (o ∷ [])));
      counted = (
        omega (arith, progress.counted.0, length-append progress.done (command ∷ [])),
        omega (arith, progress.counted.1, length-append progress.texts (o ∷ [])),
      );
      open_now = opens ∙ ap (λ (w : Option ClauseTexts). given_after w command) progress.open_now ∙ sym (given-after (open_statement progress.done) command)
          ∙ ap (option_map given) (sym (open_statement-push progress.done command));
      written = subst (Appends old newer) (sym (joined_texts-append progress.texts (o ∷ [])))
          (Appends-trans old new newer (joined_texts progress.texts) (joined_texts (o ∷ [])) progress.written now);
    }

    -- memory runs out in the line
    pub runs_out : IsOk (given_answer script command) → Ends {T = Unit {0}} old new text (Err Memory)
    runs_out accepts =
        let found = ok_value (given_answer script command) accepts in
        let whole : AreWhole (joined_texts progress.texts) (output text).statements
        = (finished_texts progress.texts, filter_map printed_line (until is_err (answers_from progress.done (map command_of ahead))), statements refl, refl) in
        (joined_texts progress.texts, progress.written, whole, (map Ok progress.texts, Ok found.0, until is_err later, accepted (answers-next found.1), refl))

    -- the line is rejected
    pub rejects : {reason : Reason} → given_answer script command ≡ Err reason → Ends {T = Unit {0}} old new text (Err (At (number + 1) reason))
    rejects {reason} rejected =
        let more = answers-next rejected in
        (joined_texts progress.texts, progress.written, (fault more ∙ ap (λ (n : ℕ). Some (n, reason)) (omega arith), all_written more refl), tt)

    -- the line's statement is written in part
    stops-in : (t part : List ℕ) → given_answer script command ≡ Ok (Some t) → StartsWith (joined_texts (Some t ∷ [])) part
        → StartsWith (output_text (output text)) (joined_texts progress.texts ++ part)
    stops-in t part accepts starts =
        let front = joined_texts progress.texts in
        let rest = filter_map printed_line (until is_err later) in
        let whole : output_text (output text) ≡ front ++ joined_texts (Some t ∷ []) ++ joined rest
        = ap joined (statements (answers-next accepts)) ∙ flat_map-append (λ statement. statement) (finished_texts progress.texts) ((t ++ codes "\n") ∷ rest)
        ∙ ap (λ (l : List ℕ). front ++ (l ++ joined rest)) (sym (append-nil (t ++ codes "\n")))
        ∙ sym (append_assoc front (joined_texts (Some t ∷ [])) (joined rest)) in
        subst (λ (all : List ℕ). StartsWith all (front ++ part)) (sym whole) (begins front part (joined_texts (Some t ∷ [])) (joined rest) starts)

    -- a write that fails in the line's statement fails the run
    pub fails-in : {T : Type 0} (newer : Option (List ℕ)) (t : List ℕ) (fault : Fault) (result : Result T Fault) (failed : Bool)
        → given_answer script command ≡ Ok (Some t)
        → (part : List ℕ) × Appends new newer part × WritesOrFails {T = Unit {0}} (Err fault) part (t ++ codes "\n") failed
        → result ≡ Err fault → Ends old newer text result
    fails-in newer t Write result failed accepts wrote is =
        rw is (
          joined_texts progress.texts ++ wrote.0,
          Appends-trans old new newer (joined_texts progress.texts) wrote.0 progress.written wrote.1,
          stops-in t wrote.0 accepts (subst (λ (all : List ℕ). StartsWith all wrote.0) (line_text t) wrote.2.0),
          tt,
        )
    fails-in newer t Read result failed accepts wrote is = absurd wrote.2
    fails-in newer t Memory result failed accepts wrote is = absurd wrote.2
    fails-in newer t (At n reason) result failed accepts wrote is = absurd wrote.2

-- where no line of the text is left, a run ends by the result at its end
pub ends-at_end : {old new : Option (List ℕ)} {text : List ℕ} {number : ℕ} {script : Option ClauseTexts} {ahead unread : List (List ℕ)}
    → Progress old new text number script ahead → (has_invalid_line is_open : Bool) → UnreadLines has_invalid_line unread → ahead ≡ unread
    → is_some script ≡ is_open → Ends old new text (result_at_end number has_invalid_line is_open)
ends-at_end progress true is_open left is still = rejects progress (command_of-no_text left.0 left.3) (is ∙ left.2) refl
ends-at_end progress false true left is still = ends-open progress (is ∙ left) still
ends-at_end progress false false left is still = ends-closed progress (is ∙ left) still

-- what stops it there is no stream and no memory
pub at_end-fails_only_to_write : (number : ℕ) (has_invalid_line is_open : Bool) {failed : Bool} → failed ≡ false
    → FailsOnlyToWrite (result_at_end number has_invalid_line is_open) failed
at_end-fails_only_to_write number true is_open is = is
at_end-fails_only_to_write number false true is = is
at_end-fails_only_to_write number false false is = is

pub at_end-no_memory : (number : ℕ) (has_invalid_line is_open : Bool) → IfErr (result_at_end number has_invalid_line is_open) NamesNoMemory
at_end-no_memory number true is_open = tt
at_end-no_memory number false true = tt
at_end-no_memory number false false = tt

pub unread_first : (has_invalid_line : Bool) (input text : List ℕ) → (has_invalid_line ≡ false → text ≡ input)
    → (IsTrue has_invalid_line → EndsBeforeInvalidLine input text)
    → (unread : List (List ℕ)) × UnreadLines has_invalid_line unread × (lines input ≡ lines text ++ unread)
unread_first false input text whole cut = ([], refl, sym (append-nil (lines text) ∙ ap lines (whole refl)))
unread_first true input text whole cut = let found = cut refl in (found.line ∷ found.behind, (found.line, found.behind, refl, found.no_text), found.split)

-- a line of a text says what its parts say
pub command_of-line : (text : List ℕ) (left : Remaining) (next : IsNextLine text left) → command_of next.line ≡ command_in_parts left.parts
command_of-line text left next = command_of-text next.line next.utf8 ∙ ap command_in_parts (sym next.parts)
