use Rattle.sql_typed.proofs.Imports.{◌∙◌, ◌++◌, ap, string_bytes, balanced}
use Rattle.sql_typed.proofs.BracketLemmas.{united_balanced}
use Rattle.sql_typed.proofs.WholeLemmas.{balanced_followed}
use Rattle.sql_typed.proofs.texts.Query.combined.Goals as goal

pub invariant_of-result : goal.invariant_of-result
invariant_of-result c =
    let one = c.args.self.now in
    let other = c.args.other.now in
    let words = c.args.words.now in
    let first = c.in_ok-text.ensures.ok ∙ c.as_str.ensures.value ∙ c.in_ok-one.ensures.text in
    let second = c.as_str-2.ensures.value ∙ c.in_ok-other.ensures.text in
    record {
      fits = balanced_followed (string_bytes c.in_ok-text.text) words c.as_str-2.result.now
          (c.in_ok-push_str-2.ensures.bytes ∙ ap (λ t. t ++ c.as_str-2.result.now) c.in_ok-push_str.ensures.bytes)
          (ap balanced first ∙ united_balanced one.needs_brackets (string_bytes one.text) one.fits) c.requires.words c.requires.even
          (ap balanced second ∙ united_balanced other.needs_brackets (string_bytes other.text) other.fits);
    }
