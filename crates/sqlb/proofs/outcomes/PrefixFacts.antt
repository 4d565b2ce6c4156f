-- What follows a prefix.
use Rattle.sqlb.proofs.Imports.{◌≡◌, ◌≢◌, refl, sym, ◌∙◌, ap, ℕ, Bool, true, false, cond, List, ◌++◌, None, Some, drop, length, take, drop-append_seam}
use Rattle.sqlb.proofs.Imports.{take-append_seam, cond-true, take-append-drop, bytes_eq}
use Rattle.std.proofs.lemmas.Slice.Eq.{bytes_eq-Decides}
use Rattle.sqlb.specs.{without_prefix}

pub without_prefix-found : (prefix rest name : List ℕ) → name ≡ prefix ++ rest → without_prefix prefix name ≡ Some rest
without_prefix-found prefix rest name said =
    ap (without_prefix prefix) said
    ∙ cond-true _ _ _ ((bytes_eq-Decides (take (length prefix) (prefix ++ rest)) prefix).1 (take-append_seam prefix rest))
    ∙ ap (λ (r : List ℕ). Some r) (drop-append_seam prefix rest)

pub without_prefix-none : (prefix name : List ℕ) → ((rest : List ℕ) → name ≢ prefix ++ rest) → without_prefix prefix name ≡ None
without_prefix-none prefix name other = by (bytes_eq (take (length prefix) name) prefix) refl
  where
    by : (b : Bool) → bytes_eq (take (length prefix) name) prefix ≡ b → cond b (Some (drop (length prefix) name)) None ≡ None
    by true e =
        let same = (bytes_eq-Decides (take (length prefix) name) prefix).0 e in
        absurd (other (drop (length prefix) name) (sym (take-append-drop (length prefix) name) ∙ ap (λ front. front ++ drop (length prefix) name) same))
    by false e = refl
