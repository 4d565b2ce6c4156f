-- A mask of LIKE, quoted with its percent signs.
use Rattle.sql_builder.proofs.Imports.{◌≡◌, ℕ, List, ◌++◌, Bool, true, false, codes, if◌then◌else◌, append_assoc, append-nil, flat_map-append, escaped, quoted}
use Rattle.sql_builder.specs.{has_trailing, has_leading, mask_text, percent_sign}
use Rattle.sql_builder.specs.declared.condition.Percent.{Percent}

-- a percent sign is no quote, so it is not doubled
signed_mask : (front behind : Bool) (mask : List ℕ)
    → quoted (percent_sign front ++ (mask ++ percent_sign behind))
    ≡ (if front then codes "'%" else codes "'") ++ (escaped mask ++ (if behind then codes "%'" else codes "'"))
signed_mask true true mask = simp (flat_map-append, append_assoc)
signed_mask true false mask = simp (flat_map-append, append_assoc, append-nil)
signed_mask false true mask = simp (flat_map-append, append_assoc)
signed_mask false false mask = simp (flat_map-append, append_assoc, append-nil)

pub quoted_mask : (percent : Percent) (mask : List ℕ)
    → quoted (mask_text percent mask)
    ≡ (if has_leading percent then codes "'%" else codes "'")
    ++ (escaped mask ++ (if has_trailing percent then codes "%'" else codes "'"))
quoted_mask percent mask = signed_mask (has_leading percent) (has_trailing percent) mask
