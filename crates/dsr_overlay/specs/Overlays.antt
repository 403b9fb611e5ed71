-- Bytes of which some pages are replaced.
use Rattle.std.specs.Prelude.{◌≡◌, ◌≤◌, ◌<◌, ℕ, ◌+◌, ◌*◌, ◌/◌, ◌%◌, ◌++◌, ◌∷◌, [], List, Bool, false, length, take, drop, map, get_or}
use Rattle.std.specs.Option.{IfSome, is_some, unwrap_or}
use Rattle.std.specs.Prelude.{Option}
use Rattle.dsr_ir.specs.declared.layouts.Cell.{Cell}
use Rattle.dsr_meaning.specs.Writes.{AreBytes}

-- the bytes as they are read, and for each page whether it is owned
pub record Overlaid : Type 0 where
  pub bytes : List ℕ
  pub owned : List Bool

-- pages of so many bytes, one after the other: of each the owned one, or else the original's
abbrev pub overlaid : ℕ → List ℕ → List (Option (List ℕ)) → List ℕ
overlaid size original [] = original
overlaid size original (page ∷ pages) =
    unwrap_or page (take size original) ++ overlaid size (drop size original) pages

-- each owned page has as many bytes as the original's
abbrev pub AllFit : ℕ → List ℕ → List (Option (List ℕ)) → Type 0
AllFit size original [] = Unit {0}
AllFit size original (page ∷ pages) =
    IfSome page (λ bytes. length bytes ≡ length (take size original))
    × AllFit size (drop size original) pages

-- the pages go over the whole original, and fit
pub record IsOverlay (size : ℕ) (original : List ℕ) (pages : List (Option (List ℕ))) : Type 0 where
  pub covered : length original ≤ size * length pages
  pub fit : AllFit size original pages
  pub bytes : AreBytes (overlaid size original pages)

-- what such pages show
abbrev pub shown : ℕ → List ℕ → List (Option (List ℕ)) → Overlaid
shown size original pages =
    record { bytes = overlaid size original pages; owned = map is_some pages }

-- the page of so many bytes in which the byte stands is owned
abbrev pub is_owned : ℕ → Overlaid → ℕ → Bool
is_owned size image at = get_or image.owned (at / size) false

-- a page of so many bytes has one of the range
abbrev pub IsTouched : ℕ → ℕ → ℕ → ℕ → Type 0
IsTouched size at count number = (at / size ≤ number) × (size * number < at + count)

-- the bytes of a page
abbrev pub page_of : ℕ → List ℕ → ℕ → List ℕ
page_of size bytes number = take size (drop (size * number) bytes)

-- the cell, counted from the byte in which it begins
abbrev pub at_front : Cell → Cell
at_front cell = record cell { bit = cell.bit % 8 }
