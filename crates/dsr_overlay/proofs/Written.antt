-- Bytes are written one after the other.
use Rattle.std.proofs.Common.{◌≡◌, ◌≤◌, ◌<◌, ◌+◌, ℕ, List, length, take, get_or, refl, sym, ap, ◌∙◌, arith}
use Rattle.std.proofs.Math.ListN.{set}
use Rattle.std.proofs.lemmas.List.{length-set, take-append-drop, take_all}
use borrow.Rule.Slice.PartMut.{put_mid}
use Rattle.dsr_meaning.specs.Writes.{AreBytes}
use Rattle.dsr_overlay.specs.Overlays.{Overlaid}
use Rattle.dsr_overlay.proofs.Pages.{put_more}

-- the first i bytes of the part stand from a byte on, and nothing else changed
pub record Writes (first i : ℕ) (part : List ℕ) (old new : Overlaid) : Type 0 where
  pub bytes : new.bytes ≡ put_mid first i old.bytes (take i part)
  pub owned : new.owned ≡ old.owned
  pub long : length new.bytes ≡ length old.bytes
  pub are : AreBytes new.bytes

pub begins : (first : ℕ) (part : List ℕ) (v : Overlaid) → AreBytes v.bytes → Writes first 0 part v v
begins first part v are = record {
  bytes = sym (take-append-drop first v.bytes);
  owned = refl;
  long = refl;
  are = are;
}

pub more : (first i byte : ℕ) (part : List ℕ) (old mid new : Overlaid) → first + length part ≤ length old.bytes → Writes first i part old mid → i < length part → get_or part i 0 ≡ byte → new.bytes ≡ set mid.bytes (first + i) byte → new.owned ≡ mid.owned → AreBytes new.bytes → Writes first (i + 1) part old new
more first i byte part old mid new within so lt here wrote same are = record {
  bytes = wrote ∙ ap (λ xs. set xs (first + i) byte) so.bytes ∙ put_more first i byte old.bytes part (omega arith) lt here;
  owned = same ∙ so.owned;
  long = ap length wrote ∙ length-set mid.bytes (first + i) byte ∙ so.long;
  are = are;
}

pub ends : (first i : ℕ) (part : List ℕ) (old new : Overlaid) → Writes first i part old new → i ≡ length part → new.bytes ≡ put_mid first (length part) old.bytes part
ends first i part old new so e =
    so.bytes ∙ ap (λ n. put_mid first n old.bytes (take n part)) e ∙ ap (λ ys. put_mid first (length part) old.bytes ys) (take_all (length part) part (omega arith))
