-- What the pages of an overlay show, and what of it changes where a page becomes owned or a byte is written.
use Rattle.std.proofs.Common.{◌≡◌, ◌<◌, ◌+◌, ◌*◌, ◌/◌, ◌%◌, ℕ, List, true, false, Option, None, Some, length, drop, get_or, map, refl, sym, ap, subst, ◌∙◌, arith}
use Rattle.std.proofs.Math.ListN.{set}
use Rattle.std.proofs.lemmas.List.{get_or_read, length-drop, length-map, length-set, length-take, map-set, set-get_or}
use Rattle.std.specs.Option.{is_some, unwrap_or}
use Rattle.dsr_meaning.specs.Writes.{AreBytes}
use Rattle.dsr_overlay.specs.Overlays.{IsOverlay, Overlaid, overlaid, page_of, shown}
use Rattle.dsr_overlay.proofs.Pages.{byte_set, bytes_set, fit_at, fit_set, overlaid_length, own_same, owned_at, owned_set, page_is}

not_some : {X : Type 0} (found : Option X) → is_some found ≡ false → found ≡ None
not_some None e = refl
not_some (Some x) e = cc

module _ (o : List ℕ) (pages : List (Option (List ℕ))) (v : Overlaid) (is : shown 4096 o pages ≡ v) (met : IsOverlay 4096 o pages) where
  pub as_long : length v.bytes ≡ length o
  as_long = ap (λ x. length x.bytes) (sym is) ∙ overlaid_length 4096 o pages met.fit

  pub are_bytes : AreBytes v.bytes
  are_bytes = let P : Overlaid → Type 0 = λ x. AreBytes x.bytes in subst P is met.bytes

  module _ (p : ℕ) (lt : 4096 * p < length v.bytes) where
    pub inside : 4096 * p < length o
    inside = omega (arith, as_long)

    pub there : p < length pages
    there = omega (arith, inside, met.covered)

    pub there_owned : p < length v.owned
    there_owned = let e : length v.owned ≡ length pages = ap (λ x. length x.owned) (sym is) ∙ length-map pages is_some in omega (arith, there)

    whole : page_of 4096 v.bytes p ≡ unwrap_or (get_or pages p None) (page_of 4096 o p)
    whole = ap (λ x. page_of 4096 x.bytes p) (sym is) ∙ page_is 4096 p o pages met.fit inside

    -- what was found at the page's place
    module _ (found : Option (List ℕ)) (read : found ≡ get_or pages p found) where
      item : found ≡ get_or pages p None
      item = get_or_read pages p found there read None

      pub owned_page : (x : List ℕ) → found ≡ Some x → x ≡ page_of 4096 v.bytes p
      owned_page x e = sym (whole ∙ ap (λ q. unwrap_or q (page_of 4096 o p)) (sym item ∙ e))

      pub original_page : found ≡ None → page_of 4096 o p ≡ page_of 4096 v.bytes p
      original_page e = sym (whole ∙ ap (λ q. unwrap_or q (page_of 4096 o p)) (sym item ∙ e))

      mark : get_or v.owned p false ≡ is_some found
      mark = ap (λ x. get_or x.owned p false) (sym is) ∙ owned_at p pages ∙ ap is_some (sym item)

      pub not_owned : is_some found ≡ false → get_or v.owned p false ≡ false
      not_owned e = mark ∙ e

      pub stays_owned : is_some found ≡ true → v.owned ≡ set v.owned p true
      stays_owned e = sym (ap (λ b. set v.owned p b) (sym (mark ∙ e)) ∙ set-get_or v.owned p false)

      -- a copy of the original's page becomes owned
      module _ (none : is_some found ≡ false) (x : List ℕ) (copied : x ≡ page_of 4096 o p) where
        keeps : overlaid 4096 o (set pages p (Some x)) ≡ overlaid 4096 o pages
        keeps = ap (λ y. overlaid 4096 o (set pages p (Some y))) copied ∙ own_same 4096 p o pages (sym item ∙ not_some found none)

        pub own_bytes : overlaid 4096 o (set pages p (Some x)) ≡ v.bytes
        own_bytes = keeps ∙ ap (λ y. y.bytes) is

        pub own_owned : map is_some (set pages p (Some x)) ≡ set v.owned p true
        own_owned = map-set is_some pages p (Some x) ∙ ap (λ y. set y.owned p true) is

        pub own_overlay : IsOverlay 4096 o (set pages p (Some x))
        own_overlay = record {
          covered = rw (length-set pages p (Some x)) met.covered;
          fit = fit_set 4096 p o pages x met.fit (ap length copied);
          bytes = subst AreBytes (sym keeps) met.bytes;
        }

  -- what was found at the place of a byte's page
  module _ (at : ℕ) (lt : at < length v.bytes) (found : Option (List ℕ)) (read : found ≡ get_or pages (at / 4096) found) where
    pub page_inside : 4096 * (at / 4096) < length v.bytes
    page_inside = omega arith

    -- an owned page is there
    pub is_there : get_or v.owned (at / 4096) false ≡ true → found ≡ None → ⊥
    is_there e none = let b : true ≡ false = sym e ∙ mark (at / 4096) page_inside found read ∙ ap is_some none in cc

    -- a byte of an owned page is written
    module _ (x : List ℕ) (owned : found ≡ Some x) where
      same : x ≡ page_of 4096 v.bytes (at / 4096)
      same = owned_page (at / 4096) page_inside found read x owned

      pub byte_inside : at % 4096 < length x
      byte_inside =
          omega (arith, ap length same, length-take 4096 (drop (4096 * (at / 4096)) v.bytes), length-drop (4096 * (at / 4096)) v.bytes)

      here : get_or pages (at / 4096) None ≡ Some x
      here = sym (item (at / 4096) page_inside found read) ∙ owned

      module _ (byte : ℕ) (small : byte < 256) (y : List ℕ) (changed : y ≡ set x (at % 4096) byte) where
        written : overlaid 4096 o (set pages (at / 4096) (Some y)) ≡ set (overlaid 4096 o pages) at byte
        written =
            let place : 4096 * (at / 4096) + at % 4096 ≡ at = omega arith in
            ap (λ z. overlaid 4096 o (set pages (at / 4096) (Some z))) changed
            ∙ byte_set 4096 (at / 4096) (at % 4096) byte o pages x met.fit here byte_inside ∙ ap (λ n. set (overlaid 4096 o pages) n byte) place

        pub set_bytes : overlaid 4096 o (set pages (at / 4096) (Some y)) ≡ set v.bytes at byte
        set_bytes = written ∙ ap (λ z. set z.bytes at byte) is

        pub set_owned : map is_some (set pages (at / 4096) (Some y)) ≡ v.owned
        set_owned = owned_set (at / 4096) pages y (ap is_some here) ∙ ap (λ z. z.owned) is

        pub set_are_bytes : AreBytes (overlaid 4096 o (set pages (at / 4096) (Some y)))
        set_are_bytes = subst AreBytes (sym written) (bytes_set (overlaid 4096 o pages) at byte met.bytes small)

        pub set_overlay : IsOverlay 4096 o (set pages (at / 4096) (Some y))
        set_overlay = record {
          covered = rw (length-set pages (at / 4096) (Some y)) met.covered;
          fit = fit_set 4096 (at / 4096) o pages y met.fit (ap length changed ∙ length-set x (at % 4096) byte ∙ fit_at 4096 (at / 4096) o pages x met.fit here);
          bytes = set_are_bytes;
        }
