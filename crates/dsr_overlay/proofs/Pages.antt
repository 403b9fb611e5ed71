-- Pages, and the bytes that they make one after the other.
use Rattle.std.proofs.Common.{◌≡◌, ◌≤◌, ◌<◌, ◌+◌, ◌-◌, ◌*◌, ◌/◌, ◌%◌, ℕ, zero, suc, List, [], ◌∷◌, ◌++◌, true, false, Option, None, Some, length, take, drop, get_or, map, replicate, inl, inr, refl, sym, ap, subst, ◌∙◌, arith, take-add}
use Rattle.std.proofs.Math.ListN.{set}
use Rattle.std.proofs.lemmas.Bool.{cases_eq, cases_lt}
use Rattle.std.proofs.lemmas.List.{append-nil, append_assoc, drop_all, drop_at, drop-drop, drop_more, get_or-drop, get_or-set_other, get_or-set_same, get_or-take, length-append, length-drop, length-take, map-set, set-append_left, set-append_right, set-get_or, set_past, take-append-drop, take_all, take_at, take_more}
use Rattle.std.specs.Option.{IfSome, is_some, unwrap_or}
use Rattle.std.specs.Prelude.{slice_index}
use borrow.Rule.Slice.PartMut.{put_mid}
use Rattle.dsr_meaning.specs.Writes.{AreBytes}
use Rattle.dsr_overlay.specs.Overlays.{AllFit, overlaid, page_of}

-- a byte of a page is one of all bytes
pub page_byte : (size p q : ℕ) (xs : List ℕ) → q < size → get_or (page_of size xs p) q 0 ≡ get_or xs (size * p + q) 0
page_byte size p q xs lt = get_or-take size (drop (size * p) xs) q 0 lt ∙ get_or-drop (size * p) xs q 0

-- a byte behind a place in its page
pub part_byte : (bs page : List ℕ) (first count q : ℕ) → page ≡ page_of 4096 bs (first / 4096) → first % 4096 + count ≤ length page → q < count → get_or (take (length page - first % 4096) (drop (first % 4096) page)) q 0 ≡ get_or bs (first + q) 0
part_byte bs page first count q e within lt =
    let rest = drop (4096 * (first / 4096)) bs in
    let most : length page ≤ 4096 = omega (arith, ap length e, length-take 4096 rest) in
    let place : 4096 * (first / 4096) + (first % 4096 + q) ≡ first + q = omega arith in
    get_or-take (length page - first % 4096) (drop (first % 4096) page) q 0 (omega arith) ∙ get_or-drop (first % 4096) page q 0
    ∙ ap (λ p. get_or p (first % 4096 + q) 0) e ∙ page_byte 4096 (first / 4096) (first % 4096 + q) bs (omega arith) ∙ ap (λ k. get_or bs k 0) place

-- the pages before one, with it
pub page_more : (size p : ℕ) (xs : List ℕ) → take (size * (p + 1)) xs ≡ take (size * p) xs ++ page_of size xs p
page_more size p xs =
    let e : size * (p + 1) ≡ size * p + size = omega arith in
    ap (λ n. take n xs) e ∙ take-add (size * p) size xs

-- what is left behind one page more
behind : (size p : ℕ) (xs : List ℕ) → drop (size * suc p) xs ≡ drop (size * p) (drop size xs)
behind size p xs =
    let e : size * suc p ≡ size + size * p = omega arith in
    ap (λ n. drop n xs) e ∙ sym (drop-drop (size * p) size xs)

-- a page is as long as the original's
as_long : (size : ℕ) (o : List ℕ) (page : Option (List ℕ)) → IfSome page (λ b. length b ≡ length (take size o)) → length (unwrap_or page (take size o)) ≡ length (take size o)
as_long size o None fit = refl
as_long size o (Some b) fit = fit

-- so are all bytes
pub overlaid_length : (size : ℕ) (o : List ℕ) (pages : List (Option (List ℕ))) → AllFit size o pages → length (overlaid size o pages) ≡ length o
overlaid_length size o [] fit = refl
overlaid_length size o (page ∷ pages) fit =
    let first = as_long size o page fit.0 in
    let rest = overlaid_length size (drop size o) pages fit.1 in
    let whole : length (take size o ++ drop size o) ≡ length o = ap length (take-append-drop size o) in
    omega (arith, first, rest, whole, length-append (take size o) (drop size o), length-append (unwrap_or page (take size o)) (overlaid size (drop size o) pages))

-- the first page of bytes that begin with a page
first_page : (size : ℕ) (o x rest : List ℕ) → length x ≡ length (take size o) → length rest ≡ length (drop size o) → take size (x ++ rest) ≡ x
first_page size o x rest long short = elim (cases_lt (length o) size) [
  | inl lt ↦
      let none : rest ≡ [] = drop_all 0 rest (omega (arith, short, length-drop size o)) in
      take_all size (x ++ rest) (omega (arith, long, short, length-append x rest, length-take size o, length-drop size o)) ∙ ap (λ r. x ++ r) none ∙ append-nil x
  | inr ge ↦ take_at x rest size (omega (arith, long, length-take size o))
]

-- each page is the owned one, or else the original's
pub page_is : (size p : ℕ) (o : List ℕ) (pages : List (Option (List ℕ))) → AllFit size o pages → size * p < length o → page_of size (overlaid size o pages) p ≡ unwrap_or (get_or pages p None) (page_of size o p)
page_is size p o [] fit lt = refl
page_is size zero o (page ∷ pages) fit lt =
    let none : size * 0 ≡ 0 = omega arith in
    let rest = overlaid size (drop size o) pages in
    let x = unwrap_or page (take size o) in
    let here : take size (x ++ rest) ≡ x = first_page size o x rest (as_long size o page fit.0) (overlaid_length size (drop size o) pages fit.1) in
    ap (λ n. take size (drop n (x ++ rest))) none ∙ here ∙ ap (λ n. unwrap_or page (take size (drop n o))) (sym none)
page_is size (suc p) o (page ∷ pages) fit lt =
    let more : size * suc p ≡ size + size * p = omega arith in
    let rest = overlaid size (drop size o) pages in
    let x = unwrap_or page (take size o) in
    let long : length x ≡ size = omega (arith, as_long size o page fit.0, length-take size o, lt, more) in
    ap (take size) (behind size p (x ++ rest)) ∙ ap (λ d. take size (drop (size * p) d)) (drop_at x rest size long)
    ∙ page_is size p (drop size o) pages fit.1 (omega (arith, length-drop size o, lt, more))
    ∙ ap (λ d. unwrap_or (get_or pages p None) (take size d)) (sym (behind size p o))

-- an owned page is as long as the original's
pub fit_at : (size p : ℕ) (o : List ℕ) (pages : List (Option (List ℕ))) (x : List ℕ) → AllFit size o pages → get_or pages p None ≡ Some x → length x ≡ length (page_of size o p)
fit_at size p o [] x fit e = cc
fit_at size zero o (page ∷ pages) x fit e =
    let none : size * 0 ≡ 0 = omega arith in
    let P : Option (List ℕ) → Type 0 = λ q. IfSome q (λ b. length b ≡ length (take size o)) in
    let here : length x ≡ length (take size o) = subst P e fit.0 in
    here ∙ ap (λ n. length (take size (drop n o))) (sym none)
fit_at size (suc p) o (page ∷ pages) x fit e =
    fit_at size p (drop size o) pages x fit.1 e ∙ ap (λ d. length (take size d)) (sym (behind size p o))

-- a page that is as long may be owned
pub fit_set : (size p : ℕ) (o : List ℕ) (pages : List (Option (List ℕ))) (x : List ℕ) → AllFit size o pages → length x ≡ length (page_of size o p) → AllFit size o (set pages p (Some x))
fit_set size p o [] x fit e = tt
fit_set size zero o (page ∷ pages) x fit e =
    let none : size * 0 ≡ 0 = omega arith in
    (e ∙ ap (λ n. length (take size (drop n o))) none, fit.1)
fit_set size (suc p) o (page ∷ pages) x fit e =
    (fit.0, fit_set size p (drop size o) pages x fit.1 (e ∙ ap (λ d. length (take size d)) (behind size p o)))

-- a page that is owned as it stands in the original leaves the bytes
pub own_same : (size p : ℕ) (o : List ℕ) (pages : List (Option (List ℕ))) → get_or pages p None ≡ None → overlaid size o (set pages p (Some (page_of size o p))) ≡ overlaid size o pages
own_same size p o [] e = refl
own_same size zero o (page ∷ pages) e =
    let none : size * 0 ≡ 0 = omega arith in
    ap (λ n. take size (drop n o) ++ overlaid size (drop size o) pages) none
    ∙ ap (λ q. unwrap_or q (take size o) ++ overlaid size (drop size o) pages) (sym e)
own_same size (suc p) o (page ∷ pages) e =
    ap (λ d. unwrap_or page (take size o) ++ overlaid size (drop size o) (set pages p (Some (take size d)))) (behind size p o)
    ∙ ap (λ r. unwrap_or page (take size o) ++ r) (own_same size p (drop size o) pages e)

-- a byte that is written into an owned page is written into all bytes
pub byte_set : (size p q b : ℕ) (o : List ℕ) (pages : List (Option (List ℕ))) (x : List ℕ) → AllFit size o pages → get_or pages p None ≡ Some x → q < length x → overlaid size o (set pages p (Some (set x q b))) ≡ set (overlaid size o pages) (size * p + q) b
byte_set size p q b o [] x fit e lt = cc
byte_set size zero q b o (page ∷ pages) x fit e lt =
    let none : size * 0 + q ≡ q = omega arith in
    let rest = overlaid size (drop size o) pages in
    sym (set-append_left x rest q b lt) ∙ ap (λ y. set (unwrap_or y (take size o) ++ rest) q b) (sym e)
    ∙ ap (λ n. set (unwrap_or page (take size o) ++ rest) n b) (sym none)
byte_set size (suc p) q b o (page ∷ pages) x fit e lt =
    let more : size * suc p ≡ size + size * p = omega arith in
    let rest = overlaid size (drop size o) pages in
    let first = unwrap_or page (take size o) in
    let far : size * suc p < length o = omega (arith, fit_at size (suc p) o (page ∷ pages) x fit e, length-take size (drop (size * suc p) o), length-drop (size * suc p) o) in
    let long : length first ≡ size = omega (arith, as_long size o page fit.0, length-take size o, far, more) in
    let place : size * suc p + q - size ≡ size * p + q = omega (arith, more) in
    ap (λ r. first ++ r) (byte_set size p q b (drop size o) pages x fit.1 e lt)
    ∙ ap (λ n. first ++ set rest n b) (sym place)
    ∙ sym (set-append_right first rest size (size * suc p + q) b long (omega (arith, more)))

-- pages none of which is owned
pub none_owned : (size n : ℕ) (o : List ℕ) → overlaid size o (replicate n None) ≡ o
none_owned size zero o = refl
none_owned size (suc n) o = ap (λ r. take size o ++ r) (none_owned size n (drop size o)) ∙ take-append-drop size o

pub none_fit : (size n : ℕ) (o : List ℕ) → AllFit size o (replicate n None)
none_fit size zero o = tt
none_fit size (suc n) o = (tt, none_fit size n (drop size o))

pub none_is : (n p : ℕ) → get_or (map is_some (replicate {A = Option (List ℕ)} n None)) p false ≡ false
none_is zero p = refl
none_is (suc n) zero = refl
none_is (suc n) (suc p) = none_is n p

-- whether a page is owned
pub owned_at : (p : ℕ) (pages : List (Option (List ℕ))) → get_or (map is_some pages) p false ≡ is_some (get_or pages p None)
owned_at p [] = refl
owned_at zero (page ∷ pages) = refl
owned_at (suc p) (page ∷ pages) = owned_at p pages

-- a page that is owned stays so
pub owned_set : (p : ℕ) (pages : List (Option (List ℕ))) (x : List ℕ) → is_some (get_or pages p None) ≡ true → map is_some (set pages p (Some x)) ≡ map is_some pages
owned_set p pages x e =
    map-set is_some pages p (Some x) ∙ ap (λ b. set (map is_some pages) p b) (sym (owned_at p pages ∙ e)) ∙ set-get_or (map is_some pages) p false

-- bytes of which one is written are bytes
pub bytes_set : (xs : List ℕ) (i b : ℕ) → AreBytes xs → b < 256 → AreBytes (set xs i b)
bytes_set xs i b small lt q = elim (cases_eq q i) [
  | inl e ↦ elim (cases_lt i (length xs)) [
    | inl inside ↦
        let same : slice_index (set xs i b) q ≡ b = ap (λ k. slice_index (set xs i b) k) e ∙ get_or-set_same xs i b 0 inside in
        rw same lt
    | inr past ↦ rw (set_past xs i b past) (small q)
  ]
  | inr ne ↦ rw (get_or-set_other xs i q b 0 ne) (small q)
]

-- bytes that are written one after the other
pub put_more : (first i b : ℕ) (xs part : List ℕ) → first + i < length xs → i < length part → get_or part i 0 ≡ b → set (put_mid first i xs (take i part)) (first + i) b ≡ put_mid first (i + 1) xs (take (i + 1) part)
put_more first i b xs part inside lt e =
    let before = take first xs in
    let done = take i part in
    let rest = drop i (drop first xs) in
    let long : length before ≡ first = omega (arith, length-take first xs) in
    let written : length done ≡ i = omega (arith, length-take i part) in
    let place : first + i - first ≡ i = omega arith in
    let start : i - i ≡ 0 = omega arith in
    let left : rest ≡ get_or (drop first xs) i 0 ∷ drop (i + 1) (drop first xs) = drop_more (drop first xs) i 0 (omega (arith, length-drop first xs)) in
    set-append_right before (done ++ rest) first (first + i) b long (omega arith)
    ∙ ap (λ n. before ++ set (done ++ rest) n b) place
    ∙ ap (λ r. before ++ r) (set-append_right done rest i i b written (omega arith))
    ∙ ap (λ n. before ++ (done ++ set rest n b)) start
    ∙ ap (λ r. before ++ (done ++ set r 0 b)) left
    ∙ ap (λ r. before ++ r) (sym (append_assoc done (b ∷ []) (drop (i + 1) (drop first xs))))
    ∙ ap (λ y. before ++ ((done ++ y ∷ []) ++ drop (i + 1) (drop first xs))) (sym e)
    ∙ ap (λ t. before ++ (t ++ drop (i + 1) (drop first xs))) (sym (take_more part i 0 lt))
