-- A chain is what is followed from its first place, and the places that frames name.
use Rattle.std.proofs.Common.{◌≡◌, ℕ, zero, suc, ℤ, pos, negsuc, ◌≤◌, true, List, [], ◌∷◌, ◌++◌, length, Option, Some, None, refl, sym, ◌∙◌, ap, arith, append_assoc}
use Rattle.std.specs.Prelude.{flat_map}
use Rattle.mm_base.specs.declared.place.DiskLoc.{DiskLoc}
use Rattle.mm_base.proofs.PlaceLaws.{place_same}
use Rattle.mm_links.specs.Links.{Place, has, once, first_of, next_in}
use Rattle.mm_links.proofs.LinkLaws.{same_own, has_here, has_more}
use Rattle.mm_extents.specs.Changes.{IsLow, LowOr, loc, loc_or, ofs_or}
use Rattle.mm_extents.proofs.Spots.{low_file}
use Rattle.mm_extents.proofs.Walks.{AllLow, not_longer, has_middle, next_middle}
use Rattle.mm_trees.specs.Walked.{follow, most_steps, spot_of, spot_in, spot_inside}

follow_rest : (next : Place → Option Place) (xs before rest : List Place) → xs ≡ before ++ rest → once xs ≡ true → ((p : Place) → has xs p ≡ true → next p ≡ next_in xs p)
    → (n : ℕ) → length rest ≤ n → follow n next (first_of rest) ≡ rest
follow_rest next xs before [] i o f zero le = refl
follow_rest next xs before [] i o f (suc n) le = refl
follow_rest next xs before (p ∷ ps) i o f zero le = absurd (omega (arith, le))
follow_rest next xs before (p ∷ ps) i o f (suc n) le =
    let on : has xs p ≡ true = ap (λ (ys : List Place). has ys p) i ∙ has_middle before p ps in
    let there : next_in xs p ≡ first_of ps = ap (λ (ys : List Place). next_in ys p) i ∙ next_middle before p ps (sym (ap once i) ∙ o) in
    ap (λ (ys : List Place). p ∷ ys) (ap (λ (x : Option Place). follow n next x) (f p on ∙ there) ∙ follow_rest next xs (before ++ p ∷ []) ps (i ∙ sym (append_assoc before (p ∷ []) ps)) o f n (omega (arith, le)))

few_steps : (xs : List Place) → AllLow xs → once xs ≡ true → length xs ≤ most_steps
unfolding most_steps
few_steps xs a o = not_longer xs a o

-- a chain whose places name those behind them
pub follow_all : (next : Place → Option Place) (xs : List Place) (first : Option Place) → AllLow xs → once xs ≡ true → ((p : Place) → has xs p ≡ true → next p ≡ next_in xs p) → first ≡ first_of xs → follow most_steps next first ≡ xs
follow_all next xs first a o f e = ap (λ (x : Option Place). follow most_steps next x) e ∙ follow_rest next xs [] xs refl o f most_steps (few_steps xs a o)

pub flat_same : (f g : Place → List Place) (xs : List Place) → ((x : Place) → has xs x ≡ true → f x ≡ g x) → flat_map f xs ≡ flat_map g xs
flat_same f g [] h = refl
flat_same f g (x ∷ xs) h =
    let here = h x (has_here x xs x (same_own x)) in
    let more = flat_same f g xs (λ y i. h y (has_more x xs y i)) in
    λ i. here i ++ more i

-- ---- what frames name

pub spot_loc : (p : Place) → IsLow p → spot_in (loc p) ≡ Some p
spot_loc p l = let t = low_file p l in λ i. spot_of (t.0 i) (t.1 i)

pub spot_loc_or : (o : Option Place) → LowOr o → spot_in (loc_or o) ≡ o
spot_loc_or None l = refl
spot_loc_or (Some p) l = spot_loc p l

pub inside_ofs : (file : ℕ) (o : Option Place) → ((q : Place) → o ≡ Some q → file ≡ q.0) → spot_inside file (ofs_or o) ≡ o
inside_ofs file None h = refl
inside_ofs file (Some q) h = let e = h q refl in λ i. Some (e i, q.1)

parts_of : (file ofs : ℤ) (p : Place) → spot_of file ofs ≡ Some p → (file ≡ pos p.0) × (ofs ≡ pos p.1)
parts_of (pos a) (pos b) p e = let f : ◌≡◌ {A = Place} (a, b) p = cc in (ap (λ (q : Place). pos q.0) f, ap (λ (q : Place). pos q.1) f)
parts_of (pos a) (negsuc b) p e = absurd cc
parts_of (negsuc a) ofs p e = absurd cc

-- two places that name one spot are one
pub spot_once : (d c : DiskLoc) (p : Place) → spot_in d ≡ Some p → spot_in c ≡ Some p → d ≡ c
spot_once d c p e f =
    let x = parts_of d.file d.ofs p e in
    let y = parts_of c.file c.ofs p f in
    place_same d c (x.0 ∙ sym y.0) (x.1 ∙ sym y.1)

-- a place that names a low spot is the spot's
pub spot_is_loc : (d : DiskLoc) (p : Place) → IsLow p → spot_in d ≡ Some p → d ≡ loc p
spot_is_loc d p l e = spot_once d (loc p) p e (spot_loc p l)
