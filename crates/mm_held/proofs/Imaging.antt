-- What each call does to the fact of the images.
use Rattle.std.proofs.Common.{◌≡◌, ℕ, ◌+◌, ◌≤◌, ◌<◌, List, [], ◌∷◌, ◌++◌, length, map, refl, sym, ◌∙◌, ap, subst, arith}
use Rattle.std.proofs.lemmas.List.{map_push, length_push}
use Rattle.std.specs.FinMap.{empty}
use Rattle.mm_ranges.specs.Overlay.{over, over_all, ranges_of}
use Rattle.mm_ranges.specs.Limits.{IsAllowed}
use Rattle.mm_ranges.specs.declared.part.Part.{Part}
use Rattle.mm_ranges.specs.declared.part.Closed.{Closed}
use Rattle.mm_views.specs.State.{State, IsCovered, PartFits, weight_in, closed_from, part_of, applied, applied_with, IsRemapped}
use Rattle.mm_tie.specs.Ends.{given, giver_ring, giver_room}
use Rattle.mm_tie.specs.declared.ends.Giver.{Giver}
use Rattle.mm_tie.specs.Items.{image_of, up_to, Follows}
use Rattle.mm_held.specs.Images.{Imaged, IsImaged, AreNumbered, beyond, imaged, item}
use Rattle.mm_held.proofs.Items.{numbered_push, is_numbered, in_front, parted, next_item, pushed_up_to, pushed_beyond, over_all-append, image_append}

abbrev parts_of : List Closed → List Part
parts_of items = map (λ (i : Closed). i.part) items

-- item 0 was given alone, and nothing is closed
pub first_imaged : (views : State) (first : ℕ) (part : Part) (g : Giver Closed) → given g ≡ item first part 0 ∷ [] → 1 ≤ giver_room g → over part empty ≡ views.shared → IsCovered views → views.closed ≡ []
    → weight_in views.made views.opened ≤ 67108864 → IsImaged (imaged views first first g)
first_imaged views first part g only room whole covered none light =
    let one : length (given g) ≡ 1 = ap (λ (is : List Closed). length is) only in
    let front = in_front first (item first part 0) [] (omega arith) in
    record {
      numbered = subst (AreNumbered first) (sym only) (refl, tt);
      some = omega (arith, one);
      few = omega (arith, one, room);
      from_first = omega arith;
      to_last = omega (arith, one);
      shared = sym whole ∙ sym (ap (λ (is : List Closed). image_of (up_to first is)) only ∙ ap image_of front.0);
      closed = none ∙ sym (ap (λ (is : List Closed). parts_of (beyond first is)) only ∙ ap parts_of front.1);
      covered = covered;
      light = omega (arith, light);
    }

-- other views with the same shared image and the same closed parts
pub views_anew : (v : Imaged) (w : State) → IsImaged v → w.shared ≡ v.views.shared → w.closed ≡ v.views.closed → IsCovered w → weight_in w.made w.opened ≤ 134217728
    → IsImaged (record v { views = w })
views_anew v w h shared closed covered light = record {
  numbered = h.numbered;
  some = h.some;
  few = h.few;
  from_first = h.from_first;
  to_last = h.to_last;
  shared = shared ∙ h.shared;
  closed = closed ∙ h.closed;
  covered = covered;
  light = light;
}

-- the items give what is closed over the shared image
pub all_items : (v : Imaged) → IsImaged v → image_of v.given ≡ over_all v.views.closed v.views.shared
all_items v h =
    ap image_of (sym (parted v.first v.applied v.given h.numbered))
    ∙ (image_append (up_to v.applied v.given) (beyond v.applied v.given)
    ∙ (ap (over_all (parts_of (beyond v.applied v.given))) (sym h.shared) ∙ ap (λ ps. over_all ps v.views.shared) (sym h.closed)))

module _ (v : Imaged) (x : Closed) (h : IsImaged v) (section : x.section ≡ v.first + length v.given) (part : x.part ≡ part_of v.views) where
  below : v.applied < x.section
  below = omega (arith, section, h.to_last)

  pub closed_imaged : (w : State) → w ≡ closed_from v.views → length v.given < v.most → IsCovered w → IsImaged (record v { views = w; given = v.given ++ x ∷ [] })
  closed_imaged w is room covered =
      let longer : length (v.given ++ x ∷ []) ≡ length v.given + 1 = length_push v.given x in
      subst (λ s. IsImaged (record v { views = s; given = v.given ++ x ∷ [] })) (sym is) (record {
        numbered = numbered_push v.first v.given x h.numbered section;
        some = omega (arith, longer);
        few = omega (arith, longer, room);
        from_first = h.from_first;
        to_last = omega (arith, longer, h.to_last);
        shared = h.shared ∙ ap image_of (sym (pushed_up_to v.applied v.given x below));
        closed = ap (λ ps. ps ++ part_of v.views ∷ []) h.closed ∙ (ap (λ p. parts_of (beyond v.applied v.given) ++ p ∷ []) (sym part)
            ∙ (sym (map_push (λ (i : Closed). i.part) (beyond v.applied v.given) x) ∙ ap parts_of (sym (pushed_beyond v.applied v.given x below))));
        covered = subst IsCovered is covered;
        light = omega arith;
      })

  pub closed_whole : (w : State) → w ≡ closed_from v.views → over_all w.closed w.shared ≡ w.private → image_of (v.given ++ x ∷ []) ≡ w.private
  closed_whole w is whole = image_append v.given (x ∷ []) ∙ (ap (over x.part) (all_items v h) ∙ (ap (λ p. over p (over_all v.views.closed v.views.shared)) part
      ∙ (sym (over_all-append v.views.closed (part_of v.views ∷ []) v.views.shared) ∙ (ap (λ (s : State). over_all s.closed s.shared) (sym is) ∙ whole))))

  pub item_follows : IsAllowed x.part → ranges_of x.part.pieces ≡ v.views.opened → PartFits (over_all v.views.closed v.views.shared) x.part → Follows v.given x
  item_follows allowed ranges fits = record {
    numbered = is_numbered v.first v.given x.section h.numbered section;
    allowed = allowed;
    light = subst (λ rs. weight_in x.part.made rs ≤ 134217728) (sym ranges) (subst (λ (p : Part). weight_in p.made v.views.opened ≤ 134217728) (sym part) h.light);
    fits = subst (λ image. PartFits image x.part) (sym (all_items v h)) fits;
  }

-- the part of the next section is applied
pub some_waits : (v : Imaged) → IsImaged v → v.applied + 1 < v.first + length v.given → 0 < length v.views.closed
some_waits v h more =
    let next = next_item v.first v.applied v.given h.numbered (omega (arith, h.from_first)) more in
    let one : length (parts_of (next.0 ∷ next.1.0)) ≡ length (parts_of next.1.0) + 1 = omega arith in
    subst (λ ps. 0 < length ps) (sym (h.closed ∙ ap parts_of next.1.1.found)) (omega (arith, one))

pub one_applied : (v : Imaged) (w : State) → w ≡ applied v.views → IsImaged v → v.applied + 1 < v.first + length v.given → IsCovered w → IsImaged (record v { views = w; applied = v.applied + 1 })
one_applied v w by h more covered =
    let next = next_item v.first v.applied v.given h.numbered (omega (arith, h.from_first)) more in
    let x = next.0 in
    let k = next.1.1 in
    let is : v.views.closed ≡ x.part ∷ parts_of next.1.0 = h.closed ∙ ap parts_of k.found in
    let made : w ≡ applied_with v.views (x.part ∷ parts_of next.1.0) = by ∙ ap (applied_with v.views) is in
    subst (λ s. IsImaged (record v { views = s; applied = v.applied + 1 })) (sym made) (record {
      numbered = h.numbered;
      some = h.some;
      few = h.few;
      from_first = omega (arith, h.from_first);
      to_last = more;
      shared = ap (over x.part) h.shared ∙ (sym (image_append (up_to v.applied v.given) (x ∷ [])) ∙ ap image_of (sym k.up_to));
      closed = ap parts_of (sym k.beyond);
      covered = subst IsCovered made covered;
      light = h.light;
    })

pub remapped_same : (old new : State) → IsRemapped old new → new ≡ old
remapped_same old new r =
    ap (λ x. record new { shared = x }) r.shared ∙ (ap (λ x. record new { shared = old.shared; private = x }) r.private
    ∙ (ap (λ x. record new { shared = old.shared; private = old.private; made = x }) r.made
    ∙ (ap (λ x. record new { shared = old.shared; private = old.private; made = old.made; opened = x }) r.opened
    ∙ (ap (λ x. record new { shared = old.shared; private = old.private; made = old.made; opened = old.opened; closed = x }) r.closed
    ∙ ap (λ x. record old { is_ready = x }) r.is_ready))))

-- the parts of the next item are the oldest closed ones, and only the shared image changes
pub applied_rest : (s : State) → ((applied s).private ≡ s.private) × ((applied s).made ≡ s.made) × ((applied s).opened ≡ s.opened)
applied_rest s = elim s.closed as (λ ps. ((applied_with s ps).private ≡ s.private) × ((applied_with s ps).made ≡ s.made) × ((applied_with s ps).opened ≡ s.opened)) [
  | [] ↦ (refl, refl, refl)
  | ◌∷◌ p (ps → hps) ↦ (refl, refl, refl)
]

-- an end that gave one more item shows it, and else the same
pub giver_anew : (w : State) (first applied : ℕ) (g g' : Giver Closed) (x : Closed) → given g' ≡ given g ++ x ∷ [] → giver_ring g' ≡ giver_ring g → giver_room g' ≡ giver_room g
    → record (imaged w first applied g) { given = given g ++ x ∷ [] } ≡ imaged w first applied g'
giver_anew w first applied g g' x grown ring room =
    ap (λ items. record (imaged w first applied g) { given = items }) (sym grown)
    ∙ (ap (λ r. record (imaged w first applied g) { given = given g'; ring = r }) (sym ring) ∙ ap (λ n. record (imaged w first applied g') { most = n }) (sym room))
