-- What freeing makes of a shape, in the words of the map.
use Rattle.std.proofs.Common.{◌≡◌, ℕ, ◌+◌, inl, inr, List, ◌∷◌, length, refl, sym, ◌∙◌}
use Rattle.std.specs.Prelude.{◌&&◌, ◌==◌, if◌then◌else◌}
use Rattle.std.proofs.lemmas.Bool.{cases_Bool}
use Rattle.mm_ranges.specs.Overlay.{Image}
use Rattle.mm_frames.specs.Texts.{text_in}
use Rattle.mm_links.specs.Links.{Place, same, without}
use Rattle.mm_links.proofs.LinkLaws.{if_true, if_false, without_none}
use Rattle.mm_records.specs.Constants.{is_name}
use Rattle.mm_records.specs.Shape.{Shape, list_for}
use Rattle.mm_records.specs.Stands.{IsOwn}
use Rattle.mm_records.specs.Freeing.{freed_shape}
use Rattle.mm_records.specs.Map.{name_at, IsTakenOut, IsFreed}
use Rattle.mm_records.proofs.FreedCounts.{none}
use Rattle.mm_records.proofs.FreedStands.{ground_same}

pub freed_whole : (image : Image) (free : List ℕ) (s : Shape) (node : ℕ) (p : Place) (room : List ℕ) (own : IsOwn image free s node p) → own.room ≡ room
    → IsTakenOut s (freed_shape (text_in own.hh.namespace) own.a p own.h (16 + length own.room) s) p
    → IsFreed s (freed_shape (text_in own.hh.namespace) own.a p own.h (16 + length own.room) s) (name_at image node) p (16 + length room)
freed_whole image free s node p room own e map = record {
  map = map;
  extents = λ m. refl;
  records = λ f. elim (cases_Bool (same f (p.0, own.a))) [
    | inl y ↦ if_true (same f (p.0, own.a)) (without p (s.records f)) (s.records f) y
    | inr n ↦ if_false (same f (p.0, own.a)) (without p (s.records f)) (s.records f) n
        ∙ sym (without_none (s.records f) p (none s p own.h own.room own.a own.hh own.stands.extents own.stands.records own.stands.lists own.here own.ext own.there f n))
  ];
  lists = λ m i. (λ j. if is_name m (own.named j) && i == list_for (16 + length (e j)) then p ∷ s.lists m i else s.lists m i);
  layout = ground_same s p own.h own.room own.a own.hh own.stands.extents own.stands.records own.stands.lists own.here own.ext own.there;
}
