-- What is true of the fields of a database that was just loaded.
use Rattle.std.proofs.Common.{◌≡◌, ℕ, ◌+◌, ◌-◌, ◌≤◌, ◌<◌, List, [], ◌∷◌, Option, Some, length, map, take, drop, sum, refl, sym, ◌∙◌, ap, subst, arith, slice_index_or, slice_index, slice_get}
use Rattle.mm_ranges.specs.declared.part.Closed.{Closed}
use Rattle.mm_views.specs.State.{State}
use Rattle.mm_model.specs.declared.action.Entry.{Entry}
use Rattle.mm_tie.specs.Ends.{Ring, given, taken, giver_ring, giver_room, taker_ring}
use Rattle.mm_tie.specs.Items.{image_of}
use Rattle.mm_tie.specs.declared.ends.Giver.{Giver}
use Rattle.mm_held.specs.declared.pass.Mark.{Mark}
use Rattle.mm_held.specs.declared.pass.Pass.{Pass}
use Rattle.mm_held.specs.Meaning.{Meaning, Stored}
use Rattle.mm_held.specs.History.{fold}
use Rattle.mm_held.specs.Images.{Imaged, IsImaged, item}
use Rattle.mm_held.specs.Loaded.{IsBegun, whole_part}
use Rattle.mm_held.specs.Log.{joined}
use Rattle.mm_held.specs.Seats.{AreSeats}
use Rattle.mm_held.specs.Held.{IsSound, IsStarted, IsTold, AreNewPasses, Telling, held_view}
use Rattle.mm_held.proofs.Seating.{seats_count, seats_given, seats_rooms, seat_at}

-- item 0 was given alone, no session was given a mark, and the private image stands for whatever the loaded one stands for
pub begun_sound : {E P : Type 0} (m : Meaning) (t : Telling P) (engine : E) (p : Option P) (images : Imaged) (givers : List (Giver Mark)) (capacity : ℕ) (x : Closed)
    → images.given ≡ x ∷ [] → ((db : Stored) × m.stands (image_of (x ∷ [])) db) → ((db : Stored) → m.stands (image_of (x ∷ [])) db → m.stands images.views.private db)
    → IsTold t [] p → ((i : ℕ) (d : Giver Mark) → i < length givers → given (slice_index_or givers i d) ≡ []) → images.most ≤ capacity + 1 → length givers < 4294967296 → IsImaged images
    → IsSound m t engine p images [] [] givers 0 capacity
begun_sound m t engine p images givers capacity x only some all told none space sessions imaged =
    let loaded : (db : Stored) → m.stands (image_of (take 1 images.given)) db → m.stands (image_of (x ∷ [])) db = λ db h. subst (λ (is : List Closed). m.stands (image_of (take 1 is)) db) only h in
    let one : length images.given ≡ 1 = ap (λ (is : List Closed). length is) only in
    record {
      held = record {
        some = (some.0, subst (λ (is : List Closed). m.stands (image_of (take 1 is)) some.0) (sym only) some.1);
        imaged = imaged;
        private = λ db h. all db (loaded db h);
        replies = λ db h. tt;
        closed = λ db h k least. let none_closed : 0 ≡ k = omega (arith, least) in subst (λ n. m.stands (image_of (take (n + 1) images.given)) (fold m db (joined (take n [])))) none_closed h;
        counted = ap (λ (is : List Closed). map (λ (i : Closed). i.entries) (drop 1 is)) only;
        seated = tt;
        lines = λ place room found. record { rise = tt; few = omega arith };
        opened = λ empty more. absurd (omega (arith, more));
        told = told;
      };
      given = λ i d lies. record { marks = none i d lies; rise = tt; few = omega arith };
      closed_are = refl;
      within = omega arith;
      items = one;
      space = space;
      sessions = sessions;
    }

-- ---- what a start makes

-- the views began well, so item 0's image stands for whatever the loaded one stands for, and so does the private one
pub began_sound : {E P : Type 0} (m : Meaning) (t : Telling P) (engine : E) (p : Option P) (loaded : State) (images : Imaged) (x : Closed) (rooms : List ℕ) (givers : List (Giver Mark)) (passes : List Pass) (groups capacity : ℕ)
    → IsBegun m loaded images.views → images.given ≡ x ∷ [] → image_of images.given ≡ loaded.private → images.most ≡ groups + 1 → capacity ≡ groups → IsTold t [] p
    → AreSeats 0 rooms givers passes → length rooms ≤ sum rooms → sum rooms < 4294967296 → IsImaged images
    → IsSound m t engine p images [] [] givers 0 capacity
began_sound m t engine p loaded images x rooms givers passes groups capacity began only whole most room told seats count bound imaged =
    let there : image_of (x ∷ []) ≡ loaded.private = ap image_of (sym only) ∙ whole in
    let len = (seats_count 0 rooms givers passes seats).0 in
    begun_sound m t engine p images givers capacity x only
    (began.some.0, subst (λ i. m.stands i began.some.0) (sym there) began.some.1) (λ db h. began.stands db (subst (λ i. m.stands i db) there h))
    told (seats_given 0 rooms givers passes seats) (omega (arith, most, room)) (omega (arith, len, count, bound)) imaged

pub is_started : {E P : Type 0} (m : Meaning) (engine : E) (p : Option P) (loaded : State) (next : ℕ) (rooms : List ℕ) (groups : ℕ) (images : Imaged) (ring : Ring) (givers : List (Giver Mark)) (passes : List Pass)
    → images ≡ record { views = images.views; first = next - 1; given = item (next - 1) (whole_part loaded.private) 0 ∷ []; ring = ring; most = groups + 1; applied = next - 1 }
    → 1 ≤ next → IsBegun m loaded images.views → image_of images.given ≡ loaded.private → AreSeats 0 rooms givers passes
    → IsStarted m engine p loaded next rooms groups (held_view engine p images [] [] givers)
is_started m engine p loaded next rooms groups images ring givers passes is least began whole seats =
    let first : images.first ≡ next - 1 = ap (λ (i : Imaged). i.first) is in
    let given : images.given ≡ item (next - 1) (whole_part loaded.private) 0 ∷ [] = ap (λ (i : Imaged). i.given) is in
    record {
      engine_is = refl;
      probe_is = refl;
      views = began;
      first = omega (arith, first, least);
      given = given ∙ ap (λ n. item n (whole_part loaded.private) 0 ∷ []) (sym first);
      loads = ap (λ (xs : List Closed). image_of (take 1 xs)) given ∙ (ap image_of (sym given) ∙ whole);
      most = ap (λ (i : Imaged). i.most) is;
      applied = ap (λ (i : Imaged). i.applied) is ∙ sym first;
      no_group = refl;
      no_entry = refl;
      rooms_are = seats_rooms 0 rooms givers passes seats;
    }

pub new_passes : {E P : Type 0} (engine : E) (p : Option P) (images : Imaged) (rooms : List ℕ) (givers : List (Giver Mark)) (passes : List Pass) → AreSeats 0 rooms givers passes → ((i : ℕ) → i < length rooms → 1 ≤ slice_index rooms i)
    → AreNewPasses (held_view engine p images [] [] givers) passes
new_passes engine p images rooms givers passes seats some =
    let count = seats_count 0 rooms givers passes seats in
    let same = seats_rooms 0 rooms givers passes seats in
    record {
      count = count.1 ∙ ap (λ (xs : List ℕ). length xs) (sym same);
      each = λ place d lies. let at = seat_at 0 rooms givers passes seats place d lies in
          let here : (slice_index_or passes place d).place ≡ place = at.place ∙ omega arith in
          let empty : length (taken (slice_index_or passes place d).taker) ≡ 0 = ap (λ (xs : List Mark). length xs) at.untold in
          let free = some place (omega (arith, lies, count.1)) in
          record {
            sits = here;
            seat = subst (λ n. slice_get (map giver_ring givers) n ≡ Some (taker_ring (slice_index_or passes place d).taker)) (sym here) at.ring;
            room = (slice_index rooms place, (subst (λ n. slice_get (map giver_room givers) n ≡ Some (slice_index rooms place)) (sym here) (subst (λ xs. slice_get xs place ≡ Some (slice_index rooms place)) (sym same) at.room), omega (arith, empty, free)));
            untold = at.untold;
          };
    }

-- the same of a log and of counts that are known to be empty
pub sound_of_empty : {E P : Type 0} {m : Meaning} {t : Telling P} {engine : E} {p : Option P} {images : Imaged} {givers : List (Giver Mark)} {capacity : ℕ} (counts : List ℕ) (log : List Entry) → counts ≡ [] → log ≡ []
    → IsSound m t engine p images [] [] givers 0 capacity → IsSound m t engine p images counts log givers 0 capacity
sound_of_empty {E} {P} {m} {t} {engine} {p} {images} {givers} {capacity} counts log none empty s =
    subst (λ ns. IsSound m t engine p images ns log givers 0 capacity) (sym none) (subst (λ es. IsSound m t engine p images [] es givers 0 capacity) (sym empty) s)

pub view_of_empty : {E P : Type 0} (engine : E) (p : Option P) (images : Imaged) (counts : List ℕ) (log : List Entry) (givers : List (Giver Mark)) → counts ≡ [] → log ≡ []
    → held_view engine p images [] [] givers ≡ held_view engine p images counts log givers
view_of_empty engine p images counts log givers none empty = ap (λ ns. held_view engine p images ns [] givers) (sym none) ∙ ap (λ es. held_view engine p images counts es givers) (sym empty)
