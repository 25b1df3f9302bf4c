-- What each call does to what is true of the fields.
use Rattle.std.proofs.Common.{◌≡◌, ℕ, ◌+◌, ◌≤◌, ◌<◌, List, [], ◌∷◌, ◌++◌, Option, Some, None, Result, Ok, Err, OnOk, OnErr, true, length, map, take, drop, slice_get, refl, sym, ◌∙◌, ap, subst, arith}
use Rattle.std.proofs.lemmas.List.{length_push, length-map}
use Rattle.mm_ranges.specs.declared.part.Closed.{Closed}
use Rattle.mm_views.specs.State.{State}
use Rattle.mm_model.specs.declared.action.Entry.{Entry}
use Rattle.mm_tie.specs.Ends.{taken, taker_ring, giver_ring, giver_room}
use Rattle.mm_tie.specs.Items.{image_of}
use Rattle.mm_tie.specs.declared.ends.Giver.{Giver}
use Rattle.mm_held.specs.declared.pass.Mark.{Mark}
use Rattle.mm_held.specs.declared.pass.Pass.{Pass}
use Rattle.mm_held.specs.Meaning.{Meaning, Stored}
use Rattle.mm_held.specs.History.{fold, AreReplies}
use Rattle.mm_held.specs.Steps.{IsStep}
use Rattle.mm_held.specs.Images.{Imaged, IsImaged, SameItems, opening}
use Rattle.mm_held.specs.Log.{joined, mark, marks_in, sum, AllGiven, AreOfSessions}
use Rattle.mm_held.specs.Held.{HeldView, IsHeld, IsSound, IsTold, IsToldMore, IsEntered, IsSeated, HasRoom, Telling, told_by, held_view, log_of, all_marks, section_of}
use Rattle.mm_held.proofs.Folds.{fold_push, replies_push, replies_later}
use Rattle.mm_held.proofs.Groups.{all_groups, open_push, closed_push, count_groups, of_push}
use Rattle.mm_held.proofs.Marks.{marks_push, seat_within, in_turn, same_count}

-- ---- the probe

told_push : (next : List ℕ → Entry → List ℕ) (state : List ℕ) (log : List Entry) (e : Entry) → told_by next state (log ++ e ∷ []) ≡ next (told_by next state log) e
told_push next state [] e = refl
told_push next state (x ∷ log) e = told_push next (next state x) log e

pub told_more : {P : Type 0} → (t : Telling P) (log : List Entry) (e : Entry) (p q : Option P) → IsTold t log p → IsToldMore t e p q → IsTold t (log ++ e ∷ []) q
told_more t log e None None old more = tt
told_more t log e None (Some q) old more = absurd more
told_more t log e (Some p) None old more = absurd more
told_more t log e (Some p) (Some q) old more =
    more.0 ∙ (ap (λ s. t.next p s e) old ∙ (sym (told_push (t.next p) (t.start p) log e)
    ∙ (ap (λ s. told_by (t.next p) s (log ++ e ∷ [])) (sym more.1) ∙ ap (λ n. told_by n (t.start q) (log ++ e ∷ [])) (sym more.2))))

-- ---- a step

pub some_stands : {E P : Type 0} (m : Meaning) (t : Telling P) (v : HeldView E P) → IsHeld m t v → (db : Stored) × m.stands v.images.views.private db
some_stands m t v h = (fold m h.some.0 (log_of v), h.private h.some.0 h.some.1)

module _ {E P : Type 0} (m : Meaning) (t : Telling P) (engine : E) (p q : Option P) (old new : Imaged) (counts : List ℕ) (log : List Entry) (givers givers' : List (Giver Mark)) (closed capacity : ℕ) (e : Entry)
    (s : IsSound m t engine p old counts log givers closed capacity) (same : SameItems old new) where
  abbrev before : HeldView E P
  before = held_view engine p old counts log givers

  abbrev after : HeldView E P
  after = held_view engine q new counts (log ++ e ∷ []) givers'

  within : sum counts ≤ length log
  within = omega (arith, s.closed_are, s.within)

  same_groups : after.groups ≡ before.groups
  same_groups = closed_push counts log e within

  more_waits : after.waiting ≡ before.waiting ++ e ∷ []
  more_waits = open_push counts log e within

  grown : log_of after ≡ log_of before ++ e ∷ []
  grown = all_groups counts (log ++ e ∷ []) ∙ ap (λ es. es ++ e ∷ []) (sym (all_groups counts log))

  loaded : (db : Stored) → m.stands (opening new) db → m.stands (opening old) db
  loaded db h = subst (λ (items : List Closed). m.stands (image_of (take 1 items)) db) same.given h

  pub section_is : (section : ℕ) → section ≡ new.first + length new.given → section ≡ section_of before
  section_is section is =
      let items = ap (λ (gs : List Closed). length gs) same.given in
      let groups = count_groups counts log in
      omega (arith, is, same.first, items, groups, s.items)

  module _ (step : (db : Stored) → m.stands old.views.private db → IsStep m db e.command old.views new.views e.reply) (told : IsToldMore t e p q) where
    stepped : (db : Stored) → m.stands (opening new) db → IsStep m (fold m db (log_of before)) e.command old.views new.views e.reply
    stepped db h = step (fold m db (log_of before)) (s.held.private db (loaded db h))

    still_closed : (db : Stored) → m.stands (opening new) db → (k : ℕ) → k ≤ length after.groups → m.stands (image_of (take (k + 1) new.given)) (fold m db (joined (take k after.groups)))
    still_closed db h k least =
        subst (λ (items : List Closed). m.stands (image_of (take (k + 1) items)) (fold m db (joined (take k after.groups)))) (sym same.given)
        (subst (λ (groups : List (List Entry)). m.stands (image_of (take (k + 1) old.given)) (fold m db (joined (take k groups)))) (sym same_groups)
        (s.held.closed db (loaded db h) k (subst (λ (groups : List (List Entry)). k ≤ length groups) same_groups least)))

    step_held : IsImaged new → AllGiven givers' (all_marks after) → length givers' ≡ length givers → 1 ≤ e.session → e.session ≤ length (map giver_room givers) → IsHeld m t after
    step_held imaged given sessions least most = record {
      imaged = imaged;
      seated = subst (λ n. AreOfSessions n (log_of after)) (same_count givers givers' sessions)
          (subst (AreOfSessions (length before.rooms)) (sym grown) (of_push (length before.rooms) (log_of before) e s.held.seated least most));
      lines = in_turn givers' (all_marks after) given;
      some = (s.held.some.0, subst (λ (items : List Closed). m.stands (image_of (take 1 items)) s.held.some.0) (sym same.given) s.held.some.1);
      private = λ db h. subst (λ es. m.stands new.views.private (fold m db es)) (sym grown)
          (subst (m.stands new.views.private) (sym (fold_push m db (log_of before) e)) (stepped db h).stands);
      replies = λ db h. subst (AreReplies m (m.room new.views.private) db) (sym grown)
          (replies_push m (m.room new.views.private) db (log_of before) e
          (replies_later m (m.room old.views.private) (m.room new.views.private) db (log_of before) (stepped db h).room (s.held.replies db (loaded db h))) (stepped db h).reply);
      closed = still_closed;
      counted = ap (λ (items : List Closed). map (λ (i : Closed). i.entries) (drop 1 items)) same.given ∙ (s.held.counted ∙ ap (λ (groups : List (List Entry)). map length groups) (sym same_groups));
      opened = λ none. absurd (let longer = length_push before.waiting e in let empty = ap length (sym more_waits ∙ none) in omega (arith, longer, empty));
      told = subst (λ es. IsTold t es q) (sym grown) (told_more t (log_of before) e p q s.held.told told);
    }

    pub step_sound : IsImaged new → 1 ≤ e.session → e.session ≤ length (map giver_room givers) → (section : ℕ) → section ≡ new.first + length new.given → ((marks : List Mark) → AllGiven givers marks → AllGiven givers' (marks ++ mark (length log) section e ∷ [])) → length givers' ≡ length givers
        → IsSound m t engine q new counts (log ++ e ∷ []) givers' closed capacity
    step_sound imaged least most section is handed sessions =
        let longer = length_push log e in
        let place : length log ≡ length (log_of before) = ap length (sym (all_groups counts log)) in
        let handed_so = handed (all_marks before) s.given in
        let given : AllGiven givers' (all_marks after) = subst (AllGiven givers') (sym marks_grown)
        (subst (λ n. AllGiven givers' (all_marks before ++ mark (length (log_of before)) n e ∷ [])) (section_is section is)
        (subst (λ n. AllGiven givers' (all_marks before ++ mark n section e ∷ [])) place handed_so)) in
        record {
          held = step_held imaged given sessions least most;
          given = given;
          closed_are = s.closed_are;
          within = omega (arith, longer, s.within);
          items = ap (λ (gs : List Closed). length gs) same.given ∙ s.items;
          space = omega (arith, same.most, s.space);
          sessions = omega (arith, sessions, s.sessions);
        }
      where
        marks_grown : all_marks after ≡ all_marks before ++ mark (length (log_of before)) (section_of before) e ∷ []
        marks_grown =
            ap (λ n. marks_in 0 (n + 1) (after.groups ++ after.waiting ∷ [])) same.first
            ∙ (ap (λ (groups : List (List Entry)). marks_in 0 (old.first + 1) (groups ++ after.waiting ∷ [])) same_groups
            ∙ (ap (λ es. marks_in 0 (old.first + 1) (before.groups ++ es ∷ [])) more_waits
            ∙ (marks_push 0 (old.first + 1) before.groups before.waiting e
            ∙ ap (λ n. all_marks before ++ mark n (section_of before) e ∷ []) (omega arith))))

    pub step_entered : map giver_ring givers' ≡ map giver_ring givers → map giver_room givers' ≡ map giver_room givers → IsEntered t e before after
    step_entered rings rooms = record {
      engine = refl;
      probe = told;
      first = same.first;
      given = same.given;
      ring = same.ring;
      most = same.most;
      applied = same.applied;
      groups = same_groups;
      waiting = more_waits;
      rings = rings;
      rooms = rooms;
    }

-- ---- other views

-- the same items, and views that show the same private image and the same opened intents
pub images_sound : {E P : Type 0} {m : Meaning} {t : Telling P} {engine : E} {p : Option P} {old : Imaged} {counts : List ℕ} {log : List Entry} {givers : List (Giver Mark)} {closed capacity : ℕ}
    → IsSound m t engine p old counts log givers closed capacity → (new : Imaged) → new.first ≡ old.first → new.given ≡ old.given → new.most ≡ old.most
    → new.views.private ≡ old.views.private → new.views.made ≡ old.views.made → new.views.opened ≡ old.views.opened → IsImaged new
    → IsSound m t engine p new counts log givers closed capacity
images_sound {E} {P} {m} {t} {engine} {p} {old} {counts} {log} {givers} {closed} {capacity} s new first given most private made opened imaged =
    let with_views : State → Imaged = λ w. record new { first = old.first; given = old.given; most = old.most; views = w } in
    let is : with_views (record new.views { private = old.views.private; made = old.views.made; opened = old.views.opened }) ≡ new =
    ap with_views (ap (λ x. record new.views { private = x; made = old.views.made; opened = old.views.opened }) (sym private)
    ∙ (ap (λ x. record new.views { made = x; opened = old.views.opened }) (sym made) ∙ ap (λ x. record new.views { opened = x }) (sym opened)))
    ∙ (ap (λ x. record new { first = x; given = old.given; most = old.most }) (sym first)
    ∙ (ap (λ x. record new { given = x; most = old.most }) (sym given) ∙ ap (λ x. record new { most = x }) (sym most))) in
    let like : IsSound m t engine p (with_views (record new.views { private = old.views.private; made = old.views.made; opened = old.views.opened })) counts log givers closed capacity = record {
      held = record {
        some = s.held.some;
        imaged = subst IsImaged (sym is) imaged;
        private = s.held.private;
        replies = s.held.replies;
        closed = s.held.closed;
        counted = s.held.counted;
        seated = s.held.seated;
        lines = s.held.lines;
        opened = s.held.opened;
        told = s.held.told;
      };
      given = s.given;
      closed_are = s.closed_are;
      within = s.within;
      items = s.items;
      space = s.space;
      sessions = s.sessions;
    } in
    subst (λ i. IsSound m t engine p i counts log givers closed capacity) is like

pub ready_sound : {A B E P : Type 0} {m : Meaning} {t : Telling P} {engine : E} {p : Option P} {old : Imaged} {counts : List ℕ} {log : List Entry} {givers : List (Giver Mark)} {closed capacity : ℕ}
    → IsSound m t engine p old counts log givers closed capacity → (new : Imaged) (r : Result A B) → OnOk r (new ≡ record old { views = record old.views { is_ready = true } }) → OnErr r (new ≡ old) → IsImaged new
    → IsSound m t engine p new counts log givers closed capacity
ready_sound s new (Ok a) ok err imaged =
    images_sound s new (ap (λ (i : Imaged). i.first) ok) (ap (λ (i : Imaged). i.given) ok) (ap (λ (i : Imaged). i.most) ok) (ap (λ (i : Imaged). i.views.private) ok) (ap (λ (i : Imaged). i.views.made) ok) (ap (λ (i : Imaged). i.views.opened) ok) imaged
ready_sound s new (Err b) ok err imaged =
    images_sound s new (ap (λ (i : Imaged). i.first) err) (ap (λ (i : Imaged). i.given) err) (ap (λ (i : Imaged). i.most) err) (ap (λ (i : Imaged). i.views.private) err) (ap (λ (i : Imaged). i.views.made) err) (ap (λ (i : Imaged). i.views.opened) err) imaged

-- ---- the same in other words

pub same_sound : {E P : Type 0} {m : Meaning} {t : Telling P} {engine : E} {p : Option P} {old new : Imaged} {counts : List ℕ} {log items : List Entry} {givers : List (Giver Mark)} {closed capacity : ℕ}
    → IsSound m t engine p old counts log givers closed capacity → new ≡ old → items ≡ log → IsSound m t engine p new counts items givers closed capacity
same_sound {E} {P} {m} {t} {engine} {p} {old} {new} {counts} {log} {items} {givers} {closed} {capacity} s images same =
    subst (λ i. IsSound m t engine p i counts items givers closed capacity) (sym images) (subst (λ es. IsSound m t engine p old counts es givers closed capacity) (sym same) s)

module _ {E P : Type 0} {w v : HeldView E P} (is : w ≡ v) where
  pub images_there : w.images ≡ v.images
  images_there = ap (λ (x : HeldView E P). x.images) is

  pub seat_there : (pass : Pass) → IsSeated v pass → slice_get w.rings pass.place ≡ Some (taker_ring pass.taker)
  seat_there pass seat = subst (λ (x : HeldView E P). slice_get x.rings pass.place ≡ Some (taker_ring pass.taker)) (sym is) seat

  pub room_there : (pass : Pass) → HasRoom v pass → (room : ℕ) × ((slice_get w.rooms pass.place ≡ Some room) × (length (taken pass.taker) < room))
  room_there pass room = subst (λ (x : HeldView E P). (n : ℕ) × ((slice_get x.rooms pass.place ≡ Some n) × (length (taken pass.taker) < n))) (sym is) room

  pub sits_within : (givers : List (Giver Mark)) → w.rings ≡ map giver_ring givers → (pass : Pass) → IsSeated v pass → pass.place < length givers
  sits_within givers rings pass seat =
      seat_within givers pass.place (taker_ring pass.taker) (subst (λ rs. slice_get rs pass.place ≡ Some (taker_ring pass.taker)) rings (seat_there pass seat))

  pub within_rooms : (givers : List (Giver Mark)) → w.rings ≡ map giver_ring givers → (pass : Pass) → IsSeated v pass → pass.place + 1 ≤ length (map giver_room givers)
  within_rooms givers rings pass seat = omega (arith, sits_within givers rings pass seat, length-map givers giver_room)

-- other ends, which gave the same marks
pub givers_sound : {E P : Type 0} {m : Meaning} {t : Telling P} {engine : E} {p : Option P} {images : Imaged} {counts : List ℕ} {log : List Entry} {givers : List (Giver Mark)} {closed capacity : ℕ}
    → IsSound m t engine p images counts log givers closed capacity
    → (others : List (Giver Mark)) → AllGiven others (all_marks (held_view engine p images counts log givers)) → length others ≡ length givers
    → IsSound m t engine p images counts log others closed capacity
givers_sound {E} {P} {m} {t} {engine} {p} {images} {counts} {log} {givers} s others given sessions = record {
  held = record {
    some = s.held.some;
    imaged = s.held.imaged;
    private = s.held.private;
    replies = s.held.replies;
    closed = s.held.closed;
    counted = s.held.counted;
    seated = subst (λ n. AreOfSessions n (log_of (held_view engine p images counts log givers))) (same_count givers others sessions) s.held.seated;
    lines = in_turn others (all_marks (held_view engine p images counts log others)) given;
    opened = s.held.opened;
    told = s.held.told;
  };
  given = given;
  closed_are = s.closed_are;
  within = s.within;
  items = s.items;
  space = s.space;
  sessions = omega (arith, sessions, s.sessions);
}

pub view_same : {E P : Type 0} (engine : E) (p : Option P) (images : Imaged) (counts : List ℕ) (log : List Entry) (givers others : List (Giver Mark))
    → map giver_ring others ≡ map giver_ring givers → map giver_room others ≡ map giver_room givers
    → held_view engine p images counts log others ≡ held_view engine p images counts log givers
view_same {E} {P} engine p images counts log givers others rings rooms =
    ap (λ rs. record (held_view engine p images counts log others) { rings = rs }) rings
    ∙ ap (λ rs. record (held_view engine p images counts log givers) { rooms = rs }) rooms
