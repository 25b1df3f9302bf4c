-- What a close does to what is true of the fields.
use Rattle.std.proofs.Common.{◌≡◌, ℕ, ◌+◌, ◌≤◌, List, [], ◌∷◌, ◌++◌, Option, length, map, take, drop, refl, sym, ◌∙◌, ap, subst, arith, inl, inr}
use Rattle.std.proofs.lemmas.Bool.{cases_lt}
use Rattle.std.proofs.lemmas.List.{length_push, map_push}
use Rattle.std.proofs.Math.Seq.{take-length}
use Rattle.mm_ranges.specs.declared.part.Closed.{Closed}
use Rattle.mm_views.specs.State.{closed_from, part_of}
use Rattle.mm_model.specs.declared.action.Entry.{Entry}
use Rattle.mm_tie.specs.Items.{image_of}
use Rattle.mm_tie.specs.declared.ends.Giver.{Giver}
use Rattle.mm_held.specs.declared.pass.Mark.{Mark}
use Rattle.mm_held.specs.Meaning.{Meaning, Stored}
use Rattle.mm_held.specs.History.{fold, AreReplies}
use Rattle.mm_held.specs.Images.{Imaged, IsImaged, opening, item}
use Rattle.mm_held.specs.Log.{closed_groups, open_group, joined, marks_in, sum, AllGiven, AreOfSessions}
use Rattle.mm_held.specs.Held.{HeldView, IsHeld, IsSound, IsTold, Closes, Telling, held_view, log_of, all_marks, section_of}
use Rattle.mm_held.proofs.Groups.{sum_push, take_push, drop_push, all_groups, open_len, close_groups, close_open, count_groups}
use Rattle.mm_held.proofs.Marks.{marks_closed, in_turn}

-- how many entries wait
pub how_many : (counts : List ℕ) (log : List Entry) (closed n : ℕ) → closed ≡ sum counts → closed ≤ length log → n + closed ≡ length log → n ≡ length (open_group counts log)
how_many counts log closed n is within rest = let len = open_len counts log (omega (arith, is, within)) in omega (arith, len, is, rest)

module _ {E P : Type 0} (m : Meaning) (t : Telling P) (engine : E) (p : Option P) (old : Imaged) (counts : List ℕ) (log : List Entry) (givers : List (Giver Mark)) (closed capacity n : ℕ) (x : Closed)
    (s : IsSound m t engine p old counts log givers closed capacity) (rest : n + closed ≡ length log) (item_is : x ≡ item (old.first + length old.given) (part_of old.views) n) where
  abbrev new : Imaged
  new = record old { views = closed_from old.views; given = old.given ++ x ∷ [] }

  abbrev before : HeldView E P
  before = held_view engine p old counts log givers

  abbrev after : HeldView E P
  after = held_view engine p new (counts ++ n ∷ []) log givers

  waited : n ≡ length before.waiting
  waited = how_many counts log closed n s.closed_are s.within rest

  groups_are : after.groups ≡ before.groups ++ before.waiting ∷ []
  groups_are = ap (λ k. closed_groups (counts ++ k ∷ []) log) waited ∙ close_groups counts log

  none_waits : after.waiting ≡ []
  none_waits = ap (λ k. open_group (counts ++ k ∷ []) log) waited ∙ close_open counts log

  same_log : log_of after ≡ log_of before
  same_log = all_groups (counts ++ n ∷ []) log ∙ sym (all_groups counts log)

  how_long : length old.given ≡ length before.groups + 1
  how_long = let groups = count_groups counts log in omega (arith, groups, s.items)

  same_first : take 1 (old.given ++ x ∷ []) ≡ take 1 old.given
  same_first = take_push 1 old.given x (omega (arith, how_long))

  loaded : (db : Stored) → m.stands (opening new) db → m.stands (opening old) db
  loaded db h = subst (λ (items : List Closed). m.stands (image_of items) db) same_first h

  -- the new item, and the whole log
  at_end : (db : Stored) → m.stands (opening new) db → image_of new.given ≡ old.views.private → m.stands (image_of new.given) (fold m db (joined (before.groups ++ before.waiting ∷ [])))
  at_end db h whole =
      let all : log_of before ≡ joined (before.groups ++ before.waiting ∷ []) = joined_push before.groups before.waiting in
      subst (λ image. m.stands image (fold m db (joined (before.groups ++ before.waiting ∷ [])))) (sym whole)
      (subst (λ es. m.stands old.views.private (fold m db es)) all (s.held.private db (loaded db h)))
    where
      append_nil : (es : List Entry) → es ≡ es ++ []
      append_nil [] = refl
      append_nil (e ∷ es) = ap (λ ys. e ∷ ys) (append_nil es)

      append_again : (es fs gs : List Entry) → (es ++ fs) ++ gs ≡ es ++ (fs ++ gs)
      append_again [] fs gs = refl
      append_again (e ∷ es) fs gs = ap (λ ys. e ∷ ys) (append_again es fs gs)

      joined_push : (groups : List (List Entry)) (g : List Entry) → joined groups ++ g ≡ joined (groups ++ g ∷ [])
      joined_push [] g = append_nil g
      joined_push (f ∷ groups) g = append_again f (joined groups) g ∙ ap (λ es. f ++ es) (joined_push groups g)

  closed_there : image_of new.given ≡ old.views.private → (db : Stored) → m.stands (opening new) db → (k : ℕ) → k ≤ length before.groups + 1
      → m.stands (image_of (take (k + 1) new.given)) (fold m db (joined (take k (before.groups ++ before.waiting ∷ []))))
  closed_there whole db h k least = elim (cases_lt k (length before.groups + 1)) [
    | inl low ↦
        (let items : take (k + 1) old.given ≡ take (k + 1) new.given = sym (take_push (k + 1) old.given x (omega (arith, low, how_long))) in
        let groups : take k before.groups ≡ take k (before.groups ++ before.waiting ∷ []) = sym (take_push k before.groups before.waiting (omega (arith, low))) in
        subst (λ (gs : List (List Entry)). m.stands (image_of (take (k + 1) new.given)) (fold m db (joined gs))) groups
        (subst (λ (is : List Closed). m.stands (image_of is) (fold m db (joined (take k before.groups)))) items (s.held.closed db (loaded db h) k (omega (arith, low)))))
    | inr high ↦
        (let items_len = length_push old.given x in
        let groups_len = length_push before.groups before.waiting in
        let items : new.given ≡ take (k + 1) new.given = sym (ap (λ i. take i new.given) (omega (arith, least, high, how_long, items_len)) ∙ take-length new.given) in
        let groups : before.groups ++ before.waiting ∷ [] ≡ take k (before.groups ++ before.waiting ∷ []) =
        sym (ap (λ i. take i (before.groups ++ before.waiting ∷ [])) (omega (arith, least, high, groups_len)) ∙ take-length (before.groups ++ before.waiting ∷ [])) in
        subst (λ (gs : List (List Entry)). m.stands (image_of (take (k + 1) new.given)) (fold m db (joined gs))) groups
        (subst (λ (is : List Closed). m.stands (image_of is) (fold m db (joined (before.groups ++ before.waiting ∷ [])))) items (at_end db h whole)))
  ]

  same_marks : all_marks after ≡ all_marks before
  same_marks =
      ap (λ (groups : List (List Entry)). marks_in 0 (old.first + 1) (groups ++ after.waiting ∷ [])) groups_are
      ∙ (ap (λ es. marks_in 0 (old.first + 1) ((before.groups ++ before.waiting ∷ []) ++ es ∷ [])) none_waits
      ∙ marks_closed 0 (old.first + 1) before.groups before.waiting)

  close_held : image_of new.given ≡ old.views.private → IsImaged new → IsHeld m t after
  close_held whole imaged = record {
    imaged = imaged;
    seated = subst (AreOfSessions (length after.rooms)) (sym same_log) s.held.seated;
    lines = in_turn givers (all_marks after) (subst (AllGiven givers) (sym same_marks) s.given);
    some = (s.held.some.0, subst (λ (items : List Closed). m.stands (image_of items) s.held.some.0) (sym same_first) s.held.some.1);
    private = λ db h. subst (λ es. m.stands old.views.private (fold m db es)) (sym same_log) (s.held.private db (loaded db h));
    replies = λ db h. subst (AreReplies m (m.room old.views.private) db) (sym same_log) (s.held.replies db (loaded db h));
    closed = λ db h k least. subst (λ (groups : List (List Entry)). m.stands (image_of (take (k + 1) new.given)) (fold m db (joined (take k groups)))) (sym groups_are)
        (closed_there whole db h k (let len = length_push before.groups before.waiting in subst (λ i. k ≤ i) len (subst (λ (groups : List (List Entry)). k ≤ length groups) groups_are least)));
    counted = ap (λ (items : List Closed). map (λ (i : Closed). i.entries) items) (drop_push 1 old.given x (omega (arith, how_long)))
        ∙ (map_push (λ (i : Closed). i.entries) (drop 1 old.given) x
        ∙ (ap (λ ns. ns ++ x.entries ∷ []) s.held.counted
        ∙ (ap (λ k. map length before.groups ++ k ∷ []) (ap (λ (i : Closed). i.entries) item_is ∙ waited)
        ∙ (sym (map_push length before.groups before.waiting) ∙ ap (λ (groups : List (List Entry)). map length groups) (sym groups_are)))));
    opened = λ none some. (refl, refl);
    told = subst (λ es. IsTold t es p) (sym same_log) s.held.told;
  }

  pub close_sound : image_of new.given ≡ old.views.private → IsImaged new → IsSound m t engine p new (counts ++ n ∷ []) log givers (length log) capacity
  close_sound whole imaged =
      let sums = sum_push counts n in
      let items_len = length_push old.given x in
      let counts_len = length_push counts n in
      record {
        held = close_held whole imaged;
        given = subst (AllGiven givers) (sym same_marks) s.given;
        closed_are = omega (arith, sums, rest, s.closed_are);
        within = omega arith;
        items = omega (arith, items_len, counts_len, s.items);
        space = s.space;
        sessions = s.sessions;
      }

  pub close_closes : Closes before after
  close_closes = record {
    engine = refl;
    probe = refl;
    first = refl;
    given = ap (λ i. old.given ++ i ∷ []) (item_is ∙ (ap (λ k. item k (part_of old.views) n) (omega (arith, how_long)) ∙ ap (item (section_of before) (part_of old.views)) waited));
    applied = refl;
    shared = refl;
    private = refl;
    groups = groups_are;
    waiting = none_waits;
    rings = refl;
    rooms = refl;
  }

-- the same in other words
pub closed_sound : {E P : Type 0} {m : Meaning} {t : Telling P} {engine : E} {p : Option P} {i j : Imaged} {counts more : List ℕ} {log : List Entry} {givers : List (Giver Mark)} {closed all capacity same : ℕ}
    → IsSound m t engine p i counts log givers closed capacity → j ≡ i → more ≡ counts → all ≡ closed → same ≡ capacity → IsSound m t engine p j more log givers all same
closed_sound {E} {P} {m} {t} {engine} {p} {i} {j} {counts} {more} {log} {givers} {closed} {all} {capacity} {same} s images counted ends space =
    subst (λ x. IsSound m t engine p x more log givers all same) (sym images)
    (subst (λ x. IsSound m t engine p i x log givers all same) (sym counted)
    (subst (λ x. IsSound m t engine p i counts log givers x same) (sym ends)
    (subst (λ x. IsSound m t engine p i counts log givers closed x) (sym space) s)))
