-- What the calls of a held database keep of what the tests know of it.
use Rattle.std.proofs.Common.{◌≡◌, ℕ, ◌+◌, ◌<◌, ◌≤◌, List, [], ◌∷◌, ◌++◌, Some, Option, Result, Ok, Err, IfOk, OnOk, OnErr, length, refl, sym, ◌∙◌, ap, subst, arith, slice_get, sum, zero, suc}
use Rattle.std.specs.Prelude.{true, slice_index, slice_index_or, ◌^◌}
use Rattle.std.proofs.lemmas.List.{length_push}
use Rattle.mm_ranges.specs.declared.part.Closed.{Closed}
use Rattle.mm_model.specs.declared.command.Command.{Command}
use Rattle.mm_tie.specs.Ends.{taken, taker_ring}
use Rattle.mm_held.specs.declared.pass.Pass.{Pass}
use Rattle.mm_held.specs.declared.pass.Mark.{Mark}
use Rattle.mm_held.specs.declared.held.Done.{Done}
use Rattle.mm_held.specs.declared.fault.Refused.{Refused}
use Rattle.mm_probe.specs.Counts.{counted, report_of}
use Rattle.mm_views.specs.State.{State, part_of}
use Rattle.mm_held.specs.Images.{IsApplied, item}
use Rattle.mm_held.specs.Log.{IsAboveLast, mark}
use Rattle.mm_held.specs.Held.{HeldView, IsEntered, IsStarted, IsNewPass, AreNewPasses, Closes, Telling, entry, log_of, section_of}
use Rattle.std.specs.FinMap.{empty}
use Rattle.mm_ranges.specs.Overlay.{Image}
use Rattle.mm_held.specs.Meaning.{Meaning, Stored}
use Rattle.mm_held.specs.Loaded.{StandsIfAny}
use Rattle.mm_held.specs.Steps.{IsSetUp}
use Rattle.mm_rows_durable.specs.Toy.{toy}
use Rattle.mm_rows_durable.specs.Sides.{IsSat, Stays, IsSide}
use Rattle.mm_rows_durable.specs.declared.subject.Side.{Side}

-- each image stands for this database, as for each other
pub some_database : Stored
some_database = record { name = []; nodes = 0; content = empty }

pub stands_always : (image : Image) → StandsIfAny toy image
stands_always image file some = (some_database, tt)

pub sets_up : (old new : Image) → IsSetUp toy old new
sets_up old new = record { some = (some_database, tt); all = λ db h. tt }

-- what the counter of the tests means
abbrev pub telling : Telling (List ℕ)
telling = record { state = λ c. c; start = λ c. 0 ∷ 0 ∷ 0 ∷ []; next = λ c. counted; shown = λ c. report_of }

above_later : (line : ℕ) (ms : List Mark) → IsAboveLast line ms → IsAboveLast (line + 1) ms
above_later line [] h = tt
above_later line (m ∷ []) h = omega (arith, h)
above_later line (m ∷ n ∷ ms) h = above_later line (n ∷ ms) h

above_push : (line : ℕ) (ms : List Mark) (m : Mark) → m.entry.line < line → IsAboveLast line (ms ++ m ∷ [])
above_push line [] m h = h
above_push line (k ∷ []) m h = h
above_push line (k ∷ l ∷ ms) m h = above_push line (l ∷ ms) m h

module _ {E P : Type 0} where
  pub stays_all : (v : HeldView E P) → Stays v v
  stays_all v = record { rings = refl; rooms = refl; ring = refl; most = refl; given = refl }

  -- a pass that isn't touched
  pub sat_same : (old new : HeldView E P) (line : ℕ) (p : Pass) → new.rings ≡ old.rings → new.rooms ≡ old.rooms → IsSat old line p → IsSat new line p
  sat_same old new line p rings rooms s = record {
    seat = subst (λ rs. slice_get rs p.place ≡ Some (taker_ring p.taker)) (sym rings) s.seat;
    room = subst (λ rs. slice_get rs p.place ≡ Some 1000) (sym rooms) s.room;
    few = s.few;
    above = s.above;
  }

  pub sat_later : (old new : HeldView E P) (line : ℕ) (p : Pass) → Stays old new → IsSat old line p → IsSat new (line + 1) p
  sat_later old new line p stays s = record {
    seat = subst (λ rs. slice_get rs p.place ≡ Some (taker_ring p.taker)) (sym stays.rings) s.seat;
    room = subst (λ rs. slice_get rs p.place ≡ Some 1000) (sym stays.rooms) s.room;
    few = omega (arith, s.few);
    above = above_later line (taken p.taker) s.above;
  }

  -- a pass that shows the same
  pub sat_alike : (v : HeldView E P) (line : ℕ) (p q : Pass) → q.place ≡ p.place → taker_ring q.taker ≡ taker_ring p.taker → taken q.taker ≡ taken p.taker → IsSat v line p → IsSat v line q
  sat_alike v line p q place ring same s = record {
    seat = subst (λ n. slice_get v.rings n ≡ Some (taker_ring q.taker)) (sym place) (s.seat ∙ ap Some (sym ring));
    room = subst (λ n. slice_get v.rooms n ≡ Some 1000) (sym place) s.room;
    few = subst (λ ms. length ms < line) (sym same) s.few;
    above = subst (IsAboveLast line) (sym same) s.above;
  }

  -- a step
  pub stepped : (t : Telling P) (old new : HeldView E P) (line : ℕ) (c : Command) (p q : Pass) (r : Result Done Refused) → IsSat old line p
      → IfOk r (λ done. IsEntered t (entry p.place line c done.reply) old new) → IfOk r (λ done. taken q.taker ≡ taken p.taker ++ mark (length (log_of old)) done.section (entry p.place line c done.reply) ∷ [])
      → OnErr r ((new ≡ old) × (taken q.taker ≡ taken p.taker)) → q.place ≡ p.place → taker_ring q.taker ≡ taker_ring p.taker → Stays old new × IsSat new (line + 1) q
  stepped t old new line c p q (Ok done) s entered marked err place ring =
      let stays : Stays old new = record { rings = entered.rings; rooms = entered.rooms; ring = entered.ring; most = entered.most; given = entered.given } in
      let m = mark (length (log_of old)) done.section (entry p.place line c done.reply) in
      let longer : length (taken q.taker) ≡ length (taken p.taker) + 1 = ap length marked ∙ length_push (taken p.taker) m in
      let later = sat_later old new line p stays s in (
        stays,
        record {
          seat = subst (λ n. slice_get new.rings n ≡ Some (taker_ring q.taker)) (sym place) (later.seat ∙ ap Some (sym ring));
          room = subst (λ n. slice_get new.rooms n ≡ Some 1000) (sym place) later.room;
          few = omega (arith, longer, s.few);
          above = subst (IsAboveLast (line + 1)) (sym marked) (above_push (line + 1) (taken p.taker) m (omega arith));
        },
      )
  stepped t old new line c p q (Err e) s entered marked err place ring =
      let stays = subst (Stays old) (sym err.0) (stays_all old) in
      (stays, sat_alike new (line + 1) p q place ring err.1 (sat_later old new line p stays s))

  pub applied_stays : (old new : HeldView E P) (section : ℕ) → IsApplied old.images section new.images → new ≡ record old { images = new.images } → Stays old new
  applied_stays old new section a same = record {
    rings = ap (λ (v : HeldView E P). v.rings) same;
    rooms = ap (λ (v : HeldView E P). v.rooms) same;
    ring = a.ring;
    most = a.most;
    given = a.given;
  }

  pub stays_then : (a b c : HeldView E P) → Stays a b → c ≡ b → Stays a c
  stays_then a b c stays same = subst (Stays a) (sym same) stays

  -- memory was taken for a close
  pub stays_ready : (old new : HeldView E P) → new ≡ record old { images = record old.images { views = record old.images.views { is_ready = true } } } → Stays old new
  stays_ready old new same = subst (Stays old) (sym same) (record { rings = refl; rooms = refl; ring = refl; most = refl; given = refl })

  pub ready_now : (old new : HeldView E P) → new ≡ record old { images = record old.images { views = record old.images.views { is_ready = true } } } → new.images.views.is_ready ≡ true
  ready_now old new same = ap (λ (v : HeldView E P). v.images.views.is_ready) same

  -- the begin
  pub sat_first : (m : Meaning) (engine : E) (probe : Option P) (loaded : State) (next groups : ℕ) (rooms : List ℕ) (v : HeldView E P) (place : ℕ) (p : Pass) → IsStarted m engine probe loaded next rooms groups v → IsNewPass v place p
      → slice_get rooms place ≡ Some 1000 → IsSat v 1 p
  sat_first m engine probe loaded next groups rooms v place p started new room =
      let none : length (taken p.taker) ≡ 0 = ap (λ (ms : List Mark). length ms) new.untold in
      record {
        seat = new.seat;
        room = subst (λ rs. slice_get rs p.place ≡ Some 1000) (sym started.rooms_are) (subst (λ n. slice_get rooms n ≡ Some 1000) (sym new.sits) room);
        few = omega (arith, none);
        above = subst (IsAboveLast 1) (sym new.untold) tt;
      }

-- the room of the session
abbrev one_room : List ℕ
one_room = 1000 ∷ []

each_some : (i : ℕ) → i < length one_room → 1 ≤ slice_index one_room i
each_some zero h = let e : slice_index one_room 0 ≡ 1000 = refl in omega (arith, e)
each_some (suc i) h = absurd (omega (arith, h))

pub rooms_some : (rooms : List ℕ) → rooms ≡ 1000 ∷ [] → (i : ℕ) → i < length rooms → 1 ≤ slice_index rooms i
rooms_some rooms are = subst (λ (rs : List ℕ). (i : ℕ) → i < length rs → 1 ≤ slice_index rs i) (sym are) each_some

pub rooms_sum : (rooms : List ℕ) → rooms ≡ 1000 ∷ [] → sum rooms < 2 ^ 32
rooms_sum rooms are = let e : sum one_room ≡ 1000 = refl in subst (λ (rs : List ℕ). sum rs < 2 ^ 32) (sym are) (omega (arith, e))

pub room_is : (rooms : List ℕ) → rooms ≡ 1000 ∷ [] → slice_get rooms 0 ≡ Some 1000
room_is rooms are = subst (λ (rs : List ℕ). slice_get rs 0 ≡ Some 1000) (sym are) refl

pub one_pass : {E P : Type 0} (v : HeldView E P) (passes : List Pass) (rooms : List ℕ) → AreNewPasses v passes → v.rooms ≡ rooms → rooms ≡ 1000 ∷ [] → length passes ≡ 1
one_pass v passes rooms all is are = let n : length v.rooms ≡ 1 = ap (λ (xs : List ℕ). length xs) (is ∙ are) in all.count ∙ n

-- what holds anyway holds where a call is Ok
pub on_ok : {T E : Type 0} (r : Result T E) (P : Type 0) → P → OnOk r P
on_ok (Ok x) P p = p
on_ok (Err e) P p = tt

pub new_pass : {E P : Type 0} (v : HeldView E P) (passes : List Pass) (p : Pass) → AreNewPasses v passes → 0 < length passes → p ≡ slice_index_or passes 0 p → IsNewPass v 0 p
new_pass v passes p all some is = subst (IsNewPass v 0) (sym is) (all.each 0 p some)

-- ---- sides

pub kept_side : (s t : Side) → IsSide s → Stays s.held t.held → t.pass ≡ s.pass → t.line ≡ s.line → t.items ≡ s.items → IsSide t
kept_side s t is stays pass line items = record {
  sat = subst (IsSat t.held t.line) (sym pass) (subst (λ (n : ℕ). IsSat t.held n s.pass) (sym line) (sat_same s.held t.held s.line s.pass stays.rings stays.rooms is.sat));
  most = stays.most ∙ is.most;
  items = omega (arith, is.items, items, ap (λ (xs : List Closed). length xs) stays.given);
}

pub stepped_side : (s t : Side) → IsSide s → Stays s.held t.held → IsSat t.held t.line t.pass → t.items ≡ s.items → IsSide t
stepped_side s t is stays sat items = record {
  sat = sat;
  most = stays.most ∙ is.most;
  items = omega (arith, is.items, items, ap (λ (xs : List Closed). length xs) stays.given);
}

pub closed_side : (s t : Side) → IsSide s → Closes s.held t.held → t.held.images.most ≡ s.held.images.most → t.pass ≡ s.pass → t.line ≡ s.line → t.items ≡ s.items + 1 → IsSide t
closed_side s t is closes most pass line items = record {
  sat = subst (IsSat t.held t.line) (sym pass) (subst (λ (n : ℕ). IsSat t.held n s.pass) (sym line) (sat_same s.held t.held s.line s.pass closes.rings closes.rooms is.sat));
  most = most ∙ is.most;
  items = omega (arith, is.items, items, ap (λ (xs : List Closed). length xs) closes.given, length_push s.held.images.given (item (section_of s.held) (part_of s.held.images.views) (length s.held.waiting)));
}
