-- What a data file may leave, call by call.
use Rattle.std.proofs.Common.{◌≡◌, inl, inr, ℕ, Bool, true, false, cond, List, [], Option, Some, None, refl, sym, ◌∙◌, ap, subst, arith}
use mathlib.Core.Bool.{true≢false}
use Rattle.std.proofs.lemmas.Bool.{cases_lt, cases_Bool}
use Rattle.std.proofs.lemmas.List.{get_or_past}
use Rattle.std.specs.Prelude.{is_some}
use Rattle.mm_outside.specs.Crash.{file_after}
use Rattle.mm_outside.specs.Told.{Pending, MayLeaveFile, is_in, pending_by, Creates, Writes, Syncs}
use Rattle.mm_outside.specs.Place.{Place, place_by, clean}
use Rattle.mm_bytes.proofs.Files.{get_or-overwritten, length-overwritten}
use Rattle.mm_crash.specs.Overlay.{Entry, Puts, is_made, is_covered, covers, size, byte, DiffersWithin, LiesIn}
use Rattle.mm_crash.specs.Within.{IsWithin, IsSettled}
use Rattle.mm_crash.proofs.Overlay.{none_of, there_is, uncovered_unmade, differs_not, differs_more}

there_left : (f left : Option (List ℕ)) (p : Pending) → p.is_unsure ≡ false → MayLeaveFile f p left → is_some left ≡ is_some f
there_left None None p sure l = refl
there_left None (Some y) p sure l = absurd (true≢false (sym l.0 ∙ sure))
there_left (Some x) None p sure l = absurd (true≢false (sym l ∙ sure))
there_left (Some x) (Some y) p sure l = refl

sized_left : (f left : Option (List ℕ)) (p : Pending) (n : ℕ) → p.is_unsure ≡ false → (is_some f ≡ true → p.least ≡ n) → (is_some f ≡ true → p.greatest ≡ n) → size f ≡ n → MayLeaveFile f p left → size left ≡ n
sized_left None None p n sure least greatest now l = now
sized_left None (Some y) p n sure least greatest now l = absurd (true≢false (sym l.0 ∙ sure))
sized_left (Some x) None p n sure least greatest now l = absurd (true≢false (sym l ∙ sure))
sized_left (Some x) (Some y) p n sure least greatest now l = omega (arith, l.no_shorter, l.no_longer, least refl, greatest refl)

same_left : (f left : Option (List ℕ)) (p : Pending) (n i : ℕ) → p.is_unsure ≡ false → (is_some f ≡ true → p.least ≡ n) → (is_some f ≡ true → p.greatest ≡ n) → size f ≡ n → (is_some f ≡ true → is_in i p.ranges ≡ false) → MayLeaveFile f p left → byte left i ≡ byte f i
same_left None None p n i sure least greatest now out l = refl
same_left None (Some y) p n i sure least greatest now out l = absurd (true≢false (sym l.0 ∙ sure))
same_left (Some x) None p n i sure least greatest now out l = absurd (true≢false (sym l ∙ sure))
same_left (Some x) (Some y) p n i sure least greatest now out l = elim (cases_lt i n) [
  | inl inside ↦ l.same i (omega (arith, least refl)) (out refl)
  | inr past ↦ get_or_past y i 0 (omega (arith, l.no_longer, greatest refl)) ∙ sym (get_or_past x i 0 (omega (arith, now)))
]

module _ (entries : List Entry) (file : List ℕ) (old : Option (List ℕ)) where
  abbrev Within : Place → Type 0
  Within p = IsWithin entries file old p

  pub within_left : (p : Place) → Within p → (left : Option (List ℕ)) → MayLeaveFile p.file p.pending left → DiffersWithin entries file old left
  within_left p w left l = record {
    there = λ isnt. there_left p.file left p.pending (w.sure isnt) l ∙ w.now.there isnt;
    sized = λ isnt. sized_left p.file left p.pending (size old) (w.sure isnt) (w.least isnt) (w.greatest isnt) (w.now.sized isnt) l;
    same = λ i out. let isnt = uncovered_unmade entries file i out in same_left p.file left p.pending (size old) i (w.sure isnt) (w.least isnt) (w.greatest isnt) (w.now.sized isnt) (w.written i out) l ∙ w.now.same i out;
  }

  -- of a file that is made nothing is said
  pub within_made : is_made file entries ≡ true → (p : Place) → Within p
  within_made is p =
      let no : is_made file entries ≡ false → ⊥ = λ e. true≢false (sym is ∙ e) in
      record {
        sure = λ e. absurd (no e);
        least = λ e. absurd (no e);
        greatest = λ e. absurd (no e);
        written = λ i out some. absurd (no (uncovered_unmade entries file i out));
        now = record { there = λ e. absurd (no e); sized = λ e. absurd (no e); same = λ i out. absurd (no (uncovered_unmade entries file i out)) };
      }

  pub within_moved : (p q : Place) → q.file ≡ p.file → q.pending ≡ p.pending → Within p → Within q
  within_moved p q same pending w = record {
    sure = λ e. ap (λ (x : Pending). x.is_unsure) pending ∙ w.sure e;
    least = λ e some. ap (λ (x : Pending). x.least) pending ∙ w.least e (ap is_some (sym same) ∙ some);
    greatest = λ e some. ap (λ (x : Pending). x.greatest) pending ∙ w.greatest e (ap is_some (sym same) ∙ some);
    written = λ i out some. ap (λ (x : Pending). is_in i x.ranges) pending ∙ w.written i out (ap is_some (sym same) ∙ some);
    now = subst (DiffersWithin entries file old) (sym same) w.now;
  }

  -- a file that is there is created
  creates_stays : (done : Bool) (f : Option (List ℕ)) (p : Pending) → is_some f ≡ true → (cond done (file_after Creates f) f ≡ f) × (pending_by Creates done f p ≡ p)
  creates_stays done None p some = absurd (true≢false (sym some))
  creates_stays true (Some x) p some = (refl, refl)
  creates_stays false (Some x) p some = (refl, refl)

  pub within_create : (is_made file entries ≡ false → is_some old ≡ true) → (done : Bool) (p : Place) → Within p → Within (place_by Creates done p)
  within_create there done p w = elim (cases_Bool (is_made file entries)) [
    | inl is ↦ within_made is _
    | inr isnt ↦
        let stays = creates_stays done p.file p.pending (w.now.there isnt ∙ there isnt) in
        within_moved p (place_by Creates done p) stays.0 stays.1 w
  ]

  -- bytes are put into the file, within it and within the entries
  module _ (at : ℕ) (bytes : List ℕ) (lies : is_made file entries ≡ false → LiesIn (Puts at bytes) (size old)) (one : (i : ℕ) → is_covered file i entries ≡ false → covers (Puts at bytes) i ≡ false) where
    write_some : (isnt : is_made file entries ≡ false) (done : Bool) (f : Option (List ℕ)) (pd : Pending) (ws : List (ℕ × List ℕ)) (st : Option (List ℕ)) → is_some f ≡ true → Within (record { file = f; pending = pd; writes = ws; last_synced = st })
        → Within (place_by (Writes at bytes) done (record { file = f; pending = pd; writes = ws; last_synced = st }))
    write_some isnt done None pd ws st some w = absurd (true≢false (sym some))
    write_some isnt true (Some x) pd ws st some w = record {
      sure = w.sure;
      least = λ e s. w.least e refl;
      greatest = λ e s. omega (arith, w.greatest e refl, (lies isnt).1);
      written = λ i out s. none_of _ _ (one i out) (w.written i out refl);
      now = record {
        there = w.now.there;
        sized = λ e. length-overwritten at bytes x ∙ omega (arith, w.now.sized e, (lies isnt).1);
        same = λ i out. get_or-overwritten at bytes x i (one i out) ∙ w.now.same i out;
      };
    }
    write_some isnt false (Some x) pd ws st some w = record {
      sure = w.sure;
      least = λ e s. w.least e refl;
      greatest = λ e s. omega (arith, w.greatest e refl, (lies isnt).1);
      written = λ i out s. none_of _ _ (one i out) (w.written i out refl);
      now = w.now;
    }

    old_there : is_made file entries ≡ false → is_some old ≡ true
    old_there isnt = there_is old (omega (arith, (lies isnt).0, (lies isnt).1))

    pub within_put : (done : Bool) (p : Place) → Within p → Within (place_by (Writes at bytes) done p)
    within_put done p w = elim (cases_Bool (is_made file entries)) [
      | inl is ↦ within_made is _
      | inr isnt ↦ write_some isnt done p.file p.pending p.writes p.last_synced (w.now.there isnt ∙ old_there isnt) w
    ]

    pub within_make : (done : Bool) (p : Place) → Within p → Within (place_by Creates done p)
    within_make = within_create old_there

  -- a sync
  sync_some : (done : Bool) (f : Option (List ℕ)) (pd : Pending) (ws : List (ℕ × List ℕ)) (st : Option (List ℕ)) → Within (record { file = f; pending = pd; writes = ws; last_synced = st })
      → Within (place_by Syncs done (record { file = f; pending = pd; writes = ws; last_synced = st }))
  sync_some true None pd ws st w = record { sure = w.sure; least = w.least; greatest = w.greatest; written = w.written; now = w.now }
  sync_some true (Some x) pd ws st w = record { sure = λ e. refl; least = λ e s. w.now.sized e; greatest = λ e s. w.now.sized e; written = λ i out s. refl; now = w.now }
  sync_some false None pd ws st w = record { sure = w.sure; least = w.least; greatest = w.greatest; written = w.written; now = w.now }
  sync_some false (Some x) pd ws st w = record { sure = w.sure; least = w.least; greatest = w.greatest; written = w.written; now = w.now }

  pub within_sync : (done : Bool) (p : Place) → Within p → Within (place_by Syncs done p)
  within_sync done p w = sync_some done p.file p.pending p.writes p.last_synced w

-- a file of which nothing is pending
pub settled_clean : (file : List ℕ) (content : Option (List ℕ)) → IsSettled file (clean content)
settled_clean file None = record { sure = λ e. refl; least = λ e s. refl; greatest = λ e s. refl; written = λ i out s. refl; now = differs_not [] file None }
settled_clean file (Some x) = record { sure = λ e. refl; least = λ e s. refl; greatest = λ e s. refl; written = λ i out s. refl; now = differs_not [] file (Some x) }

-- within more entries too
pub within_more : (a b : List Entry) (file : List ℕ) (old : Option (List ℕ)) (p : Place) → (is_made file b ≡ false → is_made file a ≡ false) → ((i : ℕ) → is_covered file i b ≡ false → is_covered file i a ≡ false) → IsWithin a file old p → IsWithin b file old p
within_more a b file old p made covered w = record {
  sure = λ e. w.sure (made e);
  least = λ e. w.least (made e);
  greatest = λ e. w.greatest (made e);
  written = λ i out. w.written i (covered i out);
  now = differs_more a b file old p.file made covered w.now;
}

-- a settled file that differs from another content within entries
pub settled_differs : (entries : List Entry) (file : List ℕ) (old : Option (List ℕ)) (p : Place) → IsSettled file p → DiffersWithin entries file old p.file → IsWithin entries file old p
settled_differs entries file old p s d = record {
  sure = λ e. s.sure refl;
  least = λ e some. s.least refl some ∙ d.sized e;
  greatest = λ e some. s.greatest refl some ∙ d.sized e;
  written = λ i out some. s.written i refl some;
  now = d;
}

pub settled_within : (entries : List Entry) (file : List ℕ) (content : Option (List ℕ)) (p : Place) → p.file ≡ content → IsSettled file p → IsWithin entries file content p
settled_within entries file content p e s = settled_differs entries file content p s (subst (λ (c : Option (List ℕ)). DiffersWithin entries file c p.file) e (differs_not entries file p.file))
