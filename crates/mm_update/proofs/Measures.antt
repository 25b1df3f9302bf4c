-- The length of a document with several edits made, one after the other.
use Rattle.std.proofs.Common.{◌≡◌, ℕ, ◌+◌, ◌<◌, ◌≤◌, false, List, [], ◌∷◌, ◌++◌, length, get_or, drop, Ok, refl, sym, ap, subst, ◌∙◌, arith}
use Rattle.std.proofs.lemmas.List.{drop_all}
use Rattle.std.specs.Prelude.{◌||◌, max}
use Rattle.mm_bson.specs.Tree.{Elements}
use Rattle.mm_bson.specs.Path.{names}
use Rattle.mm_update.specs.declared.fault.ChangeFault.{ChangeFault}
use Rattle.mm_update.specs.Paths.{leads, overlap, overlaps_any}
use Rattle.mm_update.specs.Edit.{Edit, paths}
use Rattle.mm_update.specs.Edited.{Outcome, and_then, edited, all_edited, Fails}
use Rattle.mm_update.specs.Laws.{AreApart}
use Rattle.mm_update.specs.Meeting.{Meeting, meet, reach, reached, closer, most_common, doc_len, ArePast, Measured, MeasuredBy}
use Rattle.mm_update.proofs.Listed.{first_edit_is}
use Rattle.mm_update.proofs.Walk.{paths-append, any_last}
use Rattle.mm_update.proofs.Whole.{or_left, or_right, or_swap}
use Rattle.mm_update.proofs.Onward.{Fails-then, Fails-along}
use Rattle.mm_update.proofs.Meets.{closer-none, closer-twice, edit_meets}

past_none : (es : List Edit) → ArePast [] es
past_none [] = tt
past_none (e ∷ es) = (refl, past_none es)

measured_first : (es : List Edit) (old : Elements) → AreApart es → Measured [] es old (all_edited es old) (doc_len old)
measured_first es old apart = record {
  doc = old;
  told = refl;
  counted = refl;
  met = λ q free. sym (closer-none (meet (names q) old));
  past = past_none es;
  apart = apart;
}

overlaps_last : (done : List Edit) (e : Edit) (q : List ℕ) → overlaps_any (paths (done ++ e ∷ [])) q ≡ (overlap e.path q || overlaps_any (paths done) q)
overlaps_last done e q = ap (λ (ps : List (List ℕ)). overlaps_any ps q) (paths-append done (e ∷ [])) ∙ any_last (paths done) e.path q

reached_last : (done : List Edit) (e : Edit) (ms : List (List ℕ)) → max (reached done ms) (reach e ms) ≡ reached (done ++ e ∷ []) ms
reached_last [] e ms = omega arith
reached_last (x ∷ done) e ms = omega (arith, reached_last done e ms)

past_on : (done : List Edit) (e : Edit) (others : List Edit) → ArePast (paths done) others → overlaps_any (paths others) e.path ≡ false → ArePast (paths (done ++ e ∷ [])) others
past_on done e [] past apart = tt
past_on done e (x ∷ others) past apart =
    let here : overlap e.path x.path ≡ false = or_swap (leads (names x.path) (names e.path)) (leads (names e.path) (names x.path)) (or_left (overlap x.path e.path) (overlaps_any (paths others) e.path) apart) in
    (overlaps_last done e x.path ∙ rw (here, past.0) refl, past_on done e others past.1 (or_right (overlap x.path e.path) (overlaps_any (paths others) e.path) apart))

module _ (done : List Edit) (e : Edit) (others : List Edit) (old : Elements) (whole : Outcome Elements) (len : ℕ) (m : Measured done (e ∷ others) old whole len) where
  measured_meets : meet (names e.path) m.doc ≡ closer (reached done (names e.path)) (meet (names e.path) old)
  measured_meets = m.met e.path m.past.0

  measured_fails : (f : ChangeFault) → Fails f (edited e m.doc) → Fails f whole
  measured_fails f h = Fails-along f (and_then (all_edited others) (edited e m.doc)) whole m.told (Fails-then (all_edited others) f (edited e m.doc) h)

  measured_on : (next : ℕ) → ((new : Elements) × (edited e m.doc ≡ Ok new) × (doc_len new ≡ next)) → Measured (done ++ e ∷ []) others old whole next
  measured_on next g = record {
    doc = g.0;
    told = ap (and_then (all_edited others)) (sym g.1) ∙ m.told;
    counted = g.2;
    met = λ q free.
        let both : (overlap e.path q || overlaps_any (paths done) q) ≡ false = sym (overlaps_last done e q) ∙ free in
        edit_meets e q m.doc g.0 g.1 (or_left (overlap e.path q) (overlaps_any (paths done) q) both) ∙ ap (closer (reach e (names q))) (m.met q (or_right (overlap e.path q) (overlaps_any (paths done) q) both))
        ∙ closer-twice (reach e (names q)) (reached done (names q)) (meet (names q) old) ∙ ap (λ (n : ℕ). closer n (meet (names q) old)) (reached_last done e (names q));
    past = past_on done e others m.past.1 m.apart.0;
    apart = m.apart.1;
  }

measured_last : (done rest : List Edit) (old : Elements) (whole : Outcome Elements) (len : ℕ) → Measured done rest old whole len → rest ≡ [] → (new : Elements) × (whole ≡ Ok new) × (doc_len new ≡ len)
measured_last done rest old whole len m none = (m.doc, sym m.told ∙ ap (λ (es : List Edit). all_edited es m.doc) none, m.counted)

-- ---- with the paths that are made so far

pub by_first : (es : List Edit) (old : Elements) (len : ℕ) → AreApart es → doc_len old ≡ len → MeasuredBy [] es old (all_edited es old) len
by_first es old len apart counted = rw (← counted) (record { done = []; measured = measured_first es old apart; made = λ ms. refl; free = λ q none. refl })

module _ (makers : List (List ℕ)) (e : Edit) (others : List Edit) (old : Elements) (whole : Outcome Elements) (len : ℕ) (m : MeasuredBy makers (e ∷ others) old whole len) where
  by_meets : meet (names e.path) m.measured.doc ≡ closer (most_common makers (names e.path)) (meet (names e.path) old)
  by_meets = measured_meets m.done e others old whole len m.measured ∙ ap (λ (n : ℕ). closer n (meet (names e.path) old)) (sym (m.made (names e.path)))

  by_fails : (f : ChangeFault) → Fails f (edited e m.measured.doc) → Fails f whole
  by_fails f h = measured_fails m.done e others old whole len m.measured f h

  by_free : overlaps_any makers e.path ≡ false
  by_free = m.free e.path m.measured.past.0

  by_on : (new : List (List ℕ)) (next : ℕ) → ((doc : Elements) × (edited e m.measured.doc ≡ Ok doc) × (doc_len doc ≡ next)) → ((ms : List (List ℕ)) → most_common new ms ≡ max (reach e ms) (most_common makers ms))
      → ((q : List ℕ) → overlap e.path q ≡ false → overlaps_any makers q ≡ false → overlaps_any new q ≡ false) → MeasuredBy new others old whole next
  by_on new next g more free = record {
    done = m.done ++ e ∷ [];
    measured = measured_on m.done e others old whole len m.measured next g;
    made = λ ms. omega (arith, more ms, m.made ms, reached_last m.done e ms);
    free = λ q none.
        let both : (overlap e.path q || overlaps_any (paths m.done) q) ≡ false = sym (overlaps_last m.done e q) ∙ none in
        free q (or_left (overlap e.path q) (overlaps_any (paths m.done) q) both) (m.free q (or_right (overlap e.path q) (overlaps_any (paths m.done) q) both));
  }

-- the same of the edits from a place on, where a meeting that is seen is that of the edit there
module _ (makers : List (List ℕ)) (es : List Edit) (i : ℕ) (e : Edit) (here : i < length es) (is : e ≡ get_or es i e) (old : Elements) (whole : Outcome Elements) (len : ℕ) (told : MeasuredBy makers (drop i es) old whole len) where
  abbrev behind : List Edit
  behind = drop (i + 1) es

  from_here : MeasuredBy makers (e ∷ behind) old whole len
  from_here = subst (λ (r : List Edit). MeasuredBy makers r old whole len) (first_edit_is e es i here is) told

  pub by_free_at : overlaps_any makers e.path ≡ false
  by_free_at = by_free makers e behind old whole len from_here

  module _ (seen : Meeting) (met : seen ≡ closer (most_common makers (names e.path)) (meet (names e.path) old)) where
    meets : meet (names e.path) from_here.measured.doc ≡ seen
    meets = by_meets makers e behind old whole len from_here ∙ sym met

    pub by_fails_at : (f : ChangeFault) → ((doc : Elements) → meet (names e.path) doc ≡ seen → doc_len doc ≡ len → Fails f (edited e doc)) → Fails f whole
    by_fails_at f fails = by_fails makers e behind old whole len from_here f (fails from_here.measured.doc meets from_here.measured.counted)

    pub by_on_at : (new : List (List ℕ)) (next : ℕ) → ((doc : Elements) → meet (names e.path) doc ≡ seen → doc_len doc ≡ len → (made : Elements) × (edited e doc ≡ Ok made) × (doc_len made ≡ next))
        → ((ms : List (List ℕ)) → most_common new ms ≡ max (reach e ms) (most_common makers ms)) → ((q : List ℕ) → overlap e.path q ≡ false → overlaps_any makers q ≡ false → overlaps_any new q ≡ false)
        → MeasuredBy new (drop (i + 1) es) old whole next
    by_on_at new next on = by_on makers e behind old whole len from_here new next (on from_here.measured.doc meets from_here.measured.counted)

pub by_last : (makers : List (List ℕ)) (es : List Edit) (i : ℕ) (old : Elements) (whole : Outcome Elements) (len : ℕ) → MeasuredBy makers (drop i es) old whole len → length es ≤ i → (new : Elements) × (whole ≡ Ok new) × (doc_len new ≡ len)
by_last makers es i old whole len m none = measured_last m.done (drop i es) old whole len m.measured (drop_all i es none)
