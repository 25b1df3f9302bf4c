-- Documents that come, go, and are written anew in the records of a namespace.
use Rattle.std.proofs.Common.{◌≡◌, ◌≢◌, ℕ, inl, inr, Bool, true, false, List, [], ◌∷◌, ◌++◌, length, drop, Option, Some, None, refl, sym, ◌∙◌, ap}
use Rattle.std.specs.Prelude.{◌||◌, ◌&&◌, not, if◌then◌else◌}
use Rattle.std.specs.Option.{option_map}
use Rattle.std.specs.List.{AllByRecursion}
use Rattle.std.proofs.lemmas.Bool.{cases_Bool, false≢true}
use Rattle.std.proofs.lemmas.List.{take-append-drop}
use Rattle.mm_bson.specs.Spelling.{spelling}
use Rattle.mm_links.specs.Links.{Place, same, has, once}
use Rattle.mm_links.proofs.LinkLaws.{same_is, same_own, same_not, not_same, has_here, has_there, has_more, once_parts}
use Rattle.mm_records.specs.Constants.{is_name}
use Rattle.mm_records.specs.Shape.{Shape}
use Rattle.mm_records.specs.Map.{owner, live_room, extent_of, live_at}
use Rattle.mm_records.proofs.Freed.{name_is}
use Rattle.mm_standing.specs.Documents.{Laid, IsLaid, Holds, places}
use Rattle.mm_standing.specs.Records.{OthersKeep, DocumentComes, DocumentGoes, DocumentIsRewritten}

-- ---- a member between two parts of a list

all_with : {X : Type 0} (P : X → Type 0) (xs ys : List X) (x : X) → AllByRecursion P (xs ++ ys) → P x → AllByRecursion P (xs ++ x ∷ ys)
all_with {X} P [] ys x h p = (p, h)
all_with {X} P (y ∷ xs) ys x h p = (h.0, all_with P xs ys x h.1 p)

all_but : {X : Type 0} (P : X → Type 0) (xs ys : List X) (x : X) → AllByRecursion P (xs ++ x ∷ ys) → AllByRecursion P (xs ++ ys)
all_but {X} P [] ys x h = h.1
all_but {X} P (y ∷ xs) ys x h = (h.0, all_but P xs ys x h.1)

all_middle : {X : Type 0} (P : X → Type 0) (xs ys : List X) (x : X) → AllByRecursion P (xs ++ x ∷ ys) → P x
all_middle {X} P [] ys x h = h.0
all_middle {X} P (y ∷ xs) ys x h = all_middle P xs ys x h.1

-- ---- the places of such a list

not_turned : (p q : Place) → same p q ≡ false → same q p ≡ false
not_turned p q n = same_not q p (λ e. not_same p q n (sym e))

-- not on a chain: neither first nor behind
absent_parts : (x : Place) (xs : List Place) (p : Place) → has (x ∷ xs) p ≡ false → (same x p ≡ false) × (has xs p ≡ false)
absent_parts x xs p h = elim (cases_Bool (same x p)) [
  | inl y ↦ absurd (false≢true (sym h ∙ has_here x xs p y))
  | inr n ↦ (n, sym (has_there x xs p n) ∙ h)
]

has_middle : (ls ms : List Laid) (l : Laid) → has (places (ls ++ l ∷ ms)) l.at ≡ true
has_middle [] ms l = has_here l.at (places ms) l.at (same_own l.at)
has_middle (x ∷ ls) ms l = has_more x.at (places (ls ++ l ∷ ms)) l.at (has_middle ls ms l)

has_others : (ls ms : List Laid) (l : Laid) (q : Place) → same l.at q ≡ false → has (places (ls ++ l ∷ ms)) q ≡ has (places (ls ++ ms)) q
has_others [] ms l q n = has_there l.at (places ms) q n
has_others (x ∷ ls) ms l q n = ap (λ (b : Bool). same x.at q || b) (has_others ls ms l q n)

once_with : (ls ms : List Laid) (l : Laid) → once (places (ls ++ ms)) ≡ true → has (places (ls ++ ms)) l.at ≡ false → once (places (ls ++ l ∷ ms)) ≡ true
once_with [] ms l o h = ap (λ (b : Bool). not b && once (places ms)) h ∙ o
once_with (x ∷ ls) ms l o h =
    let t = once_parts x.at (places (ls ++ ms)) o in
    let a = absent_parts x.at (places (ls ++ ms)) l.at h in
    ap (λ (b : Bool). not b && once (places (ls ++ l ∷ ms))) (has_others ls ms l x.at (not_turned x.at l.at a.0) ∙ t.0) ∙ once_with ls ms l t.1 a.1

once_but : (ls ms : List Laid) (l : Laid) → once (places (ls ++ l ∷ ms)) ≡ true → (once (places (ls ++ ms)) ≡ true) × (has (places (ls ++ ms)) l.at ≡ false)
once_but [] ms l o = let t = once_parts l.at (places ms) o in (t.1, t.0)
once_but (x ∷ ls) ms l o =
    let t = once_parts x.at (places (ls ++ l ∷ ms)) o in
    let r = once_but ls ms l t.1 in
    let n : same x.at l.at ≡ false = same_not x.at l.at (λ e. false≢true (sym t.0 ∙ ap (λ (q : Place). has (places (ls ++ l ∷ ms)) q) e ∙ has_middle ls ms l)) in
    (ap (λ (b : Bool). not b && once (places (ls ++ ms))) (sym (has_others ls ms l x.at (not_turned x.at l.at n)) ∙ t.0) ∙ r.0, has_there x.at (places (ls ++ ms)) l.at n ∙ r.1)

-- ---- what a namespace holds beside one place

-- the live records of the namespace at all other places hold these documents, each once
record HoldsBeside (s : Shape) (name : List ℕ) (p : Place) (ls : List Laid) : Type 0 where
  laid : AllByRecursion (IsLaid s name) ls
  apart : once (places ls) ≡ true
  absent : has (places ls) p ≡ false
  others : (q : Place) (room : List ℕ) → same p q ≡ false → live_at s name q ≡ Some room → has (places ls) q ≡ true

none_some : {A : Type 0} (o : Option A) (x : A) → o ≡ None → o ≡ Some x → ⊥
none_some o x n e = let f : None ≡ Some x = sym n ∙ e in cc

-- where no record lies, none of the documents lies
not_laid : (s : Shape) (name : List ℕ) (p : Place) → live_at s name p ≡ None → (ls : List Laid) → AllByRecursion (IsLaid s name) ls → has (places ls) p ≡ false
not_laid s name p none [] laid = refl
not_laid s name p none (l ∷ ls) laid =
    has_there l.at (places ls) p (same_not l.at p (λ e. none_some (live_at s name p) laid.0.room none (ap (live_at s name) (sym e) ∙ laid.0.live))) ∙ not_laid s name p none ls laid.1

beside_none : (s : Shape) (name : List ℕ) (p : Place) (ls : List Laid) → live_at s name p ≡ None → Holds s name ls → HoldsBeside s name p ls
beside_none s name p ls none h = record { laid = h.laid; apart = h.apart; absent = not_laid s name p none ls h.laid; others = λ q room n e. h.all q room e }

beside_one : (s : Shape) (name : List ℕ) (l : Laid) (ls ms : List Laid) → Holds s name (ls ++ l ∷ ms) → HoldsBeside s name l.at (ls ++ ms)
beside_one s name l ls ms h = let t = once_but ls ms l h.apart in record {
  laid = all_but (IsLaid s name) ls ms l h.laid;
  apart = t.0;
  absent = t.1;
  others = λ q room n e. sym (has_others ls ms l q n) ∙ h.all q room e;
}

-- what lies elsewhere stays
still_laid : (s t : Shape) (name : List ℕ) (p : Place) → ((q : Place) → same p q ≡ false → live_at t name q ≡ live_at s name q)
    → (ls : List Laid) → has (places ls) p ≡ false → AllByRecursion (IsLaid s name) ls → AllByRecursion (IsLaid t name) ls
still_laid s t name p stay [] h laid = tt
still_laid s t name p stay (l ∷ ls) h laid =
    let a = absent_parts l.at (places ls) p h in
    (record { room = laid.0.room; live = stay l.at (not_turned l.at p a.0) ∙ laid.0.live; begins = laid.0.begins }, still_laid s t name p stay ls a.1 laid.1)

beside_stays : (s t : Shape) (name : List ℕ) (p : Place) (ls : List Laid) → ((q : Place) → same p q ≡ false → live_at t name q ≡ live_at s name q) → HoldsBeside s name p ls → HoldsBeside t name p ls
beside_stays s t name p ls stay h = record {
  laid = still_laid s t name p stay ls h.absent h.laid;
  apart = h.apart;
  absent = h.absent;
  others = λ q room n e. h.others q room n (sym (stay q n) ∙ e);
}

none_left : (s : Shape) (name : List ℕ) (p : Place) (ls : List Laid) → live_at s name p ≡ None → HoldsBeside s name p ls → Holds s name ls
none_left s name p ls none h = record {
  laid = h.laid;
  apart = h.apart;
  all = λ q room e. h.others q room (same_not p q (λ f. none_some (live_at s name q) room (ap (live_at s name) (sym f) ∙ none) e)) e;
}

one_more : (s : Shape) (name : List ℕ) (l : Laid) (ls ms : List Laid) → IsLaid s name l → HoldsBeside s name l.at (ls ++ ms) → Holds s name (ls ++ l ∷ ms)
one_more s name l ls ms is h = record {
  laid = all_with (IsLaid s name) ls ms l h.laid is;
  apart = once_with ls ms l h.apart h.absent;
  all = λ q room e. elim (cases_Bool (same l.at q)) [
    | inl y ↦ ap (λ (r : Place). has (places (ls ++ l ∷ ms)) r) (sym (same_is l.at q y)) ∙ has_middle ls ms l
    | inr n ↦ has_others ls ms l q n ∙ h.others q room n e
  ];
}

-- ---- a record has one owner

live_owner : (b : Bool) (o : Option (List ℕ)) (room : List ℕ) → (if b then o else None) ≡ Some room → b ≡ true
live_owner true o room e = refl
live_owner false o room e = absurd cc

owned : (s : Shape) (name : List ℕ) (p : Place) (room : List ℕ) → live_at s name p ≡ Some room → owner (s.heap (extent_of p (s.heap p))) ≡ name
owned s name p room e = name_is _ name (live_owner (is_name (owner (s.heap (extent_of p (s.heap p)))) name) (live_room (s.heap p)) room e)

none_if : (b : Bool) (o : Option (List ℕ)) → b ≡ false → (if b then o else None) ≡ None
none_if b o e = ap (λ (c : Bool). if c then o else None) e

not_name : (q m : List ℕ) → q ≢ m → is_name q m ≡ false
not_name q m ne = elim (cases_Bool (is_name q m)) [ inl y ↦ absurd (ne (name_is q m y)) | inr n ↦ n ]

-- no namespace of another name has it
one_owner : (s : Shape) (name m : List ℕ) (p : Place) (room : List ℕ) → live_at s name p ≡ Some room → name ≢ m → live_at s m p ≡ None
one_owner s name m p room e ne =
    none_if (is_name (owner (s.heap (extent_of p (s.heap p)))) m) (live_room (s.heap p))
    (not_name (owner (s.heap (extent_of p (s.heap p)))) m (λ f. ne (sym (owned s name p room e) ∙ f)))

-- the two are the same at a place where neither has a record, and elsewhere
others_stay : (s t : Shape) (name : List ℕ) (p : Place) → ((m : List ℕ) (q : Place) → same p q ≡ false → live_at t m q ≡ live_at s m q)
    → ((m : List ℕ) → name ≢ m → (live_at s m p ≡ None) × (live_at t m p ≡ None)) → OthersKeep s t name
others_stay s t name p stay none m ne q = elim (cases_Bool (same p q)) [
  | inl y ↦ let e = same_is p q y in let n = none m ne in ap (live_at t m) (sym e) ∙ n.1 ∙ sym n.0 ∙ ap (live_at s m) e
  | inr n ↦ stay m q n
]

-- ---- the laws

pub document_comes : DocumentComes
document_comes image s t free name p r doc ls ms is h a =
    let bytes : a.room ≡ spelling doc ++ drop (length (spelling doc)) a.room = sym (take-append-drop (length (spelling doc)) a.room) ∙ ap (λ (z : List ℕ). z ++ drop (length (spelling doc)) a.room) a.front in
    let l : Laid = record { at = p; document = doc } in
    let laid : IsLaid t name l = record { room = a.room; live = a.here; begins = record { is_document = is; behind = drop (length (spelling doc)) a.room; bytes = bytes } } in (
      one_more t name l ls ms laid (beside_stays s t name p (ls ++ ms) (a.others name) (beside_none s name p (ls ++ ms) (a.fresh name) h)),
      others_stay s t name p a.others (λ m ne. (a.fresh m, one_owner t name m p a.room a.here ne)),
    )

pub document_goes : DocumentGoes
document_goes s t name n l ls ms h f =
    let was = all_middle (IsLaid s name) ls ms l h.laid in (
      none_left t name l.at (ls ++ ms) (f.map.gone name) (beside_stays s t name l.at (ls ++ ms) (f.map.others name) (beside_one s name l ls ms h)),
      others_stay s t name l.at f.map.others (λ m ne. (one_owner s name m l.at was.room was.live ne, f.map.gone m)),
    )

pub document_is_rewritten : DocumentIsRewritten
document_is_rewritten s t name room doc l ls ms h w b =
    let was = all_middle (IsLaid s name) ls ms l h.laid in
    let other : Option (List ℕ) → Option (List ℕ) = option_map (λ _. room) in
    let new : Laid = record { at = l.at; document = doc } in
    let laid : IsLaid t name new = record { room = room; live = w.here name ∙ ap other was.live; begins = b } in (
      one_more t name new ls ms laid (beside_stays s t name l.at (ls ++ ms) (w.others name) (beside_one s name l ls ms h)),
      others_stay s t name l.at w.others (λ m ne. let none = one_owner s name m l.at was.room was.live ne in (none, w.here m ∙ ap other none)),
    )
