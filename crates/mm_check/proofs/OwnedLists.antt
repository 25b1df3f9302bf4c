-- The lists and the counts of nodes, by their names.
use Rattle.std.proofs.Common.{◌≡◌, ℕ, zero, suc, ◌+◌, ◌≤◌, ◌<◌, ◌⊎◌, inl, inr, true, false, List, [], ◌∷◌, ◌++◌, length, map, take, drop, get_or, None, refl, sym, ◌∙◌, ap, subst, arith}
use Rattle.std.specs.Prelude.{flat_map}
use Rattle.std.specs.List.{range_with_len}
use Rattle.std.proofs.lemmas.List.{get_or_past}
use Rattle.std.proofs.lemmas.Bool.{cases_Bool, false≢true}
use Rattle.mm_ranges.specs.Overlay.{Image}
use Rattle.mm_links.specs.Links.{Place, same, has, once}
use Rattle.mm_links.proofs.LinkLaws.{same_own, same_not, has_here, has_more, once_parts}
use Rattle.mm_records.specs.Constants.{is_name}
use Rattle.mm_records.proofs.Freed.{name_own}
use Rattle.mm_walk.specs.Walk.{Reading, IsWhole, AreWhole, seen_after}
use Rattle.mm_walk.specs.Questions.{first_failing}
use Rattle.mm_check.specs.NodeQuestions.{node_place}
use Rattle.mm_check.specs.CountQuestions.{counts_right}
use Rattle.mm_check.specs.ExtentChain.{asked}
use Rattle.mm_check.specs.Findings.{joined, name_of, details_at, Owner, lists_of, list_chains, count_questions}
use Rattle.mm_check.specs.Phases.{list_chain}
use Rattle.mm_check.specs.FoundShape.{beside}
use Rattle.mm_check.specs.Standing.{list_named}
use Rattle.mm_check.proofs.RecordLaws.{if_yes, if_no}
use Rattle.mm_check.proofs.PhaseBack.{has_either}
use Rattle.mm_check.proofs.Insides.{has_in}
use Rattle.mm_check.proofs.FileQuestionLaws.{failing_cons, cons_failing}
use Rattle.mm_check.proofs.NodeOwners.{Owns, Apart}

-- ---- whole chains in two parts

pub split_whole : (rs qs : List Reading) (pss : List (List Place)) (seen : List Place) → AreWhole seen (rs ++ qs) pss → AreWhole seen rs (take (length rs) pss) × AreWhole (seen_after seen (take (length rs) pss)) qs (drop (length rs) pss)
split_whole [] qs pss seen a = (tt, a)
split_whole (r ∷ rs) qs [] seen a = absurd a
split_whole (r ∷ rs) qs (ps ∷ pss) seen a = let t = split_whole rs qs pss (ps ++ seen) a.1 in ((a.0, t.0), t.1)

pub join_whole : (rs qs : List Reading) (pss qss : List (List Place)) (seen : List Place) → AreWhole seen rs pss → AreWhole (seen_after seen pss) qs qss → AreWhole seen (rs ++ qs) (pss ++ qss)
join_whole [] qs [] qss seen a b = b
join_whole [] qs (ps ∷ pss) qss seen a b = absurd a
join_whole (r ∷ rs) qs [] qss seen a b = absurd a
join_whole (r ∷ rs) qs (ps ∷ pss) qss seen a b = (a.0, join_whole rs qs pss qss (ps ++ seen) a.1 b)

pub whole_at : (f : ℕ → Reading) (m n : ℕ) (pss : List (List Place)) (seen : List Place) (i : ℕ) → AreWhole seen (map f (range_with_len m n)) pss → i < n → (before : List Place) × IsWhole (f (m + i)) before (get_or pss i [])
whole_at f m zero pss seen i a lt = absurd (omega (arith, lt))
whole_at f m (suc n) [] seen i a lt = absurd a
whole_at f m (suc n) (ps ∷ pss) seen zero a lt = let e : m ≡ m + 0 = omega arith in (seen, subst (λ (k : ℕ). IsWhole (f k) seen ps) e a.0)
whole_at f m (suc n) (ps ∷ pss) seen (suc i) a lt =
    let t = whole_at f (m + 1) n pss (ps ++ seen) i a.1 (omega (arith, lt)) in
    let e : m + 1 + i ≡ m + suc i = omega arith in
    (t.0, subst (λ (k : ℕ). IsWhole (f k) t.0 (get_or pss i [])) e t.1)

-- ---- places of lists

short_take : {X : Type 0} (n : ℕ) (xs : List X) → length (take n xs) ≤ n
short_take zero xs = omega arith
short_take (suc n) [] = omega arith
short_take (suc n) (x ∷ xs) = let t = short_take n xs in omega (arith, t)

in_item : (pss : List (List Place)) (i : ℕ) (p : Place) → has (get_or pss i []) p ≡ true → has (joined pss) p ≡ true
in_item [] i p h = absurd (false≢true h)
in_item (ps ∷ pss) zero p h = has_in ps (joined pss) p (inl h)
in_item (ps ∷ pss) (suc i) p h = has_in ps (joined pss) p (inr (in_item pss i p h))

pub item_of : (pss : List (List Place)) (p : Place) → has (joined pss) p ≡ true → (i : ℕ) × (i < length pss) × (has (get_or pss i []) p ≡ true)
item_of [] p h = absurd (false≢true h)
item_of (ps ∷ pss) p h = elim (has_either ps (joined pss) p h) [
  | inl i ↦ (0, omega arith, i)
  | inr j ↦ let t = item_of pss p j in let lt = t.1 in (suc t.0, omega (arith, lt), t.2)
]

in_take : (n : ℕ) (pss : List (List Place)) (p : Place) → has (joined (take n pss)) p ≡ true → has (joined pss) p ≡ true
in_take zero pss p h = absurd (false≢true h)
in_take (suc n) [] p h = h
in_take (suc n) (ps ∷ pss) p h = elim (has_either ps (joined (take n pss)) p h) [
  | inl i ↦ has_in ps (joined pss) p (inl i)
  | inr j ↦ has_in ps (joined pss) p (inr (in_take n pss p j))
]

in_drop : (n : ℕ) (pss : List (List Place)) (p : Place) → has (joined (drop n pss)) p ≡ true → has (joined pss) p ≡ true
in_drop zero pss p h = h
in_drop (suc n) [] p h = h
in_drop (suc n) (ps ∷ pss) p h = has_in ps (joined pss) p (inr (in_drop n pss p h))

part_joined : (n : ℕ) (pss : List (List Place)) (p : Place) → has (joined pss) p ≡ true → (has (joined (take n pss)) p ≡ true) ⊎ (has (joined (drop n pss)) p ≡ true)
part_joined zero pss p h = inr h
part_joined (suc n) [] p h = inr h
part_joined (suc n) (ps ∷ pss) p h = elim (has_either ps (joined pss) p h) [
  | inl i ↦ inl (has_in ps (joined (take n pss)) p (inl i))
  | inr j ↦ elim (part_joined n pss p j) [ inl a ↦ inl (has_in ps (joined (take n pss)) p (inr a)) | inr b ↦ inr b ]
]

module _ (image : Image) where
  -- list i of the node with a name is whole
  pub list_whole : (os : List Owner) (blocks : List (List Place)) (seen : List Place) (o : Owner) (i : ℕ) → Apart image os → Owns o os → i < 19 → AreWhole seen (list_chains image os) blocks
      → (before : List Place) × IsWhole (list_chain image o i) before (list_named image os blocks (name_of image o.node) i)
  list_whole [] blocks seen o i a own lt w = absurd own
  list_whole (x ∷ os) blocks seen o i a (inl e) lt w =
      let t = split_whole (lists_of image x) (list_chains image os) blocks seen w in
      let u = whole_at (list_chain image x) 0 19 (take 19 blocks) seen i t.0 lt in
      let z : 0 + i ≡ i = omega arith in
      let same_name : is_name (name_of image x.node) (name_of image o.node) ≡ true = name_own _ _ (ap (λ (y : Owner). name_of image y.node) (sym e)) in
      let is : list_named image (x ∷ os) blocks (name_of image o.node) i ≡ get_or (take 19 blocks) i [] = if_yes (is_name (name_of image x.node) (name_of image o.node)) (get_or (take 19 blocks) i []) (list_named image os (drop 19 blocks) (name_of image o.node) i) same_name in
      (u.0, subst (λ (qs : List Place). IsWhole (list_chain image o i) u.0 qs) (sym is) (subst (λ (y : Owner). IsWhole (list_chain image y i) u.0 (get_or (take 19 blocks) i [])) (sym e) (subst (λ (k : ℕ). IsWhole (list_chain image x k) u.0 (get_or (take 19 blocks) i [])) z u.1)))
  list_whole (x ∷ os) blocks seen o i a (inr j) lt w =
      let t = split_whole (lists_of image x) (list_chains image os) blocks seen w in
      let u = list_whole os (drop 19 blocks) (seen_after seen (take 19 blocks)) o i a.1 j lt t.1 in
      let is : list_named image (x ∷ os) blocks (name_of image o.node) i ≡ list_named image os (drop 19 blocks) (name_of image o.node) i = if_no (is_name (name_of image x.node) (name_of image o.node)) (get_or (take 19 blocks) i []) (list_named image os (drop 19 blocks) (name_of image o.node) i) (a.0 o j) in
      (u.0, subst (λ (qs : List Place). IsWhole (list_chain image o i) u.0 qs) (sym is) u.1)

  pub list_none : (os : List Owner) (blocks : List (List Place)) (name : List ℕ) (i : ℕ) → ((o : Owner) → Owns o os → is_name (name_of image o.node) name ≡ false) → list_named image os blocks name i ≡ []
  list_none [] blocks name i f = refl
  list_none (x ∷ os) blocks name i f = if_no (is_name (name_of image x.node) name) (get_or (take 19 blocks) i []) (list_named image os (drop 19 blocks) name i) (f x (inl refl)) ∙ list_none os (drop 19 blocks) name i (λ o j. f o (inr j))

  pub list_high : (os : List Owner) (blocks : List (List Place)) (name : List ℕ) (i : ℕ) → 19 ≤ i → list_named image os blocks name i ≡ []
  list_high [] blocks name i le = refl
  list_high (x ∷ os) blocks name i le = elim (cases_Bool (is_name (name_of image x.node) name)) [
    | inl y ↦ let s = short_take 19 blocks in if_yes (is_name (name_of image x.node) name) (get_or (take 19 blocks) i []) (list_named image os (drop 19 blocks) name i) y ∙ get_or_past (take 19 blocks) i [] (omega (arith, s, le))
    | inr n ↦ if_no (is_name (name_of image x.node) name) (get_or (take 19 blocks) i []) (list_named image os (drop 19 blocks) name i) n ∙ list_high os (drop 19 blocks) name i le
  ]

  pub in_list : (os : List Owner) (blocks : List (List Place)) (name : List ℕ) (i : ℕ) (p : Place) → has (list_named image os blocks name i) p ≡ true → has (joined blocks) p ≡ true
  in_list [] blocks name i p h = absurd (false≢true h)
  in_list (x ∷ os) blocks name i p h = elim (cases_Bool (is_name (name_of image x.node) name)) [
    | inl y ↦ in_take 19 blocks p (in_item (take 19 blocks) i p (sym (ap (λ (qs : List Place). has qs p) (if_yes (is_name (name_of image x.node) name) (get_or (take 19 blocks) i []) (list_named image os (drop 19 blocks) name i) y)) ∙ h))
    | inr n ↦ in_drop 19 blocks p (in_list os (drop 19 blocks) name i p (sym (ap (λ (qs : List Place). has qs p) (if_no (is_name (name_of image x.node) name) (get_or (take 19 blocks) i []) (list_named image os (drop 19 blocks) name i) n)) ∙ h))
  ]

  -- the list that a place is on
  pub record OnList (os : List Owner) (blocks : List (List Place)) (p : Place) : Type 0 where
    pub o : Owner
    pub own : Owns o os
    pub i : ℕ
    pub low : i < 19
    pub on : has (list_named image os blocks (name_of image o.node) i) p ≡ true

  pub on_list : (os : List Owner) (blocks : List (List Place)) (seen : List Place) (p : Place) → Apart image os → AreWhole seen (list_chains image os) blocks → has (joined blocks) p ≡ true → OnList os blocks p
  on_list [] [] seen p a w h = absurd (false≢true h)
  on_list [] (ps ∷ pss) seen p a w h = absurd w
  on_list (x ∷ os) blocks seen p a w h = elim (part_joined 19 blocks p h) [
    | inl i ↦
        let t = item_of (take 19 blocks) p i in let lt = t.1 in let s = short_take 19 blocks in
        record {
          o = x;
          own = inl refl;
          i = t.0;
          low = omega (arith, lt, s);
          on = ap (λ (qs : List Place). has qs p) (if_yes (is_name (name_of image x.node) (name_of image x.node)) (get_or (take 19 blocks) t.0 []) (list_named image os (drop 19 blocks) (name_of image x.node) t.0) (name_own (name_of image x.node) (name_of image x.node) refl)) ∙ t.2;
        }
    | inr j ↦
        let s = split_whole (lists_of image x) (list_chains image os) blocks seen w in
        let t = on_list os (drop 19 blocks) (seen_after seen (take 19 blocks)) p a.1 s.1 j in
        record {
          o = t.o;
          own = inr t.own;
          i = t.i;
          low = t.low;
          on = ap (λ (qs : List Place). has qs p) (if_no (is_name (name_of image x.node) (name_of image t.o.node)) (get_or (take 19 blocks) t.i []) (list_named image os (drop 19 blocks) (name_of image t.o.node) t.i) (a.0 t.o t.own)) ∙ t.on;
        }
  ]

-- ---- the counts of a node

map_same : (f g : Place → List Place) (xs : List Place) → ((e : Place) → has xs e ≡ true → f e ≡ g e) → map f xs ≡ map g xs
map_same f g [] h = refl
map_same f g (x ∷ xs) h = λ i. h x (has_here x xs x (same_own x)) i ∷ map_same f g xs (λ e j. h e (has_more x xs e j)) i

pub map_beside : (es : List Place) (pss : List (List Place)) → length es ≡ length pss → once es ≡ true → map (beside es pss) es ≡ pss
map_beside [] [] l o = refl
map_beside [] (ps ∷ pss) l o = absurd (omega (arith, l))
map_beside (x ∷ xs) [] l o = absurd (omega (arith, l))
map_beside (x ∷ xs) (ps ∷ pss) l o =
    let here : beside (x ∷ xs) (ps ∷ pss) x ≡ ps = if_yes (same x x) ps (beside xs pss x) (same_own x) in
    let rest : map (beside (x ∷ xs) (ps ∷ pss)) xs ≡ pss =
    map_same (beside (x ∷ xs) (ps ∷ pss)) (beside xs pss) xs (λ e h. if_no (same x e) ps (beside xs pss e) (same_not x e (λ s. false≢true (sym (once_parts x xs o).0 ∙ ap (has xs) s ∙ h))))
    ∙ map_beside xs pss (omega (arith, l)) (once_parts x xs o).1 in
    λ i. here i ∷ rest i

front_map : (f : Place → List Place) (xs ys : List Place) → (take (length xs) (map f (xs ++ ys)) ≡ map f xs) × (drop (length xs) (map f (xs ++ ys)) ≡ map f ys)
front_map f [] ys = (refl, refl)
front_map f (x ∷ xs) ys = let t = front_map f xs ys in (ap (λ (qs : List (List Place)). f x ∷ qs) t.0, t.1)

joined_map : (f : Place → List Place) (xs : List Place) → joined (map f xs) ≡ flat_map f xs
joined_map f [] = refl
joined_map f (x ∷ xs) = ap (λ (qs : List Place). f x ++ qs) (joined_map f xs)

module _ (image : Image) (f : Place → List Place) where
  pub count_at : (os : List Owner) (recs : List (List Place)) (o : Owner) → map f (flat_map (λ x. x.extents) os) ≡ recs → first_failing (count_questions image os recs) ≡ None → Owns o os
      → counts_right image (name_of image o.node) (details_at image o.node) o.extents (flat_map f o.extents) ≡ true
  count_at [] recs o e h own = absurd own
  count_at (x ∷ os) recs o e h own =
      let ys = flat_map (λ y. y.extents) os in
      let asks = failing_cons (asked (node_place x.node) (counts_right image (name_of image x.node) (details_at image x.node) x.extents (joined (take (length x.extents) recs)))) (count_questions image os (drop (length x.extents) recs)) h in
      let front : joined (take (length x.extents) recs) ≡ flat_map f x.extents = ap (λ (qs : List (List Place)). joined (take (length x.extents) qs)) (sym e) ∙ ap joined (front_map f x.extents ys).0 ∙ joined_map f x.extents in
      by (subst (λ (qs : List Place). counts_right image (name_of image x.node) (details_at image x.node) x.extents qs ≡ true) front asks.0)
      (λ j. count_at os (drop (length x.extents) recs) o (sym (front_map f x.extents ys).1 ∙ ap (λ (qs : List (List Place)). drop (length x.extents) qs) e) asks.1 j)
      own
    where
      by : (counts_right image (name_of image x.node) (details_at image x.node) x.extents (flat_map f x.extents) ≡ true) → (Owns o os → counts_right image (name_of image o.node) (details_at image o.node) o.extents (flat_map f o.extents) ≡ true) → (o ≡ x) ⊎ Owns o os
          → counts_right image (name_of image o.node) (details_at image o.node) o.extents (flat_map f o.extents) ≡ true
      by t g (inl s) = subst (λ (y : Owner). counts_right image (name_of image y.node) (details_at image y.node) y.extents (flat_map f y.extents) ≡ true) (sym s) t
      by t g (inr j) = g j

  pub count_all : (os : List Owner) (recs : List (List Place)) → map f (flat_map (λ x. x.extents) os) ≡ recs
      → ((o : Owner) → Owns o os → counts_right image (name_of image o.node) (details_at image o.node) o.extents (flat_map f o.extents) ≡ true) → first_failing (count_questions image os recs) ≡ None
  count_all [] recs e h = refl
  count_all (x ∷ os) recs e h =
      let ys = flat_map (λ y. y.extents) os in
      let front : joined (take (length x.extents) recs) ≡ flat_map f x.extents = ap (λ (qs : List (List Place)). joined (take (length x.extents) qs)) (sym e) ∙ ap joined (front_map f x.extents ys).0 ∙ joined_map f x.extents in
      cons_failing (asked (node_place x.node) (counts_right image (name_of image x.node) (details_at image x.node) x.extents (joined (take (length x.extents) recs)))) (count_questions image os (drop (length x.extents) recs))
      (subst (λ (qs : List Place). counts_right image (name_of image x.node) (details_at image x.node) x.extents qs ≡ true) (sym front) (h x (inl refl)))
      (count_all os (drop (length x.extents) recs) (sym (front_map f x.extents ys).1 ∙ ap (λ (qs : List (List Place)). drop (length x.extents) qs) e) (λ o j. h o (inr j)))
