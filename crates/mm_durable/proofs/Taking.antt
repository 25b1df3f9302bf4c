-- A database gives its item for the next section.
use Rattle.std.proofs.Common.{◌≡◌, inl, inr, ℕ, zero, suc, ◌+◌, ◌^◌, ◌<◌, ◌≤◌, ◌==◌, Bool, true, false, cond, ◌||◌, List, [], ◌∷◌, ◌++◌, length, get_or, slice_set, slice_get, take, Some, refl, sym, ◌∙◌, ap, subst, arith, true≢false}
use Rattle.std.specs.Ordering.{eq_by_cmp}
use Rattle.std.specs.FinMap.{get}
use Rattle.std.proofs.lemmas.Bool.{cases_Bool}
use Rattle.std.proofs.lemmas.Bool.Decides.{nat_tests}
use Rattle.std.proofs.lemmas.List.{length-map, take-append-le, get_or-set_same, get_or-set_other}
use Rattle.mm_outside.specs.Image.{name_cmp}
use Rattle.mm_outside.proofs.Places.{one_name, same_name, different, apart}
use Rattle.mm_ranges.specs.declared.part.Closed.{Closed}
use Rattle.mm_tie.specs.Ends.{taken}
use Rattle.mm_tie.specs.Items.{image_of, Follows}
use Rattle.mm_crash.specs.Story.{Story}
use Rattle.mm_items.specs.Given.{Taken}
use Rattle.mm_durable.specs.Names.{has_name, AreDatabases}
use Rattle.mm_durable.specs.Intake.{by_name, lists, first_items, AllAfter, AreRising, HasGiven, HasEntry, AreSeated, IsIntake, TakesItem, has_seats, seated}
use Rattle.mm_durable.specs.Durable.{HasImages}
use Rattle.mm_durable.specs.declared.intake.Seat.{Seat}
use Rattle.mm_durable.specs.declared.intake.Intake.{Intake}
use Rattle.mm_durable.proofs.Sealing.{not_same}

-- ---- names

pub flip : (n m : List ℕ) → eq_by_cmp name_cmp n m ≡ false → eq_by_cmp name_cmp m n ≡ false
flip n m e = different m n (λ q. apart n m e (sym q))

pub or_true : (a b : Bool) → b ≡ true → (a || b) ≡ true
or_true true b e = refl
or_true false b e = e

-- a name that comes before all of these is none of them
pub after_other : (n : List ℕ) (sorted : List (List ℕ)) → AllAfter n sorted → (m : List ℕ) → has_name sorted m ≡ true → eq_by_cmp name_cmp n m ≡ false
after_other n [] after m has = absurd (true≢false (sym has))
after_other n (k ∷ sorted) after m has = by (after_other n sorted after.1 m) (eq_by_cmp name_cmp k m) refl has
  where
    by : (has_name sorted m ≡ true → eq_by_cmp name_cmp n m ≡ false) → (b : Bool) → eq_by_cmp name_cmp k m ≡ b → (b || has_name sorted m) ≡ true → eq_by_cmp name_cmp n m ≡ false
    by rest true e is = ap (λ (x : List ℕ). eq_by_cmp name_cmp n x) (sym (one_name k m e)) ∙ not_same (name_cmp n k) after.0
    by rest false e is = rest is

pub has_head : (n : List ℕ) (names : List (List ℕ)) → has_name (n ∷ names) n ≡ true
has_head n names = ap (λ (b : Bool). b || has_name names n) (same_name n)

pub has_later : (n : List ℕ) (names : List (List ℕ)) (m : List ℕ) → has_name names m ≡ true → has_name (n ∷ names) m ≡ true
has_later n names m has = or_true (eq_by_cmp name_cmp n m) (has_name names m) has

pub has_at : (names : List (List ℕ)) (d : ℕ) → d < length names → has_name names (get_or names d []) ≡ true
has_at [] d lt = absurd (omega (arith, lt))
has_at (n ∷ names) zero lt = has_head n names
has_at (n ∷ names) (suc d) lt = has_later n names (get_or names d []) (has_at names d (omega (arith, lt)))

not_there : (m : List ℕ) (names : List (List ℕ)) (d : ℕ) → has_name names m ≡ false → d < length names → eq_by_cmp name_cmp m (get_or names d []) ≡ false
not_there m names d none lt = different m (get_or names d []) (λ e. true≢false (sym (has_at names d lt) ∙ ap (has_name names) (sym e) ∙ none))

-- ---- the items by name

pub own_list : (names : List (List ℕ)) → AreDatabases names → (given : List (List Closed)) (d : ℕ) → d < length names → by_name names given (get_or names d []) ≡ get_or given d []
own_list [] dbs given d lt = absurd (omega (arith, lt))
own_list (m ∷ names) dbs [] d lt = refl
own_list (m ∷ names) dbs (l ∷ given) zero lt = ap (λ (b : Bool). cond b l (by_name names given m)) (same_name m)
own_list (m ∷ names) dbs (l ∷ given) (suc d) lt =
    ap (λ (b : Bool). cond b l (by_name names given (get_or names d []))) (flip m (get_or names d []) (not_there m names d dbs.1.0 (omega (arith, lt))))
    ∙ own_list names dbs.1.1 given d (omega (arith, lt))

other_list : (names : List (List ℕ)) → AreDatabases names → (given : List (List Closed)) (d : ℕ) (more : List Closed) → d < length names → length given ≡ length names → (n : List ℕ)
    → by_name names (slice_set given d more) n ≡ cond (eq_by_cmp name_cmp n (get_or names d [])) more (by_name names given n)
other_list [] dbs given d more lt full n = absurd (omega (arith, lt))
other_list (m ∷ names) dbs [] d more lt full n = absurd (omega (arith, full))
other_list (m ∷ names) dbs (l ∷ given) zero more lt full n = by (eq_by_cmp name_cmp n m)
  where
    by : (b : Bool) → cond b more (by_name names given n) ≡ cond b more (cond b l (by_name names given n))
    by true = refl
    by false = refl
other_list (m ∷ names) dbs (l ∷ given) (suc d) more lt full n = by (eq_by_cmp name_cmp n m) refl (other_list names dbs.1.1 given d more (omega (arith, lt)) (omega (arith, full)) n)
  where
    by : (b : Bool) → eq_by_cmp name_cmp n m ≡ b → by_name names (slice_set given d more) n ≡ cond (eq_by_cmp name_cmp n (get_or names d [])) more (by_name names given n)
        → cond b l (by_name names (slice_set given d more) n) ≡ cond (eq_by_cmp name_cmp n (get_or names d [])) more (cond b l (by_name names given n))
    by true e rest =
        let other : eq_by_cmp name_cmp n (get_or names d []) ≡ false = ap (λ (k : List ℕ). eq_by_cmp name_cmp k (get_or names d [])) (one_name n m e) ∙ not_there m names d dbs.1.0 (omega (arith, lt)) in
        sym (ap (λ (c : Bool). cond c more l) other)
    by false e rest = rest

-- ---- seats

-- the databases of which none gave an item have the items that they had
pub seats_as_before : (sealed : ℕ) (items more : Taken) (sorted : List (List ℕ)) (seats : List Seat) → ((n : List ℕ) → has_name sorted n ≡ true → more n ≡ items n) → AreSeated sealed items sorted seats → AreSeated sealed more sorted seats
seats_as_before sealed items more [] [] same is = tt
seats_as_before sealed items more [] (s ∷ seats) same is = is
seats_as_before sealed items more (n ∷ sorted) [] same is = (
  subst (λ (l : List Closed). length l ≡ sealed + 1) (sym (same n (has_head n sorted))) is.0,
  seats_as_before sealed items more sorted [] (λ m has. same m (has_later n sorted m has)) is.1,
)
seats_as_before sealed items more (n ∷ sorted) (s ∷ seats) same is = (
  is.0,
  (
    subst (λ (l : List Closed). HasGiven sealed l s.item) (sym (same n (has_head n sorted))) is.1.0,
    seats_as_before sealed items more sorted seats (λ m has. same m (has_later n sorted m has)) is.1.1,
  ),
)

seats_with : (sealed : ℕ) (items more : Taken) (item : Closed) (before : List Closed) → length before ≡ sealed + 1 → Follows before item → (sorted : List (List ℕ)) (seats : List Seat) → length seats ≡ length sorted → AreRising sorted → AreSeated sealed items sorted seats → (r : ℕ) → r < length sorted
    → more (get_or sorted r []) ≡ before ++ item ∷ [] → ((n : List ℕ) → eq_by_cmp name_cmp (get_or sorted r []) n ≡ false → more n ≡ items n) → AreSeated sealed more sorted (seated r item seats)
seats_with sealed items more item before count follows [] seats full rising is r lt mine others = absurd (omega (arith, lt))
seats_with sealed items more item before count follows (n ∷ sorted) [] full rising is r lt mine others = absurd (omega (arith, full))
seats_with sealed items more item before count follows (n ∷ sorted) (s ∷ seats) full rising is zero lt mine others =
    (is.0, ((before, (mine, (count, follows))), seats_as_before sealed items more sorted seats (λ m has. others m (after_other n sorted rising.0 m has)) is.1.1))
seats_with sealed items more item before count follows (n ∷ sorted) (s ∷ seats) full rising is (suc r) lt mine others =
    let below : r < length sorted = omega (arith, lt) in
    let other : eq_by_cmp name_cmp (get_or sorted r []) n ≡ false = flip n (get_or sorted r []) (after_other n sorted rising.0 (get_or sorted r []) (has_at sorted r below)) in (
      is.0,
      (
        subst (λ (l : List Closed). HasGiven sealed l s.item) (sym (others n other)) is.1.0,
        seats_with sealed items more item before count follows sorted seats (omega (arith, full)) rising.1 is.1.1 r below mine others,
      ),
    )

pub length-seated : (r : ℕ) (item : Closed) (seats : List Seat) → length (seated r item seats) ≡ length seats
length-seated r item [] = refl
length-seated zero item (s ∷ seats) = refl
length-seated (suc r) item (s ∷ seats) = ap suc (length-seated r item seats)

-- ---- the intake with the item

front_there : (b : List Closed) (x : Closed) (k : ℕ) (y : Closed) → slice_get b k ≡ Some y → slice_get (b ++ x ∷ []) k ≡ Some y
front_there [] x k y e = absurd (none k e)
  where
    none : (k : ℕ) → slice_get [] k ≡ Some y → ⊥
    none k e = let lt = Rattle.std.proofs.lemmas.Option.slice_get_within [] k y e in omega (arith, lt)
front_there (z ∷ b) x zero y e = e
front_there (z ∷ b) x (suc k) y e = front_there b x k y e

seats_empty : (a b c : ℕ) → a ≡ b → c ≡ b → 0 < c → a ≡ 0 → ⊥
seats_empty a b c e f lt z = omega (arith, e, f, lt, z)

module _ (names : List (List ℕ)) (dbs : AreDatabases names) (sealed : ℕ) (old new : Intake) (is : IsIntake names sealed old) (db : ℕ) (lt : db < length names)
    (before after : List Closed) (t : TakesItem old db before after new) (mine : get_or (lists old) db [] ≡ before) (count : length before ≡ sealed + 1) where
  full_lists : length (lists old) ≡ length names
  full_lists = length-map old.feeds.items taken ∙ is.feeds

  new_items : (n : List ℕ) → by_name names (lists new) n ≡ cond (eq_by_cmp name_cmp n (get_or names db [])) after (by_name names (lists old) n)
  new_items n = ap (λ (l : List (List Closed)). by_name names l n) t.lists_more ∙ other_list names dbs (lists old) db after lt full_lists n

  of_others : (n : List ℕ) → eq_by_cmp name_cmp n (get_or names db []) ≡ false → by_name names (lists new) n ≡ by_name names (lists old) n
  of_others n e = new_items n ∙ ap (λ (b : Bool). cond b after (by_name names (lists old) n)) e

  of_own : (n : List ℕ) → eq_by_cmp name_cmp n (get_or names db []) ≡ true → by_name names (lists new) n ≡ after
  of_own n e = new_items n ∙ ap (λ (b : Bool). cond b after (by_name names (lists old) n)) e

  abbrev rank : ℕ
  rank = get_or old.ranks.items db 0

  ranked : get_or old.sorted.items rank [] ≡ get_or names db []
  ranked = (is.ranked db lt).1

  seats_now : length old.seats.items ≡ length old.sorted.items → AreSeated sealed (by_name names (lists new)) new.sorted.items new.seats.items
  seats_now full =
      let small : rank < length old.sorted.items = omega (arith, (is.ranked db lt).0, is.count) in
      let here : AreSeated sealed (by_name names (lists new)) old.sorted.items (seated rank t.item old.seats.items) =
      seats_with sealed (by_name names (lists old)) (by_name names (lists new)) t.item before count t.follows old.sorted.items old.seats.items full is.rising is.seats rank small
      (ap (by_name names (lists new)) ranked ∙ of_own (get_or names db []) (same_name (get_or names db [])) ∙ t.more)
      (λ n e. of_others n (flip (get_or names db []) n (ap (λ (k : List ℕ). eq_by_cmp name_cmp k n) (sym ranked) ∙ e))) in
      subst (λ (l : List (List ℕ)). AreSeated sealed (by_name names (lists new)) l new.seats.items) (sym t.sorted_kept)
      (subst (λ (l : List Seat). AreSeated sealed (by_name names (lists new)) old.sorted.items l) (sym t.in_seat) here)

  full_now : length old.seats.items ≡ length old.sorted.items → length new.seats.items ≡ length new.sorted.items
  full_now full = ap length t.in_seat ∙ length-seated rank t.item old.seats.items ∙ full ∙ sym (ap length t.sorted_kept)

  list_own : get_or (lists new) db [] ≡ after
  list_own = ap (λ (l : List (List Closed)). get_or l db []) t.lists_more ∙ get_or-set_same (lists old) db after [] (omega (arith, lt, full_lists))

  list_other : (d : ℕ) → (d ≡ db → ⊥) → get_or (lists new) d [] ≡ get_or (lists old) d []
  list_other d other = ap (λ (l : List (List Closed)). get_or l d []) t.lists_more ∙ get_or-set_other (lists old) db d after [] other

  entry_now : (k : ℕ) → HasEntry (lists old) k → HasEntry (lists new) k
  entry_now k h = elim (cases_Bool (h.db == db)) [
    | inl e ↦
        (let here : h.db ≡ db = grind (arith, nat_tests) in
        let there : slice_get before k ≡ Some h.item = ap (λ (l : List Closed). slice_get l k) (sym (ap (λ (d : ℕ). get_or (lists old) d []) here ∙ mine)) ∙ h.there in
        record {
          db = db;
          item = h.item;
          there = ap (λ (l : List Closed). slice_get l k) (list_own ∙ t.more) ∙ front_there before t.item k h.item there;
          some = h.some;
        })
    | inr e ↦
        (let other : h.db ≡ db → ⊥ = λ q. true≢false (sym (tied h.db db q) ∙ e) in
        record {
          db = h.db;
          item = h.item;
          there = ap (λ (l : List Closed). slice_get l k) (list_other h.db other) ∙ h.there;
          some = h.some;
        })
  ]
    where
      tied : (i j : ℕ) → i ≡ j → (i == j) ≡ true
      tied i j e = grind (arith, nat_tests)

  within_now : length after ≤ 2 ^ 32 → (d : ℕ) → d < length names → length (get_or (lists new) d []) ≤ 2 ^ 32
  within_now short d small = elim (cases_Bool (d == db)) [
    | inl e ↦
        (let here : d ≡ db = grind (arith, nat_tests) in
        subst (λ (l : List Closed). length l ≤ 2 ^ 32) (sym (ap (λ (i : ℕ). get_or (lists new) i []) here ∙ list_own)) short)
    | inr e ↦
        (let other : d ≡ db → ⊥ = λ q. true≢false (sym (tied d db q) ∙ e) in
        subst (λ (l : List Closed). length l ≤ 2 ^ 32) (sym (list_other d other)) (is.within d small))
  ]
    where
      tied : (i j : ℕ) → i ≡ j → (i == j) ≡ true
      tied i j e = grind (arith, nat_tests)

  ranked_now : (d : ℕ) → d < length names → (get_or new.ranks.items d 0 < length names) × (get_or new.sorted.items (get_or new.ranks.items d 0) [] ≡ get_or names d [])
  ranked_now d small =
      subst (λ (l : List ℕ). (get_or l d 0 < length names) × (get_or new.sorted.items (get_or l d 0) [] ≡ get_or names d [])) (sym t.ranks_kept)
      (subst (λ (l : List (List ℕ)). (get_or old.ranks.items d 0 < length names) × (get_or l (get_or old.ranks.items d 0) [] ≡ get_or names d [])) (sym t.sorted_kept) (is.ranked d small))

  pub takes : length old.seats.items ≡ length old.sorted.items → has_seats old ≡ true → length after ≤ 2 ^ 32 → IsIntake names sealed new
  takes full seats short = record {
    few = is.few;
    some = is.some;
    feeds = omega (arith, is.feeds, ap length t.rings_kept, length-map new.feeds.items Rattle.mm_tie.specs.Ends.taker_ring, length-map old.feeds.items Rattle.mm_tie.specs.Ends.taker_ring);
    within = within_now short;
    rising = subst AreRising (sym t.sorted_kept) is.rising;
    same = λ n. ap (λ (l : List (List ℕ)). has_name l n) t.sorted_kept ∙ is.same n;
    count = ap length t.sorted_kept ∙ is.count;
    ranks = ap length t.ranks_kept ∙ is.ranks;
    ranked = ranked_now;
    seats = seats_now full;
    all_or_none = inr (full_now full);
    room = λ h. (t.parts_kept ∙ (is.room seats).0, omega (arith, (is.room seats).1, t.space_kept));
    entered = λ k lo hi. entry_now k (is.entered k lo hi);
  }

  -- and each image is as it was
  pub images_kept : (story : Story) → length story.sections ≤ sealed → HasImages names (by_name names (lists old)) story → HasImages names (by_name names (lists new)) story
  images_kept story all has = record {
    laid = λ k le. let here = has.laid k le in record {
      once = here.once;
      inside = here.inside;
      reads = λ n own f file. here.reads n own f file ∙ ap (λ (l : List Closed). get (image_of l) f) (sym (same k (omega (arith, le, all)) n (eq_by_cmp name_cmp n (get_or names db [])) refl));
    };
  }
    where
      same : (k : ℕ) → k ≤ sealed → (n : List ℕ) → (b : Bool) → eq_by_cmp name_cmp n (get_or names db []) ≡ b → first_items (k + 1) (by_name names (lists new)) n ≡ first_items (k + 1) (by_name names (lists old)) n
      same k le n false e = ap (take (k + 1)) (of_others n e)
      same k le n true e =
          let was : by_name names (lists old) n ≡ before = ap (by_name names (lists old)) (one_name n (get_or names db []) e) ∙ own_list names dbs (lists old) db lt ∙ mine in
          ap (take (k + 1)) (of_own n e ∙ t.more) ∙ take-append-le (k + 1) before (t.item ∷ []) (omega (arith, le, count)) ∙ ap (take (k + 1)) (sym was)
