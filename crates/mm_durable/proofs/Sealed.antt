-- The section of what the databases gave is sealed.
use Rattle.std.proofs.Common.{Result, Ok, Err, OnOk, ◌≡◌, inl, inr, ℕ, zero, suc, ◌+◌, ◌^◌, ◌<◌, ◌≤◌, ◌==◌, ◌⊎◌, Bool, true, false, cond, ◌||◌, ◌&&◌, nat_lt, vec_capacity, List, [], ◌∷◌, ◌++◌, length, get_or, slice_get, map, Option, Some, None, refl, sym, ◌∙◌, ap, subst, arith, true≢false}
use Rattle.std.specs.Ordering.{eq_by_cmp}
use Rattle.std.proofs.lemmas.Bool.{and_from, and_parts}
use Rattle.std.proofs.lemmas.Bool.Decides.{nat_tests}
use Rattle.std.proofs.lemmas.List.{length-append, length-drop, length-map}
use Rattle.std.proofs.lemmas.Option.{slice_get_past}
use Rattle.mm_outside.specs.Image.{name_cmp}
use Rattle.mm_outside.specs.Told.{Told}
use Rattle.mm_outside.proofs.Places.{one_name, same_name}
use Rattle.mm_ranges.specs.declared.part.Closed.{Closed}
use Rattle.mm_ranges.specs.declared.part.Part.{Part}
use Rattle.mm_section.specs.Spells.{is_db_name}
use Rattle.mm_section.specs.declared.section.Section.{Section}
use Rattle.mm_tie.specs.Ends.{taker_ring}
use Rattle.mm_crash.specs.Story.{Story, with_section}
use Rattle.mm_crash.specs.Rest.{IsNext}
use Rattle.mm_journal.proofs.Real.{the_format, the_names}
use Rattle.mm_items.specs.Given.{Given, sealed_part, has_content, sealed_parts, Taken, AllFollow}
use Rattle.mm_prefix.specs.Prefix.{Numbers}
use Rattle.mm_durable.specs.Names.{has_name, AreDatabases, ArePartsOf}
use Rattle.mm_durable.specs.Log.{IsSound, IsKept, HasMore, sealed}
use Rattle.mm_durable.specs.Intake.{is_ours, by_name, lists, first_items, AreRising, HasGiven, HasEntry, AreSeated, IsGiven, AllGave, with_given, given_of, group_of, has_seats, empty_seat, IsIntake, KeepsFeeds}
use Rattle.mm_durable.specs.Durable.{HasImages, IsServed, IsOrderly, AllClosed, is_ready, items_of, next_section}
use Rattle.mm_durable.specs.declared.log.Log.{Log}
use Rattle.mm_durable.specs.declared.intake.Seat.{Seat}
use Rattle.mm_durable.specs.declared.intake.Intake.{Intake}
use Rattle.mm_durable.specs.declared.durable.Durable.{Durable}
use Rattle.mm_durable.proofs.Own.{named}
use Rattle.mm_durable.proofs.Spelled.{can_seal}
use Rattle.mm_durable.proofs.Sealing.{AllOurs, follow, rising_parts}
use Rattle.mm_durable.proofs.Seals.{ours_db, ours_named, seal_next, seal_images}
use Rattle.mm_durable.proofs.Taking.{has_head, has_later, has_at, own_list}

-- ---- databases of the run

pub all_ours : (names : List (List ℕ)) → AreDatabases names → (sorted : List (List ℕ)) → ((n : List ℕ) → has_name sorted n ≡ true → has_name names n ≡ true) → AllOurs names sorted
all_ours names dbs [] same = tt
all_ours names dbs (n ∷ sorted) same =
    let here : has_name names n ≡ true = same n (has_head n sorted) in
    (and_from (is_db_name n) (has_name names n) (named names dbs names dbs n here) here, all_ours names dbs sorted (λ m has. same m (has_later n sorted m has)))

follow_db : (names : List (List ℕ)) (taken : Taken) (given : List Given) → AllFollow (is_ours names) taken given → AllFollow is_db_name taken given
follow_db names taken [] all = tt
follow_db names taken (g ∷ given) all = (ours_db names g.0 all.0, (all.1.0, follow_db names taken given all.1.1))

ours_parts : (names : List (List ℕ)) (taken : Taken) (given : List Given) → AllFollow (is_ours names) taken given → ArePartsOf names (sealed_parts given)
ours_parts names taken [] all = tt
ours_parts names taken (g ∷ given) all = by (has_content (sealed_part g)) (ours_parts names taken given all.1.1)
  where
    by : (b : Bool) → ArePartsOf names (sealed_parts given) → ArePartsOf names (cond b (sealed_part g ∷ sealed_parts given) (sealed_parts given))
    by true rest = (ours_named names g.0 all.0, rest)
    by false rest = rest

few_given : (seats : List Seat) → length (given_of seats) ≤ length seats
few_given [] = omega arith
few_given (s ∷ seats) = by s.item (few_given seats)
  where
    by : (o : Option Closed) → length (given_of seats) ≤ length seats → length (with_given s.name o (given_of seats)) ≤ length (s ∷ seats)
    by None rest = omega (arith, rest)
    by (Some x) rest = omega (arith, rest)

-- ---- each database gave its item

pub each_list : (P : List Closed → Type 0) (names : List (List ℕ)) (given : List (List Closed)) → ((d : ℕ) → d < length names → P (get_or given d [])) → (n : List ℕ) → has_name names n ≡ true → P (by_name names given n)
each_list P [] given all n has = absurd (true≢false (sym has))
each_list P (m ∷ names) [] all n has = all zero (omega arith)
each_list P (m ∷ names) (l ∷ given) all n has = by (each_list P names given (λ d lt. all (suc d) (omega (arith, lt))) n) (eq_by_cmp name_cmp m n) refl has
  where
    by : (has_name names n ≡ true → P (by_name names given n)) → (b : Bool) → eq_by_cmp name_cmp m n ≡ b → (b || has_name names n) ≡ true → P (cond (eq_by_cmp name_cmp n m) l (by_name names given n))
    by rest true e is =
        let own : eq_by_cmp name_cmp n m ≡ true = ap (λ (k : List ℕ). eq_by_cmp name_cmp k m) (sym (one_name m n e)) ∙ same_name m in
        subst (λ (c : Bool). P (cond c l (by_name names given n))) (sym own) (all zero (omega arith))
    by rest false e is = other (eq_by_cmp name_cmp n m)
      where
        other : (c : Bool) → P (cond c l (by_name names given n))
        other true = all zero (omega arith)
        other false = rest is

all_gave : (count : ℕ) (items : Taken) (sorted : List (List ℕ)) (seats : List Seat) → length seats ≡ length sorted → AreSeated count items sorted seats → ((n : List ℕ) → has_name sorted n ≡ true → length (items n) ≡ count + 2) → AllGave seats
all_gave count items [] [] full is all = tt
all_gave count items [] (s ∷ seats) full is all = absurd is
all_gave count items (n ∷ sorted) [] full is all = absurd (omega (arith, full))
all_gave count items (n ∷ sorted) (s ∷ seats) full is all =
    (by s.item is.1.0, all_gave count items sorted seats (omega (arith, full)) is.1.1 (λ m has. all m (has_later n sorted m has)))
  where
    by : (o : Option Closed) → HasGiven count (items n) o → IsGiven o
    by None h = absurd (omega (arith, h, all n (has_head n sorted)))
    by (Some x) h = tt

-- ---- and its item is that of the group's number

last_there : (b : List Closed) (x : Closed) (n : ℕ) → length b ≡ n → slice_get (b ++ x ∷ []) n ≡ Some x
last_there [] x zero e = refl
last_there [] x (suc n) e = absurd (omega (arith, e))
last_there (y ∷ b) x zero e = absurd (omega (arith, e))
last_there (y ∷ b) x (suc n) e = last_there b x n (omega (arith, e))

item_is : (count : ℕ) (items : List Closed) (o : Option Closed) → HasGiven count items o → slice_get items (count + 1) ≡ o
item_is count items None h = slice_get_past items (count + 1) (omega (arith, h))
item_is count items (Some x) h = ap (λ (l : List Closed). slice_get l (count + 1)) h.1.0 ∙ last_there h.0 x (count + 1) h.1.1.0

pub group_is : (count : ℕ) (items : Taken) (sorted : List (List ℕ)) (seats : List Seat) → length seats ≡ length sorted → AreSeated count items sorted seats → group_of items (count + 1) sorted ≡ given_of seats
group_is count items [] [] full is = refl
group_is count items [] (s ∷ seats) full is = absurd is
group_is count items (n ∷ sorted) [] full is = absurd (omega (arith, full))
group_is count items (n ∷ sorted) (s ∷ seats) full is =
    ap (λ (o : Option Closed). with_given n o (group_of items (count + 1) sorted)) (item_is count (items n) s.item is.1.0)
    ∙ ap (λ (k : List ℕ). with_given k s.item (group_of items (count + 1) sorted)) (sym is.0)
    ∙ ap (λ (l : List Given). with_given s.name s.item l) (group_is count items sorted seats (omega (arith, full)) is.1.1)

-- ---- how many sections are sealed

pub story_count : (log : Log) → IsSound log → (t u : Told) (story : Story) (history : ℕ → Numbers) → IsKept t story history log u → length story.sections ≡ sealed log
story_count log sound t u story history k =
    let there : log.dropped ≤ length story.sections = omega (arith, sound.kept, sound.floor_synced, k.durable.each, k.durable.rest.s_there) in
    omega (arith, there, ap length k.sections, length-drop log.dropped story.sections)

-- ---- the section

-- no seat is there, and each database gave what is sealed
pub unseated : (count : ℕ) (items : Taken) (sorted : List (List ℕ)) → ((n : List ℕ) → has_name sorted n ≡ true → length (items n) ≡ count + 1) → AreSeated count items sorted []
unseated count items [] all = tt
unseated count items (n ∷ sorted) all = (all n (has_head n sorted), unseated count items sorted (λ m has. all m (has_later n sorted m has)))

pub no_seats : (a b : ℕ) → a ≡ 0 → 0 < b → (a == b) ≡ true → ⊥
no_seats a b e lt h = let same : a ≡ b = grind (arith, nat_tests) in omega (arith, e, lt, same)

module _ (log : Log) (a : Intake) (sound : IsSound log) (is : IsIntake log.names.items (sealed log) a) (full : length a.seats.items ≡ length a.sorted.items)
    (closed : (d : ℕ) → d < length log.names.items → length (get_or (lists a) d []) ≡ sealed log + 2) where
  abbrev items : Taken
  items = by_name log.names.items (lists a)

  abbrev pub sealed_section : Section
  sealed_section = record { number = log.last + sealed log + 1; parts = sealed_parts (given_of a.seats.items) }

  long : (n : List ℕ) → has_name log.names.items n ≡ true → length (items n) ≡ sealed log + 2
  long n has = each_list (λ (l : List Closed). length l ≡ sealed log + 2) log.names.items (lists a) closed n has

  long_sorted : (n : List ℕ) → has_name a.sorted.items n ≡ true → length (items n) ≡ sealed log + 2
  long_sorted n has = long n (sym (is.same n) ∙ has)

  gave : AllGave a.seats.items
  gave = all_gave (sealed log) items a.sorted.items a.seats.items full is.seats long_sorted

  ours : AllOurs log.names.items a.sorted.items
  ours = all_ours log.names.items sound.names a.sorted.items (λ n has. sym (is.same n) ∙ has)

  follows : AllFollow (is_ours log.names.items) (first_items (sealed log + 1) items) (given_of a.seats.items)
  follows = follow (sealed log) items log.names.items a.sorted.items a.seats.items is.seats ours

  pub may_grow : sealed log + 1 < 2 ^ 32
  may_grow = omega (arith, is.within 0 is.some, closed 0 is.some)

  pub can : the_format.can sealed_section ≡ true
  can = can_seal (first_items (sealed log + 1) items) (given_of a.seats.items) (follow_db log.names.items (first_items (sealed log + 1) items) (given_of a.seats.items) follows)
      (omega (arith, few_given a.seats.items, full, is.count, is.few)) (rising_parts (sealed log) items a.sorted.items a.seats.items is.seats is.rising) (log.last + sealed log + 1) (omega (arith, sound.last, may_grow))

  pub own : ArePartsOf log.names.items (sealed_parts (given_of a.seats.items))
  own = ours_parts log.names.items (first_items (sealed log + 1) items) (given_of a.seats.items) follows

  module _ (t u : Told) (story : Story) (history : ℕ → Numbers) (k : IsServed t u story history log items) where
    count : sealed log ≡ length story.sections
    count = sym (story_count log sound t u story history k.log_is)

    pub comes_next : IsNext the_format the_names story sealed_section
    comes_next = seal_next story log.names.items items k.images (sealed log) count a.sorted.items a.seats.items full is.seats is.rising ours gave is.same (log.last + sealed log + 1) can (omega (arith, k.log_is.last, count))

    pub images : HasImages log.names.items items (with_section story sealed_section)
    images = seal_images story log.names.items items k.images (sealed log) count a.sorted.items a.seats.items full is.seats is.rising ours gave is.same (log.last + sealed log + 1)

  pub intake_sealed : (new : Intake) → KeepsFeeds a new → new.seats.items ≡ [] → (HasEntry (lists a) (sealed log + 1) ⊎ (sealed log ≡ 0)) → IsIntake log.names.items (sealed log + 1) new
  intake_sealed new f none entry = record {
    few = is.few;
    some = is.some;
    feeds = omega (arith, is.feeds, ap length f.rings_kept, length-map new.feeds.items taker_ring, length-map a.feeds.items taker_ring);
    within = λ d lt. subst (λ (l : List (List Closed)). length (get_or l d []) ≤ 2 ^ 32) (sym f.lists_kept) (is.within d lt);
    rising = subst AreRising (sym f.sorted_kept) is.rising;
    same = λ n. ap (λ (l : List (List ℕ)). has_name l n) f.sorted_kept ∙ is.same n;
    count = ap length f.sorted_kept ∙ is.count;
    ranks = ap length f.ranks_kept ∙ is.ranks;
    ranked = λ d lt.
        subst (λ (l : List ℕ). (get_or l d 0 < length log.names.items) × (get_or new.sorted.items (get_or l d 0) [] ≡ get_or log.names.items d [])) (sym f.ranks_kept)
        (subst (λ (l : List (List ℕ)). (get_or a.ranks.items d 0 < length log.names.items) × (get_or l (get_or a.ranks.items d 0) [] ≡ get_or log.names.items d [])) (sym f.sorted_kept) (is.ranked d lt));
    seats =
        subst (λ (l : List Seat). AreSeated (sealed log + 1) (by_name log.names.items (lists new)) new.sorted.items l) (sym none)
        (subst (λ (l : List (List ℕ)). AreSeated (sealed log + 1) (by_name log.names.items (lists new)) l []) (sym f.sorted_kept)
        (subst (λ (l : List (List Closed)). AreSeated (sealed log + 1) (by_name log.names.items l) a.sorted.items []) (sym f.lists_kept) (unseated (sealed log + 1) items a.sorted.items (λ n has. omega (arith, long_sorted n has)))));
    all_or_none = inl none;
    room = λ h. absurd (no_seats (length new.seats.items) (length new.sorted.items) (ap length none) (omega (arith, is.some, is.count, ap length f.sorted_kept)) h);
    entered = λ i lo hi. subst (λ (l : List (List Closed)). HasEntry l i) (sym f.lists_kept) (entered i lo hi entry);
  }
    where
      entered : (i : ℕ) → 2 ≤ i → i ≤ sealed log + 1 → (HasEntry (lists a) (sealed log + 1) ⊎ (sealed log ≡ 0)) → HasEntry (lists a) i
      entered i lo hi e = by (Rattle.std.proofs.lemmas.Bool.cases_Bool (i == sealed log + 1))
        where
          first : HasEntry (lists a) (sealed log + 1) ⊎ (sealed log ≡ 0) → i ≡ sealed log + 1 → HasEntry (lists a) i
          first (inl here) q = subst (λ (n : ℕ). HasEntry (lists a) n) (sym q) here
          first (inr none) q = absurd (omega (arith, lo, q, none))

          by : ((i == sealed log + 1) ≡ true) ⊎ ((i == sealed log + 1) ≡ false) → HasEntry (lists a) i
          by (inl q) = let same : i ≡ sealed log + 1 = grind (arith, nat_tests) in first e same
          by (inr q) = let below : i ≤ sealed log = grind (arith, nat_tests) in is.entered i lo below

-- ---- the durable side with one section more

pub full_of : (a b : ℕ) → (a == b) ≡ true → a ≡ b
full_of a b e = grind (arith, nat_tests)

pub room_of : (a b : ℕ) → nat_lt a b ≡ true → a < b
room_of a b e = grind (arith, nat_tests)

pub sealed_more : (old new : Log) (x : Section) → HasMore old x new → sealed new ≡ sealed old + 1
sealed_more old new x more = omega (arith, more.dropped, ap length more.sections, length-append old.sections.items (x ∷ []))

pub images_moved : (a b : List (List ℕ)) (x y : List (List Closed)) (story : Story) → b ≡ a → y ≡ x → HasImages a (by_name a x) story → HasImages b (by_name b y) story
images_moved a b x y story e f is = subst (λ (l : List (List ℕ)). HasImages l (by_name l y) story) (sym e) (subst (λ (l : List (List Closed)). HasImages a (by_name a l) story) (sym f) is)

pub intake_moved : (a b : List (List ℕ)) (n m : ℕ) (i : Intake) → b ≡ a → m ≡ n → IsIntake a n i → IsIntake b m i
intake_moved a b n m i e f is = subst (λ (l : List (List ℕ)). IsIntake l m i) (sym e) (subst (λ (k : ℕ). IsIntake a k i) (sym f) is)

module _ {D : Type 0} (old : Durable D) (is : IsOrderly old) (ready : is_ready old ≡ true) where
  pub seats_ready : has_seats old.intake ≡ true
  seats_ready = (and_parts (has_seats old.intake) (nat_lt (length old.log.sections.items) (vec_capacity old.log.sections)) ready).0

  abbrev pub seats_full : length old.intake.seats.items ≡ length old.intake.sorted.items
  seats_full = full_of (length old.intake.seats.items) (length old.intake.sorted.items) (and_parts (has_seats old.intake) (nat_lt (length old.log.sections.items) (vec_capacity old.log.sections)) ready).0

  pub section_room : length old.log.sections.items < vec_capacity old.log.sections
  section_room = room_of (length old.log.sections.items) (vec_capacity old.log.sections) (and_parts (has_seats old.intake) (nat_lt (length old.log.sections.items) (vec_capacity old.log.sections)) ready).1

  pub parts_room : (old.intake.parts.items ≡ []) × (length old.intake.seats.items ≤ vec_capacity old.intake.parts)
  parts_room =
      let room = is.intake_is.room (and_parts (has_seats old.intake) (nat_lt (length old.log.sections.items) (vec_capacity old.log.sections)) ready).0 in
      (room.0, omega (arith, room.1, seats_full, is.intake_is.count))

  module _ (closed : AllClosed old) where
    abbrev each : (d : ℕ) → d < length old.log.names.items → length (get_or (lists old.intake) d []) ≡ sealed old.log + 2
    each d lt = full_of (length (get_or (lists old.intake) d [])) (sealed old.log + 2) (closed d lt)

    section_is : sealed_section old.log old.intake is.sound is.intake_is seats_full each ≡ next_section old
    section_is = ap (λ (l : List Given). let x : Section = record { number = old.log.last + sealed old.log + 1; parts = sealed_parts l } in x) (sym (group_is (sealed old.log) (by_name old.log.names.items (lists old.intake)) old.intake.sorted.items old.intake.seats.items seats_full is.intake_is.seats))

    pub section_as : (n : ℕ) (p : List Part) → n ≡ old.log.last + sealed old.log + 1 → p ≡ sealed_parts (given_of old.intake.seats.items) → (let x : Section = record { number = n; parts = p } in x) ≡ next_section old
    section_as n p e f =
        ap (λ (k : ℕ). let x : Section = record { number = k; parts = p } in x) e
        ∙ ap (λ (l : List Part). let x : Section = record { number = old.log.last + sealed old.log + 1; parts = l } in x) f
        ∙ section_is

    pub can_next : the_format.can (next_section old) ≡ true
    can_next = subst (λ (x : Section). the_format.can x ≡ true) section_is (can old.log old.intake is.sound is.intake_is seats_full each)

    pub own_next : ArePartsOf old.log.names.items (sealed_parts (given_of old.intake.seats.items))
    own_next = own old.log old.intake is.sound is.intake_is seats_full each

    pub few_next : sealed old.log + 1 < 2 ^ 32
    few_next = may_grow old.log old.intake is.sound is.intake_is seats_full each

    pub next_comes : (t u : Told) (story : Story) (history : ℕ → Numbers) → IsServed t u story history old.log (items_of old) → IsNext the_format the_names story (next_section old)
    next_comes t u story history k = subst (λ (x : Section). IsNext the_format the_names story x) section_is (comes_next old.log old.intake is.sound is.intake_is seats_full each t u story history k)

    pub next_images : (t u : Told) (story : Story) (history : ℕ → Numbers) → IsServed t u story history old.log (items_of old) → HasImages old.log.names.items (items_of old) (with_section story (next_section old))
    next_images t u story history k = subst (λ (x : Section). HasImages old.log.names.items (items_of old) (with_section story x)) section_is (images old.log old.intake is.sound is.intake_is seats_full each t u story history k)

    pub intake_next : (new : Intake) → KeepsFeeds old.intake new → new.seats.items ≡ [] → (HasEntry (lists old.intake) (sealed old.log + 1) ⊎ (sealed old.log ≡ 0)) → IsIntake old.log.names.items (sealed old.log + 1) new
    intake_next = intake_sealed old.log old.intake is.sound is.intake_is seats_full each

-- ---- how many items a database gave

given_count : (count : ℕ) (items : Taken) (sorted : List (List ℕ)) (seats : List Seat) → length seats ≡ length sorted → AreSeated count items sorted seats → (n : List ℕ) → has_name sorted n ≡ true → (length (items n) ≡ count + 1) ⊎ (length (items n) ≡ count + 2)
given_count count items [] seats full is n has = absurd (true≢false (sym has))
given_count count items (m ∷ sorted) [] full is n has = absurd (omega (arith, full))
given_count count items (m ∷ sorted) (s ∷ seats) full is n has = by (given_count count items sorted seats (omega (arith, full)) is.1.1 n) (eq_by_cmp name_cmp m n) refl has
  where
    here : (o : Option Closed) → HasGiven count (items m) o → (length (items m) ≡ count + 1) ⊎ (length (items m) ≡ count + 2)
    here None h = inl h
    here (Some x) h = inr (omega (arith, ap length h.1.0, length-append h.0 (x ∷ []), h.1.1.0))

    by : (has_name sorted n ≡ true → (length (items n) ≡ count + 1) ⊎ (length (items n) ≡ count + 2)) → (b : Bool) → eq_by_cmp name_cmp m n ≡ b → (b || has_name sorted n) ≡ true → (length (items n) ≡ count + 1) ⊎ (length (items n) ≡ count + 2)
    by rest true e h = subst (λ (k : List ℕ). (length (items k) ≡ count + 1) ⊎ (length (items k) ≡ count + 2)) (one_name m n e) (here s.item is.1.0)
    by rest false e h = rest h

-- one that didn't close since the last seal
pub not_closed : (log : Log) (a : Intake) → IsSound log → IsIntake log.names.items (sealed log) a → length a.seats.items ≡ length a.sorted.items → (d : ℕ) → d < length log.names.items → (length (get_or (lists a) d []) == sealed log + 2) ≡ false → length (get_or (lists a) d []) ≡ sealed log + 1
not_closed log a sound is full d lt other =
    let n = get_or log.names.items d [] in
    let items = by_name log.names.items (lists a) in
    let own : items n ≡ get_or (lists a) d [] = own_list log.names.items sound.names (lists a) d lt in
    by own (given_count (sealed log) items a.sorted.items a.seats.items full is.seats n (is.same n ∙ has_at log.names.items d lt))
  where
    no_way : (a b : ℕ) → (a == b) ≡ false → a ≡ b → ⊥
    no_way a b e q = let same : (a == b) ≡ true = grind (arith, nat_tests) in true≢false (sym same ∙ e)

    by : by_name log.names.items (lists a) (get_or log.names.items d []) ≡ get_or (lists a) d [] → (length (by_name log.names.items (lists a) (get_or log.names.items d [])) ≡ sealed log + 1) ⊎ (length (by_name log.names.items (lists a) (get_or log.names.items d [])) ≡ sealed log + 2) → length (get_or (lists a) d []) ≡ sealed log + 1
    by own (inl e) = sym (ap length own) ∙ e
    by own (inr e) = absurd (no_way (length (get_or (lists a) d [])) (sealed log + 2) other (sym (ap length own) ∙ e))

-- what has seats and room still has them
pub ready_as : (a b c d x y : ℕ) → ((a == b) && nat_lt x y) ≡ true → c ≡ a → d ≡ b → ((c == d) && nat_lt x y) ≡ true
ready_as a b c d x y h e f = ap (λ (n : ℕ). (n == d) && nat_lt x y) e ∙ ap (λ (n : ℕ). (a == n) && nat_lt x y) f ∙ h

pub on_ok_both : {A B C E : Type 0} (r : Result A E) → (B → C) → OnOk r B → OnOk r C
on_ok_both (Ok x) f h = f h
on_ok_both (Err e) f h = h

pub room_holds : (a b : ℕ) → a < b → nat_lt a b ≡ true
room_holds a b lt = grind (arith, nat_tests)

-- ---- seats are taken

seat_all : (k : ℕ) (given : Taken) (sorted : List (List ℕ)) → AreSeated k given sorted [] → AreSeated k given sorted (map empty_seat sorted)
seat_all k given [] is = tt
seat_all k given (n ∷ sorted) is = (refl, (is.0, seat_all k given sorted is.1))

pub readied : (names : List (List ℕ)) (count : ℕ) (old new : Intake) → old.seats.items ≡ [] → KeepsFeeds old new → new.seats.items ≡ map empty_seat old.sorted.items → new.parts.items ≡ [] → length old.sorted.items ≤ vec_capacity new.parts → IsIntake names count old → IsIntake names count new
readied names count old new none f seats parts space is = record {
  few = is.few;
  some = is.some;
  feeds = omega (arith, is.feeds, ap length f.rings_kept, length-map new.feeds.items taker_ring, length-map old.feeds.items taker_ring);
  within = λ d lt. subst (λ (l : List (List Closed)). length (get_or l d []) ≤ 2 ^ 32) (sym f.lists_kept) (is.within d lt);
  rising = subst AreRising (sym f.sorted_kept) is.rising;
  same = λ n. ap (λ (l : List (List ℕ)). has_name l n) f.sorted_kept ∙ is.same n;
  count = ap length f.sorted_kept ∙ is.count;
  ranks = ap length f.ranks_kept ∙ is.ranks;
  ranked = λ d lt.
      subst (λ (l : List ℕ). (get_or l d 0 < length names) × (get_or new.sorted.items (get_or l d 0) [] ≡ get_or names d [])) (sym f.ranks_kept)
      (subst (λ (l : List (List ℕ)). (get_or old.ranks.items d 0 < length names) × (get_or l (get_or old.ranks.items d 0) [] ≡ get_or names d [])) (sym f.sorted_kept) (is.ranked d lt));
  seats =
      subst (λ (l : List Seat). AreSeated count (by_name names (lists new)) new.sorted.items l) (sym seats)
      (subst (λ (l : List (List ℕ)). AreSeated count (by_name names (lists new)) l (map empty_seat old.sorted.items)) (sym f.sorted_kept)
      (subst (λ (l : List (List Closed)). AreSeated count (by_name names l) old.sorted.items (map empty_seat old.sorted.items)) (sym f.lists_kept)
      (seat_all count (by_name names (lists old)) old.sorted.items (subst (λ (l : List Seat). AreSeated count (by_name names (lists old)) old.sorted.items l) none is.seats))));
  all_or_none = inr (ap length seats ∙ length-map old.sorted.items empty_seat ∙ sym (ap length f.sorted_kept));
  room = λ h. (parts, omega (arith, space, is.count));
  entered = λ i lo hi. subst (λ (l : List (List Closed)). HasEntry l i) (sym f.lists_kept) (is.entered i lo hi);
}

pub empty_of : (seats : List Seat) → (length seats == 0) ≡ true → seats ≡ []
empty_of [] e = refl
empty_of (s ∷ seats) e = absurd (omega (arith, full_of (length (s ∷ seats)) 0 e))
