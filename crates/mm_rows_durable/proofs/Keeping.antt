-- What the calls of a durable side keep of what the tests know of it and of its databases.
use Rattle.std.proofs.Common.{◌≡◌, ℕ, zero, suc, ◌+◌, ◌<◌, ◌≤◌, ◌==◌, Bool, true, false, cond, nat_lt, List, [], ◌∷◌, ◌++◌, length, take, get_or, slice_get, slice_set, slice_index_or, map, Some, Result, Ok, Err, OnOk, IfOk, is_ok, true≢false, refl, sym, ◌∙◌, ap, subst, arith}
use Rattle.std.proofs.lemmas.Bool.Decides.{nat_tests}
use Rattle.std.proofs.lemmas.List.{length-set}
use Rattle.std.proofs.lemmas.Option.{none-some, same_Some, slice_get_read, slice_get_within}
use Rattle.mm_ranges.specs.declared.part.Closed.{Closed}
use Rattle.mm_tie.specs.Ends.{Ring, taken, taker_ring}
use Rattle.mm_tie.specs.declared.ends.Taker.{Taker}
use Rattle.mm_durable.specs.Names.{AreDatabases}
use Rattle.mm_durable.specs.Log.{IsSound, KeepsRun, HasLogged, IsBegun, sealed, synced, has_pending, is_marked}
use Rattle.mm_durable.specs.Intake.{IsOwn, KeepsFeeds, lists, rings}
use Rattle.mm_durable.specs.Durable.{IsOrderly, SameItems, SameButGone, has_closed}
use Rattle.mm_durable.specs.declared.log.Log.{Log}
use Rattle.mm_durable.specs.declared.durable.Durable.{Durable}
use Rattle.mm_rows_durable.specs.Sides.{IsSide}
use Rattle.mm_rows_durable.specs.Benches.{IsBench, IsFed, IsNamed, IsPlaced, all_names}
use Rattle.mm_rows_durable.specs.declared.subject.Side.{Side}
use Rattle.mm_rows_durable.specs.declared.subject.Bench.{Bench}

-- ---- databases by number

pub set_each : (P : ℕ → Side → Type 0) (sides : List Side) (d : ℕ) (t : Side) → ((e : ℕ) (s : Side) → (e ≡ d → ⊥) → slice_get sides e ≡ Some s → P e s) → P d t
    → (e : ℕ) (s : Side) → slice_get (slice_set sides d t) e ≡ Some s → P e s
set_each P [] d t all here e s found = absurd (none-some s found)
set_each P (x ∷ sides) zero t all here zero s found = subst (P 0) (same_Some t s found) here
set_each P (x ∷ sides) zero t all here (suc e) s found = all (suc e) s (λ same. absurd (omega (arith, same))) found
set_each P (x ∷ sides) (suc d) t all here zero s found = all zero s (λ same. absurd (omega (arith, same))) found
set_each P (x ∷ sides) (suc d) t all here (suc e) s found = set_each (λ i. P (suc i)) sides d t (λ i y other at. all (suc i) y (λ same. other (omega (arith, same))) at) here e s found

pub there : (sides : List Side) (d : ℕ) (s : Side) → d < length sides → s ≡ slice_index_or sides d s → slice_get sides d ≡ Some s
there sides d s lt at = slice_get_read sides (length sides) d s refl lt at

pub found_at : (sides : List Side) (d : ℕ) → d < length sides → (s : Side) × (slice_get sides d ≡ Some s)
found_at [] d lt = absurd (omega (arith, lt))
found_at (x ∷ sides) zero lt = (x, refl)
found_at (x ∷ sides) (suc d) lt = found_at sides d (omega (arith, lt))

-- ---- a durable side that keeps what is known of the databases

module _ {D : Type 0} (old «new» : Durable D) where
  pub closed_as : (db : ℕ) (b : Bool) → get_or (lists «new».intake) db [] ≡ get_or (lists old.intake) db [] → sealed «new».log ≡ sealed old.log → has_closed old db ≡ b → has_closed «new» db ≡ b
  closed_as db b same count was = ap (λ (l : List Closed). length l == sealed «new».log + 2) same ∙ ap (λ (n : ℕ). length (get_or (lists old.intake) db []) == n + 2) count ∙ was

  pub own_as : (db : ℕ) (ring : Ring) → rings «new».intake ≡ rings old.intake → IsOwn old.intake db ring → IsOwn «new».intake db ring
  own_as db ring same own = ap (λ (l : List Ring). slice_get l db) same ∙ own

  pub placed_as : lists «new».intake ≡ lists old.intake → rings «new».intake ≡ rings old.intake → sealed «new».log ≡ sealed old.log → (db : ℕ) (s : Side) → IsPlaced old db s → IsPlaced «new» db s
  placed_as same own count db s is = record {
    side_is = is.side_is;
    own = own_as db _ own is.own;
    unclosed = closed_as db false (ap (λ (l : List (List Closed)). get_or l db []) same) count is.unclosed;
  }

  pub sealed_as : KeepsRun old.log «new».log → sealed «new».log ≡ sealed old.log
  sealed_as run = omega (arith, run.dropped, ap length run.sections)

-- ---- the bench

kept_by : (b c : Bench) → IsBench b → IsOrderly c.durable → c.durable.ended ≡ false → c.durable.log.names.items ≡ b.durable.log.names.items → lists c.durable.intake ≡ lists b.durable.intake → rings c.durable.intake ≡ rings b.durable.intake
    → sealed c.durable.log ≡ sealed b.durable.log → c.sides.items ≡ b.sides.items → IsBench c
kept_by b c is orderly going names same own count sides = record {
  orderly = orderly;
  going = going;
  count = ap length sides ∙ is.count ∙ ap length (sym names);
  each = λ db s found. placed_as b.durable c.durable same own count db s (is.each db s (ap (λ (l : List Side). slice_get l db) (sym sides) ∙ found));
}

-- a device call
pub kept_bench : (b c : Bench) → IsBench b → SameItems b.durable c.durable → IsOrderly c.durable → c.durable.ended ≡ false → c.sides.items ≡ b.sides.items → IsBench c
kept_bench b c is same orderly going sides = kept_by b c is orderly going same.run.names same.same_taken.lists_same same.same_taken.rings_same (sealed_as b.durable c.durable same.run) sides

-- a sync of the data files lets the oldest sections go
pub gone_bench : (b c : Bench) → IsBench b → SameButGone b.durable c.durable → IsOrderly c.durable → c.durable.ended ≡ false → c.sides.items ≡ b.sides.items → IsBench c
gone_bench b c is same orderly going sides = kept_by b c is orderly going same.gone.names same.same_taken.lists_same same.same_taken.rings_same same.gone.sealed_same sides

-- memory was taken for the next section
pub readied_bench : (b c : Bench) → IsBench b → KeepsRun b.durable.log c.durable.log → KeepsFeeds b.durable.intake c.durable.intake → IsOrderly c.durable → c.durable.ended ≡ b.durable.ended → c.sides.items ≡ b.sides.items → IsBench c
readied_bench b c is run feeds orderly ended sides = kept_by b c is orderly (ended ∙ is.going) run.names feeds.lists_kept feeds.rings_kept (sealed_as b.durable c.durable run) sides

-- one of the databases took a step
pub sided_bench : (b c : Bench) (d : ℕ) (s t : Side) → IsBench b → IsOrderly c.durable → c.durable.ended ≡ false → c.durable.log.names.items ≡ b.durable.log.names.items → lists c.durable.intake ≡ lists b.durable.intake → rings c.durable.intake ≡ rings b.durable.intake
    → sealed c.durable.log ≡ sealed b.durable.log → c.sides.items ≡ slice_set b.sides.items d t → slice_get b.sides.items d ≡ Some s → IsSide t → t.held.images.ring ≡ s.held.images.ring → IsBench c
sided_bench b c d s t is orderly going names same own count sides at side ring =
    let was = is.each d s at in
    let placed : IsPlaced b.durable d t = record { side_is = side; own = was.own ∙ ap (λ (r : Ring). Some r) (sym ring); unclosed = was.unclosed } in
    let all = set_each (IsPlaced b.durable) b.sides.items d t (λ e y other found. is.each e y found) placed in
    record {
      orderly = orderly;
      going = going;
      count = ap length sides ∙ length-set b.sides.items d t ∙ is.count ∙ ap length (sym names);
      each = λ e y found. placed_as b.durable c.durable same own count e y (all e y (ap (λ (l : List Side). slice_get l e) (sym sides) ∙ found));
    }

pub if_ok : {T E A : Type 0} (r : Result T E) → is_ok r ≡ true → OnOk r A → A
if_ok (Ok x) is a = a
if_ok (Err e) is a = absurd (true≢false (sym is))

pub on_ok1 : {T E A B : Type 0} (r : Result T E) → (A → B) → OnOk r A → OnOk r B
on_ok1 (Ok x) f a = f a
on_ok1 (Err e) f a = tt

pub if_ok2 : {T E : Type 0} {A B C : T → Type 0} (r : Result T E) → ((x : T) → A x → B x → C x) → IfOk r A → IfOk r B → IfOk r C
if_ok2 (Ok x) f a b = f x a b
if_ok2 (Err e) f a b = tt

-- where none was logged, none is pending
pub none_logged : (old new : Log) (logged : Bool) → KeepsRun old new → HasLogged (cond logged 1 0) old new → logged ≡ has_pending old → logged ≡ false → has_pending new ≡ false
none_logged old new false run counts is no_more =
    let test : nat_lt (synced old) (sealed old) ≡ false = sym is in
    let le : sealed old ≤ synced old = grind (arith, nat_tests) in
    let there : sealed new ≡ sealed old = omega (arith, run.dropped, ap length run.sections) in
    let more : sealed new ≤ synced new = omega (arith, le, there, counts.synced_more) in
    grind (arith, nat_tests)
none_logged old new true run counts is no_more = absurd (true≢false no_more)

pub all_are_marked : (log : Log) → IsSound log → has_pending log ≡ false → log.last + log.mark ≡ log.last + synced log → is_marked log ≡ true
all_are_marked log sound none same =
    let le : sealed log ≤ synced log = grind (arith, nat_tests) in
    let marked : log.mark ≡ synced log = omega (arith, same) in
    let all : synced log ≡ sealed log = omega (arith, le, sound.there) in
    grind (arith, nat_tests)

pub on_ok2 : {T E A B C : Type 0} (r : Result T E) → (A → B → C) → OnOk r A → OnOk r B → OnOk r C
on_ok2 (Ok x) f a b = f a b
on_ok2 (Err e) f a b = tt

-- ---- the start

fed_push : (sides : List Side) (feeds : List (Taker Closed)) (s : Side) (f : Taker Closed) → IsFed sides feeds → IsSide s → taker_ring f ≡ s.held.images.ring → length (taken f) ≡ 1 → IsFed (sides ++ s ∷ []) (feeds ++ f ∷ [])
fed_push [] [] s f fed side ring count = ((side, (ring, count)), tt)
fed_push [] (g ∷ feeds) s f fed side ring count = absurd fed
fed_push (x ∷ sides) [] s f fed side ring count = absurd fed
fed_push (x ∷ sides) (g ∷ feeds) s f fed side ring count = (fed.0, fed_push sides feeds s f fed.1 side ring count)

pub fed_pushed : (sides more : List Side) (feeds others : List (Taker Closed)) (s : Side) (f : Taker Closed) → more ≡ sides ++ s ∷ [] → others ≡ feeds ++ f ∷ [] → IsFed sides feeds → IsSide s → taker_ring f ≡ s.held.images.ring → length (taken f) ≡ 1 → IsFed more others
fed_pushed sides more feeds others s f e g fed side ring count = subst (λ (l : List Side). IsFed l others) (sym e) (subst (IsFed (sides ++ s ∷ [])) (sym g) (fed_push sides feeds s f fed side ring count))

pub fed_length : (sides : List Side) (feeds : List (Taker Closed)) → IsFed sides feeds → length feeds ≡ length sides
fed_length [] [] fed = refl
fed_length [] (g ∷ feeds) fed = absurd fed
fed_length (x ∷ sides) [] fed = absurd fed
fed_length (x ∷ sides) (g ∷ feeds) fed = omega (arith, fed_length sides feeds fed.1)

pub fed_first : (sides : List Side) (feeds : List (Taker Closed)) → IsFed sides feeds → (d : ℕ) → d < length feeds → length (get_or (map taken feeds) d []) ≡ 1
fed_first [] [] fed d lt = absurd (omega (arith, lt))
fed_first [] (g ∷ feeds) fed d lt = absurd fed
fed_first (x ∷ sides) [] fed d lt = absurd fed
fed_first (x ∷ sides) (g ∷ feeds) fed zero lt = fed.0.1.1
fed_first (x ∷ sides) (g ∷ feeds) fed (suc d) lt = fed_first sides feeds fed.1 d (omega (arith, lt))

fed_own : (sides : List Side) (feeds : List (Taker Closed)) → IsFed sides feeds → (d : ℕ) (s : Side) → slice_get sides d ≡ Some s → IsSide s × (slice_get (map taker_ring feeds) d ≡ Some s.held.images.ring)
fed_own [] feeds fed d s found = absurd (none-some s found)
fed_own (x ∷ sides) [] fed d s found = absurd fed
fed_own (x ∷ sides) (g ∷ feeds) fed zero s found = let same = same_Some x s found in (subst IsSide same fed.0.0, ap (λ (r : Ring). Some r) (fed.0.1.0 ∙ ap (λ (y : Side). y.held.images.ring) same))
fed_own (x ∷ sides) (g ∷ feeds) fed (suc d) s found = fed_own sides feeds fed.1 d s found

pub four_names : (none one two three four : List (List ℕ)) → none ≡ [] → one ≡ none ++ (0x62 ∷ []) ∷ [] → two ≡ one ++ (0x61 ∷ []) ∷ [] → three ≡ two ++ (0x64 ∷ []) ∷ [] → four ≡ three ++ (0x63 ∷ []) ∷ [] → four ≡ all_names
four_names none one two three four e0 e1 e2 e3 e4 =
    e4 ∙ ap (λ (l : List (List ℕ)). l ++ (0x63 ∷ []) ∷ []) (e3 ∙ ap (λ (l : List (List ℕ)). l ++ (0x64 ∷ []) ∷ []) (e2 ∙ ap (λ (l : List (List ℕ)). l ++ (0x61 ∷ []) ∷ []) (e1 ∙ ap (λ (l : List (List ℕ)). l ++ (0x62 ∷ []) ∷ []) e0)))

count_names : (count : ℕ) → count ≤ 4 → length (take count all_names) ≡ count
count_names zero few = refl
count_names (suc zero) few = refl
count_names (suc (suc zero)) few = refl
count_names (suc (suc (suc zero))) few = refl
count_names (suc (suc (suc (suc zero)))) few = refl
count_names (suc (suc (suc (suc (suc n))))) few = absurd (omega (arith, few))

pub named_count : (count : ℕ) (names : List (List ℕ)) → count ≤ 4 → IsNamed count names → length names ≡ count
named_count count names few is = ap length is ∙ count_names count few

databases : (count : ℕ) → count ≤ 4 → AreDatabases (take count all_names)
databases zero few = tt
databases (suc zero) few = (refl, (refl, tt))
databases (suc (suc zero)) few = (refl, (refl, (refl, (refl, tt))))
databases (suc (suc (suc zero))) few = (refl, (refl, (refl, (refl, (refl, (refl, tt))))))
databases (suc (suc (suc (suc zero)))) few = (refl, (refl, (refl, (refl, (refl, (refl, (refl, (refl, tt))))))))
databases (suc (suc (suc (suc (suc n))))) few = absurd (omega (arith, few))

pub named_databases : (count : ℕ) (names : List (List ℕ)) → count ≤ 4 → IsNamed count names → AreDatabases names
named_databases count names few is = subst AreDatabases (sym is) (databases count few)

-- a run begins
pub new_bench : (b : Bench) (names : List (List ℕ)) (feeds : List (Taker Closed)) → IsOrderly b.durable → b.durable.ended ≡ false → IsBegun names 0 b.durable.log → b.durable.intake.feeds.items ≡ feeds → IsFed b.sides.items feeds → length b.sides.items ≡ length names → IsBench b
new_bench b names feeds orderly going begun own fed count =
    let long = fed_length b.sides.items feeds fed in
    record {
      orderly = orderly;
      going = going;
      count = count ∙ ap length (sym begun.names_are);
      each = λ d s found.
          let one = fed_own b.sides.items feeds fed d s found in
          record {
            side_is = one.0;
            own = ap (λ (l : List (Taker Closed)). slice_get (map taker_ring l) d) own ∙ one.1;
            unclosed = not_yet (length (get_or (lists b.durable.intake) d [])) (sealed b.durable.log)
                (ap (λ (l : List (Taker Closed)). length (get_or (map taken l) d [])) own ∙ fed_first b.sides.items feeds fed d (omega (arith, long, slice_get_within b.sides.items d s found))) begun.none;
          };
    }
  where
    not_yet : (n s : ℕ) → n ≡ 1 → s ≡ 0 → (n == s + 2) ≡ false
    not_yet n s e f = grind (arith, nat_tests)
