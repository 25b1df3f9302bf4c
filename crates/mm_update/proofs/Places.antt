-- Where an index says that the first entry of a name is.
use Rattle.std.proofs.Common.{◌≡◌, ℕ, zero, suc, ◌+◌, ◌<◌, Bool, true, false, cond, List, [], ◌∷◌, ◌++◌, length, get_or, set, drop, Option, Some, None, refl, sym, ap, ◌∙◌, arith}
use Rattle.std.specs.Prelude.{option_map, is_some, ◌&&◌}
use Rattle.std.specs.Str.{bytes_eq}
use Rattle.std.specs.Borrow.{Bor}
use Rattle.std.specs.HashMap.{HashMap, get_by, UpdatesBy}
use Rattle.std.proofs.lemmas.Map.Text.{hash_map_updates_str}
use Rattle.std.proofs.lemmas.Slice.Eq.{bytes_eq-Decides}
use Rattle.mm_update.specs.declared.draft.Node.{Node}
use Rattle.mm_update.specs.declared.draft.Entry.{Entry}
use Rattle.mm_update.specs.Drafted.{place_in}
use Rattle.mm_update.specs.Indexed.{first_named, Knows, IsIndex}

plus_none : (o : Option ℕ) → option_map (λ k. 0 + k) o ≡ o
plus_none None = refl
plus_none (Some k) = ap Some (omega arith)

plus_suc : (p : ℕ) (o : Option ℕ) → option_map suc (option_map (λ k. p + k) o) ≡ option_map (λ k. suc p + k) o
plus_suc p None = refl
plus_suc p (Some k) = ap Some (omega arith)

pub from_first : (o : Option ℕ) → o ≡ option_map (λ k. 0 + k) o
from_first o = sym (plus_none o)

-- no entry of the name was ever there
pub never_named : (name : List ℕ) (es : List Entry) → first_named name es ≡ None → place_in name es ≡ None
never_named name [] none = refl
never_named name (e ∷ es) none = by (bytes_eq e.name.now name) (is_some e.node) (first_named name es) refl none (λ later. never_named name es later)
  where
    by : (b live : Bool) (o : Option ℕ) → first_named name es ≡ o → cond b (Some 0) (option_map suc o) ≡ None → (first_named name es ≡ None → place_in name es ≡ None)
        → cond (live && b) (Some 0) (option_map suc (place_in name es)) ≡ None
    by true live o is none later = absurd cc
    by false true None is none later = rw (later is) refl
    by false false None is none later = rw (later is) refl
    by false live (Some k) is none later = absurd cc

-- none of those before the first of the name has it
pub record IsFrom (name : List ℕ) (es : List Entry) (p : ℕ) : Type 0 where
  pub within : p < length es
  pub same : option_map (λ k. p + k) (place_in name (drop p es)) ≡ place_in name es

pub from_named : (name : List ℕ) (es : List Entry) (p : ℕ) → first_named name es ≡ Some p → IsFrom name es p
from_named name [] p first = absurd cc
from_named name (e ∷ es) p first = by (bytes_eq e.name.now name) refl (first_named name es) refl first (λ k later. from_named name es k later)
  where
    passed : (b live : Bool) (k : ℕ) → b ≡ false → IsFrom name es k → option_map (λ j. suc k + j) (place_in name (drop k es)) ≡ cond (live && b) (Some 0) (option_map suc (place_in name es))
    passed true live k other inner = absurd cc
    passed false true k other inner = sym (plus_suc k (place_in name (drop k es))) ∙ ap (option_map suc) inner.same
    passed false false k other inner = sym (plus_suc k (place_in name (drop k es))) ∙ ap (option_map suc) inner.same

    by : (b : Bool) → bytes_eq e.name.now name ≡ b → (o : Option ℕ) → first_named name es ≡ o → cond b (Some 0) (option_map suc o) ≡ Some p → ((k : ℕ) → first_named name es ≡ Some k → IsFrom name es k) → IsFrom name (e ∷ es) p
    by true same o is first later =
        let here : 0 ≡ p = cc in
        rw (← here) (record { within = omega arith; same = plus_none (place_in name (e ∷ es)) })
    by false same None is first later = absurd cc
    by false same (Some k) is first later =
        let here : suc k ≡ p = cc in
        let inner = later k is in
        rw (← here) (record { within = omega (arith, inner.within); same = passed (bytes_eq e.name.now name) (is_some e.node) k same inner })

abbrev pub or_last : Option ℕ → Bool → ℕ → Option ℕ
or_last (Some k) b n = Some k
or_last None b n = cond b (Some n) None

-- the first of a name once an entry is behind the others
pub first_named-push : (name : List ℕ) (es : List Entry) (e : Entry) → first_named name (es ++ e ∷ []) ≡ or_last (first_named name es) (bytes_eq e.name.now name) (length es)
first_named-push name [] e = refl
first_named-push name (x ∷ es) e = by (bytes_eq x.name.now name) (first_named name es) (first_named-push name es e)
  where
    lift : (o : Option ℕ) (c : Bool) (n : ℕ) → option_map suc (or_last o c n) ≡ or_last (option_map suc o) c (suc n)
    lift (Some k) c n = refl
    lift None true n = refl
    lift None false n = refl

    by : (b : Bool) (o : Option ℕ) → first_named name (es ++ e ∷ []) ≡ or_last o (bytes_eq e.name.now name) (length es)
        → cond b (Some 0) (option_map suc (first_named name (es ++ e ∷ []))) ≡ or_last (cond b (Some 0) (option_map suc o)) (bytes_eq e.name.now name) (suc (length es))
    by true o later = refl
    by false o later = ap (option_map suc) later ∙ lift o (bytes_eq e.name.now name) (length es)

-- names stay where a node is put at a place
pub first_named-set : (name : List ℕ) (es : List Entry) (i : ℕ) (d : Entry) (n : Option Node) → d ≡ get_or es i d → first_named name (set es i (record { name = d.name; node = n })) ≡ first_named name es
first_named-set name [] i d n is = refl
first_named-set name (e ∷ es) zero d n is = ap (λ (x : Entry). cond (bytes_eq x.name.now name) (Some 0) (option_map suc (first_named name es))) is
first_named-set name (e ∷ es) (suc i) d n is = ap (λ (o : Option ℕ). cond (bytes_eq e.name.now name) (Some 0) (option_map suc o)) (first_named-set name es i d n is)

pub none_of : (o : Option ℕ) → is_some o ≡ false → o ≡ None
none_of None there = refl
none_of (Some k) there = absurd cc

last_unknown : (o : Option ℕ) (n : ℕ) → or_last o false n ≡ o
last_unknown (Some k) n = refl
last_unknown None n = refl

module _ {S : Type 0} (m : HashMap (Bor (List ℕ)) ℕ S) (es : List Entry) (e : Entry) (name : List ℕ) (knows : Knows m es) (named : e.name.now ≡ name) where
  at_push : (q : List ℕ) → first_named q (es ++ e ∷ []) ≡ or_last (first_named q es) (bytes_eq name q) (length es)
  at_push q = first_named-push q es e ∙ ap (λ (bs : List ℕ). or_last (first_named q es) (bytes_eq bs q) (length es)) named

  -- the name was there already
  pub known_still : (k : ℕ) → get_by (λ x. bytes_eq name x.now) m ≡ Some k → Knows m (es ++ e ∷ [])
  known_still k found q = by (bytes_eq name q) refl ∙ sym (at_push q)
    where
      by : (b : Bool) → bytes_eq name q ≡ b → get_by (λ x. bytes_eq q x.now) m ≡ or_last (first_named q es) b (length es)
      by true is =
          let same : name ≡ q = (bytes_eq-Decides name q).0 is in
          let here : first_named q es ≡ Some k = ap (λ (bs : List ℕ). first_named bs es) (sym same) ∙ sym (knows name) ∙ found in
          knows q ∙ here ∙ sym (ap (λ (o : Option ℕ). or_last o true (length es)) here)
      by false is = knows q ∙ sym (last_unknown (first_named q es) (length es))

  pub known_some : is_some (get_by (λ x. bytes_eq name x.now) m) ≡ true → Knows m (es ++ e ∷ [])
  known_some there = by (get_by (λ x. bytes_eq name x.now) m) refl there
    where
      by : (o : Option ℕ) → get_by (λ x. bytes_eq name x.now) m ≡ o → is_some o ≡ true → Knows m (es ++ e ∷ [])
      by None found t = absurd cc
      by (Some k) found t = known_still k found

  -- it is told
  pub known_now : (n : HashMap (Bor (List ℕ)) ℕ S) (place : ℕ) → get_by (λ x. bytes_eq name x.now) m ≡ None → place ≡ length es
      → UpdatesBy (λ x y. bytes_eq x.now y.now) (λ k. bytes_eq name k.now) m n (Some place) → Knows n (es ++ e ∷ [])
  known_now n place new at updates q = hash_map_updates_str name m n (Some place) updates q ∙ by (bytes_eq name q) refl ∙ sym (at_push q)
    where
      by : (b : Bool) → bytes_eq name q ≡ b → cond b (Some place) (get_by (λ x. bytes_eq q x.now) m) ≡ or_last (first_named q es) b (length es)
      by true is =
          let same : name ≡ q = (bytes_eq-Decides name q).0 is in
          let none : first_named q es ≡ None = ap (λ (bs : List ℕ). first_named bs es) (sym same) ∙ sym (knows name) ∙ new in
          rw (none, at) refl
      by false is = knows q ∙ sym (last_unknown (first_named q es) (length es))

-- an index stays right where the names stay
pub index_kept : {S : Type 0} (o : Option (HashMap (Bor (List ℕ)) ℕ S)) (es fs : List Entry) → ((q : List ℕ) → first_named q fs ≡ first_named q es) → IsIndex o es → IsIndex o fs
index_kept None es fs same h = tt
index_kept (Some m) es fs same h = λ q. h q ∙ sym (same q)
