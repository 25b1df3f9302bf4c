-- Reading many items in a loop.
use Rattle.std.proofs.Common.{◌≡◌, ℕ, zero, suc, ◌<◌, ◌≤◌, List, [], ◌∷◌, ◌++◌, length, Some, None, Result, Ok, Err, false, append_assoc, append-nil, ◌-◌, refl, sym, ap, ◌∙◌, arith}
use Rattle.mm_bson.specs.Tree.{Elements, no_elements, element, append, Values, append_values, no_values, item}
use Rattle.mm_notation.specs.declared.stop.Stop.{Stop}
use Rattle.mm_notation.specs.declared.stop.Stop.TheVariants.{NoMemory, At}
use Rattle.mm_notation.specs.Reading.{Read, Item, ◌>>=◌, Fails, behind_item, many_for, many_at, items_behind, more_item, closing_at, pair_at, pairs_at, object_at, array_at, value_at, member_at, items_at, with_element}

-- a step that fails decides
pub fails-bind : {A B : Type 0} (e : Stop) (r : Result A (List ℕ)) (f : A → Result B (List ℕ)) → Fails e r → Fails e (r >>= f)
fails-bind NoMemory r f h = tt
fails-bind (At rest) r f h = rw h refl

end_fails : {A B : Type 0} (e : Stop) (read : Result A (List ℕ)) (other : Result B (List ℕ)) → read ≡ Err [] → other ≡ Err [] → Fails e read → Fails e other
end_fails NoMemory read other empty none h = tt
end_fails (At rest) read other empty none h = cc

-- what was read before, and what is still read
abbrev pub prepend : {M : Type 0} → (M → M → M) → M → Read M → Read M
prepend app front read = read >>= λ m. Ok (app front m.0, m.1)

pub begins : {M : Type 0} (app : M → M → M) (front : M) → ((m : M) → app front m ≡ m) → (read : Read M) → prepend app front read ≡ read
begins app front h (Ok m) = ap (λ (k : _). Ok (k, m.1)) (h m.0)
begins app front h (Err r) = refl

module _ {X M : Type 0} (nil : M) (cons : X → M → M) (one : Item X) (app : M → M → M) where
  regroup : (front next : M) (x : X) → ((m : M) → app front (cons x m) ≡ app next m) → (read : Read M)
      → prepend app front (read >>= λ m. Ok (cons x m.0, m.1)) ≡ prepend app next read
  regroup front next x h (Ok m) = ap (λ (k : M). Ok (k, m.1)) (h m.0)
  regroup front next x h (Err r) = refl

  pub goes_on : (fuel : ℕ) (front next : M) (text : List ℕ) (x : X) (after : List ℕ) (total : Read M)
      → length text ≤ fuel → length after < length text → one text ≡ Ok (Some x, after) → ((m : M) → app front (cons x m) ≡ app next m)
      → prepend app front (many_for nil cons one fuel text) ≡ total
      → (f : ℕ) × (length after ≤ f) × (prepend app next (many_for nil cons one f after) ≡ total)
  goes_on zero front next text x after total long left h assoc so_far = absurd (omega arith)
  goes_on (suc fuel) front next text x after total long left h assoc so_far =
      let one_on : prepend app front (many_for nil cons one (suc fuel) text) ≡ prepend app next (many_for nil cons one fuel after) =
      rw h (regroup front next x assoc (many_for nil cons one fuel after)) in
      (fuel, omega arith, sym one_on ∙ so_far)

  pub ends : (fuel : ℕ) (front : M) (text after : List ℕ) (total : Read M)
      → length text ≤ fuel → length after < length text → one text ≡ Ok (None, after) → app front nil ≡ front
      → prepend app front (many_for nil cons one fuel text) ≡ total → total ≡ Ok (front, after)
  ends zero front text after total long left h none so_far = absurd (omega arith)
  ends (suc fuel) front text after total long left h none so_far =
      let last : prepend app front (many_for nil cons one (suc fuel) text) ≡ Ok (front, after) = rw (h, none) refl in
      sym so_far ∙ last

  pub stops : (fuel : ℕ) (front : M) (text : List ℕ) (e : Stop) (total : Read M) → one [] ≡ Err []
      → length text ≤ fuel → Fails e (one text) → prepend app front (many_for nil cons one fuel text) ≡ total → Fails e total
  stops zero front [] e total empty long h so_far =
      rw (← so_far) (end_fails e (one []) (Err []) empty refl h)
  stops zero front (b ∷ text) e total empty long h so_far = absurd (omega arith)
  stops (suc fuel) front text e total empty long h so_far =
      rw (← so_far) (fails-bind e (many_for nil cons one (suc fuel) text) (λ m. Ok (app front m.0, m.1))
      (fails-bind e (one text) (λ x. behind_item nil cons (many_for nil cons one fuel) x.0 x.1) h))

-- ---- so many pairs

pairs_grouped : (front : List ℕ) (b : ℕ) (read : Read (List ℕ)) → prepend (λ (x y : List ℕ). x ++ y) front (read >>= λ m. Ok (b ∷ m.0, m.1)) ≡ prepend (λ (x y : List ℕ). x ++ y) (front ++ b ∷ []) read
pairs_grouped front b (Ok m) = ap (λ (x : List ℕ). Ok (x, m.1)) (sym (append_assoc front (b ∷ []) m.0))
pairs_grouped front b (Err r) = refl

pub pairs_on : (n k : ℕ) (front text after : List ℕ) (b : ℕ) → n ≡ suc k → pair_at text ≡ Ok (b, after)
    → prepend (λ (x y : List ℕ). x ++ y) front (pairs_at n text) ≡ prepend (λ (x y : List ℕ). x ++ y) (front ++ b ∷ []) (pairs_at k after)
unfolding pairs_at
pairs_on n k front text after b e h = rw (e, h) (pairs_grouped front b (pairs_at k after))

pub pairs_done : (n : ℕ) (front text : List ℕ) → n ≡ 0 → prepend (λ (x y : List ℕ). x ++ y) front (pairs_at n text) ≡ Ok (front, text)
unfolding pairs_at
pairs_done n front text e = rw (e, append-nil) refl

-- the first pair that fails decides
pub pairs_stop : (n : ℕ) (front text : List ℕ) (e : Stop) (total : Read (List ℕ)) → 0 < n → Fails e (pair_at text)
    → prepend (λ (x y : List ℕ). x ++ y) front (pairs_at n text) ≡ total → Fails e total
unfolding pairs_at
pairs_stop zero front text e total some h so_far = absurd (omega arith)
pairs_stop (suc n) front text e total some h so_far =
    rw (← so_far) (fails-bind e (pairs_at (suc n) text) (λ m. Ok (front ++ m.0, m.1)) (fails-bind e (pair_at text) (λ b. pairs_at n b.1 >>= λ bytes. Ok (b.0 ∷ bytes.0, bytes.1)) h))

-- ---- levels

pub object-zero : (levels : ℕ) (text : List ℕ) → levels ≡ 0 → object_at levels text ≡ Err text
object-zero zero text e = refl
object-zero (suc levels) text e = absurd (omega arith)

pub object-step : (levels : ℕ) (text : List ℕ) → (levels ≡ 0 → ⊥) → object_at levels text ≡ items_at no_elements with_element 0x7b 0x7d (member_at (value_at (levels - 1))) text
object-step zero text ne = absurd (ne refl)
object-step (suc levels) text ne =
    let e : suc levels - 1 ≡ levels = omega arith in
    rw e refl

pub array-zero : (levels : ℕ) (text : List ℕ) → levels ≡ 0 → array_at levels text ≡ Err text
array-zero zero text e = refl
array-zero (suc levels) text e = absurd (omega arith)

pub array-step : (levels : ℕ) (text : List ℕ) → (levels ≡ 0 → ⊥) → array_at levels text ≡ items_at no_values item 0x5b 0x5d (value_at (levels - 1)) text
array-step zero text ne = absurd (ne refl)
array-step (suc levels) text ne =
    let e : suc levels - 1 ≡ levels = omega arith in
    rw e refl

-- ---- items behind an opening mark

pub more_empty : {X : Type 0} (close : ℕ) (read : List ℕ → Read X) → more_item close read [] ≡ Err []
unfolding more_item closing_at
more_empty close read = refl

with_first : {M : Type 0} (app : M → M → M) (front : M) (first : M → M) → ((m : M) → app front m ≡ first m) → (read : Read M)
    → prepend app front read ≡ (read >>= λ m. Ok (first m.0, m.1))
with_first app front first h (Ok m) = ap (λ (k : _). Ok (k, m.1)) (h m.0)
with_first app front first h (Err r) = refl

pub first_item : {X M : Type 0} (nil : M) (cons : X → M → M) (close : ℕ) (read : List ℕ → Read X) (app : M → M → M) (front : M) (text : List ℕ) (x : X) (after : List ℕ)
    → read text ≡ Ok (x, after) → ((m : M) → app front m ≡ cons x m)
    → prepend app front (many_for nil cons (more_item close read) (length after) after) ≡ items_behind nil cons close read false text
unfolding many_at
first_item nil cons close read app front text x after h law = rw h (with_first app front (cons x) law (many_for nil cons (more_item close read) (length after) after))

pub elements_assoc : (a b c : Elements) → append (append a b) c ≡ append a (append b c)
elements_assoc no_elements b c = refl
elements_assoc (element name t es) b c = ap (element name t) (elements_assoc es b c)

pub elements_none : (a : Elements) → append a no_elements ≡ a
elements_none no_elements = refl
elements_none (element name t es) = ap (element name t) (elements_none es)

pub values_assoc : (a b c : Values) → append_values (append_values a b) c ≡ append_values a (append_values b c)
values_assoc no_values b c = refl
values_assoc (item t vs) b c = ap (item t) (values_assoc vs b c)

pub values_none : (a : Values) → append_values a no_values ≡ a
values_none no_values = refl
values_none (item t vs) = ap (item t) (values_none vs)
