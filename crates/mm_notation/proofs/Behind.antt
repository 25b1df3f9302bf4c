-- What reading puts behind the bytes of a buffer, step by step.
use Rattle.std.proofs.Common.{◌≡◌, ℕ, zero, suc, ◌+◌, ◌-◌, ◌<◌, ◌≤◌, ◌^◌, List, [], ◌∷◌, ◌++◌, length, take, drop, Bool, true, false, Some, None, Result, Ok, Err, append_assoc, append-nil, refl, sym, ap, ◌∙◌, arith}
use Rattle.std.specs.Int.{w32, to_le_bytes}
use Rattle.std.specs.Fmt.{decimal}
use Rattle.std.proofs.lemmas.List.{take_at, drop_at, length-append}
use Rattle.mm_bson.specs.Tree.{Tree, document, array, Elements, no_elements, element, append, depth, Values, no_values, item, append_values, values_depth, count}
use Rattle.mm_bson.specs.Spelling.{framed, spelling, array_spelling, element_spelling, elements_spelling, values_spelling, IsName}
use Rattle.mm_bson.specs.Walk.{SpellsDocument}
use Rattle.mm_bson.proofs.Building.{elements_spelling-push, AreElements-push, depth-push, values_spelling-push, AreValues-push, values_depth-push}
use Rattle.mm_notation.specs.declared.stop.Stop.{Stop}
use Rattle.mm_notation.specs.declared.kind.Kind.{Kind}
use Rattle.mm_notation.specs.declared.kind.Kind.TheVariants as kind
use Rattle.mm_notation.specs.Reading.{Read, Fails, many_for, items_behind, items_at, more_item, closing_at, closed_at, byte_at, skip, kind_at, value_in, value_of, object_at, array_at, value_at, member_at, with_element, string_at, mark_at}
use Rattle.mm_notation.specs.Putting.{Wrote, Writes, IsSound, AreSound, AreSoundValues, IsSoundMember, member_spelling, leaf_at}
use Rattle.mm_notation.proofs.Loops.{prepend, fails-bind, goes_on, ends, stops, more_empty, first_item, elements_assoc, values_assoc, values_none, object-step, array-step}

-- ---- a document whose length is put once its elements are there

pub framed_put : (old inner all : List ℕ) (start : ℕ) → all ≡ ((old ++ (0 ∷ 0 ∷ 0 ∷ 0 ∷ [])) ++ inner) ++ 0 ∷ [] → start ≡ length old
    → take start all ++ (to_le_bytes w32 (length all - start) ++ drop (start + 4) all) ≡ old ++ framed inner
unfolding framed
framed_put old inner all start is at =
    let zeros : List ℕ = 0 ∷ 0 ∷ 0 ∷ 0 ∷ [] in
    let parts : all ≡ old ++ (zeros ++ (inner ++ 0 ∷ [])) = is ∙ simp append_assoc in
    let seam : all ≡ (old ++ zeros) ++ (inner ++ 0 ∷ []) = is ∙ append_assoc (old ++ zeros) inner (0 ∷ []) in
    let head : take start all ≡ old = rw (parts, at) (take_at old (zeros ++ (inner ++ 0 ∷ [])) (length old) refl) in
    let behind : drop (start + 4) all ≡ inner ++ 0 ∷ [] = rw seam (drop_at (old ++ zeros) (inner ++ 0 ∷ []) (start + 4) (omega (arith, length-append old zeros))) in
    let counts : length all - start ≡ length inner + 5 = omega (arith, ap length is, length-append ((old ++ zeros) ++ inner) (0 ∷ []), length-append (old ++ zeros) inner, length-append old zeros) in
    rw (head, behind, counts) refl

-- where room was left and more was put, there is room
pub room_there : (old inner mid out : List ℕ) (start : ℕ) → start ≡ length old → mid ≡ old ++ (0 ∷ 0 ∷ 0 ∷ 0 ∷ []) → out ≡ mid ++ inner → start + 4 ≤ length out
room_there old inner mid out start at room put = omega (arith, ap length put, length-append mid inner, ap length room, length-append old (0 ∷ 0 ∷ 0 ∷ 0 ∷ []), at)

frame_short : (old inner new : List ℕ) (start : ℕ) → start ≡ length old → new ≡ old ++ framed inner → length new < start + 2 ^ 31 → length (framed inner) < 2 ^ 31
frame_short old inner new start at put short = omega (arith, ap length put, length-append old (framed inner), at, short)

-- ---- one element

-- what another way of putting and reading gives
head_on : (old head v new : List ℕ) (k : ℕ) (name : List ℕ) → head ≡ old ++ (k ∷ (name ++ 0 ∷ [])) → new ≡ head ++ v → new ≡ old ++ (k ∷ ((name ++ 0 ∷ []) ++ v))
head_on old head v new k name h put = put ∙ ap (λ (x : List ℕ). x ++ v) h ∙ append_assoc old (k ∷ (name ++ 0 ∷ [])) v

module _ {Y : Type 0} (view : Y → List ℕ) (name old head new text : List ℕ) (levels : ℕ) where
  pub element_document : (result : Result Y Stop) → kind_at text ≡ Ok kind.Object → head ≡ old ++ (0x03 ∷ (name ++ 0 ∷ []))
      → Writes spelling (λ es. IsSound levels (document es)) head new view result (object_at levels text)
      → Writes (element_spelling name) (IsSound levels) old new view result (value_at levels text)
  unfolding value_in spelling
  element_document (Ok rest) k h w = record {
    found = document w.found;
    read_is = rw (k, w.read_is) refl;
    put = head_on old head (spelling w.found) new 0x03 name h w.put;
    good = w.good;
  }
  element_document (Err e) k h w = rw k (fails-bind e (object_at levels text) (λ d. Ok (document d.0, d.1)) w)

  pub element_array : (result : Result Y Stop) → kind_at text ≡ Ok kind.Array → head ≡ old ++ (0x04 ∷ (name ++ 0 ∷ []))
      → Writes array_spelling (λ vs. IsSound levels (array vs)) head new view result (array_at levels text)
      → Writes (element_spelling name) (IsSound levels) old new view result (value_at levels text)
  unfolding value_in array_spelling
  element_array (Ok rest) k h w = record {
    found = array w.found;
    read_is = rw (k, w.read_is) refl;
    put = head_on old head (array_spelling w.found) new 0x04 name h w.put;
    good = w.good;
  }
  element_array (Err e) k h w = rw k (fails-bind e (array_at levels text) (λ a. Ok (array a.0, a.1)) w)

leaf_same : (levels : ℕ) (text : List ℕ) (k : Kind) → (k ≡ kind.Object → ⊥) → (k ≡ kind.Array → ⊥) → value_of (object_at levels) (array_at levels) k text ≡ leaf_at k text
leaf_same levels text kind.Object o a = absurd (o refl)
leaf_same levels text kind.Array o a = absurd (a refl)
leaf_same levels text kind.String o a = refl
leaf_same levels text kind.Integer o a = refl
leaf_same levels text kind.True o a = refl
leaf_same levels text kind.False o a = refl
leaf_same levels text kind.Null o a = refl
leaf_same levels text kind.Key o a = refl
leaf_same levels text kind.Long o a = refl
leaf_same levels text kind.Date o a = refl
leaf_same levels text kind.Timestamp o a = refl
leaf_same levels text kind.ObjectId o a = refl
leaf_same levels text kind.HexData o a = refl

deeper : (levels : ℕ) (t : Tree) → IsSound 0 t → IsSound levels t
deeper levels t s = record { value = s.value; levels = omega (arith, s.levels); fits = s.fits }

pub element_leaf : {Y : Type 0} (view : Y → List ℕ) (name old new text : List ℕ) (levels : ℕ) (k : Kind) (result : Result Y Stop) → kind_at text ≡ Ok k → (k ≡ kind.Object → ⊥) → (k ≡ kind.Array → ⊥)
    → Writes (element_spelling name) (IsSound 0) old new view result (leaf_at k text)
    → Writes (element_spelling name) (IsSound levels) old new view result (value_at levels text)
unfolding value_in
element_leaf view name old new text levels k (Ok rest) is o a w = record {
  found = w.found;
  read_is = rw is (leaf_same levels text k o a ∙ w.read_is);
  put = w.put;
  good = deeper levels w.found w.good;
}
element_leaf view name old new text levels k (Err e) is o a w = rw (is, leaf_same levels text k o a) w

pub kind_fails : (levels : ℕ) (text : List ℕ) (e : Stop) → Fails e (kind_at text) → Fails e (value_at levels text)
unfolding value_in
kind_fails levels text e f = fails-bind e (kind_at text) _ f

-- ---- one member

pub name_fails : (levels : ℕ) (text : List ℕ) (e : Stop) → Fails e (string_at true text) → Fails e (member_at (value_at levels) text)
unfolding member_at
name_fails levels text e f = fails-bind e (string_at true text) _ f

pub colon_fails : (levels : ℕ) (text name behind : List ℕ) (e : Stop) → string_at true text ≡ Ok (name, behind) → Fails e (mark_at 0x3a behind) → Fails e (member_at (value_at levels) text)
unfolding member_at
colon_fails levels text name behind e s f = rw s (fails-bind e (mark_at 0x3a behind) _ f)

pub member_put : {Y : Type 0} (view : Y → List ℕ) (name old new text behind mark : List ℕ) (levels : ℕ) (result : Result Y Stop) → string_at true text ≡ Ok (name, behind) → mark_at 0x3a behind ≡ Ok (tt, mark) → IsName name
    → Writes (element_spelling name) (IsSound levels) old new view result (value_at levels (skip mark))
    → Writes member_spelling (IsSoundMember levels) old new view result (member_at (value_at levels) text)
unfolding member_at
member_put view name old new text behind mark levels (Ok rest) s m n w = record {
  found = (name, w.found);
  read_is = rw (s, m, w.read_is) refl;
  put = w.put;
  good = record { name = n; value = w.good };
}
member_put view name old new text behind mark levels (Err e) s m n w = rw (s, m) (fails-bind e (value_at levels (skip mark)) (λ t. Ok ((name, t.0), t.1)) w)

-- ---- many items

-- an object or array that is empty
pub none_put : {X M : Type 0} (nil : M) (cons : X → M → M) (close : ℕ) (read : List ℕ → Read X) (spelled : M → List ℕ) (Good : M → Type 0) (old text : List ℕ) (empty : Bool) → empty ≡ true → spelled nil ≡ [] → Good nil
    → Wrote spelled Good old old (items_behind nil cons close read empty text) text
none_put nil cons close read spelled Good old text empty h none good = record {
  found = nil;
  read_is = rw h refl;
  put = sym (ap (λ (x : List ℕ). old ++ x) none ∙ append-nil old);
  good = good;
}

pub first_stops : {X M : Type 0} (nil : M) (cons : X → M → M) (close : ℕ) (read : List ℕ → Read X) (text : List ℕ) (empty : Bool) (e : Stop) → empty ≡ false → Fails e (read text) → Fails e (items_behind nil cons close read empty text)
first_stops nil cons close read text empty e h f = rw h (fails-bind e (read text) _ f)

-- what was put so far of the items that begin with this text, and that reading the rest completes them
pub record Walked {X M : Type 0} (nil : M) (cons : X → M → M) (close : ℕ) (read : List ℕ → Read X) (app : M → M → M) (spelled : M → List ℕ) (Good : M → Type 0) (old out text rest : List ℕ) : Type 0 where
  pub front : M
  pub put : out ≡ old ++ spelled front
  pub good : Good front
  pub fuel : ℕ
  pub long : length rest ≤ fuel
  pub so_far : prepend app front (many_for nil cons (more_item close read) fuel rest) ≡ items_behind nil cons close read false text

more_last : {X : Type 0} (close : ℕ) (read : List ℕ → Read X) (text after : List ℕ) → closing_at close text ≡ Ok (true, after) → more_item close read text ≡ Ok (None, after)
unfolding more_item
more_last close read text after h = rw h refl

more_one : {X : Type 0} (close : ℕ) (read : List ℕ → Read X) (text after rest : List ℕ) (x : X) → closing_at close text ≡ Ok (false, after) → read after ≡ Ok (x, rest) → more_item close read text ≡ Ok (Some x, rest)
unfolding more_item
more_one close read text after rest x h r = rw (h, r) refl

more_fails : {X : Type 0} (close : ℕ) (read : List ℕ → Read X) (text after : List ℕ) (e : Stop) → closing_at close text ≡ Ok (false, after) → Fails e (read after) → Fails e (more_item close read text)
unfolding more_item
more_fails close read text after e h f = rw h (fails-bind e (read after) (λ x. Ok (Some x.0, x.1)) f)

closing_fails : {X : Type 0} (close : ℕ) (read : List ℕ → Read X) (text : List ℕ) (e : Stop) → Fails e (closing_at close text) → Fails e (more_item close read text)
unfolding more_item
closing_fails close read text e f = fails-bind e (closing_at close text) _ f

module _ {X M : Type 0} (nil : M) (cons : X → M → M) (close : ℕ) (read : List ℕ → Read X) (app : M → M → M) (spelled : M → List ℕ) (Good : M → Type 0) (old out text rest : List ℕ) where
  pub put_stops : (e : Stop) → Walked nil cons close read app spelled Good old out text rest → Fails e (closing_at close rest) → Fails e (items_behind nil cons close read false text)
  put_stops e p f = stops nil cons (more_item close read) app p.fuel p.front rest e _ (more_empty close read) p.long (closing_fails close read rest e f) p.so_far

  pub put_stops_inside : (e : Stop) (after : List ℕ) → Walked nil cons close read app spelled Good old out text rest → closing_at close rest ≡ Ok (false, after) → Fails e (read after) → Fails e (items_behind nil cons close read false text)
  put_stops_inside e after p h f = stops nil cons (more_item close read) app p.fuel p.front rest e _ (more_empty close read) p.long (more_fails close read rest after e h f) p.so_far

  pub put_ends : (after : List ℕ) → ((m : M) → app m nil ≡ m) → Walked nil cons close read app spelled Good old out text rest → closing_at close rest ≡ Ok (true, after) → length after < length rest
      → Wrote spelled Good old out (items_behind nil cons close read false text) after
  put_ends after none p h left = record {
    found = p.front;
    read_is = ends nil cons (more_item close read) app p.fuel p.front rest after _ p.long left (more_last close read rest after h) (none p.front) p.so_far;
    put = p.put;
    good = p.good;
  }

-- ---- members

abbrev pub MembersPut : ℕ → List ℕ → List ℕ → List ℕ → List ℕ → Type 0
MembersPut levels old out text rest = Walked no_elements with_element 0x7d (member_at (value_at levels)) append elements_spelling (AreSound levels) old out text rest

pub first_member : (levels : ℕ) (old out text rest : List ℕ) → Wrote member_spelling (IsSoundMember levels) old out (member_at (value_at levels) text) rest → MembersPut levels old out text rest
first_member levels old out text rest w =
    let one : Elements = element w.found.0 w.found.1 no_elements in
    record {
      front = one;
      put = w.put ∙ ap (λ (x : List ℕ). old ++ x) (sym (elements_spelling-push no_elements w.found.0 w.found.1));
      good = record { elements = (w.good.name, w.good.value.value, tt); levels = omega (arith, w.good.value.levels) };
      fuel = length rest;
      long = omega arith;
      so_far = first_item no_elements with_element 0x7d (member_at (value_at levels)) append one text w.found rest w.read_is (λ m. refl);
    }

pub next_member : (levels : ℕ) (old out text rest after new next : List ℕ) → MembersPut levels old out text rest → closing_at 0x7d rest ≡ Ok (false, after) → length after < length rest → length next < length after
    → Wrote member_spelling (IsSoundMember levels) out new (member_at (value_at levels) after) next → MembersPut levels old new text next
next_member levels old out text rest after new next p h left shorter w =
    let name : List ℕ = w.found.0 in
    let t : Tree = w.found.1 in
    let one : Elements = element name t no_elements in
    let more = goes_on no_elements with_element (more_item 0x7d (member_at (value_at levels))) append p.fuel p.front (append p.front one) rest w.found next _
    p.long (omega arith) (more_one 0x7d (member_at (value_at levels)) rest after next w.found h w.read_is) (λ m. sym (elements_assoc p.front one m)) p.so_far in
    record {
      front = append p.front one;
      put = w.put ∙ ap (λ (x : List ℕ). x ++ element_spelling name t) p.put ∙ append_assoc old (elements_spelling p.front) (element_spelling name t) ∙ ap (λ (x : List ℕ). old ++ x) (sym (elements_spelling-push p.front name t));
      good = record { elements = AreElements-push p.front name t p.good.elements w.good.name w.good.value.value; levels = omega (arith, depth-push p.front name t, p.good.levels, w.good.value.levels) };
      fuel = more.0;
      long = more.1;
      so_far = more.2;
    }

-- ---- values

abbrev pub ValuesPut : ℕ → ℕ → List ℕ → List ℕ → List ℕ → List ℕ → Type 0
ValuesPut levels place old out text rest = Walked no_values item 0x5d (value_at levels) append_values (values_spelling 0) (λ vs. AreSoundValues levels vs × (place ≡ count vs)) old out text rest

pub first_value : (levels : ℕ) (old out text rest : List ℕ) → Wrote (element_spelling (decimal 0)) (IsSound levels) old out (value_at levels text) rest → ValuesPut levels 1 old out text rest
first_value levels old out text rest w =
    let one : Values = item w.found no_values in
    record {
      front = one;
      put = w.put ∙ ap (λ (x : List ℕ). old ++ x) (sym (values_spelling-push 0 no_values w.found));
      good = (record { values = (w.good.value, tt); levels = omega (arith, w.good.levels) }, refl);
      fuel = length rest;
      long = omega arith;
      so_far = first_item no_values item 0x5d (value_at levels) append_values one text w.found rest w.read_is (λ m. refl);
    }

count-push : (vs : Values) (t : Tree) → count (append_values vs (item t no_values)) ≡ count vs + 1
count-push no_values t = refl
count-push (item u vs) t = omega (arith, count-push vs t)

pub next_value : (levels place : ℕ) (old out text rest after new next : List ℕ) → ValuesPut levels place old out text rest → closing_at 0x5d rest ≡ Ok (false, after) → length after < length rest → length next < length after
    → Wrote (element_spelling (decimal place)) (IsSound levels) out new (value_at levels after) next → ValuesPut levels (place + 1) old new text next
next_value levels place old out text rest after new next p h left shorter w =
    let t : Tree = w.found in
    let one : Values = item t no_values in
    let more = goes_on no_values item (more_item 0x5d (value_at levels)) append_values p.fuel p.front (append_values p.front one) rest t next _
    p.long (omega arith) (more_one 0x5d (value_at levels) rest after next t h w.read_is) (λ m. sym (values_assoc p.front one m)) p.so_far in
    let at : 0 + count p.front ≡ place = omega (arith, p.good.1) in
    let named : values_spelling 0 (append_values p.front one) ≡ values_spelling 0 p.front ++ element_spelling (decimal place) t =
    values_spelling-push 0 p.front t ∙ ap (λ (n : ℕ). values_spelling 0 p.front ++ element_spelling (decimal n) t) at in
    record {
      front = append_values p.front one;
      put = w.put ∙ ap (λ (x : List ℕ). x ++ element_spelling (decimal place) t) p.put ∙ append_assoc old (values_spelling 0 p.front) (element_spelling (decimal place) t) ∙ ap (λ (x : List ℕ). old ++ x) (sym named);
      good = (record { values = AreValues-push p.front t p.good.0.values w.good.value; levels = omega (arith, values_depth-push p.front t, p.good.0.levels, w.good.levels) }, omega (arith, count-push p.front t, p.good.1));
      fuel = more.0;
      long = more.1;
      so_far = more.2;
    }

-- what ends is an array's values, without their number
pub values_end : (levels place : ℕ) (old out text rest after : List ℕ) → ValuesPut levels place old out text rest → closing_at 0x5d rest ≡ Ok (true, after) → length after < length rest
    → Wrote (values_spelling 0) (AreSoundValues levels) old out (items_behind no_values item 0x5d (value_at levels) false text) after
values_end levels place old out text rest after p h left =
    let w = put_ends no_values item 0x5d (value_at levels) append_values (values_spelling 0) (λ vs. AreSoundValues levels vs × (place ≡ count vs)) old out text rest after values_none p h left in
    record { found = w.found; read_is = w.read_is; put = w.put; good = w.good.0 }

-- ---- objects and arrays

-- the levels of what lies inside
one_less : (levels n : ℕ) → (levels ≡ 0 → ⊥) → n ≤ levels - 1 → suc n ≤ levels
one_less zero n ne h = absurd (ne refl)
one_less (suc levels) n ne h = omega (arith, h)

pub object_put : (levels start : ℕ) (old room inner new text behind mark rest : List ℕ) (empty : Bool) → (levels ≡ 0 → ⊥) → byte_at 0x7b text ≡ Ok (tt, behind) → closed_at 0x7d (skip behind) ≡ Ok (empty, mark)
    → start ≡ length old → room ≡ old ++ (0 ∷ 0 ∷ 0 ∷ 0 ∷ [])
    → Wrote elements_spelling (AreSound (levels - 1)) room inner (items_behind no_elements with_element 0x7d (member_at (value_at (levels - 1))) empty mark) rest
    → ((o i : List ℕ) → start ≡ length o → inner ≡ (o ++ (0 ∷ 0 ∷ 0 ∷ 0 ∷ [])) ++ i → new ≡ o ++ framed i) → length new < start + 2 ^ 31
    → Wrote spelling (λ es. IsSound levels (document es)) old new (object_at levels text) rest
unfolding items_at spelling
object_put levels start old room inner new text behind mark rest empty ne o c at left w framing short =
    let put : new ≡ old ++ framed (elements_spelling w.found) = framing old (elements_spelling w.found) at (w.put ∙ ap (λ (x : List ℕ). x ++ elements_spelling w.found) left) in
    record {
      found = w.found;
      read_is = object-step levels text ne ∙ rw (o, c, w.read_is) refl;
      put = put;
      good = record { value = w.good.elements; levels = one_less levels (depth w.found) ne w.good.levels; fits = frame_short old (elements_spelling w.found) new start at put short };
    }

pub array_put : (levels start : ℕ) (old room inner new text behind mark rest : List ℕ) (empty : Bool) → (levels ≡ 0 → ⊥) → byte_at 0x5b text ≡ Ok (tt, behind) → closed_at 0x5d (skip behind) ≡ Ok (empty, mark)
    → start ≡ length old → room ≡ old ++ (0 ∷ 0 ∷ 0 ∷ 0 ∷ [])
    → Wrote (values_spelling 0) (AreSoundValues (levels - 1)) room inner (items_behind no_values item 0x5d (value_at (levels - 1)) empty mark) rest
    → ((o i : List ℕ) → start ≡ length o → inner ≡ (o ++ (0 ∷ 0 ∷ 0 ∷ 0 ∷ [])) ++ i → new ≡ o ++ framed i) → length new < start + 2 ^ 31
    → Wrote array_spelling (λ vs. IsSound levels (array vs)) old new (array_at levels text) rest
unfolding items_at array_spelling
array_put levels start old room inner new text behind mark rest empty ne o c at left w framing short =
    let put : new ≡ old ++ framed (values_spelling 0 w.found) = framing old (values_spelling 0 w.found) at (w.put ∙ ap (λ (x : List ℕ). x ++ values_spelling 0 w.found) left) in
    record {
      found = w.found;
      read_is = array-step levels text ne ∙ rw (o, c, w.read_is) refl;
      put = put;
      good = record { value = w.good.values; levels = one_less levels (values_depth w.found) ne w.good.levels; fits = frame_short old (values_spelling 0 w.found) new start at put short };
    }

module _ (levels : ℕ) (text behind mark : List ℕ) (empty : Bool) (e : Stop) (ne : levels ≡ 0 → ⊥) where
  pub object_fails : Fails e (byte_at 0x7b text) → Fails e (object_at levels text)
  unfolding items_at
  object_fails f = rw (object-step levels text ne) (fails-bind e (byte_at 0x7b text) _ f)

  pub object_fails_inside : byte_at 0x7b text ≡ Ok (tt, behind) → closed_at 0x7d (skip behind) ≡ Ok (empty, mark) → Fails e (items_behind no_elements with_element 0x7d (member_at (value_at (levels - 1))) empty mark) → Fails e (object_at levels text)
  unfolding items_at
  object_fails_inside o c f = rw (object-step levels text ne, o, c) f

  pub array_fails : Fails e (byte_at 0x5b text) → Fails e (array_at levels text)
  unfolding items_at
  array_fails f = rw (array-step levels text ne) (fails-bind e (byte_at 0x5b text) _ f)

  pub array_fails_inside : byte_at 0x5b text ≡ Ok (tt, behind) → closed_at 0x5d (skip behind) ≡ Ok (empty, mark) → Fails e (items_behind no_values item 0x5d (value_at (levels - 1)) empty mark) → Fails e (array_at levels text)
  unfolding items_at
  array_fails_inside o c f = rw (array-step levels text ne, o, c) f

-- ---- the whole

-- what was put into an empty buffer is the spelling of a document
pub whole_spells : (old out text rest : List ℕ) → old ≡ [] → (w : Wrote spelling (λ es. IsSound 100 (document es)) old out (object_at 100 text) rest) → SpellsDocument out w.found
unfolding spelling
whole_spells old out text rest none w =
    let put : out ≡ spelling w.found = w.put ∙ ap (λ (x : List ℕ). x ++ spelling w.found) none in
    record {
      spelled = put;
      elements = w.good.value;
      levels = omega (arith, w.good.levels);
      fits = omega (arith, ap length put, w.good.fits);
    }
