-- Entries of a draft, and where the first of a name is.
use Rattle.std.proofs.Common.{◌≡◌, ℕ, suc, ◌<◌, Bool, true, false, cond, List, [], ◌∷◌, ◌++◌, length, get_or, set, Option, Some, None, refl, sym, ap, ◌∙◌, arith}
use Rattle.std.specs.Prelude.{option_map, is_some, ◌&&◌, OnSome, IfNone, OnOk, OnErr, Result, Ok, Err}
use Rattle.std.specs.Str.{bytes_eq}
use Rattle.std.specs.Borrow.{Bor}
use Rattle.mm_bson.specs.Spelling.{HasNoZero}
use Rattle.mm_bson.specs.Tree.{Tree, null, Elements, no_elements, element, append}
use Rattle.mm_bson.specs.Path.{find}
use Rattle.mm_update.specs.declared.draft.Node.{Node}
use Rattle.mm_update.specs.declared.draft.Entry.{Entry}
use Rattle.mm_update.specs.Edited.{with_value, without}
use Rattle.mm_update.specs.Drafted.{node_tree, entry_on, one_entry, drafted, place_in, AreNames}
use Rattle.mm_update.proofs.Fields.{with_value-twice, AreNames-with_value, AreNames-push}

pub drafted-push : (xs : List Entry) (e : Entry) → drafted (xs ++ e ∷ []) ≡ append (drafted xs) (one_entry e)
drafted-push [] e = refl
drafted-push (x ∷ xs) e = by x.node (drafted-push xs e)
  where
    by : (o : Option Node) → drafted (xs ++ e ∷ []) ≡ append (drafted xs) (one_entry e) → entry_on x.name.now o (drafted (xs ++ e ∷ [])) ≡ append (entry_on x.name.now o (drafted xs)) (one_entry e)
    by None later = later
    by (Some n) later = ap (element x.name.now (node_tree n)) later

-- no entry has the name
pub none_named : (name : List ℕ) (xs : List Entry) → place_in name xs ≡ None → find name (drafted xs) ≡ None
none_named name [] none = refl
none_named name (e ∷ es) none = by e.node (bytes_eq e.name.now name) refl (place_in name es) refl none (λ later. none_named name es later)
  where
    by : (n : Option Node) (b : Bool) → bytes_eq e.name.now name ≡ b → (o : Option ℕ) → place_in name es ≡ o → cond (is_some n && b) (Some 0) (option_map suc o) ≡ None → (place_in name es ≡ None → find name (drafted es) ≡ None) → find name (entry_on e.name.now n (drafted es)) ≡ None
    by None b same None is none later = later is
    by None b same (Some k) is none later = absurd cc
    by (Some n) true same o is none later = absurd cc
    by (Some n) false same None is none later = rw same (later is)
    by (Some n) false same (Some k) is none later = absurd cc

pub find-none-with_value : (name : List ℕ) (t : Tree) (es : Elements) → find name es ≡ None → with_value name t es ≡ append es (element name t no_elements)
find-none-with_value name t no_elements none = refl
find-none-with_value name t (element n u es) none = by (bytes_eq n name) none (λ later. find-none-with_value name t es later)
  where
    by : (b : Bool) → cond b (Some u) (find name es) ≡ None → (find name es ≡ None → with_value name t es ≡ append es (element name t no_elements))
        → cond b (element n t es) (element n u (with_value name t es)) ≡ element n u (append es (element name t no_elements))
    by true none later = absurd cc
    by false none later = ap (element n u) (later none)

pub find-none-without : (name : List ℕ) (es : Elements) → find name es ≡ None → without name es ≡ es
find-none-without name no_elements none = refl
find-none-without name (element n u es) none = by (bytes_eq n name) none (λ later. find-none-without name es later)
  where
    by : (b : Bool) → cond b (Some u) (find name es) ≡ None → (find name es ≡ None → without name es ≡ es) → cond b es (element n u (without name es)) ≡ element n u es
    by true none later = absurd cc
    by false none later = ap (element n u) (later none)

-- what is at the place of the first entry of a name
pub record IsFirst (name : List ℕ) (xs : List Entry) (i : ℕ) : Type 0 where
  pub within : i < length xs
  pub there : (d : Entry) → is_some (get_or xs i d).node ≡ true
  pub found : (d : Entry) → find name (drafted xs) ≡ option_map node_tree (get_or xs i d).node
  pub changed : (d : Entry) (n : Node) → drafted (set xs i (record { name = (get_or xs i d).name; node = Some n })) ≡ with_value name (node_tree n) (drafted xs)
  pub taken : (d : Entry) → drafted (set xs i (record { name = (get_or xs i d).name; node = None })) ≡ without name (drafted xs)

pub first_at : (name : List ℕ) (xs : List Entry) (i : ℕ) → place_in name xs ≡ Some i → IsFirst name xs i
first_at name [] i place = absurd cc
first_at name (e ∷ es) i place = by e.node refl (bytes_eq e.name.now name) refl (place_in name es) refl place (λ k later. first_at name es k later)
  where
    by : (n : Option Node) → e.node ≡ n → (b : Bool) → bytes_eq e.name.now name ≡ b → (o : Option ℕ) → place_in name es ≡ o → cond (is_some n && b) (Some 0) (option_map suc o) ≡ Some i → ((k : ℕ) → place_in name es ≡ Some k → IsFirst name es k) → IsFirst name (e ∷ es) i
    by (Some n) live true same o is place later =
        let here : 0 ≡ i = cc in
        rw (← here) (record { within = omega arith; there = λ d. rw live refl; found = λ d. rw (live, same) refl; changed = λ d n. rw (live, same) refl; taken = λ d. rw (live, same) refl })
    by (Some n) live false same None is place later = absurd cc
    by (Some n) live false same (Some k) is place later =
        let here : suc k ≡ i = cc in
        let inner = later k is in
        rw (← here) (record {
          within = omega (arith, inner.within);
          there = inner.there;
          found = λ d. rw (live, same) (inner.found d);
          changed = λ d m. rw (live, same) (ap (element e.name.now (node_tree n)) (inner.changed d m));
          taken = λ d. rw (live, same) (ap (element e.name.now (node_tree n)) (inner.taken d));
        })
    by None gone b same None is place later = absurd cc
    by None gone b same (Some k) is place later =
        let here : suc k ≡ i = cc in
        let inner = later k is in
        rw (← here) (record {
          within = omega (arith, inner.within);
          there = inner.there;
          found = λ d. rw gone (inner.found d);
          changed = λ d m. rw gone (inner.changed d m);
          taken = λ d. rw gone (inner.taken d);
        })

-- what the first entry of a name is, and the draft where it gets another node or none
module _ (name : List ℕ) (xs : List Entry) (i : ℕ) (e : Entry) (place : place_in name xs ≡ Some i) (is : e ≡ get_or xs i e) where
  pub found_at : find name (drafted xs) ≡ option_map node_tree e.node
  found_at = (first_at name xs i place).found e ∙ ap (λ (x : Entry). option_map node_tree x.node) (sym is)

  pub changed_at : (n : Node) → drafted (set xs i (record { name = e.name; node = Some n })) ≡ with_value name (node_tree n) (drafted xs)
  changed_at n = ap (λ (x : Entry). drafted (set xs i (record { name = x.name; node = Some n }))) is ∙ (first_at name xs i place).changed e n

  pub taken_at : drafted (set xs i (record { name = e.name; node = None })) ≡ without name (drafted xs)
  taken_at = ap (λ (x : Entry). drafted (set xs i (record { name = x.name; node = None }))) is ∙ (first_at name xs i place).taken e

  pub there_at : is_some e.node ≡ true
  there_at = ap (λ (x : Entry). is_some x.node) is ∙ (first_at name xs i place).there e

pub on_some : {P : Type 0} (o : Option Node) → P → OnSome o P
on_some None p = tt
on_some (Some n) p = p

pub if_none : (Q : Type 0) (o n : Option Node) → o ≡ n → is_some n ≡ true → IfNone o Q
if_none Q None n is there = absurd cc
if_none Q (Some m) n is there = tt

-- what taking a node leaves
module _ (name : List ℕ) (xs ys : List Entry) where
  pub names_left : (o : Option Node) → OnSome o (drafted ys ≡ with_value name null (drafted xs)) → IfNone o (ys ≡ xs) → AreNames (drafted xs) → HasNoZero name → AreNames (drafted ys)
  names_left (Some n) some none h z = rw some (AreNames-with_value name null (drafted xs) h z)
  names_left None some none h z = rw none h

  pub rest_left : (o : Option Node) → OnSome o (drafted ys ≡ with_value name null (drafted xs)) → IfNone o (ys ≡ xs) → (t : Tree) → with_value name t (drafted ys) ≡ with_value name t (drafted xs)
  rest_left (Some n) some none t = rw some (with_value-twice name t null (drafted xs))
  rest_left None some none t = rw none refl

  pub names_put : {E : Type 0} (r : Result (Unit {0}) E) (t : Tree) → OnOk r (drafted ys ≡ with_value name t (drafted xs)) → OnErr r (ys ≡ xs) → AreNames (drafted xs) → HasNoZero name → AreNames (drafted ys)
  names_put (Ok u) t ok err h z = rw ok (AreNames-with_value name t (drafted xs) h z)
  names_put (Err e) t ok err h z = rw err h

-- an entry of a new name behind the others
pub pushed_on : (name : List ℕ) (xs ys : List Entry) (e : Entry) (n : Node) → ys ≡ xs ++ e ∷ [] → e.name.now ≡ name → e.node ≡ Some n → find name (drafted xs) ≡ None → drafted ys ≡ with_value name (node_tree n) (drafted xs)
pushed_on name xs ys e n is named node none =
    rw (is, drafted-push xs e, named, node) (sym (find-none-with_value name (node_tree n) (drafted xs) none))

pub added_on : (xs ys : List Entry) (e : Entry) (n : Node) (es : Elements) → ys ≡ xs ++ e ∷ [] → e.node ≡ Some n → drafted xs ≡ es → drafted ys ≡ append es (element e.name.now (node_tree n) no_elements)
added_on xs ys e n es is node told = rw (is, drafted-push xs e, node, told) refl

pub names_added : {E : Type 0} (r : Result (Unit {0}) E) (xs ys : List Entry) (name : Bor (List ℕ)) (n : Node) → OnOk r (ys ≡ xs ++ (record { name = name; node = Some n }) ∷ []) → OnErr r (ys ≡ xs) → AreNames (drafted xs) → HasNoZero name.now → AreNames (drafted ys)
names_added (Ok u) xs ys name n ok err h z = rw (ok, drafted-push xs (record { name = name; node = Some n })) (AreNames-push (drafted xs) name.now (node_tree n) h z)
names_added (Err e) xs ys name n ok err h z = rw err h
