-- What an edit keeps, and where its value is read again.
use Rattle.std.proofs.Common.{◌≡◌, ℕ, Bool, true, false, cond, List, [], ◌∷◌, Option, Some, None, Ok, Err, refl, sym, ap, ◌∙◌}
use Rattle.std.specs.Prelude.{option_and_then, ◌&&◌}
use Rattle.std.specs.Str.{bytes_eq}
use Rattle.std.proofs.lemmas.Slice.Eq.{bytes_eq-Decides}
use Rattle.mm_bson.specs.Tree.{Tree, document, Elements, no_elements, element}
use Rattle.mm_bson.specs.Path.{find, onward as go, value_at}
use Rattle.mm_update.specs.Paths.{leads}
use Rattle.mm_update.specs.Edited.{Outcome, and_then, mapped, with_value, without, opened, onward, put, inside_only, taken, removed}
use Rattle.mm_update.proofs.Fields.{bytes_same, find-with_value}

pub mapped_ok : {X Y : Type 0} (g : X → Y) (o : Outcome X) (y : Y) → mapped g o ≡ Ok y → (x : X) × (o ≡ Ok x) × (g x ≡ y)
mapped_ok g (Ok x) y e = (x, refl, cc)
mapped_ok g (Err f) y e = absurd cc

pub then_ok : {X Y : Type 0} (g : X → Outcome Y) (o : Outcome X) (y : Y) → and_then g o ≡ Ok y → (x : X) × (o ≡ Ok x) × (g x ≡ Ok y)
then_ok g (Ok x) y e = (x, refl, e)
then_ok g (Err f) y e = absurd cc

pub same_name : (a b : List ℕ) → bytes_eq a b ≡ true → a ≡ b
same_name a b e = (bytes_eq-Decides a b).0 e

pub find-other : (n m : List ℕ) (t : Tree) (es : Elements) → bytes_eq n m ≡ false → find m (with_value n t es) ≡ find m es
find-other n m t no_elements e = rw e refl
find-other n m t (element k u es) e = by (bytes_eq k n) refl (find-other n m t es e)
  where
    by : (b : Bool) → bytes_eq k n ≡ b → find m (with_value n t es) ≡ find m es → find m (cond b (element k t es) (element k u (with_value n t es))) ≡ cond (bytes_eq k m) (Some u) (find m es)
    by true is later =
        let other : bytes_eq k m ≡ false = ap (λ (x : List ℕ). bytes_eq x m) (same_name k n is) ∙ e in
        rw other refl
    by false is later = ap (cond (bytes_eq k m) (Some u)) later

pub find-same : (n m : List ℕ) (t : Tree) (es : Elements) → bytes_eq n m ≡ true → find m (with_value n t es) ≡ Some t
find-same n m t es e = ap (λ (x : List ℕ). find x (with_value n t es)) (sym (same_name n m e)) ∙ find-with_value n t es

pub find-without : (n m : List ℕ) (es : Elements) → bytes_eq n m ≡ false → find m (without n es) ≡ find m es
find-without n m no_elements e = refl
find-without n m (element k u es) e = by (bytes_eq k n) refl (find-without n m es e)
  where
    by : (b : Bool) → bytes_eq k n ≡ b → find m (without n es) ≡ find m es → find m (cond b es (element k u (without n es))) ≡ cond (bytes_eq k m) (Some u) (find m es)
    by true is later =
        let other : bytes_eq k m ≡ false = ap (λ (x : List ℕ). bytes_eq x m) (same_name k n is) ∙ e in
        rw other refl
    by false is later = ap (cond (bytes_eq k m) (Some u)) later

-- a document on the way holds what is read behind it
pub inner_of : (path : List ℕ) (o : Option Tree) (es : Elements) (m : List ℕ) (ms : List (List ℕ)) → opened path o ≡ Ok es → option_and_then (go (m ∷ ms) (value_at (m ∷ ms))) o ≡ value_at (m ∷ ms) es
inner_of path None es m ms e =
    let none : no_elements ≡ es = cc in
    rw (← none) refl
inner_of path (Some (document inner)) es m ms e =
    let same : inner ≡ es = cc in
    ap (value_at (m ∷ ms)) same
inner_of path (Some _) es m ms e = absurd cc

deeper : (path : List ℕ) (value : Option Tree → Outcome Tree) (ns ms : List (List ℕ)) (o : Option Tree) (t : Tree) → onward path ns value (put path value ns) o ≡ Ok t → leads ns ms ≡ false → leads ms ns ≡ false
    → ((es new : Elements) → put path value ns es ≡ Ok new → value_at ms new ≡ value_at ms es)
    → option_and_then (go ms (value_at ms)) (Some t) ≡ option_and_then (go ms (value_at ms)) o
deeper path value [] ms o t is a b later = absurd cc
deeper path value (n ∷ ns) [] o t is a b later = absurd cc
deeper path value (n ∷ ns) (m ∷ ms) o t is a b later =
    let made = mapped_ok document (and_then (put path value (n ∷ ns)) (opened path o)) t is in
    let inner = then_ok (put path value (n ∷ ns)) (opened path o) made.0 made.1 in
    rw (← made.2) (later inner.0 made.0 inner.2 ∙ sym (inner_of path o inner.0 m ms inner.1))

-- the value at steps that part from an edit's is kept
pub put_keeps : (path : List ℕ) (value : Option Tree → Outcome Tree) (ns ms : List (List ℕ)) (es new : Elements) → put path value ns es ≡ Ok new → leads ns ms ≡ false → leads ms ns ≡ false → value_at ms new ≡ value_at ms es
put_keeps path value [] ms es new e a b = absurd cc
put_keeps path value (n ∷ ns) [] es new e a b = absurd cc
put_keeps path value (n ∷ ns) (m ∷ ms) es new e a b =
    let made = mapped_ok (λ t. with_value n t es) (onward path ns value (put path value ns) (find n es)) new e in
    rw (← made.2) (by (bytes_eq n m) refl (bytes_eq m n) refl made.0 made.1 a b (λ old put_new is c d. put_keeps path value ns ms old put_new is c d))
  where
    by : (p : Bool) → bytes_eq n m ≡ p → (q : Bool) → bytes_eq m n ≡ q → (t : Tree) → onward path ns value (put path value ns) (find n es) ≡ Ok t → (p && leads ns ms) ≡ false → (q && leads ms ns) ≡ false
        → ((old put_new : Elements) → put path value ns old ≡ Ok put_new → leads ns ms ≡ false → leads ms ns ≡ false → value_at ms put_new ≡ value_at ms old)
        → option_and_then (go ms (value_at ms)) (find m (with_value n t es)) ≡ option_and_then (go ms (value_at ms)) (find m es)
    by false x q y t is a b later = ap (option_and_then (go ms (value_at ms))) (find-other n m t es x)
    by true x true y t is a b later =
        rw (find-same n m t es x) (deeper path value ns ms (find n es) t is a b (λ old put_new p. later old put_new p a b) ∙ ap (λ (name : List ℕ). option_and_then (go ms (value_at ms)) (find name es)) (same_name n m x))
    by true x false y t is a b later =
        let same : bytes_eq m n ≡ true = ap (bytes_eq m) (same_name n m x) ∙ bytes_same m in
        absurd cc

inside_keeps : (n m : List ℕ) (ms : List (List ℕ)) (inside : Elements → Elements) (es : Elements) (p : Bool) → bytes_eq n m ≡ p → (o : Option Tree) → find n es ≡ o
    → ((inner : Elements) → p ≡ true → option_and_then (go ms (value_at ms)) (Some (document (inside inner))) ≡ option_and_then (go ms (value_at ms)) (Some (document inner)))
    → value_at (m ∷ ms) (inside_only n inside es o) ≡ value_at (m ∷ ms) es
inside_keeps n m ms inside es true x (Some (document inner)) is later =
    ap (option_and_then (go ms (value_at ms))) (find-same n m (document (inside inner)) es x) ∙ later inner refl
    ∙ ap (option_and_then (go ms (value_at ms))) (sym is ∙ ap (λ (name : List ℕ). find name es) (same_name n m x))
inside_keeps n m ms inside es false x (Some (document inner)) is later = ap (option_and_then (go ms (value_at ms))) (find-other n m (document (inside inner)) es x)
inside_keeps n m ms inside es p x None is later = refl
inside_keeps n m ms inside es p x (Some _) is later = refl

removed_deeper : (ms ns : List (List ℕ)) (inner : Elements) → leads ms ns ≡ false → value_at ms (removed ns inner) ≡ value_at ms inner
    → option_and_then (go ms (value_at ms)) (Some (document (removed ns inner))) ≡ option_and_then (go ms (value_at ms)) (Some (document inner))
removed_deeper [] ns inner b later = absurd cc
removed_deeper (m ∷ ms) ns inner b later = later

pub and_true : (p q : Bool) → p ≡ true → (p && q) ≡ false → q ≡ false
and_true true q e h = h
and_true false q e h = absurd cc

taken_keeps : (n m : List ℕ) (ns ms : List (List ℕ)) (es : Elements) → leads (n ∷ ns) (m ∷ ms) ≡ false → leads (m ∷ ms) (n ∷ ns) ≡ false
    → ((inner : Elements) → leads ns ms ≡ false → leads ms ns ≡ false → value_at ms (removed ns inner) ≡ value_at ms inner)
    → value_at (m ∷ ms) (taken ns n (removed ns) es) ≡ value_at (m ∷ ms) es
taken_keeps n m [] ms es a b later = ap (option_and_then (go ms (value_at ms))) (find-without n m es (by (bytes_eq n m) a))
  where
    by : (p : Bool) → (p && true) ≡ false → p ≡ false
    by true e = e
    by false e = refl
taken_keeps n m (r ∷ ns) ms es a b later =
    inside_keeps n m ms (removed (r ∷ ns)) es (bytes_eq n m) refl (find n es) refl
    (λ inner same.
    let back : bytes_eq m n ≡ true = ap (bytes_eq m) (same_name n m same) ∙ bytes_same m in
    let c = and_true (bytes_eq n m) (leads (r ∷ ns) ms) same a in
    let d = and_true (bytes_eq m n) (leads ms (r ∷ ns)) back b in
    removed_deeper ms (r ∷ ns) inner d (later inner c d))

-- the value at steps that part from those taken out is kept
pub removed_keeps : (ns ms : List (List ℕ)) (es : Elements) → leads ns ms ≡ false → leads ms ns ≡ false → value_at ms (removed ns es) ≡ value_at ms es
removed_keeps [] ms es a b = refl
removed_keeps (n ∷ ns) [] es a b = refl
removed_keeps (n ∷ ns) (m ∷ ms) es a b = taken_keeps n m ns ms es a b (λ inner c d. removed_keeps ns ms inner c d)

ok_same : {X : Type 0} (x y : X) (o : Outcome X) → o ≡ Ok x → o ≡ Ok y → x ≡ y
ok_same x y o a b = cc

-- what an edit puts is read again
pub put_reads : (path : List ℕ) (value : Option Tree → Outcome Tree) (v : Tree) (n : List ℕ) (ns : List (List ℕ)) (es new : Elements) → ((o : Option Tree) → value o ≡ Ok v) → put path value (n ∷ ns) es ≡ Ok new → value_at (n ∷ ns) new ≡ Some v
put_reads path value v n [] es new is e =
    let made = mapped_ok (λ t. with_value n t es) (value (find n es)) new e in
    let same : v ≡ made.0 = ok_same v made.0 (value (find n es)) (is (find n es)) made.1 in
    rw (← made.2) (ap (option_and_then (go [] (value_at []))) (find-with_value n made.0 es) ∙ ap (λ (t : Tree). Some t) (sym same))
put_reads path value v n (m ∷ ns) es new is e =
    let made = mapped_ok (λ t. with_value n t es) (onward path (m ∷ ns) value (put path value (m ∷ ns)) (find n es)) new e in
    let doc = mapped_ok document (and_then (put path value (m ∷ ns)) (opened path (find n es))) made.0 made.1 in
    let inner = then_ok (put path value (m ∷ ns)) (opened path (find n es)) doc.0 doc.1 in
    let later = put_reads path value v m ns inner.0 doc.0 is inner.2 in
    rw (← made.2, ← doc.2) (ap (option_and_then (go (m ∷ ns) (value_at (m ∷ ns)))) (find-with_value n (document doc.0) es) ∙ later)
