-- How an edit changes what other paths meet.
use Rattle.std.proofs.Common.{◌≡◌, ℕ, suc, ◌+◌, Bool, true, false, cond, List, [], ◌∷◌, Option, Some, None, Ok, refl, sym, ap, ◌∙◌, arith}
use Rattle.std.specs.Prelude.{◌&&◌, max}
use Rattle.std.specs.Str.{bytes_eq}
use Rattle.std.specs.Borrow.{Bor}
use Rattle.mm_bson.specs.declared.doc.Doc.{Doc}
use Rattle.mm_bson.specs.declared.doc.Value.{Value}
use Rattle.mm_bson.specs.declared.doc.Value.TheVariants.{Document}
use Rattle.mm_bson.specs.View.{tree}
use Rattle.mm_bson.specs.Tree.{Tree, document, Elements, no_elements}
use Rattle.mm_bson.specs.Path.{names, find}
use Rattle.mm_update.specs.declared.step.Operator.{Operator}
use Rattle.mm_update.specs.declared.step.Operator.TheVariants.{Set, Unset, Inc, Push}
use Rattle.mm_update.specs.Paths.{behind, leads, overlap}
use Rattle.mm_update.specs.Edit.{Edit}
use Rattle.mm_update.specs.Edited.{Outcome, and_then, with_value, opened, onward, put, inside_only, taken, removed, value_by, edit_by, edited}
use Rattle.mm_update.specs.Meeting.{Meeting, absent, blocked, present, deeper, farther, meet_inside, meet_onward, meet, common, reach_by, reach, closer}
use Rattle.mm_update.proofs.Steps.{some_step}
use Rattle.mm_update.proofs.Fields.{bytes_same}
use Rattle.mm_update.proofs.Whole.{or_left, or_right}
use Rattle.mm_update.proofs.Kept.{mapped_ok, then_ok, same_name, find-other, find-same, find-without, and_true}

pub closer-none : (m : Meeting) → closer 0 m ≡ m
closer-none (absent k) = ap absent (omega arith)
closer-none blocked = refl
closer-none (present n t) = refl

pub closer-twice : (c d : ℕ) (m : Meeting) → closer c (closer d m) ≡ closer (max d c) m
closer-twice c d (absent k) = ap absent (omega arith)
closer-twice c d blocked = refl
closer-twice c d (present n t) = refl

deeper-closer : (c : ℕ) (m : Meeting) → deeper (closer c m) ≡ closer (suc c) (deeper m)
deeper-closer c (absent k) = ap absent (omega arith)
deeper-closer c blocked = refl
deeper-closer c (present n t) = refl

pub farther-deeper : (k : ℕ) (m : Meeting) → farther k (deeper m) ≡ farther (k + 1) m
farther-deeper k (absent j) = ap absent (omega arith)
farther-deeper k blocked = refl
farther-deeper k (present n t) = refl

-- a document on the way holds what is met behind it
inner_meets : (path : List ℕ) (o : Option Tree) (es : Elements) (m k : List ℕ) (ms : List (List ℕ)) (c : ℕ) → opened path o ≡ Ok es
    → deeper (closer c (meet (k ∷ ms) es)) ≡ closer (suc c) (meet_onward m (k ∷ ms) (meet (k ∷ ms)) o)
inner_meets path None es m k ms c e =
    let none : no_elements ≡ es = cc in
    rw (← none) (ap absent (omega arith))
inner_meets path (Some (document inner)) es m k ms c e =
    let same : inner ≡ es = cc in
    ap (λ (x : Elements). deeper (closer c (meet (k ∷ ms) x))) (sym same) ∙ deeper-closer c (meet (k ∷ ms) inner)
inner_meets path (Some _) es m k ms c e = absurd cc

deeper_meets : (path : List ℕ) (value : Option Tree → Outcome Tree) (ns ms : List (List ℕ)) (m : List ℕ) (o : Option Tree) (t : Tree) → onward path ns value (put path value ns) o ≡ Ok t → leads ns ms ≡ false → leads ms ns ≡ false
    → ((es new : Elements) → put path value ns es ≡ Ok new → meet ms new ≡ closer (common ns ms) (meet ms es))
    → meet_onward m ms (meet ms) (Some t) ≡ closer (suc (common ns ms)) (meet_onward m ms (meet ms) o)
deeper_meets path value [] ms m o t is a b later = absurd cc
deeper_meets path value (n ∷ ns) [] m o t is a b later = absurd cc
deeper_meets path value (n ∷ ns) (k ∷ ms) m o t is a b later =
    let made = mapped_ok document (and_then (put path value (n ∷ ns)) (opened path o)) t is in
    let inner = then_ok (put path value (n ∷ ns)) (opened path o) made.0 made.1 in
    rw (← made.2) (ap deeper (later inner.0 made.0 inner.2) ∙ inner_meets path o inner.0 m k ms (common (n ∷ ns) (k ∷ ms)) inner.1)

-- a path that parts from an edit's has more steps after it, as many as they have in common
pub put_meets : (path : List ℕ) (value : Option Tree → Outcome Tree) (ns ms : List (List ℕ)) (es new : Elements) → put path value ns es ≡ Ok new → leads ns ms ≡ false → leads ms ns ≡ false → meet ms new ≡ closer (common ns ms) (meet ms es)
put_meets path value [] ms es new e a b = absurd cc
put_meets path value (n ∷ ns) [] es new e a b = absurd cc
put_meets path value (n ∷ ns) (m ∷ ms) es new e a b =
    let made = mapped_ok (λ t. with_value n t es) (onward path ns value (put path value ns) (find n es)) new e in
    rw (← made.2) (by (bytes_eq n m) refl (bytes_eq m n) refl made.0 made.1 a b (λ old put_new is c d. put_meets path value ns ms old put_new is c d))
  where
    by : (p : Bool) → bytes_eq n m ≡ p → (q : Bool) → bytes_eq m n ≡ q → (t : Tree) → onward path ns value (put path value ns) (find n es) ≡ Ok t → (p && leads ns ms) ≡ false → (q && leads ms ns) ≡ false
        → ((old put_new : Elements) → put path value ns old ≡ Ok put_new → leads ns ms ≡ false → leads ms ns ≡ false → meet ms put_new ≡ closer (common ns ms) (meet ms old))
        → meet_onward m ms (meet ms) (find m (with_value n t es)) ≡ closer (cond p (suc (common ns ms)) 0) (meet_onward m ms (meet ms) (find m es))
    by false x q y t is a b later = ap (meet_onward m ms (meet ms)) (find-other n m t es x) ∙ sym (closer-none (meet_onward m ms (meet ms) (find m es)))
    by true x true y t is a b later =
        rw (find-same n m t es x) (deeper_meets path value ns ms m (find n es) t is a b (λ old put_new p. later old put_new p a b) ∙ ap (λ (name : List ℕ). closer (suc (common ns ms)) (meet_onward m ms (meet ms) (find name es))) (same_name n m x))
    by true x false y t is a b later =
        let same : bytes_eq m n ≡ true = ap (bytes_eq m) (same_name n m x) ∙ bytes_same m in
        absurd cc

inside_meets : (n m : List ℕ) (ms : List (List ℕ)) (inside : Elements → Elements) (es : Elements) (p : Bool) → bytes_eq n m ≡ p → (o : Option Tree) → find n es ≡ o
    → ((inner : Elements) → p ≡ true → meet_onward m ms (meet ms) (Some (document (inside inner))) ≡ meet_onward m ms (meet ms) (Some (document inner)))
    → meet (m ∷ ms) (inside_only n inside es o) ≡ meet (m ∷ ms) es
inside_meets n m ms inside es true x (Some (document inner)) is later =
    ap (meet_onward m ms (meet ms)) (find-same n m (document (inside inner)) es x) ∙ later inner refl
    ∙ ap (meet_onward m ms (meet ms)) (sym is ∙ ap (λ (name : List ℕ). find name es) (same_name n m x))
inside_meets n m ms inside es false x (Some (document inner)) is later = ap (meet_onward m ms (meet ms)) (find-other n m (document (inside inner)) es x)
inside_meets n m ms inside es p x None is later = refl
inside_meets n m ms inside es p x (Some _) is later = refl

deeper_without : (m : List ℕ) (ms ns : List (List ℕ)) (inner : Elements) → leads ms ns ≡ false → meet ms (removed ns inner) ≡ meet ms inner
    → meet_onward m ms (meet ms) (Some (document (removed ns inner))) ≡ meet_onward m ms (meet ms) (Some (document inner))
deeper_without m [] ns inner b later = absurd cc
deeper_without m (k ∷ ms) ns inner b later = ap deeper later

taken_meets : (n m : List ℕ) (ns ms : List (List ℕ)) (es : Elements) → leads (n ∷ ns) (m ∷ ms) ≡ false → leads (m ∷ ms) (n ∷ ns) ≡ false
    → ((inner : Elements) → leads ns ms ≡ false → leads ms ns ≡ false → meet ms (removed ns inner) ≡ meet ms inner)
    → meet (m ∷ ms) (taken ns n (removed ns) es) ≡ meet (m ∷ ms) es
taken_meets n m [] ms es a b later = ap (meet_onward m ms (meet ms)) (find-without n m es (by (bytes_eq n m) a))
  where
    by : (p : Bool) → (p && true) ≡ false → p ≡ false
    by true e = e
    by false e = refl
taken_meets n m (r ∷ ns) ms es a b later =
    inside_meets n m ms (removed (r ∷ ns)) es (bytes_eq n m) refl (find n es) refl
    (λ inner same.
    let back : bytes_eq m n ≡ true = ap (bytes_eq m) (same_name n m same) ∙ bytes_same m in
    let c = and_true (bytes_eq n m) (leads (r ∷ ns) ms) same a in
    let d = and_true (bytes_eq m n) (leads ms (r ∷ ns)) back b in
    deeper_without m ms (r ∷ ns) inner d (later inner c d))

-- a path that parts from one that is taken out meets the same
pub removed_meets : (ns ms : List (List ℕ)) (es : Elements) → leads ns ms ≡ false → leads ms ns ≡ false → meet ms (removed ns es) ≡ meet ms es
removed_meets [] ms es a b = refl
removed_meets (n ∷ ns) [] es a b = refl
removed_meets (n ∷ ns) (m ∷ ms) es a b = taken_meets n m ns ms es a b (λ inner c d. removed_meets ns ms inner c d)

-- ---- edits

operator_meets : (operator : Operator) (path : List ℕ) (t : Tree) (q : List ℕ) (es new : Elements) → edit_by operator path t es ≡ Ok new → overlap path q ≡ false → meet (names q) new ≡ closer (reach_by operator (names path) (names q)) (meet (names q) es)
operator_meets Unset path t q es new e apart =
    let same : removed (names path) es ≡ new = cc in
    ap (meet (names q)) (sym same) ∙ removed_meets (names path) (names q) es (or_left _ _ apart) (or_right (leads (names path) (names q)) _ apart) ∙ sym (closer-none (meet (names q) es))
operator_meets Set path t q es new e apart = put_meets path (value_by Set path t) (names path) (names q) es new e (or_left _ _ apart) (or_right (leads (names path) (names q)) _ apart)
operator_meets Inc path t q es new e apart = put_meets path (value_by Inc path t) (names path) (names q) es new e (or_left _ _ apart) (or_right (leads (names path) (names q)) _ apart)
operator_meets Push path t q es new e apart = put_meets path (value_by Push path t) (names path) (names q) es new e (or_left _ _ apart) (or_right (leads (names path) (names q)) _ apart)

pub edit_meets : (e : Edit) (q : List ℕ) (es new : Elements) → edited e es ≡ Ok new → overlap e.path q ≡ false → meet (names q) new ≡ closer (reach e (names q)) (meet (names q) es)
edit_meets e q es new is apart = operator_meets e.operator e.path e.operand q es new is apart

-- ---- a step on the way

pub step_meets : (path name : List ℕ) (o : Option (Bor (List ℕ))) (rest : List ℕ) (es : Elements) (t : Tree) → names path ≡ name ∷ behind o → behind o ≡ names rest → find name es ≡ Some t
    → meet (names path) es ≡ meet_inside (meet (names rest)) t
step_meets path name o rest es t is same found =
    let some = some_step rest in
    let steps : names path ≡ name ∷ some.0 ∷ some.1 = is ∙ ap (λ (ns : List (List ℕ)). name ∷ ns) (same ∙ some.2) in
    ap (λ (ns : List (List ℕ)). meet ns es) steps ∙ ap (meet_onward name (some.0 ∷ some.1) (meet (some.0 ∷ some.1))) found ∙ ap (λ (ns : List (List ℕ)). meet_inside (meet ns) t) (sym some.2)

pub no_document : (v : Value) (inside : Elements → Meeting) → ((d : Doc) → v ≡ Document d → ⊥) → meet_inside inside (tree v) ≡ blocked
no_document (Document d) inside h = absurd (h d refl)
no_document _ inside h = refl
