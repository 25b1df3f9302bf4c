-- The names of the files that entries touch, gathered one after another.
use Rattle.std.proofs.Common.{◌≡◌, inl, inr, ℕ, Bool, true, false, cond, ◌+◌, ◌<◌, ◌≤◌, List, [], ◌∷◌, ◌++◌, length, get_or, take, map, String, string_bytes, refl, sym, ◌∙◌, ap, subst}
use Rattle.std.specs.declared.alloc.Global.{Global}
use Rattle.std.specs.declared.cmp.Ordering.TheVariants.{Less}
use Rattle.std.specs.Prelude.{◌||◌}
use Rattle.std.specs.List.{list_any, AllByRecursion}
use Rattle.std.specs.List.Sorted.{IsStrictlySortedBy}
use Rattle.std.specs.Ordering.{nat_cmp, is_eq, eq_by_cmp}
use Rattle.std.specs.Cmp.Lexicographic.{slice_cmp}
use Rattle.std.specs.String.{string_cmp}
use Rattle.std.specs.Str.{bytes_eq}
use Rattle.std.specs.BTreeSet.{contains_text, Updates}
use Rattle.std.proofs.lemmas.Map.Text.{btree_set_updates_text, is_eq-slice_cmp}
use Rattle.std.proofs.lemmas.Bool.{cases_Bool}
use Rattle.std.proofs.lemmas.List.{take_more, take_all}
use Rattle.std.proofs.lemmas.List.Folds.{list_any-append}
use Rattle.mm_outside.specs.Image.{name_cmp}
use Rattle.mm_outside.proofs.Places.{one_name, same_name, different, apart}
use Rattle.mm_crash.specs.Overlay.{Entry, is_own}
use Rattle.mm_recover.specs.Touched.{Names, is_touched, AddsName, Adds}
use Rattle.mm_recover.proofs.LayAsks.{all_entries, all-append, same_at}

same_back : (a b : List ℕ) → eq_by_cmp name_cmp a b ≡ eq_by_cmp name_cmp b a
same_back a b = elim (cases_Bool (eq_by_cmp name_cmp a b)) [
  | inl same ↦ same ∙ sym (ap (λ (l : List ℕ). eq_by_cmp name_cmp l a) (sym (one_name a b same)) ∙ same_name a)
  | inr other ↦ other ∙ sym (different b a (λ e. apart a b other (sym e)))
]

-- the set has one name more
pub name_added : (name : List ℕ) (text : String Global) (old new : Names) → string_bytes text ≡ name → Updates string_cmp old new text true → AddsName name old new
name_added name text old new is updates = λ file. btree_set_updates_text (string_bytes text) old new true updates file ∙ turned (bytes_eq (string_bytes text) file) (contains_text old file) ∙ ap (λ (b : Bool). b || contains_text old file) (sym (is_eq-slice_cmp (string_bytes text) file) ∙ same_back (string_bytes text) file ∙ ap (λ (l : List ℕ). eq_by_cmp name_cmp file l) is)
  where
    turned : (b c : Bool) → cond b true c ≡ (b || c)
    turned true c = refl
    turned false c = refl

pub adds_none : (old : Names) → Adds [] old old
adds_none old = λ file. refl

pub adds_one : (e : Entry) (name : List ℕ) (old new : Names) → e.file ≡ name → AddsName name old new → Adds (e ∷ []) old new
adds_one e name old new is adds = λ file. adds file ∙ ap (λ (l : List ℕ). eq_by_cmp name_cmp file l || contains_text old file) (sym is) ∙ by (is_own file e) (contains_text old file)
  where
    by : (a b : Bool) → (a || b) ≡ ((a || false) || b)
    by true b = refl
    by false b = refl

pub adds_both : (a b : List Entry) (old mid new : Names) → Adds a old mid → Adds b mid new → Adds (a ++ b) old new
adds_both a b old mid new first second = λ file. second file ∙ ap (λ (c : Bool). is_touched file b || c) (first file) ∙ turned (is_touched file b) (is_touched file a) (contains_text old file) ∙ ap (λ (c : Bool). c || contains_text old file) (sym (list_any-append (is_own file) a b))
  where
    turned : (x y z : Bool) → (x || (y || z)) ≡ ((y || x) || z)
    turned true true z = refl
    turned true false z = refl
    turned false true z = refl
    turned false false z = refl

pub adds_as : (a b : List Entry) (old new : Names) → a ≡ b → Adds a old new → Adds b old new
adds_as a b old new e adds = subst (λ (l : List Entry). Adds l old new) e adds

module _ {X : Type 0} (f : X → List Entry) where
  pub adds_next : (xs : List X) (i : ℕ) (x : X) → i < length xs → x ≡ get_or xs i x → (old mid new : Names) → Adds (all_entries f (take i xs)) old mid → Adds (f x) mid new → Adds (all_entries f (take (i + 1) xs)) old new
  adds_next xs i x lt is old mid new first one =
      let more : take (i + 1) xs ≡ take i xs ++ x ∷ [] = take_more xs i x lt ∙ ap (λ (y : X). take i xs ++ y ∷ []) (sym is) in
      let parts : all_entries f (take (i + 1) xs) ≡ all_entries f (take i xs) ++ f x = ap (all_entries f) more ∙ all-append f (take i xs) (x ∷ []) ∙ ap (λ (l : List Entry). all_entries f (take i xs) ++ l) (Rattle.std.proofs.lemmas.List.append-nil (f x)) in
      adds_as _ _ old new (sym parts) (adds_both (all_entries f (take i xs)) (f x) old mid new first one)

  -- the same of elements that are copied
  pub adds_next_at : (xs : List X) (i : ℕ) (d : X) → i < length xs → (old mid new : Names) → Adds (all_entries f (take i xs)) old mid → Adds (f (get_or xs i d)) mid new → Adds (all_entries f (take (i + 1) xs)) old new
  adds_next_at xs i d lt = adds_next xs i (get_or xs i d) lt (same_at f xs i d (get_or xs i d) lt)

  pub adds_done : (xs : List X) (i : ℕ) (old new : Names) → length xs ≤ i → Adds (all_entries f (take i xs)) old new → Adds (all_entries f xs) old new
  adds_done xs i old new le adds = subst (λ (l : List X). Adds (all_entries f l) old new) (take_all i xs le) adds

-- ---- in order

-- the set's names, as a list
pub any_text : (names : List (String Global)) (file : List ℕ) → list_any (eq_by_cmp name_cmp file) (map string_bytes names) ≡ list_any (λ (k : String Global). is_eq (slice_cmp nat_cmp file (string_bytes k))) names
any_text [] file = refl
any_text (n ∷ names) file = ap (λ (b : Bool). eq_by_cmp name_cmp file (string_bytes n) || b) (any_text names file)

rising_first : (k : String Global) (ks : List (String Global)) → AllByRecursion (λ y. string_cmp k y ≡ Less) ks → AllByRecursion (λ y. name_cmp (string_bytes k) y ≡ Less) (map string_bytes ks)
rising_first k [] all = tt
rising_first k (x ∷ ks) all = (all.0, rising_first k ks all.1)

pub rising_names : (ks : List (String Global)) → IsStrictlySortedBy string_cmp ks → IsStrictlySortedBy name_cmp (map string_bytes ks)
unfolding IsStrictlySortedBy
rising_names [] h = tt
rising_names (k ∷ ks) h = (rising_first k ks h.0, rising_names ks h.1)

pub text_none : (names : Names) (file : List ℕ) → names.keys ≡ [] → contains_text names file ≡ false
text_none names file none = ap (λ (l : List (String Global)). list_any (λ (k : String Global). is_eq (slice_cmp nat_cmp file (string_bytes k))) l) none

-- of one section after others
pub touched_next : {X : Type 0} (f : X → List Entry) (xs : List X) (i : ℕ) (x : X) → i < length xs → x ≡ get_or xs i x → (old new : Names) → ((file : List ℕ) → contains_text old file ≡ is_touched file (all_entries f (take i xs))) → Adds (f x) old new → (file : List ℕ) → contains_text new file ≡ is_touched file (all_entries f (take (i + 1) xs))
touched_next {X} f xs i x lt is old new so_far adds file =
    let more : take (i + 1) xs ≡ take i xs ++ x ∷ [] = take_more xs i x lt ∙ ap (λ (y : X). take i xs ++ y ∷ []) (sym is) in
    let parts : all_entries f (take (i + 1) xs) ≡ all_entries f (take i xs) ++ f x = ap (all_entries f) more ∙ all-append f (take i xs) (x ∷ []) ∙ ap (λ (l : List Entry). all_entries f (take i xs) ++ l) (Rattle.std.proofs.lemmas.List.append-nil (f x)) in
    adds file ∙ ap (λ (c : Bool). is_touched file (f x) || c) (so_far file) ∙ turned (is_touched file (f x)) (is_touched file (all_entries f (take i xs))) ∙ sym (list_any-append (is_own file) (all_entries f (take i xs)) (f x)) ∙ ap (is_touched file) (sym parts)
  where
    turned : (x y : Bool) → (x || y) ≡ (y || x)
    turned true true = refl
    turned true false = refl
    turned false true = refl
    turned false false = refl
