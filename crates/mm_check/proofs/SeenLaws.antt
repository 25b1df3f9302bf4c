-- Names that are seen node by node, and what a node's test comes to.
use Rattle.std.proofs.Common.{◌≡◌, ℕ, suc, ◌+◌, inl, inr, Bool, true, false, cond, List, refl, sym, ◌∙◌, ap, arith}
use Rattle.std.specs.Prelude.{◌&&◌, ◌||◌, ◌==◌, not}
use Rattle.std.specs.List.{list_any}
use Rattle.std.specs.BTreeMap.{is_at}
use Rattle.std.specs.BTreeSet.{BTreeSet, contains, IsEmpty, Updates}
use Rattle.std.specs.Ordering.{nat_cmp}
use Rattle.std.specs.Cmp.Lexicographic.{slice_cmp}
use Rattle.std.proofs.lemmas.Bool.{cases_Bool, false≢true}
use Rattle.mm_base.specs.Bytes.{padded}
use Rattle.mm_base.specs.Names.{IsName}
use Rattle.mm_nstable.specs.Hash.{hash_of}
use Rattle.mm_nstable.specs.Nodes.{node_at, head_in, name_in, is_free}
use Rattle.mm_nstable.proofs.Tables.{text-padded}
use Rattle.mm_records.specs.Constants.{is_name}
use Rattle.mm_records.proofs.Freed.{name_own, name_is}
use Rattle.mm_check.specs.NodeQuestions.{has_form, has_name, node_right}
use Rattle.mm_check.specs.SeenNames.{KnowsNames}
use Rattle.mm_check.proofs.NodeLaws.{node_of_test}

pub seen_none : (bytes : List ℕ) (set : BTreeSet (List ℕ)) → IsEmpty set → KnowsNames bytes 0 set
unfolding has_name
seen_none bytes set e name is = ap (λ (ks : List (List ℕ)). list_any (is_at (slice_cmp nat_cmp (padded 128 name))) ks) e

has_name_free : (bytes : List ℕ) (k : ℕ) (name : List ℕ) → is_free (node_at bytes k) ≡ true → has_name bytes (suc k) name ≡ has_name bytes k name
unfolding has_name
has_name_free bytes k name f = ap (λ (b : Bool). (not b && is_name (name_in (node_at bytes k)) name) || has_name bytes k name) f

has_name_used : (bytes : List ℕ) (k : ℕ) (name : List ℕ) → is_free (node_at bytes k) ≡ false → has_name bytes (suc k) name ≡ (is_name (name_in (node_at bytes k)) name || has_name bytes k name)
unfolding has_name
has_name_used bytes k name f = ap (λ (b : Bool). (not b && is_name (name_in (node_at bytes k)) name) || has_name bytes k name) f

pub seen_free : (bytes : List ℕ) (k : ℕ) (set : BTreeSet (List ℕ)) → is_free (node_at bytes k) ≡ true → KnowsNames bytes k set → KnowsNames bytes (k + 1) set
seen_free bytes k set f h name is = let e : suc k ≡ k + 1 = omega arith in h name is ∙ sym (has_name_free bytes k name f) ∙ ap (λ (m : ℕ). has_name bytes m name) e

-- names are one exactly where their fields are
same_padded : (a b : List ℕ) → IsName a → IsName b → is_name (padded 128 a) (padded 128 b) ≡ is_name a b
same_padded a b x y = elim (cases_Bool (is_name a b)) [
  | inl t ↦ name_own (padded 128 a) (padded 128 b) (ap (padded 128) (name_is a b t)) ∙ sym t
  | inr f ↦ elim (cases_Bool (is_name (padded 128 a) (padded 128 b))) [
    | inl t ↦ absurd (false≢true (sym f ∙ name_own a b (sym (text-padded (padded 128 a) a x refl) ∙ text-padded (padded 128 a) b y (name_is (padded 128 a) (padded 128 b) t))))
    | inr g ↦ g ∙ sym f
  ]
]

cond_or : (b c : Bool) → cond b true c ≡ (b || c)
cond_or true c = refl
cond_or false c = refl

pub seen_more : (bytes : List ℕ) (k : ℕ) (set new : BTreeSet (List ℕ)) (field name : List ℕ) → is_free (node_at bytes k) ≡ false → IsName name → field ≡ (head_in (node_at bytes k)).name → field ≡ padded 128 name → Updates (slice_cmp nat_cmp) set new field true
    → KnowsNames bytes k set → KnowsNames bytes (k + 1) new
seen_more bytes k set new field name f is own e u h other its =
    let named : name_in (node_at bytes k) ≡ name = text-padded (head_in (node_at bytes k)).name name is (sym own ∙ e) in
    let next : suc k ≡ k + 1 = omega arith in
    u.0 (padded 128 other)
    ∙ cond_or (is_name field (padded 128 other)) (contains (slice_cmp nat_cmp) set (padded 128 other))
    ∙ (λ i. (ap (λ (x : List ℕ). is_name x (padded 128 other)) e ∙ same_padded name other is its ∙ ap (λ (x : List ℕ). is_name x other) (sym named)) i || h other its i)
    ∙ sym (has_name_used bytes k other f) ∙ ap (λ (m : ℕ). has_name bytes m other) next

-- ---- a node's test

pub right_free : (d bytes : List ℕ) (k : ℕ) → is_free (node_at bytes k) ≡ true → node_right d bytes k ≡ true
right_free d bytes k f = ap (λ (b : Bool). b || (is_name (head_in (node_at bytes k)).name (padded 128 (name_in (node_at bytes k))) && (has_form d (name_in (node_at bytes k)) && (((head_in (node_at bytes k)).hash == hash_of (name_in (node_at bytes k))) && not (has_name bytes k (name_in (node_at bytes k))))))) f

pub right_named : (d bytes : List ℕ) (k : ℕ) (name : List ℕ) → is_free (node_at bytes k) ≡ false → IsName name → (head_in (node_at bytes k)).name ≡ padded 128 name
    → node_right d bytes k ≡ (has_form d name && (((head_in (node_at bytes k)).hash == hash_of name) && not (has_name bytes k name)))
right_named d bytes k name f is e =
    let named : name_in (node_at bytes k) ≡ name = text-padded (head_in (node_at bytes k)).name name is e in
    ap (λ (b : Bool). b || (is_name (head_in (node_at bytes k)).name (padded 128 (name_in (node_at bytes k))) && (has_form d (name_in (node_at bytes k)) && (((head_in (node_at bytes k)).hash == hash_of (name_in (node_at bytes k))) && not (has_name bytes k (name_in (node_at bytes k))))))) f
    ∙ ap (λ (x : List ℕ). is_name (head_in (node_at bytes k)).name (padded 128 x) && (has_form d x && (((head_in (node_at bytes k)).hash == hash_of x) && not (has_name bytes k x)))) named
    ∙ ap (λ (b : Bool). b && (has_form d name && (((head_in (node_at bytes k)).hash == hash_of name) && not (has_name bytes k name)))) (name_own (head_in (node_at bytes k)).name (padded 128 name) e)

no_true : (b : Bool) → (b ≡ true → ⊥) → b ≡ false
no_true true f = absurd (f refl)
no_true false f = refl

pub right_unnamed : (d bytes : List ℕ) (k : ℕ) → is_free (node_at bytes k) ≡ false → ((name : List ℕ) → IsName name → (head_in (node_at bytes k)).name ≡ padded 128 name → ⊥) → node_right d bytes k ≡ false
right_unnamed d bytes k f none = no_true (node_right d bytes k) (λ h. let t = (node_of_test d bytes k h f).0 in none (name_in (node_at bytes k)) t.name t.field)
