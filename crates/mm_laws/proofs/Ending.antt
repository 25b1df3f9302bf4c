-- Where a fault alone tells the end of its field.
use Rattle.std.proofs.Common.{◌≡◌, ℕ, suc, ◌+◌, List, [], ◌∷◌, ◌++◌, length, take, drop, refl, sym, ap, subst, arith}
use Rattle.mm_bson.specs.declared.fault.BsonFault.TheVariants.{BadType, BadName, TooDeep, TooLong}
use Rattle.mm_bson.specs.Spelling.{HasNoZero}
use Rattle.mm_bson.specs.Faults.{Stands}
use Rattle.mm_laws.specs.Fields.{Field, no_type, no_boolean, too_deep, too_long, other_name, fault_of, end_of, IsFaulty, AgreeTo, TypesDecide, DepthsDecide, SizesDecide, NamesDecide}
use Rattle.mm_laws.proofs.First.{first_bytes_decide}

type_end : (f : Field) (at byte : ℕ) → fault_of f ≡ BadType at byte → end_of f ≡ at + 1
type_end (no_type a b) at byte h = let same : a ≡ at = cc in ap (λ (i : ℕ). i + 1) same
type_end (no_boolean a b) at byte h = let same : a ≡ at = cc in ap (λ (i : ℕ). i + 1) same
type_end _ at byte h = absurd cc

depth_end : (f : Field) (at : ℕ) → fault_of f ≡ TooDeep at → end_of f ≡ at + 4
depth_end (too_deep a n) at h = let same : a ≡ at = cc in ap (λ (i : ℕ). i + 4) same
depth_end _ at h = absurd cc

size_end : (f : Field) → fault_of f ≡ TooLong → end_of f ≡ 4
size_end (too_long n) h = refl
size_end _ h = absurd cc

-- at a place one name stands before its 00
same_len : (n m l : List ℕ) → HasNoZero n → HasNoZero m → take (length (n ++ 0 ∷ [])) l ≡ n ++ 0 ∷ [] → take (length (m ++ 0 ∷ [])) l ≡ m ++ 0 ∷ [] → length n ≡ length m
same_len [] [] l p q a b = refl
same_len [] (c ∷ m) [] p q a b = absurd cc
same_len [] (c ∷ m) (d ∷ l) p q a b = absurd (q.0 cc)
same_len (c ∷ n) m [] p q a b = absurd cc
same_len (c ∷ n) [] (d ∷ l) p q a b = absurd (p.0 cc)
same_len (c ∷ n) (e ∷ m) (d ∷ l) p q a b = ap (λ (i : ℕ). suc i) (same_len n m l p.1 q.1 (tail (take (length (n ++ 0 ∷ [])) l) (n ++ 0 ∷ []) d c a) (tail (take (length (m ++ 0 ∷ [])) l) (m ++ 0 ∷ []) d e b))
  where
    tail : (x y : List ℕ) (f g : ℕ) → f ∷ x ≡ g ∷ y → x ≡ y
    tail x y f g h = cc

name_end : (f : Field) (bytes name : List ℕ) (at : ℕ) → fault_of f ≡ BadName at → IsFaulty bytes f → HasNoZero name → Stands at (name ++ 0 ∷ []) bytes → end_of f ≡ at + length name + 1
name_end (other_name a n es) bytes name at h faulty good stands =
    let same : a ≡ at = cc in
    let there : Stands at (n ++ 0 ∷ []) bytes = subst (λ (i : ℕ). Stands i (n ++ 0 ∷ []) bytes) same faulty.0 in
    omega (arith, same, same_len n name (drop at bytes) faulty.1 good there stands)
name_end _ bytes name at h faulty good stands = absurd cc

pub types_decide : TypesDecide
types_decide bytes others at byte fits h g =
    let d = first_bytes_decide bytes (BadType at byte) fits h in
    d.3 others (subst (λ (n : ℕ). AgreeTo n bytes others) (sym (type_end d.0 at byte d.1)) g)

pub depths_decide : DepthsDecide
depths_decide bytes others at fits h g =
    let d = first_bytes_decide bytes (TooDeep at) fits h in
    d.3 others (subst (λ (n : ℕ). AgreeTo n bytes others) (sym (depth_end d.0 at d.1)) g)

pub sizes_decide : SizesDecide
sizes_decide bytes others fits h g =
    let d = first_bytes_decide bytes TooLong fits h in
    d.3 others (subst (λ (n : ℕ). AgreeTo n bytes others) (sym (size_end d.0 d.1)) g)

pub names_decide : NamesDecide
names_decide bytes others name at fits h good stands g =
    let d = first_bytes_decide bytes (BadName at) fits h in
    d.3 others (subst (λ (n : ℕ). AgreeTo n bytes others) (sym (name_end d.0 bytes name at d.1 d.2 good stands)) g)
