-- Which documents are specifications of keys.
use Rattle.std.proofs.Common.{◌≡◌, ◌≤◌, Bool, true, false, length, Option, Some, None, refl, ap, inl, inr}
use Rattle.std.specs.Prelude.{pos, negsuc}
use Rattle.std.proofs.lemmas.Bool.{and_parts, and_from, eqb-true, leb-true, le-leb}
use Rattle.mm_bson.specs.Tree.{Tree, int32, Elements, no_elements, element}
use Rattle.mm_bson.specs.Path.{find}
use Rattle.mm_bson.specs.Spelling.{spelling}
use Rattle.mm_keys.specs.Specification.{IsSign, AreSigned, AreDifferent, IsSpecification, fields}
use Rattle.mm_script.specs.Documents.{IsShortSpecification}
use Rattle.mm_script.specs.Reading.{is_sign, are_signed, is_none, are_different, is_short_specification}

sign_yes : (t : Tree) → IsSign t → is_sign t ≡ true
sign_yes t (inl e) = ap is_sign e
sign_yes t (inr e) = ap is_sign e

sign_holds : (t : Tree) → is_sign t ≡ true → IsSign t
sign_holds (int32 (pos n)) h = inl (ap (λ k. int32 (pos k)) (eqb-true n 1 h))
sign_holds (int32 (negsuc n)) h = inr (ap (λ k. int32 (negsuc k)) (eqb-true n 0 h))
sign_holds _ h = absurd (cc)

signed_yes : (es : Elements) → AreSigned es → are_signed es ≡ true
signed_yes no_elements a = refl
signed_yes (element path t es) a = and_from (is_sign t) (are_signed es) (sign_yes t a.0) (signed_yes es a.1)

signed_holds : (es : Elements) → are_signed es ≡ true → AreSigned es
signed_holds no_elements h = tt
signed_holds (element path t es) h = let both = and_parts (is_sign t) (are_signed es) h in (sign_holds t both.0, signed_holds es both.1)

none_holds : (o : Option Tree) → is_none o ≡ true → o ≡ None
none_holds None h = refl
none_holds (Some t) h = absurd (cc)

different_yes : (es : Elements) → AreDifferent es → are_different es ≡ true
different_yes no_elements a = refl
different_yes (element path t es) a = and_from (is_none (find path es)) (are_different es) (ap is_none a.0) (different_yes es a.1)

different_holds : (es : Elements) → are_different es ≡ true → AreDifferent es
different_holds no_elements h = tt
different_holds (element path t es) h = let both = and_parts (is_none (find path es)) (are_different es) h in (none_holds (find path es) both.0, different_holds es both.1)

pub short_yes : (d : Elements) → IsSpecification d → length (spelling d) ≤ 65536 → is_short_specification d ≡ true
unfolding is_short_specification
short_yes d is short =
    and_from _ _ (and_from _ _ (le-leb 1 (fields d) is.some) (le-leb (fields d) 31 is.few))
    (and_from _ _ (and_from _ _ (signed_yes d is.signed) (different_yes d is.different)) (le-leb (length (spelling d)) 65536 short))

pub short_holds : (d : Elements) → is_short_specification d ≡ true → IsShortSpecification d
unfolding is_short_specification
short_holds d h =
    let parts = and_parts _ _ h in
    let counts = and_parts _ _ parts.0 in
    let rest = and_parts _ _ parts.1 in
    let signs = and_parts _ _ rest.0 in
    record {
      specification = record { some = leb-true 1 (fields d) counts.0; few = leb-true (fields d) 31 counts.1; signed = signed_holds d signs.0; different = different_holds d signs.1 };
      short = leb-true (length (spelling d)) 65536 rest.1;
    }

told : (b : Bool) → (b ≡ true → ⊥) → b ≡ false
told true fails = absurd (fails refl)
told false fails = refl

pub short_no : (d : Elements) → (IsShortSpecification d → ⊥) → is_short_specification d ≡ false
short_no d fails = told (is_short_specification d) (λ h. fails (short_holds d h))
