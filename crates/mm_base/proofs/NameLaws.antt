-- A name in a zero padded field.
use Rattle.std.proofs.Common.{◌≡◌, ℕ, zero, suc, Bool, true, false, ◌-◌, ◌≤◌, List, [], ◌∷◌, length, take, drop, ◌++◌, replicate, Option, Some, None, refl, sym, ap, ◌∙◌, arith, length-append, length-drop}
use Rattle.std.specs.Prelude.{◌==◌, not, Contains, IsSome, IfSome, IfNone}
use Rattle.std.specs.List.{prefix_len}
use Rattle.std.proofs.Math.Dec.{eqb-suc-zero}
use Rattle.std.proofs.lemmas.List.{length-take-le, take_at, take_all, drop_at, drop-replicate, length-replicate, take-append-drop}
use Rattle.std.proofs.lemmas.List.Elements.{Contains-append_right}
use Rattle.mm_base.specs.Bytes.{part, overwritten, padded, zeros}
use Rattle.mm_base.specs.Names.{HoldsName, IsName}
use Rattle.mm_base.proofs.Numbers.{length-zeros}

-- bytes written into zeros
pub overwritten-zeros : (n : ℕ) (bytes : List ℕ) → length bytes ≤ n → overwritten 0 bytes (zeros n) ≡ padded n bytes
unfolding overwritten padded zeros
overwritten-zeros n bytes short = ap (λ (rest : List ℕ). bytes ++ rest) (drop-replicate (length bytes) n 0)

pub take-padded : (n : ℕ) (bytes : List ℕ) → take (length bytes) (padded n bytes) ≡ bytes
unfolding padded
take-padded n bytes = take_at bytes (zeros (n - length bytes)) (length bytes) refl

pub length-padded : (n : ℕ) (bytes : List ℕ) → length bytes ≤ n → length (padded n bytes) ≡ n
unfolding padded zeros
length-padded n bytes short = omega (arith, length-append bytes (replicate (n - length bytes) 0), length-replicate {A = ℕ} (n - length bytes) 0)

pub holds_name : (bytes held : List ℕ) → IsName bytes → held ≡ padded 120 bytes → HoldsName (length bytes) held
holds_name bytes held name is =
    let front : take (length bytes) held ≡ bytes = ap (take (length bytes)) is ∙ take-padded 120 bytes in
    record {
      inside = name.short;
      room = ap length is ∙ length-padded 120 bytes name.short;
      name = rw front name;
      rest = is ∙ ap (padded 120) (sym front);
    }

-- the test by which the length of a padded name is found
abbrev pub passes : ℕ → Bool
passes b = not (b == 0)

prefix_of_zeros : (n : ℕ) → prefix_len passes (zeros n) ≡ 0
unfolding zeros
prefix_of_zeros zero = refl
prefix_of_zeros (suc n) = refl

passes_if : (b : ℕ) → (b ≡ 0 → ⊥) → passes b ≡ true
passes_if zero other = absurd (other refl)
passes_if (suc b) other = ap not (eqb-suc-zero b)

prefix_of_name : (name : List ℕ) (n : ℕ) → (Contains name 0 → ⊥) → prefix_len passes (name ++ zeros n) ≡ length name
prefix_of_name [] n other = prefix_of_zeros n
prefix_of_name (b ∷ name) n other =
    rw (passes_if b (λ is. other (0, omega arith, is))) (let later = prefix_of_name name n (λ inside. other (Contains-append_right (b ∷ []) name 0 inside)) in omega (arith, later))

-- where a padded name ends
pub length_found : (field name : List ℕ) → IsName name → field ≡ padded (length field) name → prefix_len passes field ≡ length name
unfolding padded
length_found field name is spelled = ap (prefix_len passes) spelled ∙ prefix_of_name name (length field - length name) is.no_zero

pub front_is : (field name : List ℕ) (len : ℕ) → len ≡ length name → field ≡ padded (length field) name → take len field ≡ name
front_is field name len at spelled = ap (λ (k : ℕ). take k field) at ∙ ap (take (length name)) spelled ∙ take-padded (length field) name

pub rest_is : (field name : List ℕ) (len : ℕ) → len ≡ length name → field ≡ padded (length field) name → part len (length field - len) field ≡ zeros (length field - len)
unfolding part padded
rest_is field name len at spelled =
    let rest = zeros (length field - length name) in
    let dropped : drop len field ≡ rest = ap (λ (k : ℕ). drop k field) at ∙ ap (drop (length name)) spelled ∙ drop_at name rest (length name) refl in
    ap (take (length field - len)) dropped ∙ ap (λ (k : ℕ). take (length field - len) (zeros (length field - k))) (sym at)
    ∙ take_all (length field - len) (zeros (length field - len)) (omega (arith, length-zeros (length field - len)))

-- a field is what stands before its zeros, padded
pub padded_is : (field : List ℕ) (len : ℕ) → len ≤ length field → part len (length field - len) field ≡ zeros (length field - len) → field ≡ padded (length field) (take len field)
unfolding part padded
padded_is field len inside rest_zero =
    let rest : drop len field ≡ zeros (length field - len) = sym (take_all (length field - len) (drop len field) (omega (arith, length-drop len field))) ∙ rest_zero in
    sym (take-append-drop len field) ∙ ap (λ (ys : List ℕ). take len field ++ ys) rest ∙ ap (λ (k : ℕ). take len field ++ zeros (length field - k)) (sym (length-take-le len field inside))

pub some_name : (made : Option (List ℕ)) (field front : List ℕ) → (IsSome made → IsName front) → IfSome made (λ name. name ≡ front) → field ≡ padded (length field) front
    → IfSome made (λ name. IsName name × (field ≡ padded (length field) name))
some_name (Some name) field front some is spelled = (rw is (some refl), spelled ∙ ap (padded (length field)) (sym is))
some_name None field front some is spelled = tt

pub no_name : (made : Option (List ℕ)) (field front : List ℕ) → (IsName front → IsSome made) → ((name : List ℕ) → IsName name → field ≡ padded (length field) name → front ≡ name)
    → IfNone made ((name : List ℕ) → IsName name → field ≡ padded (length field) name → ⊥)
no_name (Some name) field front some same = tt
no_name None field front some same = λ name is spelled. absurd (let none : false ≡ true = some (rw (same name is spelled) is) in cc)
