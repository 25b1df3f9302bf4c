-- Texts that are cut where a test fails, in one way alone.
use Rattle.std.proofs.Common.{◌≡◌, ℕ, ◌<◌, ◌^◌, Bool, true, false, List, [], ◌∷◌, ◌++◌, refl, sym, ap, ◌∙◌, arith, length}
use Rattle.std.specs.Prelude.{◌&&◌, nat_le}
use Rattle.std.specs.List.{list_all}
use Rattle.std.specs.Fmt.{decimal}
use Rattle.std.specs.Str.Parse.{AllDigits}
use Rattle.std.proofs.lemmas.Bool.{and_parts, and_from, le-leb}
use Rattle.std.proofs.lemmas.Fmt.{decimal_injective, decimal_is_IsNumeral}
use Rattle.std.proofs.lemmas.Str.Parse.{digit_from_value}

pub head_is : (a b : ℕ) (s t : List ℕ) → a ∷ s ≡ b ∷ t → a ≡ b
head_is a b s t e = cc

pub tail_is : (a b : ℕ) (s t : List ℕ) → a ∷ s ≡ b ∷ t → s ≡ t
tail_is a b s t e = cc

-- the text ends here, or goes on with a byte that fails the test
abbrev pub Stops : (ℕ → Bool) → List ℕ → Type 0
Stops p [] = Unit {0}
Stops p (b ∷ t) = p b ≡ false

stopped : (p : ℕ → Bool) (y : ℕ) (t rest : List ℕ) → Stops p t → p y ≡ true → t ≡ y ∷ rest → ⊥
stopped p y [] rest s here e = cc
stopped p y (x ∷ t) rest s here e = let same : x ≡ y = cc in cc (sym s ∙ ap p same ∙ here)

-- The part before the first byte that fails the test, and what follows it.
pub cut_once : (p : ℕ → Bool) (a b t u : List ℕ) → list_all p a ≡ true → list_all p b ≡ true → Stops p t → Stops p u → a ++ t ≡ b ++ u → (a ≡ b) × (t ≡ u)
cut_once p [] [] t u pa pb st su e = (refl, e)
cut_once p [] (y ∷ b) t u pa pb st su e = absurd (stopped p y t (b ++ u) st (and_parts (p y) (list_all p b) pb).0 e)
cut_once p (x ∷ a) [] t u pa pb st su e = absurd (stopped p x u (a ++ t) su (and_parts (p x) (list_all p a) pa).0 (sym e))
cut_once p (x ∷ a) (y ∷ b) t u pa pb st su e =
    let same : x ≡ y = cc in
    let more : a ++ t ≡ b ++ u = cc in
    let later = cut_once p a b t u (and_parts (p x) (list_all p a) pa).1 (and_parts (p y) (list_all p b) pb).1 st su more in
    (ap (λ (z : ℕ). z ∷ a) same ∙ ap (λ (l : List ℕ). y ∷ l) later.0, later.1)

-- ---- numbers

abbrev pub is_digit : ℕ → Bool
is_digit b = nat_le 48 b && nat_le b 57

all_digits : (ds : List ℕ) → AllDigits 10 ds → list_all is_digit ds ≡ true
all_digits [] h = refl
all_digits (d ∷ ds) h =
    let k = digit_from_value d h.0 in
    and_from (is_digit d) (list_all is_digit ds) (and_from (nat_le 48 d) (nat_le d 57) (le-leb 48 d (omega (arith, k))) (le-leb d 57 (omega (arith, k)))) (all_digits ds h.1)

pub decimal_digits : (n : ℕ) → n < 2 ^ 64 → list_all is_digit (decimal n) ≡ true
decimal_digits n lt = all_digits (decimal n) (decimal_is_IsNumeral n lt).0.1

pub number_once : (m n : ℕ) (t u : List ℕ) → m < 2 ^ 64 → n < 2 ^ 64 → Stops is_digit t → Stops is_digit u → decimal m ++ t ≡ decimal n ++ u → (m ≡ n) × (t ≡ u)
number_once m n t u lt gt st su e =
    let cut = cut_once is_digit (decimal m) (decimal n) t u (decimal_digits m lt) (decimal_digits n gt) st su e in
    (decimal_injective m n lt gt cut.0, cut.1)

-- a number begins with a digit
pub number_begins : (n : ℕ) (t : List ℕ) → n < 2 ^ 64 → (d : ℕ) × (more : List ℕ) × (decimal n ++ t ≡ d ∷ more) × (is_digit d ≡ true)
number_begins n t lt = of (decimal n) (decimal_is_IsNumeral n lt).0.0 (decimal_digits n lt)
  where
    of : (ds : List ℕ) → 0 < length ds → list_all is_digit ds ≡ true → (d : ℕ) × (more : List ℕ) × (ds ++ t ≡ d ∷ more) × (is_digit d ≡ true)
    of [] some all = absurd (omega (arith, some))
    of (d ∷ ds) some all = (d, ds ++ t, refl, (and_parts (is_digit d) (list_all is_digit ds) all).0)
