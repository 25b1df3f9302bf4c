-- The steps of a path, where it is cut at its first dot.
use Rattle.std.proofs.Common.{◌≡◌, ◌≢◌, ℕ, suc, ◌<◌, Bool, true, false, eqb, List, [], ◌∷◌, ◌++◌, length, get_or, refl, ap, arith}
use Rattle.std.proofs.lemmas.Bool.{eqb-true}
use Rattle.mm_bson.specs.Path.{names, with_first}
use Rattle.mm_bson.specs.Spelling.{HasNoZero}
use Rattle.std.specs.Prelude.{◌&&◌}
use Rattle.std.specs.Str.{bytes_eq}
use Rattle.mm_update.specs.Paths.{leads}

abbrev pub HasNoDot : List ℕ → Type 0
HasNoDot name = (i : ℕ) → i < length name → get_or name i 0 ≢ 46

behind_first : (b : ℕ) (name : List ℕ) → HasNoDot (b ∷ name) → HasNoDot name
behind_first b name h i lt = h (suc i) (omega arith)

no_dot : (b : ℕ) (name : List ℕ) → HasNoDot (b ∷ name) → eqb b 46 ≡ false
no_dot b name h = by (eqb b 46) refl
  where
    by : (d : Bool) → eqb b 46 ≡ d → d ≡ false
    by true e = absurd (h 0 (omega arith) (eqb-true b 46 e))
    by false e = refl

pub names-cut : (name rest : List ℕ) → HasNoDot name → names (name ++ 46 ∷ rest) ≡ name ∷ names rest
names-cut [] rest h = refl
names-cut (b ∷ name) rest h = rw (no_dot b name h) (ap (with_first b) (names-cut name rest (behind_first b name h)))

pub names-whole : (path : List ℕ) → HasNoDot path → names path ≡ path ∷ []
names-whole [] h = refl
names-whole (b ∷ path) h = rw (no_dot b path h) (ap (with_first b) (names-whole path (behind_first b path h)))

pub HasNoZero-front : (a b : List ℕ) → HasNoZero (a ++ b) → HasNoZero a
HasNoZero-front [] b h = tt
HasNoZero-front (x ∷ a) b h = (h.0, HasNoZero-front a b h.1)

pub HasNoZero-back : (a b : List ℕ) → HasNoZero (a ++ b) → HasNoZero b
HasNoZero-back [] b h = h
HasNoZero-back (x ∷ a) b h = HasNoZero-back a b h.1

-- a path has a step
pub some_step : (path : List ℕ) → (first : List ℕ) × (others : List (List ℕ)) × (names path ≡ first ∷ others)
some_step [] = ([], [], refl)
some_step (b ∷ path) = by (eqb b 46) refl (some_step path)
  where
    by : (d : Bool) → eqb b 46 ≡ d → ((first : List ℕ) × (others : List (List ℕ)) × (names path ≡ first ∷ others)) → (first : List ℕ) × (others : List (List ℕ)) × (names (b ∷ path) ≡ first ∷ others)
    by true e later = ([], names path, rw e refl)
    by false e later = (b ∷ later.0, later.1, rw (e, later.2) refl)

pub leads-short : (a b rest : List ℕ) → leads (a ∷ names rest) (b ∷ []) ≡ false
leads-short a b rest =
    let some = some_step rest in
    rw some.2 (by (bytes_eq a b))
  where
    by : (d : Bool) → (d && false) ≡ false
    by true = refl
    by false = refl
